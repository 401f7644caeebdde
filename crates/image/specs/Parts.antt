-- The messages and the sections of a block that are still to come, where they are gone through in order. Assumes nothing.
use Rattle.std.specs.Prelude.{ℕ, ◌-◌, List, map}
use Rattle.std.specs.List.{range_with_len}
use Rattle.kinds.specs.Kind.{Kind}
use Rattle.image.specs.declared.parts.Sections.{Sections}
use Rattle.image.specs.declared.parts.Slots.{Slots}
use Rattle.image.specs.declared.section.SectionFields.{SectionFields}
use Rattle.image.specs.Reading.{slot, section_at}
use Rattle.image.specs.View.{alpha_of, bytes_of}

module _ (kind : Kind) {K : Type 0} where
  -- the messages in the slots that are left
  abbrev pub messages_to_come : Slots K → List (List ℕ)
  messages_to_come s = map (slot kind (bytes_of s.block)) (range_with_len s.places.start (s.places.end - s.places.start))

  -- what the records that are left say
  abbrev pub sections_to_come : Sections K → List SectionFields
  sections_to_come s = map (section_at kind (alpha_of s.block) (bytes_of s.block)) (range_with_len s.places.start (s.places.end - s.places.start))
