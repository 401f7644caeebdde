-- What any block means: the head and when it is wrong, the parts of a tree block and when it is malformed. Assumes nothing.
use Rattle.std.specs.Prelude.{ℕ, ◌+◌, ◌*◌, ◌/◌, ◌%◌, ◌^◌, Bool, true, cond, not, ◌&&◌, ◌||◌, List, [], ◌∷◌, map, is_some, Some, None, Option, ◌==◌, count_ones, nat_le, nat_lt, slice_index}
use Rattle.std.specs.List.{range_with_len}
use Rattle.std.specs.Ordering.{is_lt}
use Rattle.std.specs.Str.{bytes_eq}
use Rattle.fields.specs.Numbers.{number, part}
use Rattle.kinds.specs.Kind.{Kind}
use Rattle.image.specs.declared.head.Head.{Head}
use Rattle.image.specs.declared.section.SectionFields.{SectionFields}
use Rattle.image.specs.Image.{head_mark, head_version}
use Rattle.image.specs.Messages.{key_of}
use Rattle.image.specs.Settings.{settings_fit}

-- the number in the k bytes from an offset on
abbrev pub field : (at k : ℕ) → List ℕ → ℕ
field at k bytes = number (part at k bytes)

abbrev pub head_fields : List ℕ → Head
head_fields bytes =
    record {
      settings = record { alpha = slice_index bytes 6; rho = field 7 2 bytes; capacity = field 9 2 bytes };
      counts = record { entries = field 11 2 bytes; blocks = field 13 2 bytes; measure = field 15 4 bytes };
      chapter = field 19 4 bytes;
    }

-- the settings fit, there are no more entries than the capacity, and no more blocks than entries
abbrev pub head_sound : (width : ℕ) → Head → Bool
head_sound width head =
    settings_fit width head.settings && (nat_le head.counts.entries head.settings.capacity && nat_le head.counts.blocks head.counts.entries)

-- mark and version are those of a chapter
abbrev pub is_chapter : List ℕ → Bool
is_chapter bytes = bytes_eq (part 0 3 bytes) head_mark && field 3 2 bytes == head_version

-- mark, version and kind are right, and what the head says is sound
abbrev pub head_right : Kind → List ℕ → Bool
head_right kind bytes = is_chapter bytes && (slice_index bytes 5 == kind.number && head_sound kind.width (head_fields bytes))

abbrev pub read_head : Kind → List ℕ → Option Head
read_head kind bytes = cond (head_right kind bytes) (Some (head_fields bytes)) None

-- true of each
abbrev pub every : {X : Type 0} → (X → Bool) → List X → Bool
every test [] = true
every test (x ∷ xs) = test x && every test xs

abbrev pub entry_count : List ℕ → ℕ
entry_count bytes = slice_index bytes 0

abbrev pub mask : List ℕ → ℕ
mask bytes = field 2 2 bytes

-- the active separators, one more than which is the number of sections
abbrev pub section_count : List ℕ → ℕ
section_count bytes = count_ones (mask bytes) + 1

-- bit i of the mask
abbrev pub active_at : List ℕ → ℕ → Bool
active_at bytes i = mask bytes / 2 ^ i % 2 == 1

-- what the eight bytes of a section record say
abbrev pub section_fields : List ℕ → SectionFields
section_fields bytes = record { number = field 0 2 bytes; weight = field 2 2 bytes; measure = field 4 4 bytes }

-- section numbers of block b lead onward, to a block of the tree, or nowhere; a chapter has no more measure than 2,000 entries
-- of 1,000 each
abbrev pub section_sound : (u b : ℕ) → SectionFields → Bool
section_sound u b s = (s.number == 0 || (nat_lt b s.number && nat_le s.number u)) && nat_le s.measure 2000000

module _ (kind : Kind) where
  -- the message in slot i
  abbrev pub slot : List ℕ → ℕ → List ℕ
  slot bytes i = part (8 + i * kind.width) kind.width bytes

  -- the messages in the first m slots, where m is the number of entries
  abbrev pub slots : List ℕ → List (List ℕ)
  slots bytes = map (slot bytes) (range_with_len 0 (entry_count bytes))

  -- each key is below the next, the first of them after the key of `last`
  abbrev pub keys_rise_from : (last : List ℕ) → List (List ℕ) → Bool
  keys_rise_from last [] = true
  keys_rise_from last (m ∷ ms) = is_lt (kind.key_order (key_of kind last) (key_of kind m)) && keys_rise_from m ms

  abbrev pub keys_rise : List (List ℕ) → Bool
  keys_rise [] = true
  keys_rise (m ∷ ms) = keys_rise_from m ms

  abbrev pub message_valid : List ℕ → Bool
  message_valid m = not (is_some (kind.invalid m))

module _ (kind : Kind) (alpha : ℕ) where
  -- the record of section i
  abbrev pub section_at : List ℕ → ℕ → SectionFields
  section_at bytes i = section_fields (part (8 + alpha * kind.width + i * 8) 8 bytes)

  -- the records up to the fan-out
  abbrev pub sections_of : List ℕ → List SectionFields
  sections_of bytes = map (section_at bytes) (range_with_len 0 (section_count bytes))

  -- from 1 to alpha entries, of the right kind
  abbrev pub of_kind : List ℕ → Bool
  of_kind bytes = nat_le 1 (entry_count bytes) && (nat_le (entry_count bytes) alpha && slice_index bytes 1 == kind.number)

  -- block b of a tree of u blocks is well formed: from 1 to alpha entries, the right kind, valid messages with strictly rising
  -- keys, no mask bit past the entries, and sound sections
  abbrev pub well_formed : (u b : ℕ) → List ℕ → Bool
  well_formed u b bytes =
      of_kind bytes && (every (message_valid kind) (slots kind bytes) && (keys_rise kind (slots kind bytes) && (nat_lt (mask bytes) (2 ^ entry_count bytes) && every (section_sound u b) (sections_of bytes))))
