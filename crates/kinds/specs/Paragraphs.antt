-- The kind of paragraphs. A message has: place 0 to 3, origin office 4, sender office 5, state 6, lines 7, stamp 8 to 11,
-- text number 12 to 15. Assumes nothing.
use Rattle.std.specs.Prelude.{ℕ, Bool, List, [], ◌∷◌, Option}
use Rattle.kinds.specs.Kind.{Kind}
use Rattle.layout.specs.Layout.{byte_at, number_at, by_fields, first_invalid}
use Rattle.kinds.specs.Rules.{is_office, is_state, lines_fit, text_fits}
use Rattle.layout.specs.declared.Field.{Field}
use Rattle.layout.specs.declared.Field.TheVariants.{Byte, Number}

-- each field that may be invalid, by its offset, and whether it is valid; any place and any stamp is
abbrev pub paragraph_tests : List ℕ → List (ℕ × Bool)
paragraph_tests m =
    (4, is_office (byte_at m 4)) ∷
    (5, is_office (byte_at m 5)) ∷
    (6, is_state (byte_at m 6)) ∷
    (7, lines_fit (byte_at m 6) (byte_at m 7)) ∷
    (12, text_fits (byte_at m 6) (number_at m 12)) ∷
    []

abbrev pub paragraph_invalid : List ℕ → Option ℕ
paragraph_invalid m = first_invalid (paragraph_tests m)

-- place, then origin
abbrev pub paragraph_key : List Field
paragraph_key = Number 0 ∷ Byte 4 ∷ []

-- state, then stamp, sender, lines, text
abbrev pub paragraph_rank : List Field
paragraph_rank = Byte 6 ∷ Number 8 ∷ Byte 5 ∷ Byte 7 ∷ Number 12 ∷ []

-- the measure is the lines
abbrev pub paragraphs : Kind
paragraphs =
    record {
      number = 1;
      width = 16;
      key_width = 5;
      invalid = paragraph_invalid;
      measured = λ m. byte_at m 7;
      key_order = by_fields paragraph_key;
      rank_order = by_fields paragraph_rank;
    }
