-- The kind of index marks. A message has: term 0 to 15, place 16 to 19, origin office 20, sender office 21, state 22,
-- emphasis 23, stamp 24 to 27. Assumes nothing.
use Rattle.std.specs.Prelude.{ℕ, Bool, cond, List, [], ◌∷◌, ◌++◌, map, take, Option}
use Rattle.kinds.specs.Kind.{Kind}
use Rattle.layout.specs.Layout.{byte_at, by_fields, first_invalid}
use Rattle.kinds.specs.Rules.{is_office, is_state, is_set, is_term, emphasis_fits}
use Rattle.layout.specs.declared.Field.{Field}
use Rattle.layout.specs.declared.Field.TheVariants.{Byte, Folded, Number}

-- each field that may be invalid, by its offset, and whether it is valid; any place and any stamp is
abbrev pub mark_tests : List ℕ → List (ℕ × Bool)
mark_tests m =
    (0, is_term (take 16 m)) ∷
    (20, is_office (byte_at m 20)) ∷
    (21, is_office (byte_at m 21)) ∷
    (22, is_state (byte_at m 22)) ∷
    (23, emphasis_fits (byte_at m 22) (byte_at m 23)) ∷
    []

abbrev pub mark_invalid : List ℕ → Option ℕ
mark_invalid m = first_invalid (mark_tests m)

abbrev pub term_offsets : List ℕ
term_offsets = 0 ∷ 1 ∷ 2 ∷ 3 ∷ 4 ∷ 5 ∷ 6 ∷ 7 ∷ 8 ∷ 9 ∷ 10 ∷ 11 ∷ 12 ∷ 13 ∷ 14 ∷ 15 ∷ []

-- the terms without regard to case, then as they are, then place, then origin
abbrev pub mark_key : List Field
mark_key = map Folded term_offsets ++ (map Byte term_offsets ++ (Number 16 ∷ Byte 20 ∷ []))

-- state, then stamp, sender, emphasis
abbrev pub mark_rank : List Field
mark_rank = Byte 22 ∷ Number 24 ∷ Byte 21 ∷ Byte 23 ∷ []

-- the measure is 1 for a set, else 0
abbrev pub index_marks : Kind
index_marks =
    record {
      number = 2;
      width = 28;
      key_width = 21;
      invalid = mark_invalid;
      measured = λ m. cond (is_set (byte_at m 22)) 1 0;
      key_order = by_fields mark_key;
      rank_order = by_fields mark_rank;
    }
