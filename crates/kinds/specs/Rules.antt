-- What the fields of paragraphs and index marks may hold. Assumes nothing.
use Rattle.std.specs.Prelude.{ℕ, Bool, true, false, cond, not, ◌&&◌, ◌||◌, List, [], ◌∷◌, ◌==◌, nat_le}

-- the number of a typesetting office
abbrev pub is_office : ℕ → Bool
is_office b = nat_le 1 b && nat_le b 250

-- the entry has been set
abbrev pub is_set : ℕ → Bool
is_set state = state == 1

-- the entry has been cut
abbrev pub is_cut : ℕ → Bool
is_cut state = state == 2

abbrev pub is_state : ℕ → Bool
is_state state = is_set state || is_cut state

-- a set paragraph has 1 to 200 lines, a cut one has none
abbrev pub lines_fit : ℕ → ℕ → Bool
lines_fit state lines = cond (is_set state) (nat_le 1 lines && nat_le lines 200) (lines == 0)

-- a set paragraph has any text number, a cut one has 0
abbrev pub text_fits : ℕ → ℕ → Bool
text_fits state text = is_set state || text == 0

-- a set index mark has the emphasis 0 or 1, a cut one has 0
abbrev pub emphasis_fits : ℕ → ℕ → Bool
emphasis_fits state emphasis = cond (is_set state) (nat_le emphasis 1) (emphasis == 0)

-- from the space to the tilde
abbrev pub is_printable : ℕ → Bool
is_printable b = nat_le 0x20 b && nat_le b 0x7e

abbrev pub zeros : List ℕ → Bool
zeros [] = true
zeros (b ∷ bs) = b == 0 && zeros bs

abbrev pub printable_then_zeros : List ℕ → Bool
printable_then_zeros [] = true
printable_then_zeros (b ∷ bs) = cond (is_printable b) (printable_then_zeros bs) (zeros (b ∷ bs))

-- printable and no space
abbrev pub starts_term : ℕ → Bool
starts_term b = is_printable b && not (b == 0x20)

-- at least one printable byte, the first no space, and after the last only zeros
abbrev pub is_term : List ℕ → Bool
is_term [] = false
is_term (b ∷ bs) = starts_term b && printable_then_zeros bs
