-- Writing a number in bytes and reading it back. Assumes nothing.
use Rattle.std.proofs.Common.{◌≡◌, ℕ, zero, suc, ◌+◌, ◌-◌, ◌*◌, ◌/◌, ◌%◌, ◌^◌, ◌<◌, ◌≤◌, List, [], ◌∷◌, ◌++◌, length, get_or, take, drop, replicate, sym, refl, ap, ◌∙◌, ap₂, add-one, arith}
use native.Mathlib.Nat.{pow-succ'}
use Rattle.std.proofs.ByRecursion.{All-take, All-drop}
use Rattle.std.proofs.lemmas.List.{length-drop, length-take-le, take-append-drop, drop-drop}
use Rattle.fields.specs.Numbers.{Bytes, number, le, part, filled}

pub length-le : (k n : ℕ) → length (le k n) ≡ k
length-le zero n = refl
length-le (suc k) n = ap suc (length-le k (n / 256))

pub bytes_le : (k n : ℕ) → Bytes (le k n)
bytes_le zero n = tt
bytes_le (suc k) n = (omega arith, bytes_le k (n / 256))

pub number_lt : (bs : List ℕ) → Bytes bs → number bs < 256 ^ length bs
number_lt [] h = omega arith
number_lt (b ∷ bs) h = let rest = number_lt bs h.1 in omega (arith, pow-succ' 256 (length bs))

-- a number that fits k bytes is read back
pub number-le : (k n : ℕ) → n < 256 ^ k → number (le k n) ≡ n
number-le zero n h = omega arith
number-le (suc k) n h =
    let rest : number (le k (n / 256)) ≡ n / 256 = number-le k (n / 256) (omega (arith, pow-succ' 256 k)) in omega arith

-- bytes are written again
pub le-number : (bs : List ℕ) → Bytes bs → le (length bs) (number bs) ≡ bs
le-number [] h = refl
le-number (b ∷ bs) h =
    let low : (b + 256 * number bs) % 256 ≡ b = omega arith in
    let high : (b + 256 * number bs) / 256 ≡ number bs = omega arith in
    ap₂ ◌∷◌ low (ap (le (length bs)) high ∙ le-number bs h.1)

take-nil : {X : Type 0} (k : ℕ) → take {A = X} k [] ≡ []
take-nil zero = refl
take-nil (suc k) = refl

-- a field by its bytes: the first, and a field one byte shorter; what lies past the end counts as 0
pub number-part : (at k : ℕ) (bs : List ℕ) → number (part at (suc k) bs) ≡ get_or bs at 0 + 256 * number (part (at + 1) k bs)
number-part at k bs = rw add-one (from at k bs)
  where
    from : (at k : ℕ) (bs : List ℕ) → number (part at (suc k) bs) ≡ get_or bs at 0 + 256 * number (part (suc at) k bs)
    from zero k [] = simp take-nil
    from (suc at) k [] = simp take-nil
    from zero k (b ∷ bs) = refl
    from (suc at) k (b ∷ bs) = from at k bs

-- a byte of bytes, there or not
pub byte_lt : (bs : List ℕ) (i : ℕ) → Bytes bs → get_or bs i 0 < 256
byte_lt [] i h = omega arith
byte_lt (b ∷ bs) zero h = h.0
byte_lt (b ∷ bs) (suc i) h = byte_lt bs i h.1

-- a field of k bytes is below 256 ^ k
pub number-part-lt : (at k : ℕ) (bs : List ℕ) → Bytes bs → number (part at k bs) < 256 ^ k
number-part-lt at zero bs h = omega arith
number-part-lt at (suc k) bs h =
    let rest = number-part-lt (at + 1) k bs h in
    rw number-part (omega (arith, byte_lt bs at h, pow-succ' 256 k))

pub length_part : {X : Type 0} (at k : ℕ) (xs : List X) → at + k ≤ length xs → length (part at k xs) ≡ k
length_part at k xs within = length-take-le k (drop at xs) (simp length-drop (omega arith))

-- a field is written again
pub le-part : (at k : ℕ) (bs : List ℕ) → at + k ≤ length bs → Bytes bs → le k (number (part at k bs)) ≡ part at k bs
le-part at k bs within h =
    ap (λ n. le n (number (part at k bs))) (sym (length_part at k bs within)) ∙ le-number (part at k bs) (All-take _ k (drop at bs) (All-drop _ at bs h))

-- a list from an offset on: a part, and what lies after it
pub part_then : {X : Type 0} (at k : ℕ) (xs : List X) → drop at xs ≡ part at k xs ++ drop (at + k) xs
part_then at k xs = sym (take-append-drop k (drop at xs)) ∙ ap (λ l. part at k xs ++ l) (drop-drop k at xs)

number_zeros : (k : ℕ) → number (replicate k 0) ≡ 0
number_zeros zero = refl
number_zeros (suc k) = let rest = number_zeros k in omega arith

number_append : (bs cs : List ℕ) → number cs ≡ 0 → number (bs ++ cs) ≡ number bs
number_append [] cs h = h
number_append (b ∷ bs) cs h = let rest = number_append bs cs h in omega arith

-- zeros behind the last byte add nothing
pub number_filled : (n : ℕ) (bs : List ℕ) → number (filled n 0 bs) ≡ number bs
number_filled n bs = number_append bs (replicate (n - length bs) 0) (number_zeros (n - length bs))
