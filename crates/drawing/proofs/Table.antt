-- The table follows its rule at all of its entries, by one test that is computed over the whole table. Assumes nothing.
use Rattle.std.proofs.Common.{◌≡◌, ℕ, zero, suc, ◌+◌, ◌*◌, ◌%◌, ◌^◌, ◌<◌, Bool, true, ◌&&◌, ◌||◌, eqb, ltb, refl, inl, inr, ⊎_elim}
use Rattle.std.proofs.lemmas.Bool.{ltb-true, eqb-true, and_parts, or_cases}
use Rattle.std.proofs.lemmas.Bool.Decides.{Decides-below_and}
use Rattle.drawing.specs.Field.{times, bit, affine, Inverse, Standard}
use Rattle.drawing.specs.Drawing.{table, substitute}

-- the byte whose affine image is r, bit by bit; that it is so is part of the test
undone_bits : ℕ → ℕ → ℕ
undone_bits zero r = 0
undone_bits (suc k) r = undone_bits k r + (bit r ((k + 2) % 8) + bit r ((k + 5) % 8) + bit r ((k + 7) % 8) + bit 5 k) % 2 * 2 ^ k

inverse : ℕ → ℕ → Bool
inverse x y = (eqb x 0 && eqb y 0) || eqb (times x y) 1

follows : ℕ → ℕ → ℕ → Bool
follows x y r = ltb y 256 && (inverse x y && eqb r (affine y))

entry : ℕ → Bool
entry x = follows x (undone_bits 8 (substitute x)) (substitute x)

entries : ℕ → Bool
entries zero = true
entries (suc n) = entry n && entries n

inverse_true : (x y : ℕ) → inverse x y ≡ true → Inverse x y
unfolding inverse
inverse_true x y t =
    ⊎_elim
    (λ z. let both = and_parts (eqb x 0) (eqb y 0) z in inl (eqb-true x 0 both.0, eqb-true y 0 both.1))
    (λ z. inr (eqb-true (times x y) 1 z))
    (or_cases (eqb x 0 && eqb y 0) (eqb (times x y) 1) t)

follows_true : (x y r : ℕ) → follows x y r ≡ true → Standard x r
unfolding follows
follows_true x y r t =
    let first = and_parts (ltb y 256) (inverse x y && eqb r (affine y)) t in
    let second = and_parts (inverse x y) (eqb r (affine y)) first.1 in
    (y, ltb-true y 256 first.0, inverse_true x y second.0, eqb-true r (affine y) second.1)

tested : entries 256 ≡ true
unfolding entries entry follows inverse undone_bits substitute table
tested = refl

pub table_standard : (x : ℕ) → x < 256 → Standard x (substitute x)
unfolding entry entries
table_standard x lt =
    follows_true x (undone_bits 8 (substitute x)) (substitute x)
    ((Decides-below_and entry (λ k. entry k ≡ true) entries (λ k. (λ t. t, λ t. t)) refl (λ n. refl) 256).0 tested x lt)
