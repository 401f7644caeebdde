-- A term field: what comes after its printable bytes has to be zeros. Assumes nothing.
use Rattle.std.proofs.Common.{◌≡◌, ℕ, suc, ◌+◌, Bool, true, false, cond, ◌&&◌, eqb, List, [], ◌∷◌, drop, refl, ap, ◌∙◌, arith}
use Rattle.std.proofs.lemmas.List.Recursion.{same_from_clauses}
use Rattle.std.specs.List.{list_all, prefix_len}
use Rattle.kinds.specs.Rules.{is_printable, printable_then_zeros, zeros}

abbrev pub is_zero : ℕ → Bool
is_zero b = eqb b 0

all_zero : (bs : List ℕ) → list_all is_zero bs ≡ zeros bs
all_zero bs = same_from_clauses (list_all is_zero) zeros (λ b rest. is_zero b && rest) refl (λ _ _. refl) (λ _ _. refl) bs

-- the byte in front is printable, or all from it on have to be zeros
past : (printable : Bool) (b : ℕ) (bs : List ℕ) (n : ℕ) →
    list_all is_zero (drop (cond printable (1 + n) 0) (b ∷ bs)) ≡ cond printable (list_all is_zero (drop n bs)) (zeros (b ∷ bs))
past true b bs n =
    let next : 1 + n ≡ suc n = omega arith in
    ap (λ k. list_all is_zero (drop k (b ∷ bs))) next
past false b bs n = all_zero (b ∷ bs)

pub zeros_after_printable : (bs : List ℕ) → list_all is_zero (drop (prefix_len is_printable bs) bs) ≡ printable_then_zeros bs
zeros_after_printable [] = refl
zeros_after_printable (b ∷ bs) =
    past (is_printable b) b bs (prefix_len is_printable bs) ∙
    ap (λ rest. cond (is_printable b) rest (zeros (b ∷ bs))) (zeros_after_printable bs)
