-- Lists with no element twice. Assumes nothing.
use Rattle.std.proofs.Common.{◌≡◌, ℕ, zero, suc, ◌+◌, ◌<◌, List, [], ◌∷◌, length, get_or, take, drop, sym, ◌∙◌, arith}
use Rattle.std.specs.List.{ContainsAt as Has, AllByRecursion, range_with_len}
use Rattle.std.proofs.ByRecursion.{All-get_or}
use Rattle.std.proofs.lemmas.List.{get_or-take, length-take}
use Rattle.tree.specs.Laws.{Distinct}

-- two places have different elements
pub distinct_places : (xs : List ℕ) (j i : ℕ) → Distinct xs → j < i → i < length xs → get_or xs j 0 ≡ get_or xs i 0 → ⊥
distinct_places [] j i apart less within same = omega arith
distinct_places (x ∷ xs) j zero apart less within same = omega arith
distinct_places (x ∷ xs) zero (suc i) apart less within same = All-get_or (λ y. x ≡ y → ⊥) xs i 0 (omega arith) apart.0 same
distinct_places (x ∷ xs) (suc j) (suc i) apart less within same = distinct_places xs j i apart.1 (omega arith) (omega arith) same

-- the element at place i is none of those before it
pub distinct_front : (xs : List ℕ) (i : ℕ) → Distinct xs → i < length xs → (y : ℕ) → Has (take i xs) y → y ≡ get_or xs i 0 → ⊥
distinct_front xs i apart within y (k, below, at) same =
    let less : k < i = omega (arith, length-take i xs) in
    distinct_places xs k i apart less within (sym (get_or-take i xs k 0 less) ∙ at 0 ∙ same)

pub distinct_drop : {X : Type 0} (n : ℕ) (xs : List X) → Distinct xs → Distinct (drop n xs)
distinct_drop zero xs apart = apart
distinct_drop (suc n) [] apart = tt
distinct_drop (suc n) (x ∷ xs) apart = distinct_drop n xs apart.1

-- numbers counted up are different
counting_above : (a b n : ℕ) → a < b → AllByRecursion (λ y. a ≡ y → ⊥) (range_with_len b n)
counting_above a b zero h = tt
counting_above a b (suc n) h = (λ e. omega arith, counting_above a (b + 1) n (omega arith))

pub distinct_counting : (a n : ℕ) → Distinct (range_with_len a n)
distinct_counting a zero = tt
distinct_counting a (suc n) = (counting_above a (a + 1) n (omega arith), distinct_counting (a + 1) n)
