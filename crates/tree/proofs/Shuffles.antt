-- Shuffled lists one after the other. Assumes nothing.
use Rattle.std.proofs.Common.{List, [], ◌∷◌, ◌++◌, sym, refl, subst, arith}
use Rattle.std.specs.List.Sorted.{IsPermutation}
use Rattle.std.proofs.lemmas.List.{append-nil}
use Rattle.std.proofs.lemmas.List.Sorted.{IsPermutation-refl, IsPermutation-cons, IsPermutation-swap, IsPermutation-trans}

-- an element put behind some others
pub shuffled_middle : {X : Type 0} (x : X) (xs ys : List X) → IsPermutation (x ∷ (xs ++ ys)) (xs ++ x ∷ ys)
shuffled_middle x [] ys = IsPermutation-refl (x ∷ ys)
shuffled_middle x (y ∷ xs) ys =
    IsPermutation-trans _ (y ∷ x ∷ (xs ++ ys)) _ (IsPermutation-swap _ _ 0 1 (omega arith) (omega arith) refl) (IsPermutation-cons y _ _ (shuffled_middle x xs ys))

pub shuffled_append_right : {X : Type 0} (front xs ys : List X) → IsPermutation xs ys → IsPermutation (front ++ xs) (front ++ ys)
shuffled_append_right [] xs ys h = h
shuffled_append_right (x ∷ front) xs ys h = IsPermutation-cons x _ _ (shuffled_append_right front xs ys h)

-- two parts change places
pub shuffled_exchange : {X : Type 0} (xs ys : List X) → IsPermutation (xs ++ ys) (ys ++ xs)
shuffled_exchange [] ys = subst (IsPermutation ys) (sym (append-nil ys)) (IsPermutation-refl ys)
shuffled_exchange (x ∷ xs) ys = IsPermutation-trans _ (x ∷ (ys ++ xs)) _ (IsPermutation-cons x _ _ (shuffled_exchange xs ys)) (shuffled_middle x ys xs)

pub shuffled_append : {X : Type 0} (xs xs' ys ys' : List X) → IsPermutation xs xs' → IsPermutation ys ys' → IsPermutation (xs ++ ys) (xs' ++ ys')
shuffled_append xs xs' ys ys' h k =
    IsPermutation-trans _ (ys ++ xs) _ (shuffled_exchange xs ys)
    (IsPermutation-trans _ (ys ++ xs') _ (shuffled_append_right ys xs xs' h)
    (IsPermutation-trans _ (xs' ++ ys) _ (shuffled_exchange ys xs') (shuffled_append_right xs' ys ys' k)))
