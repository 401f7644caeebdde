-- Where a test divides a list, whose last element is asked first. Assumes nothing.
use Rattle.std.proofs.Common.{◌≡◌, ℕ, ◌+◌, ◌<◌, ◌≤◌, Bool, true, false, ◌⊎◌, List, [], ◌∷◌, ◌++◌, length, get_or, refl, inl, inr, arith}
use Rattle.std.specs.List.Sorted.{IsPartitionedBy, IsPartitionPoint}
use Rattle.std.proofs.lemmas.Bool.{cases_lt}
use Rattle.std.proofs.lemmas.List.{length-append, get_or_append_left, get_or_push}

module _ {X : Type 0} (p : X → Bool) (xs : List X) (x : X) (parted : IsPartitionedBy p (xs ++ x ∷ [])) where
  long : length (xs ++ x ∷ []) ≡ length xs + 1
  long = length-append xs (x ∷ [])

  -- without the last element it is divided too
  pub parted_front : IsPartitionedBy p xs
  parted_front i j d order below h =
      rw (← get_or_append_left xs (x ∷ []) d i (omega arith)) (parted i j d order (omega (arith, long)) (rw (get_or_append_left xs (x ∷ []) d j below) h))

  -- where the last passes, all do
  pub point_at_end : p x ≡ true → IsPartitionPoint (λ y. p y ≡ true) (λ y. p y ≡ false) (xs ++ x ∷ []) (length (xs ++ x ∷ []))
  point_at_end passed = (
    λ k d low below. parted k (length xs) d (omega (arith, long)) (omega (arith, long)) (rw (get_or_push xs x d (length xs) refl) passed),
    λ k d from below. absurd (omega (arith, long)),
  )

  -- where it fails, the others tell
  pub point_before : p x ≡ false → (i : ℕ) → i ≤ length xs → IsPartitionPoint (λ y. p y ≡ true) (λ y. p y ≡ false) xs i → IsPartitionPoint (λ y. p y ≡ true) (λ y. p y ≡ false) (xs ++ x ∷ []) i
  point_before failed i within point = (
    λ k d low below. rw (get_or_append_left xs (x ∷ []) d k (omega arith)) (point.0 k d low below),
    λ k d from below. behind k d from (omega (arith, long)) (cases_lt k (length xs)),
  )
    where
      behind : (k : ℕ) (d : X) → i ≤ k → k < length xs + 1 → (k < length xs) ⊎ (length xs ≤ k) → p (get_or (xs ++ x ∷ []) k d) ≡ false
      behind k d from below (inl inside) = rw (get_or_append_left xs (x ∷ []) d k inside) (point.1 k d from inside)
      behind k d from below (inr past) = rw (get_or_push xs x d k (omega arith)) failed
