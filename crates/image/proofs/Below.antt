-- The messages below a key, as a filter finds them: how many active separators, and what the messages measure. Assumes nothing.
use Rattle.std.proofs.Common.{◌≡◌, ℕ, zero, suc, ◌+◌, Bool, true, false, cond, List, [], ◌∷◌, map, length, refl, arith}
use Rattle.std.specs.List.{filter, range_with_len, sum_by}
use Rattle.std.specs.Ordering.{is_lt}
use Rattle.std.proofs.lemmas.List.Sums.{sum_by-cons}
use Rattle.kinds.specs.Kind.{Kind}
use Rattle.image.specs.Messages.{key_of}
use Rattle.image.specs.Walk.{separator_below, separators_below, measure_below}

-- one place more, counted if it passes
counted : (b : Bool) (i : ℕ) (others : List ℕ) (n : ℕ) → length others ≡ n → length (cond b (i ∷ others) others) ≡ cond b 1 0 + n
counted true i others n same = omega arith
counted false i others n same = omega arith

-- one element more, summed if it passes
summed : {X : Type 0} (b : Bool) (f : X → ℕ) (x : X) (others : List X) (n : ℕ) → sum_by f others ≡ n → sum_by f (cond b (x ∷ others) others) ≡ cond b (f x) 0 + n
summed true f x others n same = omega (arith, sum_by-cons f x others)
summed false f x others n same = omega arith

module _ (kind : Kind) (key : List ℕ) where
  pub separators_counted : (bytes : List ℕ) (f : ℕ → List ℕ) (i n : ℕ) → length (filter (λ j. separator_below kind key bytes j (f j)) (range_with_len i n)) ≡ separators_below kind key bytes i (map f (range_with_len i n))
  separators_counted bytes f i zero = refl
  separators_counted bytes f i (suc n) = counted (separator_below kind key bytes i (f i)) i _ _ (separators_counted bytes f (i + 1) n)

  abbrev pub below : List ℕ → Bool
  below m = is_lt (kind.key_order (key_of kind m) key)

  pub measures_below : (ms : List (List ℕ)) → sum_by kind.measured (filter below ms) ≡ measure_below kind key ms
  measures_below [] = refl
  measures_below (m ∷ ms) = summed (below m) kind.measured m _ _ (measures_below ms)
