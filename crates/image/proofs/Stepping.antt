-- The places of a block, gone through in order. Assumes nothing.
use Rattle.std.proofs.Common.{◌≡◌, ℕ, suc, ◌+◌, ◌-◌, ◌<◌, ◌∷◌, map, length, arith}
use Rattle.std.specs.List.{range_with_len}
use Rattle.std.proofs.lemmas.List.FromFn.{length-map-range_with_len}

-- a step: the first is given, and the others are left
pub first_of : {X : Type 0} (f : ℕ → X) (start end : ℕ) → start < end → map f (range_with_len start (end - start)) ≡ f start ∷ map f (range_with_len (start + 1) (end - (start + 1)))
first_of f start end more =
    let left : end - start ≡ suc (end - (start + 1)) = omega arith in
    rw left

-- as many are given as there are places
pub count_of : {X : Type 0} (f : ℕ → X) (n : ℕ) → length (map f (range_with_len 0 n)) ≡ n
count_of f = length-map-range_with_len f 0
