-- Bytes, and numbers written in several bytes with the lowest byte first. Assumes nothing.
use Rattle.std.specs.Prelude.{ℕ, zero, suc, ◌+◌, ◌-◌, ◌*◌, ◌/◌, ◌%◌, ◌<◌, List, [], ◌∷◌, ◌++◌, length, take, drop, replicate}
use Rattle.std.specs.List.{AllByRecursion}

-- each element is a byte: below 256
abbrev pub Bytes : List ℕ → Type 0
Bytes bs = AllByRecursion (λ b. b < 256) bs

-- the number that bytes write, the lowest byte first
abbrev pub number : List ℕ → ℕ
number [] = 0
number (b ∷ bs) = b + 256 * number bs

-- n written in k bytes, the lowest byte first; what lies above k bytes is left out
abbrev pub le : ℕ → ℕ → List ℕ
le zero n = []
le (suc k) n = n % 256 ∷ le k (n / 256)

-- the k elements from offset at on, or as many of them as there are
abbrev pub part : {X : Type 0} → (at k : ℕ) → List X → List X
part at k xs = take k (drop at xs)

-- a list filled up to n elements
abbrev pub filled : {X : Type 0} → (n : ℕ) (blank : X) → List X → List X
filled n blank xs = xs ++ replicate (n - length xs) blank
