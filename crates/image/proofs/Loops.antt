-- A test of each element of a list. Assumes nothing.
use Rattle.std.proofs.Common.{◌≡◌, Bool, true, ◌&&◌, List, [], ◌∷◌, refl}
use Rattle.std.specs.List.{AllByRecursion, list_all}
use Rattle.std.proofs.lemmas.List.Recursion.{same_from_clauses}
use Rattle.std.proofs.lemmas.Bool.{and_from}
use Rattle.image.specs.Reading.{every}

-- a test of each is that of a chain's `all`
pub every_is : {X : Type 0} (test : X → Bool) (xs : List X) → every test xs ≡ list_all test xs
every_is test = same_from_clauses (every test) (list_all test) (λ x rest. test x && rest) refl (λ _ _. refl) (λ _ _. refl)

-- and the other way round
pub every_true : {X : Type 0} (test : X → Bool) (xs : List X) → AllByRecursion (λ x. test x ≡ true) xs → every test xs ≡ true
every_true test [] passes = refl
every_true test (x ∷ xs) passes = and_from _ _ passes.0 (every_true test xs passes.1)
