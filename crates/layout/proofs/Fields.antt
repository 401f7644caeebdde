-- Fields of a message: the step of an order by fields, of a list of tests. Assumes nothing.
use Rattle.std.proofs.Common.{◌≡◌, ℕ, not, Bool, true, false, cond, List, [], ◌∷◌, map, is_some, Some, Option, Ordering, Less, Equal, Greater, sym, refl, ap, ◌∙◌, ⊎_elim}
use Rattle.std.proofs.lemmas.Bool.{true≢false, cases_Bool, cond-true, cond-false}
use Rattle.std.specs.Ordering.{nat_cmp as compared}
use Rattle.std.specs.Ordering.{is_ne, ordering_then}
use Rattle.std.specs.List.{AllByRecursion, find}
use Rattle.std.specs.Option.{option_map, unwrap_or}
use Rattle.layout.specs.Layout.{by_fields, first_invalid, value}
use Rattle.layout.specs.declared.Field.{Field}

first_then : (order : Ordering) (orders : List Ordering) → unwrap_or (find is_ne (order ∷ orders)) Equal ≡ ordering_then order (unwrap_or (find is_ne orders) Equal)
first_then Less orders = refl
first_then Equal orders = refl
first_then Greater orders = refl

-- two messages compared by one field
abbrev pub by_field : (a b : List ℕ) → Field → Ordering
by_field a b field = compared (value a field) (value b field)

-- the first field by which two messages differ decides
pub first_decides : (fields : List Field) (a b : List ℕ) → unwrap_or (find is_ne (map (by_field a b) fields)) Equal ≡ by_fields fields a b
first_decides [] a b = refl
first_decides (field ∷ fields) a b =
    first_then (by_field a b field) (map (by_field a b) fields) ∙ ap (ordering_then (by_field a b field)) (first_decides fields a b)

failed : (passed : Bool) (at : ℕ) (rest : Option (ℕ × Bool)) →
    option_map (λ test. test.0) (cond (not passed) (Some (at, passed)) rest) ≡ cond passed (option_map (λ test. test.0) rest) (Some at)
failed true at rest = refl
failed false at rest = refl

-- the offset of the first test that has failed
pub first_failed : (tests : List (ℕ × Bool)) → option_map (λ test. test.0) (find (λ test. not test.1) tests) ≡ first_invalid tests
first_failed [] = refl
first_failed (test ∷ tests) = failed test.1 test.0 _ ∙ ap (λ rest. cond test.1 rest (Some test.0)) (first_failed tests)

-- no field is invalid: each test has passed
pub tests_passed : (tests : List (ℕ × Bool)) → is_some (first_invalid tests) ≡ false → AllByRecursion (λ test. test.1 ≡ true) tests
tests_passed [] h = tt
tests_passed (test ∷ tests) h =
    ⊎_elim (λ passed. (passed, tests_passed tests (sym (ap is_some (cond-true test.1 _ _ passed)) ∙ h)))
    (λ failed. absurd (true≢false (sym (ap is_some (cond-false test.1 _ _ failed)) ∙ h)))
    (cases_Bool test.1)
