-- A block is written exactly if there is nothing to refuse it for. Assumes nothing.
use Rattle.std.proofs.Common.{◌≡◌, ℕ, Bool, true, false, cond, ◌&&◌, not, leb, ltb, List, [], ◌∷◌, Option, Some, None, refl, sym, ap, ◌∙◌, arith}
use lib.Count.{ones}
use Rattle.std.specs.List.{find}
use Rattle.std.specs.Option.{option_map, is_none}
use Rattle.std.proofs.Math.Bool.{not-not}
use Rattle.std.proofs.lemmas.Bool.Decides.{nat_tests}
use Rattle.kinds.specs.Kind.{Kind}
use Rattle.planner.specs.declared.row.Row.{Row}
use Rattle.image.specs.Reading.{every}
use Rattle.image.specs.Refusals.{fault_if, first_of}
use Rattle.image.specs.Settings.{alpha_fits}
use Rattle.rendering.specs.declared.fault.BlockFault.TheVariants.{NoMessage}
use Rattle.rendering.specs.Refusals.{block_refusal}
use Rattle.planner.specs.Rows.{ranks_of}
use Rattle.rendering.specs.Rendered.{in_table, renderable}

-- all pass, if the first that does not is none
none_fails : {X : Type 0} (test : X → Bool) (xs : List X) → every test xs ≡ is_none (find (λ x. not (test x)) xs)
none_fails test [] = refl
none_fails test (x ∷ xs) = first_fails (test x) (none_fails test xs)
  where
    first_fails : (t : Bool) → every test xs ≡ is_none (find (λ y. not (test y)) xs) → (t && every test xs) ≡ is_none (cond (not t) (Some x) (find (λ y. not (test y)) xs))
    first_fails true others = others
    first_fails false others = refl

-- a test that passes leaves the refusal to the others
one_more : {E : Type 0} (t against : Bool) (e : E) (rest : Bool) (others : List (Option E)) → t ≡ not against → rest ≡ is_none (first_of others) → (t && rest) ≡ is_none (first_of (fault_if against e ∷ others))
one_more t true e rest others is same = ap (λ b. b && rest) is
one_more t false e rest others is same = ap (λ b. b && rest) is ∙ same

-- the last of the list is the fault for a rank, if there is one
alone : (rank : Option ℕ) → is_none rank ≡ is_none (first_of (option_map NoMessage rank ∷ []))
alone None = refl
alone (Some rank) = refl

-- at most, if not more
at_most : (a b : ℕ) → leb a b ≡ not (ltb b a)
at_most a b = grind (arith, nat_tests)

pub renders : (kind : Kind) (alpha : ℕ) (table : List ℕ) (row : Row) → renderable kind alpha table row ≡ is_none (block_refusal kind alpha table row)
renders kind alpha table row =
    one_more (alpha_fits kind.width alpha) _ _ _ _ (sym (not-not (alpha_fits kind.width alpha)))
    (one_more (leb row.count alpha) _ _ _ _ (at_most row.count alpha)
    (one_more (leb (ones row.mask) alpha) _ _ _ _ (at_most (ones row.mask) alpha)
    (none_fails (in_table kind table) (ranks_of row) ∙ alone _)))
