-- The plan over ranks, carried to the elements. Assumes nothing.
use Rattle.std.proofs.Common.{◌≡◌, ℕ, ◌<◌, map, length, get_or, sym, refl, ap, ◌∙◌, arith}
use Rattle.std.specs.List.{range_with_len, AllByRecursion}
use Rattle.std.proofs.lemmas.List.FromFn.{fill_by_all, get_or-range_with_len, length-range_with_len}
use Rattle.std.proofs.ByRecursion.{All-from_get_or}
use Rattle.std.proofs.lemmas.List.{length-map}
use Rattle.tree.specs.Tree.{nodes, tree}
use Rattle.tree.proofs.Mapping.{nodes-map}
use Rattle.planner.specs.Drawing.{rank_before}
use Rattle.planner.specs.Plan.{PlanIsTree}

-- numbers counted from 0 are below their number
pub all_counting : (m n : ℕ) → n ≡ m → AllByRecursion (λ i. i < m) (range_with_len 0 n)
all_counting m n same =
    All-from_get_or (λ i. i < m) (range_with_len 0 n) 0 (λ i h. let below : i < n = omega (arith, length-range_with_len 0 n) in rw (get_or-range_with_len 0 n i 0 below) (omega arith))

pub plan_is_tree : (X : Type 0) → PlanIsTree X
plan_is_tree X before priorities alpha rho xs d same keeps =
    let n = length priorities in
    let f = λ (i : ℕ). get_or xs i d in
    ap (tree before alpha rho) (fill_by_all f xs n d (sym same) (λ k h. refl))
    ∙ ap (λ m. nodes before alpha rho m 0 1 (map f (range_with_len 0 n))) (length-map (range_with_len 0 n) f)
    ∙ nodes-map f {P = λ i. i < length xs} (rank_before priorities) before keeps alpha rho (length (range_with_len 0 n)) 0 1 (range_with_len 0 n) (all_counting (length xs) n same)
