-- The whole plan: what is allowed, and what the table and the work area hold. Assumes nothing.
use Rattle.std.proofs.Common.{◌≡◌, ℕ, ◌+◌, ◌≤◌, true, List, ◌++◌, map, length, drop, ap, ◌∙◌, zero-add, arith}
use lib.Count.{ones}
use lib.Lanes.{mask_l as mask_of}
use lib.Seq.{sets}
use Rattle.std.specs.List.{range_with_len}
use Rattle.std.proofs.lemmas.List.FromFn.{length-range_with_len}
use Rattle.std.proofs.lemmas.List.Edits.{sets-eq}
use Rattle.std.proofs.ByRecursion.{All-weaker}
use Rattle.std.proofs.lemmas.List.{length-map}
use Rattle.std.proofs.lemmas.Bool.Decides.{nat_tests}
use Rattle.tree.specs.Tree.{is_active, among_earliest, sections}
use Rattle.tree.proofs.Cutting.{length_cut}
use Rattle.tree.proofs.Forest.{length-numbered}
use Rattle.tree.proofs.Nodes.{all_nodes}
use Rattle.tree.proofs.Sections.{active_in_block}
use Rattle.planner.specs.declared.row.Row.{Row}
use Rattle.planner.specs.Bounding.{Allowed}
use Rattle.planner.specs.Drawing.{rank_before}
use Rattle.planner.specs.Plan.{plannable, rank_tree, overwritten, MaskTellsSections}
use Rattle.planner.specs.Rows.{row_of}
use Rattle.planner.proofs.Apart.{distinct_counting}
use Rattle.planner.proofs.Choosing.{all_unit}
use Rattle.planner.proofs.Filling.{ones_marks}
use Rattle.planner.proofs.Order.{strict}
use Rattle.planner.proofs.Planning.{subtree_few}

-- settings that are allowed, and room enough
pub fits_plannable : (n alpha rho places rows : ℕ) → Allowed alpha rho → n ≤ 2000 → n ≤ places → n ≤ rows → plannable n alpha rho places rows ≡ true
fits_plannable n alpha rho places rows allowed few some_places some_rows = grind (arith, nat_tests, allowed)

module _ (ps : List ℕ) (alpha rho : ℕ) (allowed : Allowed alpha rho) where
  pub rank_tree_few : length (rank_tree ps alpha rho) ≤ length ps
  rank_tree_few =
      let few = subtree_few ps alpha rho allowed 0 1 (range_with_len 0 (length ps)) (distinct_counting 0 (length ps)) in
      omega (arith, length-range_with_len 0 (length ps))

  pub rows_overwritten : (measures : List ℕ) (table : List Row) → length ps ≤ length table → sets table 0 (map (row_of measures) (rank_tree ps alpha rho)) ≡ overwritten (map (row_of measures) (rank_tree ps alpha rho)) table
  rows_overwritten measures table enough =
      let rows = map (row_of measures) (rank_tree ps alpha rho) in
      sets-eq rows table 0 (omega (arith, rank_tree_few, length-map (rank_tree ps alpha rho) (row_of measures))) ∙ ap (λ n. rows ++ drop n table) (zero-add (length rows))

  pub mask_tells : MaskTellsSections ps alpha rho
  mask_tells =
      all_nodes (strict ps) alpha rho allowed.some (λ node. ones (mask_of node.active) + 1 ≡ length node.sections)
      (λ below parent k xs some all apart. omega (
        arith,
        ones_marks (among_earliest (rank_before ps) alpha xs) (is_active (rank_before ps) alpha rho xs) xs (All-weaker (λ _. Unit {0}) _ (λ x _. active_in_block (rank_before ps) alpha rho xs x) xs (all_unit xs)),
        length-numbered below (k + 1) (sections (rank_before ps) alpha rho xs),
        length_cut (is_active (rank_before ps) alpha rho xs) (among_earliest (rank_before ps) alpha xs) xs,
      ))
      (length (range_with_len 0 (length ps))) 0 1 (range_with_len 0 (length ps)) (all_unit (range_with_len 0 (length ps))) (distinct_counting 0 (length ps))
