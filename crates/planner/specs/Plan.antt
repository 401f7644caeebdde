-- The plan of some entries. Assumes nothing.
use Rattle.std.specs.Prelude.{◌≡◌, ℕ, ◌+◌, ◌<◌, Bool, cond, ◌&&◌, List, ◌++◌, map, length, get_or, drop, replicate, Some, None, Option, count_ones, nat_le, slice_index_or}
use Rattle.std.specs.Simd.Lanes.{mask_l as mask_of}
use Rattle.std.specs.List.{range_with_len, AllByRecursion}
use Rattle.tree.specs.Laws.{map_node}
use Rattle.tree.specs.Tree.{Node, tree}
use Rattle.planner.specs.declared.extent.Extent.{Extent}
use Rattle.planner.specs.declared.row.Row.{Row}
use Rattle.planner.specs.Drawing.{rank_before}
use Rattle.planner.specs.Rows.{row_of}
use Rattle.planner.specs.Subtrees.{visits}

-- n entries can be planned: alpha is 1 to 16, rho 1 to 2,000, n at most 2,000, and there is a place for each rank and each row
abbrev pub plannable : (n alpha rho places rows : ℕ) → Bool
plannable n alpha rho places rows = (nat_le 1 alpha && (nat_le alpha 16 && (nat_le 1 rho && nat_le rho 2000))) && (nat_le n 2000 && (nat_le n places && nat_le n rows))

-- the tree over the ranks of the entries, by their priorities
abbrev pub rank_tree : (priorities : List ℕ) (alpha rho : ℕ) → List (Node ℕ)
rank_tree priorities alpha rho = tree (rank_before priorities) alpha rho (range_with_len 0 (length priorities))

-- what a plan comes to
abbrev pub extent_of : List (Node ℕ) → Extent
extent_of nodes = record { blocks = length nodes; visits = visits nodes }

-- a list with its front overwritten
abbrev pub overwritten : {X : Type 0} → List X → List X → List X
overwritten front xs = front ++ drop (length front) xs

-- what planning answers, and what it leaves in a table and in a work area: none, and both as they were, if it cannot be done
module _ (priorities : List ℕ) where
  abbrev pub plan_answer : (alpha rho places rows : ℕ) → Option Extent
  plan_answer alpha rho places rows = cond (plannable (length priorities) alpha rho places rows) (Some (extent_of (rank_tree priorities alpha rho))) None

  abbrev pub plan_rows : (measures : List ℕ) (alpha rho places : ℕ) → List Row → List Row
  plan_rows measures alpha rho places table =
      cond (plannable (length priorities) alpha rho places (length table)) (overwritten (map (row_of measures) (rank_tree priorities alpha rho)) table) table

  abbrev pub plan_work : (alpha rho : ℕ) → List ℕ → (rows : ℕ) → List ℕ
  plan_work alpha rho work rows =
      cond (plannable (length priorities) alpha rho (length work) rows) (overwritten (replicate (length priorities) 0) work) work

-- in a row the ones of the mask are one fewer than the sections
abbrev pub MaskTellsSections : (priorities : List ℕ) (alpha rho : ℕ) → Type 0
MaskTellsSections priorities alpha rho = AllByRecursion (λ node. count_ones (mask_of node.active) + 1 ≡ length node.sections) (rank_tree priorities alpha rho)

-- the plan of any elements, in key order, is their tree: with priorities that draw their ranks as the elements are drawn, the tree
-- of the ranks is that of the elements, with each element in the place of its rank (d stands past the end)
abbrev pub PlanIsTree : Type 0 → Type 0
PlanIsTree X =
    (before : X → X → Bool) (priorities : List ℕ) (alpha rho : ℕ) (xs : List X) (d : X)
    → length priorities ≡ length xs
    → ((i j : ℕ) → i < length xs → j < length xs → before (slice_index_or xs i d) (slice_index_or xs j d) ≡ rank_before priorities i j)
    → tree before alpha rho xs ≡ map (map_node (λ i. get_or xs i d)) (rank_tree priorities alpha rho)
