-- The part of a plan that belongs to a subtree. Assumes nothing.
use Rattle.std.specs.Prelude.{ℕ, ◌*◌, List, length, sum_by}
use Rattle.tree.specs.Tree.{Node, nodes}
use Rattle.planner.specs.declared.row.Row.{Row}
use Rattle.planner.specs.declared.row.SectionRow.{SectionRow}
use Rattle.planner.specs.Drawing.{rank_before}

-- the nodes of the subtree over xs, whose root has number k and stands below the block `parent`
abbrev pub subtree : (priorities : List ℕ) (alpha rho parent k : ℕ) → List ℕ → List (Node ℕ)
subtree priorities alpha rho parent k xs = nodes (rank_before priorities) alpha rho (length xs) parent k xs

-- the visits that planning counts for some blocks: three to each rank of a block's subtree, one for each pass over them
abbrev pub visits : List (Node ℕ) → ℕ
visits nodes = sum_by (λ node. 3 * node.weight) nodes

-- a row with its sections replaced
abbrev pub with_sections : Row → List SectionRow → Row
with_sections row sections =
    record {
      parent = row.parent;
      count = row.count;
      entries = row.entries;
      mask = row.mask;
      weight = row.weight;
      sections = sections;
    }
