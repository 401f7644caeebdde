-- What the steps of planning a block leave to the next. Assumes nothing.
use Rattle.std.specs.Prelude.{◌≡◌, ℕ, ◌<◌, ◌≤◌, Bool, cond, ◌⊎◌, List, [], ◌∷◌, ◌++◌, map, length, take, drop, filter, ◌==◌, slice_index}
use Rattle.std.specs.List.{ContainsAt as Has, flat_map}
use Rattle.tree.specs.Tree.{Node, drawn_before, cut}
use Rattle.planner.specs.declared.bounds.Bounds.{Bounds}
use Rattle.planner.specs.declared.row.SectionRow.{SectionRow}
use Rattle.planner.specs.Bounding.{in_block, separates}

-- the first n of `chosen` are ranks of xs, and before the one at place j just j of xs are drawn
abbrev pub Earliest : (before : ℕ → ℕ → Bool) (xs : List ℕ) (n : ℕ) (chosen : List ℕ) → Type 0
Earliest before xs n chosen = (j : ℕ) → j < n → Has xs (slice_index chosen j) × (drawn_before before xs (slice_index chosen j) ≡ j)

-- what of xs the block holds
abbrev pub held_by : List ℕ → Bounds → List ℕ → List ℕ
held_by priorities b xs = filter (in_block priorities b) xs

-- the node of the block over xs, before its sections are known
abbrev pub root_alone : List ℕ → Bounds → (parent : ℕ) → List ℕ → Node ℕ
root_alone priorities b parent xs =
    record {
      parent = parent;
      entries = held_by priorities b xs;
      active = map (separates priorities b) (held_by priorities b xs);
      weight = length xs;
      sections = [];
    }

-- a node with one more entry, to the right of the others
abbrev pub with_entry : Node ℕ → (rank : ℕ) → (active : Bool) → Node ℕ
with_entry node rank active =
    record {
      parent = node.parent;
      entries = node.entries ++ rank ∷ [];
      active = node.active ++ active ∷ [];
      weight = node.weight;
      sections = node.sections;
    }

-- xs, the rest of a list, cut into sections
abbrev pub cut_by : List ℕ → Bounds → List ℕ → List (List ℕ)
cut_by priorities b xs = cut (separates priorities b) (in_block priorities b) xs

-- how many of xs are left for the sections
abbrev pub left_by : List ℕ → Bounds → List ℕ → ℕ
left_by priorities b xs = length (flat_map (λ s. s) (cut_by priorities b xs))

-- the row of a section of n ranks, whose block has the next number if there are any
abbrev pub section_from : (next n measure : ℕ) → SectionRow
section_from next n measure = record { block = cond (n == 0) 0 next; weight = n; measure = measure }

-- zs is xs with the first section moved to the front of it, where it takes up `count` places; the other sections, if any, are
-- those of xs from `end` on, which stands as it stood; it ends with xs if there are none
pub record FirstSection (priorities : List ℕ) (b : Bounds) (xs zs : List ℕ) (count end : ℕ) : Type 0 where
  pub sections : ((cut_by priorities b xs ≡ take count zs ∷ []) × (end ≡ length xs)) ⊎ (cut_by priorities b xs ≡ take count zs ∷ cut_by priorities b (drop end xs))
  pub rest : drop end zs ≡ drop end xs
  pub behind : count ≤ end
  pub within : end ≤ length xs
