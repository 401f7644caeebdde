-- What a row of a plan says of a block. Assumes nothing.
use Rattle.std.specs.Prelude.{ℕ, List, map, length, take, sum_by, slice_index}
-- `mask_of flags`: the number whose bit i is set if flag i is
use Rattle.std.specs.Simd.Lanes.{mask_l as mask_of}
use Rattle.fields.specs.Numbers.{filled}
use Rattle.tree.specs.Tree.{Section, Node}
use Rattle.planner.specs.declared.row.Row.{Row}
use Rattle.planner.specs.declared.row.SectionRow.{SectionRow}

-- the sum of the measures of some ranks, by a list with the measure of each; past its end a rank measures nothing
abbrev pub measure_of : (measures : List ℕ) → List ℕ → ℕ
measure_of measures ranks = sum_by (λ i. slice_index measures i) ranks

abbrev pub section_row : (measures : List ℕ) → Section ℕ → SectionRow
section_row measures s = record { block = s.number; weight = length s.members; measure = measure_of measures s.members }

-- the row of an empty section, or of none
abbrev pub no_section : SectionRow
no_section = record { block = 0; weight = 0; measure = 0 }

-- the row of a node of at most 16 entries
abbrev pub row_of : (measures : List ℕ) → Node ℕ → Row
row_of measures node =
    record {
      parent = node.parent;
      count = length node.entries;
      entries = filled 16 0 node.entries;
      mask = mask_of node.active;
      weight = node.weight;
      sections = filled 17 no_section (map (section_row measures) node.sections);
    }

-- the ranks of a row's entries
abbrev pub ranks_of : Row → List ℕ
ranks_of row = take row.count row.entries
