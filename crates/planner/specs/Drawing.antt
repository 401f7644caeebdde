-- The drawing order of ranks, and what planning reads of the entries. A rank is a position in key order. Assumes nothing.
use Rattle.std.specs.Prelude.{ℕ, Bool, ◌&&◌, ◌||◌, List, ◌==◌, nat_lt, slice_index_or}

-- rank i is drawn before rank j: the smaller priority first, and of equal priorities the smaller rank
abbrev pub rank_before : List ℕ → ℕ → ℕ → Bool
rank_before priorities i j =
    let p = slice_index_or priorities i 0 in
    let q = slice_index_or priorities j 0 in
    nat_lt p q || (p == q && nat_lt i j)

-- what planning reads of the entries: the drawing priority and the measure of each rank
pub record Drawn : Type 0 where
  pub priorities : List ℕ
  pub measures : List ℕ
