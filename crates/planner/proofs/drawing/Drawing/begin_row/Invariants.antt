use Rattle.std.proofs.Common.{◌≡◌, [], length, take}
use Rattle.planner.specs.Bounding.{in_block, separates}
use Rattle.planner.specs.Rows.{row_of}
use Rattle.planner.proofs.Filling.{begun}
use Rattle.planner.proofs.drawing.Drawing.begin_row.Given as goal

abbrev pub invariant-loop-rank : goal.invariant-loop-rank
invariant-loop-rank g l =
    l.row ≡ row_of [] (begun (in_block l.self.priorities l.bounds) (separates l.self.priorities l.bounds) l.parent (length l.ranks) (take l.rank-index l.ranks))
