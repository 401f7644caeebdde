use Rattle.std.proofs.Common.{min, take}
use Rattle.planner.specs.Drawing.{rank_before}
use Rattle.planner.specs.Steps.{Earliest}
use Rattle.planner.proofs.drawing.Drawing.earliest.Given as goal

abbrev pub invariant-loop-seen : goal.invariant-loop-seen
invariant-loop-seen g l = Earliest (rank_before l.self.priorities) (take l.seen l.ranks) (min l.limit l.seen) l.chosen
