use Rattle.planner.specs.Bounding.{in_block, separates}
use Rattle.planner.proofs.Gathering.{Gathering, Summed}
use Rattle.planner.proofs.drawing.Drawing.gather_section.Given as goal

abbrev pub invariant-loop-i : goal.invariant-loop-i
invariant-loop-i g l =
    Gathering (separates l.self.priorities l.bounds) (in_block l.self.priorities l.bounds) l.initial.ranks l.ranks l.length l.i × Summed l.self.measures l.ranks l.length l.measure
