-- What falls: the ranks left, and with as many ranks left the sections to come.
use Rattle.std.proofs.Common.{◌+◌, ◌*◌, length}
use Rattle.planner.specs.Steps.{cut_by, left_by}
use Rattle.planner.proofs.plan.Planning.+plan_block_plan_sections.Given as goal

abbrev pub decreases-plan_block : goal.decreases-plan_block
decreases-plan_block g l = 3 * length l.ranks.now

abbrev pub decreases-plan_sections : goal.decreases-plan_sections
decreases-plan_sections g l =
    let priorities = l.self.now.drawing.priorities in
    3 * left_by priorities l.place.bounds l.ranks.now + length (cut_by priorities l.place.bounds l.ranks.now)
