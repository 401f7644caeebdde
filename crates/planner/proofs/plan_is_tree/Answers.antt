use Rattle.planner.proofs.Carried.{plan_is_tree}
use Rattle.planner.proofs.plan_is_tree.Goals as goal

pub returns : goal.returns
returns g c = plan_is_tree _
