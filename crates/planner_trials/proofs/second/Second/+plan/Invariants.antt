use Rattle.planner_trials.proofs.second.Second.+plan.Given as goal

abbrev pub decreases-plan : goal.decreases-plan
decreases-plan g l = l.depth
