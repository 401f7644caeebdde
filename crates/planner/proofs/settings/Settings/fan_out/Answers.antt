use Rattle.std.proofs.Common.{arith}
use Rattle.std.proofs.lemmas.Int.{clamps}
use Rattle.planner.proofs.Fan.{rounded_up}
use Rattle.planner.proofs.settings.Settings.fan_out.Goals as goal

pub returns : goal.returns
returns c = rw (← c.saturating_sub.ensures) (omega (arith, clamps, rounded_up c.saturating_sub.result c.args.self.rho c.args.self.allowed.shares))
