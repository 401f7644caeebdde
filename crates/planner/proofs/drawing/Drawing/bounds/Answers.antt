use Rattle.std.proofs.Common.{◌≡◌, ◌-◌, ◌≤◌, min, length, ap, arith}
use Rattle.tree.specs.Tree.{fan_out}
use Rattle.planner.proofs.Choosing.{block_told, active_told, last_taken}
use Rattle.planner.proofs.Fan.{fan_within}
use Rattle.planner.proofs.Order.{strict}
use Rattle.planner.proofs.drawing.Drawing.bounds.Goals as goal

pub returns-clause-block : goal.returns-clause-block
returns-clause-block g c = block_told (strict c.args.self.now.priorities) c.args.ranks.now c.args.settings.alpha c.earliest-chosen.result c.earliest-chosen.ensures c.min.result c.min.ensures (omega arith)

pub returns-clause-active : goal.returns-clause-active
returns-clause-active g c =
    let ps = c.args.self.now.priorities in
    let xs = c.args.ranks.now in
    let alpha = c.args.settings.alpha in
    let chosen = c.earliest-chosen.result in
    let k = c.fan_out-separators.result - 1 in
    let separators : k ≡ fan_out alpha c.args.settings.rho (length xs) - 1 = ap (λ n. n - 1) c.fan_out-separators.ensures in
    let within : k ≤ min alpha (length xs) = omega (arith, fan_within alpha c.args.settings.rho (length xs) c.args.settings.allowed.shares) in
    rw separators at (active_told (strict ps) xs alpha chosen c.earliest-chosen.ensures k c.copied.result within (rw (c.copied.ensures, c.last.ensures.value) (last_taken k chosen (omega arith))))
