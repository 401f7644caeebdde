use Rattle.std.proofs.Common.{◌<◌, refl, rules}
use Rattle.drawing.specs.Drawing.{table, substitute}
use Rattle.drawing.proofs.Table.{table_standard}
use Rattle.drawing.proofs.substitute.Goals as goal

pub returns : goal.returns
unfolding substitute table
returns c =
    let lt : c.args.x < 256 = search rules in
    record { value = refl; standard = table_standard c.args.x lt }
