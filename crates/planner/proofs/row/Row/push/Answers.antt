use Rattle.std.proofs.Common.{◌<◌, true, false, length, refl, ap, arith}
use lib.Bits.{bit_or}
use Rattle.std.proofs.lemmas.Nat.{one_shl}
use Rattle.planner.proofs.Filling.{row_pushed, row_counts}
use Rattle.planner.proofs.row.Row.push.Goals as goal
use Rattle.planner.proofs.row.Row.push.Goals.{then-active, else-active}

pub returns : goal.returns
returns c =
    λ node paired is.
    let fits : length node.entries < 16 = omega (arith, c.requires, row_counts _ node is) in
    elim c.if-active.branch [
      | then-active w ↦ rw (w.self-is, w.if-active.true, c.from.ensures, is) (row_pushed node c.args.rank true _ paired fits (ap (bit_or _) (one_shl (length node.entries) 16 fits)))
      | else-active w ↦ rw (w.self-is, w.if-active.false, c.from.ensures, is) (row_pushed node c.args.rank false _ paired fits refl)
    ]
