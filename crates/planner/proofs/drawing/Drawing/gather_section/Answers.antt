use Rattle.std.proofs.Common.{◌<◌, length, get_or, sym, refl, arith, rules}
use Rattle.planner.proofs.Gathering.{gathering_none, gathering_skip, gathering_more, summed_more}
use Rattle.planner.proofs.drawing.Drawing.gather_section.Goals as goal
use Rattle.planner.proofs.drawing.Drawing.gather_section.Goals.{then-not-holds, else-not-holds}

pub loop-i-init : goal.loop-i-init
loop-i-init g c = (gathering_none _ _ c.args.ranks.now, record { is = refl; small = omega arith })

pub loop-i-preserved : goal.loop-i-preserved
loop-i-preserved g c =
    let inside : c.loop-i.i < length c.loop-i.ranks = omega arith in
    let x = get_or c.loop-i.ranks c.loop-i.i 0 in
    elim c.if-not-holds.branch [
      | then-not-holds w ↦
          rw (w.ranks-is, w.length-is, w.measure-is) (
            gathering_more _ _ _ _ _ _ x 0 c.loop-i.invariant.0 inside refl (sym c.if-separates.ensures) (sym w.if-not-holds.ensures),
            summed_more c.args.self.now.measures c.loop-i.ranks c.loop-i.length c.loop-i.measure x w.from-measure.result (omega arith) (search rules) (omega arith) c.loop-i.invariant.1,
          )
      | else-not-holds w ↦
          rw (w.ranks-is, w.length-is, w.measure-is) (
            gathering_skip _ _ _ _ _ _ x 0 c.loop-i.invariant.0 inside refl (sym c.if-separates.ensures) (sym w.if-not-holds.ensures),
            c.loop-i.invariant.1,
          )
    ]
