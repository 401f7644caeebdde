use Rattle.std.proofs.Common.{sym, arith}
use Rattle.parcels.proofs.Opening.{length-after, refused_after}
use Rattle.parcels.proofs.items.test_items.Goals as goal

pub loop-preserved : goal.loop-preserved
loop-preserved c =
    let read = sym c.in-Some.ensures in
    (omega (arith, length-after c.args.width c.loop.rest.now _ read), refused_after c.loop.invariant.1 _ _ (omega arith) read)
