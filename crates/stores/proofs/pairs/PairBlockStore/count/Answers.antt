use Rattle.std.proofs.Common.{arith}
use Rattle.stores.specs.United.{length_united}
use Rattle.stores.proofs.pairs.PairBlockStore.count.Goals as goal

pub returns : goal.returns
returns g c =
    let p = c.args.self.now in
    let counted = length_united (g.A.BlockStore.blocks p.first) (g.B.BlockStore.blocks p.second) in
    record { blocks = omega arith; below = omega arith }
