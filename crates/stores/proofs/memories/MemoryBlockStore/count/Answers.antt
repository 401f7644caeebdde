use Rattle.std.proofs.Common.{vec_items, arith}
use Rattle.stores.specs.Cut.{length_run}
use Rattle.stores.proofs.memories.MemoryBlockStore.count.Goals as goal

pub returns : goal.returns
returns c =
    let counted = length_run (vec_items c.args.self.now.bytes) in
    record { blocks = omega arith; bytes = omega arith }
