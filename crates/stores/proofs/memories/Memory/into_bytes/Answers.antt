use Rattle.std.proofs.Common.{vec_items, sym, refl}
use Rattle.stores.specs.Stores.{run_count}
use Rattle.stores.specs.Cut.{joined_cut}
use Rattle.stores.proofs.memories.Memory.into_bytes.Goals as goal

pub returns : goal.returns
returns c =
    let bytes = vec_items c.args.self.bytes in
    record { owned = refl; bytes = sym (joined_cut (run_count bytes) bytes) }
