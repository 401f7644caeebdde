use Rattle.std.proofs.Common.{sym, refl}
use Rattle.stores.specs.Placed.{part_whole}
use Rattle.stores.proofs.shelves.Shelf.into_store.Goals as goal

pub returns : goal.returns
returns g c =
    let s = c.args.self in
    record { owned = refl; blocks = sym (part_whole s.start s.limit (g.S.BlockStore.blocks s.store)) }
