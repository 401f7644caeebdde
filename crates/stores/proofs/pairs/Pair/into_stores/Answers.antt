use Rattle.std.proofs.Common.{sym, refl}
use Rattle.stores.specs.United.{front_united, back_united}
use Rattle.stores.proofs.pairs.Pair.into_stores.Goals as goal

pub returns : goal.returns
returns g c =
    let p = c.args.self in
    let first = g.A.BlockStore.blocks p.first in
    let second = g.B.BlockStore.blocks p.second in
    let few = (g.met.A.BlockStore.storable p.first).few in
    record {
      owned = (refl, refl);
      first = sym (front_united first second few);
      second = sym (back_united first second few);
    }
