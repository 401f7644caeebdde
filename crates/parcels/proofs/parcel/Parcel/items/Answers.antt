use Rattle.std.proofs.Common.{arith, rules}
use Rattle.parcels.proofs.Counting.{length_front}
use Rattle.parcels.proofs.parcel.Parcel.items.Goals as goal

pub returns : goal.returns
returns c =
    let all = c.args.self.now in
    record { items = search rules; few = omega (arith, length_front all.width all.count all.items.now) }
