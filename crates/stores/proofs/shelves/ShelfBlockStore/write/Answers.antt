use Rattle.std.proofs.Common.{◌<◌, length, arith}
use Rattle.stores.specs.Stores.{off_shelf, part}
use Rattle.stores.specs.Access.{answer_through, rest_through, write_through}
use Rattle.stores.specs.Placed.{off_shelf_set, part_stands, set_part}
use Rattle.stores.proofs.shelves.ShelfBlockStore.write.Goals as goal

pub returns : goal.returns
returns g c =
    let s = c.args.self.now in
    let below = g.S.BlockStore.blocks s.store in
    let buffer = c.args.buffer.now in
    let admitted = c.in_ok-admit.ensures.admitted in
    let within : c.args.block < length (part s.start s.limit below) = omega (arith, c.count.ensures.blocks) in
    let stands = part_stands s.start s.limit below c.args.block within in
    let inner = c.write.ensures in
    record {
      answer = answer_through stands buffer admitted.0 inner.answer;
      blocks = write_through stands buffer admitted.0 inner.blocks (part s.start s.limit) (set_part s.start s.limit below c.args.block within buffer);
      rest = rest_through stands buffer admitted.0 inner.blocks inner.rest (off_shelf s.start s.limit) (off_shelf_set s.start s.limit below c.args.block within (g.S.BlockStore.rest s.store) buffer);
    }
