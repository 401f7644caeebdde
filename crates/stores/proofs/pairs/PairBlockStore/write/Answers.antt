use Rattle.std.proofs.Common.{◌≡◌, ◌+◌, ◌-◌, ◌<◌, length, arith}
use Rattle.stores.specs.Stores.{off_pair, united}
use Rattle.stores.specs.Access.{answer_through, rest_through, write_through}
use Rattle.stores.specs.United.{back_stands, front_stands, off_pair_back, off_pair_front, set_back, set_front}
use Rattle.stores.proofs.pairs.PairBlockStore.write.Goals as goal

pub returns-then-block-first : goal.returns-then-block-first
returns-then-block-first g c =
    let first = g.A.BlockStore.blocks c.args.self.now.first in
    let second = g.B.BlockStore.blocks c.args.self.now.second in
    let n = c.args.block in
    let buffer = c.args.buffer.now in
    let q = g.A.BlockStore.rest c.args.self.now.first in
    let r = g.B.BlockStore.rest c.args.self.now.second in
    let admitted = c.in_ok-admit.ensures.admitted in
    let within : n < length (united first second) = omega (arith, c.count.ensures.blocks) in
    let here : n < length first = omega (arith, c.if-block-first.true, c.count-first.ensures) in
    let stands = front_stands first second n within here in
    let inner = c.write.ensures in
    record {
      answer = answer_through stands buffer admitted.0 inner.answer;
      blocks = write_through stands buffer admitted.0 inner.blocks (λ xs. united xs second) (set_front first second n within here buffer);
      rest = rest_through stands buffer admitted.0 inner.blocks inner.rest (λ xs y. off_pair xs y second r) (off_pair_front first second n within here q r buffer);
    }

pub returns : goal.returns
returns g c =
    let first = g.A.BlockStore.blocks c.args.self.now.first in
    let second = g.B.BlockStore.blocks c.args.self.now.second in
    let n = c.args.block in
    let i = n - c.count-first.result in
    let buffer = c.args.buffer.now in
    let q = g.A.BlockStore.rest c.args.self.now.first in
    let r = g.B.BlockStore.rest c.args.self.now.second in
    let admitted = c.in_ok-admit.ensures.admitted in
    let within : n < length (united first second) = omega (arith, c.count.ensures.blocks) in
    let behind : length first + i ≡ n = omega (arith, c.if-block-first.false, c.count-first.ensures) in
    let stands = back_stands first second n within i behind in
    let inner = c.write-2.ensures in
    record {
      answer = answer_through stands buffer admitted.0 inner.answer;
      blocks = write_through stands buffer admitted.0 inner.blocks (united first) (set_back first second n within i behind buffer);
      rest = rest_through stands buffer admitted.0 inner.blocks inner.rest (off_pair first q) (off_pair_back first second n within i behind q r buffer);
    }
