use Rattle.std.proofs.Common.{◌-◌, ap, ap₂, arith}
use Rattle.stores.specs.Stores.{off_pair, united}
use Rattle.stores.specs.Access.{answer_through, read_through}
use Rattle.stores.specs.United.{back_stands, front_stands}
use Rattle.stores.proofs.pairs.PairBlockStore.read.Goals as goal

pub returns-then-block-first : goal.returns-then-block-first
returns-then-block-first g c =
    let first = g.A.BlockStore.blocks c.args.self.now.first in
    let second = g.B.BlockStore.blocks c.args.self.now.second in
    let r = g.B.BlockStore.rest c.args.self.now.second in
    let admitted = c.in_ok-admit.ensures.admitted in
    let stands = front_stands first second c.args.block (omega (arith, c.count.ensures.blocks)) (omega (arith, c.if-block-first.true, c.count-first.ensures)) in
    let inner = c.read.ensures in
    record {
      answer = answer_through stands c.args.buffer.now admitted.0 inner.answer;
      buffer = read_through stands c.args.buffer.now admitted.0 inner.buffer;
      blocks = ap (λ xs. united xs second) inner.blocks;
      rest = ap₂ (λ xs y. off_pair xs y second r) inner.blocks inner.rest;
    }

pub returns : goal.returns
returns g c =
    let first = g.A.BlockStore.blocks c.args.self.now.first in
    let second = g.B.BlockStore.blocks c.args.self.now.second in
    let q = g.A.BlockStore.rest c.args.self.now.first in
    let admitted = c.in_ok-admit.ensures.admitted in
    let stands = back_stands first second c.args.block (omega (arith, c.count.ensures.blocks)) (c.args.block - c.count-first.result) (omega (arith, c.if-block-first.false, c.count-first.ensures)) in
    let inner = c.read-2.ensures in
    record {
      answer = answer_through stands c.args.buffer.now admitted.0 inner.answer;
      buffer = read_through stands c.args.buffer.now admitted.0 inner.buffer;
      blocks = ap (united first) inner.blocks;
      rest = ap₂ (off_pair first q) inner.blocks inner.rest;
    }
