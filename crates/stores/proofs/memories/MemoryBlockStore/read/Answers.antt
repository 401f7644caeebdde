use Rattle.std.proofs.Common.{◌≡◌, ◌*◌, ◌<◌, length, take, drop, vec_items, sym, refl, ◌∙◌, arith, rules}
use Rattle.stores.specs.Access.{accepts, reads}
use Rattle.stores.specs.Stores.{run_blocks, run_count}
use Rattle.stores.specs.Cut.{get_or_cut}
use Rattle.stores.proofs.memories.MemoryBlockStore.read.Goals as goal

pub returns : goal.returns
returns c =
    let bytes = vec_items c.args.self.now.bytes in
    let admitted = c.in_ok-admit.ensures.admitted in
    let within : c.args.block < length (run_blocks bytes) = omega (arith, c.count.ensures.blocks) in
    let copied : c.copy_from_slice.new.self ≡ take 256 (drop (c.args.block * 256) bytes) = search rules in
    record {
      answer = accepts (run_blocks bytes) c.args.block c.args.buffer.now admitted.0 within;
      buffer = copied ∙ sym (get_or_cut (run_count bytes) c.args.block bytes (omega arith)) ∙ reads (run_blocks bytes) c.args.block c.args.buffer.now admitted.0 within;
      blocks = refl;
      rest = refl;
    }
