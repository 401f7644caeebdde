use Rattle.std.proofs.Common.{◌≡◌, ◌+◌, ◌-◌, ◌*◌, ◌<◌, length, vec_items, sym, ap, ◌∙◌, arith, rules}
use borrow.Rule.Slice.PartMut.{put_mid}
use Rattle.std.specs.Vec.{with_items}
use Rattle.std.proofs.lemmas.List.{with_items_is}
use Rattle.stores.specs.Access.{accepts, writes}
use Rattle.stores.specs.Stores.{run_blocks, run_rest}
use Rattle.stores.specs.Cut.{over, length_over, run_over, rest_over}
use Rattle.stores.proofs.memories.MemoryBlockStore.write.Goals as goal

pub returns : goal.returns
returns c =
    let vec = c.args.self.now.bytes in
    let bytes = vec_items vec in
    let n = c.args.block in
    let block = c.args.buffer.now in
    let admitted = c.in_ok-admit.ensures.admitted in
    let within : n < length (run_blocks bytes) = omega (arith, c.count.ensures.blocks) in
    let whole = length_over bytes block n (omega arith) admitted.0 in
    let written : put_mid (n * 256) (n * 256 + 256 - n * 256) c.as_mut_slice-bytes.result.now c.copy_from_slice.new.self ≡ over n bytes block = search rules in
    let after : vec_items (with_items vec (put_mid (n * 256) (n * 256 + 256 - n * 256) c.as_mut_slice-bytes.result.now c.copy_from_slice.new.self)) ≡ over n bytes block =
    ap (λ xs. vec_items (with_items vec xs)) written ∙ with_items_is vec (over n bytes block) (whole ∙ sym vec.ok.0) in
    record {
      answer = accepts (run_blocks bytes) n block admitted.0 within;
      blocks = ap run_blocks after ∙ run_over bytes block n (omega arith) admitted.0 ∙ writes (run_blocks bytes) n block admitted.0 within;
      rest = ap run_rest after ∙ rest_over bytes block n (omega arith) admitted.0;
    }
