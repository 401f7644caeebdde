use Rattle.std.proofs.Common.{◌≡◌, ◌++◌, length, replicate, sym, refl, ap, ◌∙◌, ap₂}
use Rattle.messages.proofs.Parts.{put_last}
use Rattle.messages.proofs.mark_message.joined.Goals as goal

pub returns : goal.returns
returns c =
    let term = c.copy_from_slice.new.self in
    let wide : length term ≡ 16 = c.copy_from_slice.ensures.len in
    let same = c.copy_from_slice.ensures.after in
    record {
      value = put_last term (replicate 12 0) c.copy_from_slice-2.new.self 16 12 wide refl ∙ ap₂ ◌++◌ same c.copy_from_slice-2.ensures.after;
      width = sym (ap length same) ∙ wide;
    }
