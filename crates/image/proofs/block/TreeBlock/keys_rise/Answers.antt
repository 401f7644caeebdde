use Rattle.std.proofs.Common.{ap, ◌∙◌, rules}
use Rattle.image.specs.Parts.{messages_to_come}
use Rattle.image.specs.Reading.{keys_rise}
use Rattle.image.proofs.Rising.{rising}
use Rattle.image.proofs.block.TreeBlock.keys_rise.Goals as goal

pub returns : goal.returns
returns g c =
    let kind = g.K.EntryKind.kind in
    rising kind (messages_to_come kind) _ _ (λ m l b q k. search rules) c.is_sorted_by.result _ c.is_sorted_by.ensures.ran
    ∙ ap (keys_rise kind) c.slots.ensures.messages
