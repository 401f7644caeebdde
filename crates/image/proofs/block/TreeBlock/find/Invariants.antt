use Rattle.std.proofs.Common.{◌≡◌}
use Rattle.image.specs.Messages.{standing}
use Rattle.image.specs.Parts.{messages_to_come}
use Rattle.image.specs.View.{bytes_of}
use Rattle.image.specs.Walk.{in_block}
use Rattle.image.proofs.block.TreeBlock.find.Given as goal

-- among the messages to come, the key is found as among all
abbrev pub invariant-loop-message : goal.invariant-loop-message
invariant-loop-message g l =
    let kind = g.K.EntryKind.kind in
    (goal.iterator-loop-message g).can_next l.message-iterator × (goal.iterator-loop-message g).is_finite l.message-iterator
    × (standing kind l.key (messages_to_come kind l.message-iterator) ≡ in_block kind l.key (bytes_of l.self))
