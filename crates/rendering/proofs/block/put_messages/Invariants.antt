use Rattle.rendering.specs.Rendered.{message_at}
use Rattle.rendering.specs.View.{bytes_of}
use Rattle.rendering.proofs.Laying.{Writing}
use Rattle.rendering.proofs.block.put_messages.Given as goal

abbrev pub invariant-loop-rank : goal.invariant-loop-rank
invariant-loop-rank g l =
    let kind = g.K.EntryKind.kind in
    Writing (message_at kind (bytes_of l.table)) kind.width l.ranks l.initial.draft l.rank-index l.draft
