use Rattle.rendering.specs.Rendered.{row_record}
use Rattle.rendering.proofs.Laying.{Writing}
use Rattle.rendering.proofs.block.put_records.Given as goal

abbrev pub invariant-loop-section : goal.invariant-loop-section
invariant-loop-section l = Writing row_record 8 l.sections l.initial.draft l.section-index l.draft
