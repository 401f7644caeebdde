use Rattle.chapter.proofs.Worked.{worked}
use Rattle.chapter.proofs.worked_examples.Goals as goal

pub returns : goal.returns
returns c = worked
