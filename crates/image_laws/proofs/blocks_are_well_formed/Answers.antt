use Rattle.image_laws.proofs.Trees.{blocks_are_well_formed}
use Rattle.image_laws.proofs.blocks_are_well_formed.Goals as goal

pub returns : goal.returns
returns c = blocks_are_well_formed
