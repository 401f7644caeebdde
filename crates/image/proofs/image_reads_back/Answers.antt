use Rattle.image.proofs.Blocks.{tree_block_reads_back}
use Rattle.image.proofs.Heads.{head_reads_back}
use Rattle.image.proofs.Images.{image_reads_back}
use Rattle.image.proofs.image_reads_back.Goals as goal

pub returns : goal.returns
returns c = record { head = head_reads_back; tree_block = tree_block_reads_back; image = image_reads_back }
