use Rattle.std.proofs.Common.{◌/◌, ◌%◌, ◌^◌, eqb, ap, ◌∙◌}
use Rattle.image.proofs.Blocks.{no_bit}
use Rattle.image.proofs.block.TreeBlock.is_active.Goals as goal

pub returns-else-i-lt16 : goal.returns-else-i-lt16
returns-else-i-lt16 g c =
    no_bit c.mask-mask.result c.args.i c.mask-mask.type_inv c.if-i-lt16.false ∙ ap (λ m. eqb (m / 2 ^ c.args.i % 2) 1) c.mask-mask.ensures
