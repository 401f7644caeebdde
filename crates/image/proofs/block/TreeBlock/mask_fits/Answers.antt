use Rattle.std.proofs.Common.{◌^◌, ltb, sym, ◌∙◌, ap₂, arith, pow_mono}
use Rattle.std.proofs.lemmas.Bool.{le-leb, lt-ltb}
use Rattle.image.proofs.block.TreeBlock.mask_fits.Goals as goal

pub returns-then-entries-ge16 : goal.returns-then-entries-ge16
returns-then-entries-ge16 g c =
    let wide = pow_mono c.if-entries-ge16.true in
    le-leb 16 _ c.if-entries-ge16.true
    ∙ sym (lt-ltb _ _ (omega (arith, c.mask.type_inv)))
    ∙ ap₂ (λ m e. ltb m (2 ^ e)) c.mask.ensures c.entries-entries.ensures.count
