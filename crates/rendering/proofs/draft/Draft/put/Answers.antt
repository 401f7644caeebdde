use Rattle.std.proofs.Common.{length, ap, ◌∙◌, arith}
use Rattle.rendering.specs.Laid.{with_bytes}
use Rattle.rendering.proofs.Laying.{kept, relaid, laid_more}
use Rattle.rendering.proofs.draft.Draft.put.Goals as goal

pub invariant_of-self : goal.invariant_of-self
invariant_of-self c =
    let room = ap (λ begun. length begun.front) c.self.view_is in
    relaid (laid_more c.self.invariant c.args.bytes.now c.copy_from_slice.new.self (omega (arith, c.self.invariant.ends)) c.copy_from_slice.ensures.after)

pub returns : goal.returns
returns c =
    let room = ap (λ begun. length begun.front) c.self.view_is in
    ap (λ front. record { lent = c.self.inside.block.ghost_name; front = front }) (kept (laid_more c.self.invariant c.args.bytes.now c.copy_from_slice.new.self (omega (arith, c.self.invariant.ends)) c.copy_from_slice.ensures.after))
    ∙ ap (λ begun. with_bytes begun c.args.bytes.now) c.self.view_is
