use Rattle.std.proofs.Common.{length, ap, ◌∙◌, arith}
use Rattle.rendering.specs.Laid.{skipped_to}
use Rattle.rendering.proofs.Laying.{skipped}
use Rattle.rendering.proofs.draft.Draft.skip_to.Goals as goal

pub returns-clause-skipped : goal.returns-clause-skipped
returns-clause-skipped c =
    let here = ap (λ begun. length begun.front) c.self.view_is in
    ap (λ front. record { lent = c.self.inside.block.ghost_name; front = front }) (skipped c.self.invariant c.args.end (omega (arith, c.requires.ahead, c.self.invariant.ends)) c.requires.inside)
    ∙ ap (skipped_to c.args.end) c.self.view_is
