use Rattle.std.proofs.Common.{◌≡◌, ◌∙◌, rules}
use Rattle.std.specs.List.{fold}
use Rattle.drawing.proofs.Folded.{fold-chain, step}
use Rattle.drawing.proofs.chain.Goals as goal

pub returns : goal.returns
returns c =
    let folded : c.fold.result ≡ fold step c.args.start c.args.key.now = search rules in
    folded ∙ fold-chain c.args.start c.args.key.now
