use Rattle.std.proofs.Common.{ap, ◌∙◌, rules}
use Rattle.std.proofs.ByRecursion.{All-from_get_or}
use Rattle.fields.specs.Numbers.{Bytes}
use Rattle.messages.specs.Paragraph.{encoded}
use Rattle.messages.proofs.Paragraphs.{encoded-read}
use Rattle.messages.proofs.paragraph_message.ParagraphFields.read.Goals as goal

pub returns-clause-value : goal.returns-clause-value
returns-clause-value c = search rules

pub returns-clause-inverse : goal.returns-clause-inverse
returns-clause-inverse c =
    let m = c.args.message.now in
    let bytes : Bytes m = All-from_get_or _ m 0 (λ i _. (c.type_inv.message i).fits) in
    ap encoded (returns-clause-value c) ∙ encoded-read m bytes c.requires
