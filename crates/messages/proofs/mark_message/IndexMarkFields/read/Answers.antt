use Rattle.std.proofs.Common.{ap, ◌∙◌, rules}
use Rattle.std.proofs.ByRecursion.{All-from_get_or}
use Rattle.fields.specs.Numbers.{Bytes}
use Rattle.kinds.specs.IndexMarks.{index_marks}
use Rattle.messages.specs.IndexMark.{encoded}
use Rattle.messages.proofs.IndexMarks.{encoded-read, state_valid}
use Rattle.messages.proofs.Validity.{message_valid_lem}
use Rattle.messages.proofs.mark_message.IndexMarkFields.read.Goals as goal

pub unwrap-requires : goal.unwrap-requires
unwrap-requires c =
    let m = c.args.message.now in
    let valid = state_valid m (message_valid_lem index_marks m c.requires) in
    search (rules, valid)

pub returns-clause-value : goal.returns-clause-value
returns-clause-value c = search rules

pub returns-clause-inverse : goal.returns-clause-inverse
returns-clause-inverse c =
    let m = c.args.message.now in
    let bytes : Bytes m = All-from_get_or _ m 0 (λ i _. (c.type_inv.message i).fits) in
    ap encoded (returns-clause-value c) ∙ encoded-read m bytes c.requires
