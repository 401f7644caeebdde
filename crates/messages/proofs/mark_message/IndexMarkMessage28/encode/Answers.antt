use Rattle.std.proofs.Common.{sym, ap, ◌∙◌, rules}
use Rattle.kinds.specs.IndexMarks.{index_marks, mark_invalid}
use Rattle.messages.specs.IndexMark.{read}
use Rattle.messages.specs.Messages.{decoded}
use Rattle.messages.proofs.IndexMarks.{Narrow, decoded-encoded}
use Rattle.messages.proofs.mark_message.IndexMarkMessage28.encode.Goals as goal

pub returns-clause-value : goal.returns-clause-value
returns-clause-value c = search rules

pub returns-clause-inverse : goal.returns-clause-inverse
returns-clause-inverse c valid =
    let value = returns-clause-value c in
    let narrow : Narrow c.args.self.now = record { term = c.joined.ensures.width; place = search rules; stamp = search rules } in
    ap (decoded index_marks read) value ∙ decoded-encoded c.args.self.now narrow (sym (ap mark_invalid value) ∙ valid)
