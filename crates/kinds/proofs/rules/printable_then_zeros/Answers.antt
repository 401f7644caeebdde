use Rattle.std.proofs.Common.{◌≡◌, drop, ◌∙◌, rules, tests}
use Rattle.std.proofs.lemmas.Iterator.{YieldsList-from_slice}
use Rattle.std.proofs.lemmas.Iterator.Adapters.{YieldsList-from_skip_while}
use Rattle.std.proofs.lemmas.Iterator.Search.{all_from_yields_List}
use Rattle.std.specs.List.{list_all, prefix_len}
use Rattle.kinds.specs.Rules.{is_printable}
use Rattle.kinds.proofs.Terms.{is_zero, zeros_after_printable}
use Rattle.kinds.proofs.rules.printable_then_zeros.Goals as goal

pub returns : goal.returns
returns c =
    let bytes = c.args.bytes.now in
    let left : c.all.result ≡ list_all is_zero (drop (prefix_len is_printable bytes) bytes) =
    all_from_yields_List is_zero _ _ c.all.result c.all.ensures.ran
    (YieldsList-from_skip_while _ _ _ is_printable _ (λ x b q k. search (rules, tests)) (YieldsList-from_slice bytes cc) c.skip_while.ensures.closure c.skip_while.ensures.done_skipping)
    (λ x b q k. search (rules, tests)) in
    left ∙ zeros_after_printable bytes
