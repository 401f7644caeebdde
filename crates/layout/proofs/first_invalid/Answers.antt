use Rattle.std.proofs.Common.{◌≡◌, not, ap, ◌∙◌, rules, tests}
use Rattle.std.proofs.lemmas.Iterator.{YieldsList-from_slice}
use Rattle.std.proofs.lemmas.Iterator.Search.{find_from_yields_List}
use Rattle.std.specs.Option.{option_map}
use Rattle.layout.specs.Layout.{first_invalid}
use Rattle.layout.proofs.Fields.{first_failed}
use Rattle.layout.proofs.first_invalid.Goals as goal

pub returns : goal.returns
returns c =
    let given = c.args.tests.now in
    let found = find_from_yields_List (λ test. not test.1) _ _ c.find.result c.find.ensures.ran (YieldsList-from_slice given cc) (λ x r q k. search (rules, tests)) in
    let offset : option_map (λ test. test.0) (option_map (λ y. y.now) c.find.result) ≡ first_invalid given = ap (option_map (λ test. test.0)) found ∙ first_failed given in
    rw (← offset) (search rules)
