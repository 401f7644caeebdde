use Rattle.std.proofs.Common.{◌≡◌, map, sym, ap, ◌∙◌, Equal, rules, tests}
use Rattle.std.proofs.lemmas.Iterator.{YieldsList-from_map, YieldsList-from_slice}
use Rattle.std.proofs.lemmas.Iterator.Adapters.{option_map_id}
use Rattle.std.proofs.lemmas.Iterator.Search.{find_from_yields_List}
use Rattle.std.specs.List.{find}
use Rattle.std.specs.Option.{option_map, unwrap_or}
use Rattle.std.specs.Ordering.{is_ne}
use Rattle.layout.proofs.Fields.{by_field, first_decides}
use Rattle.layout.proofs.compare_fields.Goals as goal

pub returns : goal.returns
returns c =
    let fields = c.args.fields.now in
    let a = c.args.a.now in
    let b = c.args.b.now in
    let found : option_map (λ order. order) c.find.result ≡ find is_ne (map (by_field a b) fields) =
    find_from_yields_List is_ne _ _ c.find.result c.find.ensures.ran
    (YieldsList-from_map _ (by_field a b) (YieldsList-from_slice fields cc) c.map.ensures.closure (λ x r q k. search rules))
    (λ x r q k. search (rules, tests)) in
    c.unwrap_or.ensures ∙ ap (λ order. unwrap_or order Equal) (sym (option_map_id _) ∙ found) ∙ first_decides fields a b
