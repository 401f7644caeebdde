use Rattle.std.proofs.Common.{◌∙◌, rules, arith}
use borrow.Author.Tests.{tests}
use Rattle.std.specs.List.{filter}
use Rattle.std.proofs.lemmas.Iterator.Adapters.{at_most_from_Filter, at_most_from_yields_List, fits_from_length}
use Rattle.std.proofs.lemmas.Iterator.{YieldsList-from_map}
use Rattle.std.proofs.lemmas.Iterator.Consumers.{YieldsList-at, YieldsList-from_filter, YieldsList-from_first, sum_by_from_yields_List}
use Rattle.image.specs.Parts.{messages_to_come}
use Rattle.image.specs.Reading.{slots}
use Rattle.image.specs.View.{bytes_of}
use Rattle.image.proofs.Below.{below, measures_below}
use Rattle.image.proofs.block.TreeBlock.entries_below.Goals as goal

pub sum-requires-clause-fits : goal.sum-requires-clause-fits
sum-requires-clause-fits g c =
    let kind = g.K.EntryKind.kind in
    let messages = slots kind (bytes_of c.args.self.now) in
    fits_from_length {s = c.map.result} _ _ 255 _ (at_most_from_Filter _ (at_most_from_yields_List (YieldsList-from_first (λ m. m.now) (messages_to_come kind) messages (cc)) c.slots.ensures.few)) c.map.ensures.closure (omega arith) (λ m r q k. search (rules, tests))

pub returns : goal.returns
returns g c =
    let kind = g.K.EntryKind.kind in
    let messages = slots kind (bytes_of c.args.self.now) in
    sum_by_from_yields_List kind.measured (filter (below kind c.args.key.now) messages) c.map.result c.sum.result c.sum.ensures.ran
    (YieldsList-from_map _ kind.measured
    (YieldsList-at c.map.ensures.source
    (YieldsList-from_filter _ (below kind c.args.key.now)
    (YieldsList-at c.filter.ensures.source (YieldsList-from_first (λ m. m.now) (messages_to_come kind) messages c.slots.ensures.messages))
    c.filter.ensures.closure (λ m b q k. search (rules, tests))))
    c.map.ensures.closure (λ m r q k. search (rules, tests)))
    ∙ measures_below kind c.args.key.now messages
