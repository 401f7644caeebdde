use Rattle.std.proofs.Common.{◌∙◌, rules, arith}
use borrow.Author.Tests.{tests}
use Rattle.std.proofs.lemmas.Iterator.{YieldsList-from_range}
use Rattle.std.proofs.lemmas.Iterator.Consumers.{YieldsList-from_filter, count_from_yields_List}
use Rattle.image.specs.Reading.{entry_count, slot}
use Rattle.image.specs.View.{bytes_of}
use Rattle.image.specs.Walk.{separator_below}
use Rattle.image.proofs.Below.{separators_counted}
use Rattle.image.proofs.block.TreeBlock.section_for.Goals as goal

pub returns : goal.returns
returns g c =
    let kind = g.K.EntryKind.kind in
    let bytes = bytes_of c.args.self.now in
    let n = entry_count bytes in
    let below = λ (i : _). separator_below kind c.args.key.now bytes i (slot kind bytes i) in
    count_from_yields_List c.filter.result c.count.result c.count.ensures.ran (YieldsList-from_filter _ below (YieldsList-from_range 0 n n (cc) (omega arith)) c.filter.ensures.closure (λ i b q k. search (rules, tests)))
    ∙ separators_counted kind c.args.key.now bytes (slot kind bytes) 0 n
