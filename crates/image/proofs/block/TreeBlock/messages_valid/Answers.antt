use Rattle.std.proofs.Common.{rules}
use borrow.Author.Tests.{tests}
use Rattle.std.proofs.lemmas.Iterator.Consumers.{YieldsList-from_first}
use Rattle.std.proofs.lemmas.Iterator.Search.{all_from_yields_List}
use Rattle.image.specs.Reading.{message_valid}
use Rattle.image.proofs.Loops.{every_is}
use Rattle.image.proofs.block.TreeBlock.messages_valid.Goals as goal

pub returns : goal.returns
returns g c =
    let valid = message_valid g.K.EntryKind.kind in
    rw every_is (all_from_yields_List valid c.all.new.self _ c.all.result c.all.ensures.ran (YieldsList-from_first (λ m. m.now) _ _ c.slots.ensures.messages) (λ m b q k. search (rules, tests)))
