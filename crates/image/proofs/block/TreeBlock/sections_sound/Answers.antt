use Rattle.std.proofs.Common.{rules}
use borrow.Author.Tests.{tests}
use Rattle.std.proofs.lemmas.Iterator.Consumers.{YieldsList-from_first}
use Rattle.std.proofs.lemmas.Iterator.Search.{all_from_yields_List}
use Rattle.image.specs.Reading.{section_sound}
use Rattle.image.proofs.Loops.{every_is}
use Rattle.image.proofs.block.TreeBlock.sections_sound.Goals as goal

pub returns : goal.returns
returns g c =
    let sound = section_sound c.args.tree_blocks c.args.number in
    rw every_is (all_from_yields_List sound c.all.new.self _ c.all.result c.all.ensures.ran (YieldsList-from_first (λ s. s) _ _ c.sections.ensures.sections) (λ s b q k. search (rules, tests)))
