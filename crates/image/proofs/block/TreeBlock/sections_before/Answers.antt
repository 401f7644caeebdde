use Rattle.std.proofs.Common.{◌≡◌, ℕ, ◌*◌, ◌+◌, ◌≤◌, List, length, take, rules, arith}
use borrow.Author.Tests.{tests}
use Rattle.std.specs.Iterator.{YieldsFirst}
use Rattle.std.specs.Iterator.Adapters.{take_source, take_count, take_steps}
use Rattle.std.specs.declared.iter.Take.{Take}
use Rattle.std.proofs.lemmas.Iterator.Adapters.{YieldsAtMost, at_most_from_yields_List, fits_from_length}
use Rattle.std.proofs.lemmas.Iterator.{YieldsList-from_map, YieldsList-from_take}
use Rattle.std.proofs.lemmas.Iterator.Consumers.{YieldsList-at, YieldsList-from_first, sum_by_from_yields_List}
use Rattle.std.proofs.lemmas.List.{length-take}
use Rattle.kinds.specs.Kind.{Kind}
use Rattle.image.specs.declared.parts.Sections.{Sections}
use Rattle.image.specs.declared.section.SectionFields.{SectionFields}
use Rattle.image.specs.Parts.{sections_to_come}
use Rattle.image.specs.Reading.{sections_of}
use Rattle.image.specs.View.{alpha_of, bytes_of}
use Rattle.image.proofs.block.TreeBlock.sections_before.Goals as goal

-- of the sections, no more than there are
few_taken : {K : Type 0} (kind : Kind) (sections : List SectionFields) (end : ℕ) (s : Take (Sections K)) → sections_to_come kind (take_source s) ≡ sections → take_count s ≡ end → length sections ≤ 17 → YieldsAtMost (take_steps (YieldsFirst (sections_to_come kind))) s 17
few_taken kind sections end s from count few =
    at_most_from_yields_List (YieldsList-from_take end (YieldsList-from_first (λ s. s) (sections_to_come kind) sections from) count) (omega (arith, length-take end sections))

pub sum-requires-clause-fits : goal.sum-requires-clause-fits
sum-requires-clause-fits g c =
    let kind = g.K.EntryKind.kind in
    let sections = sections_of kind (alpha_of c.args.self.now) (bytes_of c.args.self.now) in
    fits_from_length {s = c.map.result} _ _ 17 _ (few_taken kind sections c.args.end _ (cc) (cc) c.sections.ensures.few) c.map.ensures.closure (omega arith) (λ s r q k. search (rules, tests))

pub returns-clause-value : goal.returns-clause-value
returns-clause-value g c =
    let kind = g.K.EntryKind.kind in
    let sections = sections_of kind (alpha_of c.args.self.now) (bytes_of c.args.self.now) in
    sum_by_from_yields_List (λ s. s.measure) (take c.args.end sections) c.map.result c.sum.result c.sum.ensures.ran
    (YieldsList-from_map _ (λ s. s.measure)
    (YieldsList-at c.map.ensures.source
    (YieldsList-from_take c.args.end (YieldsList-at c.take.ensures.source (YieldsList-from_first (λ s. s) (sections_to_come kind) sections c.sections.ensures.sections)) (cc)))
    c.map.ensures.closure (λ s r q k. search (rules, tests)))

pub returns-clause-few : goal.returns-clause-few
returns-clause-few g c =
    let kind = g.K.EntryKind.kind in
    let sections = sections_of kind (alpha_of c.args.self.now) (bytes_of c.args.self.now) in
    let run = c.sum.ensures.runs tt in
    let low = fits_from_length {s = c.map.result} _ _ 17 (17 * 4294967295 + 1) (few_taken kind sections c.args.end _ (cc) (cc) c.sections.ensures.few) c.map.ensures.closure (omega arith) (λ s r q k. search (rules, tests)) run.0 run.0.seen run.1 in
    omega (arith, low, run.3)
