use Rattle.std.proofs.Common.{◌≡◌, ◌+◌, ◌*◌, ◌≤◌, min, ◌++◌, length, sym, ap, ◌∙◌, ap₂, mul-le-mul_right, arith, rules}
use lib.Count.{ones}
use Rattle.std.specs.List.{flat_map}
use Rattle.std.proofs.lemmas.List.{length-take}
use Rattle.fields.specs.Numbers.{filled}
use Rattle.image.specs.Image.{block_of}
use Rattle.rendering.specs.Laid.{with_bytes}
use Rattle.planner.specs.Rows.{ranks_of}
use Rattle.rendering.specs.Rendered.{front_of, message_at, row_record}
use Rattle.rendering.specs.View.{bytes_of}
use Rattle.rendering.proofs.Rendering.{slot_bytes, renderable_is, row_block_laid}
use Rattle.rendering.proofs.block.write_row.Goals as goal

pub skip_to-requires-clause-ahead : goal.skip_to-requires-clause-ahead
skip_to-requires-clause-ahead g c =
    let kind = g.K.EntryKind.kind in
    let fits = renderable_is kind c.args.alpha (bytes_of c.args.table.now) c.args.row.now c.requires in
    let front = ap (λ begun. length begun.front) (c.put_front.ensures ∙ ap (λ begun. with_bytes begun (front_of kind c.args.row.now)) c.over-draft.ensures) in
    let width : c.args.alpha * c.message_width.result ≡ c.args.alpha * kind.width = ap (λ w. c.args.alpha * w) c.message_width.ensures in
    let few : length c.ranks.result.now * kind.width ≤ c.args.alpha * kind.width = mul-le-mul_right kind.width (omega (arith, fits.few, c.ranks.ensures.count)) in
    omega (arith, c.put_messages.ensures.long)

pub put_records-requires : goal.put_records-requires
put_records-requires g c =
    let kind = g.K.EntryKind.kind in
    let fits = renderable_is kind c.args.alpha (bytes_of c.args.table.now) c.args.row.now c.requires in
    let width : c.args.alpha * c.message_width.result ≡ c.args.alpha * kind.width = ap (λ w. c.args.alpha * w) c.message_width.ensures in
    let sections = ap length c.used_sections.ensures ∙ length-take (ones c.args.row.now.mask + 1) c.args.row.now.sections in
    omega (arith, fits.room.all, fits.fan, c.skip_to.ensures.end)

pub returns : goal.returns
returns g c =
    let kind = g.K.EntryKind.kind in
    let table = bytes_of c.args.table.now in
    let row = c.args.row.now in
    let fits = renderable_is kind c.args.alpha table row c.requires in
    let places : length (ranks_of row) ≡ min row.count 16 = sym (ap length c.ranks.ensures.ranks) ∙ c.ranks.ensures.count in
    let front : c.put_front.new.draft.front ≡ front_of kind row = ap (λ begun. begun.front) c.put_front.ensures ∙ ap (λ begun. begun.front ++ front_of kind row) c.over-draft.ensures in
    let messages : c.put_messages.new.draft.front ≡ front_of kind row ++ slot_bytes kind table row = ap (λ begun. begun.front) c.put_messages.ensures.put ∙ ap₂ (λ l ranks. l ++ flat_map (message_at kind table) ranks) front c.ranks.ensures.ranks in
    let slots : c.skip_to.new.self.front ≡ filled (8 + c.args.alpha * kind.width) 0 (front_of kind row ++ slot_bytes kind table row) = ap (λ begun. begun.front) c.skip_to.ensures.skipped ∙ ap₂ (λ w l. filled (8 + c.args.alpha * w) 0 l) c.message_width.ensures messages in
    let records = ap (λ begun. begun.front) c.put_records.ensures ∙ ap₂ (λ l sections. l ++ flat_map row_record sections) slots c.used_sections.ensures in
    let given_back : _ ≡ c.finish.result.now = search rules in
    given_back
    ∙ c.finish.ensures.written
    ∙ ap block_of records
    ∙ row_block_laid kind c.args.alpha table row fits places
