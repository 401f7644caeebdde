use Rattle.std.proofs.Common.{[], length, get_or, take, filter, sym, ap, ◌∙◌, arith}
use Rattle.std.proofs.lemmas.List.{take_more, length-map}
use Rattle.planner.specs.Bounding.{in_block, separates}
use Rattle.planner.specs.Rows.{row_of}
use Rattle.planner.specs.Steps.{with_entry}
use Rattle.planner.proofs.Filling.{begun, begun_skip, begun_more, row_counts, place_left}
use Rattle.planner.proofs.drawing.Drawing.begin_row.Goals as goal
use Rattle.planner.proofs.drawing.Drawing.begin_row.Goals.{then-holds, else-holds}

pub push-requires : goal.push-requires
push-requires g c =
    let ps = c.args.self.now.priorities in
    let held = in_block ps c.args.bounds in
    let xs = c.args.ranks.now in
    let i = c.loop-rank.rank-index in
    let node = begun held (separates ps c.args.bounds) c.args.parent (length xs) (take i xs) in
    omega (arith, place_left held xs i c.loop-rank-test.true (sym c.if-holds.ensures), c.requires.fits, row_counts c.loop-rank.row node c.loop-rank.invariant)

pub loop-rank-preserved : goal.loop-rank-preserved
loop-rank-preserved g c =
    let ps = c.args.self.now.priorities in
    let held = in_block ps c.args.bounds in
    let active = separates ps c.args.bounds in
    let xs = c.args.ranks.now in
    let i = c.loop-rank.rank-index in
    let x = get_or xs i 0 in
    let front = take i xs in
    let node = begun held active c.args.parent (length xs) front in
    rw (take_more xs i 0 c.loop-rank-test.true) (
    elim c.if-holds.branch [
      | then-holds w ↦ rw w.row-is (w.push.ensures node (length-map (filter held front) active) c.loop-rank.invariant ∙ ap (row_of []) (ap (with_entry node x) w.separates.ensures ∙ begun_more held active c.args.parent (length xs) front x (sym w.if-holds.ensures)))
      | else-holds w ↦ rw w.row-is (c.loop-rank.invariant ∙ ap (row_of []) (begun_skip held active c.args.parent (length xs) front x (sym w.if-holds.ensures)))
    ])
