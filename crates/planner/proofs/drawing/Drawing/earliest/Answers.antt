use Rattle.std.proofs.Common.{◌≡◌, ◌+◌, ◌<◌, ◌≤◌, min, [], ◌∷◌, ◌++◌, length, get_or, take, refl, ap, sym, ◌∙◌, subst, arith}
use Rattle.std.proofs.lemmas.List.{take_more, take_all, length-take-le}
use Rattle.planner.specs.Drawing.{rank_before}
use Rattle.planner.specs.Steps.{Earliest}
use Rattle.planner.proofs.Apart.{distinct_front}
use Rattle.planner.proofs.Choosing.{Inserted, inserted, first_drawn, earliest_more}
use Rattle.planner.proofs.Order.{strict}
use Rattle.planner.proofs.drawing.Drawing.earliest.Goals as goal
use Rattle.planner.proofs.drawing.Drawing.earliest.Goals.{then-place-limit, else-place-limit}

pub loop-seen-preserved : goal.loop-seen-preserved
loop-seen-preserved g c =
    let order = strict c.args.self.now.priorities in
    let before = rank_before c.args.self.now.priorities in
    let xs = c.args.ranks.now in
    let seen = c.loop-seen.seen in
    let limit = c.args.limit in
    let old = c.loop-seen.chosen in
    let count = c.min-count.result in
    let x = get_or xs seen 0 in
    let at = c.chosen_before-place.result in
    let new = c.if-place-limit.chosen in
    let inside : seen < length xs = c.loop-seen-test.true in
    let ys = take seen xs in
    let long : length ys ≡ seen = length-take-le seen xs (omega arith) in
    let least : count ≡ min limit seen = omega arith in
    let fits : count ≤ length old = omega (arith, c.min-count.array_long, c.requires.limit_bound) in
    let apart = distinct_front xs seen c.requires.distinct inside in
    let chosen : Earliest before ys count old = rw least c.loop-seen.invariant in
    let taken : length (take count old) ≡ count = length-take-le count old fits in
    let behind : at ≤ count = omega (arith, c.chosen_before-place.ensures.bound) in
    let point = c.chosen_before-place.ensures.place (first_drawn order ys x count old apart chosen fits) in
    let put : Inserted old limit count x at new =
    elim c.if-place-limit.branch [
      | then-place-limit w ↦ rw w.chosen-is (inserted old w.copy_within.new.self limit count x at w.min.result w.min.ensures w.if-place-limit.true (omega (arith, w.if-place-limit.array_long, c.requires.limit_bound, w.copy_within.ensures.len)) w.copy_within.ensures.by_index.0 w.copy_within.ensures.by_index.1)
      | else-place-limit w ↦ rw w.chosen-is record { own = λ h. absurd (omega arith); kept = λ j h. refl; moved = λ j h k l. absurd (omega arith) }
    ] in
    let more = earliest_more order ys x count old apart chosen fits limit at new (least ∙ ap (min limit) (sym long)) behind point put in
    rw (take_more xs seen 0 inside) (subst (λ n. Earliest before (ys ++ x ∷ []) (min limit (n + 1)) new) long more)

pub returns : goal.returns
returns g c =
    let all = take_all c.loop-seen.seen c.args.ranks.now c.loop-seen-test.false in
    let counted : min c.args.limit c.loop-seen.seen ≡ min c.args.limit (length c.args.ranks.now) = omega arith in
    rw counted at (rw all at c.loop-seen.invariant)
