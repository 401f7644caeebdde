use Rattle.std.proofs.Common.{◌≡◌, true, ◌++◌, map, length, drop, replicate, Some, sym, ap, ◌∙◌, subst, arith, rules}
use lib.Seq.{sets}
use Rattle.std.specs.List.{range_with_len}
use Rattle.std.proofs.lemmas.List.FromFn.{length-range_with_len}
use Rattle.std.proofs.lemmas.List.{length-replicate, length-take-le}
use Rattle.std.proofs.lemmas.Bool.{cond-true}
use Rattle.tree.specs.Laws.{Distinct}
use Rattle.planner.specs.Plan.{plannable, extent_of}
use Rattle.planner.specs.Rows.{row_of}
use Rattle.planner.specs.Subtrees.{subtree}
use Rattle.planner.proofs.Apart.{distinct_counting}
use Rattle.planner.proofs.Whole.{fits_plannable, rows_overwritten, mask_tells}
use Rattle.planner.proofs.plan_ranked.Goals as goal

pub plan_block-extent-requires : goal.plan_block-extent-requires
plan_block-extent-requires g c =
    let n = c.count-n.result in
    let ranks : c.count_up.new.ranks ≡ range_with_len 0 n = c.count_up.ensures ∙ ap (range_with_len 0) (length-take-le n c.args.work.now c.if-n-work.false) in
    let long = ap length ranks ∙ length-range_with_len 0 n in
    record {
      apart = subst Distinct (sym ranks) (distinct_counting 0 n);
      first = omega arith;
      few = omega (arith, long);
      room = omega (arith, long);
    }

pub returns : goal.returns
returns g c =
    let ps = g.S.Ranked.priorities c.args.source in
    let measures = g.S.Ranked.measures c.args.source in
    let settings = c.in_ok-settings.settings in
    let alpha = settings.alpha in
    let rho = settings.rho in
    let n = length ps in
    let counted : n ≡ c.count-n.result = sym c.count-n.ensures in
    let work = c.args.work.now in
    let table = c.args.table.now in
    let can : plannable n alpha rho (length work) (length table) ≡ true = fits_plannable n alpha rho (length work) (length table) settings.allowed (omega arith) (omega arith) (omega arith) in
    let ranks : c.count_up.new.ranks ≡ range_with_len 0 n = rw counted (c.count_up.ensures ∙ ap (range_with_len 0) (length-take-le _ work c.if-n-work.false)) in
    let planned : length c.plan_block-extent.new.ranks ≡ n = c.plan_block-extent.auto.ranks ∙ ap length ranks ∙ length-range_with_len 0 n in
    let zeros : c.fill.new.self ≡ replicate n 0 = c.fill.ensures.after (λ y h. search rules) ∙ ap (λ m. replicate m 0) planned in
    let blocks = c.plan_block-extent.ensures.count in
    let visits = c.plan_block-extent.ensures.visits in
    let extent-is : c.plan_block-extent.result ≡ extent_of (subtree ps alpha rho 0 1 c.count_up.new.ranks) = λ i. record { blocks = blocks i; visits = visits i } in
    rw (← c.in_ok-settings.ensures.alpha, ← c.in_ok-settings.ensures.rho) record {
      answer = ap Some (extent-is ∙ ap (λ xs. extent_of (subtree ps alpha rho 0 1 xs)) ranks) ∙ sym (cond-true _ _ _ can);
      rows =
          c.plan_block-extent.ensures.rows
          ∙ ap (λ xs. sets table 0 (map (row_of measures) (subtree ps alpha rho 0 1 xs))) ranks
          ∙ rows_overwritten ps alpha rho settings.allowed measures table (omega arith)
          ∙ sym (cond-true _ _ _ can);
      cleared = rw (zeros, ← counted) (ap (λ m. replicate n 0 ++ drop m work) (sym (length-replicate n 0))) ∙ sym (cond-true _ _ _ can);
      fan = λ _. mask_tells ps alpha rho settings.allowed;
    }
