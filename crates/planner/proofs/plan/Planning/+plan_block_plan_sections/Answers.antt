-- Planning a block, and planning its sections, lay down the rows of the definition's nodes.
use Rattle.std.proofs.Common.{◌≡◌, ◌==◌, false, ℕ, ◌+◌, ◌-◌, ◌<◌, ◌≤◌, map, length, take, set, sym, refl, ap, ◌∙◌, arith}
use lib.Seq.{sets}
use Rattle.tree.specs.Laws.{Distinct}
use Rattle.tree.specs.Tree.{numbered}
use Rattle.tree.proofs.Nodes.{root_node}
use Rattle.planner.specs.Drawing.{rank_before}
use Rattle.planner.specs.Rows.{measure_of, row_of, section_row}
use Rattle.planner.specs.Steps.{cut_by}
use Rattle.planner.specs.Subtrees.{subtree, with_sections}
use Rattle.planner.proofs.Planning.{Bounded, divided, blocks_few, visits_few, cut_few, root_row, subtree_parts, subtree_visited, root_placed, subtree_few, subtree-visits, forest-visits}
use Rattle.planner.proofs.Sectioning.{Parted, parted, some_part, first_left, first_apart, last_part, more_parts, rest_left, rest_apart, rows_on, noted_on, count_on, visits_on}
use Rattle.planner.proofs.plan.Planning.+plan_block_plan_sections.Given as given
use Rattle.planner.proofs.plan.Planning.+plan_block_plan_sections.Goals as goal
use Rattle.planner.proofs.plan.Planning.+plan_block_plan_sections.Goals.{plan_block-After-bounds-bounds, plan_sections-After-split_at_mut-section, plan_sections-After-plan_block-first}

-- a list that is not empty
some_left : (n : ℕ) → false ≡ (n == 0) → 0 < n
some_left n h = grind arith

-- the bounds tell the block over the ranks
bounded : (g : given.Over) (t : ℕ) (c : plan_block-After-bounds-bounds g t) → Bounded c.args.self.now.drawing.priorities c.args.self.now.settings.alpha c.args.self.now.settings.rho c.bounds-bounds.result c.args.ranks.now
bounded g t c =
    record {
      allowed = c.args.self.now.settings.allowed;
      some = some_left _ c.if-is_empty.ensures;
      apart = c.requires.apart;
      block = c.bounds-bounds.ensures.block;
      active = c.bounds-bounds.ensures.active;
    }

-- the first section is gathered, apart from the ranks that are left
gathered : (g : given.Over) (t : ℕ) (c : plan_sections-After-split_at_mut-section g t) → Parted c.args.self.now.drawing.priorities c.args.place.bounds c.args.ranks.now c.split_at_mut-section.result.0.now c.split_at_mut-section.result.1.now c.gather_section-gathered.new.ranks c.gather_section-gathered.result.length c.gather_section-gathered.result.end
gathered g t c = parted c.gather_section-gathered.ensures.first c.gather_section-gathered.auto.ranks c.split_at_mut-section.ensures.front c.split_at_mut-section.ensures.back

pub plan_block-begin_row-requires : goal.plan_block-begin_row-requires
plan_block-begin_row-requires g t c =
    let held = (divided (bounded g t (goal.at.plan_block-begin_row-requires g t c).After-bounds-bounds)).held in
    record { fits = omega arith; few = omega arith }

pub plan_block-plan_sections-beneath-requires : goal.plan_block-plan_sections-beneath-requires
plan_block-plan_sections-beneath-requires g t c =
    let known = divided (bounded g t (goal.at.plan_block-plan_sections-beneath-requires g t c).After-bounds-bounds) in
    let held = known.held in
    let left = known.left in
    let fan = known.fan in
    let parts = known.parts in
    let falls = known.falls in
    λ _ inside. (omega arith, (inside, (c.requires.apart, (omega arith, (omega arith, (omega arith, (omega arith, (rw c.begin_row.ensures (omega arith), rw c.begin_row.ensures (omega arith)))))))))

pub plan_block-overflow_add-result : goal.plan_block-overflow_add-result
plan_block-overflow_add-result g t c =
    let few = blocks_few (bounded g t (goal.at.plan_block-overflow_add-result g t c).After-bounds-bounds) c.args.parent c.args.number in
    let beneath = c.plan_sections-beneath.ensures.count in
    omega arith

pub plan_block-overflow_add-result-2 : goal.plan_block-overflow_add-result-2
plan_block-overflow_add-result-2 g t c =
    let few = visits_few (bounded g t (goal.at.plan_block-overflow_add-result-2 g t c).After-bounds-bounds) c.args.parent c.args.number (omega arith) in
    let beneath = c.plan_sections-beneath.ensures.visits in
    omega arith

pub plan_block-returns : goal.plan_block-returns
plan_block-returns g t c =
    let ps = c.args.self.now.drawing.priorities in
    let ms = c.args.self.now.drawing.measures in
    let alpha = c.args.self.now.settings.alpha in
    let rho = c.args.self.now.settings.rho in
    let xs = c.args.ranks.now in
    let parent = c.args.parent in
    let k = c.args.number in
    let known = bounded g t (goal.at.plan_block-returns g t c).After-bounds-bounds in
    let last = c.plan_sections-beneath.new in
    let below = subtree ps alpha rho k in
    let noted : last.row ≡ row_of ms (root_node (rank_before ps) alpha rho below parent k xs) =
    c.plan_sections-beneath.ensures.noted
    ∙ ap (λ row. with_sections row (sets row.sections 0 (map (section_row ms) (numbered below (k + 1) (cut_by ps c.bounds-bounds.result xs))))) c.begin_row.ensures
    ∙ root_row known parent k ms in
    let whole = ap length (subtree_parts known parent k) in
    let beneath = c.plan_sections-beneath.ensures.count in
    record {
      rows = rw c.from.ensures (ap (λ table. set table (k - 1) last.row) c.plan_sections-beneath.ensures.rows ∙ root_placed known parent k ms c.args.table.now last.row c.requires.first noted);
      count = omega arith;
      visits = omega (arith, c.plan_sections-beneath.ensures.visits, c.plan_sections-beneath.auto.ranks, subtree_visited known parent k);
    }

pub plan_sections-plan_block-first-requires : goal.plan_sections-plan_block-first-requires
plan_sections-plan_block-first-requires g t c =
    let known = gathered g t (goal.at.plan_sections-plan_block-first-requires g t c).After-split_at_mut-section in
    let long = known.long in
    let left = first_left known in
    let more = some_part c.args.self.now.drawing.priorities c.args.place.bounds c.args.ranks.now in
    λ _ inside. (omega arith, (inside, (first_apart known c.requires.apart, (c.requires.first, (omega arith, omega arith)))))

pub plan_sections-bounds-row-place : goal.plan_sections-bounds-row-place
plan_sections-bounds-row-place g t c = omega (arith, some_part c.args.self.now.drawing.priorities c.args.place.bounds c.args.ranks.now)

-- the first section has no more blocks than ranks
first_few : (g : given.Over) (t : ℕ) (c : plan_sections-After-plan_block-first g t) → Distinct (take c.gather_section-gathered.result.length c.split_at_mut-section.result.0.now) → c.plan_block-first.result.blocks ≤ length (take c.gather_section-gathered.result.length c.split_at_mut-section.result.0.now)
first_few g t c apart = omega (arith, c.plan_block-first.ensures.count, subtree_few c.args.self.now.drawing.priorities _ _ c.args.self.now.settings.allowed c.args.place.block c.args.place.next _ apart)

pub plan_sections-returns-then-place-separators : goal.plan_sections-returns-then-place-separators
plan_sections-returns-then-place-separators g t c =
    let ms = c.args.self.now.drawing.measures in
    let below = subtree c.args.self.now.drawing.priorities c.args.self.now.settings.alpha c.args.self.now.settings.rho c.args.place.block in
    let known = gathered g t (goal.at.plan_sections-returns-then-place-separators g t c).After-split_at_mut-section in
    let first = c.plan_block-first.ensures in
    let found = c.gather_section-gathered in
    let last = last_part known (omega arith) in
    record {
      rows = rows_on below (λ j. refl) c.args.place.next first.count last.0 ms c.args.table.now c.plan_block-first.new.table c.plan_block-first.new.table c.requires.first first.rows refl;
      noted = ap (with_sections c.args.row.now) (noted_on below (λ j. refl) c.args.place.next first.count last.0 ms c.args.row.now.sections c.args.place.section c.section.result found.result.length found.result.measure c.section.ensures (sym known.long) (found.ensures.measure ∙ ap (measure_of ms) (sym known.same)));
      count = omega (arith, count_on below (λ j. refl) c.args.place.next first.count last.0);
      visits = omega (arith, first.visits, visits_on below (λ j. refl) c.args.place.next first.count last.0, last.1);
    }

pub plan_sections-overflow_add-visits : goal.plan_sections-overflow_add-visits
plan_sections-overflow_add-visits g t c =
    let known = gathered g t (goal.at.plan_sections-overflow_add-visits g t c).After-split_at_mut-section in
    let long = known.long in
    let few = first_few g t (goal.at.plan_sections-overflow_add-visits g t c).After-plan_block-first (first_apart known c.requires.apart) in
    let bound = subtree-visits c.args.self.now.drawing.priorities _ _ c.args.self.now.settings.allowed c.args.place.block c.args.place.next (take c.gather_section-gathered.result.length c.split_at_mut-section.result.0.now) (omega arith) in
    let first = c.plan_block-first.ensures in
    omega (arith, first.count, first.visits)

pub plan_sections-overflow_add-further-2 : goal.plan_sections-overflow_add-further-2
plan_sections-overflow_add-further-2 g t c =
    let known = gathered g t (goal.at.plan_sections-overflow_add-further-2 g t c).After-split_at_mut-section in
    let few = first_few g t (goal.at.plan_sections-overflow_add-further-2 g t c).After-plan_block-first (first_apart known c.requires.apart) in
    omega (arith, few, known.long, first_left known)

pub plan_sections-plan_sections-others-requires : goal.plan_sections-plan_sections-others-requires
plan_sections-plan_sections-others-requires g t c =
    let known = gathered g t (goal.at.plan_sections-plan_sections-others-requires g t c).After-split_at_mut-section in
    let few = first_few g t (goal.at.plan_sections-plan_sections-others-requires g t c).After-plan_block-first (first_apart known c.requires.apart) in
    let long = known.long in
    let split = more_parts known (λ one. omega arith) in
    let left = rest_left known split in
    let parts = ap length split in
    λ _ inside. (omega arith, (inside, (rest_apart known c.requires.apart, (omega arith, (omega arith, (omega arith, (omega arith, (omega arith, c.requires.places))))))))

pub plan_sections-overflow_add-result : goal.plan_sections-overflow_add-result
plan_sections-overflow_add-result g t c =
    let ps = c.args.self.now.drawing.priorities in
    let settings = c.args.self.now.settings in
    let known = gathered g t (goal.at.plan_sections-overflow_add-result g t c).After-split_at_mut-section in
    let split = more_parts known (λ one. omega arith) in
    let whole = count_on (subtree ps settings.alpha settings.rho c.args.place.block) (λ j. refl) c.args.place.next c.plan_block-first.ensures.count split in
    let few = cut_few ps _ _ settings.allowed c.args.place.block c.args.place.next c.args.place.bounds c.args.ranks.now c.requires.apart in
    omega (arith, whole, few, c.plan_sections-others.ensures.count)

pub plan_sections-overflow_add-result-2 : goal.plan_sections-overflow_add-result-2
plan_sections-overflow_add-result-2 g t c =
    let ps = c.args.self.now.drawing.priorities in
    let settings = c.args.self.now.settings in
    let known = gathered g t (goal.at.plan_sections-overflow_add-result-2 g t c).After-split_at_mut-section in
    let split = more_parts known (λ one. omega arith) in
    let whole = visits_on (subtree ps settings.alpha settings.rho c.args.place.block) (λ j. refl) c.args.place.next c.plan_block-first.ensures.count split in
    let few = cut_few ps _ _ settings.allowed c.args.place.block c.args.place.next c.args.place.bounds c.args.ranks.now c.requires.apart in
    let bound = forest-visits ps _ _ settings.allowed c.args.place.block c.args.place.next (cut_by ps c.args.place.bounds c.args.ranks.now) (omega arith) in
    omega (arith, whole, few, bound, known.left, c.plan_block-first.ensures.visits, c.plan_sections-others.ensures.visits)

pub plan_sections-returns : goal.plan_sections-returns
plan_sections-returns g t c =
    let ms = c.args.self.now.drawing.measures in
    let below = subtree c.args.self.now.drawing.priorities c.args.self.now.settings.alpha c.args.self.now.settings.rho c.args.place.block in
    let known = gathered g t (goal.at.plan_sections-returns g t c).After-split_at_mut-section in
    let first = c.plan_block-first.ensures in
    let others = c.plan_sections-others.ensures in
    let found = c.gather_section-gathered in
    let split = more_parts known (λ one. omega arith) in
    record {
      rows = rows_on below (λ j. refl) c.args.place.next first.count split ms c.args.table.now c.plan_block-first.new.table c.plan_sections-others.new.table c.requires.first first.rows others.rows;
      noted =
          others.noted
          ∙ ap (with_sections c.args.row.now) (noted_on below (λ j. refl) c.args.place.next first.count split ms c.args.row.now.sections c.args.place.section c.section.result found.result.length found.result.measure c.section.ensures (sym known.long) (found.ensures.measure ∙ ap (measure_of ms) (sym known.same)));
      count = omega (arith, count_on below (λ j. refl) c.args.place.next first.count split, others.count);
      visits = omega (arith, first.visits, others.visits, visits_on below (λ j. refl) c.args.place.next first.count split, known.left);
    }
