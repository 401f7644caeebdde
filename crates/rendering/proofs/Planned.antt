-- The row of a node over ranks renders to the block of the node over messages. Assumes nothing.
use Rattle.std.proofs.Common.{◌≡◌, ℕ, ◌+◌, ◌-◌, ◌*◌, ◌<◌, ◌≤◌, true, List, [], ◌∷◌, ◌++◌, map, length, get_or, take, replicate, sym, refl, ap, ◌∙◌, ap₂, mul-le-mul_right, arith}
use lib.Count.{ones}
use lib.Lanes.{mask_l as mask_of}
use Rattle.std.specs.List.{range_with_len, flat_map, AllByRecursion}
use Rattle.std.proofs.lemmas.List.{append-nil, get_or-map, length-map, take_at}
use Rattle.std.proofs.lemmas.List.FromFn.{length-range_with_len}
use Rattle.std.proofs.ByRecursion.{All-map, All-weaker}
use Rattle.std.proofs.lemmas.List.Sums.{sum_by-cons, count_by-le-length}
use Rattle.std.proofs.lemmas.Bool.{and_from, and_parts, le-leb}
use Rattle.fields.specs.Numbers.{filled, part}
use Rattle.fields.proofs.Parts.{length_joined, part_joined}
use Rattle.drawing.specs.Drawing.{priority}
use Rattle.kinds.specs.Kind.{Kind}
use Rattle.tree.specs.Laws.{map_node}
use Rattle.tree.specs.Tree.{Section, Node}
use Rattle.tree.proofs.Bounds.{Bounded, nodes_bounded}
use Rattle.tree.proofs.Lists.{all_join, map_same, map_twice}
use Rattle.tree.proofs.Nodes.{nodes_lawful}
use Rattle.planner.specs.Drawing.{rank_before}
use Rattle.planner.specs.Plan.{rank_tree}
use Rattle.planner.specs.Rows.{ranks_of, measure_of, no_section, row_of, section_row}
use Rattle.planner.proofs.Apart.{distinct_counting}
use Rattle.planner.proofs.Carried.{all_counting, plan_is_tree}
use Rattle.planner.proofs.Choosing.{all_unit}
use Rattle.planner.proofs.Order.{strict}
use Rattle.image.specs.declared.settings.Settings.{Settings}
use Rattle.image.specs.Image.{block_from, record_of, section_record, tree_block, tree_of}
use Rattle.image.specs.Messages.{key_of, before, total_measure}
use Rattle.image.specs.Reading.{every}
use Rattle.image.specs.Settings.{alpha_fits}
use Rattle.image.proofs.Blocks.{ones-mask}
use Rattle.image.proofs.Heads.{Limits, limits}
use Rattle.image.proofs.Loops.{every_true}
use Rattle.rendering.specs.Laws.{table_of, priorities_of, measures_of, PlansRenderImages}
use Rattle.rendering.proofs.Ranks.{drawn_alike}
use Rattle.rendering.specs.Rendered.{row_record, message_at, in_table, renderable, row_block}

-- the front of a list that was filled up
front_filled : {X : Type 0} (n : ℕ) (blank : X) (xs : List X) (k : ℕ) → length xs ≡ k → take k (filled n blank xs) ≡ xs
front_filled n blank xs k long = take_at xs (replicate (n - length xs) blank) k long

module _ (kind : Kind) (ms : List (List ℕ)) (wide : AllByRecursion (λ m. length m ≡ kind.width) ms) where
  abbrev Rank : ℕ → Type 0
  Rank i = i < length ms

  message_is : (i : ℕ) → Rank i → message_at kind (table_of ms) i ≡ get_or ms i []
  message_is i inside = ap (part (i * kind.width) kind.width) (sym (append-nil (table_of ms))) ∙ part_joined (λ m. m) kind.width ms [] wide i [] inside

  present : (i : ℕ) → Rank i → in_table kind (table_of ms) i ≡ true
  present i inside = le-leb _ (length (table_of ms)) (omega (arith, length_joined (λ m. m) kind.width ms wide, mul-le-mul_right kind.width inside))

  -- the sum of the measures, by the list of them
  sums : (ranks : List ℕ) → AllByRecursion Rank ranks → measure_of (measures_of kind ms) ranks ≡ total_measure kind (map (λ i. get_or ms i []) ranks)
  sums [] all = refl
  sums (i ∷ ranks) all =
      sum_by-cons (λ j. get_or (measures_of kind ms) j 0) i ranks
      ∙ ap₂ ◌+◌ (get_or-map kind.measured ms i [] 0 all.0) (sums ranks all.1)
      ∙ sym (sum_by-cons kind.measured (get_or ms i []) (map (λ j. get_or ms j []) ranks))

  -- a section of messages, from one of ranks
  abbrev carried : Section ℕ → Section (List ℕ)
  carried s = record { number = s.number; members = map (λ i. get_or ms i []) s.members }

  record_is : (s : Section ℕ) → AllByRecursion Rank s.members → row_record (section_row (measures_of kind ms) s) ≡ section_record kind (carried s)
  record_is s inside = ap₂ (record_of s.number) (sym (length-map s.members (λ i. get_or ms i []))) (sums s.members inside)

  records_are : (sections : List (Section ℕ)) → AllByRecursion (λ s. AllByRecursion Rank s.members) sections → flat_map row_record (map (section_row (measures_of kind ms)) sections) ≡ flat_map (section_record kind) (map carried sections)
  records_are [] all = refl
  records_are (s ∷ sections) all = ap₂ ◌++◌ (record_is s all.0) (records_are sections all.1)

  module _ (alpha : ℕ) (node : Node ℕ) (few : length node.entries ≤ alpha) (known : Bounded Rank (length ms) node) where
    ranks_are : ranks_of (row_of (measures_of kind ms) node) ≡ node.entries
    ranks_are = front_filled 16 0 node.entries (length node.entries) refl

    fan_is : ones (mask_of node.active) + 1 ≡ length node.sections
    fan_is = ap (λ n. n + 1) (ones-mask node.active) ∙ sym known.fan

    pub row_block_is : row_block kind alpha (table_of ms) (row_of (measures_of kind ms) node) ≡ tree_block kind alpha (map_node (λ i. get_or ms i []) node)
    row_block_is =
        ap₂ (block_from kind alpha (mask_of node.active) node.weight node.parent)
        (ap (map (message_at kind (table_of ms))) ranks_are ∙ map_same (message_at kind (table_of ms)) (λ i. get_or ms i []) node.entries (All-weaker _ _ message_is node.entries known.entries))
        (ap (flat_map row_record) (front_filled 17 no_section (map (section_row (measures_of kind ms)) node.sections) _ (length-map node.sections (section_row (measures_of kind ms)) ∙ sym fan_is))
        ∙ records_are node.sections (All-weaker _ _ (λ s inside. inside.0) node.sections known.members))

    pub row_renders : alpha_fits kind.width alpha ≡ true → renderable kind alpha (table_of ms) (row_of (measures_of kind ms) node) ≡ true
    row_renders fits =
        and_from _ _ fits
        (and_from _ _ (le-leb _ alpha few)
        (and_from _ _ (le-leb _ alpha (omega (arith, ones-mask node.active, count_by-le-length (λ b. b) node.active, known.flags, few)))
        (ap (every (in_table kind (table_of ms))) ranks_are ∙ every_true (in_table kind (table_of ms)) node.entries (All-weaker _ _ present node.entries known.entries))))

-- what is known of each node of the plan
record Known (s : Settings) (n : ℕ) (node : Node ℕ) : Type 0 where
  few : length node.entries ≤ s.alpha
  bounded : Bounded (λ i. i < n) n node

known : (s : Settings) (priorities : List ℕ) (n : ℕ) → Limits s → length priorities ≡ n → AllByRecursion (Known s n) (rank_tree priorities s.alpha s.rho)
known s priorities n l same =
    let ranks = range_with_len 0 (length priorities) in
    let long : length ranks ≤ n = omega (arith, length-range_with_len 0 (length priorities), same) in
    all_join (λ node laws bounded. record { few = omega (arith, laws.full); bounded = bounded }) (rank_tree priorities s.alpha s.rho)
    (nodes_lawful (strict priorities) s.alpha s.rho l.alpha_low l.rho_low (length ranks) 0 1 ranks (all_unit ranks) (distinct_counting 0 (length priorities)))
    (nodes_bounded (rank_before priorities) s.alpha s.rho (λ i. i < n) n (length ranks) 0 1 ranks (all_counting n (length priorities) same) long)

pub plans_render_images : PlansRenderImages
plans_render_images kind s ms lawful fit set =
    let f = λ (i : ℕ). get_or ms i [] in
    let priorities = priorities_of kind ms in
    let measures = measures_of kind ms in
    let plan = rank_tree priorities s.alpha s.rho in
    let same : length priorities ≡ length ms = length-map ms (λ m. priority (key_of kind m)) in
    let wide = All-weaker _ _ (λ m v. v.long) ms set.each in
    let each = known s priorities (length ms) (limits kind.width s fit) same in
    let tree_is : tree_of kind s ms ≡ map (map_node f) plan = plan_is_tree (List ℕ) (before kind) priorities s.alpha s.rho ms [] same (drawn_alike kind lawful ms set) in
    record {
      possible = All-map _ (row_of measures) plan (All-weaker _ _ (λ node k. row_renders kind ms wide s.alpha node k.few k.bounded (and_parts _ _ fit).0) plan each);
      blocks =
          map_twice (row_of measures) (row_block kind s.alpha (table_of ms)) plan
          ∙ map_same _ _ plan (All-weaker _ _ (λ node k. row_block_is kind ms wide s.alpha node k.few k.bounded) plan each)
          ∙ sym (map_twice (map_node f) (tree_block kind s.alpha) plan)
          ∙ ap (map (tree_block kind s.alpha)) (sym tree_is);
    }
