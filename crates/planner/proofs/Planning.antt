-- A block and its sections, as planning finds them, are those of the definition. Assumes nothing.
use Rattle.std.proofs.Common.{◌≡◌, ℕ, suc, ◌+◌, ◌-◌, ◌*◌, ◌<◌, ◌≤◌, min, Bool, true, List, [], ◌∷◌, map, length, set, sym, refl, ap, ◌∙◌, le_refl, arith}
use lib.Count.{ones}
use lib.Lanes.{mask_l as mask_of}
use lib.Seq.{sets}
use Rattle.std.specs.List.{AllByRecursion}
use Rattle.std.proofs.ByRecursion.{all_kept_by, All-weaker, sum_by_le}
use Rattle.std.proofs.lemmas.List.{length-append, length-map}
use Rattle.std.proofs.lemmas.List.Sums.{sum_by-append, sum_by-cons}
use Rattle.fields.specs.Numbers.{filled}
use Rattle.tree.specs.Tree.{Node, fan_out, cut, forest, numbered, block, is_active, among_earliest, sections, nodes}
use Rattle.tree.specs.Laws.{Distinct}
use Rattle.tree.proofs.Bounds.{nodes_bounded}
use Rattle.tree.proofs.Lists.{kept_by_same, map_same, all_join}
use Rattle.tree.proofs.Cutting.{together, length_cut, pairwise_cut, cut_lengths}
use Rattle.tree.proofs.Forest.{forest_same, numbered_same, length-numbered}
use Rattle.tree.proofs.Nodes.{root_node, fuel_enough, nodes_few}
use Rattle.tree.proofs.Sections.{active_in_block, length-block, length_sections, each_section}
use Rattle.planner.specs.declared.bounds.Bounds.{Bounds}
use Rattle.planner.specs.declared.row.Row.{Row}
use Rattle.planner.specs.Bounding.{Allowed, in_block, separates}
use Rattle.planner.specs.Drawing.{rank_before}
use Rattle.planner.specs.Rows.{no_section, section_row, row_of}
use Rattle.planner.specs.Steps.{held_by, root_alone, cut_by, left_by}
use Rattle.planner.specs.Subtrees.{subtree, visits, with_sections}
use Rattle.planner.proofs.Choosing.{all_unit}
use Rattle.planner.proofs.Fan.{fan_within}
use Rattle.planner.proofs.Filling.{ones_marks}
use Rattle.planner.proofs.Order.{strict}
use Rattle.planner.proofs.Placing.{set-sets, sets-filled}

-- bounds that tell the block over xs, some ranks in which none stands twice, under settings that can be planned for
pub record Bounded (ps : List ℕ) (alpha rho : ℕ) (b : Bounds) (xs : List ℕ) : Type 0 where
  pub allowed : Allowed alpha rho
  pub some : 0 < length xs
  pub apart : Distinct xs
  pub block : AllByRecursion (λ x. in_block ps b x ≡ among_earliest (rank_before ps) alpha xs x) xs
  pub active : AllByRecursion (λ x. separates ps b x ≡ is_active (rank_before ps) alpha rho xs x) xs

-- what the bounds of a block over xs make of it: how many it holds, how many it leaves for how many sections, that the mask counts
-- them, and that planning them has less left than planning the block
pub record Divided (ps : List ℕ) (alpha rho : ℕ) (b : Bounds) (xs : List ℕ) : Type 0 where
  pub held : length (held_by ps b xs) ≡ min alpha (length xs)
  pub left : length (held_by ps b xs) + left_by ps b xs ≡ length xs
  pub parts : length (cut_by ps b xs) ≡ fan_out alpha rho (length xs)
  pub fan : length (cut_by ps b xs) ≡ ones (mask_of (map (separates ps b) (held_by ps b xs))) + 1
  pub falls : 3 * left_by ps b xs + length (cut_by ps b xs) < 3 * length xs

-- tests that agree on the elements cut alike, and give the same flags
cut_same : (p p' q q' : ℕ → Bool) (xs : List ℕ) → AllByRecursion (λ x. p x ≡ q x) xs → AllByRecursion (λ x. p' x ≡ q' x) xs → cut p p' xs ≡ cut q q' xs
cut_same p p' q q' [] same same' = refl
cut_same p p' q q' (x ∷ xs) same same' = rw (same.0, same'.0, cut_same p p' q q' xs same.1 same'.1)

module _ (ps : List ℕ) (alpha rho : ℕ) (allowed : Allowed alpha rho) where
  -- there are no more blocks than ranks
  pub subtree_few : (parent k : ℕ) (xs : List ℕ) → Distinct xs → length (subtree ps alpha rho parent k xs) ≤ length xs
  subtree_few parent k xs apart = nodes_few (strict ps) alpha rho allowed.some (length xs) parent k xs (all_unit xs) apart (le_refl (length xs))

  pub forest_few : (parent k : ℕ) (parts : List (List ℕ)) → AllByRecursion Distinct parts → length (forest (subtree ps alpha rho parent) k parts) ≤ length (together parts)
  forest_few parent k [] apart = omega arith
  forest_few parent k (s ∷ parts) apart =
      let first = subtree ps alpha rho parent k s in
      omega (arith, subtree_few parent k s apart.0, forest_few parent (k + length first) parts apart.1, length-append first (forest (subtree ps alpha rho parent) (k + length first) parts), length-append s (together parts))

  -- nor of the sections that some ranks are cut into
  pub cut_few : (parent k : ℕ) (b : Bounds) (xs : List ℕ) → Distinct xs → length (forest (subtree ps alpha rho parent) k (cut_by ps b xs)) ≤ left_by ps b xs
  cut_few parent k b xs apart = forest_few parent k (cut_by ps b xs) (pairwise_cut (separates ps b) (in_block ps b) _ xs apart)

  -- planning few ranks looks at them a bounded number of times
  pub subtree-visits : (parent k : ℕ) (xs : List ℕ) → length xs ≤ 2000 → visits (subtree ps alpha rho parent k xs) ≤ length (subtree ps alpha rho parent k xs) * 6000
  subtree-visits parent k xs short =
      sum_by_le (λ node. 3 * node.weight) 6000 (subtree ps alpha rho parent k xs)
      (All-weaker _ _ (λ node b. omega (arith, b.weight)) _ (nodes_bounded (rank_before ps) alpha rho (λ _. Unit {0}) 2000 (length xs) parent k xs (all_unit xs) short))

  pub forest-visits : (parent k : ℕ) (parts : List (List ℕ)) → length (together parts) ≤ 2000 → visits (forest (subtree ps alpha rho parent) k parts) ≤ length (forest (subtree ps alpha rho parent) k parts) * 6000
  forest-visits parent k [] short = omega arith
  forest-visits parent k (s ∷ parts) short =
      let first = subtree ps alpha rho parent k s in
      let others = forest (subtree ps alpha rho parent) (k + length first) parts in
      let long = length-append s (together parts) in
      omega (arith, subtree-visits parent k s (omega arith), forest-visits parent (k + length first) parts (omega arith), length-append first others, sum_by-append (λ node. 3 * node.weight) first others)

  -- a subtree is its root, and the subtrees of its sections
  pub subtree_is : (parent k : ℕ) (xs : List ℕ) → 0 < length xs → Distinct xs → subtree ps alpha rho parent k xs ≡ root_node (rank_before ps) alpha rho (subtree ps alpha rho k) parent k xs ∷ forest (subtree ps alpha rho k) (k + 1) (sections (rank_before ps) alpha rho xs)
  subtree_is parent k [] some apart = absurd (omega arith)
  subtree_is parent k (x ∷ xs) some apart =
      let each : AllByRecursion (λ s. (j : ℕ) → nodes (rank_before ps) alpha rho (length xs) k j s ≡ subtree ps alpha rho k j s) (sections (rank_before ps) alpha rho (x ∷ xs)) =
      each_section (strict ps) alpha rho allowed.some _ (x ∷ xs) some (all_unit (x ∷ xs)) apart
      (λ s w j. fuel_enough (strict ps) alpha rho allowed.some (length xs) (length s) k j s (all_unit s) w.apart (omega (arith, w.shorter)) (le_refl (length s))) in
      rw (numbered_same (nodes (rank_before ps) alpha rho (length xs) k) (subtree ps alpha rho k) (k + 1) _ each, forest_same (nodes (rank_before ps) alpha rho (length xs) k) (subtree ps alpha rho k) (k + 1) _ each)

module _ {ps : List ℕ} {alpha rho : ℕ} {b : Bounds} {xs : List ℕ} (known : Bounded ps alpha rho b xs) where
  pub held_is : held_by ps b xs ≡ block (rank_before ps) alpha xs
  held_is = kept_by_same _ _ xs known.block

  pub parts_are : cut_by ps b xs ≡ sections (rank_before ps) alpha rho xs
  parts_are = cut_same _ _ _ _ xs known.active known.block

  marks_are : map (separates ps b) (held_by ps b xs) ≡ map (is_active (rank_before ps) alpha rho xs) (block (rank_before ps) alpha xs)
  marks_are = map_same _ _ (held_by ps b xs) (all_kept_by (in_block ps b) _ xs known.active) ∙ ap (map (is_active (rank_before ps) alpha rho xs)) held_is

  parts_count : length (cut_by ps b xs) ≡ fan_out alpha rho (length xs)
  parts_count = ap length parts_are ∙ length_sections (strict ps) alpha rho known.allowed.shares xs (all_unit xs) known.apart

  pub divided : Divided ps alpha rho b xs
  divided =
      record {
        held = held;
        left = left;
        parts = parts_count;
        fan = omega (arith, length_cut (separates ps b) (in_block ps b) xs, ones_marks (in_block ps b) (separates ps b) xs among);
        falls = omega (arith, held, left, parts_count, fan_within alpha rho (length xs) known.allowed.shares, known.allowed.some);
      }
    where
      held : length (held_by ps b xs) ≡ min alpha (length xs)
      held = ap length held_is ∙ length-block (strict ps) alpha xs (all_unit xs) known.apart

      left : length (held_by ps b xs) + left_by ps b xs ≡ length xs
      left = rw (held_is, parts_are) (cut_lengths _ _ (active_in_block (rank_before ps) alpha rho xs) xs)

      among : AllByRecursion (λ x. separates ps b x ≡ true → in_block ps b x ≡ true) xs
      among = all_join (λ x d i active. i ∙ active_in_block (rank_before ps) alpha rho xs x (sym d ∙ active)) xs known.active known.block

  module _ (parent k : ℕ) where
    -- the row with its sections noted is the root's
    pub root_row : (measures : List ℕ) → with_sections (row_of [] (root_alone ps b parent xs)) (sets (row_of [] (root_alone ps b parent xs)).sections 0 (map (section_row measures) (numbered (subtree ps alpha rho k) (k + 1) (cut_by ps b xs)))) ≡ row_of measures (root_node (rank_before ps) alpha rho (subtree ps alpha rho k) parent k xs)
    root_row measures =
        λ i. record {
          parent = parent;
          count = ap length held_is i;
          entries = ap (filled 16 0) held_is i;
          mask = ap mask_of marks_are i;
          weight = length xs;
          sections = noted i;
        }
      where
        below : ℕ → List ℕ → List (Node ℕ)
        below = subtree ps alpha rho k

        fits : length (map (section_row measures) (numbered below (k + 1) (cut_by ps b xs))) ≤ 17
        fits = rw (length-map (numbered below (k + 1) (cut_by ps b xs)) (section_row measures), length-numbered below (k + 1) (cut_by ps b xs), parts_count) (omega (arith, known.allowed.few))

        noted : sets (filled 17 no_section []) 0 (map (section_row measures) (numbered below (k + 1) (cut_by ps b xs))) ≡ filled 17 no_section (map (section_row measures) (numbered below (k + 1) (sections (rank_before ps) alpha rho xs)))
        noted = sets-filled 17 no_section (map (section_row measures) (numbered below (k + 1) (cut_by ps b xs))) fits ∙ ap (λ parts. filled 17 no_section (map (section_row measures) (numbered below (k + 1) parts))) parts_are

    -- the nodes of the sections, with the root before them
    pub subtree_parts : subtree ps alpha rho parent k xs ≡ root_node (rank_before ps) alpha rho (subtree ps alpha rho k) parent k xs ∷ forest (subtree ps alpha rho k) (k + 1) (cut_by ps b xs)
    subtree_parts = subtree_is ps alpha rho known.allowed parent k xs known.some known.apart ∙ ap (λ parts. root_node (rank_before ps) alpha rho (subtree ps alpha rho k) parent k xs ∷ forest (subtree ps alpha rho k) (k + 1) parts) (sym parts_are)

    -- three looks at each rank for the root, and those at the ranks of its sections
    pub subtree_visited : visits (subtree ps alpha rho parent k xs) ≡ 3 * length xs + visits (forest (subtree ps alpha rho k) (k + 1) (cut_by ps b xs))
    subtree_visited = ap visits subtree_parts ∙ sum_by-cons (λ node. 3 * node.weight) (root_node (rank_before ps) alpha rho (subtree ps alpha rho k) parent k xs) (forest (subtree ps alpha rho k) (k + 1) (cut_by ps b xs))

    -- the root and the blocks of its sections are no more than the ranks
    pub blocks_few : 1 + length (forest (subtree ps alpha rho k) (k + 1) (cut_by ps b xs)) ≤ length xs
    blocks_few = omega (arith, subtree_few ps alpha rho known.allowed parent k xs known.apart, ap length subtree_parts)

    -- and planning them looks at few ranks
    pub visits_few : length xs ≤ 2000 → 3 * length xs + visits (forest (subtree ps alpha rho k) (k + 1) (cut_by ps b xs)) ≤ length xs * 6000
    visits_few short = omega (arith, subtree-visits ps alpha rho known.allowed parent k xs short, subtree_few ps alpha rho known.allowed parent k xs known.apart, subtree_visited)

    -- the root's row, written after those of its sections, stands before them
    pub root_placed : (measures : List ℕ) (table : List Row) (row : Row) → 1 ≤ k → row ≡ row_of measures (root_node (rank_before ps) alpha rho (subtree ps alpha rho k) parent k xs) → set (sets table (k + 1 - 1) (map (row_of measures) (forest (subtree ps alpha rho k) (k + 1) (cut_by ps b xs)))) (k - 1) row ≡ sets table (k - 1) (map (row_of measures) (subtree ps alpha rho parent k xs))
    root_placed measures table row first is =
        let up : k + 1 - 1 ≡ suc (k - 1) = omega arith in
        rw (subtree_parts, is, up) (set-sets table (suc (k - 1)) (k - 1) (row_of measures (root_node (rank_before ps) alpha rho (subtree ps alpha rho k) parent k xs)) (map (row_of measures) (forest (subtree ps alpha rho k) (k + 1) (cut_by ps b xs))) (omega arith))
