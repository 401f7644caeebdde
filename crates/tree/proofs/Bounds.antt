-- Bounds on what nodes hold, whatever the drawing order. Assumes nothing.
use Rattle.std.proofs.Common.{◌≡◌, ℕ, zero, suc, ◌+◌, ◌≤◌, Bool, true, false, cond, List, [], ◌∷◌, map, length, count_by, filter, refl, ap, ◌∙◌, add-zero, arith}
use Rattle.std.specs.List.{AllByRecursion}
use Rattle.std.proofs.ByRecursion.{All-append, all_kept_by, All-weaker}
use Rattle.std.proofs.lemmas.List.{length-append, length-map}
use Rattle.std.proofs.lemmas.List.Sums.{sum_by-cons}
use Rattle.std.proofs.lemmas.Bool.{both_ways}
use Rattle.tree.specs.Tree.{Node, block, is_active, among_earliest, sections, forest, numbered, nodes}
use Rattle.tree.proofs.Lists.{all_both}
use Rattle.tree.proofs.Cutting.{length_cut, all_cut, cut_lengths, part-le-together}
use Rattle.tree.proofs.Forest.{all_forest, length-numbered, all_numbered}
use Rattle.tree.proofs.Nodes.{root_node}
use Rattle.tree.proofs.Sections.{active_in_block}

-- among what is kept, the flags of a narrower test are as many as it passes
flags_kept : {X : Type 0} (narrow wide : X → Bool) → ((x : X) → narrow x ≡ true → wide x ≡ true) → (xs : List X) → count_by (λ b. b) (map narrow (filter wide xs)) ≡ length (filter narrow xs)
flags_kept narrow wide within [] = refl
flags_kept narrow wide within (x ∷ xs) = go (narrow x) (wide x) refl (within x) (flags_kept narrow wide within xs)
  where
    counted : (n : Bool) → narrow x ≡ n → count_by (λ b. b) (narrow x ∷ map narrow (filter wide xs)) ≡ cond n (suc (count_by (λ b. b) (map narrow (filter wide xs)))) (count_by (λ b. b) (map narrow (filter wide xs)))
    counted true is = ap (λ b. count_by (λ b. b) (b ∷ map narrow (filter wide xs))) is ∙ sum_by-cons (λ b. cond b 1 0) true (map narrow (filter wide xs)) ∙ omega arith
    counted false is = ap (λ b. count_by (λ b. b) (b ∷ map narrow (filter wide xs))) is ∙ sum_by-cons (λ b. cond b 1 0) false (map narrow (filter wide xs)) ∙ omega arith

    go : (n w : Bool) → narrow x ≡ n → (n ≡ true → w ≡ true) → count_by (λ b. b) (map narrow (filter wide xs)) ≡ length (filter narrow xs) → count_by (λ b. b) (map narrow (cond w (x ∷ filter wide xs) (filter wide xs))) ≡ length (cond n (x ∷ filter narrow xs) (filter narrow xs))
    go true true is h rest = counted true is ∙ ap suc rest
    go true false is h rest = absurd (both_ways false refl (h refl))
    go false true is h rest = counted false is ∙ rest
    go false false is h rest = rest

-- a node of a subtree of at most n elements, all of which P holds, in a tree of numbers up to top: a flag for each entry, one
-- section more than flags are set
pub record Bounded {X : Type 0} (P : X → Type 0) (n : ℕ) (node : Node X) : Type 0 where
  pub entries : AllByRecursion P node.entries
  pub flags : length node.active ≡ length node.entries
  pub fan : length node.sections ≡ count_by (λ b. b) node.active + 1
  pub weight : node.weight ≤ n
  pub members : AllByRecursion (λ s. AllByRecursion P s.members × (length s.members ≤ n)) node.sections

module _ {X : Type 0} (before : X → X → Bool) (alpha rho : ℕ) where
  -- no section has more elements than there are
  section_le : (xs : List X) → AllByRecursion (λ s. length s ≤ length xs) (sections before alpha rho xs)
  section_le xs =
      let lengths = cut_lengths _ _ (active_in_block before alpha rho xs) xs in
      All-weaker _ _ (λ s h. omega (arith, lengths)) _ (part-le-together (sections before alpha rho xs))

  module _ (P : X → Type 0) (n : ℕ) where
    abbrev Small : List X → Type 0
    Small xs = AllByRecursion P xs × (length xs ≤ n)

    small_sections : (xs : List X) → Small xs → AllByRecursion Small (sections before alpha rho xs)
    small_sections xs h =
        all_both (AllByRecursion P) (λ s. length s ≤ n) _ (all_cut (is_active before alpha rho xs) (among_earliest before alpha xs) P xs h.0) (All-weaker (λ s. length s ≤ length xs) (λ s. length s ≤ n) (λ s l. omega (arith, h.1)) _ (section_le xs))

    root_bounded : (below : ℕ → List X → List (Node X)) (parent k : ℕ) (xs : List X) → Small xs → Bounded P n (root_node before alpha rho below parent k xs)
    root_bounded below parent k xs h = record {
      entries = all_kept_by (among_earliest before alpha xs) P xs h.0;
      flags = length-map (block before alpha xs) (is_active before alpha rho xs);
      fan = omega (arith, length-numbered below (k + 1) (sections before alpha rho xs), length_cut (is_active before alpha rho xs) (among_earliest before alpha xs) xs, flags_kept (is_active before alpha rho xs) (among_earliest before alpha xs) (active_in_block before alpha rho xs) xs);
      weight = h.1;
      members = all_numbered below Small (k + 1) (sections before alpha rho xs) (small_sections xs h);
    }

    pub nodes_bounded : (fuel parent k : ℕ) (xs : List X) → AllByRecursion P xs → length xs ≤ n → AllByRecursion (Bounded P n) (nodes before alpha rho fuel parent k xs)
    nodes_bounded zero parent k xs all short = tt
    nodes_bounded (suc fuel) parent k [] all short = tt
    nodes_bounded (suc fuel) parent k (x ∷ xs) all short = (
      root_bounded (nodes before alpha rho fuel k) parent k (x ∷ xs) (all, short),
      all_forest (nodes before alpha rho fuel k) (Bounded P n) (k + 1) _ (All-weaker Small _ (λ s h j. nodes_bounded fuel k j s h.0 h.1) _ (small_sections (x ∷ xs) (all, short))),
    )

-- block numbers: no section and no parent has a number past the end of the tree
pub record Numbered {X : Type 0} (top : ℕ) (node : Node X) : Type 0 where
  pub parent : node.parent ≤ top
  pub sections : AllByRecursion (λ s. s.number ≤ top) node.sections

module _ {X : Type 0} (below : ℕ → List X → List (Node X)) (empty : (j : ℕ) → below j [] ≡ []) (top : ℕ) where
  numbers_le : (k : ℕ) (parts : List (List X)) → k + length (forest below k parts) ≤ top → AllByRecursion (λ s. s.number ≤ top) (numbered below k parts)
  numbers_le k [] h = tt
  numbers_le k ([] ∷ parts) h =
      let same : forest below k ([] ∷ parts) ≡ forest below k parts = rw empty (ap (λ j. forest below j parts) (add-zero k)) in
      (omega arith, numbers_le k parts (omega (arith, h, ap length same)))
  numbers_le k ((x ∷ s) ∷ parts) h =
      let whole = length-append (below k (x ∷ s)) (forest below (k + length (below k (x ∷ s))) parts) in
      (omega arith, numbers_le (k + length (below k (x ∷ s))) parts (omega (arith, h, whole)))

  forest-numbered : ((j : ℕ) (s : List X) → j + length (below j s) ≤ top → AllByRecursion (Numbered top) (below j s)) → (k : ℕ) (parts : List (List X)) → k + length (forest below k parts) ≤ top → AllByRecursion (Numbered top) (forest below k parts)
  forest-numbered each k [] h = tt
  forest-numbered each k (s ∷ parts) h =
      let whole = length-append (below k s) (forest below (k + length (below k s)) parts) in
      All-append (Numbered top) (below k s) _ (each k s (omega (arith, h, whole))) (forest-numbered each (k + length (below k s)) parts (omega (arith, h, whole)))

module _ {X : Type 0} (before : X → X → Bool) (alpha rho : ℕ) where
  no_nodes : (fuel parent k : ℕ) → nodes before alpha rho fuel parent k [] ≡ []
  no_nodes zero parent k = refl
  no_nodes (suc fuel) parent k = refl

  pub nodes-numbered : (top fuel parent k : ℕ) (xs : List X) → parent ≤ top → k + length (nodes before alpha rho fuel parent k xs) ≤ top → AllByRecursion (Numbered top) (nodes before alpha rho fuel parent k xs)
  nodes-numbered top zero parent k xs low h = tt
  nodes-numbered top (suc fuel) parent k [] low h = tt
  nodes-numbered top (suc fuel) parent k (x ∷ xs) low h =
      let below = nodes before alpha rho fuel k in
      let parts = sections before alpha rho (x ∷ xs) in
      let rest : k + 1 + length (forest below (k + 1) parts) ≤ top = omega (arith, h) in (
        record { parent = low; sections = numbers_le below (no_nodes fuel k) top (k + 1) parts rest },
        forest-numbered below (no_nodes fuel k) top (λ j s l. nodes-numbered top fuel k j s (omega arith) l) (k + 1) parts rest,
      )
