-- The tree over mapped elements, where the map keeps the drawing order. Assumes nothing.
use Rattle.std.proofs.Common.{◌≡◌, ℕ, zero, suc, ◌+◌, ◌-◌, Bool, true, false, ltb, List, [], ◌∷◌, map, length, refl, ap, ◌∙◌, ap₂}
use Rattle.std.specs.List.{AllByRecursion}
use Rattle.std.proofs.ByRecursion.{All-weaker, all_kept_by}
use Rattle.std.proofs.lemmas.List.{length-map, map-append}
use Rattle.tree.specs.Tree.{Section, Node, fan_out, into_first, cut, forest, numbered, drawn_before, among_earliest, block, is_active, sections, nodes}
use Rattle.tree.specs.Laws.{map_node}
use Rattle.tree.proofs.Cutting.{cut_step, all_cut}
use Rattle.tree.proofs.Lists.{kept_by_map, map_tests}
use Rattle.tree.proofs.Nodes.{root_node}

-- a section with each of its members replaced
abbrev pub map_section : {X Y : Type 0} → (X → Y) → Section X → Section Y
map_section f s = record { number = s.number; members = map f s.members }

module _ {X Y : Type 0} (f : X → Y) where
  into_first-map : (x : X) (parts : List (List X)) → into_first (f x) (map (map f) parts) ≡ map (map f) (into_first x parts)
  into_first-map x [] = refl
  into_first-map x (s ∷ parts) = refl

  pub cut-map : (p p' : X → Bool) (q q' : Y → Bool) (xs : List X) → AllByRecursion (λ x. q (f x) ≡ p x) xs → AllByRecursion (λ x. q' (f x) ≡ p' x) xs → cut q q' (map f xs) ≡ map (map f) (cut p p' xs)
  cut-map p p' q q' [] same same' = refl
  cut-map p p' q q' (x ∷ xs) same same' = rw (same.0, same'.0, cut-map p p' q q' xs same.1 same'.1) (go (p x) (p' x) (cut p p' xs))
    where
      go : (s t : Bool) (rest : List (List X)) → cut_step (f x) s t (map (map f) rest) ≡ map (map f) (cut_step x s t rest)
      go true t rest = refl
      go false true rest = refl
      go false false rest = into_first-map x rest

  module _ (below : ℕ → List X → List (Node X)) (below' : ℕ → List Y → List (Node Y)) where
    pub forest-map : (k : ℕ) (parts : List (List X)) → AllByRecursion (λ s. (j : ℕ) → below' j (map f s) ≡ map (map_node f) (below j s)) parts → forest below' k (map (map f) parts) ≡ map (map_node f) (forest below k parts)
    forest-map k [] each = refl
    forest-map k (s ∷ parts) each =
        rw (each.0 k, length-map (below k s) (map_node f), forest-map (k + length (below k s)) parts each.1, map-append (map_node f) (below k s) (forest below (k + length (below k s)) parts))

    pub numbered-map : (k : ℕ) (parts : List (List X)) → AllByRecursion (λ s. (j : ℕ) → below' j (map f s) ≡ map (map_node f) (below j s)) parts → numbered below' k (map (map f) parts) ≡ map (map_section f) (numbered below k parts)
    numbered-map k [] each = refl
    numbered-map k ([] ∷ parts) each = ap (λ l. record { number = 0; members = [] } ∷ l) (numbered-map k parts each.1)
    numbered-map k ((x ∷ s) ∷ parts) each =
        rw (each.0 k, length-map (below k (x ∷ s)) (map_node f)) (ap (λ l. record { number = k; members = map f (x ∷ s) } ∷ l) (numbered-map (k + length (below k (x ∷ s))) parts each.1))

  module _ {P : X → Type 0} (before_x : X → X → Bool) (before_y : Y → Y → Bool) (keeps : (x y : X) → P x → P y → before_y (f x) (f y) ≡ before_x x y) where
    pub drawn_before-map : (xs : List X) (x : X) → AllByRecursion P xs → P x → drawn_before before_y (map f xs) (f x) ≡ drawn_before before_x xs x
    drawn_before-map [] x all px = refl
    drawn_before-map (y ∷ ys) x all px = rw (keeps y x all.0 px, drawn_before-map ys x all.1 px)

    pub among_earliest-map : (k : ℕ) (xs : List X) → AllByRecursion P xs → (ys : List X) → AllByRecursion P ys → AllByRecursion (λ x. among_earliest before_y k (map f xs) (f x) ≡ among_earliest before_x k xs x) ys
    among_earliest-map k xs all ys all' = All-weaker P _ (λ x px. ap (λ n. ltb n k) (drawn_before-map xs x all px)) ys all'

    module _ (alpha rho : ℕ) where
      pub is_active-map : (xs : List X) → AllByRecursion P xs → (ys : List X) → AllByRecursion P ys → AllByRecursion (λ x. is_active before_y alpha rho (map f xs) (f x) ≡ is_active before_x alpha rho xs x) ys
      is_active-map xs all ys all' = rw length-map (among_earliest-map (fan_out alpha rho (length xs) - 1) xs all ys all')

      pub block-map : (xs : List X) → AllByRecursion P xs → block before_y alpha (map f xs) ≡ map f (block before_x alpha xs)
      block-map xs all = kept_by_map f (among_earliest before_x alpha xs) (among_earliest before_y alpha (map f xs)) xs (among_earliest-map alpha xs all xs all)

      pub sections_map : (xs : List X) → AllByRecursion P xs → sections before_y alpha rho (map f xs) ≡ map (map f) (sections before_x alpha rho xs)
      sections_map xs all = cut-map (is_active before_x alpha rho xs) (among_earliest before_x alpha xs) (is_active before_y alpha rho (map f xs)) (among_earliest before_y alpha (map f xs)) xs (is_active-map xs all xs all) (among_earliest-map alpha xs all xs all)

      active-map : (xs : List X) → AllByRecursion P xs → map (is_active before_y alpha rho (map f xs)) (block before_y alpha (map f xs)) ≡ map (is_active before_x alpha rho xs) (block before_x alpha xs)
      active-map xs all =
          ap (map (is_active before_y alpha rho (map f xs))) (block-map xs all)
          ∙ map_tests f (is_active before_x alpha rho xs) (is_active before_y alpha rho (map f xs)) (block before_x alpha xs) (is_active-map xs all (block before_x alpha xs) (all_kept_by (among_earliest before_x alpha xs) P xs all))

      -- if mapping the elements maps the nodes of each section, it maps the node above them
      module _ (below : ℕ → List X → List (Node X)) (below' : ℕ → List Y → List (Node Y)) (k : ℕ) (xs : List X) (all : AllByRecursion P xs) (each : AllByRecursion (λ s. (j : ℕ) → below' j (map f s) ≡ map (map_node f) (below j s)) (sections before_x alpha rho xs)) where
        numbered_sections_map : numbered below' (k + 1) (sections before_y alpha rho (map f xs)) ≡ map (map_section f) (numbered below (k + 1) (sections before_x alpha rho xs))
        numbered_sections_map = ap (numbered below' (k + 1)) (sections_map xs all) ∙ numbered-map below below' (k + 1) (sections before_x alpha rho xs) each

        forest_sections_map : forest below' (k + 1) (sections before_y alpha rho (map f xs)) ≡ map (map_node f) (forest below (k + 1) (sections before_x alpha rho xs))
        forest_sections_map = ap (forest below' (k + 1)) (sections_map xs all) ∙ forest-map below below' (k + 1) (sections before_x alpha rho xs) each

        root_node-map : (parent : ℕ) → root_node before_y alpha rho below' parent k (map f xs) ≡ map_node f (root_node before_x alpha rho below parent k xs)
        root_node-map parent =
            λ i. record {
              parent = parent;
              entries = block-map xs all i;
              active = active-map xs all i;
              weight = length-map xs f i;
              sections = numbered_sections_map i;
            }

      -- mapping the elements maps each node
      pub nodes-map : (fuel parent k : ℕ) (xs : List X) → AllByRecursion P xs → nodes before_y alpha rho fuel parent k (map f xs) ≡ map (map_node f) (nodes before_x alpha rho fuel parent k xs)
      nodes-map zero parent k xs all = refl
      nodes-map (suc fuel) parent k [] all = refl
      nodes-map (suc fuel) parent k (x ∷ xs) all =
          let below = nodes before_x alpha rho fuel k in
          let below' = nodes before_y alpha rho fuel k in
          let each : AllByRecursion (λ s. (j : ℕ) → below' j (map f s) ≡ map (map_node f) (below j s)) (sections before_x alpha rho (x ∷ xs)) =
          All-weaker (AllByRecursion P) _ (λ s h j. nodes-map fuel k j s h) _ (all_cut (is_active before_x alpha rho (x ∷ xs)) (among_earliest before_x alpha (x ∷ xs)) P (x ∷ xs) all) in
          ap₂ ◌∷◌ (root_node-map below below' k (x ∷ xs) all each parent) (forest_sections_map below below' k (x ∷ xs) all each)
