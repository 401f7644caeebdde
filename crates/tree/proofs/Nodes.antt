-- The nodes of a subtree, by recursion over the fuel. Assumes nothing.
use Rattle.std.proofs.Common.{◌≡◌, ℕ, zero, suc, ◌+◌, ◌<◌, ◌≤◌, Bool, false, List, [], ◌∷◌, map, length, refl, ◌∙◌, arith}
use Rattle.std.specs.List.Sorted.{IsPermutation}
use Rattle.std.specs.List.{flat_map, AllByRecursion}
use Rattle.std.proofs.ByRecursion.{All-weaker}
use Rattle.std.proofs.lemmas.List.Sorted.{IsPermutation-refl, IsPermutation-trans, length_permutation}
use Rattle.tree.specs.Tree.{Node, block, is_active, sections, numbered, nodes}
use Rattle.tree.specs.Laws.{Strict, Distinct, NodeLaws}
use Rattle.tree.proofs.Forest.{all_forest, forest_shuffled, length-numbered, all_numbered, forest_same, numbered_same}
use Rattle.tree.proofs.Lists.{length_le_joined}
use Rattle.tree.proofs.Sections.{sections_shuffled, length-block, length_sections, each_section, sections_later}
use Rattle.tree.proofs.Shuffles.{shuffled_append_right}

-- the first node of the subtree over all, whose other nodes are given by `below`
abbrev pub root_node : {X : Type 0} (before : X → X → Bool) (alpha rho : ℕ) → (ℕ → List X → List (Node X)) → (parent k : ℕ) → List X → Node X
root_node before alpha rho below parent k all =
    record {
      parent = parent;
      entries = block before alpha all;
      active = map (is_active before alpha rho all) (block before alpha all);
      weight = length all;
      sections = numbered below (k + 1) (sections before alpha rho all);
    }

pub nodes_some : {X : Type 0} (before : X → X → Bool) (alpha rho fuel parent k : ℕ) (xs : List X) → 0 < fuel → 0 < length xs → 0 < length (nodes before alpha rho fuel parent k xs)
nodes_some before alpha rho zero parent k xs f l = absurd (omega arith)
nodes_some before alpha rho (suc fuel) parent k [] f l = absurd (omega arith)
nodes_some before alpha rho (suc fuel) parent k (x ∷ xs) f l = omega arith

module _ {X : Type 0} (before : X → X → Bool) (alpha rho : ℕ) where
  pub no_nodes : (fuel parent k : ℕ) → nodes before alpha rho fuel parent k [] ≡ []
  no_nodes zero parent k = refl
  no_nodes (suc fuel) parent k = refl

  -- where the sections of a list of C are of C again, what is true of the first node of every subtree over such a list is true
  -- of each node
  pub nodes_each : (C : List X → Type 0) (Q : Node X → Type 0) → ((xs : List X) → C xs → AllByRecursion C (sections before alpha rho xs)) → ((below : ℕ → List X → List (Node X)) (parent k : ℕ) (xs : List X) → 0 < length xs → C xs → Q (root_node before alpha rho below parent k xs)) → (fuel parent k : ℕ) (xs : List X) → C xs → AllByRecursion Q (nodes before alpha rho fuel parent k xs)
  nodes_each C Q again first zero parent k xs c = tt
  nodes_each C Q again first (suc fuel) parent k [] c = tt
  nodes_each C Q again first (suc fuel) parent k (x ∷ xs) c = (
    first (nodes before alpha rho fuel k) parent k (x ∷ xs) (omega arith) c,
    all_forest (nodes before alpha rho fuel k) Q (k + 1) _ (All-weaker C _ (λ s h j. nodes_each C Q again first fuel k j s h) _ (again (x ∷ xs) c)),
  )

module _ {X : Type 0} {P : X → Type 0} {before : X → X → Bool} (strict : Strict P before) (alpha rho : ℕ) (holds : 1 ≤ alpha) where
  -- what is true of the first node of every subtree is true of each node
  pub all_nodes : (Q : Node X → Type 0) → ((below : ℕ → List X → List (Node X)) (parent k : ℕ) (xs : List X) → 0 < length xs → AllByRecursion P xs → Distinct xs → Q (root_node before alpha rho below parent k xs)) → (fuel parent k : ℕ) (xs : List X) → AllByRecursion P xs → Distinct xs → AllByRecursion Q (nodes before alpha rho fuel parent k xs)
  all_nodes Q first zero parent k xs all apart = tt
  all_nodes Q first (suc fuel) parent k [] all apart = tt
  all_nodes Q first (suc fuel) parent k (x ∷ xs) all apart = (
    first (nodes before alpha rho fuel k) parent k (x ∷ xs) (omega arith) all apart,
    all_forest (nodes before alpha rho fuel k) Q (k + 1) _
        (each_section strict alpha rho holds (λ s. (j : ℕ) → AllByRecursion Q (nodes before alpha rho fuel k j s)) (x ∷ xs) (omega arith) all apart (λ s w j. all_nodes Q first fuel k j s w.all w.apart)),
  )

  -- as much fuel as there are elements is enough
  pub fuel_enough : (fuel fuel' parent k : ℕ) (xs : List X) → AllByRecursion P xs → Distinct xs → length xs ≤ fuel → length xs ≤ fuel' → nodes before alpha rho fuel parent k xs ≡ nodes before alpha rho fuel' parent k xs
  fuel_enough zero zero parent k xs all apart l l' = refl
  fuel_enough zero (suc fuel') parent k [] all apart l l' = refl
  fuel_enough zero (suc fuel') parent k (x ∷ xs) all apart l l' = absurd (omega arith)
  fuel_enough (suc fuel) zero parent k [] all apart l l' = refl
  fuel_enough (suc fuel) zero parent k (x ∷ xs) all apart l l' = absurd (omega arith)
  fuel_enough (suc fuel) (suc fuel') parent k [] all apart l l' = refl
  fuel_enough (suc fuel) (suc fuel') parent k (x ∷ xs) all apart l l' =
      let each : AllByRecursion (λ s. (j : ℕ) → nodes before alpha rho fuel k j s ≡ nodes before alpha rho fuel' k j s) (sections before alpha rho (x ∷ xs)) =
      each_section strict alpha rho holds _ (x ∷ xs) (omega arith) all apart (λ s w j. fuel_enough fuel fuel' k j s w.all w.apart (omega (arith, w.shorter)) (omega (arith, w.shorter))) in
      rw (numbered_same (nodes before alpha rho fuel k) (nodes before alpha rho fuel' k) (k + 1) _ each, forest_same (nodes before alpha rho fuel k) (nodes before alpha rho fuel' k) (k + 1) _ each)

  -- the blocks hold each element exactly once
  pub nodes_shuffled : (fuel parent k : ℕ) (xs : List X) → AllByRecursion P xs → Distinct xs → length xs ≤ fuel → IsPermutation xs (flat_map (λ node. node.entries) (nodes before alpha rho fuel parent k xs))
  nodes_shuffled zero parent k [] all apart l = IsPermutation-refl []
  nodes_shuffled zero parent k (x ∷ xs) all apart l = absurd (omega arith)
  nodes_shuffled (suc fuel) parent k [] all apart l = IsPermutation-refl []
  nodes_shuffled (suc fuel) parent k (x ∷ xs) all apart l =
      IsPermutation-trans _ _ _ (sections_shuffled before alpha rho (x ∷ xs))
      (shuffled_append_right (block before alpha (x ∷ xs)) _ _
      (forest_shuffled (nodes before alpha rho fuel k) (k + 1) _
      (each_section strict alpha rho holds (λ s. (j : ℕ) → IsPermutation s (flat_map (λ node. node.entries) (nodes before alpha rho fuel k j s))) (x ∷ xs) (omega arith) all apart (λ s w j. nodes_shuffled fuel k j s w.all w.apart (omega (arith, w.shorter))))))

  -- each node keeps its laws
  pub nodes_lawful : 1 ≤ rho → (fuel parent k : ℕ) (xs : List X) → AllByRecursion P xs → Distinct xs → AllByRecursion (NodeLaws before alpha rho) (nodes before alpha rho fuel parent k xs)
  nodes_lawful h =
      all_nodes _ (λ below parent k xs some all apart. record {
        full = length-block strict alpha xs all apart;
        fan = length-numbered below (k + 1) _ ∙ length_sections strict alpha rho h xs all apart;
        later = all_numbered below (AllByRecursion (λ y. AllByRecursion (λ x. before y x ≡ false) (block before alpha xs))) (k + 1) _ (sections_later strict alpha rho xs all);
      })

  -- no block is empty
  pub nodes-filled : (fuel parent k : ℕ) (xs : List X) → AllByRecursion P xs → Distinct xs → AllByRecursion (λ node. 0 < length node.entries) (nodes before alpha rho fuel parent k xs)
  nodes-filled = all_nodes _ (λ below parent k xs some all apart. omega (arith, length-block strict alpha xs all apart))

  -- so there are no more blocks than elements
  pub nodes_few : (fuel parent k : ℕ) (xs : List X) → AllByRecursion P xs → Distinct xs → length xs ≤ fuel → length (nodes before alpha rho fuel parent k xs) ≤ length xs
  nodes_few fuel parent k xs all apart l =
      omega (arith, length_le_joined _ (nodes before alpha rho fuel parent k xs) (nodes-filled fuel parent k xs all apart), length_permutation _ _ (nodes_shuffled fuel parent k xs all apart l))
