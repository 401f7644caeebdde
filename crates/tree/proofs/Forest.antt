-- The nodes of several subtrees, and their numbered sections, from what is known of each subtree. Assumes nothing.
use Rattle.std.proofs.Common.{◌≡◌, ℕ, ◌+◌, ◌<◌, ◌≤◌, List, [], ◌∷◌, ◌++◌, map, length, sym, refl, ap, ◌∙◌, add-zero, arith}
use Rattle.std.specs.List.Sorted.{IsPermutation}
use Rattle.std.specs.List.{flat_map, AllByRecursion}
use Rattle.std.proofs.ByRecursion.{All-append}
use Rattle.std.proofs.lemmas.List.{length-append, length-map}
use Rattle.std.proofs.lemmas.List.Sorted.{IsPermutation-refl}
use Rattle.tree.specs.Tree.{Node, forest, numbered}
use Rattle.tree.proofs.Cutting.{together}
use Rattle.tree.proofs.Lists.{joined_append}
use Rattle.tree.proofs.Shuffles.{shuffled_append}

module _ {X : Type 0} (below : ℕ → List X → List (Node X)) where
  -- what is true of each node of each subtree is true of each node
  pub all_forest : (Q : Node X → Type 0) (k : ℕ) (parts : List (List X)) → AllByRecursion (λ s. (j : ℕ) → AllByRecursion Q (below j s)) parts → AllByRecursion Q (forest below k parts)
  all_forest Q k [] each = tt
  all_forest Q k (s ∷ parts) each = All-append Q (below k s) _ (each.0 k) (all_forest Q (k + length (below k s)) parts each.1)

  -- if each subtree has the elements of its part, all have those of all parts
  pub forest_shuffled : (k : ℕ) (parts : List (List X)) → AllByRecursion (λ s. (j : ℕ) → IsPermutation s (flat_map (λ node. node.entries) (below j s))) parts → IsPermutation (together parts) (flat_map (λ node. node.entries) (forest below k parts))
  forest_shuffled k [] each = IsPermutation-refl []
  forest_shuffled k (s ∷ parts) each =
      rw joined_append (shuffled_append s _ (together parts) _ (each.0 k) (forest_shuffled (k + length (below k s)) parts each.1))

  -- the members of the sections are the parts
  pub numbered_members : (k : ℕ) (parts : List (List X)) → map (λ s. s.members) (numbered below k parts) ≡ parts
  numbered_members k [] = refl
  numbered_members k ([] ∷ parts) = ap (λ l. [] ∷ l) (numbered_members k parts)
  numbered_members k ((x ∷ s) ∷ parts) = ap (λ l. (x ∷ s) ∷ l) (numbered_members (k + length (below k (x ∷ s))) parts)

  pub length-numbered : (k : ℕ) (parts : List (List X)) → length (numbered below k parts) ≡ length parts
  length-numbered k parts = sym (length-map (numbered below k parts) (λ s. s.members)) ∙ ap length (numbered_members k parts)

  pub all_numbered : (Q : List X → Type 0) (k : ℕ) (parts : List (List X)) → AllByRecursion Q parts → AllByRecursion (λ s. Q s.members) (numbered below k parts)
  all_numbered Q k [] each = tt
  all_numbered Q k ([] ∷ parts) each = (each.0, all_numbered Q k parts each.1)
  all_numbered Q k ((x ∷ s) ∷ parts) each = (each.0, all_numbered Q (k + length (below k (x ∷ s))) parts each.1)

-- the numbers of sections, if an empty part has no nodes
module _ {X : Type 0} (below : ℕ → List X → List (Node X)) (empty : (j : ℕ) → below j [] ≡ []) (Q : ℕ → Type 0) (none : Q 0) (low high : ℕ) where
  -- what is true of 0, and of each number at which the nodes of a part may begin, is true of each section's number
  pub all_numbers : (k : ℕ) (parts : List (List X)) → low ≤ k → k + length (forest below k parts) ≤ high → AllByRecursion (λ s. 0 < length s → (j : ℕ) → low ≤ j → j + length (below j s) ≤ high → Q j) parts → AllByRecursion (λ s. Q s.number) (numbered below k parts)
  all_numbers k [] from h each = tt
  all_numbers k ([] ∷ parts) from h each =
      let same : forest below k ([] ∷ parts) ≡ forest below k parts = rw empty (ap (λ j. forest below j parts) (add-zero k)) in
      (none, all_numbers k parts from (omega (arith, h, ap length same)) each.1)
  all_numbers k ((x ∷ s) ∷ parts) from h each =
      let whole = length-append (below k (x ∷ s)) (forest below (k + length (below k (x ∷ s))) parts) in
      (each.0 (omega arith) k from (omega (arith, h, whole)), all_numbers (k + length (below k (x ∷ s))) parts (omega arith) (omega (arith, h, whole)) each.1)

-- equal subtrees give equal nodes and sections
module _ {X : Type 0} (m n : ℕ → List X → List (Node X)) where
  pub forest_same : (k : ℕ) (parts : List (List X)) → AllByRecursion (λ s. (j : ℕ) → m j s ≡ n j s) parts → forest m k parts ≡ forest n k parts
  forest_same k [] each = refl
  forest_same k (s ∷ parts) each = rw (each.0 k) (ap (λ l. n k s ++ l) (forest_same (k + length (n k s)) parts each.1))

  pub numbered_same : (k : ℕ) (parts : List (List X)) → AllByRecursion (λ s. (j : ℕ) → m j s ≡ n j s) parts → numbered m k parts ≡ numbered n k parts
  numbered_same k [] each = refl
  numbered_same k ([] ∷ parts) each = ap (λ l. record { number = 0; members = [] } ∷ l) (numbered_same k parts each.1)
  numbered_same k ((x ∷ s) ∷ parts) each = rw (each.0 k) (ap (λ l. record { number = k; members = x ∷ s } ∷ l) (numbered_same (k + length (n k (x ∷ s))) parts each.1))
