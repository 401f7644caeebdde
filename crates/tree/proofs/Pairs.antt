-- Elements that are each related to every later one, and stay so in a filter and in the nodes. Assumes nothing.
use Rattle.std.proofs.Common.{ℕ, zero, suc, ◌<◌, Bool, List, [], ◌∷◌, ◌++◌, length, get_or, filter, arith}
use Rattle.std.specs.List.{AllByRecursion}
use Rattle.std.proofs.ByRecursion.{All-get_or, all_kept_by}
use Rattle.std.proofs.lemmas.Bool.{cond_both}
use Rattle.tree.specs.Tree.{among_earliest, nodes}
use Rattle.tree.specs.Laws.{Pairwise}
use Rattle.tree.proofs.Nodes.{nodes_each}
use Rattle.tree.proofs.Sections.{sections_pairwise}

module _ {X : Type 0} (R : X → X → Type 0) where
  pub pairwise_kept_by : (p : X → Bool) (xs : List X) → Pairwise R xs → Pairwise R (filter p xs)
  pairwise_kept_by p [] related = tt
  pairwise_kept_by p (x ∷ xs) related =
      let rest = pairwise_kept_by p xs related.1 in
      cond_both (p x) _ _ (Pairwise R) (λ _. (all_kept_by p (R x) xs related.0, rest)) (λ _. rest)

  -- all that come before an element
  pub pairwise_before : (front : List X) (x : X) (xs : List X) → Pairwise R (front ++ x ∷ xs) → AllByRecursion (λ y. R y x) front
  pairwise_before [] x xs related = tt
  pairwise_before (y ∷ front) x xs related = (middle front related.0, pairwise_before front x xs related.1)
    where
      middle : (front : List X) → AllByRecursion (R y) (front ++ x ∷ xs) → R y x
      middle [] all = all.0
      middle (z ∷ front) all = middle front all.1

  -- the elements at two places
  pub pairwise_at : (xs : List X) (i j : ℕ) (d : X) → Pairwise R xs → i < j → j < length xs → R (get_or xs i d) (get_or xs j d)
  pairwise_at [] i j d related less inside = absurd (omega arith)
  pairwise_at (x ∷ xs) i zero d related less inside = absurd (omega arith)
  pairwise_at (x ∷ xs) zero (suc j) d related less inside = All-get_or (R x) xs j d (omega arith) related.0
  pairwise_at (x ∷ xs) (suc i) (suc j) d related less inside = pairwise_at xs i j d related.1 (omega arith) (omega arith)

  -- the entries of each node are related as they were in the list
  pub nodes_pairwise : (before : X → X → Bool) (alpha rho fuel parent k : ℕ) (xs : List X) → Pairwise R xs → AllByRecursion (λ node. Pairwise R node.entries) (nodes before alpha rho fuel parent k xs)
  nodes_pairwise before alpha rho =
      nodes_each before alpha rho (Pairwise R) _ (sections_pairwise before alpha rho R) (λ below parent k xs some. pairwise_kept_by (among_earliest before alpha xs) xs)
