-- Section numbers lead onward: to a later node of the same subtree, or nowhere. Assumes nothing.
use Rattle.std.proofs.Common.{◌≡◌, ℕ, zero, suc, ◌+◌, ◌<◌, ◌≤◌, Bool, ◌⊎◌, List, [], ◌∷◌, ◌++◌, length, get_or, refl, subst, inl, inr, add-zero, zero-add, arith}
use Rattle.std.specs.List.{AllByRecursion}
use Rattle.std.proofs.lemmas.List.{length-append}
use Rattle.tree.specs.Tree.{Node, sections, forest, nodes}
use Rattle.tree.specs.Laws.{Strict, Distinct}
use Rattle.tree.proofs.Forest.{all_numbers}
use Rattle.tree.proofs.Nodes.{no_nodes, nodes_some}
use Rattle.tree.proofs.Sections.{each_section}

-- the number of a section: none, or between two others
abbrev pub LeadsTo : (low high n : ℕ) → Type 0
LeadsTo low high n = (n ≡ 0) ⊎ ((low < n) × (n < high))

-- nodes numbered on from k, each of whose sections leads past its own node, and not to `high` or past it
abbrev pub Onward : {X : Type 0} → (high k : ℕ) → List (Node X) → Type 0
Onward high k [] = Unit {0}
Onward high k (node ∷ rest) = AllByRecursion (λ s. LeadsTo k high s.number) node.sections × Onward high (k + 1) rest

module _ {X : Type 0} (high : ℕ) where
  onward_append : (k : ℕ) (ms ns : List (Node X)) → Onward high k ms → Onward high (k + length ms) ns → Onward high k (ms ++ ns)
  onward_append k [] ns front back = subst (λ j. Onward high j ns) (add-zero k) back
  onward_append k (m ∷ ms) ns front back =
      (front.0, onward_append (k + 1) ms ns front.1 (subst (λ j. Onward high j ns) (omega arith) back))

  -- of the node at place i, whose number is i + k
  pub onward_at : (k : ℕ) (ns : List (Node X)) (i : ℕ) (d : Node X) → i < length ns → Onward high k ns → AllByRecursion (λ s. LeadsTo (i + k) high s.number) (get_or ns i d).sections
  onward_at k [] i d lt on = absurd (omega arith)
  onward_at k (n ∷ ns) zero d lt on = rw zero-add on.0
  onward_at k (n ∷ ns) (suc i) d lt on = subst (λ j. AllByRecursion (λ s. LeadsTo j high s.number) (get_or ns i d).sections) (omega arith) (onward_at (k + 1) ns i d (omega arith) on.1)

module _ {X : Type 0} (below : ℕ → List X → List (Node X)) (high : ℕ) where
  forest_onward : (k : ℕ) (parts : List (List X)) → k + length (forest below k parts) ≤ high → AllByRecursion (λ s. (j : ℕ) → j + length (below j s) ≤ high → Onward high j (below j s)) parts → Onward high k (forest below k parts)
  forest_onward k [] h each = tt
  forest_onward k (s ∷ parts) h each =
      let whole = length-append (below k s) (forest below (k + length (below k s)) parts) in
      onward_append high k (below k s) _ (each.0 k (omega (arith, h, whole))) (forest_onward (k + length (below k s)) parts (omega (arith, h, whole)) each.1)

module _ {X : Type 0} {P : X → Type 0} {before : X → X → Bool} (strict : Strict P before) (alpha rho : ℕ) (holds : 1 ≤ alpha) where
  -- in the nodes of a subtree, no section leads back, to its own node or past the end
  pub nodes_onward : (high fuel parent k : ℕ) (xs : List X) → AllByRecursion P xs → Distinct xs → length xs ≤ fuel → k + length (nodes before alpha rho fuel parent k xs) ≤ high → Onward high k (nodes before alpha rho fuel parent k xs)
  nodes_onward high zero parent k xs all apart l h = tt
  nodes_onward high (suc fuel) parent k [] all apart l h = tt
  nodes_onward high (suc fuel) parent k (x ∷ xs) all apart l h =
      let below = nodes before alpha rho fuel k in
      let parts = sections before alpha rho (x ∷ xs) in
      let rest : k + 1 + length (forest below (k + 1) parts) ≤ high = omega (arith, h) in (
        all_numbers below (no_nodes before alpha rho fuel k) (LeadsTo k high) (inl refl) (k + 1) high (k + 1) parts (omega arith) rest
            (each_section strict alpha rho holds _ (x ∷ xs) (omega arith) all apart
            (λ s w some j from within. inr (omega arith, omega (arith, nodes_some before alpha rho fuel k j s (omega (arith, w.shorter)) some)))),
        forest_onward below high (k + 1) parts rest
            (each_section strict alpha rho holds _ (x ∷ xs) (omega arith) all apart
            (λ s w j. nodes_onward high fuel k j s w.all w.apart (omega (arith, w.shorter)))),
      )
