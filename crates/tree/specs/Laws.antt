-- What is true of every tree, for any elements and any strict total drawing order. Assumes nothing.
use Rattle.std.specs.Prelude.{◌≡◌, ℕ, ◌<◌, ◌≤◌, min, Bool, false, List, [], ◌∷◌, map, length, ◌≢◌}
use Rattle.std.specs.List.Sorted.{IsPermutation}
use Rattle.std.specs.List.{ContainsAt as Has, flat_map, AllByRecursion}
pub use Rattle.fields.specs.Orders.{StrictOrder as Strict}
use Rattle.tree.specs.Tree.{Node, fan_out, block, sections, nodes, tree}

-- each element is so related to every later one
abbrev pub Pairwise : {X : Type 0} → (X → X → Type 0) → List X → Type 0
Pairwise R [] = Unit {0}
Pairwise R (x ∷ xs) = AllByRecursion (R x) xs × Pairwise R xs

-- no element twice
abbrev pub Distinct : {X : Type 0} → List X → Type 0
Distinct [] = Unit {0}
Distinct (x ∷ xs) = AllByRecursion (λ y. x ≢ y) xs × Distinct xs

-- a node's laws. Its block is as full as can be; there are as many sections as the fan-out says; nothing in a section is
-- drawn before anything in the block.
pub record NodeLaws {X : Type 0} (before : X → X → Bool) (alpha rho : ℕ) (node : Node X) : Type 0 where
  pub full : length node.entries ≡ min alpha node.weight
  pub fan : length node.sections ≡ fan_out alpha rho node.weight
  pub later : AllByRecursion (λ s. AllByRecursion (λ y. AllByRecursion (λ x. before y x ≡ false) node.entries) s.members) node.sections

pub record TreeLaws {X : Type 0} (before : X → X → Bool) (alpha rho : ℕ) (xs : List X) : Type 0 where
  -- the block of any list holds exactly alpha elements, or all if they are fewer
  pub fills : length (block before alpha xs) ≡ min alpha (length xs)
  -- the sections are as many as the fan-out
  pub divides : length (sections before alpha rho xs) ≡ fan_out alpha rho (length xs)
  -- each node keeps its laws
  pub each : AllByRecursion (NodeLaws before alpha rho) (tree before alpha rho xs)
  -- the blocks hold each element exactly once
  pub once : IsPermutation xs (flat_map (λ node. node.entries) (tree before alpha rho xs))
  -- there are no more blocks than elements, and some if there are elements
  pub few : length (tree before alpha rho xs) ≤ length xs
  pub some : 0 < length xs → 0 < length (tree before alpha rho xs)
  -- as much fuel as there are elements is enough, and more changes nothing
  pub enough : (fuel parent k : ℕ) → length xs ≤ fuel → nodes before alpha rho fuel parent k xs ≡ nodes before alpha rho (length xs) parent k xs

-- the tree's laws: for any list of different elements, any strict total drawing order of them, and settings of at least 1
abbrev pub TreeIsLawful : Type 0 → Type 0
TreeIsLawful X =
    (before : X → X → Bool) (alpha rho : ℕ) (xs : List X)
    → Strict (Has xs) before → Distinct xs → 1 ≤ alpha → 1 ≤ rho
    → TreeLaws before alpha rho xs

-- a node with each of its elements replaced
abbrev pub map_node : {X Y : Type 0} → (X → Y) → Node X → Node Y
map_node f node =
    record {
      parent = node.parent;
      entries = map f node.entries;
      active = node.active;
      weight = node.weight;
      sections = map (λ s. record { number = s.number; members = map f s.members }) node.sections;
    }

-- mapping the elements along a function that keeps their drawing order maps the tree
abbrev pub TreeFollowsMap : Type 0 → Type 0 → Type 0
TreeFollowsMap X Y =
    (before_x : X → X → Bool) (before_y : Y → Y → Bool) (f : X → Y) (alpha rho : ℕ) (xs : List X)
    → ((x y : X) → Has xs x → Has xs y → before_y (f x) (f y) ≡ before_x x y)
    → tree before_y alpha rho (map f xs) ≡ map (map_node f) (tree before_x alpha rho xs)
