-- The block search tree over any elements, by the order in which they are drawn. Assumes nothing.
--
-- The elements are a list in key order. alpha is how many a block can hold, and rho governs the fan-out.
use Rattle.std.specs.Prelude.{ℕ, zero, suc, ◌+◌, ◌-◌, ◌/◌, min, max, Bool, cond, List, [], ◌∷◌, ◌++◌, map, length, filter, nat_lt}

-- a section of a block: the number of its own block, 0 if it is empty, and its members in key order
pub record Section (X : Type 0) : Type 0 where
  pub number : ℕ
  pub members : List X

-- a block of the tree: the number of the block above it (0 for the root), its entries in key order, which of them are
-- active separators, how many elements its subtree has, and its sections from the left
pub record Node (X : Type 0) : Type 0 where
  pub parent : ℕ
  pub entries : List X
  pub active : List Bool
  pub weight : ℕ
  pub sections : List (Section X)

-- the fan-out of a subtree of n elements: the elements that the block cannot hold, by rho, rounded up; at least 1 and at most
-- alpha + 1
abbrev pub fan_out : (alpha rho n : ℕ) → ℕ
fan_out alpha rho n = min (alpha + 1) (max 1 ((n - alpha + (rho - 1)) / rho))

-- an element put into the first of some lists
abbrev pub into_first : {X : Type 0} → X → List (List X) → List (List X)
into_first x [] = (x ∷ []) ∷ []
into_first x (s ∷ ss) = (x ∷ s) ∷ ss

-- a list cut at the separators: what lies before, between and after them, without the elements that are taken
abbrev pub cut : {X : Type 0} → (separator taken : X → Bool) → List X → List (List X)
cut separator taken [] = [] ∷ []
cut separator taken (x ∷ xs) =
    cond (separator x) ([] ∷ cut separator taken xs) (cond (taken x) (cut separator taken xs) (into_first x (cut separator taken xs)))

-- the nodes of several subtrees one after the other, numbered on from k
abbrev pub forest : {X : Type 0} → (ℕ → List X → List (Node X)) → ℕ → List (List X) → List (Node X)
forest nodes k [] = []
forest nodes k (s ∷ ss) = let first = nodes k s in first ++ forest nodes (k + length first) ss

-- the sections with the numbers of their blocks: the first node of a section has the number at which its nodes begin
abbrev pub numbered : {X : Type 0} → (ℕ → List X → List (Node X)) → ℕ → List (List X) → List (Section X)
numbered nodes k [] = []
numbered nodes k ([] ∷ ss) = record { number = 0; members = [] } ∷ numbered nodes k ss
numbered nodes k ((x ∷ s) ∷ ss) = record { number = k; members = x ∷ s } ∷ numbered nodes (k + length (nodes k (x ∷ s))) ss

-- before x y: x is drawn before y
module _ {X : Type 0} (before : X → X → Bool) where
  -- how many of the elements are drawn before x
  abbrev pub drawn_before : List X → X → ℕ
  drawn_before [] x = 0
  drawn_before (y ∷ ys) x = cond (before y x) (1 + drawn_before ys x) (drawn_before ys x)

  -- x is one of the k that are drawn earliest
  abbrev pub among_earliest : ℕ → List X → X → Bool
  among_earliest k xs x = nat_lt (drawn_before xs x) k

  -- the block holds the alpha that are drawn earliest, in key order
  abbrev pub block : (alpha : ℕ) → List X → List X
  block alpha xs = filter (among_earliest alpha xs) xs

  -- the active separators are those drawn earliest, one fewer than the fan-out
  abbrev pub is_active : (alpha rho : ℕ) → List X → X → Bool
  is_active alpha rho xs = among_earliest (fan_out alpha rho (length xs) - 1) xs

  -- the remaining elements, divided by the active separators alone
  abbrev pub sections : (alpha rho : ℕ) → List X → List (List X)
  sections alpha rho xs = cut (is_active alpha rho xs) (among_earliest alpha xs) xs

module _ {X : Type 0} (before : X → X → Bool) (alpha rho : ℕ) where
  -- the nodes of the subtree over xs in preorder, whose root has number k and stands below the block `parent`. The fuel
  -- bounds the depth: as much as there are elements is enough.
  abbrev pub nodes : (fuel parent k : ℕ) → List X → List (Node X)
  nodes zero parent k xs = []
  nodes (suc fuel) parent k [] = []
  nodes (suc fuel) parent k (x ∷ xs) =
      let all = x ∷ xs in
      let entries = block before alpha all in
      let parts = sections before alpha rho all in
      record {
        parent = parent;
        entries = entries;
        active = map (is_active before alpha rho all) entries;
        weight = length all;
        sections = numbered (nodes fuel k) (k + 1) parts;
      }
      ∷ forest (nodes fuel k) (k + 1) parts

  -- the tree over xs: the root is block 1, and has no block above it
  abbrev pub tree : List X → List (Node X)
  tree xs = nodes (length xs) 0 1 xs
