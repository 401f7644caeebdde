-- What a walk for a key reads off the bytes of a block, and the tree that the block was made from. Assumes nothing.
use Rattle.std.specs.Prelude.{◌≡◌, ℕ, ◌+◌, ◌<◌, List, [], ◌∷◌, length, slice_index_or}
use Rattle.std.specs.Option.{option_or}
use Rattle.kinds.specs.Kind.{Kind, Key, Lawful}
use Rattle.tree.specs.Tree.{Section, Node, nodes}
use Rattle.image.specs.Laws.{ReadsBack}
use Rattle.image.specs.Messages.{Messages, before, standing}
use Rattle.image.specs.Walk.{in_block, section_for, next_block, measure_below, measure_before}

-- the section with the number i, from 0; one past the end is empty
abbrev pub entered : Node (List ℕ) → ℕ → Section (List ℕ)
entered node i = slice_index_or node.sections i (record { number = 0; members = [] })

-- the steps of a walk through a block of a subtree over xs agree with its node
pub record WalkLaws (kind : Kind) (alpha : ℕ) (key : List ℕ) (xs : List (List ℕ)) (node : Node (List ℕ)) (bytes : List ℕ) : Type 0 where
  -- the block's own message of the key is that of the node's entries
  pub found : in_block kind key bytes ≡ standing kind key node.entries
  -- the section entered is one of the node's, and the walk goes on at its block
  pub one_of : section_for kind key bytes < length node.sections
  pub next : next_block kind key alpha bytes ≡ (entered node (section_for kind key bytes)).number
  -- it is the one whose members can hold the key: what stands for the key in the whole subtree stands in the block or in it
  pub holds : standing kind key xs ≡ option_or (standing kind key node.entries) (standing kind key (entered node (section_for kind key bytes)).members)
  -- the sum is that of the lower members, but for those of the section entered
  pub sum : measure_below kind key xs ≡ measure_before kind key alpha bytes + measure_below kind key (entered node (section_for kind key bytes)).members

-- for any set of messages xs, the root of the subtree over it, and any bytes that read back as that node
abbrev pub WalksFollowTheTree : Type 0
WalksFollowTheTree =
    (kind : Kind) (alpha rho : ℕ) (key : List ℕ) (fuel parent k : ℕ) (xs : List (List ℕ)) (node : Node (List ℕ)) (rest : List (Node (List ℕ))) (bytes : List ℕ)
    → Lawful kind → Key kind key → Messages kind xs
    → nodes (before kind) alpha rho fuel parent k xs ≡ node ∷ rest
    → ReadsBack kind alpha node bytes
    → WalkLaws kind alpha key xs node bytes
