-- The blocks of a chapter: every byte that a set of messages makes. Assumes nothing.
use Rattle.std.specs.Prelude.{ℕ, ◌+◌, ◌*◌, Bool, cond, List, [], ◌∷◌, ◌++◌, map, length, replicate, codes}
use Rattle.std.specs.List.{flat_map}
use Rattle.fields.specs.Numbers.{filled, le}
use Rattle.kinds.specs.Kind.{Kind}
use Rattle.tree.specs.Tree.{Section, Node, tree}
use Rattle.image.specs.declared.head.Counts.{Counts}
use Rattle.image.specs.Messages.{before, total_measure}
use Rattle.image.specs.declared.settings.Settings.{Settings}

-- the bytes of a block: what is laid down, and zeros after it
abbrev pub block_of : List ℕ → List ℕ
block_of bytes = filled 256 0 bytes

abbrev pub zero_block : List ℕ
zero_block = replicate 256 0

-- the first three bytes of every chapter
abbrev pub head_mark : List ℕ
head_mark = codes "GAL"

abbrev pub head_version : ℕ
head_version = 1

-- the mask of the active separators: bit i is set if slot i has one
abbrev pub mask_of : List Bool → ℕ
mask_of [] = 0
mask_of (active ∷ others) = cond active 1 0 + 2 * mask_of others

-- a section record: the number of the section's block, the number of its entries, and their measure
abbrev pub record_of : (number weight measure : ℕ) → List ℕ
record_of number weight measure = le 2 number ++ (le 2 weight ++ le 4 measure)

module _ (kind : Kind) where
  -- the bytes of a head that are used: mark, version, kind, alpha, rho, capacity, entries, tree blocks, total measure, chapter number
  abbrev pub head_bytes : Settings → (chapter : ℕ) → Counts → List ℕ
  head_bytes s chapter counts =
      head_mark ++ (le 2 head_version ++ (kind.number ∷ s.alpha ∷ (le 2 s.rho ++ (le 2 s.capacity ++ (le 2 counts.entries ++ (le 2 counts.blocks ++ (le 4 counts.measure ++ le 4 chapter)))))))

  -- a block of so many entries: kind, mask, weight, parent, then alpha slots, of which the entries fill the first, then the section records
  abbrev pub block_from : (alpha mask weight parent : ℕ) (entries : List (List ℕ)) (records : List ℕ) → List ℕ
  block_from alpha mask weight parent entries records =
      block_of
      (length entries ∷ kind.number ∷ (le 2 mask ++ (le 2 weight ++ (le 2 parent ++ (filled (alpha * kind.width) 0 (flat_map (λ m. m) entries) ++ records)))))

  abbrev pub head_block : Settings → (chapter : ℕ) → Counts → List ℕ
  head_block s chapter counts = block_of (head_bytes s chapter counts)

  abbrev pub section_record : Section (List ℕ) → List ℕ
  section_record s = record_of s.number (length s.members) (total_measure kind s.members)

  -- the block of a node: its entries, mask, weight and parent, and the record of each section
  abbrev pub tree_block : (alpha : ℕ) → Node (List ℕ) → List ℕ
  tree_block alpha node = block_from alpha (mask_of node.active) node.weight node.parent node.entries (flat_map section_record node.sections)

  -- the tree of a set of messages
  abbrev pub tree_of : Settings → List (List ℕ) → List (Node (List ℕ))
  tree_of s ms = tree (before kind) s.alpha s.rho ms

  abbrev pub counts_of : Settings → List (List ℕ) → Counts
  counts_of s ms = record { entries = length ms; blocks = length (tree_of s ms); measure = total_measure kind ms }

  -- the image of a set of messages over n blocks: the head, the blocks of the tree in preorder, and zero blocks
  abbrev pub image : Settings → (chapter n : ℕ) → List (List ℕ) → List (List ℕ)
  image s chapter n ms = filled n zero_block (head_block s chapter (counts_of s ms) ∷ map (tree_block s.alpha) (tree_of s ms))
