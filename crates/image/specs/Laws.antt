-- What is true of the blocks of an image. Assumes nothing.
use Rattle.std.specs.Prelude.{◌≡◌, ℕ, ◌+◌, ◌^◌, ◌<◌, ◌≤◌, true, false, List, map, length, get_or, Some, count_by, slice_index_or}
use Rattle.std.specs.List.{AllByRecursion}
use Rattle.fields.specs.Numbers.{Bytes}
use Rattle.kinds.specs.Kind.{Kind, Lawful}
use Rattle.tree.specs.Tree.{Section, Node}
use Rattle.image.specs.declared.head.Counts.{Counts}
use Rattle.image.specs.Image.{mask_of, head_block, tree_block, tree_of, counts_of, image}
use Rattle.image.specs.Messages.{total_measure, Messages}
use Rattle.image.specs.declared.section.SectionFields.{SectionFields}
use Rattle.image.specs.Reading.{read_head, field, entry_count, mask, active_at, slots, sections_of}
use Rattle.image.specs.declared.settings.Settings.{Settings}
use Rattle.image.specs.Settings.{alpha_fits, settings_fit}

-- a block: 256 bytes
pub record Block (bytes : List ℕ) : Type 0 where
  pub long : length bytes ≡ 256
  pub small : Bytes bytes

-- a section as its record says it
abbrev pub section_says : Kind → Section (List ℕ) → SectionFields
section_says kind s = record { number = s.number; weight = length s.members; measure = total_measure kind s.members }

-- the numbers of a section fit the fields of its record
pub record SectionFits (kind : Kind) (s : Section (List ℕ)) : Type 0 where
  pub number : s.number < 256 ^ 2
  pub weight : length s.members < 256 ^ 2
  pub measure : total_measure kind s.members < 256 ^ 4

-- a node fits its block: no more entries than slots, each as wide as a slot; a flag for each entry, and one more section than
-- flags are set; numbers that fit their fields
pub record NodeFits (kind : Kind) (alpha : ℕ) (node : Node (List ℕ)) : Type 0 where
  pub few : length node.entries ≤ alpha
  pub wide : AllByRecursion (λ m. length m ≡ kind.width) node.entries
  pub small : AllByRecursion Bytes node.entries
  pub flags : length node.active ≡ length node.entries
  pub fan : length node.sections ≡ count_by (λ b. b) node.active + 1
  pub weight : node.weight < 256 ^ 2
  pub parent : node.parent < 256 ^ 2
  pub each : AllByRecursion (SectionFits kind) node.sections

-- what is read of a node's block is the node's: entries, kind, separators, weight, parent, messages, sections
pub record ReadsBack (kind : Kind) (alpha : ℕ) (node : Node (List ℕ)) (bytes : List ℕ) : Type 0 where
  pub count : entry_count bytes ≡ length node.entries
  pub same_kind : get_or bytes 1 0 ≡ kind.number
  pub separators : mask bytes ≡ mask_of node.active
  pub active : (i : ℕ) → i < length node.active → active_at bytes i ≡ slice_index_or node.active i false
  pub weight : field 4 2 bytes ≡ node.weight
  pub parent : field 6 2 bytes ≡ node.parent
  pub messages : slots kind bytes ≡ node.entries
  pub sections : sections_of kind alpha bytes ≡ map (section_says kind) node.sections

-- a node that fits has a block of 256 bytes, and it reads back
pub record TreeBlockLaws (kind : Kind) (alpha : ℕ) (node : Node (List ℕ)) : Type 0 where
  pub block : Block (tree_block kind alpha node)
  pub reads_back : ReadsBack kind alpha node (tree_block kind alpha node)

abbrev pub TreeBlockReadsBack : Type 0
TreeBlockReadsBack =
    (kind : Kind) (alpha : ℕ) (node : Node (List ℕ))
    → Lawful kind → alpha_fits kind.width alpha ≡ true → NodeFits kind alpha node
    → TreeBlockLaws kind alpha node

-- counts fit a head: no more entries than the capacity, no more blocks than entries, a measure of four bytes
pub record CountsFit (s : Settings) (counts : Counts) : Type 0 where
  pub entries : counts.entries ≤ s.capacity
  pub blocks : counts.blocks ≤ counts.entries
  pub measure : counts.measure < 256 ^ 4

pub record HeadLaws (kind : Kind) (s : Settings) (chapter : ℕ) (counts : Counts) : Type 0 where
  pub block : Block (head_block kind s chapter counts)
  pub reads_back : read_head kind (head_block kind s chapter counts) ≡ Some (record { settings = s; counts = counts; chapter = chapter })

abbrev pub HeadReadsBack : Type 0
HeadReadsBack =
    (kind : Kind) (s : Settings) (chapter : ℕ) (counts : Counts)
    → Lawful kind → settings_fit kind.width s ≡ true → chapter < 256 ^ 4 → CountsFit s counts
    → HeadLaws kind s chapter counts

-- the image of a set of messages: each of its blocks has 256 bytes, the head reads back, and each block of the tree reads back
-- its node
pub record ImageLaws (kind : Kind) (s : Settings) (chapter n : ℕ) (ms : List (List ℕ)) : Type 0 where
  pub size : length (image kind s chapter n ms) ≡ n
  pub blocks : AllByRecursion Block (image kind s chapter n ms)
  pub head : read_head kind (head_block kind s chapter (counts_of kind s ms)) ≡ Some (record { settings = s; counts = counts_of kind s ms; chapter = chapter })
  pub nodes : AllByRecursion (λ node. ReadsBack kind s.alpha node (tree_block kind s.alpha node)) (tree_of kind s ms)

-- for any lawful kind, settings that fit, chapter number of four bytes, store of a block more than the capacity at least, and
-- set of messages that the capacity can hold
abbrev pub ImageReadsBack : Type 0
ImageReadsBack =
    (kind : Kind) (s : Settings) (chapter n : ℕ) (ms : List (List ℕ))
    → Lawful kind → settings_fit kind.width s ≡ true → chapter < 256 ^ 4 → s.capacity + 1 ≤ n
    → Messages kind ms → length ms ≤ s.capacity
    → ImageLaws kind s chapter n ms
