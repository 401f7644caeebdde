-- The blocks of an image pass the test that any block is put to. Assumes nothing.
use Rattle.std.specs.Prelude.{◌≡◌, ℕ, ◌+◌, ◌<◌, ◌≤◌, true, List, length, slice_index_or}
use Rattle.kinds.specs.Kind.{Kind, Lawful}
use Rattle.tree.specs.Tree.{Node}
use Rattle.image.specs.Image.{tree_block, tree_of}
use Rattle.image.specs.Messages.{Messages}
use Rattle.image.specs.Reading.{well_formed}
use Rattle.image.specs.Settings.{settings_fit}
use Rattle.image.specs.declared.settings.Settings.{Settings}

-- a block of the image of a set of messages is never malformed
abbrev pub BlocksAreWellFormed : Type 0
BlocksAreWellFormed =
    (kind : Kind) (s : Settings) (ms : List (List ℕ))
    → Lawful kind → settings_fit kind.width s ≡ true → Messages kind ms → length ms ≤ s.capacity
    → (i : ℕ) (d : Node (List ℕ)) → i < length (tree_of kind s ms)
    → well_formed kind s.alpha (length (tree_of kind s ms)) (i + 1) (tree_block kind s.alpha (slice_index_or (tree_of kind s ms) i d)) ≡ true
