-- One step of a walk down the tree: what a block says of a key. Assumes nothing.
use Rattle.std.specs.Prelude.{ℕ, ◌+◌, Bool, cond, ◌&&◌, List, [], ◌∷◌, take, sum_by, Option}
use Rattle.std.specs.Ordering.{is_lt}
use Rattle.kinds.specs.Kind.{Kind}
use Rattle.image.specs.Messages.{key_of, standing}
use Rattle.image.specs.Reading.{active_at, slots, section_at, sections_of}

module _ (kind : Kind) (key : List ℕ) where
  -- the message of the key, if the block has it
  abbrev pub in_block : List ℕ → Option (List ℕ)
  in_block bytes = standing kind key (slots kind bytes)

  -- the message in slot i is an active separator, and below the key
  abbrev pub separator_below : List ℕ → (i : ℕ) → List ℕ → Bool
  separator_below bytes i m = active_at bytes i && is_lt (kind.key_order (key_of kind m) key)

  -- how many such there are among the messages from slot i on
  abbrev pub separators_below : List ℕ → (i : ℕ) → List (List ℕ) → ℕ
  separators_below bytes i [] = 0
  separators_below bytes i (m ∷ ms) = cond (separator_below bytes i m) 1 0 + separators_below bytes (i + 1) ms

  -- the section that the key belongs to, counted from 0
  abbrev pub section_for : List ℕ → ℕ
  section_for bytes = separators_below bytes 0 (slots kind bytes)

  -- the number of the block of that section, 0 if it has none
  abbrev pub next_block : (alpha : ℕ) → List ℕ → ℕ
  next_block alpha bytes = (section_at kind alpha bytes (section_for bytes)).number

  -- the measure of a message if it is below the key, else 0
  abbrev pub measure_if_below : List ℕ → ℕ
  measure_if_below m = cond (is_lt (kind.key_order (key_of kind m) key)) (kind.measured m) 0

  -- the measure of the messages that are below the key
  abbrev pub measure_below : List (List ℕ) → ℕ
  measure_below [] = 0
  measure_below (m ∷ ms) = measure_if_below m + measure_below ms

  -- what a block has before the key: its entries below it, and the sections left of the one that the key belongs to
  abbrev pub measure_before : (alpha : ℕ) → List ℕ → ℕ
  measure_before alpha bytes =
      measure_below (slots kind bytes) + sum_by (λ s. s.measure) (take (section_for bytes) (sections_of kind alpha bytes))
