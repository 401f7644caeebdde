-- A part of a list of blocks, and what is around it: block for block, and after a write to a block of the part.
-- Assumes nothing.
use Rattle.std.specs.Prelude.{◌≡◌, ℕ, ◌+◌, ◌-◌, ◌<◌, ◌≤◌, min, List, ◌++◌, length, take, drop, slice_set}
use Rattle.std.proofs.Common.{sym, arith}
use Rattle.std.proofs.Math.Seq.{take-set-lt}
use Rattle.std.proofs.ByRecursion.{All-drop, All-take}
use Rattle.std.proofs.lemmas.List.{append_assoc, drop-drop, drop-set-add, drop-set-lt, get_or-drop, get_or-take, length-drop, length-take, take-append-drop, take-set-le}
use Rattle.stores.specs.Blocks.{Storable}
use Rattle.stores.specs.Stores.{off_shelf, part}
use Rattle.stores.specs.Access.{Stands}

module _ (start limit : ℕ) (below : List (List ℕ)) where
  pub length_part : length (part start limit below) ≡ min limit (length below - start)
  length_part = simp (length-take, length-drop)

  pub storable_part : Storable below → Storable (part start limit below)
  storable_part s = record {
    few = rw length_part (omega (arith, s.few));
    sized = All-take _ limit (drop start below) (All-drop _ start below s.sized);
  }

  -- before, within and behind the part: together the whole list
  pub part_whole : take start below ++ part start limit below ++ drop (start + limit) below ≡ below
  part_whole = rw (append_assoc, ← drop-drop limit start below, take-append-drop, take-append-drop)

  module _ (n : ℕ) (within : n < length (part start limit below)) where
    low : n < limit
    low = omega (arith, length_part)

    pub part_stands : Stands (part start limit below) below n (start + n)
    part_stands = record {
      here = within;
      there = omega (arith, length_part);
      same = let on = low in sym (rw (get_or-take, get_or-drop));
    }

    pub set_part : (block : List ℕ) → part start limit (slice_set below (start + n) block) ≡ slice_set (part start limit below) n block
    set_part block = let on = low in rw (drop-set-add, take-set-lt)

    -- a write to the shelf leaves what is off it
    pub off_shelf_set : {R : Type 0} (rest : R) (block : List ℕ) → off_shelf start limit (slice_set below (start + n) block) rest ≡ off_shelf start limit below rest
    off_shelf_set rest block =
        let before : start ≤ start + n = omega arith in
        let behind : start + n < start + limit = omega (arith, low) in
        rw (take-set-le start below (start + n) block before, drop-set-lt (start + limit) below (start + n) block behind)
