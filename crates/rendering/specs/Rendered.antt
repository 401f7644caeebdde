-- The block of a row of a plan. Assumes nothing.
use Rattle.std.specs.Prelude.{ℕ, ◌+◌, ◌*◌, Bool, ◌&&◌, List, ◌∷◌, ◌++◌, map, length, take, count_ones, nat_le}
use Rattle.std.specs.List.{flat_map}
use Rattle.fields.specs.Numbers.{le, part}
use Rattle.kinds.specs.Kind.{Kind}
use Rattle.planner.specs.declared.row.Row.{Row}
use Rattle.planner.specs.declared.row.SectionRow.{SectionRow}
use Rattle.planner.specs.Rows.{ranks_of}
use Rattle.image.specs.Image.{record_of, block_from}
use Rattle.image.specs.Reading.{every}
use Rattle.image.specs.Settings.{alpha_fits}

abbrev pub row_record : SectionRow → List ℕ
row_record s = record_of s.block s.weight s.measure

module _ (kind : Kind) where
  -- the message of a rank in a table of messages, one after the other in key order
  abbrev pub message_at : (table : List ℕ) → ℕ → List ℕ
  message_at table rank = part (rank * kind.width) kind.width table

  -- the table has the message of a rank
  abbrev pub in_table : (table : List ℕ) → ℕ → Bool
  in_table table rank = nat_le (rank * kind.width + kind.width) (length table)

  -- a row can be rendered: alpha is within its limits, the row has no more entries than slots and no more sections than records,
  -- and the table has the message of each entry
  abbrev pub renderable : (alpha : ℕ) (table : List ℕ) → Row → Bool
  renderable alpha table row =
      alpha_fits kind.width alpha && (nat_le row.count alpha && (nat_le (count_ones row.mask) alpha && every (in_table table) (ranks_of row)))

  -- the first eight bytes of the block of a row of so many entries
  abbrev pub front_of : Row → List ℕ
  front_of row = row.count ∷ kind.number ∷ (le 2 row.mask ++ (le 2 row.weight ++ le 2 row.parent))

  -- the block of a row: the messages of its ranks in the slots, and a record for each section up to the fan-out
  abbrev pub row_block : (alpha : ℕ) (table : List ℕ) → Row → List ℕ
  row_block alpha table row =
      block_from kind alpha row.mask row.weight row.parent (map (message_at table) (ranks_of row)) (flat_map row_record (take (count_ones row.mask + 1) row.sections))
