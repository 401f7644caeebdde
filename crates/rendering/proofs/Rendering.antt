-- The parts of a block, put together. Assumes nothing.
use Rattle.std.proofs.Common.{◌≡◌, ℕ, ◌+◌, ◌-◌, ◌*◌, ◌≤◌, min, true, leb, List, ◌∷◌, ◌++◌, map, length, take, sym, ap, ◌∙◌, arith}
use lib.Count.{ones}
use Rattle.std.specs.List.{flat_map}
use Rattle.std.proofs.lemmas.List.{length-append, length-map}
use Rattle.std.proofs.lemmas.List.Folds.{flat_map-map}
use Rattle.std.proofs.lemmas.Bool.{and_parts, leb-true}
use Rattle.fields.specs.Numbers.{le, filled}
use Rattle.kinds.specs.Kind.{Kind}
use Rattle.planner.specs.declared.row.Row.{Row}
use Rattle.image.specs.Image.{block_of}
use Rattle.image.specs.Reading.{every}
use Rattle.image.specs.Settings.{alpha_fits}
use Rattle.image.proofs.Blocks.{Room, room}
use Rattle.planner.specs.Rows.{ranks_of}
use Rattle.rendering.specs.Rendered.{message_at, in_table, renderable, front_of, row_block, row_record}
use Rattle.rendering.proofs.Laying.{zeros}

-- the messages of a row's entries
abbrev pub slot_bytes : Kind → (table : List ℕ) → Row → List ℕ
slot_bytes kind table row = flat_map (message_at kind table) (ranks_of row)

-- what is known of a row that can be rendered
pub record Renderable (kind : Kind) (alpha : ℕ) (table : List ℕ) (row : Row) : Type 0 where
  pub room : Room kind.width alpha
  pub few : row.count ≤ alpha
  pub fan : ones row.mask ≤ alpha
  pub present : every (in_table kind table) (ranks_of row) ≡ true

pub renderable_is : (kind : Kind) (alpha : ℕ) (table : List ℕ) (row : Row) → renderable kind alpha table row ≡ true → Renderable kind alpha table row
renderable_is kind alpha table row h =
    let a = and_parts (alpha_fits kind.width alpha) _ h in
    let b = and_parts (leb row.count alpha) _ a.1 in
    let c = and_parts (leb (ones row.mask) alpha) _ b.1 in
    record { room = room kind.width alpha a.0; few = leb-true _ alpha b.0; fan = leb-true _ alpha c.0; present = c.1 }

module _ (kind : Kind) (alpha : ℕ) (table : List ℕ) (row : Row) (fits : Renderable kind alpha table row) (places : length (ranks_of row) ≡ min row.count 16) where
  pub ranks_long : length (ranks_of row) ≡ row.count
  ranks_long = omega (arith, places, fits.few, fits.room.low)

  -- what is put down for a row, part by part, is its block
  pub row_block_laid : block_of (filled (8 + alpha * kind.width) 0 (front_of kind row ++ slot_bytes kind table row) ++ flat_map row_record (take (ones row.mask + 1) row.sections)) ≡ row_block kind alpha table row
  row_block_laid =
      let messages = slot_bytes kind table row in
      let records = flat_map row_record (take (ones row.mask + 1) row.sections) in
      let laid = λ (count : ℕ) (slots : List ℕ). block_of (count ∷ kind.number ∷ (le 2 row.mask ++ (le 2 row.weight ++ (le 2 row.parent ++ (slots ++ records))))) in
      let left : 8 + alpha * kind.width - length (front_of kind row ++ messages) ≡ alpha * kind.width - length messages = omega (arith, length-append (front_of kind row) messages) in
      ap (λ n. laid row.count (messages ++ zeros n)) left
      ∙ ap (λ n. laid n (messages ++ zeros (alpha * kind.width - length messages))) (sym (length-map (ranks_of row) (message_at kind table) ∙ ranks_long))
      ∙ ap (λ b. laid (length (map (message_at kind table) (ranks_of row))) (filled (alpha * kind.width) 0 b)) (sym (flat_map-map (λ m. m) (message_at kind table) (ranks_of row)))
