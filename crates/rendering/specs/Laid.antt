-- A block laid down from the front. Assumes nothing.
use Rattle.std.specs.Prelude.{◌≡◌, ℕ, ◌≤◌, List, ◌++◌, length}
use Rattle.fields.specs.Numbers.{filled}
use Rattle.image.specs.Image.{block_of}

-- the block begins with `front`, which ends at an offset, and is zero from there on
pub record Laid (front : List ℕ) (at : ℕ) (block : List ℕ) : Type 0 where
  pub is : block ≡ block_of front
  pub ends : at ≡ length front
  pub fits : at ≤ 256

-- a block that is begun: the ghost name of the reference that it is written through, and the bytes that were put down so far
pub record Begun : Type 0 where
  pub lent : ℕ
  pub front : List ℕ

-- the same, with more bytes put down
abbrev pub with_bytes : Begun → List ℕ → Begun
with_bytes begun bytes = record begun { front = begun.front ++ bytes }

-- the same, with zeros up to an offset
abbrev pub skipped_to : ℕ → Begun → Begun
skipped_to end begun = record begun { front = filled end 0 begun.front }
