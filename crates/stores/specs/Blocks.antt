-- What a block store means: a list of blocks, and the answer and the effect of every call as functions of that list.
-- Assumes nothing.
use Rattle.std.specs.Prelude.{◌≡◌, ℕ, ◌≤◌, cond, List, [], length, is_ok, Ok, Err, Result, ◌==◌, nat_lt, slice_index_or, slice_set}
use Rattle.std.specs.List.{AllByRecursion}

-- what is true of the blocks of every store: there are at most 65,535, and each has 256 bytes
pub record Storable (blocks : List (List ℕ)) : Type 0 where
  pub few : length blocks ≤ 65535
  pub sized : AllByRecursion (λ block. length block ≡ 256) blocks

-- the tests of a read and of a write: the buffer's length comes first, then the block
abbrev pub access_answer : ℕ → ℕ → ℕ → Result (Unit {0}) (ℕ × ℕ)
access_answer count n size = cond (size == 256) (cond (nat_lt n count) (Ok tt) (Err (11, n))) (Err (12, size))

abbrev pub read_answer : List (List ℕ) → ℕ → List ℕ → Result (Unit {0}) (ℕ × ℕ)
read_answer blocks n buffer = access_answer (length blocks) n (length buffer)

-- what the buffer holds after a read: block n, or what it held where there is no such block or the buffer is refused
abbrev pub read_buffer : List (List ℕ) → ℕ → List ℕ → List ℕ
read_buffer blocks n buffer = cond (is_ok (read_answer blocks n buffer)) (slice_index_or blocks n []) buffer

abbrev pub write_answer : List (List ℕ) → ℕ → List ℕ → Result (Unit {0}) (ℕ × ℕ)
write_answer blocks n buffer = access_answer (length blocks) n (length buffer)

-- the blocks after a write: block n is the buffer, and where there is no such block or the buffer is refused, all are
-- as they were
abbrev pub write_blocks : List (List ℕ) → ℕ → List ℕ → List (List ℕ)
write_blocks blocks n buffer = cond (is_ok (write_answer blocks n buffer)) (slice_set blocks n buffer) blocks
