-- The blocks of memory, of a shelf and of a pair, and what each of them keeps beside its blocks. Assumes nothing.
use Rattle.std.specs.Prelude.{ℕ, zero, suc, ◌+◌, ◌*◌, ◌/◌, min, List, [], ◌∷◌, ◌++◌, length, take, drop, vec_items}
use Rattle.stores.specs.declared.memories.Memory.{Memory}
use Rattle.stores.specs.declared.pairs.Pair.{Pair}
use Rattle.stores.specs.declared.shelves.Shelf.{Shelf}

-- the first k blocks of a run of bytes
abbrev pub cut : ℕ → List ℕ → List (List ℕ)
cut zero bytes = []
cut (suc k) bytes = take 256 bytes ∷ cut k (drop 256 bytes)

-- how many blocks a run of bytes has: its length divided by 256, the rest dropped, and at most 65,535
abbrev pub run_count : List ℕ → ℕ
run_count bytes = min (length bytes / 256) 65535

abbrev pub run_blocks : List ℕ → List (List ℕ)
run_blocks bytes = cut (run_count bytes) bytes

-- the bytes behind the last block
abbrev pub run_rest : List ℕ → List ℕ
run_rest bytes = drop (run_count bytes * 256) bytes

-- limit blocks of a list, from block start on, cut to what lies there
abbrev pub part : ℕ → ℕ → List (List ℕ) → List (List ℕ)
part start limit below = take limit (drop start below)

-- two lists of blocks end to end, cut at 65,535
abbrev pub united : List (List ℕ) → List (List ℕ) → List (List ℕ)
united first second = take 65535 (first ++ second)

-- memory: the run of bytes that it owns, as blocks; the bytes behind the last are in none
abbrev pub memory_blocks : Memory → List (List ℕ)
memory_blocks m = run_blocks (vec_items m.bytes)

abbrev pub memory_rest : Memory → List ℕ
memory_rest m = run_rest (vec_items m.bytes)

-- a shelf: a part of the blocks of the store below it
abbrev pub shelf_blocks : {S : Type 0} → (S → List (List ℕ)) → Shelf S → List (List ℕ)
shelf_blocks blocks s = part s.start s.limit (blocks s.store)

-- what is not on the shelf: the blocks before it, the blocks behind it, and what the store below keeps itself
pub record OffShelf (R : Type 0) : Type 0 where
  pub before : List (List ℕ)
  pub behind : List (List ℕ)
  pub below : R

abbrev pub off_shelf : {R : Type 0} → ℕ → ℕ → List (List ℕ) → R → OffShelf R
off_shelf start limit blocks rest = record { before = take start blocks; behind = drop (start + limit) blocks; below = rest }

abbrev pub shelf_rest : {S R : Type 0} → (S → List (List ℕ)) → (S → R) → Shelf S → OffShelf R
shelf_rest blocks rest s = off_shelf s.start s.limit (blocks s.store) (rest s.store)

-- a pair: the blocks of two stores end to end
abbrev pub pair_blocks : {A B : Type 0} → (A → List (List ℕ)) → (B → List (List ℕ)) → Pair A B → List (List ℕ)
pair_blocks front back p = united (front p.first) (back p.second)

-- what a pair keeps: how many of its blocks are the first store's, the blocks behind the cut, and what both stores keep
pub record OffPair (Q R : Type 0) : Type 0 where
  pub seam : ℕ
  pub behind : List (List ℕ)
  pub first : Q
  pub second : R

abbrev pub off_pair : {Q R : Type 0} → List (List ℕ) → Q → List (List ℕ) → R → OffPair Q R
off_pair front q back r = record { seam = length front; behind = drop 65535 (front ++ back); first = q; second = r }

abbrev pub pair_rest : {A B Q R : Type 0} → (A → List (List ℕ)) → (A → Q) → (B → List (List ℕ)) → (B → R) → Pair A B → OffPair Q R
pair_rest front q back r p = off_pair (front p.first) (q p.first) (back p.second) (r p.second)
