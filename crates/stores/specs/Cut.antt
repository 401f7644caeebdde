-- A run of bytes cut into blocks: how many, how long, which bytes, and what a write to one of them does to the run.
-- Assumes nothing.
use Rattle.std.specs.Prelude.{◌≡◌, ℕ, zero, suc, ◌+◌, ◌*◌, ◌<◌, ◌≤◌, List, [], ◌∷◌, ◌++◌, length, take, drop, slice_index_or, slice_set, refl}
use Rattle.std.proofs.Common.{sym, ap, ap₂, ◌∙◌, take-add, arith}
use borrow.Rule.Slice.PartMut.{put_mid}
use Rattle.std.specs.List.{flat_map, AllByRecursion}
use Rattle.std.proofs.lemmas.List.{append_assoc, drop_at, drop-drop, length-append, length-drop, length-take, length-take-le, take-append-drop, take_at}
use Rattle.std.proofs.lemmas.Slice.{drop-put_mid}
use Rattle.stores.specs.Blocks.{Storable}
use Rattle.stores.specs.Stores.{cut, run_blocks, run_count, run_rest}

pub length_cut : (k : ℕ) (bytes : List ℕ) → length (cut k bytes) ≡ k
length_cut zero bytes = refl
length_cut (suc k) bytes = ap suc (length_cut k (drop 256 bytes))

pub sized_cut : (k : ℕ) (bytes : List ℕ) → k * 256 ≤ length bytes → AllByRecursion (λ block. length block ≡ 256) (cut k bytes)
sized_cut zero bytes h = tt
sized_cut (suc k) bytes h =
    (length-take-le 256 bytes (omega arith), sized_cut k (drop 256 bytes) (simp length-drop (omega arith)))

pub get_or_cut : (k n : ℕ) (bytes : List ℕ) → n < k → slice_index_or (cut k bytes) n [] ≡ take 256 (drop (n * 256) bytes)
get_or_cut zero n bytes h = absurd (omega arith)
get_or_cut (suc k) zero bytes h = refl
get_or_cut (suc k) (suc n) bytes h =
    let step : 256 + n * 256 ≡ suc n * 256 = omega arith in
    get_or_cut k n (drop 256 bytes) (omega arith) ∙ ap (take 256) (drop-drop (n * 256) 256 bytes ∙ ap (λ i. drop i bytes) step)

-- the blocks end to end, and then the bytes behind them, are the run
pub joined_cut : (k : ℕ) (bytes : List ℕ) → flat_map (λ block. block) (cut k bytes) ++ drop (k * 256) bytes ≡ bytes
joined_cut zero bytes = refl
joined_cut (suc k) bytes =
    let step : suc k * 256 ≡ 256 + k * 256 = omega arith in
    append_assoc (take 256 bytes) (flat_map (λ block. block) (cut k (drop 256 bytes))) (drop (suc k * 256) bytes)
    ∙ ap (take 256 bytes ++◌) (ap (flat_map (λ block. block) (cut k (drop 256 bytes)) ++◌) (ap (λ i. drop i bytes) step ∙ sym (drop-drop (k * 256) 256 bytes)) ∙ joined_cut k (drop 256 bytes))
    ∙ take-append-drop 256 bytes

-- block n of the run is written over
abbrev pub over : ℕ → List ℕ → List ℕ → List ℕ
over n bytes block = put_mid (n * 256) 256 bytes block

pub cut_over : (k n : ℕ) (bytes block : List ℕ) → n < k → k * 256 ≤ length bytes → length block ≡ 256 → cut k (over n bytes block) ≡ slice_set (cut k bytes) n block
cut_over zero n bytes block h fits sized = absurd (omega arith)
cut_over (suc k) zero bytes block h fits sized =
    ap₂ ◌∷◌ (take_at block (drop 256 bytes) 256 sized) (ap (cut k) (drop_at block (drop 256 bytes) 256 sized))
cut_over (suc k) (suc n) bytes block h fits sized =
    let step : suc n * 256 ≡ 256 + n * 256 = omega arith in
    let first : length (take 256 bytes) ≡ 256 = length-take-le 256 bytes (omega arith) in
    let split : over (suc n) bytes block ≡ take 256 bytes ++ over n (drop 256 bytes) block = rw (step, take-add, append_assoc, ← drop-drop (n * 256) 256 bytes) in
    let rest = cut_over k n (drop 256 bytes) block (omega arith) (simp length-drop (omega arith)) sized in
    ap (cut (suc k)) split
    ∙ ap₂ ◌∷◌ (take_at (take 256 bytes) (over n (drop 256 bytes) block) 256 first) (ap (cut k) (drop_at (take 256 bytes) (over n (drop 256 bytes) block) 256 first) ∙ rest)

pub length_run : (bytes : List ℕ) → length (run_blocks bytes) ≡ run_count bytes
length_run bytes = length_cut (run_count bytes) bytes

pub storable_run : (bytes : List ℕ) → Storable (run_blocks bytes)
storable_run bytes = record {
  few = rw (length_run bytes) (omega arith);
  sized = sized_cut (run_count bytes) bytes (omega arith);
}

module _ (bytes block : List ℕ) (n : ℕ) (within : n < run_count bytes) (sized : length block ≡ 256) where
  pub length_over : length (over n bytes block) ≡ length bytes
  length_over = simp (length-append, length-take, length-drop) (omega arith)

  pub run_over : run_blocks (over n bytes block) ≡ slice_set (run_blocks bytes) n block
  run_over = rw length_over (cut_over (run_count bytes) n bytes block within (omega arith) sized)

  pub rest_over : run_rest (over n bytes block) ≡ run_rest bytes
  rest_over = rw length_over (drop-put_mid (n * 256) 256 bytes block (run_count bytes * 256) (omega arith) (omega arith) sized)
