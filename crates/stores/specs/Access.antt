-- An accepted read or write: what it does, and how a store hands one on to a store below. Assumes nothing.
use Rattle.std.specs.Prelude.{◌≡◌, ℕ, ◌<◌, List, [], length, get_or, set, Ok, Result, slice_index_or, slice_set}
use Rattle.std.proofs.Common.{sym, ap, ap₂, ◌∙◌}
use Rattle.std.proofs.lemmas.Bool.{eq-eqb, lt-ltb}
use Rattle.stores.specs.Blocks.{access_answer, read_buffer, write_blocks}

module _ (blocks : List (List ℕ)) (n : ℕ) (buffer : List ℕ) (size : length buffer ≡ 256) (within : n < length blocks) where
  pub accepts : Ok tt ≡ access_answer (length blocks) n (length buffer)
  accepts = rw (eq-eqb (length buffer) 256 size, lt-ltb n (length blocks) within)

  pub reads : get_or blocks n [] ≡ read_buffer blocks n buffer
  reads = rw (eq-eqb (length buffer) 256 size, lt-ltb n (length blocks) within)

  pub writes : set blocks n buffer ≡ write_blocks blocks n buffer
  writes = rw (eq-eqb (length buffer) 256 size, lt-ltb n (length blocks) within)

-- block n of a store is block i of the store below
pub record Stands (outer below : List (List ℕ)) (n i : ℕ) : Type 0 where
  pub here : n < length outer
  pub there : i < length below
  pub same : get_or below i [] ≡ slice_index_or outer n []

-- a call on block n that is handed on as one on block i: the promise of the store below gives the answer, the buffer, and
-- what is made of its blocks and its rest after a write
module _ {outer below : List (List ℕ)} {n i : ℕ} (stands : Stands outer below n i) (buffer : List ℕ) (size : length buffer ≡ 256) where
  pub answer_through : {answer : Result (Unit {0}) (ℕ × ℕ)} → answer ≡ access_answer (length below) i (length buffer) → answer ≡ access_answer (length outer) n (length buffer)
  answer_through inner = inner ∙ sym (accepts below i buffer size stands.there) ∙ accepts outer n buffer size stands.here

  pub read_through : {filled : List ℕ} → filled ≡ read_buffer below i buffer → filled ≡ read_buffer outer n buffer
  read_through inner = inner ∙ sym (reads below i buffer size stands.there) ∙ stands.same ∙ reads outer n buffer size stands.here

  module _ {after : List (List ℕ)} (inner : after ≡ write_blocks below i buffer) where
    pub write_through : (made : List (List ℕ) → List (List ℕ)) → made (slice_set below i buffer) ≡ slice_set outer n buffer → made after ≡ write_blocks outer n buffer
    write_through made written =
        ap made (inner ∙ sym (writes below i buffer size stands.there)) ∙ written ∙ writes outer n buffer size stands.here

    pub rest_through : {R A : Type 0} {rest rest' : R} → rest' ≡ rest → (made : List (List ℕ) → R → A) → made (slice_set below i buffer) rest ≡ made below rest → made after rest' ≡ made below rest
    rest_through same made kept = ap₂ made (inner ∙ sym (writes below i buffer size stands.there)) same ∙ kept
