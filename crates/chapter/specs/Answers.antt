-- How the answers of calls are put together. Assumes nothing.
use Rattle.std.specs.Prelude.{ℕ, Bool, cond, List, length, replicate, Some, None, Ok, Err, Option, Result, nat_lt, slice_index_or}
use Rattle.kinds.specs.Kind.{Kind}
use Rattle.image.specs.declared.head.Head.{Head}
use Rattle.image.specs.Reading.{read_head}

-- an answer: a value, or the number and place of the refusal
abbrev pub Answer : Type 0 → Type 0
Answer X = Result X (ℕ × ℕ)

-- what comes after an accepted step; a refusal stays
abbrev pub and_then : {X Y : Type 0} → Answer X → (X → Answer Y) → Answer Y
and_then (Ok x) next = next x
and_then (Err e) next = Err e

-- refused with this number and place if the test fails
abbrev pub need : {X : Type 0} → Bool → ℕ × ℕ → Answer X → Answer X
need test refusal next = cond test next (Err refusal)

-- block b, or 11 with its number if there is none
abbrev pub block_at : List (List ℕ) → ℕ → Answer (List ℕ)
block_at blocks b = need (nat_lt b (length blocks)) (11, b) (Ok (slice_index_or blocks b List.[]))

abbrev pub head_or : Option Head → Answer Head
head_or None = Err (21, 0)
head_or (Some head) = Ok head

-- the head of block 0, or 21 with place 0 if it is wrong
abbrev pub head_of : Kind → List (List ℕ) → Answer Head
head_of kind blocks = and_then (block_at blocks 0) (λ bytes. head_or (read_head kind bytes))

-- the blocks after a call: changed if it was accepted, else as before
abbrev pub if_accepted : {X : Type 0} → Answer X → (X → List (List ℕ)) → List (List ℕ) → List (List ℕ)
if_accepted (Ok x) after before = after x
if_accepted (Err e) after before = before

-- the work table after a call that takes one, accepted or refused: all zero
abbrev pub work_after : (work : ℕ) → List ℕ
work_after work = replicate work 0
