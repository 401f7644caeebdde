-- Look up: the message of a key, found along one path of the tree. Assumes nothing.
use Rattle.std.specs.Prelude.{ℕ, zero, suc, ◌+◌, cond, List, length, Some, None, Ok, Err, Option, ◌==◌}
use Rattle.kinds.specs.Kind.{Kind}
use Rattle.image.specs.declared.head.Head.{Head}
use Rattle.image.specs.Reading.{well_formed}
use Rattle.image.specs.Walk.{in_block, next_block}
use Rattle.chapter.specs.Answers.{Answer, and_then, need, block_at, head_of}

-- block b of the tree, which is there (11) and well formed (22)
abbrev pub tree_block_at : Kind → Head → List (List ℕ) → ℕ → Answer (List ℕ)
tree_block_at kind head blocks b =
    and_then (block_at blocks b) λ bytes.
    need (well_formed kind head.settings.alpha head.counts.blocks b bytes) (22, b) (Ok bytes)

-- what a look-up finds, and the number of blocks read
pub record Found : Type 0 where
  pub message : Option (List ℕ)
  pub reads : ℕ

-- what a block gives: the message of the key if it has it, else what the section of the key gives, unless that is empty
abbrev pub found_or : Option (List ℕ) → (reads next : ℕ) → Answer Found → Answer Found
found_or (Some m) reads next onward = Ok (record { message = Some m; reads = reads })
found_or None reads next onward = cond (next == 0) (Ok (record { message = None; reads = reads })) onward

-- the path from block b, before which so many blocks were read. Block numbers rise along it, so that as many steps as the tree
-- has blocks are enough.
abbrev pub walk : Kind → Head → List ℕ → List (List ℕ) → (steps b reads : ℕ) → Answer Found
walk kind head key blocks zero b reads = Ok (record { message = None; reads = reads })
walk kind head key blocks (suc steps) b reads =
    and_then (tree_block_at kind head blocks b) λ bytes.
    let next = next_block kind key head.settings.alpha bytes in
    let onward = walk kind head key blocks steps next (reads + 1) in
    found_or (in_block kind key bytes) (reads + 1) next onward

-- block 0 is read, and then the path from block 1 on; a tree of no blocks has no entry
abbrev pub seek : Kind → List ℕ → List (List ℕ) → Answer Found
seek kind key blocks = and_then (head_of kind blocks) (λ head. walk kind head key blocks head.counts.blocks 1 1)

-- the key's length is tested first, then the buffer's (23)
abbrev pub look_up_answer : Kind → List ℕ → (buffer : ℕ) → List (List ℕ) → Answer Found
look_up_answer kind key buffer blocks =
    need (length key == kind.key_width) (23, length key)
    (need (buffer == kind.width) (23, buffer)
    (seek kind key blocks))

abbrev pub message_or : List ℕ → Answer Found → List ℕ
message_or buffer (Err e) = buffer
message_or buffer (Ok found) = elim found.message [ None ↦ buffer | Some m ↦ m ]

-- the message fills the buffer; if there is none, or on a refusal, the buffer is untouched
abbrev pub look_up_buffer : Kind → List ℕ → List ℕ → List (List ℕ) → List ℕ
look_up_buffer kind key buffer blocks = message_or buffer (look_up_answer kind key (length buffer) blocks)
