-- Check: whether blocks are the image of a set of messages. Assumes nothing.
use Rattle.std.specs.Prelude.{ℕ, zero, suc, ◌+◌, ◌*◌, max, Bool, not, ◌&&◌, List, [], ◌∷◌, length, is_some, Ok, Err, nat_le}
use Rattle.std.specs.Str.{bytes_eq}
use Rattle.kinds.specs.Kind.{Kind}
use Rattle.image.specs.Image.{image}
use Rattle.image.specs.Messages.{key_of, standing, put_all}
use Rattle.image.specs.declared.head.Head.{Head}
use Rattle.image.specs.Reading.{slots, well_formed, every}
use Rattle.chapter.specs.Answers.{Answer, and_then, need, block_at, head_of}

-- no message has a key of the set
abbrev pub new_keys : Kind → List (List ℕ) → List (List ℕ) → Bool
new_keys kind found ms = every (λ m. not (is_some (standing kind (key_of kind m) found))) ms

-- the entries of k blocks from block b on, put to those found: each block is there (11), is well formed, repeats no key, and
-- does not bring more entries than the head has (22)
abbrev pub gather : Kind → Head → List (List ℕ) → (k b : ℕ) → List (List ℕ) → Answer (List (List ℕ))
gather kind head blocks zero b found = Ok found
gather kind head blocks (suc k) b found =
    and_then (block_at blocks b) λ bytes.
    let ms = slots kind bytes in
    need (well_formed kind head.settings.alpha head.counts.blocks b bytes && (new_keys kind found ms && nat_le (length found + length ms) head.counts.entries)) (22, b)
    (gather kind head blocks k (b + 1) (put_all kind ms found))

-- blocks compared with those expected, from block b on: the first missing gives 11, the first different 22
abbrev pub compare_blocks : (b : ℕ) → (expected blocks : List (List ℕ)) → Answer (Unit {0})
compare_blocks b [] blocks = Ok tt
compare_blocks b (e ∷ expected) [] = Err (11, b)
compare_blocks b (e ∷ expected) (x ∷ blocks) = need (bytes_eq x e) (22, b) (compare_blocks (b + 1) expected blocks)

-- the work table holds as many messages as the capacity
abbrev pub work_needed : Kind → Head → ℕ
work_needed kind head = head.settings.capacity * kind.width

-- what a check finds: the head and the set of messages
pub record Checked : Type 0 where
  pub head : Head
  pub messages : List (List ℕ)

-- the head (11, 21), the work table (26), the entries of the tree's blocks, and last all blocks against the image of the
-- entries found, up to the larger of the store's size and one more than the capacity
abbrev pub checked : Kind → (work : ℕ) → List (List ℕ) → Answer Checked
checked kind work blocks =
    and_then (head_of kind blocks) λ head.
    need (nat_le (work_needed kind head) work) (26, work_needed kind head)
    (and_then (gather kind head blocks head.counts.blocks 1 []) λ found.
    and_then (compare_blocks 0 (image kind head.settings head.chapter (max (length blocks) (head.settings.capacity + 1)) found) blocks) λ _.
    Ok (record { head = head; messages = found }))

-- the answer is the number of entries
abbrev pub check_answer : Kind → (work : ℕ) → List (List ℕ) → Answer ℕ
check_answer kind work blocks = and_then (checked kind work blocks) (λ c. Ok c.head.counts.entries)
