-- Deliver: a message into a chapter. Assumes nothing.
use Rattle.std.specs.Prelude.{ℕ, ◌+◌, cond, ◌||◌, List, [], ◌∷◌, length, is_some, Some, None, Ok, Err, Option, ◌==◌, nat_le, nat_lt}
use Rattle.std.specs.Ordering.{is_lt}
use Rattle.std.specs.Str.{bytes_eq}
use Rattle.kinds.specs.Kind.{Kind}
use Rattle.image.specs.Image.{image, tree_of}
use Rattle.image.specs.Messages.{key_of, standing, put}
use Rattle.chapter.specs.Answers.{Answer, and_then, need, if_accepted}
use Rattle.chapter.specs.Check.{Checked, checked}

-- 1 for a new key, 2 where the message outranks the one that stands, 3 otherwise
abbrev pub outcome : Kind → List ℕ → Option (List ℕ) → ℕ
outcome kind message None = 1
outcome kind message (Some old) = cond (is_lt (kind.rank_order old message)) 2 3

-- how many blocks differ
abbrev pub differing : (before after : List (List ℕ)) → ℕ
differing [] after = 0
differing (x ∷ before) [] = 0
differing (x ∷ before) (y ∷ after) = cond (bytes_eq x y) (differing before after) (1 + differing before after)

-- the first invalid field gives 24 with its offset
abbrev pub valid_or : {X : Type 0} → Option ℕ → Answer X → Answer X
valid_or None next = next
valid_or (Some at) next = Err (24, at)

-- what an accepted message makes of the blocks
abbrev pub delivered : Kind → List ℕ → Checked → (n : ℕ) → List (List ℕ)
delivered kind message c n = image kind c.head.settings c.head.chapter n (put kind message c.messages)

-- length (23), validity (24), the whole check, then room for a new key (25), then a tree of no more blocks than the capacity (20)
abbrev pub accepts : Kind → (work : ℕ) → List ℕ → List (List ℕ) → Answer Checked
accepts kind work message blocks =
    need (length message == kind.width) (23, length message)
    (valid_or (kind.invalid message)
    (and_then (checked kind work blocks) λ c.
    let n = length c.messages in
    need (is_some (standing kind (key_of kind message) c.messages) || nat_lt n c.head.settings.capacity) (25, n)
    (need (nat_le (length (tree_of kind c.head.settings (put kind message c.messages))) c.head.settings.capacity) (20, c.head.settings.capacity)
    (Ok c))))

-- the outcome, and the number of blocks that now differ
abbrev pub deliver_answer : Kind → (work : ℕ) → List ℕ → List (List ℕ) → Answer (ℕ × ℕ)
deliver_answer kind work message blocks =
    and_then (accepts kind work message blocks) λ c.
    Ok (outcome kind message (standing kind (key_of kind message) c.messages), differing blocks (delivered kind message c (length blocks)))

abbrev pub deliver_blocks : Kind → (work : ℕ) → List ℕ → List (List ℕ) → List (List ℕ)
deliver_blocks kind work message blocks =
    if_accepted (accepts kind work message blocks) (λ c. delivered kind message c (length blocks)) blocks
