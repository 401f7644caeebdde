-- Page: on which page an entry begins. Assumes nothing.
use Rattle.std.specs.Prelude.{ℕ, zero, suc, ◌+◌, ◌/◌, cond, List, length, Some, None, Ok, Option, ◌==◌, nat_lt}
use Rattle.kinds.specs.Kind.{Kind}
use Rattle.image.specs.Walk.{measure_before, next_block}
use Rattle.image.specs.declared.head.Head.{Head}
use Rattle.chapter.specs.Answers.{Answer, and_then, need, head_of}
use Rattle.chapter.specs.LookUp.{tree_block_at, seek}

-- summed along the path from block b to its end, past the key's own block
abbrev pub lines_before : Kind → Head → List ℕ → List (List ℕ) → (steps b lines : ℕ) → Answer ℕ
lines_before kind head key blocks zero b lines = Ok lines
lines_before kind head key blocks (suc steps) b lines =
    and_then (tree_block_at kind head blocks b) λ bytes.
    let next = next_block kind key head.settings.alpha bytes in
    let sum = lines + measure_before kind key head.settings.alpha bytes in
    let onward = lines_before kind head key blocks steps next sum in
    cond (next == 0) (Ok sum) onward

-- 1 more than the whole pages before it
abbrev pub page_of : (per_page lines : ℕ) → ℕ
page_of per_page lines = 1 + lines / per_page

-- a message with a measure has a page, by the lines before it
abbrev pub page_for : Kind → Option (List ℕ) → Answer ℕ → Answer (Option ℕ)
page_for kind None page = Ok None
page_for kind (Some m) page = cond (kind.measured m == 0) (Ok None) (and_then page (λ p. Ok (Some p)))

-- the key's length (23), the lines to a page (29), then a look-up; an absent key or a measure of 0 has no page, and then no
-- further block is read
abbrev pub page_answer : Kind → List ℕ → (per_page : ℕ) → List (List ℕ) → Answer (Option ℕ)
page_answer kind key per_page blocks =
    need (length key == kind.key_width) (23, length key)
    (need (nat_lt 0 per_page) (29, 0)
    (and_then (seek kind key blocks) λ found.
    and_then (head_of kind blocks) λ head.
    page_for kind found.message (and_then (lines_before kind head key blocks head.counts.blocks 1 0) (λ lines. Ok (page_of per_page lines)))))
