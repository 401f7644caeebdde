-- Lay out: an empty chapter over any store. Assumes nothing.
use Rattle.std.specs.Prelude.{ℕ, ◌+◌, List, [], length, Some, None, Ok, Err, Option, nat_le}
use Rattle.kinds.specs.Kind.{Kind}
use Rattle.image.specs.Image.{image}
use Rattle.image.specs.declared.settings.Settings.{Settings}
use Rattle.image.specs.Settings.{settings_refusal}
use Rattle.chapter.specs.Answers.{Answer, need, if_accepted}

abbrev pub unless_refused : {X : Type 0} → Option (ℕ × ℕ) → Answer X → Answer X
unless_refused None next = next
unless_refused (Some refusal) next = Err refusal

-- the settings are tested first (27 with 1, 2 or 3), then that there is a block more than the capacity (28)
abbrev pub lay_out_answer : Kind → (n : ℕ) → Settings → Answer (Unit {0})
lay_out_answer kind n s =
    unless_refused (settings_refusal kind.width s) (need (nat_le (s.capacity + 1) n) (28, s.capacity + 1) (Ok tt))

-- afterwards the blocks are the image of no messages
abbrev pub lay_out_blocks : Kind → (chapter : ℕ) → Settings → List (List ℕ) → List (List ℕ)
lay_out_blocks kind chapter s blocks =
    if_accepted (lay_out_answer kind (length blocks) s) (λ _. image kind s chapter (length blocks) []) blocks
