-- Which bytes are a valid message of a kind, and the value of one. Assumes nothing.
use Rattle.std.specs.Prelude.{ℕ, Bool, not, ◌&&◌, List, length, Option, is_some, ◌==◌}
use Rattle.std.specs.Bool.{then_some}
use Rattle.kinds.specs.Kind.{Kind}

-- the length is right and no field is invalid
abbrev pub is_message : Kind → List ℕ → Bool
is_message kind message = length message == kind.width && not (is_some (kind.invalid message))

-- the value of a valid message, where this is what its fields hold
abbrev pub decoded : {X : Type 0} → Kind → (List ℕ → X) → List ℕ → Option X
decoded kind fields message = then_some (is_message kind message) (fields message)
