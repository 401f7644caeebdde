-- What it is for an order to be strict and total. Assumes nothing.
use Rattle.std.specs.Prelude.{◌≡◌, Bool, true, false}

-- over all of which D holds: nothing is before itself, before is transitive, and of two different ones one is before the other
pub record StrictOrder {X : Type 0} (D : X → Type 0) (before : X → X → Bool) : Type 0 where
  pub irreflexive : (a : X) → D a → before a a ≡ false
  pub transitive : (a b c : X) → D a → D b → D c → before a b ≡ true → before b c ≡ true → before a c ≡ true
  pub connected : (a b : X) → D a → D b → before a b ≡ false → before b a ≡ false → a ≡ b
