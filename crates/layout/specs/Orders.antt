-- What it is for an order to be total, and the comparison of lists of numbers. Assumes nothing.
use Rattle.std.specs.Prelude.{◌≡◌, ℕ, List}
use Rattle.std.specs.declared.cmp.Ordering.TheVariants.{Less, Equal}
use Rattle.std.specs.declared.cmp.Ordering.{Ordering}
use Rattle.std.specs.Ordering.{nat_cmp as compared}
use Rattle.std.specs.Ordering.{ordering_reverse}
use Rattle.std.specs.Cmp.Lexicographic.{slice_cmp}

-- The order is total over all of which D holds. It answers one of three, so every two can be compared; equals come out
-- equal, and nothing else does; what is less one way is greater the other way; less is transitive.
pub record TotalOrder {X : Type 0} (D : X → Type 0) (order : X → X → Ordering) : Type 0 where
  pub same : (a : X) → D a → order a a ≡ Equal
  pub equal : (a b : X) → D a → D b → order a b ≡ Equal → a ≡ b
  pub mirror : (a b : X) → D a → D b → order b a ≡ ordering_reverse (order a b)
  pub transitive : (a b c : X) → D a → D b → D c → order a b ≡ Less → order b c ≡ Less → order a c ≡ Less

-- the first two numbers that differ decide; a list that ends first is less
abbrev pub lexical : List ℕ → List ℕ → Ordering
lexical xs ys = slice_cmp compared xs ys
