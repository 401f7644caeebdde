-- The drawing order is strict, where the key order is total. Assumes nothing.
use Rattle.std.proofs.Common.{◌≡◌, ℕ, true, false, List, Ordering, arith}
use Rattle.std.proofs.lemmas.Bool.Decides.{nat_tests}
use Rattle.drawing.specs.Drawing.{drawn_before}
use Rattle.fields.specs.Orders.{StrictOrder}
use Rattle.layout.specs.Orders.{TotalOrder}

module _ (D : List ℕ → Type 0) (order : List ℕ → List ℕ → Ordering) (total : TotalOrder D order) where
  alone : (a : List ℕ) → D a → drawn_before order a a ≡ false
  alone a da = let same = total.same a da in grind (arith, nat_tests, same)

  chained : (a b c : List ℕ) → D a → D b → D c → drawn_before order a b ≡ true → drawn_before order b c ≡ true → drawn_before order a c ≡ true
  chained a b c da db dc h k = let less = total.transitive a b c da db dc in grind (arith, nat_tests, less)

  apart : (a b : List ℕ) → D a → D b → drawn_before order a b ≡ false → drawn_before order b a ≡ false → a ≡ b
  apart a b da db h k =
      let mirror = total.mirror a b da db in
      total.equal a b da db (grind (arith, nat_tests, mirror))

  pub drawn_strict : StrictOrder D (drawn_before order)
  drawn_strict =
      record { irreflexive = alone; transitive = chained; connected = apart }
