-- How many active separators there can be, and how a fan-out is rounded up. Assumes nothing.
use Rattle.std.proofs.Common.{◌≡◌, ℕ, zero, suc, ◌+◌, ◌-◌, ◌*◌, ◌/◌, ◌%◌, ◌<◌, ◌≤◌, min, ap, ◌∙◌, arith}
use Rattle.std.proofs.Math.Nat.{mod-lt}
use Rattle.std.proofs.lemmas.Nat.{div-add-mod', div-mul-add}
use Rattle.tree.specs.Tree.{fan_out}
use Rattle.tree.proofs.Sections.{fan_out-le}

-- active separators come only with more entries than the block can hold
pub fan_within : (alpha rho n : ℕ) → 1 ≤ rho → fan_out alpha rho n - 1 ≤ min alpha n
fan_within alpha rho n h = omega (arith, fan_out-le alpha rho n h)

-- a quotient rounded up
pub rounded_up : (x r : ℕ) → 1 ≤ r → (x + (r - 1)) / r ≡ x / r + min 1 (x % r)
rounded_up x r some = go (x / r) (x % r) (div-add-mod' x r) (mod-lt x some)
  where
    go : (q m : ℕ) → q * r + m ≡ x → m < r → (x + (r - 1)) / r ≡ q + min 1 m
    go q zero is below = ap (λ y. y / r) (omega (arith, is)) ∙ div-mul-add q r (r - 1) (omega arith) ∙ omega arith
    go q (suc m) is below =
        let next : x + (r - 1) ≡ suc q * r + m = grind (arith, is) in
        ap (λ y. y / r) next ∙ div-mul-add (suc q) r m (omega arith) ∙ omega arith
