-- Elements written one after the other into a list. Assumes nothing.
use Rattle.std.proofs.Common.{◌≡◌, ℕ, suc, ◌+◌, ◌<◌, ◌≤◌, List, [], ◌∷◌, ◌++◌, length, drop, set, replicate, sym, refl, ap, ◌∙◌, add-zero, zero-add, arith}
use lib.Seq.{sets}
use Rattle.std.proofs.lemmas.List.Edits.{sets-eq}
use Rattle.std.proofs.lemmas.List.{set_comm, length-replicate, drop-replicate}
use Rattle.fields.specs.Numbers.{filled}

pub sets-append : {X : Type 0} (l : List X) (i : ℕ) (vs ws : List X) → sets l i (vs ++ ws) ≡ sets (sets l i vs) (i + length vs) ws
sets-append l i [] ws = ap (λ n. sets l n ws) (sym (add-zero i))
sets-append l i (v ∷ vs) ws =
    let up : suc i + length vs ≡ i + suc (length vs) = omega arith in
    sets-append (set l i v) (suc i) vs ws ∙ ap (λ n. sets (sets (set l i v) (suc i) vs) n ws) up

-- an element below them may as well be written first
pub set-sets : {X : Type 0} (l : List X) (i j : ℕ) (a : X) (vs : List X) → j < i → set (sets l i vs) j a ≡ sets (set l j a) i vs
set-sets l i j a [] less = refl
set-sets l i j a (v ∷ vs) less = set-sets (set l i v) (suc i) j a vs (omega arith) ∙ ap (λ m. sets m (suc i) vs) (set_comm l i j v a (λ e. omega arith))

-- written into a blank list, they fill it up
pub sets-filled : {X : Type 0} (n : ℕ) (blank : X) (vs : List X) → length vs ≤ n → sets (replicate n blank) 0 vs ≡ filled n blank vs
sets-filled n blank vs fits =
    sets-eq vs (replicate n blank) 0 (rw (length-replicate n blank) (omega arith))
    ∙ ap (λ l. vs ++ l) (ap (λ m. drop m (replicate n blank)) (zero-add (length vs)) ∙ drop-replicate (length vs) n blank)
