-- Parts of a list that is made of pieces of one length. Assumes nothing.
use Rattle.std.proofs.Common.{◌≡◌, ℕ, zero, suc, ◌+◌, ◌*◌, ◌<◌, List, [], ◌∷◌, ◌++◌, length, get_or, take, drop, sym, ap, ◌∙◌, append_assoc, suc-mul, add_comm, zero-mul, arith}
use Rattle.std.specs.List.{flat_map, AllByRecursion}
use Rattle.std.proofs.lemmas.List.{length-append, take_at, drop_at, drop-drop}
use Rattle.fields.specs.Numbers.{part}

-- a part past n elements is a part of what lies after them
pub part_past : {X : Type 0} (n at k : ℕ) (xs : List X) → part (n + at) k xs ≡ part at k (drop n xs)
part_past n at k xs = ap (take k) (sym (drop-drop at n xs))

module _ {X Y : Type 0} (f : X → List Y) (w : ℕ) where
  abbrev OfWidth : List X → Type 0
  OfWidth xs = AllByRecursion (λ x. length (f x) ≡ w) xs

  pub length_joined : (xs : List X) → OfWidth xs → length (flat_map f xs) ≡ length xs * w
  length_joined [] h = sym (zero-mul w)
  length_joined (x ∷ xs) h = omega (arith, length-append (f x) (flat_map f xs), h.0, length_joined xs h.1, suc-mul (length xs) w)

  -- piece i of pieces laid one after the other
  pub part_joined : (xs : List X) (rest : List Y) → OfWidth xs → (i : ℕ) (d : X) → i < length xs → part (i * w) w (flat_map f xs ++ rest) ≡ f (get_or xs i d)
  part_joined [] rest h i d lt = absurd (omega arith)
  part_joined (x ∷ xs) rest h zero d lt = rw (zero-mul, append_assoc) (take_at (f x) (flat_map f xs ++ rest) w h.0)
  part_joined (x ∷ xs) rest h (suc i) d lt =
      let at : suc i * w ≡ w + i * w = suc-mul i w ∙ add_comm (i * w) w in
      rw (at, append_assoc) (part_past w (i * w) w (f x ++ (flat_map f xs ++ rest)) ∙ ap (part (i * w) w) (drop_at (f x) (flat_map f xs ++ rest) w h.0) ∙ part_joined xs rest h.1 i d (omega arith))
