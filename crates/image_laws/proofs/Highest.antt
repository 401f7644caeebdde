-- The higher of two by a total order: which comes first does not matter. Assumes nothing.
use Rattle.std.proofs.Common.{◌≡◌, true, false, Ordering, Less, Equal, Greater, sym, refl, ap, ◌∙◌, subst}
use Rattle.std.specs.Ordering.{is_lt, ordering_reverse}
use Rattle.std.proofs.lemmas.Bool.{both_ways}
use Rattle.layout.specs.Orders.{TotalOrder}

module _ {X : Type 0} (order : X → X → Ordering) where
  -- the second if it is above the first, else the first
  abbrev pub highest : X → X → X
  highest a b = elim (order a b) [ Less ↦ b | Equal ↦ a | Greater ↦ a ]

  highest-by : (a b : X) (o : Ordering) → order a b ≡ o → highest a b ≡ elim o [ Less ↦ b | Equal ↦ a | Greater ↦ a ]
  highest-by a b o is = ap (λ o. elim o [ Less ↦ b | Equal ↦ a | Greater ↦ a ]) is

  -- what is true of both is true of the higher
  pub highest_one : (P : X → Type 0) (a b : X) → P a → P b → P (highest a b)
  highest_one P a b pa pb = go (order a b)
    where
      go : (o : Ordering) → P (elim o [ Less ↦ b | Equal ↦ a | Greater ↦ a ])
      go Less = pb
      go Equal = pa
      go Greater = pa

  module _ {D : X → Type 0} (total : TotalOrder D order) where
    pub highest_same : (a : X) → D a → highest a a ≡ a
    highest_same a da = highest-by a a Equal (total.same a da)

    -- a comparison turned round
    pub turned : (a b : X) → D a → D b → (o : Ordering) → order a b ≡ o → order b a ≡ ordering_reverse o
    turned a b da db o is = total.mirror a b da db ∙ ap ordering_reverse is

    pub highest_comm : (a b : X) → D a → D b → highest a b ≡ highest b a
    highest_comm a b da db = go (order a b) refl
      where
        go : (o : Ordering) → order a b ≡ o → highest a b ≡ highest b a
        go Less is = highest-by a b Less is ∙ sym (highest-by b a Greater (turned a b da db Less is))
        go Equal is = highest-by a b Equal is ∙ total.equal a b da db is ∙ sym (highest-by b a Equal (turned a b da db Equal is))
        go Greater is = highest-by a b Greater is ∙ sym (highest-by b a Less (turned a b da db Greater is))

    module _ (a b c : X) (da : D a) (db : D b) (dc : D c) where
      below : order a b ≡ Less → highest (highest a b) c ≡ highest a (highest b c)
      below is = ap (λ x. highest x c) (highest-by a b Less is) ∙ go (order b c) refl
        where
          go : (o : Ordering) → order b c ≡ o → highest b c ≡ highest a (highest b c)
          go Less to = rw (highest-by b c Less to) (sym (highest-by a c Less (total.transitive a b c da db dc is to)))
          go Equal to = rw (highest-by b c Equal to) (sym (highest-by a b Less is))
          go Greater to = rw (highest-by b c Greater to) (sym (highest-by a b Less is))

      stays : highest a b ≡ a → ((o : Ordering) → order b c ≡ o → is_lt o ≡ false → highest a c ≡ a) → highest (highest a b) c ≡ highest a (highest b c)
      stays first over = ap (λ x. highest x c) first ∙ go (order b c) refl
        where
          go : (o : Ordering) → order b c ≡ o → highest a c ≡ highest a (highest b c)
          go Less to = ap (highest a) (sym (highest-by b c Less to))
          go Equal to = over Equal to refl ∙ sym (ap (highest a) (highest-by b c Equal to) ∙ first)
          go Greater to = over Greater to refl ∙ sym (ap (highest a) (highest-by b c Greater to) ∙ first)

    pub highest_assoc : (a b c : X) → D a → D b → D c → highest (highest a b) c ≡ highest a (highest b c)
    highest_assoc a b c da db dc = go (order a b) refl
      where
        equal_below : order a b ≡ Equal → (o : Ordering) → order b c ≡ o → is_lt o ≡ false → highest a c ≡ a
        equal_below is Less to not = absurd (both_ways true not refl)
        equal_below is Equal to not = highest-by a c Equal (subst (λ x. order x c ≡ Equal) (sym (total.equal a b da db is)) to)
        equal_below is Greater to not = highest-by a c Greater (subst (λ x. order x c ≡ Greater) (sym (total.equal a b da db is)) to)

        above_below : order a b ≡ Greater → (o : Ordering) → order b c ≡ o → is_lt o ≡ false → highest a c ≡ a
        above_below is Less to not = absurd (both_ways true not refl)
        above_below is Equal to not = highest-by a c Greater (subst (λ x. order a x ≡ Greater) (total.equal b c db dc to) is)
        above_below is Greater to not =
            highest-by a c Greater (turned c a dc da Less (total.transitive c b a dc db da (turned b c db dc Greater to) (turned a b da db Greater is)))

        go : (o : Ordering) → order a b ≡ o → highest (highest a b) c ≡ highest a (highest b c)
        go Less is = below a b c da db dc is
        go Equal is = stays a b c da db dc (highest-by a b Equal is) (equal_below is)
        go Greater is = stays a b c da db dc (highest-by a b Greater is) (above_below is)
