-- The messages of a set, compared with a key one after the other: after one that is not below it, all are above it. Assumes
-- nothing.
use Rattle.std.proofs.Common.{◌≡◌, ℕ, Bool, false, List, [], ◌∷◌, Ordering, Less, Equal, Greater, refl, ap, ◌∙◌, subst}
use Rattle.std.specs.Ordering.{is_lt, ordering_reverse}
use Rattle.std.specs.List.{AllByRecursion}
use Rattle.std.proofs.ByRecursion.{All-weaker}
use Rattle.std.proofs.lemmas.Bool.{both_ways}
use Rattle.kinds.specs.Kind.{Kind, Key, Lawful}
use Rattle.tree.proofs.Lists.{all_join}
use Rattle.tree.proofs.Passing.{Front}
use Rattle.image.specs.Messages.{key_of, Valid, Rising, Messages}
use Rattle.image.proofs.Drawn.{key_of_lem, below_rest, rising_rest}

module _ (kind : Kind) (key : List ℕ) where
  -- how the key of a message compares with the one sought
  abbrev pub compared_with : List ℕ → Ordering
  compared_with m = kind.key_order (key_of kind m) key

  abbrev pub is_below : List ℕ → Bool
  is_below m = is_lt (compared_with m)

  -- after one that is not below, all are above
  abbrev pub Passing : List (List ℕ) → Type 0
  Passing [] = Unit {0}
  Passing (m ∷ ms) = (is_below m ≡ false → AllByRecursion (λ l. compared_with l ≡ Greater) ms) × Passing ms

  pub above_not_below : (ms : List (List ℕ)) → AllByRecursion (λ l. compared_with l ≡ Greater) ms → AllByRecursion (λ l. is_below l ≡ false) ms
  above_not_below = All-weaker _ _ (λ l above. ap is_lt above)

  pub passing_front : (ms : List (List ℕ)) → Passing ms → Front is_below ms
  passing_front [] p = tt
  passing_front (m ∷ ms) p = (λ out. above_not_below ms (p.0 out), passing_front ms p.1)

  module _ (lawful : Lawful kind) (keyed : Key kind key) where
    -- what comes after a key that is not below is above
    above_later : (m l : List ℕ) → Valid kind m → Valid kind l → kind.key_order (key_of kind m) (key_of kind l) ≡ Less → is_below m ≡ false → compared_with l ≡ Greater
    above_later m l vm vl less out = go (compared_with m) refl
      where
        a : Key kind (key_of kind m)
        a = key_of_lem kind lawful m vm

        b : Key kind (key_of kind l)
        b = key_of_lem kind lawful l vl

        above : kind.key_order key (key_of kind l) ≡ Less → compared_with l ≡ Greater
        above h = lawful.keys.mirror key (key_of kind l) keyed b ∙ ap ordering_reverse h

        go : (o : Ordering) → compared_with m ≡ o → compared_with l ≡ Greater
        go Less is = absurd (both_ways _ out (ap is_lt is))
        go Equal is = above (subst (λ k. kind.key_order k (key_of kind l) ≡ Less) (lawful.keys.equal _ _ a keyed is) less)
        go Greater is = above (lawful.keys.transitive key (key_of kind m) (key_of kind l) keyed a b (lawful.keys.mirror _ _ a keyed ∙ ap ordering_reverse is) less)

    passing_from : (ms : List (List ℕ)) → AllByRecursion (Valid kind) ms → Rising kind ms → Passing ms
    passing_from [] v r = tt
    passing_from (m ∷ ms) v r = (
      λ out. all_join (λ l vl less. above_later m l v.0 vl less out) ms v.1 (below_rest kind lawful m ms v r),
      passing_from ms v.1 (rising_rest kind lawful m ms r),
    )

    pub messages_passing : (ms : List (List ℕ)) → Messages kind ms → Passing ms
    messages_passing ms set = passing_from ms set.each set.rising
