-- What stands for a key in a set of messages that is cut: it is among those taken, or in the part for the key. Assumes nothing.
use Rattle.std.proofs.Common.{◌≡◌, ℕ, Bool, true, false, cond, List, [], ◌∷◌, Some, None, filter, Option, Ordering, Less, Equal, Greater, sym, refl, ap, ◌∙◌, ap₂}
use Rattle.std.specs.Option.{option_or}
use Rattle.std.specs.Ordering.{is_lt}
use Rattle.std.specs.List.{AllByRecursion}
use Rattle.std.proofs.ByRecursion.{all_kept_by}
use Rattle.std.proofs.lemmas.Bool.{both_ways}
use Rattle.kinds.specs.Kind.{Kind}
use Rattle.tree.proofs.Passing.{part_for, all_part_for, part_for_more, part_for_here}
use Rattle.image.specs.Messages.{found_by, standing}
use Rattle.image_laws.proofs.Compared.{compared_with, is_below, Passing, above_not_below}

module _ (kind : Kind) (key : List ℕ) where
  standing_by : (m : List ℕ) (ms : List (List ℕ)) (o : Ordering) → compared_with kind key m ≡ o → standing kind key (m ∷ ms) ≡ found_by o m (standing kind key ms)
  standing_by m ms o is = ap (λ o. found_by o m (standing kind key ms)) is

  -- nothing, where all are above
  standing_none : (ms : List (List ℕ)) → AllByRecursion (λ m. compared_with kind key m ≡ Greater) ms → standing kind key ms ≡ None
  standing_none [] above = refl
  standing_none (m ∷ ms) above = standing_by m ms Greater above.0

  module _ (separator taken : List ℕ → Bool) where
    -- first among those taken, then in the part
    abbrev standing_parted : List (List ℕ) → Option (List ℕ)
    standing_parted ms = option_or (standing kind key (filter taken ms)) (standing kind key (part_for separator taken (is_below kind key) ms))

    parted_less : (m : List ℕ) (ms : List (List ℕ)) → compared_with kind key m ≡ Less → standing_parted (m ∷ ms) ≡ standing_parted ms
    parted_less m ms is =
        ap₂ option_or (kept (taken m)) (part_for_more separator taken (is_below kind key) (standing kind key) m ms (ap is_lt is) (λ ys. standing_by m ys Less is))
      where
        kept : (t : Bool) → standing kind key (cond t (m ∷ filter taken ms) (filter taken ms)) ≡ standing kind key (filter taken ms)
        kept true = standing_by m (filter taken ms) Less is
        kept false = refl

    parted_none : (ms : List (List ℕ)) → AllByRecursion (λ m. compared_with kind key m ≡ Greater) ms → standing_parted ms ≡ None
    parted_none ms above =
        ap₂ option_or (standing_none _ (all_kept_by taken _ ms above)) (standing_none _ (all_part_for separator taken (is_below kind key) _ ms above))

    parted_here : (m : List ℕ) (ms : List (List ℕ)) → (separator m ≡ true → taken m ≡ true) → compared_with kind key m ≡ Equal → AllByRecursion (λ l. compared_with kind key l ≡ Greater) ms → standing_parted (m ∷ ms) ≡ Some m
    parted_here m ms among is above = go (separator m) (taken m) refl refl
      where
        go : (s t : Bool) → separator m ≡ s → taken m ≡ t → standing_parted (m ∷ ms) ≡ Some m
        go s true sep tak = rw tak (rw (standing_by m (filter taken ms) Equal is))
        go true false sep tak = absurd (both_ways _ tak (among sep))
        go false false sep tak =
            ap₂ option_or
            (ap (λ t. standing kind key (cond t (m ∷ filter taken ms) (filter taken ms))) tak ∙ standing_none _ (all_kept_by taken _ ms above))
            (ap (standing kind key) (part_for_here separator taken (is_below kind key) m ms (ap is_lt is, above_not_below kind key ms above) sep tak) ∙ standing_by m _ Equal is)

    pub standing_parted_lem : ((m : List ℕ) → separator m ≡ true → taken m ≡ true) → (ms : List (List ℕ)) → Passing kind key ms → standing kind key ms ≡ standing_parted ms
    standing_parted_lem among [] p = refl
    standing_parted_lem among (m ∷ ms) p = go (compared_with kind key m) refl (standing_parted_lem among ms p.1)
      where
        go : (o : Ordering) → compared_with kind key m ≡ o → standing kind key ms ≡ standing_parted ms → standing kind key (m ∷ ms) ≡ standing_parted (m ∷ ms)
        go Less is rest = standing_by m ms Less is ∙ rest ∙ sym (parted_less m ms is)
        go Equal is rest = standing_by m ms Equal is ∙ sym (parted_here m ms (among m) is (p.0 (ap is_lt is)))
        go Greater is rest = standing_by m ms Greater is ∙ sym (parted_none (m ∷ ms) (is, p.0 (ap is_lt is)))
