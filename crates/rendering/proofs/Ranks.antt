-- The ranks of the messages of a set are drawn as the messages are. Assumes nothing.
use Rattle.std.proofs.Common.{◌≡◌, ℕ, ◌<◌, ltb, List, [], length, get_or, sym, refl, ap, ◌∙◌, ⊎_elim, le_refl, arith}
use Rattle.std.specs.Ordering.{is_lt, ordering_reverse}
use Rattle.std.proofs.ByRecursion.{All-get_or}
use Rattle.std.proofs.lemmas.List.{get_or-map}
use Rattle.std.proofs.lemmas.Bool.{cases_lt, lt-ltb, le-ltb}
use Rattle.drawing.specs.Drawing.{priority}
use Rattle.kinds.specs.Kind.{Kind, Key, Lawful}
use Rattle.tree.proofs.Pairs.{pairwise_at}
use Rattle.planner.specs.Drawing.{rank_before}
use Rattle.image.specs.Messages.{key_of, Valid, Messages, before}
use Rattle.image.proofs.Drawn.{KeyBelow, key_of_lem, messages_rise}
use Rattle.rendering.specs.Laws.{priorities_of}

module _ (kind : Kind) (lawful : Lawful kind) (ms : List (List ℕ)) (set : Messages kind ms) where
  is_key : (i : ℕ) → i < length ms → Key kind (key_of kind (get_or ms i []))
  is_key i inside = key_of_lem kind lawful (get_or ms i []) (All-get_or (Valid kind) ms i [] inside set.each)

  -- keys compare as their places do
  by_place : (i j : ℕ) → i < length ms → j < length ms → is_lt (kind.key_order (key_of kind (get_or ms i [])) (key_of kind (get_or ms j []))) ≡ ltb i j
  by_place i j hi hj =
      ⊎_elim (λ less. ap is_lt (rising i j less hj) ∙ sym (lt-ltb i j less))
      (λ up. ⊎_elim (λ more. ap is_lt (lawful.keys.mirror _ _ (is_key j hj) (is_key i hi) ∙ ap ordering_reverse (rising j i more hi)) ∙ sym (le-ltb i j up))
      (λ down. let same : i ≡ j = omega arith in rw same (ap is_lt (lawful.keys.same _ (is_key j hj)) ∙ sym (le-ltb j j (le_refl j))))
      (cases_lt j i))
      (cases_lt i j)
    where
      rising : (i j : ℕ) → i < j → j < length ms → KeyBelow kind (get_or ms i []) (get_or ms j [])
      rising i j = pairwise_at (KeyBelow kind) ms i j [] (messages_rise kind lawful ms set.each set.rising)

  pub drawn_alike : (i j : ℕ) → i < length ms → j < length ms → before kind (get_or ms i []) (get_or ms j []) ≡ rank_before (priorities_of kind ms) i j
  drawn_alike i j hi hj =
      let first = get_or-map (λ m. priority (key_of kind m)) ms i [] 0 hi in
      let other = get_or-map (λ m. priority (key_of kind m)) ms j [] 0 hj in
      rw (first, other, by_place i j hi hj) refl
