-- Two lists of blocks end to end: which block is whose, what a write to either does, and how they come apart again.
-- Assumes nothing.
use Rattle.std.specs.Prelude.{◌≡◌, ℕ, ◌+◌, ◌-◌, ◌<◌, ◌≤◌, min, List, ◌++◌, length, take, drop, slice_set, refl}
use Rattle.std.proofs.Common.{sym, ap, ◌∙◌, arith, length-set}
use Rattle.std.proofs.Math.Seq.{take-set-lt}
use Rattle.std.proofs.ByRecursion.{All-append, All-take}
use Rattle.std.proofs.lemmas.List.{drop-append-le, drop_at, drop-set-lt, get_or-append-add, get_or_append_left, get_or-take, length-append, length-take, set-append_left, set-append_right, take-append-drop, take_at, take-take}
use Rattle.stores.specs.Blocks.{Storable}
use Rattle.stores.specs.Stores.{off_pair, united}
use Rattle.stores.specs.Access.{Stands}

module _ (first second : List (List ℕ)) where
  pub length_united : length (united first second) ≡ min 65535 (length first + length second)
  length_united = simp (length-take, length-append)

  pub storable_united : Storable first → Storable second → Storable (united first second)
  storable_united f s = record {
    few = rw length_united (omega arith);
    sized = All-take _ 65535 (first ++ second) (All-append _ first second f.sized s.sized);
  }

  module _ (n : ℕ) (within : n < length (united first second)) where
    low : n < 65535
    low = omega (arith, length_united)

    -- a write before the cut, whichever list it goes to
    module _ (block : List ℕ) (both : List (List ℕ)) (written : slice_set (first ++ second) n block ≡ both) where
      take_both : take 65535 both ≡ slice_set (united first second) n block
      take_both = let on = low in rw (← written, take-set-lt)

      drop_both : drop 65535 both ≡ drop 65535 (first ++ second)
      drop_both = let on = low in rw (← written, drop-set-lt)

    module _ (here : n < length first) where
      pub front_stands : Stands (united first second) first n n
      front_stands = record { here = within; there = here; same = let on = low in sym (rw (get_or-take, get_or_append_left)) }

      pub set_front : (block : List ℕ) → united (slice_set first n block) second ≡ slice_set (united first second) n block
      set_front block = take_both block (slice_set first n block ++ second) (set-append_left first second n block here)

      pub off_pair_front : {Q R : Type 0} (q : Q) (r : R) (block : List ℕ) → off_pair (slice_set first n block) q second r ≡ off_pair first q second r
      off_pair_front q r block = rw (length-set first n block, drop_both block (slice_set first n block ++ second) (set-append_left first second n block here))

    module _ (i : ℕ) (behind : length first + i ≡ n) where
      pub back_stands : Stands (united first second) second n i
      back_stands = record {
        here = within;
        there = omega (arith, length_united);
        same = let on = low in sym (rw (get_or-take, ← behind, get_or-append-add));
      }

      moved : (block : List ℕ) → slice_set (first ++ second) n block ≡ first ++ slice_set second i block
      moved block =
          let at : n - length first ≡ i = omega arith in
          set-append_right first second (length first) n block refl (omega arith) ∙ ap (λ j. first ++ slice_set second j block) at

      pub set_back : (block : List ℕ) → united first (slice_set second i block) ≡ slice_set (united first second) n block
      set_back block = take_both block (first ++ slice_set second i block) (moved block)

      pub off_pair_back : {Q R : Type 0} (q : Q) (r : R) (block : List ℕ) → off_pair first q (slice_set second i block) r ≡ off_pair first q second r
      off_pair_back q r block = rw (drop_both block (first ++ slice_set second i block) (moved block))

  module _ (few : length first ≤ 65535) where
    pub front_united : take (length first) (united first second) ≡ first
    front_united = take-take (length first) 65535 (first ++ second) few ∙ take_at first second (length first) refl

    pub back_united : drop (length first) (united first second) ++ drop 65535 (first ++ second) ≡ second
    back_united =
        let within : length first ≤ length (united first second) = rw length_united (omega arith) in
        sym (drop-append-le (length first) (united first second) (drop 65535 (first ++ second)) within)
        ∙ ap (drop (length first)) (take-append-drop 65535 (first ++ second))
        ∙ drop_at first second (length first) refl
