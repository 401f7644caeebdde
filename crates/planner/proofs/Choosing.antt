-- The ranks drawn earliest, with one more rank looked at. Assumes nothing.
use Rattle.std.proofs.Common.{◌≡◌, ℕ, zero, suc, ◌+◌, ◌-◌, ◌<◌, ◌≤◌, min, Bool, true, false, cond, not, ◌⊎◌, List, [], ◌∷◌, ◌++◌, length, get_or, set, take, option_map, unwrap_or, Option, Some, None, sym, refl, ap, ◌∙◌, inl, inr, ⊎_elim, arith}
use Rattle.std.specs.Prelude.{MatchOption}
use Rattle.std.specs.List.{slice_get, CopiedTo, SameBelow}
use Rattle.std.specs.List.Sorted.{IsPartitionedBy, IsPartitionPoint}
use Rattle.std.specs.List.{ContainsAt as Has, AllByRecursion}
use Rattle.std.proofs.ByRecursion.{all-has, all_has_itself, All-weaker, has_push, has_append_left}
use Rattle.std.proofs.lemmas.Bool.{both_ways, cases_order, cases_lt, cases_Bool, lt-ltb, le-ltb}
use Rattle.std.proofs.lemmas.List.{length-take-le, get_or-take, get_or_default, get_or-set_same, get_or-set_other}
use Rattle.std.proofs.lemmas.Option.{slice_get-get_or}
use Rattle.tree.specs.Tree.{drawn_before, among_earliest}
use Rattle.tree.specs.Laws.{Strict}
use Rattle.tree.proofs.Counting.{drawn_before-le, drawn_before-lt, drawn_before-le-length, one_first}
use Rattle.tree.proofs.Lists.{all_join}
use Rattle.planner.specs.Steps.{Earliest}

-- what is true of everything is true of each element
pub all_unit : {X : Type 0} (xs : List X) → AllByRecursion (λ (_ : X). Unit {0}) xs
all_unit [] = tt
all_unit (x ∷ xs) = (tt, all_unit xs)

pub drawn_before_push : {X : Type 0} (before : X → X → Bool) (ys : List X) (x c : X) → drawn_before before (ys ++ x ∷ []) c ≡ drawn_before before ys c + cond (before x c) 1 0
drawn_before_push before [] x c = omega arith
drawn_before_push before (y ∷ ys) x c = go (before y c) (drawn_before_push before ys x c)
  where
    go : (t : Bool) → drawn_before before (ys ++ x ∷ []) c ≡ drawn_before before ys c + cond (before x c) 1 0 → cond t (1 + drawn_before before (ys ++ x ∷ []) c) (drawn_before before (ys ++ x ∷ []) c) ≡ cond t (1 + drawn_before before ys c) (drawn_before before ys c) + cond (before x c) 1 0
    go true h = omega arith
    go false h = h

-- x put at place `at` of a list, if that is below the limit: what stood from there on stands one place higher, as far as the limit and
-- the first `count` places
pub record Inserted (old : List ℕ) (limit count x at : ℕ) (new : List ℕ) : Type 0 where
  pub own : at < limit → get_or new at 0 ≡ x
  pub kept : (j : ℕ) → j < at → get_or new j 0 ≡ get_or old j 0
  pub moved : (j : ℕ) → at ≤ j → j < count → j + 1 < limit → get_or new (j + 1) 0 ≡ get_or old j 0

-- by a copy of what stands from `at` up to `end`, one place higher, and a write
pub inserted : (old moved : List ℕ) (limit count x at end : ℕ) → end ≡ min count (limit - 1) → at < limit → at < length moved → CopiedTo old moved at (at + 1) (end - at) → SameBelow old moved (at + 1) → Inserted old limit count x at (set moved at x)
inserted old moved limit count x at end last fits inside copied same =
    record {
      own = λ _. get_or-set_same moved at x 0 inside;
      kept = λ j less. get_or-set_other moved at j x 0 (λ e. omega arith) ∙ same j 0 (omega arith);
      moved = λ j from within below.
          get_or-set_other moved at (j + 1) x 0 (λ e. omega arith)
          ∙ copied (j + 1) 0 (omega arith) (omega arith)
          ∙ ap (λ i. get_or old i 0) (omega arith);
    }

module _ {before : ℕ → ℕ → Bool} (strict : Strict (λ (_ : ℕ). Unit {0}) before) where
  -- of ys, fewer are drawn before c than before what is drawn after c
  pub fewer_before : (ys : List ℕ) (c b : ℕ) → Has ys c → before c b ≡ true → drawn_before before ys c < drawn_before before ys b
  fewer_before ys c b has h = all-has (λ a. before a b ≡ true → drawn_before before ys a < drawn_before before ys b) ys c (drawn_before-lt strict ys b (all_unit ys) tt) has h

  module _ (ys : List ℕ) (x count : ℕ) (old : List ℕ) (apart : (y : ℕ) → Has ys y → y ≡ x → ⊥) (chosen : Earliest before ys count old) (long : count ≤ length old) where
    -- of the chosen, those drawn before x come first
    pub first_drawn : IsPartitionedBy (λ y. before y x) (take count old)
    first_drawn i j d order below =
        let taken = length-take-le count old long in
        rw (get_or-take count old i d (omega arith), get_or-take count old j d (omega arith), get_or_default old i d 0 (omega arith), get_or_default old j d 0 (omega arith)) (go (cases_lt i j))
      where
        go : (i < j) ⊎ (j ≤ i) → before (get_or old j 0) x ≡ true → before (get_or old i 0) x ≡ true
        go (inl less) h =
            let a = get_or old i 0 in
            let b = get_or old j 0 in
            let within : j < count = omega (arith, length-take-le count old long) in
            let low = chosen i (omega arith) in
            let high = chosen j within in
            ⊎_elim
            (λ first. strict.transitive a b x tt tt tt first.0 h)
            (λ last. absurd (omega (arith, fewer_before ys b a high.0 last.1, low.1, high.1)))
            (one_first strict a b tt tt (λ same. omega (arith, ap (drawn_before before ys) same, low.1, high.1)))
        go (inr same) h = let one : i ≡ j = omega arith in rw one h

    module _ (limit at : ℕ) (new : List ℕ)
        (counted : count ≡ min limit (length ys))
        (behind : at ≤ count)
        (point : IsPartitionPoint (λ y. before y x ≡ true) (λ y. before y x ≡ false) (take count old) at)
        (put : Inserted old limit count x at new) where
      taken : (j : ℕ) → j < count → get_or (take count old) j 0 ≡ get_or old j 0
      taken j within = get_or-take count old j 0 within

      -- what stands before x's place is drawn before x, and not after it
      first_before : (j : ℕ) → j < at → (before (get_or old j 0) x ≡ true) × (before x (get_or old j 0) ≡ false)
      first_before j below =
          let within : j < count = omega arith in
          let known : before (get_or old j 0) x ≡ true = rw (← taken j within) (point.0 j 0 (omega arith) below) in
          ⊎_elim (λ h. h) (λ h. absurd (both_ways _ h.0 known)) (one_first strict (get_or old j 0) x tt tt (apart _ (chosen j within).0))

      -- what stands from there on is drawn after x
      later : (j : ℕ) → at ≤ j → j < count → before x (get_or old j 0) ≡ true
      later j from within =
          let known : before (get_or old j 0) x ≡ false = rw (← taken j within) (point.1 j 0 from (omega (arith, length-take-le count old long))) in
          ⊎_elim (λ h. absurd (both_ways _ known h.0)) (λ h. h.1) (one_first strict (get_or old j 0) x tt tt (apart _ (chosen j within).0))

      -- before x are drawn as many as stand below its place
      own_place : at < limit → drawn_before before ys x ≡ at
      own_place fits = omega (arith, low (cases_lt 0 at), high (cases_lt at count))
        where
          low : (0 < at) ⊎ (at ≤ 0) → at ≤ drawn_before before ys x
          low (inl some) =
              let last = chosen (at - 1) (omega arith) in
              omega (arith, fewer_before ys (get_or old (at - 1) 0) x last.0 (first_before (at - 1) (omega arith)).0, last.1)
          low (inr none) = omega arith

          high : (at < count) ⊎ (count ≤ at) → drawn_before before ys x ≤ at
          high (inl within) = omega (arith, drawn_before-le strict ys x (get_or old at 0) (all_unit ys) tt tt (later at (omega arith) within), (chosen at within).1)
          high (inr past) = omega (arith, drawn_before-le-length before ys x)

      -- what stood at place j stands at place i, and x counts for it or not
      carried : (i j : ℕ) (t : Bool) → j < count → get_or new i 0 ≡ get_or old j 0 → before x (get_or old j 0) ≡ t → j + cond t 1 0 ≡ i → Has (ys ++ x ∷ []) (get_or new i 0) × (drawn_before before (ys ++ x ∷ []) (get_or new i 0) ≡ i)
      carried i j t within same test place =
          rw same (
            has_append_left ys (x ∷ []) (get_or old j 0) (chosen j within).0,
            drawn_before_push before ys x (get_or old j 0) ∙ rw (test, (chosen j within).1) place,
          )

      pub earliest_more : Earliest before (ys ++ x ∷ []) (min limit (length ys + 1)) new
      earliest_more j below = go (cases_order j at)
        where
          go : (j ≡ at) ⊎ ((j < at) ⊎ (at < j)) → Has (ys ++ x ∷ []) (get_or new j 0) × (drawn_before before (ys ++ x ∷ []) (get_or new j 0) ≡ j)
          go (inl here) =
              let fits : at < limit = omega arith in
              let same : get_or new j 0 ≡ x = ap (λ i. get_or new i 0) here ∙ put.own fits in
              rw same (
                has_push ys x,
                drawn_before_push before ys x x ∙ rw (strict.irreflexive x tt) (omega (arith, own_place fits)),
              )
          go (inr (inl less)) = carried j j false (omega arith) (put.kept j less) (first_before j less).1 (omega arith)
          go (inr (inr more)) =
              let up : j ≡ j - 1 + 1 = omega arith in
              carried j (j - 1) true (omega arith) (ap (λ i. get_or new i 0) up ∙ put.moved (j - 1) (omega arith) (omega arith) (omega arith)) (later (j - 1) (omega arith) (omega arith)) (omega arith)

  -- what is not drawn after the rank at place j is among the j + 1 earliest
  pub among_by_last : (xs : List ℕ) (j c : ℕ) → Has xs c → drawn_before before xs c ≡ j → AllByRecursion (λ x. not (before c x) ≡ among_earliest before (j + 1) xs x) xs
  among_by_last xs j c has place = All-weaker (Has xs) _ told xs (all_has_itself xs)
    where
      told : (x : ℕ) → Has xs x → not (before c x) ≡ among_earliest before (j + 1) xs x
      told x within = go (cases_Bool (before c x)) (cases_Bool (before x c))
        where
          go : (before c x ≡ true) ⊎ (before c x ≡ false) → (before x c ≡ true) ⊎ (before x c ≡ false) → not (before c x) ≡ among_earliest before (j + 1) xs x
          go (inl after) q = rw after (sym (le-ltb _ _ (omega (arith, fewer_before xs c x has after))))
          go (inr h) (inl first) = rw h (sym (lt-ltb _ _ (omega (arith, fewer_before xs x c within first))))
          go (inr h) (inr k) =
              let same : drawn_before before xs c ≡ drawn_before before xs x = ap (drawn_before before xs) (strict.connected c x tt tt h k) in
              rw h (sym (lt-ltb _ _ (omega arith)))

  -- of xs, fewer are drawn before one of them than there are
  pub drawn_before-lt-length : (xs : List ℕ) (x : ℕ) → Has xs x → drawn_before before xs x < length xs
  drawn_before-lt-length [] x (k, below, at) = absurd (omega arith)
  drawn_before-lt-length (y ∷ ys) x (zero, below, at) =
      let own : before y x ≡ false = rw (at 0) (strict.irreflexive x tt) in
      rw own (omega (arith, drawn_before-le-length before ys x))
  drawn_before-lt-length (y ∷ ys) x (suc k, below, at) = go (before y x) (drawn_before-lt-length ys x (k, omega arith, at))
    where
      go : (t : Bool) → drawn_before before ys x < length ys → cond t (1 + drawn_before before ys x) (drawn_before before ys x) < length (y ∷ ys)
      go true h = omega arith
      go false h = omega arith

  -- so among the k earliest are the same for each k from their number on
  pub among_enough : (xs : List ℕ) (k m : ℕ) → min k (length xs) ≡ m → AllByRecursion (λ x. among_earliest before m xs x ≡ among_earliest before k xs x) xs
  among_enough xs k m least = All-weaker (Has xs) _ (λ x has. told x (drawn_before-lt-length xs x has)) xs (all_has_itself xs)
    where
      told : (x : ℕ) → drawn_before before xs x < length xs → among_earliest before m xs x ≡ among_earliest before k xs x
      told x less = go (cases_lt (drawn_before before xs x) k)
        where
          go : (drawn_before before xs x < k) ⊎ (k ≤ drawn_before before xs x) → among_earliest before m xs x ≡ among_earliest before k xs x
          go (inl h) = lt-ltb _ m (omega arith) ∙ sym (lt-ltb _ k h)
          go (inr h) = le-ltb _ m (omega arith) ∙ sym (le-ltb _ k h)

  module _ (xs : List ℕ) (alpha : ℕ) (chosen : List ℕ) (picked : Earliest before xs (min alpha (length xs)) chosen) where
    -- the last of the earliest tells what is among them
    pub told_by : (k : ℕ) → 0 < k → k ≤ min alpha (length xs) → AllByRecursion (λ x. not (before (get_or chosen (k - 1) 0) x) ≡ among_earliest before k xs x) xs
    told_by k some within =
        let place = picked (k - 1) (omega arith) in
        let up : k - 1 + 1 ≡ k = omega arith in
        rw up at (among_by_last xs (k - 1) (get_or chosen (k - 1) 0) place.0 place.1)

    pub block_told : (m : ℕ) → m ≡ min alpha (length xs) → 0 < m → AllByRecursion (λ x. not (before (get_or chosen (m - 1) 0) x) ≡ among_earliest before alpha xs x) xs
    block_told m least some = all_join (λ x p q. p ∙ q) xs (told_by m some (omega arith)) (among_enough xs alpha m (sym least))

    -- and tells it too where there may be none
    pub active_told : (k : ℕ) (s : Option ℕ) → k ≤ min alpha (length xs) → MatchOption s (k ≡ 0) (λ y. (0 < k) × (y ≡ get_or chosen (k - 1) 0)) → AllByRecursion (λ x. unwrap_or (option_map (λ y. not (before y x)) s) false ≡ among_earliest before k xs x) xs
    active_told k None within none = All-weaker (λ _. Unit {0}) _ (λ x _. sym (le-ltb (drawn_before before xs x) k (omega arith))) xs (all_unit xs)
    active_told k (Some y) within last = rw last.1 (told_by k last.0 within)

-- the last of the first k of a list, if there is one
pub last_taken : (k : ℕ) (chosen : List ℕ) → k ≤ length chosen → MatchOption (slice_get (take k chosen) (length (take k chosen) - 1)) (k ≡ 0) (λ y. (0 < k) × (y ≡ get_or chosen (k - 1) 0))
last_taken zero chosen fits = refl
last_taken (suc n) chosen fits =
    let long = length-take-le (suc n) chosen fits in
    let last : length (take (suc n) chosen) - 1 ≡ n = omega arith in
    rw (last, slice_get-get_or (take (suc n) chosen) n 0 (omega arith)) (omega arith, get_or-take (suc n) chosen n 0 (omega arith) ∙ ap (λ i. get_or chosen i 0) (omega arith))
