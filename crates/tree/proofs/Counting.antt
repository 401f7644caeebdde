-- How many elements are drawn before one, and how many are among the k drawn earliest. Assumes nothing.
use Rattle.std.proofs.Common.{◌≡◌, ℕ, ◌+◌, ◌-◌, ◌<◌, ◌≤◌, min, Bool, true, false, cond, ltb, ◌⊎◌, List, [], ◌∷◌, length, filter, refl, inl, inr, ⊎_elim, arith}
use Rattle.std.specs.List.{AllByRecursion}
use Rattle.std.proofs.ByRecursion.{All-weaker}
use Rattle.std.proofs.lemmas.Bool.{both_ways, lt-ltb, le-ltb, cases_lt, cond-true, cond-false}
use Rattle.std.proofs.lemmas.Bool.Decides.{same_from_decides, Decides-like, Decides-ltb}
use Rattle.tree.specs.Tree.{drawn_before, among_earliest}
use Rattle.tree.specs.Laws.{Strict, Distinct}
use Rattle.tree.proofs.Lists.{all_join, all_both, kept_by_same}

-- where what is counted on the left is counted on the right, a gap between the counts stays
count_gap : (gap : ℕ) (s t : Bool) (m n : ℕ) → (s ≡ true → t ≡ true) → gap + m ≤ n → gap + cond s (1 + m) m ≤ cond t (1 + n) n
count_gap gap true true m n h l = omega arith
count_gap gap true false m n h l = absurd (both_ways false refl (h refl))
count_gap gap false true m n h l = omega arith
count_gap gap false false m n h l = omega arith

pub drawn_before-le-length : {X : Type 0} (before : X → X → Bool) (xs : List X) (x : X) → drawn_before before xs x ≤ length xs
drawn_before-le-length before [] x = omega arith
drawn_before-le-length before (y ∷ ys) x =
    let rest = drawn_before-le-length before ys x in
    omega (arith, count_gap 0 (before y x) true (drawn_before before ys x) (length ys) (λ _. refl) (omega arith))

-- two tests that tell the same
ltb_same : (a b c d : ℕ) → (a < b → c < d) → (c < d → a < b) → ltb a b ≡ ltb c d
ltb_same a b c d there back = same_from_decides (ltb a b) (ltb c d) (Decides-like (ltb a b) there back (Decides-ltb a b)) (Decides-ltb c d)

-- how many are drawn before an element once x is added (m), before that (n), and before x (r): if the element is drawn before
-- x, as many as there were, and fewer than r; if not, one more, and there were r at least
abbrev pub Shifted : (r m n : ℕ) → Type 0
Shifted r m n = ((m ≡ n) × (n < r)) ⊎ ((m ≡ 1 + n) × (r ≤ n))

-- if x is among the k earliest, the others that are were among the k - 1 earliest without it
shifted_within : (k r : ℕ) → r < k → (m n : ℕ) → Shifted r m n → ltb m k ≡ ltb n (k - 1)
shifted_within k r within m n shifted = ltb_same m k n (k - 1) (λ h. omega arith) (λ h. omega arith)

-- if it is not, they were among the k earliest
shifted_past : (k r : ℕ) → k ≤ r → (m n : ℕ) → Shifted r m n → ltb m k ≡ ltb n k
shifted_past k r past m n shifted = ltb_same m k n k (λ h. omega arith) (λ h. omega arith)

module _ {X : Type 0} {P : X → Type 0} {before : X → X → Bool} (strict : Strict P before) where
  -- what is drawn earlier has no more drawn before it
  pub drawn_before-le : (xs : List X) (a b : X) → AllByRecursion P xs → P a → P b → before a b ≡ true → drawn_before before xs a ≤ drawn_before before xs b
  drawn_before-le [] a b all pa pb earlier = omega arith
  drawn_before-le (y ∷ ys) a b all pa pb earlier =
      let rest = drawn_before-le ys a b all.1 pa pb earlier in
      omega (arith, count_gap 0 (before y a) (before y b) (drawn_before before ys a) (drawn_before before ys b) (λ h. strict.transitive y a b all.0 pa pb h earlier) (omega arith))

  -- and fewer, if it is one of the elements itself
  pub drawn_before-lt : (xs : List X) (b : X) → AllByRecursion P xs → P b → AllByRecursion (λ a. before a b ≡ true → drawn_before before xs a < drawn_before before xs b) xs
  drawn_before-lt [] b all pb = tt
  drawn_before-lt (x ∷ xs) b all pb = (
    λ earlier. rw (strict.irreflexive x all.0, earlier) (omega (arith, drawn_before-le xs x b all.1 all.0 pb earlier)),
    all_join (λ a pa rest earlier. gap a pa (rest earlier) earlier) xs all.1 (drawn_before-lt xs b all.1 pb),
  )
    where
      gap : (a : X) → P a → drawn_before before xs a < drawn_before before xs b → before a b ≡ true → drawn_before before (x ∷ xs) a < drawn_before before (x ∷ xs) b
      gap a pa rest earlier = omega (arith, count_gap 1 (before x a) (before x b) (drawn_before before xs a) (drawn_before before xs b) (λ h. strict.transitive x a b all.0 pa pb h earlier) (omega arith))

  -- nothing is drawn before what is drawn before it
  pub not_both : (x y : X) → P x → P y → before x y ≡ true → before y x ≡ false
  not_both x y px py h = go (before y x) refl
    where
      go : (t : Bool) → before y x ≡ t → before y x ≡ false
      go true e = absurd (both_ways _ (strict.irreflexive x px) (strict.transitive x y x px py px h e))
      go false e = e

  -- of two different ones just one is drawn before the other
  pub one_first : (x y : X) → P x → P y → (x ≡ y → ⊥) → ((before x y ≡ true) × (before y x ≡ false)) ⊎ ((before x y ≡ false) × (before y x ≡ true))
  one_first x y px py apart = go (before x y) (before y x) refl refl
    where
      go : (s t : Bool) → before x y ≡ s → before y x ≡ t → ((before x y ≡ true) × (before y x ≡ false)) ⊎ ((before x y ≡ false) × (before y x ≡ true))
      go true t e f = inl (e, not_both x y px py e)
      go false true e f = inr (e, f)
      go false false e f = absurd (apart (strict.connected x y px py e f))

  -- how x in front of the others shifts the counts
  pub drawn_before-cons : (x : X) (xs : List X) → AllByRecursion P (x ∷ xs) → Distinct (x ∷ xs) → AllByRecursion (λ y. Shifted (drawn_before before xs x) (drawn_before before (x ∷ xs) y) (drawn_before before xs y)) xs
  drawn_before-cons x xs all apart =
      all_join (λ y p. shift y p.0 p.1) xs (all_both P (λ y. x ≡ y → ⊥) xs all.1 apart.0) (drawn_before-lt xs x all.1 all.0)
    where
      shift : (y : X) → P y → (x ≡ y → ⊥) → (before y x ≡ true → drawn_before before xs y < drawn_before before xs x) → Shifted (drawn_before before xs x) (drawn_before before (x ∷ xs) y) (drawn_before before xs y)
      shift y py differ fewer =
          ⊎_elim
          (λ h. inr (cond-true (before x y) _ _ h.0, drawn_before-le xs x y all.1 all.0 py h.0))
          (λ h. inl (cond-false (before x y) _ _ h.0, fewer h.1))
          (one_first x y all.0 py differ)

  -- of different elements k are among the k earliest, or all if they are fewer
  pub earliest_count : (k : ℕ) (xs : List X) → AllByRecursion P xs → Distinct xs → length (filter (among_earliest before k xs) xs) ≡ min k (length xs)
  earliest_count k [] all apart = omega arith
  earliest_count k (x ∷ xs) all apart =
      ⊎_elim
      (λ within. rw (own, lt-ltb r k within, others (k - 1) (shifted_within k r within)) (omega (arith, earliest_count (k - 1) xs all.1 apart.1)))
      (λ past. rw (own, le-ltb r k past, others k (shifted_past k r past)) (omega (arith, drawn_before-le-length before xs x, earliest_count k xs all.1 apart.1)))
      (cases_lt r k)
    where
      r : ℕ
      r = drawn_before before xs x

      own : before x x ≡ false
      own = strict.irreflexive x all.0

      others : (j : ℕ) → ((m n : ℕ) → Shifted r m n → ltb m k ≡ ltb n j) → filter (among_earliest before k (x ∷ xs)) xs ≡ filter (among_earliest before j xs) xs
      others j tests = kept_by_same _ _ xs (All-weaker _ _ (λ y. tests (drawn_before before (x ∷ xs) y) (drawn_before before xs y)) xs (drawn_before-cons x xs all apart))
