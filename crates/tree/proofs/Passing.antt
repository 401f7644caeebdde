-- A list cut at its separators, with a test that is true of a front of it: the part in which the front ends. Assumes nothing.
use Rattle.std.proofs.Common.{◌≡◌, ℕ, zero, suc, ◌+◌, ◌<◌, ◌≤◌, Bool, true, false, cond, ◌&&◌, List, [], ◌∷◌, length, get_or, take, sum_by, count_by, filter, refl, ap, ◌∙◌, arith}
use lib.Seq.{take-nil}
use Rattle.std.specs.List.{AllByRecursion}
use Rattle.std.proofs.ByRecursion.{All-get_or, all_kept_by}
use Rattle.std.proofs.lemmas.List.Sums.{sum_by-cons, length-filter}
use Rattle.std.proofs.lemmas.Bool.{both_ways, and_parts, and_right}
use Rattle.tree.specs.Tree.{cut}
use Rattle.tree.proofs.Cutting.{cut_step, length_cut, all_cut}
use Rattle.tree.proofs.Lists.{all_of, count_by_cons, count_by_kept}

module _ {X : Type 0} (below : X → Bool) where
  -- what is below stands in front: after one that is not, none is
  abbrev pub Front : List X → Type 0
  Front [] = Unit {0}
  Front (x ∷ xs) = (below x ≡ false → AllByRecursion (λ y. below y ≡ false) xs) × Front xs

  -- the weight of what is below
  abbrev pub weight_below : (X → ℕ) → X → ℕ
  weight_below f x = cond (below x) (f x) 0

  weight_none : (f : X → ℕ) (xs : List X) → AllByRecursion (λ x. below x ≡ false) xs → sum_by (weight_below f) xs ≡ 0
  weight_none f [] none = refl
  weight_none f (x ∷ xs) none = sum_by-cons (weight_below f) x xs ∙ rw none.0 (omega (arith, weight_none f xs none.1))

  weight_of : (f : X → ℕ) (x : X) (xs : List X) → below x ≡ true → sum_by (weight_below f) (x ∷ xs) ≡ f x + sum_by (weight_below f) xs
  weight_of f x xs is = sum_by-cons (weight_below f) x xs ∙ rw is refl

module _ {X : Type 0} (separator below : X → Bool) where
  -- how many separators are below
  abbrev pub passed : List X → ℕ
  passed xs = count_by (λ x. separator x && below x) xs

  passed_more : (x : X) (xs : List X) → below x ≡ true → passed (x ∷ xs) ≡ cond (separator x) (suc (passed xs)) (passed xs)
  passed_more x xs is = count_by_cons (λ y. separator y && below y) x xs (separator x) (go (separator x) (below x) is)
    where
      go : (s b : Bool) → b ≡ true → (s && b) ≡ s
      go true b h = h
      go false b h = refl

  passed_none : (xs : List X) → AllByRecursion (λ x. below x ≡ false) xs → passed xs ≡ 0
  passed_none [] none = refl
  passed_none (x ∷ xs) none = count_by_cons (λ y. separator y && below y) x xs false (and_right (separator x) (below x) none.0) ∙ passed_none xs none.1

  passed-le : (xs : List X) → passed xs ≤ count_by separator xs
  passed-le [] = omega arith
  passed-le (x ∷ xs) = go (separator x) (below x) (passed-le xs) (count_by_cons (λ y. separator y && below y) x xs (separator x && below x) refl) (count_by_cons separator x xs (separator x) refl)
    where
      go : (s b : Bool) → passed xs ≤ count_by separator xs → passed (x ∷ xs) ≡ cond (s && b) (suc (passed xs)) (passed xs) → count_by separator (x ∷ xs) ≡ cond s (suc (count_by separator xs)) (count_by separator xs) → passed (x ∷ xs) ≤ count_by separator (x ∷ xs)
      go true true h l r = omega arith
      go true false h l r = omega arith
      go false b h l r = omega arith

  -- they can be counted among those that are kept, if the separators are
  pub passed_kept : (taken : X → Bool) → ((x : X) → separator x ≡ true → taken x ≡ true) → (xs : List X) → passed (filter taken xs) ≡ passed xs
  passed_kept taken among xs = count_by_kept taken (λ x. separator x && below x) xs (all_of (λ x both. among x (and_parts (separator x) (below x) both).0) xs)

module _ {X : Type 0} (separator taken below : X → Bool) where
  -- the part after so many separators
  abbrev pub part_for : List X → List X
  part_for xs = get_or (cut separator taken xs) (passed separator below xs) []

  -- no more separators are below than there are, so there is such a part
  pub passed-lt : (xs : List X) → passed separator below xs < length (cut separator taken xs)
  passed-lt xs = omega (arith, length_cut separator taken xs, length-filter separator xs, passed-le separator below xs)

  -- what is true of each element is true of each in that part
  pub all_part_for : (Q : X → Type 0) (xs : List X) → AllByRecursion Q xs → AllByRecursion Q (part_for xs)
  all_part_for Q xs all = All-get_or (AllByRecursion Q) (cut separator taken xs) (passed separator below xs) [] (passed-lt xs) (all_cut separator taken Q xs all)

  -- an element that is below changes nothing of what does not regard it
  pub part_for_more : {Y : Type 0} (F : List X → Y) (x : X) (xs : List X) → below x ≡ true → ((ys : List X) → F (x ∷ ys) ≡ F ys) → F (part_for (x ∷ xs)) ≡ F (part_for xs)
  part_for_more F x xs is same =
      ap (λ j. F (get_or (cut separator taken (x ∷ xs)) j [])) (passed_more separator below x xs is) ∙ go (separator x) (taken x) (cut separator taken xs) (passed separator below xs)
    where
      go : (s t : Bool) (parts : List (List X)) (j : ℕ) → F (get_or (cut_step x s t parts) (cond s (suc j) j) []) ≡ F (get_or parts j [])
      go true t parts j = refl
      go false true parts j = refl
      go false false [] zero = same []
      go false false [] (suc j) = refl
      go false false (s ∷ parts) zero = same s
      go false false (s ∷ parts) (suc j) = refl

  -- the first that is not below begins the part, unless it is taken
  pub part_for_here : (x : X) (xs : List X) → AllByRecursion (λ y. below y ≡ false) (x ∷ xs) → separator x ≡ false → taken x ≡ false → part_for (x ∷ xs) ≡ x ∷ part_for xs
  part_for_here x xs none whole left =
      rw (passed_none separator below (x ∷ xs) none, passed_none separator below xs none.1) (go (separator x) (taken x) (cut separator taken xs) whole left)
    where
      go : (s t : Bool) (parts : List (List X)) → s ≡ false → t ≡ false → get_or (cut_step x s t parts) 0 [] ≡ x ∷ get_or parts 0 []
      go true t parts h l = absurd (both_ways true h refl)
      go false true parts h l = absurd (both_ways true l refl)
      go false false [] h l = refl
      go false false (s ∷ parts) h l = refl

  module _ (f : X → ℕ) where
    -- the weight of the first parts, and what is below in the next
    abbrev pub weight_to : ℕ → List (List X) → ℕ
    weight_to j parts = sum_by (sum_by f) (take j parts) + sum_by (weight_below below f) (get_or parts j [])

    weight_to_more : (x : X) → below x ≡ true → (s t : Bool) → (s ≡ true → t ≡ true) → (parts : List (List X)) (j : ℕ) → cond t (f x) 0 + weight_to (cond s (suc j) j) (cut_step x s t parts) ≡ f x + weight_to j parts
    weight_to_more x is true true among parts j = refl
    weight_to_more x is true false among parts j = absurd (both_ways false refl (among refl))
    weight_to_more x is false true among parts j = refl
    weight_to_more x is false false among [] zero = omega (arith, weight_of below f x [] is)
    weight_to_more x is false false among [] (suc j) = omega (arith, ap (λ rest. sum_by (sum_by f) ((x ∷ []) ∷ rest)) (take-nil j))
    weight_to_more x is false false among (s ∷ parts) zero = omega (arith, weight_of below f x s is)
    weight_to_more x is false false among (s ∷ parts) (suc j) = omega (arith, sum_by-cons f x s, sum_by-cons (sum_by f) (x ∷ s) (take j parts), sum_by-cons (sum_by f) s (take j parts))

    -- the weight of what is below: of those taken, of all in the parts that are passed, and of those in the part for it
    pub weight_parted : ((x : X) → separator x ≡ true → taken x ≡ true) → (xs : List X) → Front below xs → sum_by (weight_below below f) xs ≡ sum_by (weight_below below f) (filter taken xs) + weight_to (passed separator below xs) (cut separator taken xs)
    weight_parted among [] front = refl
    weight_parted among (x ∷ xs) front = go (below x) refl (weight_parted among xs front.1)
      where
        kept : (t : Bool) → below x ≡ true → sum_by (weight_below below f) (cond t (x ∷ filter taken xs) (filter taken xs)) ≡ cond t (f x) 0 + sum_by (weight_below below f) (filter taken xs)
        kept true is = weight_of below f x (filter taken xs) is
        kept false is = omega arith

        go : (b : Bool) → below x ≡ b → sum_by (weight_below below f) xs ≡ sum_by (weight_below below f) (filter taken xs) + weight_to (passed separator below xs) (cut separator taken xs) → sum_by (weight_below below f) (x ∷ xs) ≡ sum_by (weight_below below f) (filter taken (x ∷ xs)) + weight_to (passed separator below (x ∷ xs)) (cut separator taken (x ∷ xs))
        go true is rest =
            rw (passed_more separator below x xs is)
            (omega (arith, weight_of below f x xs is, kept (taken x) is, weight_to_more x is (separator x) (taken x) (among x) (cut separator taken xs) (passed separator below xs)))
        go false is rest =
            let none : AllByRecursion (λ y. below y ≡ false) (x ∷ xs) = (is, front.0 is) in
            let first = passed_none separator below (x ∷ xs) none in
            let passed-weight : sum_by (sum_by f) (take (passed separator below (x ∷ xs)) (cut separator taken (x ∷ xs))) ≡ 0 = rw first refl in
            omega (arith, weight_none below f (x ∷ xs) none, weight_none below f _ (all_kept_by taken _ (x ∷ xs) none), passed-weight, weight_none below f (part_for (x ∷ xs)) (all_part_for _ (x ∷ xs) none))
