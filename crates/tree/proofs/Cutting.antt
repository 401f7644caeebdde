-- A list cut at its separators: how many parts there are, and what is in them. Assumes nothing.
use Rattle.std.proofs.Common.{◌≡◌, ◌+◌, ◌<◌, ◌≤◌, max, Bool, true, false, cond, List, [], ◌∷◌, ◌++◌, length, filter, sym, refl, ◌∙◌, arith}
use Rattle.std.specs.List.Sorted.{IsPermutation}
use Rattle.std.specs.List.{flat_map, AllByRecursion}
use Rattle.std.proofs.ByRecursion.{All-weaker}
use Rattle.std.proofs.lemmas.List.{length-append}
use Rattle.std.proofs.lemmas.List.Sorted.{IsPermutation-refl, IsPermutation-cons, IsPermutation-trans, length_permutation}
use Rattle.std.proofs.lemmas.Bool.{both_ways}
use Rattle.tree.specs.Tree.{cut, into_first}
use Rattle.tree.specs.Laws.{Distinct, Pairwise}
use Rattle.tree.proofs.Lists.{all_both}
use Rattle.tree.proofs.Shuffles.{shuffled_middle}

-- the elements of all parts, one after the other
abbrev pub together : {X : Type 0} → List (List X) → List X
together parts = flat_map (λ s. s) parts

length-into_first : {X : Type 0} (x : X) (parts : List (List X)) → length (into_first x parts) ≡ max 1 (length parts)
length-into_first x [] = refl
length-into_first x (s ∷ parts) = omega arith

together-into_first : {X : Type 0} (x : X) (parts : List (List X)) → together (into_first x parts) ≡ x ∷ together parts
together-into_first x [] = refl
together-into_first x (s ∷ parts) = refl

into_first_all : {X : Type 0} (Q : List X → Type 0) (x : X) (parts : List (List X)) → Q (x ∷ []) → AllByRecursion Q parts → AllByRecursion (λ s. Q (x ∷ s)) parts → AllByRecursion Q (into_first x parts)
into_first_all Q x [] alone each more = (alone, tt)
into_first_all Q x (s ∷ parts) alone each more = (more.0, each.1)

-- what an element adds to the parts of the rest, if it separates or not, and is taken or not
abbrev pub cut_step : {X : Type 0} → X → (separates is_taken : Bool) → List (List X) → List (List X)
cut_step x separates is_taken rest = cond separates ([] ∷ rest) (cond is_taken rest (into_first x rest))

all_cut_step : {X : Type 0} (Q : List X → Type 0) (x : X) (s t : Bool) (rest : List (List X)) → Q [] → AllByRecursion Q rest → (t ≡ false → AllByRecursion Q (into_first x rest)) → AllByRecursion Q (cut_step x s t rest)
all_cut_step Q x true t rest none each more = (none, each)
all_cut_step Q x false true rest none each more = each
all_cut_step Q x false false rest none each more = more refl

-- no part is longer than all parts together
pub part-le-together : {X : Type 0} (parts : List (List X)) → AllByRecursion (λ s. length s ≤ length (together parts)) parts
part-le-together [] = tt
part-le-together (s ∷ parts) =
    let whole : length (together (s ∷ parts)) ≡ length s + length (together parts) = length-append s (together parts) in
    (omega arith, All-weaker _ _ (λ t h. omega arith) parts (part-le-together parts))

module _ {X : Type 0} (separator taken : X → Bool) where
  -- there is one part more than there are separators
  pub length_cut : (xs : List X) → length (cut separator taken xs) ≡ 1 + length (filter separator xs)
  length_cut [] = refl
  length_cut (x ∷ xs) = go (separator x) (taken x) (cut separator taken xs) (length_cut xs)
    where
      go : (s t : Bool) (rest : List (List X)) → length rest ≡ 1 + length (filter separator xs) → length (cut_step x s t rest) ≡ 1 + length (cond s (x ∷ filter separator xs) (filter separator xs))
      go true t rest h = omega arith
      go false true rest h = omega arith
      go false false rest h = omega (arith, length-into_first x rest)

  -- what is taken, and the parts, are all elements, if the separators are taken
  pub cut_shuffled : ((x : X) → separator x ≡ true → taken x ≡ true) → (xs : List X) → IsPermutation xs (filter taken xs ++ together (cut separator taken xs))
  cut_shuffled among [] = IsPermutation-refl []
  cut_shuffled among (x ∷ xs) = go (separator x) (taken x) (among x) (filter taken xs) (cut separator taken xs) (cut_shuffled among xs)
    where
      go : (s t : Bool) → (s ≡ true → t ≡ true) → (kept : List X) (rest : List (List X)) → IsPermutation xs (kept ++ together rest) → IsPermutation (x ∷ xs) (cond t (x ∷ kept) kept ++ together (cut_step x s t rest))
      go true true h kept rest same = IsPermutation-cons x _ _ same
      go true false h kept rest same = absurd (both_ways false refl (h refl))
      go false true h kept rest same = IsPermutation-cons x _ _ same
      go false false h kept rest same =
          rw together-into_first (IsPermutation-trans _ _ _ (IsPermutation-cons x _ _ same) (shuffled_middle x kept (together rest)))

  -- what is true of each element is true of each in the parts, and none of those is taken
  pub all_left : (Q : X → Type 0) (xs : List X) → AllByRecursion Q xs → AllByRecursion (AllByRecursion (λ x. Q x × (taken x ≡ false))) (cut separator taken xs)
  all_left Q [] all = (tt, tt)
  all_left Q (x ∷ xs) all =
      let rest = all_left Q xs all.1 in
      all_cut_step _ x (separator x) (taken x) _ tt rest (λ free. into_first_all _ x _ ((all.0, free), tt) rest (All-weaker _ _ (λ s h. ((all.0, free), h)) _ rest))

  pub all_cut : (Q : X → Type 0) (xs : List X) → AllByRecursion Q xs → AllByRecursion (AllByRecursion Q) (cut separator taken xs)
  all_cut Q xs all = All-weaker _ _ (λ s. All-weaker (λ x. Q x × (taken x ≡ false)) Q (λ x h. h.0) s) _ (all_left Q xs all)

  -- no part has an element twice
  pub distinct_cut : (xs : List X) → Distinct xs → AllByRecursion Distinct (cut separator taken xs)
  distinct_cut [] apart = (tt, tt)
  distinct_cut (x ∷ xs) apart =
      let rest = distinct_cut xs apart.1 in
      let longer : AllByRecursion (λ s. Distinct (x ∷ s)) (cut separator taken xs) = all_both _ _ _ (all_cut (λ y. x ≡ y → ⊥) xs apart.0) rest in
      all_cut_step Distinct x (separator x) (taken x) _ tt rest (λ free. into_first_all Distinct x _ (tt, tt) rest longer)

  -- the elements of each part are related as they were in the list
  pub pairwise_cut : (R : X → X → Type 0) (xs : List X) → Pairwise R xs → AllByRecursion (Pairwise R) (cut separator taken xs)
  pairwise_cut R [] related = (tt, tt)
  pairwise_cut R (x ∷ xs) related =
      let rest = pairwise_cut R xs related.1 in
      let longer : AllByRecursion (λ s. Pairwise R (x ∷ s)) (cut separator taken xs) = all_both _ _ _ (all_cut (R x) xs related.0) rest in
      all_cut_step (Pairwise R) x (separator x) (taken x) _ tt rest (λ free. into_first_all (Pairwise R) x _ (tt, tt) rest longer)

  -- what is taken, and the parts, are together as long as the list
  pub cut_lengths : ((x : X) → separator x ≡ true → taken x ≡ true) → (xs : List X) → length (filter taken xs) + length (together (cut separator taken xs)) ≡ length xs
  cut_lengths among xs = sym (length-append (filter taken xs) (together (cut separator taken xs))) ∙ length_permutation _ _ (cut_shuffled among xs)

  -- each part is shorter than the list, if something is taken
  pub cut_shorter : ((x : X) → separator x ≡ true → taken x ≡ true) → (xs : List X) → 0 < length (filter taken xs) → AllByRecursion (λ s. length s < length xs) (cut separator taken xs)
  cut_shorter among xs some =
      let whole = cut_lengths among xs in
      All-weaker _ _ (λ s h. omega arith) _ (part-le-together (cut separator taken xs))
