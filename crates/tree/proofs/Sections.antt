-- Block and sections of a list of different elements: how many there are, and what is in them. Assumes nothing.
use Rattle.std.proofs.Common.{◌≡◌, ℕ, zero, suc, ◌+◌, ◌-◌, ◌/◌, ◌<◌, ◌≤◌, min, Bool, true, false, List, ◌++◌, length, refl, div-lt_iff_lt-mul, arith}
use Rattle.std.specs.List.Sorted.{IsPermutation}
use Rattle.std.specs.List.{AllByRecursion}
use Rattle.std.proofs.ByRecursion.{All-weaker, all_kept_by, kept_by_passes}
use Rattle.std.proofs.lemmas.Bool.{lt-ltb, ltb-true, ltb-false}
use Rattle.tree.specs.Tree.{fan_out, cut, drawn_before, among_earliest, block, is_active, sections}
use Rattle.tree.specs.Laws.{Strict, Distinct, Pairwise}
use Rattle.tree.proofs.Counting.{drawn_before-le, earliest_count}
use Rattle.tree.proofs.Cutting.{together, length_cut, cut_shuffled, all_left, all_cut, distinct_cut, pairwise_cut, cut_shorter}
use Rattle.tree.proofs.Lists.{all_join, all_both}

-- a quotient rounded up is no larger than what is divided
rounded_up_le : (m rho : ℕ) → 1 ≤ rho → (m + (rho - 1)) / rho ≤ m
rounded_up_le m zero h = absurd (omega arith)
rounded_up_le m (suc r) h =
    let below : (m + (suc r - 1)) / suc r < suc m = (div-lt_iff_lt-mul h).1 (omega arith) in omega arith

pub fan_out-le : (alpha rho n : ℕ) → 1 ≤ rho → fan_out alpha rho n - 1 ≤ n
fan_out-le alpha rho n h = omega (arith, rounded_up_le (n - alpha) rho h)

module _ {X : Type 0} (before : X → X → Bool) (alpha rho : ℕ) where
  -- an active separator is in the block
  pub active_in_block : (xs : List X) (x : X) → is_active before alpha rho xs x ≡ true → among_earliest before alpha xs x ≡ true
  active_in_block xs x h =
      let fewer : drawn_before before xs x < fan_out alpha rho (length xs) - 1 = ltb-true _ _ h in
      lt-ltb (drawn_before before xs x) alpha (omega arith)

  -- block and sections have each element once
  pub sections_shuffled : (xs : List X) → IsPermutation xs (block before alpha xs ++ together (sections before alpha rho xs))
  sections_shuffled xs = cut_shuffled _ _ (active_in_block xs) xs

  pub sections_all : (P : X → Type 0) (xs : List X) → AllByRecursion P xs → AllByRecursion (AllByRecursion P) (sections before alpha rho xs)
  sections_all P xs = all_cut (is_active before alpha rho xs) (among_earliest before alpha xs) P xs

  pub sections_pairwise : (R : X → X → Type 0) (xs : List X) → Pairwise R xs → AllByRecursion (Pairwise R) (sections before alpha rho xs)
  sections_pairwise R xs = pairwise_cut (is_active before alpha rho xs) (among_earliest before alpha xs) R xs

-- what is known of a section of xs, and makes it fit for the same laws
pub record Within {X : Type 0} (P : X → Type 0) (xs s : List X) : Type 0 where
  pub all : AllByRecursion P s
  pub apart : Distinct s
  pub shorter : length s < length xs

module _ {X : Type 0} {P : X → Type 0} {before : X → X → Bool} (strict : Strict P before) (alpha : ℕ) where
  pub length-block : (xs : List X) → AllByRecursion P xs → Distinct xs → length (block before alpha xs) ≡ min alpha (length xs)
  length-block = earliest_count strict alpha

  -- what is not in the block is drawn before nothing in it
  later : (xs : List X) → AllByRecursion P xs → (y x : X) → P y × (among_earliest before alpha xs y ≡ false) → P x → among_earliest before alpha xs x ≡ true → before y x ≡ false
  later xs all y x fit px early = go (before y x) refl
    where
      go : (t : Bool) → before y x ≡ t → before y x ≡ false
      go true e = absurd (omega (arith, drawn_before-le strict xs y x all fit.0 px e, ltb-false (drawn_before before xs y) alpha fit.1, ltb-true (drawn_before before xs x) alpha early))
      go false e = e

module _ {X : Type 0} {P : X → Type 0} {before : X → X → Bool} (strict : Strict P before) (alpha rho : ℕ) where
  pub length_sections : 1 ≤ rho → (xs : List X) → AllByRecursion P xs → Distinct xs → length (sections before alpha rho xs) ≡ fan_out alpha rho (length xs)
  length_sections h xs all apart =
      omega (arith, length_cut (is_active before alpha rho xs) (among_earliest before alpha xs) xs, earliest_count strict (fan_out alpha rho (length xs) - 1) xs all apart, fan_out-le alpha rho (length xs) h)

  -- a section has elements of P, no element twice, and is shorter than the list: so what follows from that is true of each
  pub each_section : 1 ≤ alpha → (Q : List X → Type 0) (xs : List X) → 0 < length xs → AllByRecursion P xs → Distinct xs → ((s : List X) → Within P xs s → Q s) → AllByRecursion Q (sections before alpha rho xs)
  each_section h Q xs some all apart step =
      all_join {Q = λ s. AllByRecursion P s × Distinct s} (λ s within fit. step s (record { all = fit.0; apart = fit.1; shorter = within })) (cut active taken xs)
      (cut_shorter active taken (active_in_block before alpha rho xs) xs (omega (arith, length-block strict alpha xs all apart)))
      (all_both (AllByRecursion P) Distinct _ (all_cut active taken P xs all) (distinct_cut active taken xs apart))
    where
      active : X → Bool
      active = is_active before alpha rho xs

      taken : X → Bool
      taken = among_earliest before alpha xs

  -- nothing in a section is drawn before anything in the block
  pub sections_later : (xs : List X) → AllByRecursion P xs → AllByRecursion (AllByRecursion (λ y. AllByRecursion (λ x. before y x ≡ false) (block before alpha xs))) (sections before alpha rho xs)
  sections_later xs all =
      All-weaker _ _ (λ s. All-weaker _ _ (λ y fit. all_join (λ x. later strict alpha xs all y x fit) _ (all_kept_by _ P xs all) (kept_by_passes _ xs)) s) _ (all_left _ _ P xs all)
