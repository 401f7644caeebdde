-- What is true of each element, filters and counts, and lists joined. Assumes nothing.
use Rattle.std.proofs.Common.{◌≡◌, ℕ, zero, suc, ◌<◌, ◌≤◌, Bool, true, false, cond, List, [], ◌∷◌, ◌++◌, map, length, set, count_by, filter, sym, refl, ap, ◌∙◌, ap₂, arith}
use Rattle.std.specs.List.{flat_map, AllByRecursion}
use Rattle.std.proofs.lemmas.List.{append_assoc, length-append}
use Rattle.std.proofs.lemmas.List.Sums.{sum_by-cons}
use Rattle.std.proofs.lemmas.Bool.{both_ways}

-- what follows from two facts of an element holds of each element of which both do
pub all_join : {X : Type 0} {P Q R : X → Type 0} → ((x : X) → P x → Q x → R x) → (xs : List X) → AllByRecursion P xs → AllByRecursion Q xs → AllByRecursion R xs
all_join f [] p q = tt
all_join f (x ∷ xs) p q = (f x p.0 q.0, all_join f xs p.1 q.1)

pub all_both : {X : Type 0} (P Q : X → Type 0) (xs : List X) → AllByRecursion P xs → AllByRecursion Q xs → AllByRecursion (λ x. P x × Q x) xs
all_both P Q xs = all_join (λ x p q. (p, q)) xs

-- two tests that agree on the elements keep the same of them
pub kept_by_same : {X : Type 0} (p q : X → Bool) (xs : List X) → AllByRecursion (λ x. p x ≡ q x) xs → filter p xs ≡ filter q xs
kept_by_same p q [] h = refl
kept_by_same p q (x ∷ xs) h = rw (h.0, kept_by_same p q xs h.1)

-- one more, if it passes the test
pub count_by_cons : {X : Type 0} (p : X → Bool) (x : X) (xs : List X) (t : Bool) → p x ≡ t → count_by p (x ∷ xs) ≡ cond t (suc (count_by p xs)) (count_by p xs)
count_by_cons p x xs true is = sum_by-cons (λ y. cond (p y) 1 0) x xs ∙ rw is (omega arith)
count_by_cons p x xs false is = sum_by-cons (λ y. cond (p y) 1 0) x xs ∙ rw is (omega arith)

-- what is true of everything is true of each element
pub all_of : {X : Type 0} {P : X → Type 0} → ((x : X) → P x) → (xs : List X) → AllByRecursion P xs
all_of h [] = tt
all_of h (x ∷ xs) = (h x, all_of h xs)

-- and stays so when one is replaced by another of which it is true
pub all_set : {X : Type 0} (P : X → Type 0) (xs : List X) (i : ℕ) (y : X) → P y → AllByRecursion P xs → AllByRecursion P (set xs i y)
all_set P [] i y py all = tt
all_set P (x ∷ xs) zero y py all = (py, all.1)
all_set P (x ∷ xs) (suc i) y py all = (all.0, all_set P xs i y py all.1)

-- those of a narrower test can be counted among what is kept
pub count_by_kept : {X : Type 0} (p q : X → Bool) (xs : List X) → AllByRecursion (λ x. q x ≡ true → p x ≡ true) xs → count_by q (filter p xs) ≡ count_by q xs
count_by_kept p q [] among = refl
count_by_kept p q (x ∷ xs) among = go (p x) (q x) refl among.0 (count_by_kept p q xs among.1)
  where
    go : (s t : Bool) → q x ≡ t → (t ≡ true → s ≡ true) → count_by q (filter p xs) ≡ count_by q xs → count_by q (cond s (x ∷ filter p xs) (filter p xs)) ≡ count_by q (x ∷ xs)
    go true t is h rest = count_by_cons q x (filter p xs) t is ∙ ap (λ n. cond t (suc n) n) rest ∙ sym (count_by_cons q x xs t is)
    go false true is h rest = absurd (both_ways false refl (h refl))
    go false false is h rest = rest ∙ sym (count_by_cons q x xs false is)

pub count_by_map : {X Y : Type 0} (f : X → Y) (q : Y → Bool) (xs : List X) → count_by q (map f xs) ≡ count_by (λ x. q (f x)) xs
count_by_map f q [] = refl
count_by_map f q (x ∷ xs) =
    count_by_cons q (f x) (map f xs) (q (f x)) refl ∙ ap (λ n. cond (q (f x)) (suc n) n) (count_by_map f q xs) ∙ sym (count_by_cons (λ y. q (f y)) x xs (q (f x)) refl)

-- functions that agree on the elements
pub map_same : {X Y : Type 0} (f g : X → Y) (xs : List X) → AllByRecursion (λ x. f x ≡ g x) xs → map f xs ≡ map g xs
map_same f g [] same = refl
map_same f g (x ∷ xs) same = ap₂ ◌∷◌ same.0 (map_same f g xs same.1)

-- one function after another
pub map_twice : {X Y Z : Type 0} (f : X → Y) (g : Y → Z) (xs : List X) → map g (map f xs) ≡ map (λ x. g (f x)) xs
map_twice f g [] = refl
map_twice f g (x ∷ xs) = ap (λ l. g (f x) ∷ l) (map_twice f g xs)

-- a test q of mapped elements that tells what p tells of the elements
module _ {X Y : Type 0} (f : X → Y) (p : X → Bool) (q : Y → Bool) where
  pub kept_by_map : (xs : List X) → AllByRecursion (λ x. q (f x) ≡ p x) xs → filter q (map f xs) ≡ map f (filter p xs)
  kept_by_map [] same = refl
  kept_by_map (x ∷ xs) same = rw (same.0, kept_by_map xs same.1) (go (p x))
    where
      go : (t : Bool) → cond t (f x ∷ map f (filter p xs)) (map f (filter p xs)) ≡ map f (cond t (x ∷ filter p xs) (filter p xs))
      go true = refl
      go false = refl

  pub map_tests : (xs : List X) → AllByRecursion (λ x. q (f x) ≡ p x) xs → map q (map f xs) ≡ map p xs
  map_tests [] same = refl
  map_tests (x ∷ xs) same = ap₂ ◌∷◌ same.0 (map_tests xs same.1)

pub joined_append : {X A : Type 0} (f : X → List A) (xs ys : List X) → flat_map f (xs ++ ys) ≡ flat_map f xs ++ flat_map f ys
joined_append f [] ys = refl
joined_append f (x ∷ xs) ys = ap (λ l. f x ++ l) (joined_append f xs ys) ∙ sym (append_assoc (f x) (flat_map f xs) (flat_map f ys))

-- lists none of which is empty are no more than their elements
pub length_le_joined : {X A : Type 0} (f : X → List A) (xs : List X) → AllByRecursion (λ x. 0 < length (f x)) xs → length xs ≤ length (flat_map f xs)
length_le_joined f [] some = omega arith
length_le_joined f (x ∷ xs) some = omega (arith, some.0, length_le_joined f xs some.1, length-append (f x) (flat_map f xs))
