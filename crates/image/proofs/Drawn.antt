-- The messages of a set: their keys all differ, and their drawing order is a strict total one. Assumes nothing.
use Rattle.std.proofs.Common.{◌≡◌, ℕ, List, [], ◌∷◌, Less, sym, refl, ap, subst, arith}
use Rattle.std.specs.List.{ContainsAt as Has, AllByRecursion}
use Rattle.std.proofs.ByRecursion.{All-take, All-weaker, all-has}
use Rattle.std.proofs.lemmas.List.{length-take-le}
use Rattle.kinds.specs.Kind.{Kind, Key, Lawful}
use Rattle.kinds.proofs.Strict.{drawn_strict}
use Rattle.tree.specs.Laws.{Strict, Pairwise, Distinct}
use Rattle.tree.proofs.Lists.{all_join}
use Rattle.image.specs.Messages.{key_of, Valid, Rising, Messages, before}

-- the first message has a key below that of the second
abbrev pub KeyBelow : Kind → List ℕ → List ℕ → Type 0
KeyBelow kind m l = kind.key_order (key_of kind m) (key_of kind l) ≡ Less

module _ (kind : Kind) (lawful : Lawful kind) where
  pub key_of_lem : (m : List ℕ) → Valid kind m → Key kind (key_of kind m)
  key_of_lem m v = (All-take _ kind.key_width m v.bytes, length-take-le kind.key_width m (omega (arith, v.long, lawful.key_high)))

  -- a key that is less is another
  less_apart : (m l : List ℕ) → Valid kind m → KeyBelow kind m l → key_of kind m ≡ key_of kind l → ⊥
  less_apart m l v less same =
      let equal = lawful.keys.same (key_of kind m) (key_of_lem m v) in
      let also : kind.key_order (key_of kind m) (key_of kind m) ≡ Less = subst (λ k. kind.key_order (key_of kind m) k ≡ Less) (sym same) less in
      let z : ◌≡◌ {A = ℕ} 0 1 = cc in omega arith

  -- the first of rising keys is below all others
  pub below_rest : (m : List ℕ) (ms : List (List ℕ)) → AllByRecursion (Valid kind) (m ∷ ms) → Rising kind (m ∷ ms) → AllByRecursion (KeyBelow kind m) ms
  below_rest m [] v r = tt
  below_rest m (l ∷ ms) v r = (
    r.0,
    all_join (λ o vo lo. lawful.keys.transitive _ _ _ (key_of_lem m v.0) (key_of_lem l v.1.0) (key_of_lem o vo) r.0 lo) ms v.1.1 (below_rest l ms v.1 r.1),
  )

  pub rising_rest : (m : List ℕ) (ms : List (List ℕ)) → Rising kind (m ∷ ms) → Rising kind ms
  rising_rest m [] r = tt
  rising_rest m (l ∷ ms) r = r.1

  -- each key is below all later ones
  pub messages_rise : (ms : List (List ℕ)) → AllByRecursion (Valid kind) ms → Rising kind ms → Pairwise (KeyBelow kind) ms
  messages_rise [] v r = tt
  messages_rise (m ∷ ms) v r = (below_rest m ms v r, messages_rise ms v.1 (rising_rest m ms r))

  -- no message twice
  pub messages_apart : (ms : List (List ℕ)) → AllByRecursion (Valid kind) ms → Rising kind ms → Distinct ms
  messages_apart [] v r = tt
  messages_apart (m ∷ ms) v r = (
    All-weaker _ _ (λ l less same. less_apart m l v.0 less (ap (key_of kind) same)) ms (below_rest m ms v r),
    messages_apart ms v.1 (rising_rest m ms r),
  )

  -- of the messages of a set, two with one key are one
  one_key : (ms : List (List ℕ)) → AllByRecursion (Valid kind) ms → Rising kind ms → AllByRecursion (λ x. AllByRecursion (λ y. key_of kind x ≡ key_of kind y → x ≡ y) ms) ms
  one_key [] v r = tt
  one_key (m ∷ ms) v r =
      let below = below_rest m ms v r in (
        (λ e. refl, All-weaker _ _ (λ y less same. absurd (less_apart m y v.0 less same)) ms below),
        all_join (λ x less rest. (λ same. absurd (less_apart m x v.0 less (sym same)), rest)) ms below (one_key ms v.1 (rising_rest m ms r)),
      )

  pub messages_strict : (ms : List (List ℕ)) → Messages kind ms → Strict (Has ms) (before kind)
  messages_strict ms set =
      let drawn = drawn_strict (Key kind) kind.key_order lawful.keys in
      let key : (m : List ℕ) → Has ms m → Key kind (key_of kind m) = λ m h. key_of_lem m (all-has (Valid kind) ms m set.each h) in
      record {
        irreflexive = λ x hx. drawn.irreflexive _ (key x hx);
        transitive = λ x y z hx hy hz. drawn.transitive _ _ _ (key x hx) (key y hy) (key z hz);
        connected = λ x y hx hy h g. all-has _ ms y (all-has _ ms x (one_key ms set.each set.rising) hx) hy (drawn.connected _ _ (key x hx) (key y hy) h g);
      }
