-- Putting messages into a set, in any order. Assumes nothing.
use Rattle.std.proofs.Common.{◌≡◌, ℕ, List, [], ◌∷◌, Ordering, Less, Equal, Greater, sym, refl, ap, ◌∙◌, subst}
use Rattle.std.specs.Ordering.{ordering_reverse}
use Rattle.std.specs.List.{AllByRecursion}
use Rattle.std.proofs.ByRecursion.{All-weaker}
use Rattle.kinds.specs.Kind.{Kind, Keyed, Lawful}
use Rattle.tree.specs.Laws.{Pairwise}
use Rattle.tree.proofs.Lists.{all_join}
use Rattle.image.specs.Messages.{key_of, Valid, Rising, Messages, higher, put}
use Rattle.image.proofs.Drawn.{KeyBelow, key_of_lem, messages_rise}
use Rattle.image_laws.proofs.Highest.{turned, highest_one, highest_same, highest_comm, highest_assoc}

module _ (kind : Kind) (lawful : Lawful kind) where
  -- how the keys of two messages compare
  abbrev pub keys : List ℕ → List ℕ → Ordering
  keys m l = kind.key_order (key_of kind m) (key_of kind l)

  pub put-by : (new m : List ℕ) (ms : List (List ℕ)) (o : Ordering) → keys m new ≡ o → put kind new (m ∷ ms) ≡ elim o [ Less ↦ m ∷ put kind new ms | Equal ↦ higher kind m new ∷ ms | Greater ↦ new ∷ m ∷ ms ]
  put-by new m ms o is = ap (λ o. elim o [ Less ↦ m ∷ put kind new ms | Equal ↦ higher kind m new ∷ ms | Greater ↦ new ∷ m ∷ ms ]) is

  keys_turned : (m l : List ℕ) → Valid kind m → Valid kind l → (o : Ordering) → keys m l ≡ o → keys l m ≡ ordering_reverse o
  keys_turned m l vm vl = turned kind.key_order lawful.keys (key_of kind m) (key_of kind l) (key_of_lem kind lawful m vm) (key_of_lem kind lawful l vl)

  same_key : (m l : List ℕ) → Valid kind m → Valid kind l → keys m l ≡ Equal → key_of kind m ≡ key_of kind l
  same_key m l vm vl = lawful.keys.equal _ _ (key_of_lem kind lawful m vm) (key_of_lem kind lawful l vl)

  keyed : (key m : List ℕ) → Valid kind m → key_of kind m ≡ key → Keyed kind key m
  keyed key m v is = (v.bytes, v.long, is)

  -- of two messages with one key, the higher whichever comes first
  higher_comm : (a b : List ℕ) → Valid kind a → Valid kind b → key_of kind a ≡ key_of kind b → higher kind a b ≡ higher kind b a
  higher_comm a b va vb same = highest_comm kind.rank_order (lawful.ranks (key_of kind b)) a b (keyed _ a va same) (keyed _ b vb refl)

  -- the key of the higher is that of both
  higher_key : (a b : List ℕ) → key_of kind a ≡ key_of kind b → key_of kind (higher kind a b) ≡ key_of kind b
  higher_key a b same = highest_one kind.rank_order (λ m. key_of kind m ≡ key_of kind b) a b same refl

  -- it compares as each of them does
  higher_compares : (m l x : List ℕ) (o : Ordering) → key_of kind m ≡ key_of kind l → keys m x ≡ o → keys (higher kind m l) x ≡ o
  higher_compares m l x o same is = subst (λ key. kind.key_order key (key_of kind x) ≡ o) (sym (higher_key m l same ∙ sym same)) is

  -- two messages that both belong in front of a list
  both_first : (x y : List ℕ) (t : List (List ℕ)) → Valid kind x → Valid kind y → put kind x t ≡ x ∷ t → put kind y t ≡ y ∷ t → put kind x (y ∷ t) ≡ put kind y (x ∷ t)
  both_first x y t vx vy first-x first-y = go (keys y x) refl
    where
      go : (o : Ordering) → keys y x ≡ o → put kind x (y ∷ t) ≡ put kind y (x ∷ t)
      go Less is = put-by x y t Less is ∙ ap (λ l. y ∷ l) first-x ∙ sym (put-by y x t Greater (keys_turned y x vy vx Less is))
      go Equal is = put-by x y t Equal is ∙ ap (λ h. h ∷ t) (higher_comm y x vy vx (same_key y x vy vx is)) ∙ sym (put-by y x t Equal (keys_turned y x vy vx Equal is))
      go Greater is = put-by x y t Greater is ∙ ap (λ l. x ∷ l) (sym first-y) ∙ sym (put-by y x t Less (keys_turned y x vy vx Greater is))

  module _ (x y m : List ℕ) (ms : List (List ℕ)) (vx : Valid kind x) (vy : Valid kind y) (vm : Valid kind m) where
    less_equal : keys m x ≡ Less → keys m y ≡ Equal → put kind x (put kind y (m ∷ ms)) ≡ put kind y (put kind x (m ∷ ms))
    less_equal of-x of-y =
        ap (put kind x) (put-by y m ms Equal of-y)
        ∙ put-by x (higher kind m y) ms Less (higher_compares m y x Less (same_key m y vm vy of-y) of-x)
        ∙ sym (put-by y m (put kind x ms) Equal of-y)
        ∙ ap (put kind y) (sym (put-by x m ms Less of-x))

    less_greater : keys m x ≡ Less → keys m y ≡ Greater → put kind x (put kind y (m ∷ ms)) ≡ put kind y (put kind x (m ∷ ms))
    less_greater of-x of-y =
        let between : keys y x ≡ Less = lawful.keys.transitive _ _ _ (key_of_lem kind lawful y vy) (key_of_lem kind lawful m vm) (key_of_lem kind lawful x vx) (keys_turned m y vm vy Greater of-y) of-x in
        ap (put kind x) (put-by y m ms Greater of-y)
        ∙ put-by x y (m ∷ ms) Less between
        ∙ ap (λ l. y ∷ l) (put-by x m ms Less of-x)
        ∙ sym (put-by y m (put kind x ms) Greater of-y)
        ∙ ap (put kind y) (sym (put-by x m ms Less of-x))

    equal_greater : keys m x ≡ Equal → keys m y ≡ Greater → put kind x (put kind y (m ∷ ms)) ≡ put kind y (put kind x (m ∷ ms))
    equal_greater of-x of-y =
        let same = same_key m x vm vx of-x in
        let between : keys y x ≡ Less = subst (λ key. kind.key_order (key_of kind y) key ≡ Less) same (keys_turned m y vm vy Greater of-y) in
        ap (put kind x) (put-by y m ms Greater of-y)
        ∙ put-by x y (m ∷ ms) Less between
        ∙ ap (λ l. y ∷ l) (put-by x m ms Equal of-x)
        ∙ sym (put-by y (higher kind m x) ms Greater (higher_compares m x y Greater same of-y))
        ∙ ap (put kind y) (sym (put-by x m ms Equal of-x))

    equal_equal : keys m x ≡ Equal → keys m y ≡ Equal → put kind x (put kind y (m ∷ ms)) ≡ put kind y (put kind x (m ∷ ms))
    equal_equal of-x of-y =
        let same-x = same_key m x vm vx of-x in
        let same-y = same_key m y vm vy of-y in
        let total = lawful.ranks (key_of kind m) in
        let dm = keyed (key_of kind m) m vm refl in
        let dx = keyed (key_of kind m) x vx (sym same-x) in
        let dy = keyed (key_of kind m) y vy (sym same-y) in
        ap (put kind x) (put-by y m ms Equal of-y)
        ∙ put-by x (higher kind m y) ms Equal (higher_compares m y x Equal same-y of-x)
        ∙ ap (λ h. h ∷ ms) (highest_assoc kind.rank_order total m y x dm dy dx ∙ ap (higher kind m) (highest_comm kind.rank_order total y x dy dx) ∙ sym (highest_assoc kind.rank_order total m x y dm dx dy))
        ∙ sym (put-by y (higher kind m x) ms Equal (higher_compares m x y Equal same-x of-y))
        ∙ ap (put kind y) (sym (put-by x m ms Equal of-x))

  -- which of two messages comes first does not matter
  pub put_comm : (x y : List ℕ) (ms : List (List ℕ)) → Valid kind x → Valid kind y → AllByRecursion (Valid kind) ms → put kind x (put kind y ms) ≡ put kind y (put kind x ms)
  put_comm x y [] vx vy v = both_first x y [] vx vy refl refl
  put_comm x y (m ∷ ms) vx vy v = go (put_comm x y ms vx vy v.1) (keys m x) (keys m y) refl refl
    where
      go : put kind x (put kind y ms) ≡ put kind y (put kind x ms) → (o p : Ordering) → keys m x ≡ o → keys m y ≡ p → put kind x (put kind y (m ∷ ms)) ≡ put kind y (put kind x (m ∷ ms))
      go rest Less Less of-x of-y =
          ap (put kind x) (put-by y m ms Less of-y)
          ∙ put-by x m (put kind y ms) Less of-x
          ∙ ap (λ l. m ∷ l) rest
          ∙ sym (put-by y m (put kind x ms) Less of-y)
          ∙ ap (put kind y) (sym (put-by x m ms Less of-x))
      go rest Less Equal of-x of-y = less_equal x y m ms vx vy v.0 of-x of-y
      go rest Less Greater of-x of-y = less_greater x y m ms vx vy v.0 of-x of-y
      go rest Equal Less of-x of-y = sym (less_equal y x m ms vy vx v.0 of-y of-x)
      go rest Equal Equal of-x of-y = equal_equal x y m ms vx vy v.0 of-x of-y
      go rest Equal Greater of-x of-y = equal_greater x y m ms vx vy v.0 of-x of-y
      go rest Greater Less of-x of-y = sym (less_greater y x m ms vy vx v.0 of-y of-x)
      go rest Greater Equal of-x of-y = sym (equal_greater y x m ms vy vx v.0 of-y of-x)
      go rest Greater Greater of-x of-y =
          ap (put kind x) (put-by y m ms Greater of-y)
          ∙ both_first x y (m ∷ ms) vx vy (put-by x m ms Greater of-x) (put-by y m ms Greater of-y)
          ∙ ap (put kind y) (sym (put-by x m ms Greater of-x))

  -- a message put in again changes nothing
  pub put_twice : (x : List ℕ) (ms : List (List ℕ)) → Valid kind x → AllByRecursion (Valid kind) ms → put kind x (put kind x ms) ≡ put kind x ms
  put_twice x [] vx v =
      put-by x x [] Equal (lawful.keys.same _ (key_of_lem kind lawful x vx)) ∙ ap (λ h. h ∷ []) (highest_same kind.rank_order (lawful.ranks (key_of kind x)) x (keyed _ x vx refl))
  put_twice x (m ∷ ms) vx v = go (put_twice x ms vx v.1) (keys m x) refl
    where
      alone : higher kind x x ≡ x
      alone = highest_same kind.rank_order (lawful.ranks (key_of kind x)) x (keyed _ x vx refl)

      go : put kind x (put kind x ms) ≡ put kind x ms → (o : Ordering) → keys m x ≡ o → put kind x (put kind x (m ∷ ms)) ≡ put kind x (m ∷ ms)
      go rest Less is = ap (put kind x) (put-by x m ms Less is) ∙ put-by x m (put kind x ms) Less is ∙ ap (λ l. m ∷ l) rest ∙ sym (put-by x m ms Less is)
      go rest Equal is =
          let same = same_key m x v.0 vx is in
          ap (put kind x) (put-by x m ms Equal is)
          ∙ put-by x (higher kind m x) ms Equal (higher_compares m x x Equal same is)
          ∙ ap (λ h. h ∷ ms) (highest_assoc kind.rank_order (lawful.ranks (key_of kind x)) m x x (keyed _ m v.0 same) (keyed _ x vx refl) (keyed _ x vx refl) ∙ ap (higher kind m) alone)
          ∙ sym (put-by x m ms Equal is)
      go rest Greater is =
          ap (put kind x) (put-by x m ms Greater is)
          ∙ put-by x x (m ∷ ms) Equal (lawful.keys.same _ (key_of_lem kind lawful x vx))
          ∙ ap (λ h. h ∷ m ∷ ms) alone
          ∙ sym (put-by x m ms Greater is)

  -- what is true of a message and of all of a list is true of all of the list with the message put in
  pub put_all_lem : (P : List ℕ → Type 0) (x : List ℕ) (ms : List (List ℕ)) → P x → AllByRecursion P ms → AllByRecursion P (put kind x ms)
  put_all_lem P x [] px all = (px, tt)
  put_all_lem P x (m ∷ ms) px all = go (put_all_lem P x ms px all.1) (keys m x) refl
    where
      go : AllByRecursion P (put kind x ms) → (o : Ordering) → keys m x ≡ o → AllByRecursion P (put kind x (m ∷ ms))
      go rest Less is = subst (AllByRecursion P) (sym (put-by x m ms Less is)) (all.0, rest)
      go rest Equal is = subst (AllByRecursion P) (sym (put-by x m ms Equal is)) (highest_one kind.rank_order P m x all.0 px, all.1)
      go rest Greater is = subst (AllByRecursion P) (sym (put-by x m ms Greater is)) (px, all)

  put_pairwise : (x : List ℕ) (ms : List (List ℕ)) → Valid kind x → AllByRecursion (Valid kind) ms → Pairwise (KeyBelow kind) ms → Pairwise (KeyBelow kind) (put kind x ms)
  put_pairwise x [] vx v p = (tt, tt)
  put_pairwise x (m ∷ ms) vx v p = go (put_pairwise x ms vx v.1 p.1) (keys m x) refl
    where
      go : Pairwise (KeyBelow kind) (put kind x ms) → (o : Ordering) → keys m x ≡ o → Pairwise (KeyBelow kind) (put kind x (m ∷ ms))
      go rest Less is = subst (Pairwise (KeyBelow kind)) (sym (put-by x m ms Less is)) (put_all_lem (KeyBelow kind m) x ms is p.0, rest)
      go rest Equal is =
          subst (Pairwise (KeyBelow kind)) (sym (put-by x m ms Equal is))
          (All-weaker _ _ (λ l below. higher_compares m x l Less (same_key m x v.0 vx is) below) ms p.0, p.1)
      go rest Greater is =
          let first = keys_turned m x v.0 vx Greater is in
          subst (Pairwise (KeyBelow kind)) (sym (put-by x m ms Greater is))
          ((first, all_join (λ l vl below. lawful.keys.transitive _ _ _ (key_of_lem kind lawful x vx) (key_of_lem kind lawful m v.0) (key_of_lem kind lawful l vl) first below) ms v.1 p.0), p)

  rising_from : (ms : List (List ℕ)) → Pairwise (KeyBelow kind) ms → Rising kind ms
  rising_from [] p = tt
  rising_from (m ∷ []) p = tt
  rising_from (m ∷ l ∷ ms) p = (p.0.0, rising_from (l ∷ ms) p.1)

  -- a set with a message put in is a set
  pub put-set : (x : List ℕ) (ms : List (List ℕ)) → Valid kind x → Messages kind ms → Messages kind (put kind x ms)
  put-set x ms vx set =
      record { each = put_all_lem (Valid kind) x ms vx set.each; rising = rising_from (put kind x ms) (put_pairwise x ms vx set.each (messages_rise kind lawful ms set.each set.rising)) }
