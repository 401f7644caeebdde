-- Messages put into a set one after the other: their order does not matter. Assumes nothing.
use Rattle.std.proofs.Common.{◌≡◌, ℕ, zero, suc, ◌<◌, List, [], ◌∷◌, ◌++◌, length, get_or, set, Less, sym, refl, ap, ◌∙◌, subst, ⊎_elim, arith}
use Rattle.std.specs.List.{swap, AllByRecursion}
use Rattle.std.proofs.ByRecursion.{All-get_or}
use Rattle.std.proofs.lemmas.List.{append-nil, append_assoc, length-set, get_or-set_same, get_or-set_other}
use Rattle.std.proofs.lemmas.List.Sorted.{IsPermutation-keeps}
use Rattle.std.proofs.lemmas.Bool.{cases_eq}
use Rattle.kinds.specs.Kind.{Kind, Lawful}
use Rattle.tree.specs.Laws.{Pairwise}
use Rattle.tree.proofs.Lists.{all_set}
use Rattle.tree.proofs.Pairs.{pairwise_before}
use Rattle.image.specs.Messages.{Valid, Messages, put, put_all}
use Rattle.image.proofs.Drawn.{KeyBelow, messages_rise}
use Rattle.image_laws.specs.Arriving.{OrderDoesNotMatter, SetFromItsMessages}
use Rattle.image_laws.proofs.Putting.{put-by, put_comm, put_twice, put_all_lem, put-set}

module _ (kind : Kind) (lawful : Lawful kind) where
  puts_set : (xs ms : List (List ℕ)) → AllByRecursion (Valid kind) xs → Messages kind ms → Messages kind (put_all kind xs ms)
  puts_set [] ms v is = is
  puts_set (x ∷ xs) ms v is = puts_set xs (put kind x ms) v.1 (put-set kind lawful x ms v.0 is)

  -- a message may as well come first as last
  through : (x : List ℕ) (xs ms : List (List ℕ)) → Valid kind x → AllByRecursion (Valid kind) xs → AllByRecursion (Valid kind) ms → put kind x (put_all kind xs ms) ≡ put_all kind xs (put kind x ms)
  through x [] ms vx v w = refl
  through x (y ∷ xs) ms vx v w =
      through x xs (put kind y ms) vx v.1 (put_all_lem kind lawful (Valid kind) y ms v.0 w) ∙ ap (put_all kind xs) (put_comm kind lawful x y ms vx v.0 w)

  -- one of them put in again changes nothing
  absorbed : (xs : List (List ℕ)) (i : ℕ) (d : List ℕ) (ms : List (List ℕ)) → i < length xs → AllByRecursion (Valid kind) xs → AllByRecursion (Valid kind) ms → put kind (get_or xs i d) (put_all kind xs ms) ≡ put_all kind xs ms
  absorbed [] i d ms inside v w = absurd (omega arith)
  absorbed (x ∷ xs) zero d ms inside v w =
      through x xs (put kind x ms) v.0 v.1 (put_all_lem kind lawful (Valid kind) x ms v.0 w) ∙ ap (put_all kind xs) (put_twice kind lawful x ms v.0 w)
  absorbed (x ∷ xs) (suc i) d ms inside v w = absorbed xs i d (put kind x ms) (omega arith) v.1 (put_all_lem kind lawful (Valid kind) x ms v.0 w)

  -- one replaced by another, each put in after the other list
  replaced : (xs : List (List ℕ)) (i : ℕ) (y d : List ℕ) (ms : List (List ℕ)) → i < length xs → Valid kind y → AllByRecursion (Valid kind) xs → AllByRecursion (Valid kind) ms → put kind (get_or xs i d) (put_all kind (set xs i y) ms) ≡ put kind y (put_all kind xs ms)
  replaced [] i y d ms inside vy v w = absurd (omega arith)
  replaced (x ∷ xs) zero y d ms inside vy v w =
      through x xs (put kind y ms) v.0 v.1 (put_all_lem kind lawful (Valid kind) y ms vy w)
      ∙ ap (put_all kind xs) (put_comm kind lawful x y ms v.0 vy w)
      ∙ sym (through y xs (put kind x ms) vy v.1 (put_all_lem kind lawful (Valid kind) x ms v.0 w))
  replaced (x ∷ xs) (suc i) y d ms inside vy v w = replaced xs i y d (put kind x ms) (omega arith) vy v.1 (put_all_lem kind lawful (Valid kind) x ms v.0 w)

  -- two of them in each other's place
  exchanged_same : (xs : List (List ℕ)) (i j : ℕ) (d : List ℕ) (ms : List (List ℕ)) → i < length xs → j < length xs → AllByRecursion (Valid kind) xs → AllByRecursion (Valid kind) ms → put_all kind (set (set xs i (get_or xs j d)) j (get_or xs i d)) ms ≡ put_all kind xs ms
  exchanged_same xs i j d ms hi hj v w =
      let a = get_or xs i d in
      let b = get_or xs j d in
      let va = All-get_or (Valid kind) xs i d hi v in
      let vb = All-get_or (Valid kind) xs j d hj v in
      let once = set xs i b in
      let both = set once j a in
      let long = length-set xs i b in
      let v-once = all_set (Valid kind) xs i b vb v in
      let v_both = all_set (Valid kind) once j a va v-once in
      let at_j : get_or once j d ≡ b = ⊎_elim (λ e. ap (λ k. get_or once k d) e ∙ get_or-set_same xs i b d hi) (λ n. get_or-set_other xs i j b d n) (cases_eq j i) in
      let at_i : get_or both i d ≡ b = ⊎_elim (λ e. ap (λ k. get_or both k d) e ∙ get_or-set_same once j a d (omega arith) ∙ ap (λ k. get_or xs k d) e) (λ n. get_or-set_other once j i a d n ∙ get_or-set_same xs i b d hi) (cases_eq i j) in
      sym (absorbed both i d ms (omega (arith, length-set once j a)) v_both w)
      ∙ ap (λ x. put kind x (put_all kind both ms)) (at_i ∙ sym at_j)
      ∙ replaced once j a d ms (omega arith) va v-once w
      ∙ replaced xs i b d ms hi vb v w
      ∙ absorbed xs j d ms hj v w

  kept : (xs ms : List (List ℕ)) (l : List (List ℕ)) (i j : ℕ) → AllByRecursion (Valid kind) ms → i < length l → j < length l → AllByRecursion (Valid kind) l × (put_all kind l ms ≡ put_all kind xs ms) → AllByRecursion (Valid kind) (swap l i j) × (put_all kind (swap l i j) ms ≡ put_all kind xs ms)
  kept xs ms [] i j w hi hj h = absurd (omega arith)
  kept xs ms (d ∷ l) i j w hi hj h =
      let all = d ∷ l in (
        all_set (Valid kind) _ j _ (All-get_or (Valid kind) all i d hi h.0) (all_set (Valid kind) all i _ (All-get_or (Valid kind) all j d hj h.0) h.0),
        exchanged_same all i j d ms hi hj h.0 w ∙ h.1,
      )

pub order_does_not_matter : OrderDoesNotMatter
order_does_not_matter kind xs ys ms lawful is v shuffled =
    record {
      leaves = puts_set kind lawful xs ms v is;
      same = (IsPermutation-keeps xs (λ l. AllByRecursion (Valid kind) l × (put_all kind l ms ≡ put_all kind xs ms)) (v, refl) (λ l i j hi hj h. kept kind lawful xs ms l i j is.each hi hj h) ys shuffled).1;
    }

module _ (kind : Kind) (lawful : Lawful kind) where
  put_last : (x : List ℕ) (front : List (List ℕ)) → AllByRecursion (λ m. KeyBelow kind m x) front → put kind x front ≡ front ++ x ∷ []
  put_last x [] below = refl
  put_last x (m ∷ front) below = put-by kind lawful x m front Less below.0 ∙ ap (λ l. m ∷ l) (put_last x front below.1)

  -- messages with rising keys, put in from the left, stand in their order
  puts_rising : (front ms : List (List ℕ)) → Pairwise (KeyBelow kind) (front ++ ms) → put_all kind ms front ≡ front ++ ms
  puts_rising front [] p = sym (append-nil front)
  puts_rising front (m ∷ ms) p =
      let regrouped = append_assoc front (m ∷ []) ms in
      ap (put_all kind ms) (put_last m front (pairwise_before (KeyBelow kind) front m ms p))
      ∙ puts_rising (front ++ m ∷ []) ms (subst (Pairwise (KeyBelow kind)) (sym regrouped) p)
      ∙ regrouped

pub set_from_its_messages : SetFromItsMessages
set_from_its_messages kind ms ys lawful set shuffled =
    (order_does_not_matter kind ms ys [] lawful (record { each = tt; rising = tt }) set.each shuffled).same
    ∙ puts_rising kind lawful [] ms (messages_rise kind lawful ms set.each set.rising)
