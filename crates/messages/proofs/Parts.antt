-- Putting the fields of a message together again. Assumes nothing.
use Rattle.std.proofs.Common.{◌≡◌, ℕ, ◌+◌, ◌<◌, ◌≤◌, true, List, [], ◌∷◌, ◌++◌, length, take, drop, sym, refl, ap, ◌∙◌, ap₂, arith}
use borrow.Rule.Slice.PartMut.{put_mid}
use Rattle.std.proofs.ByRecursion.{All-take, All-drop}
use Rattle.std.proofs.lemmas.List.{append-nil, drop_all, drop_at, drop-drop, drop_more, get_or-drop, length-drop, length-take, take-append-drop, take_at}
use Rattle.std.proofs.lemmas.Bool.Decides.{nat_tests}
use Rattle.fields.proofs.Numbers.{le-number}
use Rattle.fields.specs.Numbers.{Bytes, le, number}
use Rattle.layout.specs.Layout.{byte_at, number_at}
use Rattle.kinds.specs.Rules.{is_state}
use Rattle.kinds.specs.States.{state_number, state_of}
use Rattle.kinds.specs.declared.state.State.{State}
use Rattle.kinds.specs.declared.state.State.TheVariants.{Set, Cut}

pub state_of_number : (s : State) → state_of (state_number s) ≡ s
state_of_number Set = refl
state_of_number Cut = refl

pub number_of_state : (n : ℕ) → is_state n ≡ true → state_number (state_of n) ≡ n
number_of_state n valid = grind (arith, nat_tests)

-- a byte, and a number of four bytes, before what follows it in the message
pub byte_before : (m : List ℕ) (i : ℕ) → i < length m → byte_at m i ∷ drop (i + 1) m ≡ drop i m
byte_before m i lt = sym (drop_more m i 0 lt)

pub number-before : (m : List ℕ) (i : ℕ) → Bytes m → i + 4 ≤ length m → le 4 (number_at m i) ++ drop (i + 4) m ≡ drop i m
number-before m i bytes fits =
    let part = take 4 (drop i m) in
    let four : length part ≡ 4 = simp (length-take, length-drop) (omega arith) in
    let again : le 4 (number part) ≡ part = ap (λ n. le n (number part)) (sym four) ∙ le-number part (All-take _ 4 (drop i m) (All-drop _ i m bytes)) in
    ap₂ ◌++◌ again (sym (drop-drop 4 i m)) ∙ take-append-drop 4 (drop i m)

pub number_last : (m : List ℕ) (i : ℕ) → Bytes m → i + 4 ≡ length m → le 4 (number_at m i) ≡ drop i m
number_last m i bytes end =
    let none : drop (i + 4) m ≡ [] = drop_all (i + 4) m (omega arith) in
    sym (append-nil _) ∙ ap (λ rest. le 4 (number_at m i) ++ rest) (sym none) ∙ number-before m i bytes (omega arith)

-- the same field, counted from the start of a part
pub number_within : (m : List ℕ) (n i : ℕ) → number_at m (n + i) ≡ number_at (drop n m) i
number_within m n i = ap (λ part. number (take 4 part)) (sym (drop-drop i n m))

pub byte_within : (m : List ℕ) (n i : ℕ) → byte_at m (n + i) ≡ byte_at (drop n m) i
byte_within m n i = sym (get_or-drop n m i 0)

-- what is written over the last part of a list
pub put_last : (front old new : List ℕ) (n k : ℕ) → length front ≡ n → length old ≡ k → put_mid n k (front ++ old) new ≡ front ++ new
put_last front old new n k len over =
    let after : drop k (drop n (front ++ old)) ≡ [] = ap (drop k) (drop_at front old n len) ∙ drop_all k old (omega arith) in
    ap₂ (λ first rest. first ++ (new ++ rest)) (take_at front old n len) after ∙ ap (λ rest. front ++ rest) (append-nil new)
