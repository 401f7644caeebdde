-- Encoding and decoding an index mark are inverse to each other. Assumes nothing.
use Rattle.std.proofs.Common.{◌≡◌, ℕ, ◌+◌, ◌^◌, ◌<◌, true, false, List, ◌∷◌, ◌++◌, length, take, drop, is_some, Some, None, ap, ◌∙◌, ap₂, arith}
use Rattle.std.proofs.lemmas.List.{drop_at, length-append, take-append-drop, take_at}
use Rattle.std.specs.Bool.{then_some}
use Rattle.fields.proofs.Numbers.{number-le}
use Rattle.fields.specs.Numbers.{Bytes, le}
use Rattle.layout.proofs.Fields.{tests_passed}
use Rattle.layout.specs.Layout.{byte_at, number_at}
use Rattle.kinds.specs.IndexMarks.{mark_invalid, mark_tests, index_marks}
use Rattle.kinds.specs.Rules.{is_state}
use Rattle.messages.specs.IndexMark.{after_term, encoded, read}
use Rattle.messages.specs.Messages.{decoded, is_message}
use Rattle.kinds.specs.States.{state_of}
use Rattle.messages.specs.declared.mark_message.IndexMark.{IndexMark}
use Rattle.messages.proofs.Parts.{byte_before, byte_within, number-before, number_last, number_of_state, number_within, state_of_number}
use Rattle.messages.proofs.Validity.{is_message_lem, message_length, message_valid_lem}

-- the term has sixteen bytes, and the numbers no more than four
pub record Narrow (k : IndexMark) : Type 0 where
  pub term : length k.term ≡ 16
  pub place : k.place < 2 ^ 32
  pub stamp : k.stamp < 2 ^ 32

module _ (k : IndexMark) (narrow : Narrow k) where
  after_term_lem : drop 16 (encoded k) ≡ after_term k
  after_term_lem = drop_at k.term (after_term k) 16 narrow.term

  byte_after : (i : ℕ) → byte_at (encoded k) (16 + i) ≡ byte_at (after_term k) i
  byte_after i = byte_within (encoded k) 16 i ∙ ap (λ rest. byte_at rest i) after_term_lem

  number-after : (i : ℕ) → number_at (encoded k) (16 + i) ≡ number_at (after_term k) i
  number-after i = number_within (encoded k) 16 i ∙ ap (λ rest. number_at rest i) after_term_lem

  read-encoded : read (encoded k) ≡ k
  read-encoded =
      let places : number_at (encoded k) 16 ≡ k.place = number-after 0 ∙ number-le 4 k.place narrow.place in
      let stamps : number_at (encoded k) 24 ≡ k.stamp = number-after 8 ∙ number-le 4 k.stamp narrow.stamp in
      let states : state_of (byte_at (encoded k) 22) ≡ k.state = ap state_of (byte_after 6) ∙ state_of_number k.state in
      λ i.
      record {
        term = take_at k.term (after_term k) 16 narrow.term i;
        place = places i;
        origin = byte_after 4 i;
        sender = byte_after 5 i;
        state = states i;
        emphasis = byte_after 7 i;
        stamp = stamps i;
      }

  pub decoded-encoded : mark_invalid (encoded k) ≡ None → decoded index_marks read (encoded k) ≡ Some k
  decoded-encoded valid =
      let wide : length (encoded k) ≡ 28 = length-append k.term (after_term k) ∙ ap (λ n. n + 12) narrow.term in
      ap (λ t. then_some t (read (encoded k))) (is_message_lem index_marks (encoded k) wide (ap is_some valid)) ∙
      ap Some read-encoded

pub state_valid : (m : List ℕ) → is_some (mark_invalid m) ≡ false → is_state (byte_at m 22) ≡ true
state_valid m valid = (tests_passed (mark_tests m) valid).1.1.1.0

pub encoded-read : (m : List ℕ) → Bytes m → is_message index_marks m ≡ true → encoded (read m) ≡ m
encoded-read m bytes message =
    let len = message_length index_marks m message in
    let state = number_of_state (byte_at m 22) (state_valid m (message_valid_lem index_marks m message)) in
    let end = number_last m 24 bytes (omega arith) in
    let emphasis = ap (λ rest. byte_at m 23 ∷ rest) end ∙ byte_before m 23 (omega arith) in
    let states = ap₂ ◌∷◌ state emphasis ∙ byte_before m 22 (omega arith) in
    let sender = ap (λ rest. byte_at m 21 ∷ rest) states ∙ byte_before m 21 (omega arith) in
    let origin = ap (λ rest. byte_at m 20 ∷ rest) sender ∙ byte_before m 20 (omega arith) in
    let place = ap (λ rest. le 4 (number_at m 16) ++ rest) origin ∙ number-before m 16 bytes (omega arith) in
    ap (λ rest. take 16 m ++ rest) place ∙ take-append-drop 16 m
