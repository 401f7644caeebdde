-- Messages and notes counted one item at a time. Assumes nothing.
use Rattle.std.proofs.Common.{◌≡◌, ℕ, zero, suc, ◌+◌, ◌^◌, ◌<◌, ◌≤◌, List, [], ◌∷◌, map, length, Some, None, Option, refl, ap, ◌∙◌, arith}
use Rattle.parcels.specs.Format.{ItemValue, message, note}
use Rattle.parcels.specs.Reading.{read_item, front_then, front_items}
use Rattle.parcels.specs.Walk.{numbered, messages_in, notes_in}

pub length_front : (width n : ℕ) (bytes : List ℕ) → length (front_items width n bytes) ≤ n
length_front width zero bytes = omega arith
length_front width (suc n) bytes = go (read_item width bytes) (length_front width n)
  where
    go : (o : Option (ItemValue × List ℕ)) → ((rest : List ℕ) → length (front_items width n rest) ≤ n) → length (front_then o (front_items width n)) ≤ suc n
    go None others = omega arith
    go (Some p) others = omega (arith, others p.1)

-- the two counts are those of all items
both_le : (xs : List ItemValue) → messages_in xs + notes_in xs ≡ length xs
both_le [] = refl
both_le (message bs ∷ xs) = omega (arith, both_le xs)
both_le (note bs ∷ xs) = omega (arith, both_le xs)

abbrev values : List (ℕ × ItemValue) → List ItemValue
values ps = map (λ p. p.1) ps

values_numbered : (k : ℕ) (xs : List ItemValue) → values (numbered k xs) ≡ xs
values_numbered k [] = refl
values_numbered k (x ∷ xs) = ap (λ l. x ∷ l) (values_numbered (k + 1) xs)

-- so many messages and notes were passed, and these items are still to come
pub record Counted (all : List ItemValue) (messages notes : ℕ) (left : List (ℕ × ItemValue)) : Type 0 where
  pub few : length all < 2 ^ 16
  pub of_messages : messages + messages_in (values left) ≡ messages_in all
  pub of_notes : notes + notes_in (values left) ≡ notes_in all

pub counted_none : (all : List ItemValue) (left : List (ℕ × ItemValue)) → length all < 2 ^ 16 → left ≡ numbered 1 all → Counted all 0 0 left
counted_none all left few is =
    let whole : values left ≡ all = ap values is ∙ values_numbered 1 all in
    record { few = few; of_messages = omega (arith, ap messages_in whole); of_notes = omega (arith, ap notes_in whole) }

-- no count is larger than the number of items
pub counted_fits : {all : List ItemValue} {messages notes : ℕ} {left : List (ℕ × ItemValue)} → Counted all messages notes left → (messages < 2 ^ 16) × (notes < 2 ^ 16)
counted_fits {all} h = (omega (arith, h.few, h.of_messages, both_le all), omega (arith, h.few, h.of_notes, both_le all))

-- the same items, with one fewer to come and one count higher
moved : {all : List ItemValue} {messages notes : ℕ} {left : List (ℕ × ItemValue)} → Counted all messages notes left → (m n : ℕ) (after : List (ℕ × ItemValue)) → m + messages_in (values after) ≡ messages + messages_in (values left) → n + notes_in (values after) ≡ notes + notes_in (values left) → Counted all m n after
moved h m n after of_messages of_notes = record { few = h.few; of_messages = of_messages ∙ h.of_messages; of_notes = of_notes ∙ h.of_notes }

module _ {all : List ItemValue} {messages notes : ℕ} {after : List (ℕ × ItemValue)} {k : ℕ} {bs : List ℕ} where
  pub message_counted : {left : List (ℕ × ItemValue)} → Counted all messages notes left → left ≡ (k, message bs) ∷ after → Counted all (messages + 1) notes after
  message_counted h is = moved h (messages + 1) notes after (rw is (omega arith)) (rw is refl)

  pub note_counted : {left : List (ℕ × ItemValue)} → Counted all messages notes left → left ≡ (k, note bs) ∷ after → Counted all messages (notes + 1) after
  note_counted h is = moved h messages (notes + 1) after (rw is refl) (rw is (omega arith))
