-- A paragraph that is read from a valid message encodes to it again. Assumes nothing.
use Rattle.std.proofs.Common.{◌≡◌, ℕ, true, false, List, ◌∷◌, ◌++◌, is_some, ap, ◌∙◌, ap₂, arith}
use Rattle.fields.specs.Numbers.{Bytes, le}
use Rattle.layout.proofs.Fields.{tests_passed}
use Rattle.layout.specs.Layout.{byte_at, number_at}
use Rattle.kinds.specs.Paragraphs.{paragraph_invalid, paragraph_tests, paragraphs}
use Rattle.kinds.specs.Rules.{is_state}
use Rattle.messages.specs.Paragraph.{encoded, read}
use Rattle.messages.specs.Messages.{is_message}
use Rattle.messages.proofs.Parts.{byte_before, number-before, number_last, number_of_state}
use Rattle.messages.proofs.Validity.{message_length, message_valid_lem}

state_valid : (m : List ℕ) → is_some (paragraph_invalid m) ≡ false → is_state (byte_at m 6) ≡ true
state_valid m valid = (tests_passed (paragraph_tests m) valid).1.1.0

pub encoded-read : (m : List ℕ) → Bytes m → is_message paragraphs m ≡ true → encoded (read m) ≡ m
encoded-read m bytes message =
    let len = message_length paragraphs m message in
    let state = number_of_state (byte_at m 6) (state_valid m (message_valid_lem paragraphs m message)) in
    let end = number_last m 12 bytes (omega arith) in
    let stamp = ap (λ rest. le 4 (number_at m 8) ++ rest) end ∙ number-before m 8 bytes (omega arith) in
    let lines = ap (λ rest. byte_at m 7 ∷ rest) stamp ∙ byte_before m 7 (omega arith) in
    let states = ap₂ ◌∷◌ state lines ∙ byte_before m 6 (omega arith) in
    let sender = ap (λ rest. byte_at m 5 ∷ rest) states ∙ byte_before m 5 (omega arith) in
    let origin = ap (λ rest. byte_at m 4 ∷ rest) sender ∙ byte_before m 4 (omega arith) in
    ap (λ rest. le 4 (number_at m 0) ++ rest) origin ∙ number-before m 0 bytes (omega arith)
