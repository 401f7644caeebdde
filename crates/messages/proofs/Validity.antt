-- What is known of a valid message. Assumes nothing.
use Rattle.std.proofs.Common.{arith, ◌≡◌, ℕ, true, false, List, length, is_some}
use Rattle.std.proofs.lemmas.Bool.Decides.{nat_tests}
use Rattle.kinds.specs.Kind.{Kind}
use Rattle.messages.specs.Messages.{is_message}

module _ (kind : Kind) (m : List ℕ) where
  pub message_length : is_message kind m ≡ true → length m ≡ kind.width
  message_length h = grind (arith, nat_tests)

  pub message_valid_lem : is_message kind m ≡ true → is_some (kind.invalid m) ≡ false
  message_valid_lem h = grind (arith, nat_tests)

  pub is_message_lem : length m ≡ kind.width → is_some (kind.invalid m) ≡ false → is_message kind m ≡ true
  is_message_lem len valid = grind (arith, nat_tests)
