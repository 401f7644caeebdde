-- What an entry kind means, and what it must show. Assumes nothing.
use Rattle.std.specs.Prelude.{◌≡◌, ℕ, ◌≤◌, List, length, take, Option}
use Rattle.std.specs.declared.cmp.Ordering.{Ordering}
use Rattle.fields.specs.Numbers.{Bytes}
use Rattle.layout.specs.Orders.{TotalOrder}

pub record Kind : Type 0 where
  pub number : ℕ
  -- the bytes of a message, and how many of them, from the front, are its key
  pub width : ℕ
  pub key_width : ℕ
  -- the offset of the first invalid field of a message
  pub invalid : List ℕ → Option ℕ
  pub measured : List ℕ → ℕ
  pub key_order : List ℕ → List ℕ → Ordering
  -- of two messages with one key, which outranks the other
  pub rank_order : List ℕ → List ℕ → Ordering

-- a string of as many bytes as a key has
abbrev pub Key : Kind → List ℕ → Type 0
Key kind key = Bytes key × (length key ≡ kind.key_width)

-- a message of the right length, valid or not, with this key
abbrev pub Keyed : Kind → List ℕ → List ℕ → Type 0
Keyed kind key message = Bytes message × (length message ≡ kind.width) × (take kind.key_width message ≡ key)

-- what the author of a kind has to show
pub record Lawful (kind : Kind) : Type 0 where
  pub number_low : 1 ≤ kind.number
  pub number_high : kind.number ≤ 255
  pub width_low : 1 ≤ kind.width
  pub width_high : kind.width ≤ 128
  pub key_low : 1 ≤ kind.key_width
  pub key_high : kind.key_width ≤ kind.width
  pub keys : TotalOrder (Key kind) kind.key_order
  pub ranks : (key : List ℕ) → TotalOrder (Keyed kind key) kind.rank_order
  pub measure : (message : List ℕ) → Bytes message → kind.measured message ≤ 1000
