-- Sets of messages of a kind: a list of valid messages whose keys strictly rise, so that equal sets are equal lists. Assumes
-- nothing.
use Rattle.std.specs.Prelude.{◌≡◌, ℕ, Bool, List, [], ◌∷◌, length, take, Some, None, sum_by, Option}
use Rattle.std.specs.declared.cmp.Ordering.TheVariants.{Less, Equal, Greater}
use Rattle.std.specs.declared.cmp.Ordering.{Ordering}
use Rattle.std.specs.List.{AllByRecursion}
use Rattle.drawing.specs.Drawing.{drawn_before}
use Rattle.fields.specs.Numbers.{Bytes}
use Rattle.kinds.specs.Kind.{Kind}

-- by how the key of a message compares with the one sought: look further, this one, or none
abbrev pub found_by : Ordering → List ℕ → Option (List ℕ) → Option (List ℕ)
found_by Less m further = further
found_by Equal m further = Some m
found_by Greater m further = None

module _ (kind : Kind) where
  -- the key is the front of a message
  abbrev pub key_of : List ℕ → List ℕ
  key_of message = take kind.key_width message

  -- a message as it may stand: of the right length, and every field valid
  pub record Valid (message : List ℕ) : Type 0 where
    pub bytes : Bytes message
    pub long : length message ≡ kind.width
    pub fields : kind.invalid message ≡ None

  -- each key is below the next
  abbrev pub Rising : List (List ℕ) → Type 0
  Rising [] = Unit {0}
  Rising (m ∷ []) = Unit {0}
  Rising (m ∷ l ∷ ms) = (kind.key_order (key_of m) (key_of l) ≡ Less) × Rising (l ∷ ms)

  -- a set of messages, no two with one key
  pub record Messages (ms : List (List ℕ)) : Type 0 where
    pub each : AllByRecursion Valid ms
    pub rising : Rising ms

  -- message a is drawn before message b, by their keys
  abbrev pub before : List ℕ → List ℕ → Bool
  before a b = drawn_before kind.key_order (key_of a) (key_of b)

  -- the sum of the measures
  abbrev pub total_measure : List (List ℕ) → ℕ
  total_measure ms = sum_by kind.measured ms

  -- the message with the key, if there is one: keys rise, so a larger key ends the search
  abbrev pub standing : List ℕ → List (List ℕ) → Option (List ℕ)
  standing key [] = None
  standing key (m ∷ ms) = found_by (kind.key_order (key_of m) key) m (standing key ms)

  -- of two messages with one key the one that ranks higher; the first if neither does
  abbrev pub higher : List ℕ → List ℕ → List ℕ
  higher old new = elim (kind.rank_order old new) [ Less ↦ new | Equal ↦ old | Greater ↦ old ]

  -- a message put into a set: in its place if its key is new, else the higher of the two stands
  abbrev pub put : List ℕ → List (List ℕ) → List (List ℕ)
  put new [] = new ∷ []
  put new (m ∷ ms) = elim (kind.key_order (key_of m) (key_of new)) [ Less ↦ m ∷ put new ms | Equal ↦ higher m new ∷ ms | Greater ↦ new ∷ m ∷ ms ]

  -- messages put into a set one after the other
  abbrev pub put_all : List (List ℕ) → List (List ℕ) → List (List ℕ)
  put_all [] set = set
  put_all (m ∷ ms) set = put_all ms (put m set)
