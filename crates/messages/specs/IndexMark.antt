-- A typed index mark and its message. Assumes nothing.
use Rattle.std.specs.Prelude.{ℕ, List, ◌∷◌, ◌++◌, take}
use Rattle.fields.specs.Numbers.{le}
use Rattle.layout.specs.Layout.{byte_at, number_at}
use Rattle.kinds.specs.States.{state_number, state_of}
use Rattle.messages.specs.declared.mark_message.IndexMark.{IndexMark}

-- what follows the term in the message of a mark
abbrev pub after_term : IndexMark → List ℕ
after_term k =
    le 4 k.place ++ (k.origin ∷ k.sender ∷ state_number k.state ∷ k.emphasis ∷ le 4 k.stamp)

-- the message of a mark
abbrev pub encoded : IndexMark → List ℕ
encoded k = k.term ++ after_term k

-- what the fields of a message hold
abbrev pub read : List ℕ → IndexMark
read m =
    record {
      term = take 16 m;
      place = number_at m 16;
      origin = byte_at m 20;
      sender = byte_at m 21;
      state = state_of (byte_at m 22);
      emphasis = byte_at m 23;
      stamp = number_at m 24;
    }
