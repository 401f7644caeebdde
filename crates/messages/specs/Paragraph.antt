-- A typed paragraph and its message. Assumes nothing.
use Rattle.std.specs.Prelude.{ℕ, List, ◌∷◌, ◌++◌}
use Rattle.fields.specs.Numbers.{le}
use Rattle.layout.specs.Layout.{byte_at, number_at}
use Rattle.kinds.specs.States.{state_number, state_of}
use Rattle.messages.specs.declared.paragraph_message.Paragraph.{Paragraph}

-- the message of a paragraph
abbrev pub encoded : Paragraph → List ℕ
encoded p =
    le 4 p.place ++ (p.origin ∷ p.sender ∷ state_number p.state ∷ p.lines ∷ (le 4 p.stamp ++ le 4 p.text))

-- what the fields of a message hold
abbrev pub read : List ℕ → Paragraph
read m =
    record {
      place = number_at m 0;
      origin = byte_at m 4;
      sender = byte_at m 5;
      state = state_of (byte_at m 6);
      lines = byte_at m 7;
      stamp = number_at m 8;
      text = number_at m 12;
    }
