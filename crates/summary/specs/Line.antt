-- The line that the program prints for its input. Assumes nothing.
use Rattle.std.specs.Prelude.{ℕ, List, ◌++◌, Ok, Err, codes, Result}
use Rattle.parcels.specs.Format.{Contents}
use Rattle.parcels.specs.Meaning.{numbers_shown}
use Rattle.parcels.specs.Reading.{read_parcel}
use Rattle.parcels.specs.Walk.{messages_in, notes_in}

-- two numbers as they are printed, and the line's end
abbrev pub pair_line : ℕ → ℕ → List ℕ
pair_line m n = numbers_shown m n ++ codes "\n"

-- how many messages and notes were accepted, or the number and place of the refusal
abbrev pub answer_line : Result Contents (ℕ × ℕ) → List ℕ
answer_line (Ok c) = pair_line (messages_in c.items) (notes_in c.items)
answer_line (Err e) = codes "refused " ++ pair_line e.0 e.1

-- the input is read as a parcel of paragraphs: kind 1, messages of 16 bytes
abbrev pub line_of : List ℕ → List ℕ
line_of input = answer_line (read_parcel 1 16 input)
