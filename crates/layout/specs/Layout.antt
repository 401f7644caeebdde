-- The fields of a message: what each means, the order by a list of fields, the first invalid field. Assumes nothing.
use Rattle.std.specs.Prelude.{ℕ, ◌+◌, Bool, cond, ◌&&◌, List, [], ◌∷◌, map, Some, None, Option, nat_le, slice_index}
use Rattle.std.specs.declared.cmp.Ordering.{Ordering}
use Rattle.fields.specs.Numbers.{number, part}
use Rattle.layout.specs.Orders.{lexical}
use Rattle.layout.specs.declared.Field.{Field}
use Rattle.layout.specs.declared.Field.TheVariants.{Byte, Folded, Number}

-- the byte at an offset; one that is not there is 0
abbrev pub byte_at : List ℕ → ℕ → ℕ
byte_at message at = slice_index message at

-- the number of four bytes at an offset, the lowest byte first; bytes that are not there are 0
abbrev pub number_at : List ℕ → ℕ → ℕ
number_at message at = number (part at 4 message)

-- A to Z read as a to z
abbrev pub lowered : ℕ → ℕ
lowered b = cond (nat_le 65 b && nat_le b 90) (b + 32) b

-- what a field is compared by
abbrev pub value : List ℕ → Field → ℕ
value message (Byte at) = byte_at message at
value message (Folded at) = lowered (byte_at message at)
value message (Number at) = number_at message at

abbrev pub values : List Field → List ℕ → List ℕ
values fields message = map (value message) fields

-- the first of the fields that differs decides
abbrev pub by_fields : List Field → List ℕ → List ℕ → Ordering
by_fields fields a b = lexical (values fields a) (values fields b)

-- the first offset whose test failed
abbrev pub first_invalid : List (ℕ × Bool) → Option ℕ
first_invalid [] = None
first_invalid (test ∷ tests) = cond test.1 (first_invalid tests) (Some test.0)
