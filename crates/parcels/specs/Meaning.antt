-- What the values of the code mean. Assumes nothing.
use Rattle.std.specs.Prelude.{ℕ, List, ◌++◌, Option, Result, codes, decimal}
use Rattle.std.specs.Borrow.{Bor}
use Rattle.std.specs.Option.{option_map}
use Rattle.std.specs.Result.{result_err}
use Rattle.parcels.specs.declared.fault.ParcelFault.{ParcelFault}
use Rattle.parcels.specs.declared.fault.ParcelFault.TheVariants.{Short, Mark, Version, Kind, BadItem}
use Rattle.parcels.specs.declared.item.Item.{Item}
use Rattle.parcels.specs.declared.item.Item.TheVariants.{Message, Note}
use Rattle.parcels.specs.Format.{ItemValue, message, note}

-- the number and the place of every refusal of a parcel
abbrev pub coded : ParcelFault → ℕ × ℕ
coded (Short n) = (31, n)
coded Mark = (32, 0)
coded Version = (32, 3)
coded Kind = (32, 5)
coded (BadItem at) = (33, at)

-- the refusal of a call, if it was refused
abbrev pub refusal : {X : Type 0} → Result X ParcelFault → Option (ℕ × ℕ)
refusal r = option_map coded (result_err r)

-- an item by its bytes
abbrev pub value_of : Item → ItemValue
value_of (Message bs) = message bs.now
value_of (Note bs) = note bs.now

-- an item and the bytes after it
abbrev pub opened : Item × Bor (List ℕ) → ItemValue × List ℕ
opened p = (value_of p.0, p.1.now)

-- two numbers as they are printed: in decimal, with a space between them
abbrev pub numbers_shown : ℕ → ℕ → List ℕ
numbers_shown m n = decimal m ++ (codes " " ++ decimal n)
