use Rattle.std.proofs.Common.{◌-◌, ◌≤◌, length}
use Rattle.std.specs.Result.{result_err}
use Rattle.parcels.specs.Reading.{read_items}
use Rattle.parcels.proofs.Opening.{Refused}
use Rattle.parcels.proofs.items.test_items.Given as goal

-- what is left is refused as the whole is
abbrev pub invariant-loop : goal.invariant-loop
invariant-loop l = (length l.rest ≤ l.total) × Refused l.width l.total (l.count - l.counter) l.rest (result_err (read_items l.width l.total l.count l.items))
