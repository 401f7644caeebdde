use Rattle.parcels.specs.Walk.{contents, to_come}
use Rattle.parcels.proofs.Counting.{Counted}
use Rattle.parcels.proofs.parcel.Parcel.counts.Given as goal

abbrev pub invariant-loop-item : goal.invariant-loop-item
invariant-loop-item l =
    (goal.iterator-loop-item).can_next l.item-iterator × (goal.iterator-loop-item).is_finite l.item-iterator
    × Counted (contents l.self).items l.messages l.notes (to_come l.item-iterator)
