use Rattle.std.proofs.Common.{ap, ◌∙◌}
use Rattle.parcels.specs.Walk.{to_come}
use Rattle.parcels.proofs.Counting.{counted_none, counted_fits, message_counted, note_counted}
use Rattle.parcels.proofs.parcel.Parcel.counts.Goals as goal

pub loop-item-init : goal.loop-item-init
loop-item-init c = (tt, tt, counted_none _ _ c.items-item-items.ensures.few (ap to_come c.into_iter-item-iterator.ensures.into_iter_gives ∙ c.items-item-items.ensures.items))

pub overflow_add-messages : goal.overflow_add-messages
overflow_add-messages c = record { fits = (counted_fits (message_counted c.loop-item.invariant.2 (rw c.in-Message.is at c.in-Some.ensures.steps))).0 }

pub overflow_add-notes : goal.overflow_add-notes
overflow_add-notes c = record { fits = (counted_fits (note_counted c.loop-item.invariant.2 (rw c.in-Note.is at c.in-Some.ensures.steps))).1 }
