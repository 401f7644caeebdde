use Rattle.std.proofs.ByRecursion.{All-from_get_or}
use Rattle.std.proofs.lemmas.Result.{err_from_is_err_and}
use Rattle.parcels.proofs.Walking.{parcel_refused, parcel_accepted}
use Rattle.parcels.proofs.Written.{accepts_written}
use Rattle.parcels.proofs.parcel.Parcel.read.Goals as goal

pub returns-in_err-test_items : goal.returns-in_err-test_items
returns-in_err-test_items c =
    let exit = err_from_is_err_and c.from_residual-in_err-test_items.result c.from_residual-in_err-test_items.ensures.1 in
    let answer = parcel_refused _ _ c.args.bytes.now _ c.in_ok-test_header.ensures c.read_at-count.ensures _ c.in_err-test_items.ensures in
    rw (exit.1, exit.2) (record { answer = answer; written = accepts_written _ _ _ _ (All-from_get_or _ _ 0 (λ i lt. (c.type_inv.bytes i).fits)) answer })

pub returns : goal.returns
returns c =
    let answer = parcel_accepted _ _ c.args.bytes.now _ c.in_ok-test_header.ensures c.read_at-count.ensures _ c.read_at-chapter.ensures c.in_ok-test_items.ensures in
    record { answer = answer; written = accepts_written _ _ _ _ (All-from_get_or _ _ 0 (λ i lt. (c.type_inv.bytes i).fits)) answer }
