use Rattle.std.proofs.lemmas.List.{drop-replicate}
use Rattle.std.proofs.Common.{rules}
use Rattle.fields.proofs.little_endian.bytes_at.Goals as goal

pub returns : goal.returns
returns g c = rw drop-replicate (search rules)
