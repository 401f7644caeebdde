-- What a table of messages looks at. Assumes nothing.
use Rattle.std.specs.Prelude.{ℕ, List}
use Rattle.rendering.specs.declared.table.Table.{Table}

abbrev pub bytes_of : {K : Type 0} → Table K → List ℕ
bytes_of table = table.bytes.now
