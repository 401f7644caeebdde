-- What a view of a tree block looks at. Assumes nothing.
use Rattle.std.specs.Prelude.{ℕ, List}
use Rattle.image.specs.declared.block.TreeBlock.{TreeBlock}

abbrev pub bytes_of : {K : Type 0} → TreeBlock K → List ℕ
bytes_of block = block.bytes.now

abbrev pub alpha_of : {K : Type 0} → TreeBlock K → ℕ
alpha_of block = block.alpha
