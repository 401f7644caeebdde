-- The number and place of each refusal of a block store. Assumes nothing.
use Rattle.std.specs.Prelude.{ℕ}
use Rattle.stores.specs.declared.faults.StoreFault.{StoreFault}
use Rattle.stores.specs.declared.faults.StoreFault.TheVariants.{NoBlock, BufferLength}

-- 11 with the block as the caller asked for it; 12 with the buffer's length
abbrev pub coded : StoreFault → ℕ × ℕ
coded (NoBlock block) = (11, block)
coded (BufferLength length) = (12, length)
