-- Why a tree block is not written. Assumes nothing.
use Rattle.std.specs.Prelude.{ℕ, not, List, [], ◌∷◌, Option, count_ones, nat_lt}
use Rattle.std.specs.List.{find}
use Rattle.std.specs.Option.{option_map}
use Rattle.kinds.specs.Kind.{Kind}
use Rattle.planner.specs.declared.row.Row.{Row}
use Rattle.image.specs.Refusals.{fault_if, first_of}
use Rattle.image.specs.Settings.{alpha_fits}
use Rattle.rendering.specs.declared.fault.BlockFault.{BlockFault}
use Rattle.rendering.specs.declared.fault.BlockFault.TheVariants.{AlphaOutOfLimits, EntriesAboveAlpha, SeparatorsAboveAlpha, NoMessage}
use Rattle.planner.specs.Rows.{ranks_of}
use Rattle.rendering.specs.Rendered.{in_table}

module _ (kind : Kind) where
  -- the first of a row's entries, by its rank, whose message the table lacks
  abbrev pub first_missing : (table : List ℕ) → Row → Option ℕ
  first_missing table row = find (λ rank. not (in_table kind table rank)) (ranks_of row)

  -- a row is refused if alpha is out of its limits, or else for more entries than alpha, or else for more active separators than
  -- alpha, or else for the first entry with no message in the table
  abbrev pub block_refusal : (alpha : ℕ) (table : List ℕ) → Row → Option BlockFault
  block_refusal alpha table row =
      first_of
      (fault_if (not (alpha_fits kind.width alpha)) AlphaOutOfLimits
      ∷ fault_if (nat_lt alpha row.count) EntriesAboveAlpha
      ∷ fault_if (nat_lt alpha (count_ones row.mask)) SeparatorsAboveAlpha
      ∷ option_map NoMessage (first_missing table row)
      ∷ [])
