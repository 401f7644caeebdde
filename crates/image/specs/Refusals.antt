-- Why a head is not that of a chapter. Assumes nothing.
use Rattle.std.specs.Prelude.{ℕ, Bool, not, List, [], ◌∷◌, Some, None, Option, if◌then◌else◌, nat_lt}
use Rattle.image.specs.declared.head.Head.{Head}
use Rattle.image.specs.declared.head.HeadFault.{HeadFault}
use Rattle.image.specs.declared.head.HeadFault.TheVariants.{OutOfLimits, EntriesAboveCapacity, BlocksAboveEntries}
use Rattle.image.specs.declared.settings.Setting.TheVariants.{Alpha, Rho, Capacity}
use Rattle.image.specs.Settings.{alpha_fits, up_to2000}

-- a fault, where this holds
abbrev pub fault_if : {E : Type 0} → Bool → E → Option E
fault_if holds fault = if holds then Some fault else None

-- the first fault that there is
abbrev pub first_of : {E : Type 0} → List (Option E) → Option E
first_of [] = None
first_of (Some fault ∷ others) = Some fault
first_of (None ∷ others) = first_of others

-- a head is refused for the first setting out of its limits, or else for more entries than the capacity, or else for more
-- blocks than entries
abbrev pub head_refusal : (width : ℕ) → Head → Option HeadFault
head_refusal width head =
    first_of
    (fault_if (not (alpha_fits width head.settings.alpha)) (OutOfLimits Alpha)
    ∷ fault_if (not (up_to2000 head.settings.rho)) (OutOfLimits Rho)
    ∷ fault_if (not (up_to2000 head.settings.capacity)) (OutOfLimits Capacity)
    ∷ fault_if (nat_lt head.settings.capacity head.counts.entries) EntriesAboveCapacity
    ∷ fault_if (nat_lt head.counts.entries head.counts.blocks) BlocksAboveEntries
    ∷ [])
