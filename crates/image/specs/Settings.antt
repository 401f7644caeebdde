-- The settings of a chapter and their limits. Assumes nothing.
use Rattle.std.specs.Prelude.{ℕ, ◌+◌, ◌*◌, Bool, cond, not, ◌&&◌, Some, None, Option, nat_le}
use Rattle.image.specs.declared.settings.Settings.{Settings}

-- from 1 to 16, and so that eight bytes, the slots for messages of the width, and one more section record than slots fit
-- into a block
abbrev pub alpha_fits : (width alpha : ℕ) → Bool
alpha_fits width alpha = nat_le 1 alpha && (nat_le alpha 16 && nat_le (8 + alpha * width + 8 * (alpha + 1)) 256)

abbrev pub up_to2000 : ℕ → Bool
up_to2000 n = nat_le 1 n && nat_le n 2000

abbrev pub settings_fit : (width : ℕ) → Settings → Bool
settings_fit width s = alpha_fits width s.alpha && (up_to2000 s.rho && up_to2000 s.capacity)

-- the refusal of settings that do not fit: the first of the three, counted from 1
abbrev pub settings_refusal : (width : ℕ) → Settings → Option (ℕ × ℕ)
settings_refusal width s =
    cond (not (alpha_fits width s.alpha)) (Some (27, 1))
    (cond (not (up_to2000 s.rho)) (Some (27, 2))
    (cond (not (up_to2000 s.capacity)) (Some (27, 3)) None))
