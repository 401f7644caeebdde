-- The number and place of the refusal of each setting. Assumes nothing.
use Rattle.std.specs.Prelude.{ℕ}
use Rattle.image.specs.declared.settings.Setting.{Setting}
use Rattle.image.specs.declared.settings.Setting.TheVariants.{Alpha, Rho, Capacity}

-- the settings counted from 1
abbrev pub setting_coded : Setting → ℕ × ℕ
setting_coded Alpha = (27, 1)
setting_coded Rho = (27, 2)
setting_coded Capacity = (27, 3)
