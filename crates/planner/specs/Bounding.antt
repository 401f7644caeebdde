-- Block and active separators told by a last rank each. Assumes nothing.
use Rattle.std.specs.Prelude.{ℕ, ◌≤◌, Bool, false, not, List, option_map, unwrap_or}
use Rattle.planner.specs.declared.bounds.Bounds.{Bounds}
use Rattle.planner.specs.Drawing.{rank_before}

-- the settings that can be planned for
pub record Allowed (alpha rho : ℕ) : Type 0 where
  pub some : 1 ≤ alpha
  pub few : alpha ≤ 16
  pub shares : 1 ≤ rho
  pub small : rho ≤ 2000

-- the block holds what is not drawn after its last
abbrev pub in_block : List ℕ → Bounds → ℕ → Bool
in_block priorities b x = not (rank_before priorities b.last x)

-- active is what is not drawn after the last active separator, if there is one
abbrev pub separates : List ℕ → Bounds → ℕ → Bool
separates priorities b x = unwrap_or (option_map (λ s. not (rank_before priorities s x)) b.separator) false
