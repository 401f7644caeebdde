-- The chain over a key is a fold. Assumes nothing.
use Rattle.std.proofs.Common.{◌≡◌, ℕ, List, [], ◌∷◌, refl}
use Rattle.std.specs.Prelude.{bit_xor}
use Rattle.std.specs.List.{fold}
use Rattle.drawing.specs.Drawing.{chain, substitute}

abbrev pub step : ℕ → ℕ → ℕ
step h b = substitute (bit_xor h b)

pub fold-chain : (h : ℕ) (key : List ℕ) → fold step h key ≡ chain h key
fold-chain h [] = refl
fold-chain h (b ∷ bs) = fold-chain (step h b) bs
