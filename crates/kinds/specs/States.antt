-- The state of an entry, and its number in a message. Assumes nothing.
use Rattle.std.specs.Prelude.{◌≡◌, ℕ, false, cond, Result, MatchResult}
use Rattle.kinds.specs.Rules.{is_set, is_state}
use Rattle.kinds.specs.declared.state.State.{State}
use Rattle.kinds.specs.declared.state.State.TheVariants.{Set, Cut}
use Rattle.kinds.specs.declared.state.UnknownState.{UnknownState}

abbrev pub state_number : State → ℕ
state_number Set = 1
state_number Cut = 2

-- the state of a valid message
abbrev pub state_of : ℕ → State
state_of number = cond (is_set number) Set Cut

-- the result is the state with this number; or an error that holds the number, where no state has it
abbrev pub IsStateOf : ℕ → Result State UnknownState → Type 0
IsStateOf number r = MatchResult r (λ state. state_number state ≡ number) (λ e. (e.0 ≡ number) × (is_state number ≡ false))
