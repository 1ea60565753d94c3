-- What always holds of the state after a history of fewer entries than there are numbers.
use Rattle.std.specs.Prelude.{ℕ, ◌-◌, ◌<◌, ◌^◌}
use Rattle.rv_model.specs.declared.state.State.{State}

-- Commits and transactions can be counted up.
pub record HasRoom (s : State) : Type 0 where
  pub last : s.last < 2 ^ 64 - 1
  pub next : s.transactions.next < 2 ^ 64 - 1
