-- The numbers that are drawn from a seed.
use Rattle.std.specs.Prelude.{ℕ, zero, suc, ◌+◌, ◌*◌, ◌/◌, ◌%◌, ◌^◌}

-- the next state of a linear congruential generator
abbrev pub generator_step : ℕ → ℕ
generator_step x = (x * 6364136223846793005 + 1442695040888963407) % 2 ^ 64

-- the state after so many draws from a state
unfoldable pub state_after : ℕ → ℕ → ℕ
state_after x zero = x
state_after x (suc draws) = generator_step (state_after x draws)

-- the number below m that draw n from a state gives; the first draw is 1
abbrev pub draw : ℕ → ℕ → ℕ → ℕ
draw x n m = (state_after x n / 2 ^ 33) % m
