-- What a step reads, and what it does to the work that is left.
use Rattle.std.specs.Prelude.{◌≡◌, ℕ, ◌+◌, ◌<◌, ◌≤◌}
use Rattle.rv_judge.specs.declared.counting.Counts.{Counts}
use Rattle.rv_judge.specs.Counting.{reads}
use Rattle.rv_reader.specs.declared.step.Step.{Step}
use Rattle.rv_value.specs.declared.record.Record.{Record}
use Rattle.rv_reader.specs.declared.step.Step.TheVariants.{Row, Working, End}

-- a call reads at most once, and does not raise the effort
pub record Tries (before after : Counts) (old new : ℕ) : Type 0 where
  pub once : reads after ≤ reads before + 1
  pub less : new ≤ old

-- a step lowers the effort unless it ends, and reads nothing where it ends
abbrev pub Falls : Step Record → Counts → Counts → ℕ → ℕ → Type 0
Falls (Row r) before after old new = new < old
Falls Working before after old new = new < old
Falls End before after old new = after ≡ before
