-- What a step may read.
use Rattle.std.specs.Prelude.{◌≡◌, ◌⊎◌}
use Rattle.rv_judge.specs.declared.counting.Counts.{Counts}
use Rattle.rv_reader.specs.declared.step.Step.{Step}
use Rattle.rv_value.specs.declared.record.Record.{Record}
use Rattle.rv_reader.specs.declared.step.Step.TheVariants.{Row, Working, End}

-- at most one read of a sort, and no other
abbrev pub OneAtMost : (Counts → Counts) → Counts → Counts → Type 0
OneAtMost one c d = (d ≡ c) ⊎ (d ≡ one c)

-- nothing was read where a step ends
abbrev pub ReadsNone : Step Record → Counts → Counts → Type 0
ReadsNone (Row r) before after = Unit {0}
ReadsNone Working before after = Unit {0}
ReadsNone End before after = after ≡ before
