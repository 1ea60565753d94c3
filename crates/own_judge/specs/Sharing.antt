-- What this program's judge answers, and what a run of it writes.
use Rattle.std.specs.Prelude.{ℕ, ◌*◌, List, Option, nat_le, if◌then◌else◌}
use Rattle.std.specs.Io.KnownBytes.{Appends}
use Rattle.rv_judge.specs.declared.judging.Facts.{Facts}
use Rattle.rv_judge.specs.declared.judging.Verdict.{Verdict}
use Rattle.rv_judge.specs.declared.judging.Verdict.TheVariants.{Continue, AbandonScan}
use Rattle.rv_model.specs.declared.entry.Entry.{Entry}
use Rattle.rv_believed.specs.History.{IsLegal}
use Rattle.rv_model.specs.Transcript.{text}

-- a scan is dropped where its projection is 60 hundredths of the guarantee or more
abbrev pub at_share : Facts → Verdict
at_share facts = if nat_le (60 * facts.guaranteed) (100 * facts.projected) then AbandonScan else Continue

-- The transcript of some legal history was written, behind what was there.
pub record WritesLegal (old new : Option (List ℕ)) : Type 0 where
  pub history : List Entry
  pub legal : IsLegal history
  pub written : Appends old new (text history)
