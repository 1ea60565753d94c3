-- What a run writes, audited.
use Rattle.std.specs.Prelude.{◌≡◌, ℕ, List, [], ◌++◌, Some, None, codes, length}
use Rattle.std.specs.Io.KnownBytes.{Appends}
use Rattle.std.specs.List.{AllByRecursion}
use Rattle.rv_model.specs.declared.entry.Entry.{Entry}
use Rattle.rv_believed.specs.Held.{IsHeldReply}
use Rattle.rv_run.specs.Script.{HasAllCalls, Writes}
use Rattle.rv_text.specs.Lines.{split}
use Rattle.rv_text.specs.Reading.{CanHoldReply}
use Rattle.rv_audit.specs.declared.auditing.Audited.TheVariants as audited
use Rattle.rv_audit.specs.Auditing.{Audits}

-- nothing stands behind the last line feed
abbrev pub AreWholeLines : List ℕ → Type 0
AreWholeLines bytes = (split bytes).rest ≡ []

-- what a run with status 0 says of a source that told the script, and of a sink that tells the transcript alone: the
-- words of its clause `done`, without a seed
abbrev pub Wrote : List ℕ → List ℕ → List Entry → Type 0
Wrote script transcript history = Writes None (Some script) (Appends (Some []) (Some transcript)) HasAllCalls history

-- A script of whole lines, a mark, and the transcript that a run writes of the script with status 0.
pub record IsOfRun (history : List Entry) (input : List ℕ) : Type 0 where
  pub script : List ℕ
  pub lines : AreWholeLines script
  pub transcript : List ℕ
  pub wrote : Wrote script transcript history
  pub is : input ≡ script ++ (codes "====\n" ++ transcript)

-- LAW: such an input is legal;
abbrev pub RunIsLegal : List Entry → Type 0
RunIsLegal history = (input : List ℕ) → IsOfRun history input → Audits input (audited.Legal (length history))

-- LAW: and it tells the history, with its phases.
abbrev pub RunIsTold : List Entry → List Entry → Type 0
RunIsTold one other = (input : List ℕ) → IsOfRun one input → IsOfRun other input → one ≡ other

-- The numbers of the replies have 64 bits, and their texts are UTF-8. The types of a program have it so.
abbrev pub CanHold : Entry → Type 0
CanHold e = IsHeldReply e.reply × CanHoldReply e.reply

abbrev pub AreHeld : List Entry → Type 0
AreHeld = AllByRecursion CanHold

-- LAWS: the same of any lists of entries, whether or not a program has them.
abbrev pub RunsAreLegal : Type 0
RunsAreLegal = (history : List Entry) → AreHeld history → RunIsLegal history

abbrev pub RunsAreTold : Type 0
RunsAreTold = (one other : List Entry) → AreHeld one → AreHeld other → RunIsTold one other
