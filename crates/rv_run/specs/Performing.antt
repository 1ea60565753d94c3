-- What performing a script comes to, and which status a fault gives.
use Rattle.std.specs.Prelude.{ℕ, List, Option, Bool, true, false, IfSome}
use Rattle.rv_io.specs.declared.all.ReadFault.{ReadFault}
use Rattle.rv_io.specs.declared.all.ReadFault.TheVariants as reading
use Rattle.rv_words.specs.Words.{AreAccepted}
use Rattle.rv_script.specs.declared.scripts.Script.{Script}
use Rattle.rv_script.specs.declared.scripts.ScriptFault.{ScriptFault}
use Rattle.rv_script.specs.declared.scripts.ScriptFault.TheVariants as faults
use Rattle.rv_model.specs.declared.entry.Entry.{Entry}
use Rattle.rv_believed.specs.History.{IsLegal}
use Rattle.rv_run.specs.declared.status.Over.TheVariants as over
use Rattle.rv_run.specs.declared.status.Status.{Status}
use Rattle.rv_run.specs.declared.status.Status.TheVariants as statuses
use Rattle.rv_run.specs.Script.{FailsToRead, HasFault, PassesLimit, Write, output}

-- This was written of the output of a legal history, which has such calls of the script.
pub record Performs (seed : Option ℕ) (Written : List ℕ → Type 0) (Has : List Entry → Script → Type 0) (script : Script)
    (history : List Entry) : Type 0 where
  pub legal : IsLegal history
  pub written : Written (output seed history)
  pub calls : Has history script

-- the statuses of a run whose script was performed
abbrev pub IsPerformed : Status → Type 0
IsPerformed statuses.Done = Unit {0}
IsPerformed statuses.Memory = Unit {0}
IsPerformed statuses.WriteFault = Unit {0}
IsPerformed status = ⊥

-- a fact of the script that the source told, where it tells
abbrev pub Told : Option (List ℕ) → (Script → Type 0) → Type 0
Told left P = IfSome left (λ bytes. Write bytes P)

-- Why there is no script to run, by the status that tells it.
abbrev pub Hinders : Option (List ℕ) → Option (List ℕ) → ℕ → ℕ → Status → Type 0
Hinders left after before now (statuses.Script fault) = HasFault left after fault
Hinders left after before now (statuses.Limit which) = PassesLimit left after which
Hinders left after before now statuses.ReadFault = FailsToRead left after before now
Hinders left after before now statuses.Memory = Unit {0}
Hinders left after before now status = ⊥

-- Why a run ends before it calls, by the status that tells it.
abbrev pub Stops : List (List ℕ) → Option (List ℕ) → Option (List ℕ) → ℕ → ℕ → Status → Type 0
Stops words left after before now statuses.Usage = AreAccepted words → ⊥
Stops words left after before now status = Hinders left after before now status

abbrev pub reading_status : ReadFault → Status
reading_status reading.Failed = statuses.ReadFault
reading_status reading.TooBig = statuses.Limit over.Bytes
reading_status reading.NoMemory = statuses.Memory

abbrev pub script_status : ScriptFault → Status
script_status (faults.NoSession line) = statuses.Script (faults.NoSession line)
script_status (faults.NotText offset) = statuses.Script (faults.NotText offset)
script_status (faults.TooLong line) = statuses.Limit (over.Line line)
script_status (faults.TooMany lines) = statuses.Limit over.Lines
script_status faults.NoMemory = statuses.Memory

-- all calls were made, or memory was refused
abbrev pub calls_status : Bool → Status
calls_status true = statuses.Done
calls_status false = statuses.Memory
