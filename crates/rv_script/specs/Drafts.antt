-- What the reader's functions answer, and what is read of a script so far.
use Rattle.std.specs.Prelude.{◌≡◌, List, [], ◌∷◌, ◌++◌, Result, Ok, Err}
use Rattle.rv_script.specs.declared.scripts.Form.{Form}
use Rattle.rv_script.specs.declared.scripts.Form.TheVariants as forms
use Rattle.rv_script.specs.declared.scripts.Draft.{Draft}
use Rattle.rv_script.specs.declared.scripts.Script.{Script}
use Rattle.rv_script.specs.declared.scripts.ScriptFault.{ScriptFault}
use Rattle.rv_script.specs.declared.scripts.ScriptFault.TheVariants as faults
use Rattle.rv_script.specs.Script.{Saying, Nothing, Call, Next, calls_before, phases_of}

abbrev pub said_by : Form → Saying
said_by forms.Nothing = Nothing
said_by (forms.Call session text) = Call (record { session = session; text = text.now })
said_by (forms.Next judge) = Next judge

abbrev pub FaultIs : {Y : Type 0} → ScriptFault → Result Y ScriptFault → Type 0
FaultIs faults.NoMemory said = Unit {0}
FaultIs (faults.NoSession line) said = said ≡ Err (faults.NoSession line)
FaultIs (faults.NotText offset) said = said ≡ Err (faults.NotText offset)
FaultIs (faults.TooLong line) said = said ≡ Err (faults.TooLong line)
FaultIs (faults.TooMany lines) said = said ≡ Err (faults.TooMany lines)

-- what is answered is what is said, unless memory ran out
abbrev pub Gives : {X Y : Type 0} → (X → Y) → Result X ScriptFault → Result Y ScriptFault → Type 0
Gives view (Ok x) said = said ≡ Ok (view x)
Gives view (Err fault) said = FaultIs fault said

-- one saying more
abbrev pub added : Draft → Saying → Draft
added draft Nothing = draft
added draft (Call line) = record { over = draft.over; judge = draft.judge; calls = draft.calls ++ line ∷ [] }
added draft (Next judge) =
    record { over = draft.over ++ record { judge = draft.judge; lines = draft.calls } ∷ []; judge = judge; calls = [] }

abbrev pub added_if : Draft → Result Saying ScriptFault → Result Draft ScriptFault
added_if draft (Ok saying) = Ok (added draft saying)
added_if draft (Err fault) = Err fault

-- the whole script, where these sayings follow
abbrev pub drafted : Draft → Result (List Saying) ScriptFault → Result Script ScriptFault
drafted draft (Ok sayings) =
    Ok (record { phases = draft.over ++ calls_before draft.calls (phases_of draft.judge sayings) })
drafted draft (Err fault) = Err fault
