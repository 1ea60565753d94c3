-- The exit code of a status, its words on standard error, and the word that asks for a service.
use Rattle.std.specs.Prelude.{ℕ, List, [], ◌∷◌, ◌++◌, bytes_eq, codes, decimal, if◌then◌else◌, Option, Some, None}
use Rattle.rv_script.specs.declared.scripts.ScriptFault.{ScriptFault}
use Rattle.rv_script.specs.declared.scripts.ScriptFault.TheVariants as faults
use Rattle.rv_run.specs.declared.status.Over.{Over}
use Rattle.rv_run.specs.declared.status.Over.TheVariants.{Bytes, Lines, Line}
use Rattle.rv_run.specs.declared.status.Status.{Status}
use Rattle.rv_run.specs.declared.status.Status.TheVariants.{Done, Usage, Script, Limit, Memory, ReadFault, WriteFault}

abbrev pub status_code : Status → ℕ
status_code Done = 0
status_code Usage = 1
status_code (Script fault) = 2
status_code (Limit over) = 3
status_code Memory = 4
status_code ReadFault = 5
status_code WriteFault = 6

-- the words behind `--line`, where it is the first one
abbrev pub behind_line : List (List ℕ) → Option (List (List ℕ))
behind_line [] = None
behind_line (word ∷ words) = if bytes_eq word (codes "--line") then Some words else None

abbrev pub number_text : Option ℕ → List ℕ
number_text None = []
number_text (Some n) = decimal n

abbrev pub limit_words : Over → List ℕ
limit_words Bytes = codes "limit: script over 16777216 bytes"
limit_words Lines = codes "limit: script over 200000 lines"
limit_words (Line n) = codes "limit: line " ++ decimal n ++ codes " over 4096 bytes"

abbrev pub script_words : ScriptFault → List ℕ
script_words (faults.NoSession n) = codes "script: line " ++ decimal n ++ codes " has no session"
script_words (faults.NotText n) = codes "script: byte " ++ decimal n ++ codes " is not UTF-8"
script_words (faults.TooLong n) = limit_words (Line n)
script_words (faults.TooMany n) = limit_words Lines
script_words faults.NoMemory = codes "no memory"

abbrev pub status_words : Status → List ℕ
status_words Done = []
status_words Usage = codes "usage: rvdyn [--line] [--threads] [--workers W] [--judge N] [--steps K] [--gen SEED] [--race]"
status_words (Script fault) = script_words fault
status_words (Limit over) = limit_words over
status_words Memory = codes "no memory"
status_words ReadFault = codes "read fault"
status_words WriteFault = codes "write fault"
