-- What the bytes of a script say: phases, each with the calls of its sessions, or the first fault.
use Rattle.std.specs.Prelude.{ℕ, ◌+◌, ◌-◌, ◌&&◌, ◌==◌, List, [], ◌∷◌, ◌++◌, Option, Some, None, Result, Ok, Err, nat_eq, nat_le, nat_lt, if◌then◌else◌, length}
use Rattle.std.specs.Str.Lines.{lines}
use Rattle.std.specs.Str.Lossy.{utf8_valid_len}
use Rattle.rv_script.specs.declared.scripts.Line.{Line}
use Rattle.rv_script.specs.declared.scripts.Phase.{Phase}
use Rattle.rv_script.specs.declared.scripts.Script.{Script}
use Rattle.rv_script.specs.declared.scripts.ScriptFault.{ScriptFault}
use Rattle.rv_script.specs.declared.scripts.ScriptFault.TheVariants as faults

-- ---- a line

-- what a line says: nothing, a session's next call, or the next phase, with a judge or without
pub data Saying : Type 0 where
  Nothing : Saying
  Call : Line → Saying
  Next : Option ℕ → Saying

-- `--` alone, or with a space and a judge's number from 0 to 2
abbrev pub mark_of : List ℕ → Option Saying
mark_of [] = Some (Next None)
mark_of (b ∷ j ∷ []) = if nat_eq b 32 && (nat_le 48 j && nat_le j 50)
    then Some (Next (Some (j - 48))) else None
mark_of _ = None

-- a digit from 1 to 8, one space, any text
abbrev pub call_of : List ℕ → Option Saying
call_of (s ∷ b ∷ text) = if nat_eq b 32 && (nat_le 49 s && nat_le s 56)
    then Some (Call (record { session = s - 48; text = text })) else None
call_of _ = None

-- a line that begins with two bytes is a mark or a call
abbrev pub mark_or_call : List ℕ → Option Saying
mark_or_call (a ∷ b ∷ bs) = if nat_eq a 45 && nat_eq b 45 then mark_of bs else call_of (a ∷ b ∷ bs)
mark_or_call _ = None

-- what a line of one of these forms says; an empty line and one that begins with `#` say nothing
abbrev pub says : List ℕ → Option Saying
says [] = Some Nothing
says (b ∷ bs) = if nat_eq b 35 then Some Nothing else mark_or_call (b ∷ bs)

-- ---- the first fault

-- what a line says, or the fault that the line of number n has no session
abbrev pub or_no_session : ℕ → Option Saying → Result Saying ScriptFault
or_no_session n (Some saying) = Ok saying
or_no_session n None = Err (faults.NoSession n)

-- what the line of number n says, or that it is one too many, is too long, or has no session
abbrev pub says_at : ℕ → List ℕ → Result Saying ScriptFault
says_at n line = if nat_lt 200000 n then Err (faults.TooMany 200000)
    else (if nat_lt 4096 (length line) then Err (faults.TooLong n)
    else or_no_session n (says line))

-- one saying before those that follow, or the first fault
abbrev pub saying_before : Result Saying ScriptFault
    → Result (List Saying) ScriptFault → Result (List Saying) ScriptFault
saying_before (Err fault) more = Err fault
saying_before (Ok saying) (Err fault) = Err fault
saying_before (Ok saying) (Ok more) = Ok (saying ∷ more)

-- what the lines say, the first of them having the number n, or the first fault
abbrev pub sayings_from : ℕ → List (List ℕ) → Result (List Saying) ScriptFault
sayings_from n [] = Ok []
sayings_from n (line ∷ more) = saying_before (says_at n line) (sayings_from (n + 1) more)

-- ---- phases

-- one call more at the front of the first phase
abbrev pub calls_before : List Line → List Phase → List Phase
calls_before calls [] = []
calls_before calls (p ∷ ps) = record { judge = p.judge; lines = calls ++ p.lines } ∷ ps

-- the phases that sayings give, the first of them having this judge
abbrev pub phases_of : Option ℕ → List Saying → List Phase
phases_of judge [] = record { judge = judge; lines = [] } ∷ []
phases_of judge (Nothing ∷ more) = phases_of judge more
phases_of judge ((Call line) ∷ more) = calls_before (line ∷ []) (phases_of judge more)
phases_of judge ((Next next) ∷ more) = record { judge = judge; lines = [] } ∷ phases_of next more

-- ---- the whole

-- the bytes behind a byte order mark, where one stands in front
abbrev pub without_byte_order_mark : List ℕ → List ℕ
without_byte_order_mark (a ∷ b ∷ c ∷ more) =
    if nat_eq a 0xEF && (nat_eq b 0xBB && nat_eq c 0xBF) then more else a ∷ b ∷ c ∷ more
without_byte_order_mark bytes = bytes

-- the script whose lines say this
abbrev pub script_said : Result (List Saying) ScriptFault → Result Script ScriptFault
script_said (Ok sayings) = Ok (record { phases = phases_of None sayings })
script_said (Err fault) = Err fault

-- THE SCRIPT OF UTF-8 BYTES: lines end with LF or CR LF, the last perhaps with neither
unfoldable pub script_of : List ℕ → Result Script ScriptFault
script_of bytes = if utf8_valid_len bytes == length bytes
    then script_said (sayings_from 1 (lines (without_byte_order_mark bytes)))
    else Err (faults.NotText (utf8_valid_len bytes))
