-- How runs end.
use Rattle.std.proofs.Common.{◌≡◌, ◌≢◌, ◌⊎◌, inl, inr, true, false, ◌≤◌, arith, ℕ, length, List, [], ◌++◌, refl, sym, ap, ◌∙◌, subst, append-nil, Bool, Option, Some, None, Result, Ok, Err, IfSome, IsOkAnd, IsSomeAnd, OnOk}
use Rattle.std.specs.Prelude.{is_ok}
use Rattle.rv_io.proofs.Streams.{consumes_none}
use Rattle.rv_io.specs.Pieces.{TakesAll, TakesUpTo}
use Rattle.rv_value.specs.declared.duplicate.NoMemory.{NoMemory}
use Rattle.rv_script.specs.declared.scripts.Script.{Script}
use Rattle.rv_script.specs.declared.scripts.ScriptFault.{ScriptFault}
use Rattle.rv_script.specs.declared.scripts.ScriptFault.TheVariants as faults
use Rattle.rv_script.specs.Drafts.{FaultIs}
use Rattle.rv_script.specs.Script.{script_of}
use Rattle.rv_run.specs.declared.status.Status.{Status}
use Rattle.rv_run.specs.declared.status.Status.TheVariants as statuses
use Rattle.rv_core.specs.Core.{Shown}
use Rattle.rv_model.specs.declared.entry.Entry.{Entry}
use Rattle.rv_run.specs.Script.{HasFirst, HasTooMany, ReadsAll, Runs, Write, Writes}
use Rattle.rv_run.specs.Performing.{Hinders, Performs, Stops, Told, script_status}

-- where nothing was taken
pub takes_none : (left : Option (List ℕ)) (most : ℕ) → TakesUpTo left left most
takes_none left most = record { bytes = []; taken = consumes_none left; few = omega arith }

-- the bytes that were taken are those that were told
pub told : (left after : Option (List ℕ)) (bytes : List ℕ) → TakesAll left after bytes → IfSome left (λ xs. xs ≡ bytes)
told None after bytes t = tt
told (Some xs) None bytes t = absurd t.taken
told (Some xs) (Some ys) bytes t =
    let none : ys ≡ [] = t.end in
    t.taken ∙ ap (λ (zs : List ℕ). bytes ++ zs) none ∙ append-nil bytes

pub of_told : (left : Option (List ℕ)) (bytes : List ℕ) (P : List ℕ → Type 0) → IfSome left (λ xs. xs ≡ bytes) → P bytes → IfSome left P
of_told None bytes P e p = tt
of_told (Some xs) bytes P e p = subst P (sym e) p

all_of : (left after : Option (List ℕ)) (bytes : List ℕ) (P : List ℕ → Type 0) → TakesAll left after bytes → P bytes → ReadsAll left after P
all_of left after bytes P taken p = record { end = taken.end; told = of_told left bytes P (told left after bytes taken) p }

-- a script's fault hinders the run by its status
pub hinders : (fault : ScriptFault) (left after : Option (List ℕ)) (bytes : List ℕ) (before now : ℕ) → length bytes ≤ 16777216 → FaultIs fault (script_of bytes) → TakesAll left after bytes → Hinders left after before now (script_status fault)
hinders (faults.NoSession line) left after bytes before now few said taken = record { kind = tt; whole = all_of left after bytes (λ xs. HasFirst xs (faults.NoSession line)) taken (record { few = few; first = said }) }
hinders (faults.NotText offset) left after bytes before now few said taken = record { kind = tt; whole = all_of left after bytes (λ xs. HasFirst xs (faults.NotText offset)) taken (record { few = few; first = said }) }
hinders (faults.TooLong line) left after bytes before now few said taken = all_of left after bytes (λ xs. HasFirst xs (faults.TooLong line)) taken (record { few = few; first = said })
hinders (faults.TooMany lines) left after bytes before now few said taken = all_of left after bytes HasTooMany taken (record { lines = lines; first = record { few = few; first = said } })
hinders faults.NoMemory left after bytes before now few said taken = tt

-- what hinders a run stops it
pub stops_of : (words : List (List ℕ)) (left after : Option (List ℕ)) (before now : ℕ) (status : Status) → Hinders left after before now status → Stops words left after before now status
stops_of words left after before now statuses.Done h = h
stops_of words left after before now statuses.Usage h = absurd h
stops_of words left after before now (statuses.Script fault) h = h
stops_of words left after before now (statuses.Limit which) h = h
stops_of words left after before now statuses.Memory h = h
stops_of words left after before now statuses.ReadFault h = h
stops_of words left after before now statuses.WriteFault h = h

-- the script that the bytes taken write is the one that the source told
pub told_script : (left after : Option (List ℕ)) (bytes : List ℕ) (script : Script) → length bytes ≤ 16777216 → TakesAll left after bytes → script_of bytes ≡ Ok script → Told left (λ told. told ≡ script)
told_script left after bytes script few taken is = of_told left bytes (λ xs. Write xs (λ told. told ≡ script)) (told left after bytes taken) (record { few = few; script = rw is refl })

-- what holds of the script that is run
told_of : (left : Option (List ℕ)) (script : Script) (P : Script → Type 0) → Told left (λ told. told ≡ script) → P script → Told left P
told_of None script P is p = tt
told_of (Some bytes) script P is p = record { few = is.few; script = ok_of (script_of bytes) script P is.script p }
  where
    ok_of : (said : Result Script ScriptFault) (script : Script) (P : Script → Type 0) → IsOkAnd said (λ told. told ≡ script) → P script → IsOkAnd said P
    ok_of (Ok s) script P is p = subst P (sym is) p
    ok_of (Err f) script P is p = absurd is

pub runs_of : (seed : Option ℕ) (left : Option (List ℕ)) (script : Script) (P : Script → Type 0) → Runs seed left (λ told. told ≡ script) → P script → Runs seed left P
runs_of None left script P is p = told_of left script P is p
runs_of (Some seed) left script P is p = subst P (sym is) p

-- what a performed script wrote, by the script that is run

pub performs_writes : {X : Type 0} (core : Option X) (history : X → List Entry) (seed : Option ℕ) (left : Option (List ℕ)) (Written : List ℕ → Type 0) (Has : List Entry → Script → Type 0) (script : Script) → Runs seed left (λ told. told ≡ script)
    → IsSomeAnd core (λ c. Performs seed Written Has script (history c)) → IsSomeAnd core (λ c. Writes seed left Written Has (history c))
performs_writes None history seed left Written Has script is p = p
performs_writes (Some c) history seed left Written Has script is p = record { legal = p.legal; written = p.written; calls = runs_of seed left script (Has (history c)) is p.calls }

pub some_if : {X : Type 0} (o : Option X) (P : X → Type 0) → IsSomeAnd o P → IfSome o P
some_if None P p = tt
some_if (Some x) P p = p

-- what holds where all calls were made
pub called_performs : (r : Result (Unit {0}) NoMemory) (called : Bool) (P : Type 0) → OnOk r P → called ≡ is_ok r → called ≡ true → P
called_performs (Ok u) called P p c t = p
called_performs (Err fault) called P p c t = let wrong : true ≡ false = sym t ∙ c in cc

pub not_write : (status : Status) → (status ≡ statuses.Done) ⊎ (status ≡ statuses.Memory) → status ≢ statuses.WriteFault
not_write status (inl d) = λ w. let wrong : statuses.Done ≡ statuses.WriteFault = sym d ∙ w in cc
not_write status (inr m) = λ w. let wrong : statuses.Memory ≡ statuses.WriteFault = sym m ∙ w in cc

-- what holds of the script that was performed holds of the one that is run
pub runs_so : {X S : Type 0} (core : Option X) (shown : X → Shown S) (P : Shown S → Script → Type 0) (seed : Option ℕ) (left : Option (List ℕ)) (script : Script) → Runs seed left (λ told. told ≡ script) → IsSomeAnd core (λ c. P (shown c) script) → IsSomeAnd core (λ c. Runs seed left (P (shown c)))
runs_so None shown P seed left script is p = p
runs_so (Some c) shown P seed left script is p = runs_of seed left script (P (shown c)) is p
