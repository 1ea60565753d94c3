-- Where each session stands in the calls of a script, and what an entry makes of it.
use Rattle.std.specs.Prelude.{◌≡◌, ℕ, ◌+◌, ◌-◌, ◌≤◌, ◌<◌, List, [], ◌∷◌, ◌++◌, Bool, true, Option, Some, None, Result, Ok, Err, nat_lt, if◌then◌else◌, length, drop, take, slice_get, slice_index}
use Rattle.std.specs.List.{list_all, AllByRecursion}
use Rattle.rv_value.specs.declared.duplicate.NoMemory.{NoMemory}
use Rattle.rv_script.specs.declared.scripts.Phase.{Phase}
use Rattle.rv_script.specs.declared.scripts.ScriptFault.{ScriptFault}
use Rattle.rv_script.specs.declared.scripts.ScriptFault.TheVariants as faults
use Rattle.rv_model.specs.declared.entry.Entry.{Entry}
use Rattle.rv_model.specs.Transcript.{AllSameButPhase}
use Rattle.rv_believed.specs.History.{IsLegal}
use Rattle.rv_replay.specs.declared.following.Replayed.{Replayed}
use Rattle.rv_replay.specs.declared.following.Replayed.TheVariants as replayed
use Rattle.rv_audit.specs.declared.auditing.Audited.{Audited}
use Rattle.rv_audit.specs.declared.auditing.Audited.TheVariants as audited
use Rattle.rv_audit.specs.declared.calls.Call.{Call}
use Rattle.rv_audit.specs.declared.following.End.{End}
use Rattle.rv_audit.specs.declared.following.End.TheVariants as ends
use Rattle.rv_audit.specs.declared.following.Followed.{Followed}
use Rattle.rv_audit.specs.declared.following.Left.{Left}
use Rattle.rv_audit.specs.Calls.{calls_by, calls_from, waits_at}
use Rattle.rv_audit.specs.Following.{Follows, HasAll, IsFirstMissing}

pub record StandsAt (calls : List Call) (session at : ℕ) : Type 0 where
  pub within : at ≤ length calls
  pub here : (c : Call) → slice_get calls at ≡ Some c → c.session ≡ session

-- each session, of 1 to 8, has its place: that of its next call, or the end
pub record Stands (calls : List Call) (places : List ℕ) : Type 0 where
  pub eight : length places ≡ 8
  pub each : (session : ℕ) → 1 ≤ session → session ≤ 8 → StandsAt calls session (slice_index places (session - 1))

-- the calls that a session has left
abbrev pub left_at : List Call → List ℕ → ℕ → List Call
left_at calls places session = calls_by session (drop (slice_index places (session - 1)) calls)

abbrev pub asks : ℕ → ℕ → List ℕ → Call
asks phase session text = record { phase = phase; session = session; text = text }

-- no session has a call left of a phase before this one
abbrev pub all_wait : List Call → List ℕ → ℕ → Bool
all_wait calls places phase = list_all (λ at. waits_at calls phase at) places

-- a session's next call has this text and this phase, and is made
pub record Makes (calls : List Call) (old : List ℕ) (session : ℕ) (text : List ℕ) (phase : ℕ)
    (new : List ℕ) : Type 0 where
  pub stands : Stands calls new
  pub next : left_at calls old session ≡ asks phase session text ∷ left_at calls new session
  pub others : (s : ℕ) → 1 ≤ s → ¬ (s ≡ session) → left_at calls new s ≡ left_at calls old s
  pub waits : all_wait calls old phase ≡ true

-- no such call can be made
pub record Refuses (calls : List Call) (places : List ℕ) (session : ℕ) (text : List ℕ) : Type 0 where
  pub none : (phase : ℕ) (more : List Call) → left_at calls places session ≡ asks phase session text ∷ more
      → all_wait calls places phase ≡ true → ⊥

abbrev pub Takes : List Call → List ℕ → ℕ → List ℕ → Option ℕ → List ℕ → Type 0
Takes calls old session text None new = Refuses calls old session text × (new ≡ old)
Takes calls old session text (Some phase) new = Makes calls old session text phase new

-- sessions are 1 to 8
abbrev pub AreSessions : List Entry → Type 0
AreSessions entries = AllByRecursion (λ (e : Entry). (1 ≤ e.session) × (e.session ≤ 8)) entries

-- every front of the history follows the script
abbrev pub FrontsFollow : List Phase → List Entry → Type 0
FrontsFollow phases history = (k : ℕ) → Follows phases (take k history)

-- the script leaves no choice of phases
abbrev pub ArePhasesOf : List Phase → List Entry → Type 0
ArePhasesOf phases history =
    (k : ℕ) (other : List Entry) → AllSameButPhase (take k history) other → IsLegal other → Follows phases other
    → other ≡ take k history

-- with no phases the entries are a legal history that follows the script
abbrev pub GoesNoFurther : List Phase → List Entry → Type 0
GoesNoFurther phases entries =
    (history : List Entry) → AllSameButPhase entries history → IsLegal history → Follows phases history → ⊥

-- the entries stop at one with which they go no further
pub record IsStuck (phases : List Phase) (entries history : List Entry) : Type 0 where
  pub passed : List Entry
  pub next : Entry
  pub more : List Entry
  pub is : entries ≡ passed ++ next ∷ more
  pub same : AllSameButPhase passed history
  pub no_further : GoesNoFurther phases (passed ++ next ∷ [])

-- how entries follow a script, as far as they do
abbrev pub EndsSo : List Phase → List Entry → List Entry → End → Type 0
EndsSo phases entries history ends.Whole = AllSameButPhase entries history × HasAll phases history
EndsSo phases entries history (ends.Missing session phase) =
    AllSameButPhase entries history × IsFirstMissing phases history session phase
EndsSo phases entries history ends.Bad = IsStuck phases entries history

-- no text is longer than those of the script
abbrev pub AreNoLonger : List Phase → List Entry → Type 0
AreNoLonger phases history =
    (most : ℕ) → AllByRecursion (λ (c : Call). length c.text ≤ most) (calls_from 1 phases)
    → AllByRecursion (λ (e : Entry). length e.text ≤ most) history

pub record FollowsSo (phases : List Phase) (entries : List Entry) (followed : Followed) : Type 0 where
  pub fronts : FrontsFollow phases followed.entries.items
  pub only : ArePhasesOf phases followed.entries.items
  pub no_longer : AreNoLonger phases followed.entries.items
  pub end : EndsSo phases entries followed.entries.items followed.end

-- among the first sessions the lowest phase of which a call is left, and in it the lowest session
pub record IsLowestOf (calls : List Call) (places : List ℕ) (n session phase : ℕ) : Type 0 where
  pub from : 1 ≤ session
  pub to : session ≤ n
  pub next : Call
  pub here : slice_get calls (slice_index places (session - 1)) ≡ Some next
  pub is : next.phase ≡ phase
  pub others : (s : ℕ) → 1 ≤ s → s ≤ n → waits_at calls phase (slice_index places (s - 1)) ≡ true
  pub lower : (s : ℕ) → 1 ≤ s → s < session → waits_at calls (phase + 1) (slice_index places (s - 1)) ≡ true

abbrev pub LowestUpTo : List Call → List ℕ → ℕ → Option Left → Type 0
LowestUpTo calls places n None = (s : ℕ) → 1 ≤ s → s ≤ n → slice_get calls (slice_index places (s - 1)) ≡ None
LowestUpTo calls places n (Some left) = IsLowestOf calls places n left.session left.phase

-- the lower one of a call that is left and a session's next call
abbrev pub lower_of : Option Left → ℕ → Option Call → Option Left
lower_of lowest session None = lowest
lower_of None session (Some c) = Some (record { session = session; phase = c.phase })
lower_of (Some left) session (Some c) =
    if nat_lt c.phase left.phase then Some (record { session = session; phase = c.phase }) else Some left

abbrev pub EndsAt : List Call → List ℕ → End → Type 0
EndsAt calls places ends.Whole = LowestUpTo calls places 8 None
EndsAt calls places (ends.Missing session phase) = IsLowestOf calls places 8 session phase
EndsAt calls places ends.Bad = ⊥

-- each session stands at its first call
abbrev pub StartsAt : List Call → List ℕ → Type 0
StartsAt calls places =
    (session : ℕ) → 1 ≤ session → session ≤ 8 → left_at calls places session ≡ calls_by session calls

-- entry n, from 1, is the first up to which the entries are no legal history
pub record BreaksAt (entries : List Entry) (n : ℕ) : Type 0 where
  pub from : 1 ≤ n
  pub to : n ≤ length entries
  pub before : IsLegal (take (n - 1) entries)
  pub breaks : ¬ (IsLegal (take n entries))

-- what a replay says of entries
abbrev pub ReplaysSo : List Entry → Replayed → Type 0
ReplaysSo entries replayed.Legal = IsLegal entries
ReplaysSo entries (replayed.Broken n) = BreaksAt entries n

-- what is told of a script's fault: that memory was refused is none
abbrev pub FaultTold : ScriptFault → Result Audited NoMemory → Type 0
FaultTold fault (Ok answer) = (answer ≡ audited.Script fault) × (¬ (fault ≡ faults.NoMemory))
FaultTold fault (Err memory) = Unit {0}

-- what is told of entries that are legal, of which so many follow a script
abbrev pub end_told : End → ℕ → Audited
end_told ends.Whole n = audited.Legal n
end_told (ends.Missing session phase) n = audited.Missing session phase
end_told ends.Bad n = audited.BadEntry (n + 1)
