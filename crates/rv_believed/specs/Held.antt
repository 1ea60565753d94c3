-- Believed (law): replies whose numbers the program's types hold, and that the transcript of a
-- legal history of such replies tells it.
use Rattle.std.specs.Prelude.{◌≡◌, ℕ, ◌<◌, ◌^◌, List}
use Rattle.std.specs.Int.Signed.{mag}
use Rattle.std.specs.List.{AllByRecursion}
use Rattle.rv_value.specs.declared.value.Value.{Value}
use Rattle.rv_value.specs.declared.value.Value.TheVariants.{Int}
use Rattle.rv_lang.specs.declared.reply.Rival.{Rival}
use Rattle.rv_lang.specs.declared.reply.Rival.TheVariants as rivals
use Rattle.rv_lang.specs.declared.reply.Refusal.{Refusal}
use Rattle.rv_lang.specs.declared.reply.Refusal.TheVariants as refusals
use Rattle.rv_lang.specs.declared.reply.Shown.{Shown}
use Rattle.rv_lang.specs.declared.reply.ShownEvent.{ShownEvent}
use Rattle.rv_lang.specs.declared.reply.ShownEvent.TheVariants as events
use Rattle.rv_lang.specs.declared.reply.Reply.{Reply}
use Rattle.rv_lang.specs.declared.reply.Reply.TheVariants as replies
use Rattle.rv_model.specs.declared.entry.Entry.{Entry}
use Rattle.rv_model.specs.Transcript.{AllSameButPhase, text}
use Rattle.rv_believed.specs.History.{IsLegal}
use Rattle.rv_believed.specs.Plain.{IsLineOfText}

-- a number of 64 bits
abbrev pub IsHeld : ℕ → Type 0
IsHeld n = n < 2 ^ 64

-- an integer of 64 bits with a sign
abbrev pub IsHeldValue : Value → Type 0
IsHeldValue (Int z) = mag z < 2 ^ 63
IsHeldValue v = Unit {0}

-- the number behind a rival, where one is shown
abbrev pub IsHeldRival : Rival → Type 0
IsHeldRival rivals.View = Unit {0}
IsHeldRival (rivals.Commit commit) = IsHeld commit
IsHeldRival (rivals.Txn txn) = IsHeld txn

-- the numbers that a refusal shows
abbrev pub IsHeldRefusal : Refusal → Type 0
IsHeldRefusal (refusals.Active txn) = IsHeld txn
IsHeldRefusal (refusals.Busy txn) = IsHeld txn
IsHeldRefusal (refusals.Changed row commit) = IsHeld row.0 × IsHeld commit
IsHeldRefusal (refusals.Held row txn) = IsHeld row.0 × IsHeld txn
IsHeldRefusal (refusals.Limit which n) = IsHeld n
IsHeldRefusal (refusals.Duplicate row by) = IsHeld row.0 × IsHeldRival by
IsHeldRefusal refusal = Unit {0}

-- how many keys a list has
abbrev pub IsHeldEvent : ShownEvent → Type 0
IsHeldEvent (events.List name keys) = IsHeld keys
IsHeldEvent event = Unit {0}

-- the numbers of a trace
pub record IsHeldTrace (shown : Shown) : Type 0 where
  pub events : AllByRecursion IsHeldEvent shown.events
  pub pages : IsHeld shown.pages
  pub leaves : IsHeld shown.leaves
  pub fetches : IsHeld shown.fetches

-- the numbers of a reply
abbrev pub IsHeldReply : Reply → Type 0
IsHeldReply (replies.Began n) = IsHeld n
IsHeldReply (replies.Inserted row) = IsHeld row.0
IsHeldReply (replies.Touched n) = IsHeld n
IsHeldReply (replies.Committed n) = IsHeld n
IsHeldReply (replies.Row values) = AllByRecursion IsHeldValue values
IsHeldReply (replies.Stepped n) = IsHeld n
IsHeldReply (replies.Trace shown) = IsHeldTrace shown
IsHeldReply (replies.Refused refusal) = IsHeldRefusal refusal
IsHeldReply reply = Unit {0}

-- a legal history of the program: texts are lines, and numbers are those of its types
pub record IsOfProgram (entries : List Entry) : Type 0 where
  pub legal : IsLegal entries
  pub lines : AllByRecursion (λ (e : Entry). IsLineOfText e.text) entries
  pub held : AllByRecursion (λ (e : Entry). IsHeldReply e.reply) entries

-- LAW: the transcript tells the history, but for its phases.
abbrev pub TranscriptTells : Type 0
TranscriptTells = (old new : List Entry) → IsOfProgram old → IsOfProgram new → text old ≡ text new
    → AllSameButPhase old new
