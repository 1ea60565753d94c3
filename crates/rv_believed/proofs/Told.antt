-- Plain entries whose numbers are held are plain by the working definition, so the transcript tells them.
use Rattle.std.proofs.Common.{List, [], ◌∷◌}
use Rattle.std.specs.List.{AllByRecursion}
use Rattle.rv_value.specs.declared.value.Value.{Value}
use Rattle.rv_value.specs.declared.value.Value.TheVariants.{Null, Int, Str}
use Rattle.rv_lang.specs.declared.reply.Rival.{Rival}
use Rattle.rv_lang.specs.declared.reply.Rival.TheVariants as rivals
use Rattle.rv_lang.specs.declared.reply.Refusal.{Refusal}
use Rattle.rv_lang.specs.declared.reply.Refusal.TheVariants as refusals
use Rattle.rv_lang.specs.declared.reply.ShownEvent.{ShownEvent}
use Rattle.rv_lang.specs.declared.reply.ShownEvent.TheVariants as events
use Rattle.rv_lang.specs.declared.reply.Reply.{Reply}
use Rattle.rv_lang.specs.declared.reply.Reply.TheVariants as replies
use Rattle.rv_model.specs.declared.entry.Entry.{Entry}
use Rattle.rv_model.specs.Transcript as working
use Rattle.rv_model.specs.Transcript.{text}
use Rattle.rv_believed.specs.Held.{IsHeldValue, IsHeldRival, IsHeldRefusal, IsHeldEvent, IsHeldReply, IsOfProgram, TranscriptTells}
use Rattle.rv_believed.specs.Plain.{IsPlain, IsPlainEvent, IsPlainRefusal, IsPlainReply, IsPlainValue}
use Rattle.rv_believed.proofs.PlainHistories.{plain_entries}

value_works : (v : Value) → IsPlainValue v → IsHeldValue v → working.IsPlainValue v
value_works Null p h = tt
value_works (Int z) p h = h
value_works (Str t) p h = p

values_work : (vs : List Value) → AllByRecursion IsPlainValue vs → AllByRecursion IsHeldValue vs → AllByRecursion working.IsPlainValue vs
values_work [] p h = tt
values_work (v ∷ vs) p h = (value_works v p.0 h.0, values_work vs p.1 h.1)

rival_works : (by : Rival) → IsHeldRival by → working.IsPlainRival by
rival_works rivals.View h = tt
rival_works (rivals.Commit commit) h = h
rival_works (rivals.Txn txn) h = h

refusal_works : (r : Refusal) → IsPlainRefusal r → IsHeldRefusal r → working.IsPlainRefusal r
refusal_works refusals.Syntax p h = tt
refusal_works (refusals.Unknown name) p h = p
refusal_works (refusals.Exists name) p h = p
refusal_works (refusals.Kind name) p h = p
refusal_works (refusals.Active txn) p h = h
refusal_works refusals.NoTransaction p h = tt
refusal_works (refusals.Busy txn) p h = h
refusal_works refusals.ReadOnly p h = tt
refusal_works (refusals.Changed row commit) p h = (h.0, h.1)
refusal_works (refusals.Held row txn) p h = (h.0, h.1)
refusal_works (refusals.NoCursor name) p h = p
refusal_works (refusals.CursorOpen name) p h = p
refusal_works (refusals.Limit which n) p h = h
refusal_works (refusals.Duplicate row by) p h = (h.0, rival_works by h.1)

event_works : (e : ShownEvent) → IsPlainEvent e → IsHeldEvent e → working.IsPlainEvent e
event_works (events.At control) p h = tt
event_works (events.Scan name) p h = p
event_works (events.List name keys) p h = (p, h)
event_works (events.Drop name) p h = p
event_works events.Full p h = tt
event_works events.Stop p h = tt

events_work : (es : List ShownEvent) → AllByRecursion IsPlainEvent es → AllByRecursion IsHeldEvent es → AllByRecursion working.IsPlainEvent es
events_work [] p h = tt
events_work (e ∷ es) p h = (event_works e p.0 h.0, events_work es p.1 h.1)

reply_works : (r : Reply) → IsPlainReply r → IsHeldReply r → working.IsPlainReply r
reply_works replies.Created p h = tt
reply_works (replies.Began n) p h = h
reply_works (replies.Inserted row) p h = h
reply_works (replies.Touched n) p h = h
reply_works (replies.Committed n) p h = h
reply_works replies.RolledBack p h = tt
reply_works replies.Opened p h = tt
reply_works (replies.Row values) p h = values_work values p h
reply_works replies.End p h = tt
reply_works replies.Closed p h = tt
reply_works (replies.Stepped n) p h = h
reply_works (replies.Trace shown) p h = record { events = events_work shown.events p h.events; pages = h.pages; leaves = h.leaves; fetches = h.fetches }
reply_works (replies.Refused refusal) p h = refusal_works refusal p h

entries_work : (es : List Entry) → AllByRecursion IsPlain es → AllByRecursion (λ (e : Entry). IsHeldReply e.reply) es → AllByRecursion working.IsPlain es
entries_work [] p h = tt
entries_work (e ∷ es) p h = (record { from = p.0.from; to = p.0.to; asked = p.0.asked.line; answered = reply_works e.reply p.0.answered h.0 }, entries_work es p.1 h.1)

pub program_works : (es : List Entry) → IsOfProgram es → AllByRecursion working.IsPlain es
program_works es is = entries_work es (plain_entries es is.legal is.lines) is.held

pub transcript_tells : working.TextTells → TranscriptTells
transcript_tells tells old new is_old is_new same = tells old new (program_works old is_old) (program_works new is_new) same
