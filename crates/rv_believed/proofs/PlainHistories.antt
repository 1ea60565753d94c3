-- Every entry of a legal history whose text is a line is plain.
use Rattle.std.proofs.Common.{◌≡◌, ℕ, List, [], ◌∷◌, Result, sym, subst}
use Rattle.std.specs.List.{AllByRecursion}
use Rattle.rv_lang.specs.declared.reply.Refusal.{Refusal}
use Rattle.rv_catalog.specs.declared.def.Resolved.{Resolved}
use Rattle.rv_model.specs.declared.entry.Entry.{Entry}
use Rattle.rv_model.specs.declared.state.State.{State}
use Rattle.rv_model.specs.Database.{empty}
use Rattle.rv_model.specs.Step.{next_asked}
use Rattle.rv_believed.specs.Database.{Database}
use Rattle.rv_believed.specs.History.{Answers, says, says_none, Leads}
use Rattle.rv_believed.specs.Names.{resolution}
use Rattle.rv_believed.specs.Plain.{IsLineOfText, IsPlain, IsPlainReply, LegalIsPlain}
use Rattle.rv_believed.proofs.PlainNames.{resolution_comes}
use Rattle.rv_believed.proofs.PlainSteps.{IsPlainState, step_keeps}
use Rattle.rv_believed.proofs.PlainTexts.{says_plain}
use Rattle.rv_believed.specs.Standing.{IsSound, database}
use Rattle.rv_believed.proofs.TablesThere.{empty_sound, next_sound, resolution_gives}
use Rattle.rv_believed.proofs.StepSame.{does_from}

-- a plain reply, and a sound and plain state for whose database that after it stands
abbrev Keeps : Entry → Database → Type 0
Keeps e new = IsPlainReply e.reply × ((t : State) × (new ≡ database t) × IsSound t × IsPlainState t)

answer_keeps : (s : State) (e : Entry) (new : Database) → IsSound s → IsPlainState s → Answers (database s) e new → Keeps e new
answer_keeps s e new o h (says statement said does) =
    let asks : Result Resolved Refusal = resolution s.schema.tables s.schema.indexes statement in
    let works = does_from asks s e.session e.reply new o does in
    let kept = step_keeps asks s e.session e.reply h
    (resolution_comes s.schema.tables s.schema.indexes h.tables statement (says_plain e.text statement said)) works.0 in
    (kept.0, (next_asked asks s e.session e.reply, works.1, next_sound asks s e.session e.reply (resolution_gives s.schema statement) o, kept.1))
answer_keeps s e new o h (says_none none refused same) = (subst IsPlainReply (sym refused) tt, (s, same, o, h))

leads_plain : (s : State) (phase : ℕ) (es : List Entry) (last : Database) → IsSound s → IsPlainState s → Leads (database s) phase es last
    → AllByRecursion (λ (e : Entry). IsLineOfText e.text) es → AllByRecursion IsPlain es
leads_plain s phase [] last o h leads lines = tt
leads_plain s phase (e ∷ es) last o h leads lines =
    let kept = answer_keeps s e leads.0 o h leads.1.answer in (
      record { from = leads.1.from; to = leads.1.to; asked = lines.0; answered = kept.0 },
      leads_plain kept.1.0 e.phase es last kept.1.2 kept.1.3 (subst (λ (d : Database). Leads d e.phase es last) kept.1.1 leads.2) lines.1,
    )

pub plain_entries : LegalIsPlain
plain_entries entries legal lines = leads_plain empty 0 entries legal.0 empty_sound
    (record { tables = tt; indexes = tt; rows = tt; active = tt; bases = tt; cursors = tt }) legal.1 lines
