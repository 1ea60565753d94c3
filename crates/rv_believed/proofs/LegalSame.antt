-- Bridge: legal over the grammar and the believed names is legal by the working definitions, and back.
use Rattle.std.proofs.Common.{◌≡◌, ℕ, List, [], ◌∷◌, Option, Some, None, Result, refl, sym, ◌∙◌, subst}
use Rattle.rv_value.proofs.Tests.{no_some}
use Rattle.rv_lang.specs.declared.reply.Refusal.{Refusal}
use Rattle.rv_lang.specs.declared.statement.Statement.{Statement}
use Rattle.rv_parse.specs.Reading.{statement_of}
use Rattle.rv_catalog.specs.declared.def.Resolved.{Resolved}
use Rattle.rv_catalog.specs.Resolve.{resolved}
use Rattle.rv_model.specs.declared.entry.Entry.{Entry}
use Rattle.rv_model.specs.declared.state.State.{State}
use Rattle.rv_model.specs.Database.{empty}
use Rattle.rv_model.specs.Step.{Allows, next}
use Rattle.rv_model.specs.History as today
use Rattle.rv_model.specs.History.{after_from, stepped}
use Rattle.rv_believed.specs.Database.{Database}
use Rattle.rv_believed.specs.Grammar.{Says}
use Rattle.rv_believed.specs.History.{Answers, says, says_none, Leads, IsLegal}
use Rattle.rv_believed.specs.Standing.{IsSound, database}
use Rattle.rv_believed.specs.Step.{DoesAsked}
use Rattle.rv_believed.proofs.Texts.{SaysIsRead, ReadIsSaid}
use Rattle.rv_believed.proofs.Resolution.{resolution_same}
use Rattle.rv_believed.proofs.StepSame.{does_from, does_to}
use Rattle.rv_believed.proofs.TablesThere.{empty_sound, stepped_sound}

-- ---- from the working definitions

answer_by : SaysIsRead → ReadIsSaid → (s : State) (e : Entry) → IsSound s → (o : Option Statement) → statement_of e.text ≡ o
    → Allows s e.session o e.reply → Answers (database s) e (database (next s e.session o e.reply))
answer_by read said s e h None p allowed = says_none (λ statement g. no_some (sym p ∙ read e.text statement g)) allowed refl
answer_by read said s e h (Some statement) p allowed = says statement (said e.text statement p)
    (subst (λ (r : Result Resolved Refusal). DoesAsked (database s) e.session r e.reply (database (next s e.session (Some statement) e.reply)))
    (sym (resolution_same s.schema statement))
    (does_to (resolved s.schema statement) s e.session e.reply (database (next s e.session (Some statement) e.reply)) h (allowed, refl)))

leads_from : SaysIsRead → ReadIsSaid → (s : State) (phase : ℕ) (es : List Entry) → IsSound s → today.IsLegalFrom s phase es
    → Leads (database s) phase es (database (after_from s es))
leads_from read said s phase [] h legal = refl
leads_from read said s phase (e ∷ es) h legal = (
  database (stepped s e),
  record {
    from = legal.0.from;
    to = legal.0.to;
    phase = legal.0.phase;
    answer = answer_by read said s e h (statement_of e.text) refl legal.0.allowed;
  },
  leads_from read said (stepped s e) e.phase es (stepped_sound s e h) legal.1,
)

pub legal_from : SaysIsRead → ReadIsSaid → (entries : List Entry) → today.IsLegal entries → IsLegal entries
legal_from read said entries legal = (database (after_from empty entries), leads_from read said empty 0 entries empty_sound legal)

-- ---- and back

-- a reply that is allowed by what is read, and the database of the state that comes of it
abbrev Comes : State → Entry → Database → Option Statement → Type 0
Comes s e new o = Allows s e.session o e.reply × (new ≡ database (next s e.session o e.reply))

none_by : ReadIsSaid → (text : List ℕ) → ((statement : Statement) → Says text statement → ⊥) → (o : Option Statement)
    → statement_of text ≡ o → o ≡ None
none_by said text none None p = refl
none_by said text none (Some statement) p = absurd (none statement (said text statement p))

answered : SaysIsRead → ReadIsSaid → (s : State) (e : Entry) (new : Database) → IsSound s → Answers (database s) e new → Comes s e new (statement_of e.text)
answered read said s e new g (says statement h does) = subst (Comes s e new) (sym (read e.text statement h))
    (let works = does_from (resolved s.schema statement) s e.session e.reply new g
    (subst (λ (r : Result Resolved Refusal). DoesAsked (database s) e.session r e.reply new) (resolution_same s.schema statement) does) in
    (works.0, works.1))
answered read said s e new g (says_none none refused same) = subst (Comes s e new) (sym (none_by said e.text none (statement_of e.text) refl)) (refused, same)

legal_on : SaysIsRead → ReadIsSaid → (s : State) (phase : ℕ) (es : List Entry) (last : Database) → IsSound s → Leads (database s) phase es last
    → today.IsLegalFrom s phase es
legal_on read said s phase [] last h leads = tt
legal_on read said s phase (e ∷ es) last h leads =
    let comes = answered read said s e leads.0 h leads.1.answer in (
      record { from = leads.1.from; to = leads.1.to; phase = leads.1.phase; allowed = comes.0 },
      legal_on read said (stepped s e) e.phase es last (stepped_sound s e h) (subst (λ (d : Database). Leads d e.phase es last) comes.1 leads.2),
    )

pub legal_to : SaysIsRead → ReadIsSaid → (entries : List Entry) → IsLegal entries → today.IsLegal entries
legal_to read said entries legal = legal_on read said empty 0 entries legal.0 empty_sound legal.1
