-- Whether SHOW may tell a trace.
use Rattle.std.proofs.Common.{◌≡◌, ◌↔◌, ℕ, List, Bool, false, refl, sym, ap, ◌∙◌, subst, Some, None}
use Rattle.std.specs.Bool.{IsTrue}
use Rattle.std.proofs.lemmas.Option.{same_Some}
use Rattle.rv_value.proofs.Tests.{no_way}
use Rattle.rv_judge.specs.declared.events.Strategy.{Strategy}
use Rattle.rv_judge.specs.declared.events.Event.{Event}
use Rattle.rv_judge.specs.declared.events.Trace.{Trace}
use Rattle.rv_judge.specs.Runs.{Allowed}
use Rattle.rv_judge.proofs.Allowing.{retold}
use Rattle.rv_lang.specs.declared.reply.Shown.{Shown}
use Rattle.rv_catalog.specs.declared.def.IndexDef.{IndexDef}
use Rattle.rv_model.specs.Showing.{ShowsTrace, numbers_over}
use Rattle.rv_decide.specs.Told.{trace_of}
use Rattle.rv_decide.proofs.Deciding.{decides}
use Rattle.rv_decide.specs.Naming.{AreNamedApart}
use Rattle.rv_decide.specs.Reading.{events_of}
use Rattle.rv_decide.proofs.Known.{events_known}
use Rattle.rv_decide.proofs.Names.{read_all, shown_all}

-- what a trace has read does not matter
told : (t : Trace) (indexes : List ℕ) → Allowed t indexes → Allowed (trace_of t.strategy t.events.items) indexes
told t indexes a = retold t (trace_of t.strategy t.events.items) indexes refl refl a

untold : (t : Trace) (indexes : List ℕ) → Allowed (trace_of t.strategy t.events.items) indexes → Allowed t indexes
untold t indexes a = retold (trace_of t.strategy t.events.items) t indexes refl refl a

-- the events of a trace that may be told are found
found : (indexes : List IndexDef) (table : ℕ) (shown : Shown) → AreNamedApart indexes → (t : ShowsTrace indexes table shown) → events_of indexes table shown.events ≡ Some t.trace.events.items
found indexes table shown apart t =
    let read = (decides _ t.trace.strategy t.trace.events.items (numbers_over table 0 indexes) refl).1 (told t.trace (numbers_over table 0 indexes) t.allowed) in
    let known = events_known (numbers_over table 0 indexes) t.trace.strategy t.trace.events.items read in
    ap (λ (s : Shown). events_of indexes table s.events) t.names ∙ read_all indexes table t.trace.events.items apart known

pub may : (b : Bool) (indexes : List IndexDef) (table : ℕ) (shown : Shown) (numbers : List ℕ) (es : List Event) → AreNamedApart indexes → numbers ≡ numbers_over table 0 indexes → events_of indexes table shown.events ≡ Some es → IsTrue b ↔ Allowed (trace_of shown.strategy es) numbers → IsTrue b ↔ ShowsTrace indexes table shown
may b indexes table shown numbers es apart are read tells = ((λ (h : IsTrue b). shows (tells.0 h)), (λ (t : ShowsTrace indexes table shown). tells.1 (allows t)))
  where
    shows : Allowed (trace_of shown.strategy es) numbers → ShowsTrace indexes table shown
    shows a = record {
      trace = record { strategy = shown.strategy; events = record { items = es }; pages = shown.pages; leaves = shown.leaves; fetches = shown.fetches };
      allowed = untold (record { strategy = shown.strategy; events = record { items = es }; pages = shown.pages; leaves = shown.leaves; fetches = shown.fetches }) (numbers_over table 0 indexes) (subst (λ xs. Allowed (trace_of shown.strategy es) xs) are a);
      names = ap (λ xs. record shown { events = xs }) (sym (shown_all indexes table shown.events es read));
    }

    allows : ShowsTrace indexes table shown → Allowed (trace_of shown.strategy es) numbers
    allows t =
        let strategy : t.trace.strategy ≡ shown.strategy = sym (ap (λ (s : Shown). s.strategy) t.names) in
        let items : t.trace.events.items ≡ es = same_Some _ _ (sym (found indexes table shown apart t) ∙ read) in
        let a = told t.trace (numbers_over table 0 indexes) t.allowed in
        subst (λ xs. Allowed (trace_of shown.strategy es) xs) (sym are)
        (subst (λ (s : Strategy). Allowed (trace_of s es) (numbers_over table 0 indexes)) strategy
        (subst (λ xs. Allowed (trace_of t.trace.strategy xs) (numbers_over table 0 indexes)) items a))

pub may_not : (indexes : List IndexDef) (table : ℕ) (shown : Shown) → AreNamedApart indexes → events_of indexes table shown.events ≡ None → IsTrue false ↔ ShowsTrace indexes table shown
may_not indexes table shown apart none = ((λ (h : IsTrue false). no_way (sym h)), (λ (t : ShowsTrace indexes table shown). let bad = sym none ∙ found indexes table shown apart t in absurd (cc)))
