-- What each control's step does to the fit and the rest.
use Rattle.std.proofs.Common.{◌≡◌, ◌⊎◌, [], Bool, true, false, ◌||◌, refl, ap, sym, ◌∙◌, subst, Some, inl, inr}
use Rattle.rv_judge.specs.declared.events.Trace.{Trace}
use Rattle.rv_judge.specs.declared.events.Strategy.{Strategy}
use Rattle.rv_judge.specs.declared.events.Control.{Control}
use Rattle.rv_judge.specs.declared.events.Control.TheVariants.{FinalList, FinalTable, Done}
use Rattle.rv_judge.specs.declared.events.Happening.TheVariants.{FinalEnded}
use Rattle.rv_judge.specs.Course.{next_control}
use Rattle.rv_reader.specs.Shown.{Shown}
use Rattle.rv_reader.specs.declared.step.Step.{Step}
use Rattle.rv_value.specs.declared.record.Record.{Record}
use Rattle.rv_final.specs.Rest.{StepMarks}
use Rattle.rv_retrieval.specs.Shape.{Shape, RetrievalFits, DoesStep, Source, Ahead, Keys, Pages, Nowhere, rest, source, source_of, left_at, rows_of, is_index_only, is_sorted, is_led}
use Rattle.rv_final.specs.Stage.{PassesKeys, Staged}
use Rattle.rv_final.proofs.Endings.{final_done}
use Rattle.rv_final.proofs.Rests.{no_rest, same_rest}
use Rattle.rv_final.proofs.Marks.{marks_steps}
use Rattle.rv_retrieval.proofs.Switching.{rest_at}

-- The end.

pub done_rest : (v : Shape) (shown : Shown) → v.control ≡ Done → rest v shown ≡ []
done_rest v shown e = rest_at v shown Nowhere (ap (λ (x : _). source_of x v.strategy) e) ∙ no_rest v.query.only (rows_of v shown) (λ n. false) (λ n q. refl)

pub done_fits : (v : Shape) (t : Trace) (shown : Shown) → RetrievalFits v shown → RetrievalFits (record v { control = Done; trace = t }) shown
done_fits v t shown f = record {
  ascend = f.ascend;
  read = f.read;
  columns = f.columns;
  at_snap = f.at_snap;
  joint = f.joint;
  scans = f.scans;
  planned = f.planned;
  front = f.front;
  led = λ e. absurd (cc);
  last = f.last;
  unbegun = λ e. absurd (cc);
  listed = λ e. absurd (cc);
  room = λ e. absurd (cc);
  remembered = λ e. absurd (cc);
  ordered = f.ordered;
  sorted = λ h. inr refl;
}

-- a step that ends over an empty rest
pub ended : (v mid new : Shape) (shown : Shown) → rest v shown ≡ [] → new ≡ record mid { control = Done; trace = new.trace } → (rest v shown ≡ []) × (rest new shown ≡ [])
ended v mid new shown none e = (none, ap (λ (x : Shape). rest x shown) e ∙ done_rest (record mid { control = Done; trace = new.trace }) shown refl)

pub final_ends : (v new : Shape) → (v.control ≡ FinalList) ⊎ (v.control ≡ FinalTable) → new ≡ record v { control = next_control v.strategy v.control FinalEnded; trace = new.trace } → new ≡ record v { control = Done; trace = new.trace }
final_ends v new c e = e ∙ ap (λ (x : Control). record v { control = x; trace = new.trace }) (final_done v.strategy v.control c)

pub ends_fits : (v new : Shape) (shown : Shown) → RetrievalFits v shown → new ≡ record v { control = Done; trace = new.trace } → RetrievalFits new shown
ends_fits v new shown f e = subst (λ (x : Shape). RetrievalFits x shown) (sym e) (done_fits v new.trace shown f)

-- The final list.

source_at : (v : Shape) (c : Control) → v.control ≡ c → source v ≡ source_of c v.strategy
source_at v c e = ap (λ (x : Control). source_of x v.strategy) e

pub sorted_is_led : (s : Strategy) → is_sorted s ≡ true → is_led s ≡ true
sorted_is_led s h = ap (λ (b : Bool). b || is_index_only s) h

-- where the source is not the foreground's scan there are no order columns
pub no_columns : (v : Shape) (shown : Shown) (s : Source) → RetrievalFits v shown → source v ≡ s → (s ≡ Ahead → true ≡ false) → (s ≡ Nowhere → true ≡ false) → v.query.order ≡ []
no_columns v shown s f e no_front no_end = by (is_sorted v.strategy) refl
  where
    either : ((source v ≡ Ahead) ⊎ (source v ≡ Nowhere)) → v.query.order ≡ []
    either (inl a) = absurd (let bad = no_front (sym e ∙ a) in cc)
    either (inr a) = absurd (let bad = no_end (sym e ∙ a) in cc)

    by : (b : Bool) → is_sorted v.strategy ≡ b → v.query.order ≡ []
    by true h = either (f.sorted h)
    by false h = f.ordered h

pub passed_rest : (v new : Shape) (shown : Shown) → v.control ≡ FinalList → new ≡ record v { at = new.at } → PassesKeys v.joint.list (Some v.delivered) v.at new.at → rest new shown ≡ rest v shown
passed_rest v new shown c e p =
    let next = record v { at = new.at } in
    ap (λ (x : Shape). rest x shown) e ∙ rest_at next shown Keys (source_at v FinalList c) ∙ same_rest v.query.only (rows_of v shown) (left_at Keys v shown) (left_at Keys next shown) (λ n q. p.same n) ∙ sym (rest_at v shown Keys (source_at v FinalList c))

pub list_scanned : (v new : Shape) (shown : Shown) (s : Step Record) → v.control ≡ FinalList → new ≡ record v { at = new.at } → RetrievalFits v shown → StepMarks v.query.need v.query.only (rows_of v shown) s (left_at Keys v shown) (left_at Keys new shown) → DoesStep v new shown s
list_scanned v new shown s c e f marks =
    let next = record v { at = new.at } in
    let order : v.query.order ≡ [] = no_columns v shown Keys f (source_at v FinalList c) (λ x. cc) (λ x. cc) in
    let moved : StepMarks v.query.need v.query.only (rows_of v shown) s (left_at Keys v shown) (left_at Keys next shown) = subst (λ (x : Shape). StepMarks v.query.need v.query.only (rows_of v shown) s (left_at Keys v shown) (left_at Keys x shown)) e marks in
    let step = marks_steps v.query.need v.query.order v.query.only (rows_of v shown) s (left_at Keys v shown) (left_at Keys next shown) f.ascend order moved in
    subst (λ (x : Shape). DoesStep v x shown s) (sym e) (rw (rest_at v shown Keys (source_at v FinalList c), rest_at next shown Keys (source_at v FinalList c)) step)

-- The final scan of the table.

pub table_scanned : (v new : Shape) (shown : Shown) (s : Step Record) → v.control ≡ FinalTable → new ≡ record v { last = new.last } → RetrievalFits v shown → StepMarks v.query.need v.query.only (rows_of v shown) s (left_at Pages v shown) (left_at Pages new shown) → DoesStep v new shown s
table_scanned v new shown s c e f marks =
    let next = record v { last = new.last } in
    let order : v.query.order ≡ [] = no_columns v shown Pages f (source_at v FinalTable c) (λ x. cc) (λ x. cc) in
    let moved : StepMarks v.query.need v.query.only (rows_of v shown) s (left_at Pages v shown) (left_at Pages next shown) = subst (λ (x : Shape). StepMarks v.query.need v.query.only (rows_of v shown) s (left_at Pages v shown) (left_at Pages x shown)) e marks in
    let step = marks_steps v.query.need v.query.order v.query.only (rows_of v shown) s (left_at Pages v shown) (left_at Pages next shown) f.ascend order moved in
    subst (λ (x : Shape). DoesStep v x shown s) (sym e) (rw (rest_at v shown Pages (source_at v FinalTable c), rest_at next shown Pages (source_at v FinalTable c)) step)

-- What the final stage's calls leave of the retrieval.

abbrev pub stage_of : Shape → Staged
stage_of v = record { at = v.at; last = v.last }

abbrev pub with_stage : Shape → Staged → Shape
with_stage v s = record v { at = s.at; last = s.last }
