-- How many records a foreground's scan may still fetch where a complete list hides what it cannot have.
use Rattle.std.proofs.Common.{◌≡◌, ℕ, ◌+◌, ◌≤◌, List, length, filter, Bool, true, not, ◌||◌, ap, sym, ◌∙◌, arith, Option, Some, None, Result, Ok, Err, IfOk}
use Rattle.std.specs.Prelude.{if◌then◌else◌}
use Rattle.std.proofs.lemmas.List.Elements.{filter_agree}
use Rattle.rv_value.specs.declared.record.IndexEntry.{IndexEntry}
use Rattle.rv_judge.specs.declared.counting.Counts.{Counts}
use Rattle.rv_keylist.specs.Marks.{may_key}
use Rattle.rv_keylist.specs.Listed.{Listed}
use Rattle.rv_reader.specs.Shown.{Shown}
use Rattle.rv_reader.specs.declared.step.Step.{Step}
use Rattle.rv_value.specs.declared.record.Record.{Record}
use Rattle.rv_scan.specs.Alongs.{is_given, left}
use Rattle.rv_scan.specs.Due.{Skipped, is_unlisted, skips, was_delivered}
use Rattle.rv_jscan.specs.Joint.{keys_of}
use Rattle.rv_jscan.specs.Pieces.{may}
use Rattle.rv_scan.specs.Fronts.{Front, SameFront, walk_of, front_fetches}
use Rattle.rv_retrieval.specs.Shape.{RetrievalFits, Shape, front_entries, is_led}
use Rattle.rv_retrieval.specs.Short.{scan_fetches}
use Rattle.rv_retrieval.proofs.Fronting.{own_entries}

given_may : (skip : Skipped) (list : Option (List ℕ)) (n : ℕ) → skip.delivered ≡ None → keys_of skip.list ≡ list → not (skips skip n) ≡ may list n
given_may skip list n d k = ap (λ (o : Option (List ℕ)). not (was_delivered o n || is_unlisted skip.list n)) d ∙ by skip.list k
  where
    twice : (b : Bool) → not (not b) ≡ b
    twice b = grind arith

    by : (o : Option Listed) → keys_of o ≡ list → not (is_unlisted o n) ≡ may list n
    by None e = ap (λ (x : Option (List ℕ)). may x n) e
    by (Some l) e = twice (may_key n l.keys) ∙ ap (λ (x : Option (List ℕ)). may x n) e

hidden : (f : Front) (entries : List IndexEntry) (skip : Skipped) (list : Option (List ℕ)) → skip.delivered ≡ None → keys_of skip.list ≡ list → front_fetches f entries skip ≡ (if f.alone then 0 else length (filter (λ (e : IndexEntry). may list e.row.0) (left f.fetching.walk entries)))
hidden f entries skip list d k = ap (λ (es : List IndexEntry). if f.alone then 0 else length es) (filter_agree (is_given skip) (λ (e : IndexEntry). may list e.row.0) (λ e. given_may skip list e.row.0 d k) (left f.fetching.walk entries))

one_fetches : (v : Shape) (new : Front) (shown : Shown) (skip : Skipped) (before after : Counts) → RetrievalFits v shown → is_led v.strategy ≡ true → skip.delivered ≡ None → keys_of skip.list ≡ v.joint.list → SameFront v.front new → after.records + front_fetches new (own_entries v shown) skip ≤ before.records + front_fetches v.front (own_entries v shown) skip → after.records + scan_fetches (record v { front = new }) shown ≤ before.records + scan_fetches v shown
one_fetches v new shown skip before after f led d k same step =
    let at : own_entries v shown ≡ front_entries v shown = ap (shown.entries (walk_of v.front).index) (f.front led).can.at_snap in
    let again : front_entries (record v { front = new }) shown ≡ front_entries v shown = ap (λ (i : ℕ). shown.entries i v.query.snap) same.index in
    let old : front_fetches v.front (own_entries v shown) skip ≡ scan_fetches v shown = ap (λ (es : List IndexEntry). front_fetches v.front es skip) at ∙ hidden v.front (front_entries v shown) skip v.joint.list d k in
    let next : front_fetches new (own_entries v shown) skip ≡ scan_fetches (record v { front = new }) shown = ap (λ (es : List IndexEntry). front_fetches new es skip) (at ∙ sym again) ∙ hidden new (front_entries (record v { front = new }) shown) skip v.joint.list d k in
    omega arith

pub scan_fewer : {E : Type 0} (r : Result (Step Record) E) (v : Shape) (new : Front) (shown : Shown) (skip : Skipped) (before after : Counts) → RetrievalFits v shown → is_led v.strategy ≡ true → skip.delivered ≡ None → keys_of skip.list ≡ v.joint.list → SameFront v.front new → IfOk r (λ s. after.records + front_fetches new (own_entries v shown) skip ≤ before.records + front_fetches v.front (own_entries v shown) skip) → IfOk r (λ s. after.records + scan_fetches (record v { front = new }) shown ≤ before.records + scan_fetches v shown)
scan_fewer (Ok s) v new shown skip before after f led d k same step = one_fetches v new shown skip before after f led d k same step
scan_fewer (Err x) v new shown skip before after f led d k same step = tt
