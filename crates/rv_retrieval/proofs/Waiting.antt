-- What a step leaves that found no memory.
use Rattle.std.proofs.Common.{◌≡◌, ◌≤◌, ◌∙◌, ◌⊎◌, ℕ, Bool, true, false, not, ◌&&◌, List, Result, Ok, Err, OnErr, length, filter, drop, find, inl, inr, refl, ap, sym, subst, arith, le_trans}
use Rattle.std.specs.Prelude.{if◌then◌else◌, Option, None}
use Rattle.rv_value.specs.declared.record.IndexEntry.{IndexEntry}
use Rattle.rv_keylist.specs.Keys.{has_key}
use Rattle.rv_judge.specs.declared.counting.Counts.{Counts}
use Rattle.rv_judge.specs.Course.{building, fast_first}
use Rattle.rv_judge.specs.declared.events.Control.{Control}
use Rattle.rv_judge.specs.declared.events.Control.TheVariants.{Building, ForegroundAlone, BackgroundAlone, FinalList, FinalTable, Done}
use Rattle.rv_judge.specs.declared.events.Trace.{Trace}
use Rattle.rv_reader.specs.Shown.{Shown}
use Rattle.rv_scan.specs.Alongs.{left}
use Rattle.rv_jscan.specs.Joint.{Joint, under_way}
use Rattle.rv_jscan.specs.Pieces.{may}
use Rattle.rv_jscan.specs.Steps.{awaited_id}
use Rattle.rv_retrieval.specs.Accounts.{fresh_of}
use Rattle.rv_retrieval.specs.Effort.{Awaiting, keys_work}
use Rattle.rv_retrieval.specs.Given.{TakesLeaf, TakesLeafBy, awaited}
use Rattle.rv_retrieval.specs.Runs.{SameCourse}
use Rattle.rv_retrieval.specs.Shape.{Shape, front_entries, is_background, lending}
use Rattle.rv_final.specs.Stage.{keys_left}
use Rattle.rv_retrieval.specs.Short.{fetches_by, fetches_left, scan_fetches}
use Rattle.rv_retrieval.specs.Stepping.{OnlyTakes, Steady}
use Rattle.rv_judge.specs.Tracing.{SameCounts, counted}
use Rattle.rv_scan.specs.Fronts.{SameFront}

lends : (b : Bool) (old new : Joint) → TakesLeafBy b old new → lending new ≡ lending old
lends true old new t = ap lending t.same
lends false old new e = ap lending e

lists : (b : Bool) (old new : Joint) → TakesLeafBy b old new → new.list ≡ old.list
lists true old new t = ap (λ (j : Joint). j.list) t.same
lists false old new e = ap (λ (j : Joint). j.list) e

-- the awaited leaf was taken, or it was tried
pub took_only : (old new : Shape) → new ≡ record old { joint = new.joint } → TakesLeaf old new.joint → OnlyTakes old new
took_only old new e leaves = record {
  same = subst (λ (x : Shape). x ≡ record old { joint = x.joint; borrowed = x.borrowed; at = x.at; trace = x.trace }) (sym e) refl;
  leaves = inr leaves;
  fresh = λ way. ap fresh_of e ∙ ap (λ (l : List ℕ). if building old.control && fast_first old.strategy then find (λ (k : ℕ). not (has_key k old.delivered)) (drop old.borrowed l) else None) (lends (is_background old.control) old.joint new.joint leaves);
  further = subst (λ (n : ℕ). old.borrowed ≤ n) (sym (ap (λ (x : Shape). x.borrowed) e)) (omega arith);
  fewer = subst (λ (n : ℕ). n ≤ keys_work old) (sym (ap keys_work e ∙ ap (λ (l : Option (List ℕ)). length (keys_left l old.at)) (lists (is_background old.control) old.joint new.joint leaves))) (omega arith);
}

only_itself : (v : Shape) → OnlyTakes v v
only_itself v = record { same = refl; leaves = inl refl; fresh = λ way. refl; further = omega arith; fewer = omega arith }

pub only_if : {X E : Type 0} (r : Result X E) (old new : Shape) → OnErr r (new ≡ old) → OnErr r (OnlyTakes old new)
only_if (Ok x) old new e = tt
only_if (Err x) old new e = subst (OnlyTakes old) (sym e) (only_itself old)

-- keys were passed over before
after_passed : (v mid new : Shape) → mid ≡ record v { borrowed = mid.borrowed; at = mid.at } → (under_way v.joint ≡ true → fresh_of mid ≡ fresh_of v) → v.borrowed ≤ mid.borrowed → keys_work mid ≤ keys_work v → OnlyTakes mid new → OnlyTakes v new
after_passed v mid new e fresh on fewer o =
    let joint : mid.joint ≡ v.joint = ap (λ (x : Shape). x.joint) e in
    record {
      same = subst (λ (x : Shape). new ≡ record x { joint = new.joint; borrowed = new.borrowed; at = new.at; trace = new.trace }) e o.same;
      leaves = subst (λ (x : Shape). (new.joint ≡ x.joint) ⊎ TakesLeaf x new.joint) e o.leaves;
      fresh = λ way. o.fresh (ap under_way joint ∙ way) ∙ fresh way;
      further = le_trans on o.further;
      fewer = let less = o.fewer in omega arith;
    }

pub after_borrowed : {X E : Type 0} (r : Result X E) (v mid new : Shape) → mid ≡ record v { borrowed = mid.borrowed } → (under_way v.joint ≡ true → fresh_of mid ≡ fresh_of v) → v.borrowed ≤ mid.borrowed → OnErr r (OnlyTakes mid new) → OnErr r (OnlyTakes v new)
after_borrowed (Ok x) v mid new e fresh on o = tt
after_borrowed (Err x) v mid new e fresh on o = after_passed v mid new (subst (λ (x : Shape). x ≡ record v { borrowed = x.borrowed; at = x.at }) (sym e) refl) fresh on (subst (λ (n : ℕ). n ≤ keys_work v) (sym (ap keys_work e)) (omega arith)) o

-- keys of the complete list were passed over, and nothing else was done
pub keys_only : (v mid : Shape) → mid ≡ record v { at = mid.at } → keys_work mid ≤ keys_work v → OnlyTakes v mid
keys_only v mid e fewer = after_passed v mid mid (subst (λ (x : Shape). x ≡ record v { borrowed = x.borrowed; at = x.at }) (sym e) refl) (λ way. ap fresh_of e) (same_less v.borrowed mid.borrowed (ap (λ (x : Shape). x.borrowed) e)) fewer (only_itself mid)
  where
    same_less : (was now : ℕ) → now ≡ was → was ≤ now
    same_less was now same = omega (arith, same)

-- what was read is counted
pub only_counted : (v mid new : Shape) (t : Trace) → new ≡ record mid { trace = t } → OnlyTakes v mid → OnlyTakes v new
only_counted v mid new t e o = record {
  same = subst (λ (x : Shape). x ≡ record v { joint = x.joint; borrowed = x.borrowed; at = x.at; trace = x.trace }) (sym e) (ap (λ (x : Shape). record x { trace = t }) o.same);
  leaves = subst (λ (j : Joint). (j ≡ v.joint) ⊎ TakesLeaf v j) (sym (ap (λ (x : Shape). x.joint) e)) o.leaves;
  fresh = λ way. ap fresh_of e ∙ o.fresh way;
  further = subst (λ (n : ℕ). v.borrowed ≤ n) (sym (ap (λ (x : Shape). x.borrowed) e)) o.further;
  fewer = subst (λ (n : ℕ). n ≤ keys_work v) (sym (ap keys_work e)) o.fewer;
}

-- the fetches that are left do not rise

by_control : (c : Control) (f g k n : ℕ) → g ≡ f → n ≤ k → fetches_by c g n ≤ fetches_by c f k
by_control Building f g k n e l = omega arith
by_control ForegroundAlone f g k n e l = omega arith
by_control BackgroundAlone f g k n e l = omega arith
by_control FinalList f g k n e l = omega arith
by_control FinalTable f g k n e l = omega arith
by_control Done f g k n e l = omega arith

pub fewer_fetches : (old new : Shape) (shown : Shown) → OnlyTakes old new → fetches_left new shown ≤ fetches_left old shown
fewer_fetches old new shown o =
    let same_lists : new.joint.list ≡ old.joint.list = listed o.leaves in
    let scans : scan_fetches new shown ≡ scan_fetches old shown = ap (λ (x : Shape). scan_fetches x shown) o.same ∙ ap (λ (l : Option (List ℕ)). if old.front.alone then 0 else length (filter (λ (e : IndexEntry). may l e.row.0) (left old.front.fetching.walk (front_entries old shown)))) same_lists in
    subst (λ (c : Control). fetches_by c (scan_fetches new shown) (keys_work new) ≤ fetches_left old shown) (sym (ap (λ (x : Shape). x.control) o.same)) (by_control old.control (scan_fetches old shown) (scan_fetches new shown) (keys_work old) (keys_work new) scans o.fewer)
  where
    listed : (new.joint ≡ old.joint) ⊎ TakesLeaf old new.joint → new.joint.list ≡ old.joint.list
    listed (inl e) = ap (λ (j : Joint). j.list) e
    listed (inr t) = lists (is_background old.control) old.joint new.joint t

-- a take leaves what is awaited
pub keeps_awaited : (old new : Shape) → new ≡ record old { joint = new.joint; trace = new.trace } → TakesLeaf old new.joint → awaited new ≡ awaited old
keeps_awaited old new e leaves = ap awaited e ∙ by (is_background old.control) leaves
  where
    by : (b : Bool) → TakesLeafBy b old.joint new.joint → (if b then awaited_id new.joint else None) ≡ (if b then awaited_id old.joint else None)
    by true t = ap awaited_id t.same
    by false e = refl

-- a take leaves the course
pub leaf_course : (old mid : Shape) → mid ≡ record old { joint = mid.joint } → TakesLeaf old mid.joint → SameCourse old mid
leaf_course old mid m leaves =
    let scans = by (is_background old.control) leaves in
    record {
      strategy = ap (λ (x : Shape). x.strategy) m;
      control = ap (λ (x : Shape). x.control) m;
      plans = scans.0;
      ended = scans.1;
      list = lists (is_background old.control) old.joint mid.joint leaves;
      query = ap (λ (x : Shape). x.query) m;
      named = ap (λ (x : Shape). x.trace.strategy) m;
      events = ap (λ (x : Shape). x.trace.events) m;
    }
  where
    by : (b : Bool) → TakesLeafBy b old.joint mid.joint → (mid.joint.plans ≡ old.joint.plans) × (mid.joint.ended ≡ old.joint.ended)
    by true t = (ap (λ (j : Joint). j.plans) t.same, ap (λ (j : Joint). j.ended) t.same)
    by false e = (ap (λ (j : Joint). j.plans) e, ap (λ (j : Joint). j.ended) e)

pub counted_course : (old mid new : Shape) (c d : Counts) → new ≡ record mid { trace = counted mid.trace c d } → SameCourse old mid → SameCourse old new
counted_course old mid new c d n s = subst (SameCourse old) (sym n) record { strategy = s.strategy; control = s.control; plans = s.plans; ended = s.ended; list = s.list; query = s.query; named = s.named; events = s.events }

pub took_course : (old mid new : Shape) (c d : Counts) → mid ≡ record old { joint = mid.joint } → TakesLeaf old mid.joint → new ≡ record mid { trace = counted mid.trace c d } → SameCourse old new
took_course old mid new c d m leaves n = counted_course old mid new c d n (leaf_course old mid m leaves)

-- What every step keeps.

pub steady_by : (old new : Shape) → SameCounts old.trace new.trace → new.query ≡ old.query → (Awaiting old → Awaiting new) → new.front ≡ old.front → Steady old new
steady_by old new c q a e =
    let same : SameFront old.front old.front = record { alone = refl; columns = refl; table = refl; index = refl; snap = refl; range = refl } in
    record { counts = c; query = q; awaiting = a; front = subst (SameFront old.front) (sym e) same }

pub steady_on : (a b c : Shape) → Steady a b → Steady b c → Steady a c
steady_on a b c s t = record {
  counts = record { pages = t.counts.pages ∙ s.counts.pages; leaves = t.counts.leaves ∙ s.counts.leaves; fetches = t.counts.fetches ∙ s.counts.fetches };
  query = t.query ∙ s.query;
  awaiting = λ w. t.awaiting (s.awaiting w);
  front = record { alone = t.front.alone ∙ s.front.alone; columns = t.front.columns ∙ s.front.columns; table = t.front.table ∙ s.front.table; index = t.front.index ∙ s.front.index; snap = t.front.snap ∙ s.front.snap; range = t.front.range ∙ s.front.range };
}

pub steady_moved : (old new : Shape) → new ≡ record old { front = new.front } → SameFront old.front new.front → Steady old new
steady_moved old new e f = record {
  counts = subst (λ (x : Shape). SameCounts old.trace x.trace) (sym e) (record { pages = refl; leaves = refl; fetches = refl });
  query = ap (λ (x : Shape). x.query) e;
  awaiting = λ w. subst Awaiting (sym e) (record { way = w.way; both = w.both });
  front = f;
}

pub steady_at : (old new : Shape) → new ≡ record old { at = new.at } → Steady old new
steady_at old new e = subst (Steady old) (sym e) (by new.at)
  where
    by : (n : ℕ) → Steady old (record old { at = n })
    by n = steady_by old (record old { at = n }) (record { pages = refl; leaves = refl; fetches = refl }) refl (λ w. record { way = w.way; both = w.both }) refl

pub steady_borrowed : (a b c : Shape) → b ≡ record a { borrowed = b.borrowed } → Steady b c → Steady a c
steady_borrowed a b c e s = steady_on a b c (subst (Steady a) (sym e) (by b.borrowed)) s
  where
    by : (n : ℕ) → Steady a (record a { borrowed = n })
    by n = steady_by a (record a { borrowed = n }) (record { pages = refl; leaves = refl; fetches = refl }) refl (λ w. record { way = w.way; both = w.both }) refl
