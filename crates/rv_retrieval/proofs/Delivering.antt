-- Rows that are remembered, and the foreground's scan.
use Rattle.std.proofs.Common.{◌≡◌, ℕ, ◌<◌, ◌⊎◌, List, [], length, Bool, true, false, not, ◌&&◌, ◌||◌, refl, ap, sym, ◌∙◌, arith, subst, Option, nat_eq, inl, inr, take, Result, Ok, Err, IfOk, OnErr}
use Rattle.std.specs.Cmp.{first_so, second_so}
use Rattle.std.proofs.lemmas.Bool.{and_right, not-true}
use Rattle.rv_value.specs.declared.record.Record.{Record}
use Rattle.rv_rows.specs.Rows.{Ascend}
use Rattle.rv_restrict.specs.declared.atom.Atom.{Atom}
use Rattle.rv_keylist.specs.Keys.{has_key}
use Rattle.rv_keylist.specs.Rows.{AddsRow}
use Rattle.rv_judge.specs.declared.events.Trace.{Trace}
use Rattle.rv_judge.specs.declared.events.Strategy.{Strategy}
use Rattle.rv_judge.specs.declared.events.Strategy.TheVariants.{Table, BackgroundOnly, FastFirst, Sorted, IndexOnly, Union}
use Rattle.rv_judge.specs.declared.events.Control.{Control}
use Rattle.rv_judge.specs.declared.events.Control.TheVariants.{Building, ForegroundAlone, BackgroundAlone, FinalList, FinalTable, Done}
use Rattle.rv_judge.specs.declared.events.Happening.TheVariants.{Full, FrontEnded}
use Rattle.rv_judge.specs.Course.{next_control}
use Rattle.rv_reader.specs.Shown.{CanScan, Shown, Suits}
use Rattle.rv_reader.specs.Entries.{entries_of}
use Rattle.rv_value.specs.declared.range.Range.{Range}
use Rattle.rv_restrict.specs.Parts.{stands_among}
use Rattle.rv_scan.specs.Told.{NamesThese}
use Rattle.rv_reader.specs.Tables.{row_at}
use Rattle.rv_reader.specs.declared.step.Step.{Step}
use Rattle.rv_reader.specs.declared.step.Step.TheVariants.{Row, Working, End}
use Rattle.rv_scan.specs.Alongs.{Follows, looked}
use Rattle.rv_choice.specs.declared.query.Query.{Query}
use Rattle.rv_final.specs.Rest.{Agree, IsLeast, StepMarks, Steps, rest_by}
use Rattle.rv_retrieval.specs.Fronts.{front_left}
use Rattle.rv_scan.specs.Fronts.{Front, SameFront, walk_of}
use Rattle.rv_retrieval.specs.Shape.{Shape, RetrievalFits, Delivers, DoesStep, FrontFits, LeastOf, Undelivered, Ahead, Keys, rest, source, source_of, left_at, rows_of, front_entries, is_building, is_index_only, is_sorted, is_led, is_early}
use Rattle.rv_final.proofs.Rests.{marks_out, no_rest, same_rest, told_by}
use Rattle.rv_retrieval.proofs.Switching.{rest_at, both_ahead}
use Rattle.rv_retrieval.proofs.Controls.{no_columns}
use Rattle.rv_final.proofs.Marks.{fetched_marks, marks_steps, unordered}

pub delivered_control : (v new : Shape) (k : ℕ) → Delivers v new k → ((new.control ≡ v.control) × (length new.delivered < 1024)) ⊎ (new.control ≡ next_control v.strategy v.control Full)
delivered_control v new k d = by d.less
  where
    by : ((length new.delivered < 1024) ⊎ (length new.delivered ≡ 1024)) → ((new.control ≡ v.control) × (length new.delivered < 1024)) ⊎ (new.control ≡ next_control v.strategy v.control Full)
    by (inl l) = inl (d.room l, l)
    by (inr e) = inr (d.full e)

pub remembered_test : (old new : List ℕ) (k n : ℕ) → AddsRow old new k → not (has_key n new) ≡ (not (has_key n old) && not (nat_eq n k))
remembered_test old new k n a = ap not (a.rows n) ∙ out (nat_eq n k) (has_key n old)
  where
    out : (x y : Bool) → not (x || y) ≡ (not y && not x)
    out x y = grind arith

-- Fast-first: a row that was borrowed is given and remembered.

source_at : (v : Shape) (c : Control) (s : Strategy) → v.control ≡ c → v.strategy ≡ s → source v ≡ source_of c s
source_at v c s ec es = ap (λ (x : Control). source_of x v.strategy) ec ∙ ap (source_of c) es

not_index_only : (v : Shape) (c : Control) (s : Strategy) → v.strategy ≡ s → is_index_only s ≡ false → (is_building c && is_index_only v.strategy) ≡ true → true ≡ false
not_index_only v c s e n b = sym b ∙ and_right (is_building c) (is_index_only v.strategy) (ap is_index_only e ∙ n)

borrowed_fits : (v : Shape) (b : ℕ) (d : List ℕ) (c : Control) (t : Trace) (shown : Shown) → v.control ≡ Building → v.strategy ≡ FastFirst → source_of c v.strategy ≡ Undelivered → (is_building c ≡ true → length d < 1024) → RetrievalFits v shown → RetrievalFits (record v { borrowed = b; delivered = d; control = c; trace = t }) shown
borrowed_fits v b d c t shown ec es u room f = record {
  ascend = f.ascend;
  read = f.read;
  columns = f.columns;
  at_snap = f.at_snap;
  joint = f.joint;
  scans = f.scans;
  planned = f.planned;
  front = f.front;
  led = λ e. absurd (let bad : Undelivered ≡ Ahead = sym u ∙ e in cc);
  last = f.last;
  unbegun = λ e. f.unbegun (ap is_early (source_at v Building FastFirst ec es));
  listed = λ e. absurd (let bad : Undelivered ≡ Keys = sym u ∙ e in cc);
  room = room;
  remembered = λ h. absurd (let bad = not_index_only v c FastFirst es refl h in cc);
  ordered = f.ordered;
  sorted = λ h. absurd (let bad : true ≡ false = sym h ∙ ap is_sorted es in cc);
}

borrowed_step : (v : Shape) (b : ℕ) (d : List ℕ) (c : Control) (t : Trace) (shown : Shown) (k : ℕ) (found : Option Record) (s : Step Record) → v.control ≡ Building → v.strategy ≡ FastFirst → source_of c v.strategy ≡ Undelivered → AddsRow v.delivered d k → has_key k v.delivered ≡ false → RetrievalFits v shown → row_at (rows_of v shown) k ≡ found → s ≡ looked v.query.only found → DoesStep v (record v { borrowed = b; delivered = d; control = c; trace = t }) shown s
borrowed_step v b d c t shown k found s ec es u a fresh f r is =
    let next = record v { borrowed = b; delivered = d; control = c; trace = t } in
    let here : source v ≡ Undelivered = source_at v Building FastFirst ec es in
    let order : v.query.order ≡ [] = no_columns v shown Undelivered f here (λ x. cc) (λ x. cc) in
    let marks = fetched_marks v.query.need v.query.only (rows_of v shown) (left_at Undelivered v shown) (left_at Undelivered next shown) k found f.ascend r (ap not fresh) (λ n q. remembered_test v.delivered d k n a) in
    let step : Steps v.query.need v.query.order (looked v.query.only found) (rest_by (left_at Undelivered v shown) v.query.only (rows_of v shown)) (rest_by (left_at Undelivered next shown) v.query.only (rows_of v shown)) = marks_steps v.query.need v.query.order v.query.only (rows_of v shown) (looked v.query.only found) (left_at Undelivered v shown) (left_at Undelivered next shown) f.ascend order marks in
    rw (is, rest_at v shown Undelivered here, rest_at next shown Undelivered u) step

full_source : (v : Shape) (c : Control) → v.control ≡ Building → v.strategy ≡ FastFirst → (c ≡ v.control) ⊎ (c ≡ next_control v.strategy v.control Full) → source_of c v.strategy ≡ Undelivered
full_source v c ec es (inl e) = ap (λ (x : Control). source_of x v.strategy) e ∙ source_at v Building FastFirst ec es
full_source v c ec es (inr e) = ap (λ (x : Control). source_of x v.strategy) (e ∙ ap (λ (x : Control). next_control v.strategy x Full) ec ∙ ap (λ (x : Strategy). next_control x Building Full) es)

lend : (v mid new : Shape) (b k : ℕ) → mid ≡ record v { borrowed = b } → Delivers mid new k → new ≡ record v { borrowed = b; delivered = new.delivered; control = new.control; trace = new.trace }
lend v mid new b k e d = d.same ∙ ap (λ (m : Shape). record m { delivered = new.delivered; control = new.control; trace = new.trace }) e

goes_from : (v mid new : Shape) (b k : ℕ) → mid ≡ record v { borrowed = b } → Delivers mid new k → ((new.control ≡ v.control) × (length new.delivered < 1024)) ⊎ (new.control ≡ next_control v.strategy v.control Full)
goes_from v mid new b k e d = subst (λ (m : Shape). ((new.control ≡ m.control) × (length new.delivered < 1024)) ⊎ (new.control ≡ next_control m.strategy m.control Full)) e (delivered_control mid new k d)

first_of : {A B C : Type 0} → (A × B) ⊎ C → A ⊎ C
first_of (inl x) = inl x.0
first_of (inr x) = inr x

still_room : (v new : Shape) (c : Control) → next_control v.strategy v.control Full ≡ c → is_building c ≡ false → ((new.control ≡ v.control) × (length new.delivered < 1024)) ⊎ (new.control ≡ next_control v.strategy v.control Full) → is_building new.control ≡ true → length new.delivered < 1024
still_room v new c to shut (inl x) b = x.1
still_room v new c to shut (inr x) b = absurd (let bad : true ≡ false = sym b ∙ ap is_building (x ∙ to) ∙ shut in cc)

pub borrow_fits : (v mid new : Shape) (b k : ℕ) (shown : Shown) → v.control ≡ Building → v.strategy ≡ FastFirst → mid ≡ record v { borrowed = b } → Delivers mid new k → RetrievalFits v shown → RetrievalFits new shown
borrow_fits v mid new b k shown ec es e d f =
    let goes = goes_from v mid new b k e d in
    let to : next_control v.strategy v.control Full ≡ BackgroundAlone = ap (λ (x : Control). next_control v.strategy x Full) ec ∙ ap (λ (x : Strategy). next_control x Building Full) es in
    subst (λ (x : Shape). RetrievalFits x shown) (sym (lend v mid new b k e d)) (borrowed_fits v b new.delivered new.control new.trace shown ec es (full_source v new.control ec es (first_of goes)) (still_room v new BackgroundAlone to refl goes) f)

pub borrow_step : (v mid new : Shape) (b k : ℕ) (shown : Shown) (found : Option Record) (s : Step Record) → v.control ≡ Building → v.strategy ≡ FastFirst → mid ≡ record v { borrowed = b } → Delivers mid new k → has_key k v.delivered ≡ false → RetrievalFits v shown → row_at (rows_of v shown) k ≡ found → s ≡ looked v.query.only found → DoesStep v new shown s
borrow_step v mid new b k shown found s ec es e d fresh f r is =
    let goes = goes_from v mid new b k e d in
    let adds : AddsRow v.delivered new.delivered k = subst (λ (m : Shape). AddsRow m.delivered new.delivered k) e d.adds in
    subst (λ (x : Shape). DoesStep v x shown s) (sym (lend v mid new b k e d)) (borrowed_step v b new.delivered new.control new.trace shown k found s ec es (full_source v new.control ec es (first_of goes)) adds fresh f r is)

-- The foreground's scan.

pub front_again : (query : Query) (strategy : Strategy) (old new : Front) (shown : Shown) → SameFront old new → Follows (walk_of new) (shown.entries (walk_of old).index query.snap) → FrontFits query strategy old shown → FrontFits query strategy new shown
front_again query strategy old new shown same follows f = record {
  can = record {
    of_table = same.table ∙ f.can.of_table;
    at_snap = same.snap ∙ f.can.at_snap;
    read = f.can.read;
    scan = subst (λ (i : ℕ). CanScan shown i query.snap) (sym same.index) f.can.scan;
    suits = subst (λ (i : ℕ). Suits shown i query.snap (walk_of new).range) (sym same.index) (subst (λ (r : Range). Suits shown (walk_of old).index query.snap r) (sym same.range) f.can.suits);
    columns = f.can.columns;
    names = λ e. subst (λ (cs : List ℕ). NamesThese cs query.only) (sym same.columns) (f.can.names (sym same.alone ∙ e));
  };
  follows = subst (λ (i : ℕ). Follows (walk_of new) (shown.entries i query.snap)) (sym same.index) follows;
  entries = subst (λ (i : ℕ). shown.entries i query.snap ≡ entries_of new.columns (shown.rows query.table query.snap)) (sym same.index) (subst (λ (cs : List ℕ). shown.entries (walk_of old).index query.snap ≡ entries_of cs (shown.rows query.table query.snap)) (sym same.columns) f.entries);
  alone = λ e. same.alone ∙ f.alone e;
  covering = λ e c h. subst (λ (cs : List ℕ). stands_among cs c ≡ true) (sym same.columns) (f.covering (sym same.alone ∙ e) c h);
  needs = f.needs;
  begins = λ s. subst (λ (cs : List ℕ). take (length query.order) cs ≡ query.order) (sym same.columns) (f.begins s);
}

-- what is ahead of the scan at its new place, by the entries of its own index
pub left_again : (v : Shape) (new : Front) (shown : Shown) (n : ℕ) → SameFront v.front new → left_at Ahead (record v { front = new }) shown n ≡ front_left new (front_entries v shown) n
left_again v new shown n same = ap (λ (i : ℕ). front_left new (shown.entries i v.query.snap) n) same.index

pub front_fits : (v : Shape) (new : Front) (shown : Shown) → SameFront v.front new → Follows (walk_of new) (front_entries v shown) → ((is_building v.control && is_index_only v.strategy) ≡ true → Agree v.query.only (rows_of v shown) (λ n. not (has_key n v.delivered)) (front_left new (front_entries v shown))) → RetrievalFits v shown → RetrievalFits (record v { front = new }) shown
front_fits v new shown same follows remembered f = record {
  ascend = f.ascend;
  read = f.read;
  columns = f.columns;
  at_snap = f.at_snap;
  joint = f.joint;
  scans = f.scans;
  planned = f.planned;
  front = λ h. front_again v.query v.strategy v.front new shown same follows (f.front h);
  led = f.led;
  last = f.last;
  unbegun = f.unbegun;
  listed = f.listed;
  room = f.room;
  remembered = λ h n q. left_again v new shown n same ∙ remembered h n q;
  ordered = f.ordered;
  sorted = f.sorted;
}

marks_least : (need order : List ℕ) (only : List (List Atom)) (rows : List Record) (s : Step Record) (old new : ℕ → Bool) → Ascend rows → ((r : Record) → s ≡ Row r → IsLeast order r (rest_by old only rows)) → StepMarks need only rows s old new → Steps need order s (rest_by old only rows) (rest_by new only rows)
marks_least need order only rows (Row r) old new asc least m = (marks_out need only rows r old new asc m, least r refl)
marks_least need order only rows Working old new asc least m = same_rest only rows old new m
marks_least need order only rows End old new asc least m = (no_rest only rows old m.0, no_rest only rows new m.1)

least_is : (v : Shape) (shown : Shown) (s : Step Record) (r : Record) → LeastOf v shown s → s ≡ Row r → IsLeast v.query.order r (rest_by (front_left v.front (front_entries v shown)) v.query.only (rows_of v shown))
least_is v shown s r l e = subst (LeastOf v shown) e l

-- a step of the scan, where it leads the rest
pub front_does : (v : Shape) (new : Front) (shown : Shown) (s : Step Record) → source v ≡ Ahead → SameFront v.front new → RetrievalFits v shown → (is_sorted v.strategy ≡ true → LeastOf v shown s) → StepMarks v.query.need v.query.only (rows_of v shown) s (front_left v.front (front_entries v shown)) (front_left new (front_entries v shown)) → DoesStep v (record v { front = new }) shown s
front_does v new shown s a same f least marks =
    let next = record v { front = new } in
    let old = front_left v.front (front_entries v shown) in
    let least_row : (r : Record) → s ≡ Row r → IsLeast v.query.order r (rest_by old v.query.only (rows_of v shown)) = λ r e. by (is_sorted v.strategy) refl r e in
    let step = marks_least v.query.need v.query.order v.query.only (rows_of v shown) s old (front_left new (front_entries v shown)) f.ascend least_row marks in
    let same_tests : rest_by (left_at Ahead next shown) v.query.only (rows_of v shown) ≡ rest_by (front_left new (front_entries v shown)) v.query.only (rows_of v shown) = same_rest v.query.only (rows_of v shown) (front_left new (front_entries v shown)) (left_at Ahead next shown) (λ n q. left_again v new shown n same) in
    rw (rest_at v shown Ahead a, rest_at next shown Ahead a, same_tests) step
  where
    by : (b : Bool) → is_sorted v.strategy ≡ b → (r : Record) → s ≡ Row r → IsLeast v.query.order r (rest_by (front_left v.front (front_entries v shown)) v.query.only (rows_of v shown))
    by true h r e = least_is v shown s r (least h) e
    by false h r e = unordered v.query.order r (rest_by (front_left v.front (front_entries v shown)) v.query.only (rows_of v shown)) (f.ordered h)

pub front_done : (s : Strategy) (c : Control) → source_of c s ≡ Ahead → is_led s ≡ true → next_control s c FrontEnded ≡ Done
front_done Sorted Building a l = refl
front_done IndexOnly Building a l = refl
front_done Sorted ForegroundAlone a l = refl
front_done IndexOnly ForegroundAlone a l = refl
front_done Table Building a l = absurd (cc)
front_done BackgroundOnly Building a l = absurd (cc)
front_done Union Building a l = absurd (cc)
front_done FastFirst Building a l = absurd (cc)
front_done Table ForegroundAlone a l = absurd (cc)
front_done BackgroundOnly ForegroundAlone a l = absurd (cc)
front_done Union ForegroundAlone a l = absurd (cc)
front_done FastFirst ForegroundAlone a l = absurd (cc)
front_done s BackgroundAlone a l = absurd (cc)
front_done s FinalList a l = absurd (cc)
front_done s FinalTable a l = absurd (cc)
front_done s Done a l = absurd (cc)

-- Index-only: the buffer goes on telling what the index has behind it.

pub remember_agree : (v : Shape) (new : Front) (d : List ℕ) (shown : Shown) (r : Record) → AddsRow v.delivered d r.row.0 → Agree v.query.only (rows_of v shown) (λ n. not (has_key n v.delivered)) (front_left v.front (front_entries v shown)) → StepMarks v.query.need v.query.only (rows_of v shown) (Row r) (front_left v.front (front_entries v shown)) (front_left new (front_entries v shown)) → Agree v.query.only (rows_of v shown) (λ n. not (has_key n d)) (front_left new (front_entries v shown))
remember_agree v new d shown r a agree m n q = m.others n q ∙ ap (λ (b : Bool). b && not (nat_eq n r.row.0)) (agree n q) ∙ sym (remembered_test v.delivered d r.row.0 n a)

pub fresh_row : (v : Shape) (new : Front) (shown : Shown) (r : Record) → RetrievalFits v shown → (is_building v.control && is_index_only v.strategy) ≡ true → StepMarks v.query.need v.query.only (rows_of v shown) (Row r) (front_left v.front (front_entries v shown)) (front_left new (front_entries v shown)) → has_key r.row.0 v.delivered ≡ false
fresh_row v new shown r f b m =
    let q = told_by v.query.only (rows_of v shown) r.row.0 m.taken f.ascend m.there ∙ m.qualifies in
    not-true (has_key r.row.0 v.delivered) (sym (f.remembered b r.row.0 q) ∙ m.left)

-- The steps of the foreground's scan, in the words of the calls.

pub moved_fits : (v mid : Shape) (shown : Shown) → mid ≡ record v { front = mid.front } → SameFront v.front mid.front → Follows (walk_of mid.front) (front_entries v shown) → ((is_building v.control && is_index_only v.strategy) ≡ true → Agree v.query.only (rows_of v shown) (λ n. not (has_key n v.delivered)) (front_left mid.front (front_entries v shown))) → RetrievalFits v shown → RetrievalFits mid shown
moved_fits v mid shown e same follows remembered f = subst (λ (x : Shape). RetrievalFits x shown) (sym e) (front_fits v mid.front shown same follows remembered f)

pub moved_does : (v mid : Shape) (shown : Shown) (s : Step Record) → mid ≡ record v { front = mid.front } → source v ≡ Ahead → SameFront v.front mid.front → RetrievalFits v shown → (is_sorted v.strategy ≡ true → LeastOf v shown s) → StepMarks v.query.need v.query.only (rows_of v shown) s (front_left v.front (front_entries v shown)) (front_left mid.front (front_entries v shown)) → DoesStep v mid shown s
moved_does v mid shown s e a same f least marks = subst (λ (x : Shape). DoesStep v x shown s) (sym e) (front_does v mid.front shown s a same f least marks)

pub forgotten : (v : Shape) {X : Type 0} → (is_building v.control && is_index_only v.strategy) ≡ false → (is_building v.control && is_index_only v.strategy) ≡ true → X
forgotten v f b = absurd (let bad : true ≡ false = sym b ∙ f in cc)

pub front_ends : (v mid new : Shape) → mid ≡ record v { front = mid.front } → source v ≡ Ahead → is_led v.strategy ≡ true → new ≡ record mid { control = next_control mid.strategy mid.control FrontEnded; trace = new.trace } → new ≡ record mid { control = Done; trace = new.trace }
front_ends v mid new e a l n =
    let done : next_control mid.strategy mid.control FrontEnded ≡ Done = subst (λ (x : Shape). next_control x.strategy x.control FrontEnded ≡ Done) (sym e) (front_done v.strategy v.control a l) in
    n ∙ ap (λ (c : Control). record mid { control = c; trace = new.trace }) done

building_is : (c : Control) → is_building c ≡ true → c ≡ Building
building_is Building h = refl
building_is ForegroundAlone h = absurd (cc)
building_is BackgroundAlone h = absurd (cc)
building_is FinalList h = absurd (cc)
building_is FinalTable h = absurd (cc)
building_is Done h = absurd (cc)

index_only_is : (s : Strategy) → is_index_only s ≡ true → s ≡ IndexOnly
index_only_is Table h = absurd (cc)
index_only_is BackgroundOnly h = absurd (cc)
index_only_is Union h = absurd (cc)
index_only_is FastFirst h = absurd (cc)
index_only_is Sorted h = absurd (cc)
index_only_is IndexOnly h = refl

pub both_full : (v : Shape) → (is_building v.control && is_index_only v.strategy) ≡ true → next_control v.strategy v.control Full ≡ ForegroundAlone
both_full v b = ap (λ (x : Control). next_control v.strategy x Full) (building_is v.control (first_so (is_building v.control) (is_index_only v.strategy) b)) ∙ ap (λ (x : Strategy). next_control x Building Full) (index_only_is v.strategy (second_so (is_building v.control) (is_index_only v.strategy) b))

both_source : (v : Shape) (c : Control) → (is_building v.control && is_index_only v.strategy) ≡ true → (c ≡ v.control) ⊎ (c ≡ next_control v.strategy v.control Full) → source_of c v.strategy ≡ Ahead
both_source v c b (inl e) = ap (λ (x : Control). source_of x v.strategy) e ∙ both_ahead v.control v.strategy b
both_source v c b (inr e) = ap (λ (x : Control). source_of x v.strategy) (e ∙ both_full v b)

both_fits : (v : Shape) (new : Front) (d : List ℕ) (c : Control) (t : Trace) (shown : Shown) → (is_building v.control && is_index_only v.strategy) ≡ true → source_of c v.strategy ≡ Ahead → (is_building c ≡ true → length d < 1024) → SameFront v.front new → Follows (walk_of new) (front_entries v shown) → Agree v.query.only (rows_of v shown) (λ n. not (has_key n d)) (front_left new (front_entries v shown)) → RetrievalFits v shown → RetrievalFits (record v { front = new; delivered = d; control = c; trace = t }) shown
both_fits v new d c t shown b a room same follows agree f = record {
  ascend = f.ascend;
  read = f.read;
  columns = f.columns;
  at_snap = f.at_snap;
  joint = f.joint;
  scans = f.scans;
  planned = f.planned;
  front = λ h. front_again v.query v.strategy v.front new shown same follows (f.front h);
  led = λ e. f.led (both_ahead v.control v.strategy b);
  last = f.last;
  unbegun = λ e. f.unbegun (ap is_early (both_ahead v.control v.strategy b));
  listed = λ e. absurd (let bad : Ahead ≡ Keys = sym a ∙ e in cc);
  room = room;
  remembered = λ h n q. left_again v new shown n same ∙ agree n q;
  ordered = f.ordered;
  sorted = λ h. absurd (let bad : true ≡ false = sym h ∙ ap is_sorted (index_only_is v.strategy (second_so (is_building v.control) (is_index_only v.strategy) b)) in cc);
}

pub no_sort : (v : Shape) → (is_building v.control && is_index_only v.strategy) ≡ true → is_sorted v.strategy ≡ false
no_sort v b = ap is_sorted (index_only_is v.strategy (second_so (is_building v.control) (is_index_only v.strategy) b))

moves_on : (v mid new : Shape) (k : ℕ) → mid ≡ record v { front = mid.front } → Delivers mid new k → new ≡ record v { front = mid.front; delivered = new.delivered; control = new.control; trace = new.trace }
moves_on v mid new k e d = d.same ∙ ap (λ (m : Shape). record m { delivered = new.delivered; control = new.control; trace = new.trace }) e

both_goes : (v mid new : Shape) (k : ℕ) → mid ≡ record v { front = mid.front } → Delivers mid new k → ((new.control ≡ v.control) × (length new.delivered < 1024)) ⊎ (new.control ≡ next_control v.strategy v.control Full)
both_goes v mid new k e d = subst (λ (m : Shape). ((new.control ≡ m.control) × (length new.delivered < 1024)) ⊎ (new.control ≡ next_control m.strategy m.control Full)) e (delivered_control mid new k d)

both_adds : (v mid new : Shape) (k : ℕ) → mid ≡ record v { front = mid.front } → Delivers mid new k → AddsRow v.delivered new.delivered k
both_adds v mid new k e d = subst (λ (m : Shape). AddsRow m.delivered new.delivered k) e d.adds

pub both_found_fits : (v mid new : Shape) (r : Record) (shown : Shown) → (is_building v.control && is_index_only v.strategy) ≡ true → mid ≡ record v { front = mid.front } → SameFront v.front mid.front → Follows (walk_of mid.front) (front_entries v shown) → Delivers mid new r.row.0 → StepMarks v.query.need v.query.only (rows_of v shown) (Row r) (front_left v.front (front_entries v shown)) (front_left mid.front (front_entries v shown)) → RetrievalFits v shown → RetrievalFits new shown
both_found_fits v mid new r shown b e same follows d marks f =
    let goes = both_goes v mid new r.row.0 e d in
    subst (λ (x : Shape). RetrievalFits x shown) (sym (moves_on v mid new r.row.0 e d)) (both_fits v mid.front new.delivered new.control new.trace shown b (both_source v new.control b (first_of goes)) (still_room v new ForegroundAlone (both_full v b) refl goes) same follows (remember_agree v mid.front new.delivered shown r (both_adds v mid new r.row.0 e d) (f.remembered b) marks) f)

pub both_found_does : (v mid new : Shape) (r : Record) (shown : Shown) → (is_building v.control && is_index_only v.strategy) ≡ true → mid ≡ record v { front = mid.front } → SameFront v.front mid.front → Delivers mid new r.row.0 → StepMarks v.query.need v.query.only (rows_of v shown) (Row r) (front_left v.front (front_entries v shown)) (front_left mid.front (front_entries v shown)) → RetrievalFits v shown → DoesStep v new shown (Row r)
both_found_does v mid new r shown b e same d marks f =
    let next = record v { front = mid.front; delivered = new.delivered; control = new.control; trace = new.trace } in
    let a : source_of new.control v.strategy ≡ Ahead = both_source v new.control b (first_of (both_goes v mid new r.row.0 e d)) in
    let order : v.query.order ≡ [] = f.ordered (no_sort v b) in
    let step = marks_steps v.query.need v.query.order v.query.only (rows_of v shown) (Row r) (front_left v.front (front_entries v shown)) (front_left mid.front (front_entries v shown)) f.ascend order marks in
    let same_tests : rest_by (left_at Ahead next shown) v.query.only (rows_of v shown) ≡ rest_by (front_left mid.front (front_entries v shown)) v.query.only (rows_of v shown) = same_rest v.query.only (rows_of v shown) (front_left mid.front (front_entries v shown)) (left_at Ahead next shown) (λ n q. left_again v mid.front shown n same) in
    subst (λ (x : Shape). DoesStep v x shown (Row r)) (sym (moves_on v mid new r.row.0 e d)) (rw (rest_at v shown Ahead (both_ahead v.control v.strategy b), rest_at next shown Ahead a, same_tests) step)

-- Steps that begin at a value that has the same rest.

pub does_from : {E : Type 0} (r : Result (Step Record) E) (v mid new : Shape) (shown : Shown) → mid.query ≡ v.query → rest mid shown ≡ rest v shown → IfOk r (DoesStep mid new shown) → IfOk r (DoesStep v new shown)
does_from (Ok s) v mid new shown q e step = subst (λ (x : List Record). Steps v.query.need v.query.order s x (rest new shown)) e (subst (λ (x : Query). Steps x.need x.order s (rest mid shown) (rest new shown)) q step)
does_from (Err x) v mid new shown q e step = tt

pub rest_from : {T E : Type 0} (r : Result T E) (v mid new : Shape) (shown : Shown) → rest mid shown ≡ rest v shown → OnErr r (rest new shown ≡ rest mid shown) → OnErr r (rest new shown ≡ rest v shown)
rest_from (Ok x) v mid new shown e n = tt
rest_from (Err x) v mid new shown e n = n ∙ e
