-- A change of the control, of the joint scan or of what is borrowed leaves the fit and the rest.
use Rattle.std.proofs.Common.{◌≡◌, ℕ, ◌<◌, ◌⊎◌, List, length, Bool, true, false, not, ◌&&◌, refl, ap, sym, ◌∙◌, arith, rules, subst, Some, None, Option, is_some, inl, inr, IsSome, IfSome}
use Rattle.std.specs.Cmp.{first_so}
use Rattle.rv_final.proofs.Owed.{row_there}
use Rattle.rv_value.specs.declared.record.IndexEntry.{IndexEntry}
use Rattle.rv_keylist.specs.Keys.{has_key}
use Rattle.rv_judge.specs.declared.events.Strategy.{Strategy}
use Rattle.rv_judge.specs.declared.events.Strategy.TheVariants.{Table, BackgroundOnly, FastFirst, Sorted, IndexOnly, Union}
use Rattle.rv_judge.specs.declared.events.Control.{Control}
use Rattle.rv_judge.specs.declared.events.Control.TheVariants.{Building, ForegroundAlone, BackgroundAlone, FinalList, FinalTable, Done}
use Rattle.rv_judge.specs.declared.events.Trace.{Trace}
use Rattle.rv_judge.specs.declared.events.Happening.TheVariants.{ScanEnded, Ruled}
use Rattle.rv_judge.specs.declared.judging.Verdict.{Verdict}
use Rattle.rv_judge.specs.declared.judging.Verdict.TheVariants.{Continue, AbandonScan, AbandonForeground, AbandonBackground}
use Rattle.rv_judge.specs.Course.{next_control}
use Rattle.rv_reader.specs.Shown.{Shown}
use Rattle.rv_scan.specs.Places.{unseen}
use Rattle.rv_jscan.specs.declared.jscan.ScanPlan.{ScanPlan}
use Rattle.rv_jscan.specs.declared.jscan.Given.{Given}
use Rattle.rv_jscan.specs.declared.jscan.Given.TheVariants.{Accepted, Stale}
use Rattle.rv_jscan.specs.Joint.{CanMake, Covers, Joint, JointFits, meets, plan_at}
use Rattle.rv_jscan.specs.Pieces.{Pieced}
use Rattle.rv_jscan.specs.Steps.{Accepts, Gives, held_next}
use Rattle.rv_final.specs.Rest.{Agree, has_row, qualifies_at, rest_by}
use Rattle.rv_retrieval.specs.Shape.{Shape, RetrievalFits, Keeps, Leads, MayGo, BothSides, FromBuffer, Source, Undelivered, Ahead, Keys, Pages, Nowhere, rest, source, source_of, left_at, rows_of, is_background, is_building, is_index_only, is_sorted, is_led, is_early}
use Rattle.rv_final.specs.Stage.{keys_left}
use Rattle.rv_final.proofs.Rests.{same_rest}
use Rattle.rv_retrieval.proofs.Fronting.{in_completed}

pub keeps_trans : (a b c : Shape) → Keeps a b → Keeps b c → Keeps a c
keeps_trans a b c k l = record {
  query = l.query ∙ k.query;
  fits = λ shown f. l.fits shown (k.fits shown f);
  rest = λ shown f. l.rest shown (k.fits shown f) ∙ k.rest shown f;
}

pub keeps_same : (a b : Shape) → b ≡ a → Keeps a b
keeps_same a b e = subst (λ (x : Shape). Keeps a x) (sym e) record { query = refl; fits = λ shown f. f; rest = λ shown f. refl }

pub rest_at : (v : Shape) (shown : Shown) (s : Source) → source v ≡ s → rest v shown ≡ rest_by (left_at s v shown) v.query.only (rows_of v shown)
rest_at v shown s e = ap (λ (x : Source). rest_by (left_at x v shown) v.query.only (rows_of v shown)) e

pub in_list : (v : Shape) (shown : Shown) (n : ℕ) → RetrievalFits v shown → qualifies_at v.query.only (rows_of v shown) n ≡ true → IsSome v.joint.list → has_key n (keys_left v.joint.list 0) ≡ true
in_list v shown n f q s = by_list v.joint.list s f.joint.covers
  where
    by_list : (l : Option (List ℕ)) → IsSome l → IfSome l (Covers v.joint shown) → has_key n (keys_left l 0) ≡ true
    by_list None s c = absurd (cc)
    by_list (Some keys) s c = c n (in_completed v shown n f q)

pub both_ahead : (c : Control) (s : Strategy) → (is_building c && is_index_only s) ≡ true → source_of c s ≡ Ahead
both_ahead Building Table h = absurd (cc)
both_ahead Building BackgroundOnly h = absurd (cc)
both_ahead Building Union h = absurd (cc)
both_ahead Building FastFirst h = absurd (cc)
both_ahead Building Sorted h = absurd (cc)
both_ahead Building IndexOnly h = refl
both_ahead ForegroundAlone s h = absurd (cc)
both_ahead BackgroundAlone s h = absurd (cc)
both_ahead FinalList s h = absurd (cc)
both_ahead FinalTable s h = absurd (cc)
both_ahead Done s h = absurd (cc)

from_buffer : (v : Shape) (shown : Shown) (n : ℕ) → FromBuffer v → RetrievalFits v shown → qualifies_at v.query.only (rows_of v shown) n ≡ true → left_at (source v) v shown n ≡ not (has_key n v.delivered)
from_buffer v shown n (inl u) f q = ap (λ (s : Source). left_at s v shown n) u
from_buffer v shown n (inr b) f q = ap (λ (s : Source). left_at s v shown n) (both_ahead v.control v.strategy b) ∙ f.remembered b n q

early_buffer : (v : Shape) → FromBuffer v → is_early (source v) ≡ true
early_buffer v (inl u) = ap is_early u
early_buffer v (inr b) = ap is_early (both_ahead v.control v.strategy b)

first_true : (a b : Bool) → a ≡ true → (a && b) ≡ b
first_true a b h = grind arith

-- a switch changes what is left of no row that qualifies
pub switch_left : (v : Shape) (shown : Shown) (s : Source) → RetrievalFits v shown → Leads v s → Agree v.query.only (rows_of v shown) (left_at (source v) v shown) (left_at s v shown)
switch_left v shown s f (inl e) n q = ap (λ (x : Source). left_at x v shown n) e
switch_left v shown s f (inr (inl b)) n q = ap (λ (x : Source). left_at x v shown n) b.1 ∙ sym (from_buffer v shown n b.0 f q)
switch_left v shown s f (inr (inr (inl k))) n q =
    let start = f.unbegun (early_buffer v k.0) in
    let here : has_key n (keys_left v.joint.list v.at) ≡ true = ap (λ (i : ℕ). has_key n (keys_left v.joint.list i)) start.keys ∙ in_list v shown n f q k.2 in
    ap (λ (x : Source). left_at x v shown n) k.1 ∙ first_true (has_key n (keys_left v.joint.list v.at)) (not (has_key n v.delivered)) here ∙ sym (from_buffer v shown n k.0 f q)
switch_left v shown s f (inr (inr (inr p))) n q =
    let start = f.unbegun (ap is_early p.0) in
    let all : has_row n (unseen v.last (rows_of v shown)) ≡ true = ap (has_row n) (start.pages (rows_of v shown)) ∙ row_there v.query.only (rows_of v shown) n q in
    ap (λ (x : Source). left_at x v shown n) p.1 ∙ first_true (has_row n (unseen v.last (rows_of v shown))) (not (has_key n v.delivered)) all ∙ sym (from_buffer v shown n (inl p.0) f q)

-- what a switch leads to
sorted_source : (v : Shape) (shown : Shown) → RetrievalFits v shown → is_sorted v.strategy ≡ true → source v ≡ Undelivered → Nowhere ≡ Ahead
sorted_source v shown f s u = by (f.sorted s)
  where
    by : ((source v ≡ Ahead) ⊎ (source v ≡ Nowhere)) → Nowhere ≡ Ahead
    by (inl a) = absurd (let bad : Undelivered ≡ Ahead = sym u ∙ a in cc)
    by (inr a) = absurd (let bad : Undelivered ≡ Nowhere = sym u ∙ a in cc)

not_both : (s : Strategy) (c : Control) → is_sorted s ≡ true → (is_building c && is_index_only s) ≡ false
not_both Table c h = absurd (cc)
not_both BackgroundOnly c h = absurd (cc)
not_both Union c h = absurd (cc)
not_both FastFirst c h = absurd (cc)
not_both Sorted c h = no (is_building c)
  where
    no : (b : Bool) → (b && false) ≡ false
    no b = grind arith
not_both IndexOnly c h = absurd (cc)

no_buffer : (v : Shape) (shown : Shown) {X : Type 0} → RetrievalFits v shown → is_sorted v.strategy ≡ true → FromBuffer v → X
no_buffer v shown f s (inl u) = absurd (let bad = sorted_source v shown f s u in cc)
no_buffer v shown f s (inr b) = absurd (let bad : true ≡ false = sym b ∙ not_both v.strategy v.control s in cc)

led_after : (v : Shape) (shown : Shown) (s : Source) → RetrievalFits v shown → Leads v s → s ≡ Ahead → is_led v.strategy ≡ true
led_after v shown s f (inl e) a = f.led (sym e ∙ a)
led_after v shown s f (inr (inl b)) a = absurd (let bad : Undelivered ≡ Ahead = sym b.1 ∙ a in cc)
led_after v shown s f (inr (inr (inl k))) a = absurd (let bad : Keys ≡ Ahead = sym k.1 ∙ a in cc)
led_after v shown s f (inr (inr (inr p))) a = absurd (let bad : Pages ≡ Ahead = sym p.1 ∙ a in cc)

early_after : (v : Shape) (s : Source) → Leads v s → is_early s ≡ true → is_early (source v) ≡ true
early_after v s (inl e) h = ap is_early (sym e) ∙ h
early_after v s (inr (inl b)) h = early_buffer v b.0
early_after v s (inr (inr (inl k))) h = early_buffer v k.0
early_after v s (inr (inr (inr p))) h = ap is_early p.0

listed_after : (v : Shape) (shown : Shown) (s : Source) → RetrievalFits v shown → Leads v s → s ≡ Keys → IsSome v.joint.list
listed_after v shown s f (inl e) a = f.listed (sym e ∙ a)
listed_after v shown s f (inr (inl b)) a = absurd (let bad : Undelivered ≡ Keys = sym b.1 ∙ a in cc)
listed_after v shown s f (inr (inr (inl k))) a = k.2
listed_after v shown s f (inr (inr (inr p))) a = absurd (let bad : Pages ≡ Keys = sym p.1 ∙ a in cc)

sorted_after : (v : Shape) (shown : Shown) (s : Source) → RetrievalFits v shown → Leads v s → is_sorted v.strategy ≡ true → (s ≡ Ahead) ⊎ (s ≡ Nowhere)
sorted_after v shown s f (inl e) h = by (f.sorted h)
  where
    by : ((source v ≡ Ahead) ⊎ (source v ≡ Nowhere)) → (s ≡ Ahead) ⊎ (s ≡ Nowhere)
    by (inl a) = inl (e ∙ a)
    by (inr a) = inr (e ∙ a)
sorted_after v shown s f (inr (inl b)) h = no_buffer v shown f h b.0
sorted_after v shown s f (inr (inr (inl k))) h = no_buffer v shown f h k.0
sorted_after v shown s f (inr (inr (inr p))) h = no_buffer v shown f h (inl p.0)

pub switch_fits : (v : Shape) (shown : Shown) (c : Control) (t : Trace) → MayGo v c → RetrievalFits v shown → RetrievalFits (record v { control = c; trace = t }) shown
switch_fits v shown c t m f = record {
  ascend = f.ascend;
  read = f.read;
  columns = f.columns;
  at_snap = f.at_snap;
  joint = f.joint;
  scans = f.scans;
  planned = f.planned;
  front = f.front;
  led = λ e. led_after v shown (source_of c v.strategy) f m.leads e;
  last = f.last;
  unbegun = λ e. f.unbegun (early_after v (source_of c v.strategy) m.leads e);
  listed = λ e. listed_after v shown (source_of c v.strategy) f m.leads e;
  room = λ b. f.room (ap is_building (sym (m.stays b)) ∙ b);
  remembered = λ b. f.remembered (ap (λ (x : Control). is_building x && is_index_only v.strategy) (sym (m.stays (first_so (is_building c) (is_index_only v.strategy) b))) ∙ b);
  ordered = f.ordered;
  sorted = λ h. sorted_after v shown (source_of c v.strategy) f m.leads h;
}

pub switch_keeps : (v new : Shape) (c : Control) → new ≡ record v { control = c; trace = new.trace } → MayGo v c → Keeps v new
switch_keeps v new c e m = subst (λ (x : Shape). Keeps v x) (sym e) record {
  query = refl;
  fits = λ shown f. switch_fits v shown c new.trace m f;
  rest = λ shown f. same_rest v.query.only (rows_of v shown) (left_at (source v) v shown) (left_at (source_of c v.strategy) v shown) (switch_left v shown (source_of c v.strategy) f m.leads);
}

-- A change of what is borrowed, of the guarantee and of the trace alone.
pub aside_keeps : (v new : Shape) (b g : ℕ) (t : Trace) → new ≡ record v { borrowed = b; guaranteed = g; trace = t } → Keeps v new
aside_keeps v new b g t e = subst (λ (x : Shape). Keeps v x) (sym e) record {
  query = refl;
  fits = λ shown f. record { ascend = f.ascend; read = f.read; columns = f.columns; at_snap = f.at_snap; joint = f.joint; scans = f.scans; planned = f.planned; front = f.front; led = f.led; last = f.last; unbegun = f.unbegun; listed = f.listed; room = f.room; remembered = f.remembered; ordered = f.ordered; sorted = f.sorted };
  rest = λ shown f. refl;
}

pub borrow_keeps : (v new : Shape) (b : ℕ) → new ≡ record v { borrowed = b } → Keeps v new
borrow_keeps v new b e = aside_keeps v new b v.guaranteed v.trace e

pub trace_keeps : (v new : Shape) (t : Trace) → new ≡ record v { trace = t } → Keeps v new
trace_keeps v new t e = aside_keeps v new v.borrowed v.guaranteed t e

-- A change of the joint scan alone, while pieces are awaited.

back_source : (c : Control) (s : Strategy) → is_background c ≡ true → (source_of c s ≡ Undelivered) ⊎ (source_of c s ≡ Ahead)
back_source Building Table h = inl refl
back_source Building BackgroundOnly h = inl refl
back_source Building Union h = inl refl
back_source Building FastFirst h = inl refl
back_source Building Sorted h = inr refl
back_source Building IndexOnly h = inr refl
back_source BackgroundAlone s h = inl refl
back_source ForegroundAlone s h = absurd (cc)
back_source FinalList s h = absurd (cc)
back_source FinalTable s h = absurd (cc)
back_source Done s h = absurd (cc)

joint_left : (v : Shape) (j : Joint) (shown : Shown) (n : ℕ) (s : Source) → (s ≡ Undelivered) ⊎ (s ≡ Ahead) → left_at s (record v { joint = j }) shown n ≡ left_at s v shown n
joint_left v j shown n s (inl e) = ap (λ (x : Source). left_at x (record v { joint = j }) shown n) e ∙ sym (ap (λ (x : Source). left_at x v shown n) e)
joint_left v j shown n s (inr e) = ap (λ (x : Source). left_at x (record v { joint = j }) shown n) e ∙ sym (ap (λ (x : Source). left_at x v shown n) e)

no_keys : (s : Source) → (s ≡ Undelivered) ⊎ (s ≡ Ahead) → s ≡ Keys → true ≡ false
no_keys s (inl a) e = absurd (let bad : Undelivered ≡ Keys = sym a ∙ e in cc)
no_keys s (inr a) e = absurd (let bad : Ahead ≡ Keys = sym a ∙ e in cc)

-- the same plans at the same snapshot
pub record SamePlans (old new : Joint) : Type 0 where
  pub plans : new.plans ≡ old.plans
  pub snap : new.snap ≡ old.snap

pub joint_rest : (v : Shape) (j : Joint) (shown : Shown) → is_background v.control ≡ true → rest (record v { joint = j }) shown ≡ rest v shown
joint_rest v j shown b = same_rest v.query.only (rows_of v shown) (left_at (source v) v shown) (left_at (source v) (record v { joint = j }) shown) (λ n q. joint_left v j shown n (source v) (back_source v.control v.strategy b))

pub joint_fits : (v : Shape) (j : Joint) (shown : Shown) → is_background v.control ≡ true → SamePlans v.joint j → JointFits j shown → RetrievalFits v shown → RetrievalFits (record v { joint = j }) shown
joint_fits v j shown b p k f = record {
  ascend = f.ascend;
  read = f.read;
  columns = f.columns;
  at_snap = p.snap ∙ f.at_snap;
  joint = k;
  scans = record { each = subst (λ (ps : List ScanPlan). (i : ℕ) → i < length ps → CanMake (plan_at ps i) shown j.snap) (sym p.plans) (subst (λ (s : ℕ). (i : ℕ) → i < length v.joint.plans → CanMake (plan_at v.joint.plans i) shown s) (sym p.snap) f.scans.each) };
  planned = subst (λ (ps : List ScanPlan). (i : ℕ) → i < length ps → (n : ℕ) → qualifies_at v.query.only (rows_of v shown) n ≡ true → meets (plan_at ps i) shown j.snap n ≡ true) (sym p.plans) (subst (λ (s : ℕ). (i : ℕ) → i < length v.joint.plans → (n : ℕ) → qualifies_at v.query.only (rows_of v shown) n ≡ true → meets (plan_at v.joint.plans i) shown s n ≡ true) (sym p.snap) f.planned);
  front = f.front;
  led = f.led;
  last = f.last;
  unbegun = f.unbegun;
  listed = λ e. absurd (let bad = no_keys (source v) (back_source v.control v.strategy b) e in cc);
  room = f.room;
  remembered = f.remembered;
  ordered = f.ordered;
  sorted = f.sorted;
}

pub joint_keeps : (v new : Shape) (j : Joint) → new ≡ record v { joint = j } → is_background v.control ≡ true → SamePlans v.joint j → ((shown : Shown) → JointFits v.joint shown → JointFits j shown) → Keeps v new
joint_keeps v new j e b p k = subst (λ (x : Shape). Keeps v x) (sym e) record {
  query = refl;
  fits = λ shown f. joint_fits v j shown b p (k shown f.joint) f;
  rest = λ shown f. joint_rest v j shown b;
}

accepts_plans : (old new : Joint) (entries : List IndexEntry) (next : Option IndexEntry) → Accepts old new entries next → SamePlans old new
accepts_plans old new entries (Some cut) a = record { plans = ap (λ (j : Joint). j.plans) a; snap = ap (λ (j : Joint). j.snap) a }
accepts_plans old new entries None a = record { plans = ap (λ (j : Joint). j.plans) a.3; snap = ap (λ (j : Joint). j.snap) a.3 }

pub gives_plans : (old new : Joint) (piece : Pieced) (g : Given) → Gives old piece g new → SamePlans old new
gives_plans old new piece Accepted g = accepts_plans old new piece.entries (held_next old.held) g.1
gives_plans old new piece (Stale asked now) g = record { plans = ap (λ (j : Joint). j.plans) g.3; snap = ap (λ (j : Joint). j.snap) g.3 }

-- Where a scan's end and a verdict lead.

stay : (v : Shape) (c : Control) → v.control ≡ c → MayGo v c
stay v c e = record { leads = inl (ap (λ (x : Control). source_of x v.strategy) (sym e)); stays = λ b. sym e }

source_is : (v : Shape) (c : Control) (s : Strategy) → v.control ≡ c → v.strategy ≡ s → source v ≡ source_of c s
source_is v c s ec es = ap (λ (x : Control). source_of x v.strategy) ec ∙ ap (source_of c) es

both_is : (v : Shape) → v.control ≡ Building → v.strategy ≡ IndexOnly → BothSides v
both_is v ec es = ap (λ (x : Control). is_building x && is_index_only v.strategy) ec ∙ ap is_index_only es

is_there : (o : Option (List ℕ)) (keys : List ℕ) → o ≡ Some keys → IsSome o
is_there o keys e = subst (λ (x : Option (List ℕ)). IsSome x) (sym e) (search rules)

to_list : (v : Shape) → FromBuffer v → IsSome v.joint.list → MayGo v FinalList
to_list v b s = record { leads = inr (inr (inl (b, refl, s))); stays = λ h. absurd (cc) }

to_table : (v : Shape) → source v ≡ Undelivered → MayGo v FinalTable
to_table v u = record { leads = inr (inr (inr (u, refl))); stays = λ h. absurd (cc) }

to_front : (v : Shape) → source v ≡ Ahead → MayGo v ForegroundAlone
to_front v a = record { leads = inl (sym a); stays = λ h. absurd (cc) }

to_back : (v : Shape) → FromBuffer v → MayGo v BackgroundAlone
to_back v b = record { leads = inr (inl (b, refl)); stays = λ h. absurd (cc) }

pub goes_ended : (v : Shape) (more : Bool) → MayGo v (next_control v.strategy v.control (ScanEnded more (is_some v.joint.list)))
goes_ended v more = go v.strategy v.control more v.joint.list refl refl refl
  where
    go : (s : Strategy) (c : Control) (m : Bool) (l : Option (List ℕ)) → v.strategy ≡ s → v.control ≡ c → v.joint.list ≡ l → MayGo v (next_control s c (ScanEnded m (is_some l)))
    go s Building true l es ec el = stay v Building ec
    go Table Building false l es ec el = stay v Building ec
    go BackgroundOnly Building false l es ec el = stay v Building ec
    go Union Building false l es ec el = stay v Building ec
    go FastFirst Building false (Some keys) es ec el = to_list v (inl (source_is v Building FastFirst ec es)) (is_there v.joint.list keys el)
    go FastFirst Building false None es ec el = to_table v (source_is v Building FastFirst ec es)
    go Sorted Building false l es ec el = to_front v (source_is v Building Sorted ec es)
    go IndexOnly Building false (Some keys) es ec el = to_list v (inr (both_is v ec es)) (is_there v.joint.list keys el)
    go IndexOnly Building false None es ec el = to_front v (source_is v Building IndexOnly ec es)
    go s BackgroundAlone true l es ec el = stay v BackgroundAlone ec
    go s BackgroundAlone false (Some keys) es ec el = to_list v (inl (source_is v BackgroundAlone s ec es)) (is_there v.joint.list keys el)
    go s BackgroundAlone false None es ec el = to_table v (source_is v BackgroundAlone s ec es)
    go Table ForegroundAlone m l es ec el = stay v ForegroundAlone ec
    go BackgroundOnly ForegroundAlone m l es ec el = stay v ForegroundAlone ec
    go Union ForegroundAlone m l es ec el = stay v ForegroundAlone ec
    go FastFirst ForegroundAlone m l es ec el = stay v ForegroundAlone ec
    go Sorted ForegroundAlone m l es ec el = stay v ForegroundAlone ec
    go IndexOnly ForegroundAlone m l es ec el = stay v ForegroundAlone ec
    go s FinalList m l es ec el = stay v FinalList ec
    go s FinalTable m l es ec el = stay v FinalTable ec
    go s Done m l es ec el = stay v Done ec

pub goes_ruled : (v : Shape) (verdict : Verdict) (more : Bool) → MayGo v (next_control v.strategy v.control (Ruled verdict more (is_some v.joint.list)))
goes_ruled v verdict more = go v.strategy v.control verdict more v.joint.list refl refl refl
  where
    go : (s : Strategy) (c : Control) (w : Verdict) (m : Bool) (l : Option (List ℕ)) → v.strategy ≡ s → v.control ≡ c → v.joint.list ≡ l → MayGo v (next_control s c (Ruled w m (is_some l)))
    go Table Building Continue m l es ec el = stay v Building ec
    go BackgroundOnly Building Continue m l es ec el = stay v Building ec
    go Union Building Continue m l es ec el = stay v Building ec
    go FastFirst Building Continue m l es ec el = stay v Building ec
    go Sorted Building Continue m l es ec el = stay v Building ec
    go IndexOnly Building Continue m l es ec el = stay v Building ec
    go s Building AbandonScan true l es ec el = stay v Building ec
    go Table Building AbandonScan false l es ec el = stay v Building ec
    go BackgroundOnly Building AbandonScan false l es ec el = stay v Building ec
    go Union Building AbandonScan false l es ec el = stay v Building ec
    go FastFirst Building AbandonScan false (Some keys) es ec el = to_list v (inl (source_is v Building FastFirst ec es)) (is_there v.joint.list keys el)
    go FastFirst Building AbandonScan false None es ec el = to_table v (source_is v Building FastFirst ec es)
    go Sorted Building AbandonScan false l es ec el = to_front v (source_is v Building Sorted ec es)
    go IndexOnly Building AbandonScan false (Some keys) es ec el = to_list v (inr (both_is v ec es)) (is_there v.joint.list keys el)
    go IndexOnly Building AbandonScan false None es ec el = to_front v (source_is v Building IndexOnly ec es)
    go Table Building AbandonForeground m l es ec el = stay v Building ec
    go BackgroundOnly Building AbandonForeground m l es ec el = stay v Building ec
    go Union Building AbandonForeground m l es ec el = stay v Building ec
    go FastFirst Building AbandonForeground m l es ec el = to_back v (inl (source_is v Building FastFirst ec es))
    go Sorted Building AbandonForeground m l es ec el = stay v Building ec
    go IndexOnly Building AbandonForeground m l es ec el = to_back v (inr (both_is v ec es))
    go Table Building AbandonBackground m l es ec el = stay v Building ec
    go BackgroundOnly Building AbandonBackground m l es ec el = stay v Building ec
    go Union Building AbandonBackground m l es ec el = stay v Building ec
    go FastFirst Building AbandonBackground m (Some keys) es ec el = to_list v (inl (source_is v Building FastFirst ec es)) (is_there v.joint.list keys el)
    go FastFirst Building AbandonBackground m None es ec el = to_table v (source_is v Building FastFirst ec es)
    go Sorted Building AbandonBackground m l es ec el = to_front v (source_is v Building Sorted ec es)
    go IndexOnly Building AbandonBackground m l es ec el = to_front v (source_is v Building IndexOnly ec es)
    go s BackgroundAlone Continue m l es ec el = stay v BackgroundAlone ec
    go s BackgroundAlone AbandonScan true l es ec el = stay v BackgroundAlone ec
    go s BackgroundAlone AbandonScan false (Some keys) es ec el = to_list v (inl (source_is v BackgroundAlone s ec es)) (is_there v.joint.list keys el)
    go s BackgroundAlone AbandonScan false None es ec el = to_table v (source_is v BackgroundAlone s ec es)
    go s BackgroundAlone AbandonForeground m l es ec el = stay v BackgroundAlone ec
    go s BackgroundAlone AbandonBackground m (Some keys) es ec el = to_list v (inl (source_is v BackgroundAlone s ec es)) (is_there v.joint.list keys el)
    go s BackgroundAlone AbandonBackground m None es ec el = to_table v (source_is v BackgroundAlone s ec es)
    go Table ForegroundAlone w m l es ec el = stay v ForegroundAlone ec
    go BackgroundOnly ForegroundAlone w m l es ec el = stay v ForegroundAlone ec
    go Union ForegroundAlone w m l es ec el = stay v ForegroundAlone ec
    go FastFirst ForegroundAlone w m l es ec el = stay v ForegroundAlone ec
    go Sorted ForegroundAlone w m l es ec el = stay v ForegroundAlone ec
    go IndexOnly ForegroundAlone w m l es ec el = stay v ForegroundAlone ec
    go s FinalList w m l es ec el = stay v FinalList ec
    go s FinalTable w m l es ec el = stay v FinalTable ec
    go s Done w m l es ec el = stay v Done ec
