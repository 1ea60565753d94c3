-- A retrieval before its first step.
use Rattle.std.proofs.Common.{◌≡◌, ℕ, ◌+◌, ◌<◌, List, [], length, Bool, true, false, not, refl, ap, sym, ◌∙◌, arith, subst, inl}
use Rattle.std.proofs.lemmas.Bool.{and_from, or_right}
use Rattle.std.specs.Cmp.{second_so}
use Rattle.rv_final.proofs.Owed.{all_qualifying, row_there}
use Rattle.rv_value.specs.declared.record.Record.{Record}
use Rattle.rv_keylist.specs.Keys.{has_key}
use Rattle.rv_judge.specs.declared.events.Strategy.{Strategy}
use Rattle.rv_judge.specs.declared.events.Strategy.TheVariants.{Table, BackgroundOnly, FastFirst, Sorted, IndexOnly, Union}
use Rattle.rv_judge.specs.declared.events.Control.{Control}
use Rattle.rv_judge.specs.Tracing.{NothingCounted, new_trace}
use Rattle.rv_reader.specs.Shown.{Shown}
use Rattle.rv_scan.specs.Places.{unseen, Fits as PlaceFits, work as pages_work}
use Rattle.rv_jscan.specs.declared.jscan.ScanPlan.{ScanPlan}
use Rattle.rv_jscan.specs.Joint.{CanTake, Joint, JointFits, meets, plan_at}
use Rattle.rv_jscan.specs.Steps.{begun}
use Rattle.rv_final.specs.Rest.{qualifies_at, qualifying, has_row}
use Rattle.rv_final.specs.Stage.{Unbegun}
use Rattle.rv_retrieval.specs.Opened.{Made, has_scans}
use Rattle.rv_retrieval.specs.Opens.{Opens, first_of}
use Rattle.rv_retrieval.specs.Shape.{Shape, RetrievalFits, Source, Undelivered, Ahead, Keys, Pages, rest, source, source_of, left_at, rows_of, is_building, is_index_only, is_sorted, is_led}
use Rattle.rv_final.proofs.Rests.{same_rest}

first_led : (s : Strategy) (b : Bool) → source_of (first_of s b) s ≡ Ahead → is_led s ≡ true
first_led Table b h = absurd (let bad : Pages ≡ Ahead = h in cc)
first_led BackgroundOnly b h = absurd (let bad : Undelivered ≡ Ahead = h in cc)
first_led Union b h = absurd (let bad : Undelivered ≡ Ahead = h in cc)
first_led FastFirst b h = absurd (let bad : Undelivered ≡ Ahead = h in cc)
first_led Sorted b h = refl
first_led IndexOnly b h = refl

first_no_keys : (s : Strategy) (b : Bool) → source_of (first_of s b) s ≡ Keys → true ≡ false
first_no_keys Table b h = absurd (let bad : Pages ≡ Keys = h in cc)
first_no_keys BackgroundOnly b h = absurd (let bad : Undelivered ≡ Keys = h in cc)
first_no_keys Union b h = absurd (let bad : Undelivered ≡ Keys = h in cc)
first_no_keys FastFirst b h = absurd (let bad : Undelivered ≡ Keys = h in cc)
first_no_keys Sorted true h = absurd (let bad : Ahead ≡ Keys = h in cc)
first_no_keys Sorted false h = absurd (let bad : Ahead ≡ Keys = h in cc)
first_no_keys IndexOnly true h = absurd (let bad : Ahead ≡ Keys = h in cc)
first_no_keys IndexOnly false h = absurd (let bad : Ahead ≡ Keys = h in cc)

first_sorted : (s : Strategy) (b : Bool) → is_sorted s ≡ true → source_of (first_of s b) s ≡ Ahead
first_sorted Table b h = absurd (cc)
first_sorted BackgroundOnly b h = absurd (cc)
first_sorted Union b h = absurd (cc)
first_sorted FastFirst b h = absurd (cc)
first_sorted Sorted true h = refl
first_sorted Sorted false h = refl
first_sorted IndexOnly b h = absurd (cc)

index_only_led : (s : Strategy) → is_index_only s ≡ true → is_led s ≡ true
index_only_led s h = or_right (is_sorted s) (is_index_only s) h

-- what is known of a retrieval that was made of its parts
pub record Fresh (v : Shape) (scans : List ScanPlan) (cursor opening : ℕ) (some : Bool) : Type 0 where
  pub joint : v.joint ≡ begun v.query.table v.query.snap scans cursor opening
  pub control : v.control ≡ first_of v.strategy some
  pub delivered : v.delivered ≡ []
  pub at : v.at ≡ 0
  pub of_table : v.last.table ≡ v.query.table
  pub at_snap : v.last.snap ≡ v.query.snap
  pub drawn : (rows : List Record) → PlaceFits v.last rows
  pub pages : (rows : List Record) → unseen v.last rows ≡ rows

source_first : (v : Shape) (scans : List ScanPlan) (cursor opening : ℕ) (some : Bool) → Fresh v scans cursor opening some → source v ≡ source_of (first_of v.strategy some) v.strategy
source_first v scans cursor opening some n = ap (λ (c : Control). source_of c v.strategy) n.control

none_delivered : (v : Shape) (scans : List ScanPlan) (cursor opening : ℕ) (some : Bool) (n : ℕ) → Fresh v scans cursor opening some → not (has_key n v.delivered) ≡ true
none_delivered v scans cursor opening some n f = ap (λ (ks : List ℕ). not (has_key n ks)) f.delivered

pub opened_fits : (v : Shape) (scans : List ScanPlan) (cursor opening : ℕ) (some : Bool) (shown : Shown) → Fresh v scans cursor opening some → JointFits v.joint shown → Opens v.query v.strategy scans v.front shown → RetrievalFits v shown
opened_fits v scans cursor opening some shown n j o = record {
  ascend = o.ascend;
  read = o.read;
  columns = o.columns;
  at_snap = ap (λ (x : Joint). x.snap) n.joint;
  joint = j;
  scans = subst (λ (x : Joint). CanTake x shown) (sym n.joint) (record { each = o.each });
  planned = subst (λ (x : Joint). (i : ℕ) → i < length x.plans → (k : ℕ) → qualifies_at v.query.only (rows_of v shown) k ≡ true → meets (plan_at x.plans i) shown x.snap k ≡ true) (sym n.joint) o.planned;
  front = o.led;
  led = λ h. first_led v.strategy some (sym (source_first v scans cursor opening some n) ∙ h);
  last = record { of_table = n.of_table; at_snap = n.at_snap; drawn = n.drawn (rows_of v shown) };
  unbegun = λ h. record { keys = n.at; pages = n.pages };
  listed = λ h. absurd (let bad = first_no_keys v.strategy some (sym (source_first v scans cursor opening some n) ∙ h) in cc);
  room = λ h. let z = ap length n.delivered in omega arith;
  remembered = λ h k q. o.all (index_only_led v.strategy (second_so (is_building v.control) (is_index_only v.strategy) h)) k q ∙ sym (none_delivered v scans cursor opening some k n);
  ordered = o.ordered;
  sorted = λ h. inl (source_first v scans cursor opening some n ∙ first_sorted v.strategy some h);
}

pub opened_rest : (v : Shape) (scans : List ScanPlan) (cursor opening : ℕ) (some : Bool) (shown : Shown) → Fresh v scans cursor opening some → Opens v.query v.strategy scans v.front shown → rest v shown ≡ qualifying v.query.only (rows_of v shown)
opened_rest v scans cursor opening some shown n o = same_rest v.query.only (rows_of v shown) (λ k. true) (left_at (source v) v shown) (λ k q. ap (λ (x : Source). left_at x v shown k) (source_first v scans cursor opening some n) ∙ go v.strategy some refl k q) ∙ all_qualifying v.query.only (rows_of v shown)
  where
    undelivered : (k : ℕ) → left_at Undelivered v shown k ≡ true
    undelivered k = none_delivered v scans cursor opening some k n

    go : (s : Strategy) (b : Bool) → v.strategy ≡ s → (k : ℕ) → qualifies_at v.query.only (rows_of v shown) k ≡ true → left_at (source_of (first_of s b) s) v shown k ≡ true
    go Table b e k q = and_from (has_row k (unseen v.last (rows_of v shown))) (not (has_key k v.delivered)) (ap (has_row k) (n.pages (rows_of v shown)) ∙ row_there v.query.only (rows_of v shown) k q) (none_delivered v scans cursor opening some k n)
    go BackgroundOnly b e k q = undelivered k
    go Union b e k q = undelivered k
    go FastFirst b e k q = undelivered k
    go Sorted true e k q = o.all (ap is_led e) k q
    go Sorted false e k q = o.all (ap is_led e) k q
    go IndexOnly true e k q = o.all (ap is_led e) k q
    go IndexOnly false e k q = o.all (ap is_led e) k q

-- what was made of its parts
pub made_of :
    (v : Shape) (scans : List ScanPlan) (cursor opening : ℕ)
    → v.trace ≡ new_trace v.strategy → v.borrowed ≡ 0 → Unbegun v.at v.last
    → ((rows : List Record) (pages : ℕ) → pages_work v.last rows pages ≡ length rows + pages)
    → Fresh v scans cursor opening (has_scans scans)
    → ((shown : Shown) → Opens v.query v.strategy scans v.front shown → JointFits v.joint shown)
    → Made v.query v.strategy scans v.front v.guaranteed cursor opening v
made_of v scans cursor opening told borrowed unbegun work fresh drawn = record {
  begun = record {
    asked = refl;
    chosen = refl;
    joint = fresh.joint;
    front = refl;
    fresh = fresh.delivered;
    bound = refl;
    started = fresh.control;
    counts = subst NothingCounted (sym told) (record { pages = refl; leaves = refl; fetches = refl });
    borrowed = borrowed;
    unbegun = unbegun;
  };
  told = told;
  last = work;
  fits = λ shown o. opened_fits v scans cursor opening (has_scans scans) shown fresh (drawn shown o) o;
  rest = λ shown o. opened_rest v scans cursor opening (has_scans scans) shown fresh o;
}
