-- Joint scans that are drawn from what a store shows, and what their calls leave.
use Rattle.std.proofs.Common.{zero, suc, ◌≡◌, ℕ, ◌<◌, List, [], ◌∷◌, true, false, Some, None, Option, refl, sym, ap, arith, length, subst}
use Rattle.std.specs.List.{AllByRecursion}
use Rattle.rv_value.specs.declared.record.IndexEntry.{IndexEntry}
use Rattle.rv_reader.specs.Shown.{Shown}
use Rattle.rv_reader.specs.Storing.{AreKeys}
use Rattle.rv_jscan.specs.declared.jscan.ScanPlan.{ScanPlan}
use Rattle.rv_jscan.specs.declared.jscan.Given.{Given}
use Rattle.rv_jscan.specs.declared.jscan.Given.TheVariants.{Accepted, Stale}
use Rattle.rv_jscan.specs.Entries.{Apart}
use Rattle.rv_jscan.specs.Pieces.{Pieced}
use Rattle.rv_jscan.specs.Joint.{CanMake, CanTake, Joint, JointFits, no_plan, plan_at, under_way}
use Rattle.rv_jscan.specs.Steps.{Accepts, Gives, TakeLeaves, abandoned, begun, completed, going, held_next}
use Rattle.rv_loading.specs.declared.schema.Loaded.{Loaded}
use Rattle.rv_loading.specs.Laid.{Offers, OffersIndex, over_at}
use Rattle.rv_loading.proofs.Offering.{keys_offered, suits_short}
use Rattle.try_stores.specs.Drawing.{Drawn, HasTwo, IsPlan, Lists}
use Rattle.rv_jscan.proofs.Apart.{entries_apart}

long_of : (loaded : Loaded) (index : ℕ) → HasTwo loaded → index < 2 → length (over_at loaded.schema.indexes index).columns ≡ 1
long_of loaded zero two low = two.first
long_of loaded (suc zero) two low = two.second
long_of loaded (suc (suc n)) two low = absurd (omega arith)

offered : (loaded : Loaded) (shown : Shown) (index : ℕ) → Offers loaded shown → HasTwo loaded → index < 2 → OffersIndex loaded.schema loaded.layout shown loaded.snap index
offered loaded shown index offers two low = offers.index index (let both = two.both in omega arith)

apart_offered : (loaded : Loaded) (shown : Shown) (index : ℕ) → Offers loaded shown → OffersIndex loaded.schema loaded.layout shown loaded.snap index → Apart (shown.entries index loaded.snap)
apart_offered loaded shown index offers one =
    let over = over_at loaded.schema.indexes index in
    subst Apart (sym one.entries) (entries_apart over.columns (shown.rows over.table loaded.snap) (offers.ascend over.table one.table))

pub lists_offered : (loaded : Loaded) (shown : Shown) → Offers loaded shown → HasTwo loaded → Lists shown loaded.snap
lists_offered loaded shown offers two = record {
  can = λ index low. (offered loaded shown index offers two low).can;
  suits = λ index range low short. suits_short loaded.schema loaded.layout shown loaded.snap index 1 range (offered loaded shown index offers two low) (let long = long_of loaded index two low in omega arith) short;
  keys = λ index low. subst (λ n. AreKeys n (shown.entries index loaded.snap)) (long_of loaded index two low) (keys_offered loaded.schema loaded.layout shown loaded.snap index (offered loaded shown index offers two low));
  apart = λ index low. apart_offered loaded shown index offers (offered loaded shown index offers two low);
}

plan_in : (plans : List ScanPlan) (i : ℕ) → AllByRecursion IsPlan plans → i < length plans → IsPlan (plan_at plans i)
plan_in [] i all low = absurd (omega arith)
plan_in (p ∷ plans) zero all low = all.0
plan_in (p ∷ plans) (suc i) all low = plan_in plans i all.1 (omega arith)

can_make : (shown : Shown) (snap : ℕ) (plan : ScanPlan) → Lists shown snap → IsPlan plan → CanMake plan shown snap
can_make shown snap plan lists is = record {
  can = lists.can plan.index is.index;
  suits = lists.suits plan.index plan.range is.index is.short;
  keys = subst (λ n. AreKeys n (shown.entries plan.index snap)) (sym is.columns) (lists.keys plan.index is.index);
}

pub drawn_takes : (shown : Shown) (j : Joint) → Drawn shown j → CanTake j shown
drawn_takes shown j drawn = record { each = λ i low. can_make shown j.snap (plan_at j.plans i) drawn.lists (plan_in j.plans i drawn.plans low) }

pub drawn_begun : (shown : Shown) (table snap cursor opening : ℕ) (plans : List ScanPlan) (j : Joint) → Lists shown snap → AllByRecursion IsPlan plans → j ≡ begun table snap plans cursor opening → (((i : ℕ) → i < length plans → Apart (shown.entries (plan_at plans i).index snap)) → JointFits j shown) → Drawn shown j
drawn_begun shown table snap cursor opening plans j lists all is fits = record {
  lists = subst (λ (s : Joint). Lists shown s.snap) (sym is) lists;
  plans = subst (λ (s : Joint). AllByRecursion IsPlan s.plans) (sym is) all;
  fits = fits (λ i low. lists.apart (plan_at plans i).index (plan_in plans i all low).index);
}

-- where plans and snapshot are as before
drawn_same : (shown : Shown) (old new : Joint) → new.plans ≡ old.plans → new.snap ≡ old.snap → JointFits new shown → Drawn shown old → Drawn shown new
drawn_same shown old new plans snap fits drawn = record {
  lists = subst (λ s. Lists shown s) (sym snap) drawn.lists;
  plans = subst (λ (ps : List ScanPlan). AllByRecursion IsPlan ps) (sym plans) drawn.plans;
  fits = fits;
}

pub drawn_taken : (shown : Shown) (old new : Joint) → TakeLeaves old new → JointFits new shown → Drawn shown old → Drawn shown new
drawn_taken shown old new leaves fits drawn = drawn_same shown old new (ap (λ (j : Joint). j.plans) leaves.same) (ap (λ (j : Joint). j.snap) leaves.same) fits drawn

accepted : (shown : Shown) (old new : Joint) (entries : List IndexEntry) (next : Option IndexEntry) → Accepts old new entries next → JointFits new shown → Drawn shown old → Drawn shown new
accepted shown old new entries (Some cut) accepts fits drawn = drawn_same shown old new (ap (λ (j : Joint). j.plans) accepts) (ap (λ (j : Joint). j.snap) accepts) fits drawn
accepted shown old new entries None accepts fits drawn = drawn_same shown old new (ap (λ (j : Joint). j.plans) accepts.3) (ap (λ (j : Joint). j.snap) accepts.3) fits drawn

pub drawn_given : (shown : Shown) (old new : Joint) (piece : Pieced) (given : Given) → Gives old piece given new → (JointFits old shown → JointFits new shown) → Drawn shown old → Drawn shown new
drawn_given shown old new piece Accepted gives fits drawn = accepted shown old new piece.entries (held_next old.held) gives.1 (fits drawn.fits) drawn
drawn_given shown old new piece (Stale asked now) gives fits drawn = subst (Drawn shown) (sym gives.3) drawn

pub drawn_abandoned : (shown : Shown) (old new : Joint) → (under_way old ≡ true → new ≡ abandoned old) → (under_way old ≡ false → new ≡ old) → (JointFits old shown → JointFits new shown) → Drawn shown old → Drawn shown new
drawn_abandoned shown old new way none fits drawn =
    elim (under_way old) as (λ b. under_way old ≡ b → Drawn shown new) [
      | true ↦ λ is. drawn_same shown old new (ap (λ (j : Joint). j.plans) (way is)) (ap (λ (j : Joint). j.snap) (way is)) (fits drawn.fits) drawn
      | false ↦ λ is. subst (Drawn shown) (sym (none is)) drawn
    ] refl
