-- A leaf read, an accepted piece and an abandoned scan keep what a joint scan holds drawn from the entries.
use Rattle.std.proofs.Common.{◌≡◌, ℕ, ◌<◌, ◌≤◌, List, [], ◌++◌, length, length-set, slice_set, true, ◌||◌, refl, ap, sym, ◌∙◌, arith, subst, Option, Some, None, nat_eq, IfSome, IsPermutation}
use Rattle.std.proofs.lemmas.Bool.Decides.{nat_tests}
use Rattle.std.proofs.lemmas.List.{get_or-set_other, get_or-set_same}
use Rattle.std.proofs.lemmas.List.Sorted.{list_any-IsPermutation}
use Rattle.std.proofs.Math.Bool.{or-false}
use Rattle.rv_value.specs.declared.record.IndexEntry.{IndexEntry}
use Rattle.rv_keylist.specs.Keys.{has_key}
use Rattle.rv_keylist.proofs.Bits.{may_key-never_denies}
use Rattle.rv_reader.specs.declared.reader.Chunk.{Chunk}
use Rattle.rv_reader.specs.Leaves.{run_after}
use Rattle.rv_reader.specs.Shown.{Shown}
use Rattle.rv_jscan.specs.declared.jscan.ScanCounts.{ScanCounts}
use Rattle.rv_jscan.specs.declared.jscan.ScanPlan.{ScanPlan}
use Rattle.rv_jscan.specs.Entries.{has_entry, Apart, Disjoint}
use Rattle.rv_jscan.specs.Pieces.{Pieced, may}
use Rattle.rv_jscan.specs.Joint.{Joint, JointFits, InCompleted, Covers, IsNextLeaf, counts_at, meets, no_counts, passing, plan_at, present, to_sieve, under_way}
use Rattle.rv_jscan.specs.Steps.{Accepts, Awaits, HasEntries, abandoned, begun, completed, counts_after, going, held_next, kept_of}
use Rattle.rv_jscan.proofs.Parts.{Apart-run}
use Rattle.rv_jscan.proofs.Kept.{found_or_ahead, fresh_after}

pub way_within : (j : Joint) → under_way j ≡ true → j.ended < length j.plans
way_within j w = grind (arith, nat_tests)

some_more : {X : Type 0} (P Q : X → Type 0) (o : Option X) → ((x : X) → P x → Q x) → IfSome o P → IfSome o Q
some_more P Q None f h = h
some_more P Q (Some x) f h = f x h

-- what the counts of the scans that ended say stays where those of the present scan change
in_completed_before : (j : Joint) (shown : Shown) (counts : ScanCounts) (n : ℕ) → InCompleted (record j { counts = slice_set j.counts j.ended counts }) shown n → InCompleted j shown n
in_completed_before j shown counts n inc i lt l = inc i lt (ap (λ (c : ScanCounts). c.listed) (get_or-set_other j.counts j.ended i counts no_counts (λ e. absurd (omega arith))) ∙ l)

pub counted_fits : (j : Joint) (shown : Shown) (counts : ScanCounts) → JointFits j shown → JointFits (record j { counts = slice_set j.counts j.ended counts }) shown
counted_fits j shown counts f = record {
  room = subst (λ (n : ℕ). length j.plans ≤ n) (sym (length-set j.counts j.ended counts)) f.room;
  within = f.within;
  apart = f.apart;
  covers = some_more (Covers j shown) (Covers (record j { counts = slice_set j.counts j.ended counts }) shown) j.list (λ keys c n inc. c n (in_completed_before j shown counts n inc)) f.covers;
  builds = λ n inc m. f.builds n (in_completed_before j shown counts n inc) m;
  fresh = f.fresh;
  drawn = f.drawn;
}

pub abandoned_fits : (j : Joint) (shown : Shown) → under_way j ≡ true → JointFits j shown → JointFits (abandoned j) shown
abandoned_fits j shown way f = record {
  room = f.room;
  within = omega (arith, way_within j way);
  apart = f.apart;
  covers = some_more (Covers j shown) (Covers (abandoned j) shown) j.list (λ keys c n inc. c n (λ i lt l. inc i (omega arith) l)) f.covers;
  builds = λ n inc m. m;
  fresh = λ n. refl;
  drawn = tt;
}

-- a row that is in each completed scan may be in the last list
pub covered_may : (j : Joint) (shown : Shown) (n : ℕ) → IfSome j.list (Covers j shown) → InCompleted j shown n → may j.list n ≡ true
covered_may j shown n c inc = by_list j.list c
  where
    by_list : (l : Option (List ℕ)) → IfSome l (Covers j shown) → may l n ≡ true
    by_list None c = refl
    by_list (Some keys) c = may_key-never_denies n keys (c n inc)

-- a row that the scan has to find stands among those it built, in the leaf or after it
builds_split : (j : Joint) (shown : Shown) (n : ℕ) (entries after : List IndexEntry) → JointFits j shown → to_sieve j shown ≡ entries ++ after → InCompleted j shown n → meets (present j) shown j.snap n ≡ true → (has_key n (j.building ++ kept_of j entries) || has_entry n (passing (present j).part after)) ≡ true
builds_split j shown n entries after f parts inc m =
    let part = (present j).part in
    let b : (has_key n j.building || has_entry n (passing part (entries ++ after))) ≡ true = subst (λ (left : List IndexEntry). (has_key n j.building || has_entry n (passing part left)) ≡ true) parts (f.builds n inc m) in
    found_or_ahead j.building (may j.list) part n entries after b (covered_may j shown n f.covers inc)

going_fits : (j : Joint) (shown : Shown) (entries : List IndexEntry) (cut : IndexEntry) → under_way j ≡ true → JointFits j shown → to_sieve j shown ≡ entries ++ run_after (shown.entries (present j).index j.snap) (present j).range (Some cut) → JointFits (going j entries cut) shown
going_fits j shown entries cut way f parts =
    let all = shown.entries (present j).index j.snap in
    let after = run_after all (present j).range (Some cut) in
    record {
      room = subst (λ (n : ℕ). length j.plans ≤ n) (sym (length-set j.counts j.ended _)) f.room;
      within = f.within;
      apart = f.apart;
      covers = some_more (Covers j shown) (Covers (going j entries cut) shown) j.list (λ keys c n inc. c n (in_completed_before j shown _ n inc)) f.covers;
      builds = λ n inc m. builds_split j shown n entries after f parts (in_completed_before j shown _ n inc) m;
      fresh = fresh_after j.building (may j.list) (present j).part entries after (subst Apart parts (Apart-run all (present j).range j.place (f.apart j.ended (way_within j way)))) (subst (Disjoint j.building) parts f.fresh);
      drawn = tt;
    }

completed_fits : (j : Joint) (shown : Shown) (entries : List IndexEntry) (keys : List ℕ) → under_way j ≡ true → JointFits j shown → to_sieve j shown ≡ entries ++ [] → IsPermutation (j.building ++ kept_of j entries) keys → JointFits (completed j entries keys) shown
completed_fits j shown entries keys way f parts perm =
    let within = way_within j way in
    let listed : (counts_at (counts_after j entries true) j.ended).listed ≡ true = ap (λ (c : ScanCounts). c.listed) (get_or-set_same j.counts j.ended _ no_counts (omega (arith, f.room))) in
    record {
      room = subst (λ (n : ℕ). length j.plans ≤ n) (sym (length-set j.counts j.ended _)) f.room;
      within = omega (arith, within);
      apart = f.apart;
      covers = λ n inc.
          let before : InCompleted j shown n = in_completed_before j shown _ n (λ i lt l. inc i (omega arith) l) in
          let b = builds_split j shown n entries [] f parts before (inc j.ended (omega arith) listed) in
          sym (list_any-IsPermutation (nat_eq n) (j.building ++ kept_of j entries) keys perm) ∙ sym (or-false _) ∙ b;
      builds = λ n inc m. m;
      fresh = λ n. refl;
      drawn = tt;
    }

by_next : (old new : Joint) (shown : Shown) (entries : List IndexEntry) (next : Option IndexEntry) → under_way old ≡ true → Accepts old new entries next → to_sieve old shown ≡ entries ++ run_after (shown.entries (present old).index old.snap) (present old).range next → JointFits old shown → JointFits new shown
by_next old new shown entries (Some cut) way a parts f = subst (λ (j : Joint). JointFits j shown) (sym a) (going_fits old shown entries cut way f parts)
by_next old new shown entries None way a parts f = subst (λ (j : Joint). JointFits j shown) (sym a.3) (completed_fits old shown entries a.0 way f parts a.1)

-- the entries of the leaf held, and the parts of what is to be sieved
pub by_held : (old : Joint) (shown : Shown) (entries : List IndexEntry) (h : Option Chunk) → HasEntries h entries → IfSome h (IsNextLeaf old shown) → to_sieve old shown ≡ entries ++ run_after (shown.entries (present old).index old.snap) (present old).range (held_next h)
by_held old shown entries None i d = absurd i
by_held old shown entries (Some h) i d = d.parts ∙ ap (λ (es : List IndexEntry). es ++ run_after (shown.entries (present old).index old.snap) (present old).range h.next) i

-- what give accepts keeps the fit
pub accepts_fits : (old new : Joint) (piece : Pieced) (shown : Shown) → Awaits old piece → Accepts old new piece.entries (held_next old.held) → JointFits old shown → JointFits new shown
accepts_fits old new piece shown w a f = by_next old new shown piece.entries (held_next old.held) w.way a (by_held old shown piece.entries old.held w.entries f.drawn) f

-- before the first step
pub begun_fits :
    (table snap : ℕ) (plans : List ScanPlan) (cursor opening : ℕ) (shown : Shown)
    → length plans ≤ 8 → ((i : ℕ) → i < length plans → Apart (shown.entries (plan_at plans i).index snap))
    → JointFits (begun table snap plans cursor opening) shown
begun_fits table snap plans cursor opening shown few apart = record {
  room = few;
  within = omega arith;
  apart = apart;
  covers = tt;
  builds = λ n done m. m;
  fresh = λ n. refl;
  drawn = tt;
}
