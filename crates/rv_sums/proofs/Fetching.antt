-- The records that a union fetches, from its opening on.
use Rattle.std.proofs.Common.{◌≡◌, ◌⊎◌, ℕ, ◌+◌, ◌-◌, ◌<◌, ◌≤◌, List, [], ◌∷◌, length, Bool, true, false, Option, Some, None, inl, inr, refl, ap, sym, ◌∙◌, subst, arith}
use Rattle.std.specs.Prelude.{if◌then◌else◌}
use Rattle.rv_judge.specs.declared.counting.Counts.{Counts}
use Rattle.rv_judge.specs.declared.events.Control.{Control}
use Rattle.rv_judge.specs.declared.events.Control.TheVariants.{Building, ForegroundAlone, BackgroundAlone, FinalList, FinalTable, Done}
use Rattle.rv_judge.specs.declared.events.Happening.TheVariants.{FinalEnded}
use Rattle.rv_judge.specs.declared.events.Strategy.TheVariants.{Union}
use Rattle.rv_judge.specs.declared.judging.Facts.{Facts}
use Rattle.rv_judge.specs.Counting.{leaf_read, one_more, raised}
use Rattle.rv_judge.specs.Course.{next_control}
use Rattle.rv_judge.specs.Verdicts.{Ruling}
use Rattle.rv_restrict.specs.declared.atom.Atom.{Atom}
use Rattle.rv_value.specs.declared.record.Record.{Record}
use Rattle.rv_reader.specs.Shown.{Shown}
use Rattle.rv_scan.specs.Places.{PageReads}
use Rattle.rv_reader.specs.declared.step.Step.{Step as Stepped}
use Rattle.rv_reader.specs.declared.step.Step.TheVariants.{Row, Working, End}
use Rattle.rv_jscan.specs.declared.jscan.Given.{Given}
use Rattle.rv_jscan.specs.declared.jscan.Given.TheVariants.{Accepted, Stale}
use Rattle.rv_jscan.specs.declared.jscan.ScanPlan.{ScanPlan}
use Rattle.rv_jscan.specs.declared.jscan.Taken.{Taken}
use Rattle.rv_jscan.specs.Steps.{held_next}
use Rattle.rv_final.specs.Stage.{FetchesKey, first_key}
use Rattle.rv_final.specs.Work.{Falls}
use Rattle.rv_final.proofs.Shells.{only_scanning}
use Rattle.rv_union.specs.Effort.{keys_work}
use Rattle.rv_union.specs.Given.{Answers, piece_read, reads_leaf}
use Rattle.rv_union.specs.Opened.{DoesAs, MayRead, Opened, ended_by}
use Rattle.rv_union.specs.Rulings.{GivesOn}
use Rattle.rv_union.specs.Unioned.{AreMet, SameUnion, Unioned, meets_any, rows_of}
use Rattle.rv_bounded.specs.Calls.{Call, lost_by, lost_of}
use Rattle.rv_bounded.specs.Calls.Call.{Step, StepLost, Take, TakeLost, Give}
use Rattle.rv_bounded.specs.Unions.{UnionGives, UnionSteps, UnionStepsLost, UnionTakes}
use Rattle.rv_bounded.proofs.Sums.{same_less}
use Rattle.rv_sums.specs.Sums.{HasMet}
use Rattle.rv_sums.specs.Unions.{UnionCalled, UnionLives}
use Rattle.rv_sums.proofs.Uniting.{obeys_few}
use Rattle.rv_cursor.proofs.Fewer.{add_few}

-- The records that may still be fetched: as many as there are rows that meet a member while these are scanned, and then
-- the keys left of the list.

abbrev to_fetch : Control → ℕ → ℕ → ℕ
to_fetch Building most keys = 0
to_fetch ForegroundAlone most keys = 0
to_fetch BackgroundAlone most keys = most
to_fetch FinalList most keys = keys
to_fetch FinalTable most keys = 0
to_fetch Done most keys = 0

abbrev left : List ℕ → Unioned → ℕ
left rows u = to_fetch u.control (length rows) (keys_work u)

left_most : (c : Control) (most keys : ℕ) → (c ≡ FinalList → keys ≤ most) → to_fetch c most keys ≤ most
left_most Building most keys few = omega arith
left_most ForegroundAlone most keys few = omega arith
left_most BackgroundAlone most keys few = omega arith
left_most FinalList most keys few = few refl
left_most FinalTable most keys few = omega arith
left_most Done most keys few = omega arith

left_less : (c : Control) (most keys more : ℕ) → keys ≤ more → to_fetch c most keys ≤ to_fetch c most more
left_less Building most keys more less = omega arith
left_less ForegroundAlone most keys more less = omega arith
left_less BackgroundAlone most keys more less = omega arith
left_less FinalList most keys more less = less
left_less FinalTable most keys more less = omega arith
left_less Done most keys more less = omega arith

left_at : (rows : List ℕ) (u : Unioned) (c : Control) → u.control ≡ c → left rows u ≡ to_fetch c (length rows) (keys_work u)
left_at rows u c e = ap (λ (k : Control). to_fetch k (length rows) (keys_work u)) e

-- Sums.

none_read : (o n c d more less : ℕ) → n ≡ raised o (d - c) → d ≡ c → less ≤ more → n + less ≤ o + more + 0
none_read o n c d more less rise same fewer = omega (arith, rise, same, fewer)

one_read : (o n c d more less : ℕ) → n ≡ raised o (d - c) → (d ≡ c) ⊎ (d ≡ one_more c) → less < more → n + less ≤ o + more + 0
one_read o n c d more less rise (inl same) fewer = omega (arith, rise, same, fewer)
one_read o n c d more less rise (inr one) fewer = omega (arith, rise, one, fewer)

lost_read : (o n c d more less : ℕ) → n ≡ raised o (d - c) → (d ≡ c) ⊎ (d ≡ one_more c) → less ≤ more → n + less ≤ o + more + 1
lost_read o n c d more less rise (inl same) fewer = omega (arith, rise, same, fewer)
lost_read o n c d more less rise (inr one) fewer = omega (arith, rise, one, fewer)

unread : (o n more less : ℕ) → n ≡ o → less ≤ more → n + less ≤ o + more + 0
unread o n more less same fewer = omega (arith, same, fewer)

one_lost : (a b : ℕ) → a ≤ b + 0 → a ≤ b + 1
one_lost a b less = omega (arith, less)

by_le : (a b c d : ℕ) → a ≡ b → b ≤ c → d ≡ c → a ≤ d
by_le a b c d e less f = omega (arith, e, less, f)

by_less : (a b c d : ℕ) → a ≡ b → b < c → d ≡ c → a < d
by_less a b c d e less f = omega (arith, e, less, f)

none_le : (a b d : ℕ) → a ≡ b → b ≡ 0 → a ≤ d
none_le a b d e z = omega (arith, e, z)

-- The records that a call reads.

leaf_records : (b : Bool) (c : Counts) → (if b then leaf_read c else c).records ≡ c.records
leaf_records true c = refl
leaf_records false c = refl

piece_records : (u : Unioned) (c d : Counts) → d ≡ piece_read u c → d.records ≡ c.records
piece_records u c d e = ap (λ (k : Counts). k.records) e ∙ leaf_records (reads_leaf u) c

may_records : (control : Control) (u : Unioned) (c d : Counts) → MayRead control u c d → (d.records ≡ c.records) ⊎ (d.records ≡ one_more c.records)
may_records Building u c d e = inl (ap (λ (k : Counts). k.records) e)
may_records ForegroundAlone u c d e = inl (ap (λ (k : Counts). k.records) e)
may_records BackgroundAlone u c d e = inl (piece_records u c d e)
may_records FinalList u c d (inl e) = inl (ap (λ (k : Counts). k.records) e)
may_records FinalList u c d (inr e) = inr (ap (λ (k : Counts). k.records) e)
may_records FinalTable u c d (inl e) = inl (ap (λ (k : Counts). k.records) e)
may_records FinalTable u c d (inr e) = inl (ap (λ (k : Counts). k.records) e)
may_records Done u c d e = inl (ap (λ (k : Counts). k.records) e)

key_records : (key : Option ℕ) (only : List (List Atom)) (rows : List Record) (c d : Counts) (s : Stepped Record) → FetchesKey key only rows c d s → (d.records ≡ c.records) ⊎ (d.records ≡ one_more c.records)
key_records None only rows c d s fetches = inl (ap (λ (k : Counts). k.records) fetches.1)
key_records (Some key) only rows c d s fetches = inr (ap (λ (k : Counts). k.records) fetches.0)

page_records : (s : Stepped Record) (c d : Counts) → PageReads s c d → d.records ≡ c.records
page_records (Row r) c d e = ap (λ (k : Counts). k.records) e
page_records Working c d e = ap (λ (k : Counts). k.records) e
page_records End c d e = ap (λ (k : Counts). k.records) e

-- A step.

step_few : (would : ℕ → Facts → Ruling) (shown : Shown) (rows : List ℕ) (old new : Unioned) → UnionSteps would old new → AreMet new.keys new.plans shown new.snap → HasMet rows new shown → new.trace.fetches + left rows new ≤ old.trace.fetches + left rows old + 0
step_few would shown rows old new s listed all = by old.control refl s.does.does
  where
    stepped : Unioned
    stepped = s.does.stepped

    same : left rows new ≡ left rows stepped
    same = ap (λ (u : Unioned). left rows u) s.does.counts

    met : HasMet rows stepped shown
    met = record { met = (subst (λ (u : Unioned). HasMet rows u shown) s.does.counts all).met }

    drawn : AreMet stepped.keys stepped.plans shown stepped.snap
    drawn = subst (λ (u : Unioned). AreMet u.keys u.plans shown u.snap) s.does.counts listed

    list_by : (t : Stepped Record) → old.control ≡ FinalList → FetchesKey (first_key (Some old.keys) None old.at) old.only (rows_of old s.shown) s.before s.behind t → stepped ≡ ended_by t (record old { at = stepped.at }) → Falls t s.before s.behind (keys_work old) (keys_work stepped) → new.trace.fetches + left rows new ≤ old.trace.fetches + left rows old + 0
    list_by (Row r) e fetches is falls = one_read old.trace.fetches new.trace.fetches s.before.records s.behind.records (left rows old) (left rows new) s.counts.fetches (key_records (first_key (Some old.keys) None old.at) old.only (rows_of old s.shown) s.before s.behind (Row r) fetches) (by_less (left rows new) (keys_work stepped) (keys_work old) (left rows old) (same ∙ left_at rows stepped FinalList (ap (λ (u : Unioned). u.control) is ∙ e)) falls (left_at rows old FinalList e))
    list_by Working e fetches is falls = one_read old.trace.fetches new.trace.fetches s.before.records s.behind.records (left rows old) (left rows new) s.counts.fetches (key_records (first_key (Some old.keys) None old.at) old.only (rows_of old s.shown) s.before s.behind Working fetches) (by_less (left rows new) (keys_work stepped) (keys_work old) (left rows old) (same ∙ left_at rows stepped FinalList (ap (λ (u : Unioned). u.control) is ∙ e)) falls (left_at rows old FinalList e))
    list_by End e fetches is falls = none_read old.trace.fetches new.trace.fetches s.before.records s.behind.records (left rows old) (left rows new) s.counts.fetches (ap (λ (k : Counts). k.records) falls) (none_le (left rows new) (left rows stepped) (left rows old) same (left_at rows stepped Done (ap (λ (u : Unioned). u.control) is ∙ ap (λ (k : Control). next_control Union k FinalEnded) e)))

    table_by : (t : Stepped Record) → old.control ≡ FinalTable → stepped ≡ ended_by t (record old { last = stepped.last }) → left rows stepped ≡ 0
    table_by (Row r) e is = left_at rows stepped FinalTable (ap (λ (u : Unioned). u.control) is ∙ e)
    table_by Working e is = left_at rows stepped FinalTable (ap (λ (u : Unioned). u.control) is ∙ e)
    table_by End e is = left_at rows stepped Done (ap (λ (u : Unioned). u.control) is ∙ ap (λ (k : Control). next_control Union k FinalEnded) e)

    by : (c : Control) → old.control ≡ c → DoesAs c would s.state s.after s.shown s.before s.behind s.scanned old stepped → new.trace.fetches + left rows new ≤ old.trace.fetches + left rows old + 0
    by Building e does = absurd does
    by ForegroundAlone e does = absurd does
    by BackgroundAlone e does =
        let one = does.1 in
        none_read old.trace.fetches new.trace.fetches s.before.records s.behind.records (left rows old) (left rows new) s.counts.fetches (piece_records old s.before s.behind does.2) (by_le (left rows new) (left rows stepped) (length rows) (left rows old) same (left_most stepped.control (length rows) (keys_work stepped) (λ list. obeys_few (held_next one.taken.lane.held) would s.state s.after shown rows one.piece one.taken stepped one.awaits.under_way one.obeys list drawn met)) (left_at rows old BackgroundAlone e))
    by FinalList e does = list_by s.scanned e does.1 does.2 does.3
    by FinalTable e does = none_read old.trace.fetches new.trace.fetches s.before.records s.behind.records (left rows old) (left rows new) s.counts.fetches (page_records s.scanned s.before s.behind does.1) (none_le (left rows new) (left rows stepped) (left rows old) same (table_by s.scanned e does.2))
    by Done e does = none_read old.trace.fetches new.trace.fetches s.before.records s.behind.records (left rows old) (left rows new) s.counts.fetches (ap (λ (k : Counts). k.records) does.2) (same_less (left rows new) (left rows old) (same ∙ ap (λ (u : Unioned). left rows u) does.3))

-- The other calls.

lost_few : (rows : List ℕ) (old new : Unioned) → UnionStepsLost old new → new.trace.fetches + left rows new ≤ old.trace.fetches + left rows old + 1
lost_few rows old new s = lost_read old.trace.fetches new.trace.fetches s.before.records s.behind.records (left rows old) (left rows new) s.counts.fetches (may_records old.control old s.before s.behind s.may_read) (by_le (left rows new) (to_fetch old.control (length rows) (keys_work new)) (left rows old) (left rows old) (left_at rows new old.control (ap (λ (u : Unioned). u.control) s.only.same)) (left_less old.control (length rows) (keys_work new) (keys_work old) s.only.fewer) refl)

take_few : (rows : List ℕ) (old new : Unioned) (taken : Option Taken) → UnionTakes taken old new → new.trace.fetches + left rows new ≤ old.trace.fetches + left rows old + 0
take_few rows old new taken t = none_read old.trace.fetches new.trace.fetches t.before.records t.behind.records (left rows old) (left rows new) t.counts.fetches (piece_records old t.before t.behind t.reads) (same_less (left rows new) (left rows old) (ap (λ (u : Unioned). left rows u) t.leaves.same))

give_few : (would : ℕ → Facts → Ruling) (shown : Shown) (rows : List ℕ) (old new : Unioned) → UnionGives would old new → AreMet new.keys new.plans shown new.snap → HasMet rows new shown → new.trace.fetches + left rows new ≤ old.trace.fetches + left rows old + 0
give_few would shown rows old new g listed all = by g.given g.answers g.obeys
  where
    by : (given : Given) → Answers old g.piece given new → GivesOn would g.state g.after g.piece given old new → new.trace.fetches + left rows new ≤ old.trace.fetches + left rows old + 0
    by Accepted awaits obeys = unread old.trace.fetches new.trace.fetches (left rows old) (left rows new) g.counts.fetches (by_le (left rows new) (left rows new) (length rows) (left rows old) refl (left_most new.control (length rows) (keys_work new) (λ list. obeys_few (held_next old.lane.held) would g.state g.after shown rows g.piece old new awaits.under_way obeys list listed all)) (left_at rows old BackgroundAlone (only_scanning old.control awaits.under_way)))
    by (Stale asked now) answers obeys = unread old.trace.fetches new.trace.fetches (left rows old) (left rows new) g.counts.fetches (same_less (left rows new) (left rows old) (ap (λ (u : Unioned). left rows u) obeys.0))

call_few : (call : Call) (shown : Shown) (rows : List ℕ) (old new : Unioned) → UnionCalled call shown old new → HasMet rows new shown → new.trace.fetches + left rows new ≤ old.trace.fetches + left rows old + lost_of call
call_few Step shown rows old new c all = step_few c.would shown rows old new c.does c.fits.listed all
call_few StepLost shown rows old new c all = lost_few rows old new c.does
call_few Take shown rows old new c all = take_few rows old new (Some c.does.0) c.does.1
call_few TakeLost shown rows old new c all = one_lost (new.trace.fetches + left rows new) (old.trace.fetches + left rows old) (take_few rows old new None c.does)
call_few Give shown rows old new c all = give_few c.would shown rows old new c.does c.fits.listed all

-- Calls one after another.

met_on : (rows : List ℕ) (shown : Shown) (old new : Unioned) → SameUnion old new → HasMet rows old shown → HasMet rows new shown
met_on rows shown old new same all = record { met = λ n h. all.met n (sym (ap (λ (s : ℕ). meets_any old.plans shown s n) same.snap) ∙ sym (ap (λ (plans : List ScanPlan). meets_any plans shown new.snap n) same.plans) ∙ h) }

lives_met : (calls : List Call) (rows : List ℕ) (shown : Shown) (old new : Unioned) → UnionLives calls shown old new → HasMet rows old shown → HasMet rows new shown
lives_met [] rows shown old new lives all = subst (λ (u : Unioned). HasMet rows u shown) (sym lives) all
lives_met (call ∷ calls) rows shown old new lives all = met_on rows shown lives.0 new lives.2.same (lives_met calls rows shown old lives.0 lives.1 all)

no_calls : (a b : ℕ) → b ≡ a → b ≤ a + 0
no_calls a b e = omega (arith, e)

lives_few : (calls : List Call) (rows : List ℕ) (shown : Shown) (old new : Unioned) → UnionLives calls shown old new → HasMet rows old shown → new.trace.fetches + left rows new ≤ old.trace.fetches + left rows old + lost_by calls
lives_few [] rows shown old new lives all = no_calls (old.trace.fetches + left rows old) (new.trace.fetches + left rows new) (ap (λ (u : Unioned). u.trace.fetches + left rows u) lives)
lives_few (call ∷ calls) rows shown old new lives all = add_few (old.trace.fetches + left rows old) (lives.0.trace.fetches + left rows lives.0) (new.trace.fetches + left rows new) (lost_by calls) (lost_of call) (lives_few calls rows shown old lives.0 lives.1 all) (call_few call shown rows lives.0 new lives.2 (lives_met (call ∷ calls) rows shown old new lives all))

from_opening : (f l o k r lost : ℕ) → f + l ≤ o + k + lost → o ≡ 0 → k ≡ r → f ≤ r + lost
from_opening f l o k r lost sum none most = omega (arith, sum, none, most)

-- the law
pub unions_few : (table snap : ℕ) (only : List (List Atom)) (members : List ScanPlan) (cursor opening pages : ℕ) (calls : List Call) (shown : Shown) (rows : List ℕ) (opened now : Unioned) → Opened table snap only members cursor opening pages opened → HasMet rows opened shown → UnionLives calls shown opened now → now.trace.fetches ≤ length rows + lost_by calls
unions_few table snap only members cursor opening pages calls shown rows opened now begins all lives = from_opening now.trace.fetches (left rows now) opened.trace.fetches (left rows opened) (length rows) (lost_by calls) (lives_few calls rows shown opened now lives all) (ap (λ (u : Unioned). u.trace.fetches) begins.is) (left_at rows opened BackgroundAlone (ap (λ (u : Unioned). u.control) begins.is))
