-- A change of the scans under way, of the list or of the control leaves the fit and the rest.
use Rattle.std.proofs.Common.{◌≡◌, ℕ, ◌⊎◌, List, Bool, true, false, refl, ap, sym, ◌∙◌, subst, Option, Some, None, is_some, IsSome, IfSome, inl, inr}
use Rattle.rv_value.proofs.Tests.{no_way}
use Rattle.rv_keylist.specs.Keys.{has_key}
use Rattle.rv_judge.specs.declared.events.Control.{Control}
use Rattle.rv_judge.specs.declared.events.Control.TheVariants.{BackgroundAlone, FinalList, FinalTable}
use Rattle.rv_judge.specs.declared.events.Happening.{Happening}
use Rattle.rv_judge.specs.declared.events.Happening.TheVariants.{ScanEnded, Ruled}
use Rattle.rv_judge.specs.declared.events.Strategy.TheVariants.{BackgroundOnly}
use Rattle.rv_judge.specs.declared.events.Trace.{Trace}
use Rattle.rv_judge.specs.declared.judging.Verdict.TheVariants.{AbandonScan, AbandonBackground}
use Rattle.rv_judge.specs.Course.{next_control}
use Rattle.rv_reader.specs.Shown.{Shown}
use Rattle.rv_scan.specs.Places.{Place}
use Rattle.rv_final.specs.Rest.{rest_by}
use Rattle.rv_final.specs.Stage.{LastFits, Unbegun, keys_left}
use Rattle.rv_final.proofs.Endings.{list_whole, table_whole}
use Rattle.rv_race.specs.Raced.{Covers, RaceFits, Raced, RunningFits, owed, rest, rows_of}
use Rattle.rv_final.specs.Shell.{left_by, scanning, unfronted}
use Rattle.rv_final.proofs.Shells.{only_scanning}
use Rattle.rv_race.specs.Rulings.{going_on, gone, more, over}

-- each row that qualifies is owed while scans are under way
pub rest_racing : (r : Raced) (shown : Shown) → scanning r.control ≡ true → rest r shown ≡ rest_by (λ n. true) r.only (rows_of r shown)
rest_racing r shown h = ap (λ (c : Control). rest_by (left_by c r.list r.at r.last (rows_of r shown)) r.only (rows_of r shown)) (only_scanning r.control h)

-- the fit, where the control, the final stage's parts and the trace are other ones
pub aside_fits : (r : Raced) (c : Control) (at : ℕ) (last : Place) (t : Trace) (shown : Shown) → LastFits r.table r.snap last shown → (scanning c ≡ true → Unbegun at last) → (c ≡ FinalList → IsSome r.list) → unfronted c ≡ true → RaceFits r shown → RaceFits (record r { control = c; at = at; last = last; trace = t }) shown
aside_fits r c at last t shown l unbegun listed stands f = record {
  shell = record { ascend = f.shell.ascend; read = f.shell.read; columns = f.shell.columns; last = l; unbegun = unbegun; stands = stands };
  plans = f.plans;
  running = f.running;
  covers = f.covers;
  listed = listed;
}

-- While scans are under way.

-- what changes while the control stays
abbrev pub with_parts : Raced → Raced → Raced
with_parts r new = record r { counts = new.counts; running = new.running; number = new.number; list = new.list; guaranteed = new.guaranteed; trace = new.trace }

pub moved_fits : (r new : Raced) (shown : Shown) → new ≡ with_parts r new → scanning r.control ≡ true → RaceFits r shown → RunningFits r.plans (owed r shown) shown r.snap new.running → IfSome new.list (Covers (owed r shown)) → RaceFits new shown
moved_fits r new shown e back f w c =
    let fits : RaceFits (with_parts r new) shown = record {
      shell = record { ascend = f.shell.ascend; read = f.shell.read; columns = f.shell.columns; last = f.shell.last; unbegun = f.shell.unbegun; stands = f.shell.stands };
      plans = f.plans;
      running = w;
      covers = c;
      listed = λ h. absurd (let bad : true ≡ false = sym back ∙ ap scanning h in cc);
    } in
    subst (λ (x : Raced). RaceFits x shown) (sym e) fits

pub moved_rest : (r new : Raced) (shown : Shown) → new ≡ with_parts r new → scanning r.control ≡ true → rest new shown ≡ rest r shown
moved_rest r new shown e back = ap (λ (x : Raced). rest x shown) e ∙ rest_racing (with_parts r new) shown back ∙ sym (rest_racing r shown back)

pub moved_back : (r new : Raced) → new ≡ with_parts r new → scanning r.control ≡ true → scanning new.control ≡ true
moved_back r new e back = ap (λ (x : Raced). scanning x.control) e ∙ back

-- The background is over.

-- the list is complete, or the table is read
abbrev pub Leads : Raced → Control → Type 0
Leads r c = ((c ≡ FinalList) × IsSome r.list) ⊎ (c ≡ FinalTable)

in_list : (list : Option (List ℕ)) (owed : ℕ → Bool) (n : ℕ) → IsSome list → IfSome list (Covers owed) → owed n ≡ true → has_key n (keys_left list 0) ≡ true
in_list None owed n s c o = absurd (cc)
in_list (Some keys) owed n s c o = c n o

to_list : (r : Raced) (t : Trace) (shown : Shown) → scanning r.control ≡ true → IsSome r.list → RaceFits r shown → RaceFits (record r { control = FinalList; trace = t }) shown × (rest (record r { control = FinalList; trace = t }) shown ≡ rest r shown)
to_list r t shown back some f = (
  aside_fits r FinalList r.at r.last t shown f.shell.last (λ h. no_way (sym h)) (λ h. some) refl f,
  list_whole r.only (rows_of r shown) r.list r.at r.last (f.shell.unbegun back) (λ n q. in_list r.list (owed r shown) n some f.covers q) ∙ sym (rest_racing r shown back),
)

to_table : (r : Raced) (t : Trace) (shown : Shown) → scanning r.control ≡ true → RaceFits r shown → RaceFits (record r { control = FinalTable; trace = t }) shown × (rest (record r { control = FinalTable; trace = t }) shown ≡ rest r shown)
to_table r t shown back f = (
  aside_fits r FinalTable r.at r.last t shown f.shell.last (λ h. no_way (sym h)) (λ h. absurd (cc)) refl f,
  table_whole r.only (rows_of r shown) r.at r.last (f.shell.unbegun back) ∙ sym (rest_racing r shown back),
)

-- the fit and the rest of another race over the same reader
abbrev pub Stays : Raced → Shown → Raced → Type 0
Stays r shown new = RaceFits new shown × (rest new shown ≡ rest r shown)

pub gone_stays : (h : Happening) (r : Raced) (shown : Shown) → scanning r.control ≡ true → Leads r (next_control BackgroundOnly r.control h) → RaceFits r shown → Stays r shown (gone h r)
gone_stays h r shown back leads f = by (next_control BackgroundOnly r.control h) (gone h r).trace leads
  where
    by : (c : Control) (t : Trace) → Leads r c → Stays r shown (record r { control = c; trace = t })
    by c t (inl l) = subst (λ (x : Control). Stays r shown (record r { control = x; trace = t })) (sym l.0) (to_list r t shown back l.1 f)
    by c t (inr e) = subst (λ (x : Control). Stays r shown (record r { control = x; trace = t })) (sym e) (to_table r t shown back f)

-- where happenings lead that end the background

pub ended_leads : (r : Raced) → scanning r.control ≡ true → IsSome r.list → Leads r (next_control BackgroundOnly r.control (ScanEnded false true))
ended_leads r back some = inl (ap (λ (c : Control). next_control BackgroundOnly c (ScanEnded false true)) (only_scanning r.control back), some)

pub dropped_leads : (r : Raced) → scanning r.control ≡ true → Leads r (next_control BackgroundOnly r.control (Ruled AbandonScan false (is_some r.list)))
dropped_leads r back = subst (λ (c : Control). Leads r (next_control BackgroundOnly c (Ruled AbandonScan false (is_some r.list)))) (sym (only_scanning r.control back)) (by r.list refl)
  where
    by : (l : Option (List ℕ)) → r.list ≡ l → Leads r (next_control BackgroundOnly BackgroundAlone (Ruled AbandonScan false (is_some l)))
    by None e = inr refl
    by (Some keys) e = inl (refl, ap is_some e)

pub stopped_leads : (r : Raced) (goes : Bool) → scanning r.control ≡ true → Leads r (next_control BackgroundOnly r.control (Ruled AbandonBackground goes (is_some r.list)))
stopped_leads r goes back = subst (λ (c : Control). Leads r (next_control BackgroundOnly c (Ruled AbandonBackground goes (is_some r.list)))) (sym (only_scanning r.control back)) (by goes r.list refl)
  where
    by : (goes : Bool) (l : Option (List ℕ)) → r.list ≡ l → Leads r (next_control BackgroundOnly BackgroundAlone (Ruled AbandonBackground goes (is_some l)))
    by true None e = inr refl
    by false None e = inr refl
    by true (Some keys) e = inl (refl, ap is_some e)
    by false (Some keys) e = inl (refl, ap is_some e)

-- what holds where another scan goes on, and where the background ends, holds where a scan is over
pub over_as : (P : Raced → Type 0) (happening : Bool → Happening) (r : Raced) → (more r ≡ true → P (going_on r)) → (more r ≡ false → P (gone (happening false) r)) → P (over (more r) (happening (more r)) r)
over_as P happening r on off = elim (more r) as (λ b. more r ≡ b → P (over b (happening b) r)) [
  | true ↦ on
  | false ↦ off
] refl
