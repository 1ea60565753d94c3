-- Where the rows of the course lead.
use Rattle.std.proofs.Common.{◌≡◌, ℕ, List, [], ◌∷◌, Bool, true, false, not, ◌&&◌, ◌||◌, refl, sym, ap, ◌∙◌, nat_eq}
use Rattle.std.specs.Prelude.{if◌then◌else◌}
use Rattle.std.specs.List.{list_all, list_any}
use Rattle.std.proofs.lemmas.Bool.{eqb-true, not-true}
use Rattle.std.specs.Cmp.{first_so, second_so}
use Rattle.rv_value.proofs.Tests.{no_way, same_number}
use Rattle.rv_judge.specs.declared.events.Strategy.{Strategy}
use Rattle.rv_judge.specs.declared.events.Control.{Control}
use Rattle.rv_judge.specs.declared.events.Control.TheVariants.{Building, ForegroundAlone, BackgroundAlone, FinalList, FinalTable, Done}
use Rattle.rv_judge.specs.declared.events.Happening.{Happening}
use Rattle.rv_judge.specs.declared.events.Happening.TheVariants.{ScanEnded, Ruled}
use Rattle.rv_judge.specs.declared.judging.Verdict.TheVariants.{Continue, AbandonScan, AbandonBackground}
use Rattle.rv_judge.specs.Course.{Row, any, background_alone, building, course, has_row, next_by, next_control, row, scan_over_more, stands, the_same}
use Rattle.rv_judge.specs.Runs.{scans}
use Rattle.rv_decide.specs.Course.{leads, rank, same_control}

-- Controls are told by their ranks.

control_of : ℕ → Control
control_of n = if nat_eq n 0 then Building else if nat_eq n 1 then ForegroundAlone else if nat_eq n 2 then BackgroundAlone else if nat_eq n 3 then FinalList else if nat_eq n 4 then FinalTable else Done

ranked : (c : Control) → control_of (rank c) ≡ c
unfolding control_of
ranked Building = refl
ranked ForegroundAlone = refl
ranked BackgroundAlone = refl
ranked FinalList = refl
ranked FinalTable = refl
ranked Done = refl

pub same_is : (a b : Control) → same_control a b ≡ true → a ≡ b
same_is a b h = sym (ranked a) ∙ (ap control_of (eqb-true _ _ h) ∙ ranked b)

pub same_self : (c : Control) → same_control c c ≡ true
same_self c = same_number (rank c)

-- Where no row stands the control stays.

pub stays : (rows : List Row) (s : Strategy) (c : Control) (h : Happening) → list_any (λ (r : Row). stands r s c h) rows ≡ false → next_by rows s c h ≡ c
stays [] s c h none = refl
stays (r ∷ rows) s c h none = pick (stands r s c h) (stays rows s c h) none
  where
    pick : (b : Bool) → (list_any (λ (r : Row). stands r s c h) rows ≡ false → next_by rows s c h ≡ c) → (b || list_any (λ (r : Row). stands r s c h) rows) ≡ false → (if b then r.next c else next_by rows s c h) ≡ c
    pick true on none = no_way none
    pick false on none = on none

pub leads_is : (s : Strategy) (c : Control) (h : Happening) (to : Control) → leads s c h to ≡ true → next_control s c h ≡ to
leads_is s c h to l = same_is _ _ (first_so _ _ l)

pub leads_stands : (s : Strategy) (c : Control) (h : Happening) (to : Control) → leads s c h to ≡ true → has_row s c h ≡ true
leads_stands s c h to l = by (has_row s c h) refl
  where
    by : (b : Bool) → has_row s c h ≡ b → b ≡ true
    by true e = refl
    by false e =
        let stay = sym (leads_is s c h to l) ∙ stays course s c h e in
        let other = not-true _ (second_so _ _ l) in
        no_way (sym (same_self c) ∙ (ap (λ x. same_control x c) (sym stay) ∙ other))

-- Where a row stands, the control changes, but for a further scan.

abbrev others : List Row → List Row
others [] = []
others (r ∷ rows) = rows

abbrev changing : Control → Row → Bool
changing c r = not (r.at c) || not (same_control (r.next c) c)

changes_by : (rows : List Row) (s : Strategy) (c : Control) (h : Happening) → list_all (changing c) rows ≡ true → list_any (λ (r : Row). stands r s c h) rows ≡ true → not (same_control (next_by rows s c h) c) ≡ true
changes_by [] s c h all some = no_way (sym some)
changes_by (r ∷ rows) s c h all some = pick (r.at c) (r.under s) (r.upon h) (changes_by rows s c h (second_so _ _ all)) (first_so _ _ all) some
  where
    pick : (at under upon : Bool) → (list_any (λ (r : Row). stands r s c h) rows ≡ true → not (same_control (next_by rows s c h) c) ≡ true) → (not at || not (same_control (r.next c) c)) ≡ true → ((at && under && upon) || list_any (λ (r : Row). stands r s c h) rows) ≡ true → not (same_control (if at && under && upon then r.next c else next_by rows s c h) c) ≡ true
    pick true true true on a some = a
    pick true true false on a some = on some
    pick true false upon on a some = on some
    pick false under upon on a some = on some

-- behind the first row, at which a further scan begins, each row changes the control
behind_first : (b : Bool) (s : Strategy) (c : Control) (h : Happening) → b ≡ false → list_all (changing c) (others course) ≡ true → (b || list_any (λ (r : Row). stands r s c h) (others course)) ≡ true → not (same_control (if b then c else next_by (others course) s c h) c) ≡ true
behind_first true s c h over all some = no_way over
behind_first false s c h over all some = changes_by (others course) s c h all some

pub changes : (s : Strategy) (c : Control) (h : Happening) → scan_over_more h ≡ false → has_row s c h ≡ true → not (same_control (next_control s c h) c) ≡ true
changes s Building h over some = behind_first (scan_over_more h) s Building h over refl some
changes s ForegroundAlone h over some = behind_first false s ForegroundAlone h refl refl some
changes s BackgroundAlone h over some = behind_first (scan_over_more h) s BackgroundAlone h over refl some
changes s FinalList h over some = behind_first false s FinalList h refl refl some
changes s FinalTable h over some = behind_first false s FinalTable h refl refl some
changes s Done h over some = behind_first false s Done h refl refl some

-- no row is upon this
abbrev silent : Happening → Row → Bool
silent h r = not (r.upon h)

none_stands : (rows : List Row) (s : Strategy) (c : Control) (h : Happening) → list_all (silent h) rows ≡ true → list_any (λ (r : Row). stands r s c h) rows ≡ false
none_stands [] s c h all = refl
none_stands (r ∷ rows) s c h all = pick (r.at c) (r.under s) (r.upon h) (none_stands rows s c h (second_so _ _ all)) (first_so _ _ all)
  where
    pick : (at under upon : Bool) → list_any (λ (r : Row). stands r s c h) rows ≡ false → not upon ≡ true → ((at && under && upon) || list_any (λ (r : Row). stands r s c h) rows) ≡ false
    pick at under true none a = no_way (sym a)
    pick true true false none a = none
    pick true false false none a = none
    pick false under false none a = none

-- a verdict to go on has no row
pub continue_none : (s : Strategy) (c : Control) (more listed : Bool) → has_row s c (Ruled Continue more listed) ≡ false
continue_none s c more listed = none_stands course s c (Ruled Continue more listed) refl

-- where a further scan begins the control stays
pub goes_on_by : (s : Strategy) (c : Control) (h : Happening) → list_all (silent h) (others course) ≡ true → next_control s c h ≡ c
goes_on_by s c h all = pick (stands (row (λ c. building c || background_alone c) any scan_over_more the_same) s c h)
  where
    rest : next_by (others course) s c h ≡ c
    rest = stays (others course) s c h (none_stands (others course) s c h all)

    pick : (b : Bool) → (if b then c else next_by (others course) s c h) ≡ c
    pick true = refl
    pick false = rest

pub ended_on : (s : Strategy) (c : Control) (listed : Bool) → next_control s c (ScanEnded true listed) ≡ c
ended_on s c listed = goes_on_by s c (ScanEnded true listed) refl

pub dropped_on : (s : Strategy) (c : Control) (listed : Bool) → next_control s c (Ruled AbandonScan true listed) ≡ c
dropped_on s c listed = goes_on_by s c (Ruled AbandonScan true listed) refl

-- where a further scan begins a row stands
pub has_ended_on : (s : Strategy) (c : Control) (listed : Bool) → scans c ≡ true → has_row s c (ScanEnded true listed) ≡ true
has_ended_on s Building listed on = refl
has_ended_on s ForegroundAlone listed on = no_way (sym on)
has_ended_on s BackgroundAlone listed on = refl
has_ended_on s FinalList listed on = no_way (sym on)
has_ended_on s FinalTable listed on = no_way (sym on)
has_ended_on s Done listed on = no_way (sym on)

pub has_dropped_on : (s : Strategy) (c : Control) (listed : Bool) → scans c ≡ true → has_row s c (Ruled AbandonScan true listed) ≡ true
has_dropped_on s Building listed on = refl
has_dropped_on s ForegroundAlone listed on = no_way (sym on)
has_dropped_on s BackgroundAlone listed on = refl
has_dropped_on s FinalList listed on = no_way (sym on)
has_dropped_on s FinalTable listed on = no_way (sym on)
has_dropped_on s Done listed on = no_way (sym on)

-- Where no further scan begins the background ends.

abbrev ending : Control → Happening → Row → Bool
ending c h r = not (r.upon h) || not (scans (r.next c))

ends_by : (rows : List Row) (s : Strategy) (c : Control) (h : Happening) → list_all (ending c h) rows ≡ true → list_any (λ (r : Row). stands r s c h) rows ≡ true → scans (next_by rows s c h) ≡ false
ends_by [] s c h all some = no_way (sym some)
ends_by (r ∷ rows) s c h all some = pick (r.at c) (r.under s) (r.upon h) (ends_by rows s c h (second_so _ _ all)) (first_so _ _ all) some
  where
    pick : (at under upon : Bool) → (list_any (λ (r : Row). stands r s c h) rows ≡ true → scans (next_by rows s c h) ≡ false) → (not upon || not (scans (r.next c))) ≡ true → ((at && under && upon) || list_any (λ (r : Row). stands r s c h) rows) ≡ true → scans (if at && under && upon then r.next c else next_by rows s c h) ≡ false
    pick true true true on a some = not-true _ a
    pick true true false on a some = on some
    pick true false upon on a some = on some
    pick false under upon on a some = on some

ends_if : (s : Strategy) (c : Control) (h : Happening) (to : Control) → list_all (ending c h) course ≡ true → leads s c h to ≡ true → scans to ≡ false
ends_if s c h to all l = sym (ap scans (leads_is s c h to l)) ∙ ends_by course s c h all (leads_stands s c h to l)

pub scan_ends : (s : Strategy) (c to : Control) → leads s c (ScanEnded false true) to ≡ true → scans to ≡ false
scan_ends s c to l = ends_if s c (ScanEnded false true) to refl l

pub drop_ends : (s : Strategy) (c to : Control) (listed : Bool) → leads s c (Ruled AbandonScan false listed) to ≡ true → scans to ≡ false
drop_ends s c to true l = ends_if s c (Ruled AbandonScan false true) to refl l
drop_ends s c to false l = ends_if s c (Ruled AbandonScan false false) to refl l

pub background_ends : (s : Strategy) (c to : Control) (listed : Bool) → leads s c (Ruled AbandonBackground false listed) to ≡ true → scans to ≡ false
background_ends s c to true l = ends_if s c (Ruled AbandonBackground false true) to refl l
background_ends s c to false l = ends_if s c (Ruled AbandonBackground false false) to refl l
