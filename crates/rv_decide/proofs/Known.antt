-- The events of an allowed trace name the indexes of its scans alone.
use Rattle.std.proofs.Common.{◌≡◌, ℕ, List, [], ◌∷◌, Bool, true, false, ◌||◌, nat_eq, refl, sym, subst, Option, Some, None}
use Rattle.std.specs.Prelude.{if◌then◌else◌}
use Rattle.std.specs.List.{list_all, list_any}
use Rattle.std.proofs.lemmas.Bool.{and_from, eqb-true}
use Rattle.std.specs.Cmp.{first_so, second_so}
use Rattle.rv_value.proofs.Tests.{no_way}
use Rattle.rv_judge.specs.declared.events.Strategy.{Strategy}
use Rattle.rv_judge.specs.declared.events.Strategy.TheVariants.{Table, BackgroundOnly, FastFirst, Sorted, IndexOnly, Union}
use Rattle.rv_judge.specs.declared.events.Control.{Control}
use Rattle.rv_judge.specs.declared.events.Control.TheVariants.{BackgroundAlone, FinalList, FinalTable}
use Rattle.rv_judge.specs.declared.events.Event.{Event}
use Rattle.rv_judge.specs.declared.events.Event.TheVariants.{At, Scan, List as ListOf, Drop, Full as FullEvent, Stop}
use Rattle.rv_judge.specs.Runs.{has_index, scans}
use Rattle.rv_decide.specs.Course.{begins_scan, ends_in, goes_on, is_known, is_over, is_read, is_scanning, leads_to, listed_by, reads, reads_all, reads_at, reads_by, reads_scans, reads_tail, reads_union, same_control}
use Rattle.rv_decide.proofs.Names.{names_known}

-- the scan under way is of one of these indexes
abbrev scan_known : List ℕ → Option ℕ → Bool
scan_known indexes None = true
scan_known indexes (Some i) = has_index i indexes

abbrev pending : Option Event → List Event → List Event
pending None es = es
pending (Some own) es = own ∷ es

kept_known : (indexes : List ℕ) (b : Bool) (scan : Option ℕ) → scan_known indexes scan ≡ true → scan_known indexes (if b then scan else None) ≡ true
kept_known indexes true scan k = k
kept_known indexes false scan k = refl

under_way : (indexes : List ℕ) (scan : Option ℕ) (i : ℕ) → scan_known indexes scan ≡ true → is_scanning scan i ≡ true → has_index i indexes ≡ true
under_way indexes None i k h = no_way (sym h)
under_way indexes (Some j) i k h = subst (λ (n : ℕ). has_index n indexes ≡ true) (eqb-true j i h) k

led_known : (indexes : List ℕ) (s : Strategy) (c to : Control) (scan listed : Option ℕ) (own : Event) → scan_known indexes scan ≡ true → leads_to s (record { control = c; scan = scan; listed = listed; own = Some own }) own to ≡ true → names_known indexes own ≡ true
led_known indexes s c to scan listed (ListOf i keys) k l = under_way indexes scan i k (first_so _ _ l)
led_known indexes s c to scan listed (Drop i) k l = under_way indexes scan i k (first_so _ _ l)
led_known indexes s c to scan listed FullEvent k l = refl
led_known indexes s c to scan listed Stop k l = refl
led_known indexes s c to scan listed (At d) k l = refl
led_known indexes s c to scan listed (Scan i) k l = no_way (sym l)

on_known : (indexes : List ℕ) (c : Control) (scan listed : Option ℕ) (own : Event) → scan_known indexes scan ≡ true → goes_on (record { control = c; scan = scan; listed = listed; own = Some own }) own ≡ true → names_known indexes own ≡ true
on_known indexes c scan listed (ListOf i keys) k g = under_way indexes scan i k (first_so _ _ g)
on_known indexes c scan listed (Drop i) k g = under_way indexes scan i k (first_so _ _ g)
on_known indexes c scan listed FullEvent k g = refl
on_known indexes c scan listed Stop k g = refl
on_known indexes c scan listed (At d) k g = refl
on_known indexes c scan listed (Scan i) k g = no_way (sym g)

read_known : (indexes : List ℕ) (s : Strategy) (c : Control) (scan listed : Option ℕ) (own : Option Event) (es : List Event) → scan_known indexes scan ≡ true → list_all (is_known indexes) es ≡ true → reads s (record { control = c; scan = scan; listed = listed; own = own }) es ≡ true → list_all (names_known indexes) (pending own es) ≡ true
read_known indexes s c scan listed None [] k all r = refl
read_known indexes s c scan listed (Some own) [] k all r = no_way (sym r)
read_known indexes s c scan listed None (At to ∷ es) k all r = read_known indexes s to (if scans to then scan else None) listed None es (kept_known indexes (scans to) scan k) all (second_so _ _ r)
read_known indexes s c scan listed None (Scan i ∷ es) k all r = no_way (sym r)
read_known indexes s c scan listed None (ListOf i keys ∷ es) k all r = read_known indexes s c scan listed (Some (ListOf i keys)) es k all r
read_known indexes s c scan listed None (Drop i ∷ es) k all r = read_known indexes s c scan listed (Some (Drop i)) es k all r
read_known indexes s c scan listed None (FullEvent ∷ es) k all r = read_known indexes s c scan listed (Some FullEvent) es k all r
read_known indexes s c scan listed None (Stop ∷ es) k all r = read_known indexes s c scan listed (Some Stop) es k all r
read_known indexes s c scan listed (Some own) (At to ∷ es) k all r =
    and_from _ _ (led_known indexes s c to scan listed own k (first_so _ _ r))
    (read_known indexes s to (if scans to then scan else None) (listed_by (Some own) listed) None es (kept_known indexes (scans to) scan k) all (second_so _ _ r))
read_known indexes s c scan listed (Some own) (Scan j ∷ es) k all r =
    and_from _ _ (on_known indexes c scan listed own k (first_so _ _ r))
    (and_from _ _ (first_so _ _ all) (read_known indexes s c (Some j) (listed_by (Some own) listed) None es (first_so _ _ all) (second_so (has_index j indexes) _ all) (second_so _ _ r)))
read_known indexes s c scan listed (Some own) (ListOf i keys ∷ es) k all r = no_way (sym r)
read_known indexes s c scan listed (Some own) (Drop i ∷ es) k all r = no_way (sym r)
read_known indexes s c scan listed (Some own) (FullEvent ∷ es) k all r = no_way (sym r)
read_known indexes s c scan listed (Some own) (Stop ∷ es) k all r = no_way (sym r)

at_known : (indexes : List ℕ) (s : Strategy) (c : Control) (es : List Event) → list_all (is_known indexes) es ≡ true → reads_at s c es ≡ true → list_all (names_known indexes) es ≡ true
at_known indexes s c [] all r = refl
at_known indexes s c (Scan i ∷ es) all r = and_from _ _ (first_so _ _ all) (read_known indexes s c (Some i) None None es (first_so _ _ all) (second_so (has_index i indexes) _ all) (second_so _ _ r))
at_known indexes s c (At to ∷ es) all r = read_known indexes s c None None None (At to ∷ es) refl all (second_so _ _ r)
at_known indexes s c (ListOf i keys ∷ es) all r = read_known indexes s c None None None (ListOf i keys ∷ es) refl all (second_so _ _ r)
at_known indexes s c (Drop i ∷ es) all r = read_known indexes s c None None None (Drop i ∷ es) refl all (second_so _ _ r)
at_known indexes s c (FullEvent ∷ es) all r = read_known indexes s c None None None (FullEvent ∷ es) refl all (second_so _ _ r)
at_known indexes s c (Stop ∷ es) all r = read_known indexes s c None None None (Stop ∷ es) refl all (second_so _ _ r)

all_known : (indexes : List ℕ) (s : Strategy) (es : List Event) → list_all (is_known indexes) es ≡ true → reads_all s es ≡ true → list_all (names_known indexes) es ≡ true
all_known indexes s [] all r = refl
all_known indexes s (At c ∷ es) all r = at_known indexes s c es all r
all_known indexes s (Scan i ∷ es) all r = no_way (sym r)
all_known indexes s (ListOf i keys ∷ es) all r = no_way (sym r)
all_known indexes s (Drop i ∷ es) all r = no_way (sym r)
all_known indexes s (FullEvent ∷ es) all r = no_way (sym r)
all_known indexes s (Stop ∷ es) all r = no_way (sym r)

-- those of a union

over_known : (indexes : List ℕ) (es : List Event) → is_over es ≡ true → list_all (names_known indexes) es ≡ true
over_known indexes [] h = refl
over_known indexes (At to ∷ []) h = refl
over_known indexes (At to ∷ e ∷ es) h = no_way (sym h)
over_known indexes (Scan i ∷ es) h = no_way (sym h)
over_known indexes (ListOf i keys ∷ es) h = no_way (sym h)
over_known indexes (Drop i ∷ es) h = no_way (sym h)
over_known indexes (FullEvent ∷ es) h = no_way (sym h)
over_known indexes (Stop ∷ es) h = no_way (sym h)

ends_known : (indexes : List ℕ) (c : Control) (es : List Event) → ends_in c es ≡ true → list_all (names_known indexes) es ≡ true
ends_known indexes c [] h = no_way (sym h)
ends_known indexes c (At to ∷ es) h = over_known indexes es (second_so (same_control to c) _ h)
ends_known indexes c (Scan i ∷ es) h = no_way (sym h)
ends_known indexes c (ListOf i keys ∷ es) h = no_way (sym h)
ends_known indexes c (Drop i ∷ es) h = no_way (sym h)
ends_known indexes c (FullEvent ∷ es) h = no_way (sym h)
ends_known indexes c (Stop ∷ es) h = no_way (sym h)

-- an index is this one, or one whose scan begins behind
begun_step : (indexes : List ℕ) (i j : ℕ) (behind b : Bool) → nat_eq j i ≡ b → (b || behind) ≡ true → has_index j indexes ≡ true → (behind ≡ true → has_index i indexes ≡ true) → has_index i indexes ≡ true
begun_step indexes i j behind true same h known more = subst (λ (n : ℕ). has_index n indexes ≡ true) (eqb-true j i same) known
begun_step indexes i j behind false same h known more = more h

-- an index whose scan some event begins is known
begun_known : (indexes : List ℕ) (i : ℕ) (es : List Event) → list_all (is_known indexes) es ≡ true → list_any (begins_scan i) es ≡ true → has_index i indexes ≡ true
begun_known indexes i [] all h = no_way (sym h)
begun_known indexes i (Scan j ∷ es) all h =
    begun_step indexes i j (list_any (begins_scan i) es) (nat_eq j i) refl h (first_so _ _ all)
    (λ (behind : list_any (begins_scan i) es ≡ true). begun_known indexes i es (second_so (has_index j indexes) _ all) behind)
begun_known indexes i (At to ∷ es) all h = begun_known indexes i es all h
begun_known indexes i (ListOf k keys ∷ es) all h = begun_known indexes i es all h
begun_known indexes i (Drop k ∷ es) all h = begun_known indexes i es all h
begun_known indexes i (FullEvent ∷ es) all h = begun_known indexes i es all h
begun_known indexes i (Stop ∷ es) all h = begun_known indexes i es all h

tail_known : (indexes : List ℕ) (all es : List Event) → list_all (is_known indexes) all ≡ true → list_all (is_known indexes) es ≡ true → reads_tail all es ≡ true → list_all (names_known indexes) es ≡ true
tail_known indexes all [] k l h = refl
tail_known indexes all (Scan i ∷ es) k l h = and_from _ _ (first_so _ _ l) (tail_known indexes all es k (second_so (has_index i indexes) _ l) h)
tail_known indexes all (ListOf i keys ∷ es) k l h = and_from _ _ (begun_known indexes i all k (first_so _ _ h)) (ends_known indexes FinalList es (second_so (list_any (begins_scan i) all) _ h))
tail_known indexes all (Drop i ∷ es) k l h = and_from _ _ (begun_known indexes i all k (first_so _ _ h)) (ends_known indexes FinalTable es (second_so (list_any (begins_scan i) all) _ h))
tail_known indexes all (At to ∷ es) k l h = no_way (sym h)
tail_known indexes all (FullEvent ∷ es) k l h = no_way (sym h)
tail_known indexes all (Stop ∷ es) k l h = no_way (sym h)

scans_known : (indexes : List ℕ) (es : List Event) → list_all (is_known indexes) es ≡ true → reads_scans es ≡ true → list_all (names_known indexes) es ≡ true
scans_known indexes [] all h = no_way (sym h)
scans_known indexes (Scan i ∷ es) all h = and_from _ _ (first_so _ _ all) (tail_known indexes (Scan i ∷ es) es all (second_so (has_index i indexes) _ all) h)
scans_known indexes (At to ∷ es) all h = no_way (sym h)
scans_known indexes (ListOf i keys ∷ es) all h = no_way (sym h)
scans_known indexes (Drop i ∷ es) all h = no_way (sym h)
scans_known indexes (FullEvent ∷ es) all h = no_way (sym h)
scans_known indexes (Stop ∷ es) all h = no_way (sym h)

union_known : (indexes : List ℕ) (es : List Event) → list_all (is_known indexes) es ≡ true → reads_union es ≡ true → list_all (names_known indexes) es ≡ true
union_known indexes [] all h = no_way (sym h)
union_known indexes (At c ∷ es) all h = scans_known indexes es all (second_so (same_control c BackgroundAlone) _ h)
union_known indexes (Scan i ∷ es) all h = no_way (sym h)
union_known indexes (ListOf i keys ∷ es) all h = no_way (sym h)
union_known indexes (Drop i ∷ es) all h = no_way (sym h)
union_known indexes (FullEvent ∷ es) all h = no_way (sym h)
union_known indexes (Stop ∷ es) all h = no_way (sym h)

by_known : (indexes : List ℕ) (s : Strategy) (es : List Event) → list_all (is_known indexes) es ≡ true → reads_by s es ≡ true → list_all (names_known indexes) es ≡ true
by_known indexes Table es all r = all_known indexes Table es all r
by_known indexes BackgroundOnly es all r = all_known indexes BackgroundOnly es all r
by_known indexes FastFirst es all r = all_known indexes FastFirst es all r
by_known indexes Sorted es all r = all_known indexes Sorted es all r
by_known indexes IndexOnly es all r = all_known indexes IndexOnly es all r
by_known indexes Union es all r = union_known indexes es all r

pub events_known : (indexes : List ℕ) (s : Strategy) (es : List Event) → is_read s es indexes ≡ true → list_all (names_known indexes) es ≡ true
events_known indexes s es r = by_known indexes s es (first_so _ _ (first_so _ _ r)) (second_so _ _ r)
