-- The scans that events begin.
use Rattle.std.proofs.Common.{◌≡◌, ℕ, List, [], ◌∷◌, ◌++◌, Bool, true, false, ◌&&◌, ◌||◌, refl, sym, ap, ◌∙◌, Option, Some, None, nat_eq}
use Rattle.std.specs.Prelude.{if◌then◌else◌}
use Rattle.std.specs.List.{list_all, list_any}
use Rattle.std.proofs.lemmas.Bool.{and_from, not-true, not_from_false}
use Rattle.std.specs.Cmp.{first_so, second_so}
use Rattle.rv_value.proofs.Tests.{no_way}
use Rattle.rv_judge.specs.declared.events.Strategy.{Strategy}
use Rattle.rv_judge.specs.declared.events.Control.{Control}
use Rattle.rv_judge.specs.declared.events.Event.{Event}
use Rattle.rv_judge.specs.declared.events.Event.TheVariants.{At, Scan, List as ListOf, Drop, Full as FullEvent, Stop}
use Rattle.rv_judge.specs.Runs.{EachOnce, has_index, scans}
use Rattle.rv_decide.specs.declared.course.Place.{Place}
use Rattle.rv_decide.specs.Course.{are_apart, begins_scan, begun_by, goes_on, is_known, listed_by, reads}

pub known : (indexes : List ℕ) (es : List Event) → list_all (is_known indexes) es ≡ list_all (λ i. has_index i indexes) (begun_by es)
known indexes [] = refl
known indexes (Scan i ∷ es) = ap (λ b. has_index i indexes && b) (known indexes es)
known indexes (At to ∷ es) = known indexes es
known indexes (ListOf i keys ∷ es) = known indexes es
known indexes (Drop i ∷ es) = known indexes es
known indexes (FullEvent ∷ es) = known indexes es
known indexes (Stop ∷ es) = known indexes es

pub begun : (i : ℕ) (es : List Event) → list_any (begins_scan i) es ≡ has_index i (begun_by es)
begun i [] = refl
begun i (Scan j ∷ es) = ap (λ b. nat_eq j i || b) (begun i es)
begun i (At to ∷ es) = begun i es
begun i (ListOf j keys ∷ es) = begun i es
begun i (Drop j ∷ es) = begun i es
begun i (FullEvent ∷ es) = begun i es
begun i (Stop ∷ es) = begun i es

pub once : (es : List Event) → are_apart es ≡ true → EachOnce (begun_by es)
once [] a = tt
once (Scan i ∷ es) a = (sym (begun i es) ∙ not-true _ (first_so _ _ a), once es (second_so _ _ a))
once (At to ∷ es) a = once es a
once (ListOf i keys ∷ es) a = once es a
once (Drop i ∷ es) a = once es a
once (FullEvent ∷ es) a = once es a
once (Stop ∷ es) a = once es a

pub apart : (es : List Event) → EachOnce (begun_by es) → are_apart es ≡ true
apart [] o = refl
apart (Scan i ∷ es) o = and_from _ _ (not_from_false _ (begun i es ∙ o.0)) (apart es o.1)
apart (At to ∷ es) o = apart es o
apart (ListOf i keys ∷ es) o = apart es o
apart (Drop i ∷ es) o = apart es o
apart (FullEvent ∷ es) o = apart es o
apart (Stop ∷ es) o = apart es o

-- What begins a list of planned scans is known, and each once, where the list is.

pub front_known : (indexes xs ys : List ℕ) → list_all (λ i. has_index i indexes) (xs ++ ys) ≡ true → list_all (λ i. has_index i indexes) xs ≡ true
front_known indexes [] ys a = refl
front_known indexes (x ∷ xs) ys a = and_from _ _ (first_so _ _ a) (front_known indexes xs ys (second_so _ _ a))

-- Where no scan is under way none begins any more.

none_kept : (b : Bool) (scan : Option ℕ) → scan ≡ None → (if b then scan else None) ≡ None
none_kept true scan e = e
none_kept false scan e = refl

none_goes_on : (p : Place) (own : Event) → p.scan ≡ None → goes_on p own ≡ true → {X : Type 0} → X
none_goes_on p own e g = no_way (sym g ∙ idle own)
  where
    idle : (own : Event) → goes_on p own ≡ false
    idle (ListOf i keys) = rw e refl
    idle (Drop i) = rw e refl
    idle (At to) = refl
    idle (Scan i) = refl
    idle FullEvent = refl
    idle Stop = refl

pub no_scans : (s : Strategy) (c : Control) (scan listed : Option ℕ) (own : Option Event) (es : List Event) → scan ≡ None → reads s (record { control = c; scan = scan; listed = listed; own = own }) es ≡ true → begun_by es ≡ []
no_scans s c scan listed own [] e r = refl
no_scans s c scan listed own (At to ∷ es) e r = no_scans s to (if scans to then scan else None) (listed_by own listed) None es (none_kept (scans to) scan e) (second_so _ _ r)
no_scans s c scan listed None (Scan i ∷ es) e r = no_way (sym r)
no_scans s c scan listed (Some own) (Scan i ∷ es) e r = none_goes_on (record { control = c; scan = scan; listed = listed; own = Some own }) own e (first_so _ _ r)
no_scans s c scan listed own (ListOf i keys ∷ es) e r = no_scans s c scan listed (Some (ListOf i keys)) es e (second_so _ _ r)
no_scans s c scan listed own (Drop i ∷ es) e r = no_scans s c scan listed (Some (Drop i)) es e (second_so _ _ r)
no_scans s c scan listed own (FullEvent ∷ es) e r = no_scans s c scan listed (Some FullEvent) es e (second_so _ _ r)
no_scans s c scan listed own (Stop ∷ es) e r = no_scans s c scan listed (Some Stop) es e (second_so _ _ r)
