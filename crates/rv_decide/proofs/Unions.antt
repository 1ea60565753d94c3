-- The events of a union are read, and no others.
use Rattle.std.proofs.Common.{◌≡◌, ◌⊎◌, ℕ, ◌≤◌, List, [], ◌∷◌, ◌++◌, length, map, Bool, true, ◌&&◌, refl, sym, ap, ◌∙◌, subst, arith, inl, inr}
use Rattle.std.specs.List.{list_all, list_any}
use Rattle.std.specs.Cmp.{first_so, second_so}
use Rattle.std.proofs.lemmas.Bool.{and_from}
use Rattle.rv_value.proofs.Tests.{no_way}
use Rattle.rv_judge.specs.declared.events.Strategy.TheVariants.{Union}
use Rattle.rv_judge.specs.declared.events.Control.{Control}
use Rattle.rv_judge.specs.declared.events.Control.TheVariants.{BackgroundAlone, FinalList, FinalTable, Done}
use Rattle.rv_judge.specs.declared.events.Event.{Event}
use Rattle.rv_judge.specs.declared.events.Event.TheVariants.{At, Scan, List as ListOf, Drop, Full as FullEvent, Stop}
use Rattle.rv_judge.specs.Runs.{AllowedUnion, EachOnce, UnionTail, has_index, tail_among, tail_events, union_events}
use Rattle.rv_judge.specs.Runs.UnionTail.{Scanning, Fetching, Fetched, Reading, Read}
use Rattle.rv_decide.specs.Course.{are_apart, begins_scan, begun_by, ends_in, is_known, is_over, reads_scans, reads_tail, reads_union, same_control}
use Rattle.rv_decide.specs.Told.{trace_of}
use Rattle.rv_decide.proofs.Controls.{same_is}
use Rattle.rv_decide.proofs.Scanned.{apart, begun, known, once}

-- WHAT IS READ IS OF A UNION

over_is : (es : List Event) → is_over es ≡ true → (es ≡ []) ⊎ (es ≡ At Done ∷ [])
over_is [] h = inl refl
over_is (At to ∷ []) h = inr (ap (λ (c : Control). At c ∷ []) (same_is to Done h))
over_is (At to ∷ e ∷ es) h = no_way (sym h)
over_is (Scan i ∷ es) h = no_way (sym h)
over_is (ListOf i keys ∷ es) h = no_way (sym h)
over_is (Drop i ∷ es) h = no_way (sym h)
over_is (FullEvent ∷ es) h = no_way (sym h)
over_is (Stop ∷ es) h = no_way (sym h)

ends_is : (c : Control) (es : List Event) → ends_in c es ≡ true → (es ≡ At c ∷ []) ⊎ (es ≡ At c ∷ At Done ∷ [])
ends_is c [] h = no_way (sym h)
ends_is c (At to ∷ es) h = by (over_is es (second_so (same_control to c) _ h))
  where
    same : to ≡ c
    same = same_is to c (first_so _ _ h)

    by : ((es ≡ []) ⊎ (es ≡ At Done ∷ [])) → (At to ∷ es ≡ At c ∷ []) ⊎ (At to ∷ es ≡ At c ∷ At Done ∷ [])
    by (inl e) = inl (ap (λ (x : List Event). At to ∷ x) e ∙ ap (λ (x : Control). At x ∷ []) same)
    by (inr e) = inr (ap (λ (x : List Event). At to ∷ x) e ∙ ap (λ (x : Control). At x ∷ At Done ∷ []) same)
ends_is c (Scan i ∷ es) h = no_way (sym h)
ends_is c (ListOf i keys ∷ es) h = no_way (sym h)
ends_is c (Drop i ∷ es) h = no_way (sym h)
ends_is c (FullEvent ∷ es) h = no_way (sym h)
ends_is c (Stop ∷ es) h = no_way (sym h)

-- further scans, and then a tail
record Tailed (all es : List Event) : Type 0 where
  tail : UnionTail
  among : tail_among tail (begun_by all) ≡ true
  told : es ≡ map (λ (i : ℕ). Scan i) (begun_by es) ++ tail_events tail

list_tailed : (all : List Event) (i keys : ℕ) (es : List Event) → has_index i (begun_by all) ≡ true → (es ≡ At FinalList ∷ []) ⊎ (es ≡ At FinalList ∷ At Done ∷ []) → Tailed all (ListOf i keys ∷ es)
list_tailed all i keys es there (inl e) = subst (λ (x : List Event). Tailed all (ListOf i keys ∷ x)) (sym e) (record { tail = Fetching i keys; among = there; told = refl })
list_tailed all i keys es there (inr e) = subst (λ (x : List Event). Tailed all (ListOf i keys ∷ x)) (sym e) (record { tail = Fetched i keys; among = there; told = refl })

drop_tailed : (all : List Event) (i : ℕ) (es : List Event) → has_index i (begun_by all) ≡ true → (es ≡ At FinalTable ∷ []) ⊎ (es ≡ At FinalTable ∷ At Done ∷ []) → Tailed all (Drop i ∷ es)
drop_tailed all i es there (inl e) = subst (λ (x : List Event). Tailed all (Drop i ∷ x)) (sym e) (record { tail = Reading i; among = there; told = refl })
drop_tailed all i es there (inr e) = subst (λ (x : List Event). Tailed all (Drop i ∷ x)) (sym e) (record { tail = Read i; among = there; told = refl })

tailed : (all es : List Event) → reads_tail all es ≡ true → Tailed all es
tailed all [] h = record { tail = Scanning; among = refl; told = refl }
tailed all (Scan i ∷ es) h = let t = tailed all es h in record { tail = t.tail; among = t.among; told = ap (λ (x : List Event). Scan i ∷ x) t.told }
tailed all (ListOf i keys ∷ es) h = list_tailed all i keys es (sym (begun i all) ∙ first_so _ _ h) (ends_is FinalList es (second_so (list_any (begins_scan i) all) _ h))
tailed all (Drop i ∷ es) h = drop_tailed all i es (sym (begun i all) ∙ first_so _ _ h) (ends_is FinalTable es (second_so (list_any (begins_scan i) all) _ h))
tailed all (At to ∷ es) h = no_way (sym h)
tailed all (FullEvent ∷ es) h = no_way (sym h)
tailed all (Stop ∷ es) h = no_way (sym h)

scans_read : (c : Control) (es : List Event) (indexes : List ℕ) → c ≡ BackgroundAlone → reads_scans es ≡ true → list_all (λ i. has_index i indexes) (begun_by es) ≡ true → EachOnce (begun_by es) → AllowedUnion (trace_of Union (At c ∷ es)) indexes
scans_read c [] indexes e h all each = no_way (sym h)
scans_read c (Scan i ∷ es) indexes e h all each =
    let t = tailed (Scan i ∷ es) es h in
    record {
      begun = i ∷ begun_by es;
      some = omega arith;
      known = all;
      once = each;
      tail = t.tail;
      among = t.among;
      told = ap (λ (x : Control). At x ∷ Scan i ∷ es) e ∙ ap (λ (x : List Event). At BackgroundAlone ∷ Scan i ∷ x) t.told;
    }
scans_read c (At to ∷ es) indexes e h all each = no_way (sym h)
scans_read c (ListOf i keys ∷ es) indexes e h all each = no_way (sym h)
scans_read c (Drop i ∷ es) indexes e h all each = no_way (sym h)
scans_read c (FullEvent ∷ es) indexes e h all each = no_way (sym h)
scans_read c (Stop ∷ es) indexes e h all each = no_way (sym h)

union_at : (events : List Event) (indexes : List ℕ) → reads_union events ≡ true → list_all (λ i. has_index i indexes) (begun_by events) ≡ true → EachOnce (begun_by events) → AllowedUnion (trace_of Union events) indexes
union_at [] indexes h all each = no_way (sym h)
union_at (At c ∷ es) indexes h all each = scans_read c es indexes (same_is c BackgroundAlone (first_so _ _ h)) (second_so (same_control c BackgroundAlone) _ h) all each
union_at (Scan i ∷ es) indexes h all each = no_way (sym h)
union_at (ListOf i keys ∷ es) indexes h all each = no_way (sym h)
union_at (Drop i ∷ es) indexes h all each = no_way (sym h)
union_at (FullEvent ∷ es) indexes h all each = no_way (sym h)
union_at (Stop ∷ es) indexes h all each = no_way (sym h)

pub union_read : (events : List Event) (indexes : List ℕ) → (list_all (is_known indexes) events && are_apart events && reads_union events) ≡ true → AllowedUnion (trace_of Union events) indexes
union_read events indexes r =
    let front = first_so _ _ r in
    union_at events indexes (second_so (list_all (is_known indexes) events && are_apart events) _ r) (sym (known indexes events) ∙ first_so _ _ front) (once events (second_so (list_all (is_known indexes) events) _ front))

-- WHAT IS OF A UNION IS READ

begun_tail : (more : List ℕ) (tail : UnionTail) → begun_by (map (λ (i : ℕ). Scan i) more ++ tail_events tail) ≡ more
begun_tail [] Scanning = refl
begun_tail [] (Fetching i keys) = refl
begun_tail [] (Fetched i keys) = refl
begun_tail [] (Reading i) = refl
begun_tail [] (Read i) = refl
begun_tail (i ∷ more) tail = ap (λ (x : List ℕ). i ∷ x) (begun_tail more tail)

and_true : (a : Bool) → a ≡ true → (a && true) ≡ true
and_true a h = and_from a true h refl

tail_reads : (all : List Event) (more : List ℕ) (tail : UnionTail) → tail_among tail (begun_by all) ≡ true → reads_tail all (map (λ (i : ℕ). Scan i) more ++ tail_events tail) ≡ true
tail_reads all [] Scanning h = refl
tail_reads all [] (Fetching i keys) h = and_true (list_any (begins_scan i) all) (begun i all ∙ h)
tail_reads all [] (Fetched i keys) h = and_true (list_any (begins_scan i) all) (begun i all ∙ h)
tail_reads all [] (Reading i) h = and_true (list_any (begins_scan i) all) (begun i all ∙ h)
tail_reads all [] (Read i) h = and_true (list_any (begins_scan i) all) (begun i all ∙ h)
tail_reads all (i ∷ more) tail h = tail_reads all more tail h

told_reads : (indexes more : List ℕ) (i : ℕ) (tail : UnionTail) → list_all (λ k. has_index k indexes) (i ∷ more) ≡ true → EachOnce (i ∷ more) → tail_among tail (i ∷ more) ≡ true → (list_all (is_known indexes) (union_events (i ∷ more) tail) && are_apart (union_events (i ∷ more) tail) && reads_union (union_events (i ∷ more) tail)) ≡ true
told_reads indexes more i tail all each among =
    let events = union_events (i ∷ more) tail in
    let scans = Scan i ∷ (map (λ (k : ℕ). Scan k) more ++ tail_events tail) in
    let these : begun_by events ≡ i ∷ more = ap (λ (x : List ℕ). i ∷ x) (begun_tail more tail) in
    and_from _ _ (and_from _ _ (known indexes events ∙ ap (list_all (λ k. has_index k indexes)) these ∙ all) (apart events (subst EachOnce (sym these) each)))
    (tail_reads scans more tail (ap (tail_among tail) (ap (λ (x : List ℕ). i ∷ x) (begun_tail more tail)) ∙ among))

pub union_reads : (events : List Event) (indexes : List ℕ) → AllowedUnion (trace_of Union events) indexes → (list_all (is_known indexes) events && are_apart events && reads_union events) ≡ true
union_reads events indexes a = subst (λ (es : List Event). (list_all (is_known indexes) es && are_apart es && reads_union es) ≡ true) (sym a.told) (by a.begun a.some a.known a.once a.among)
  where
    by : (begun : List ℕ) → 1 ≤ length begun → list_all (λ k. has_index k indexes) begun ≡ true → EachOnce begun → tail_among a.tail begun ≡ true → (list_all (is_known indexes) (union_events begun a.tail) && are_apart (union_events begun a.tail) && reads_union (union_events begun a.tail)) ≡ true
    by [] some all each among = absurd (omega arith)
    by (i ∷ more) some all each among = told_reads indexes more i a.tail all each among
