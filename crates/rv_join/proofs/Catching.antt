-- A row that the first level catches leads: what is over it is least of all that is left.
use Rattle.std.proofs.Common.{◌≡◌, ℕ, ◌<◌, List, [], ◌∷◌, ◌++◌, length, map, false, not, Some, None, refl, ap, sym, ◌∙◌, arith, subst, slice_index_or, is_lt, inl, inr, Ordering, Less, Equal, Greater}
use Rattle.std.specs.List.{Contains, flat_map, list_all}
use Rattle.std.specs.List.Sorted.{IsPermutation}
use Rattle.std.specs.Ordering.{ordering_reverse}
use Rattle.std.proofs.lemmas.List.Sorted.{IsPermutation-refl}
use Rattle.std.proofs.lemmas.List.Elements.{Contains-append_cases, Contains-append_right, Contains-append_left}
use Rattle.std.specs.Cmp.{first_so, second_so}
use Rattle.std.proofs.lemmas.Bool.{not-true}
use Rattle.rv_value.specs.declared.value.Value.{Value}
use Rattle.rv_value.specs.declared.record.Record.{Record}
use Rattle.rv_value.specs.Order.{values_cmp}
use Rattle.rv_value.specs.Orders.{values_cmp_total}
use Rattle.rv_restrict.specs.Bind.{rows_reads}
use Rattle.rv_model.specs.declared.state.Offer.{Offer}
use Rattle.rv_reader.specs.Entries.{column_of}
use Rattle.rv_reader.specs.Shown.{Shown}
use Rattle.rv_judge.specs.declared.counting.Counts.{Counts}
use Rattle.rv_final.specs.Work.{Tries}
use Rattle.rv_final.specs.Rest.{IsLeast, TakesOut, order_of}
use Rattle.rv_access.specs.declared.access.Access.{Access}
use Rattle.rv_access.specs.Accesses.{AccessFits, Awaiting, Tells, effort, query_of, rest}
use Rattle.rv_join.specs.declared.places.Asked.{Asked}
use Rattle.rv_join.specs.declared.level.Level.{Level}
use Rattle.rv_join.specs.Asking.{CanRun, col_at, item_at}
use Rattle.rv_join.specs.Levels.{LevelFits, below, offered, over_held, over_row, still, under}
use Rattle.rv_join.specs.Work.{level_work}
use Rattle.rv_join.specs.Moves.{LevelMoves, LevelStays}
use Rattle.rv_join.specs.Order.{IsByFirst, Lead, before}
use Rattle.rv_join.proofs.Working.{found_work, works_less}
use Rattle.rv_join.proofs.Opening.{found_bag, level_same, level_stays, stays_fits, stays_held, stays_still}

none_in : {A : Type 0} (x : A) → Contains [] x → ⊥
none_in x c = let inside = c.1 in omega (arith, inside)

-- what holds of each piece holds of the joined list
pub in_flat : {A B : Type 0} (f : A → List B) (xs : List A) (P : B → Type 0) → ((x : A) → Contains xs x → (d : B) → Contains (f x) d → P d) → (d : B) → Contains (flat_map f xs) d → P d
in_flat f [] P each d c = absurd (none_in d c)
in_flat f (x ∷ xs) P each d c = elim (Contains-append_cases (f x) (flat_map f xs) d c) [
  | inl here ↦ each x (Contains-append_left (x ∷ []) xs x (0, omega arith, refl)) d here
  | inr more ↦ in_flat f xs P (λ y m. each y (Contains-append_right (x ∷ []) xs y m)) d more
]

keys_first : (order : List ℕ) (r : Record) (more : List (List Value)) → map (rows_reads (r.values ∷ more)) (map (col_at 0) order) ≡ order_of order r
keys_first [] r more = refl
keys_first (n ∷ order) r more = ap (λ l. column_of r.values n ∷ l) (keys_first order r more)

-- each offer over a first row has that row's order values
pub order_under : (a : Asked) (shown : Shown) → IsByFirst a → (ts : List ℕ) (r : Record) (more : List (List Value)) (d : Offer) → Contains (under a shown ts (r.values ∷ more)) d → d.order ≡ order_of (item_at a 0).order r
order_under a shown by [] r more d c = elim (Contains-append_cases (offered a (r.values ∷ more) ∷ []) [] d c) [
  | inl here ↦ lone d here
  | inr none ↦ absurd (none_in d none)
]
  where
    lone : (d : Offer) → Contains (offered a (r.values ∷ more) ∷ []) d → d.order ≡ order_of (item_at a 0).order r
    lone d c = let inside = c.1 in let at : c.0 ≡ 0 = omega (arith, inside) in
        let is : offered a (r.values ∷ more) ≡ d = subst (λ k. slice_index_or (offered a (r.values ∷ more) ∷ []) k d ≡ d) at c.2 in
        ap (λ (o : Offer). o.order) (sym is) ∙ rw by.columns (keys_first (item_at a 0).order r more)
order_under a shown by (t ∷ ts) r more d c = in_flat (λ (x : Record). under a shown ts ((r.values ∷ more) ++ x.values ∷ [])) _ (λ (d : Offer). d.order ≡ order_of (item_at a 0).order r) (λ x m d i. order_under a shown by ts r (more ++ x.values ∷ []) d i) d c

lt_same : (k : List Value) → is_lt (values_cmp k k) ≡ false
lt_same k = lt_self (values_cmp k k) (values_cmp_total.antisymm k k)
  where
    lt_self : (c : Ordering) → c ≡ ordering_reverse c → is_lt c ≡ false
    lt_self Less h = absurd (cc)
    lt_self Equal h = refl
    lt_self Greater h = refl

least_in : (order : List ℕ) (r : Record) (rows : List Record) (x : Record) → IsLeast order r rows → Contains rows x → is_lt (values_cmp (order_of order x) (order_of order r)) ≡ false
least_in order r [] x least c = absurd (none_in x c)
least_in order r (y ∷ rows) x least c = elim (Contains-append_cases (y ∷ []) rows x c) [
  | inl here ↦ lone here
  | inr more ↦ least_in order r rows x (second_so (not (is_lt (values_cmp (order_of order y) (order_of order r)))) (list_all (λ (x : Record). not (is_lt (values_cmp (order_of order x) (order_of order r)))) rows) least) more
]
  where
    lone : Contains (y ∷ []) x → is_lt (values_cmp (order_of order x) (order_of order r)) ≡ false
    lone c = let inside = c.1 in let at : c.0 ≡ 0 = omega (arith, inside) in
        let is : y ≡ x = subst (λ k. slice_index_or (y ∷ []) k x ≡ x) at c.2 in
        subst (λ (z : Record). is_lt (values_cmp (order_of order z) (order_of order r)) ≡ false) is (not-true _ (first_so (not (is_lt (values_cmp (order_of order y) (order_of order r)))) _ least))

-- what stays of a rest stood in it
stayed : (front behind : List Record) (taken x : Record) → Contains (front ++ behind) x → Contains (front ++ taken ∷ behind) x
stayed front behind taken x c = elim (Contains-append_cases front behind x c) [
  | inl here ↦ Contains-append_left front (taken ∷ behind) x here
  | inr more ↦ Contains-append_right front (taken ∷ behind) x (Contains-append_right (taken ∷ []) behind x more)
]

found_led : (a : Asked) (shown : Shown) (old : Level) (new : Access) (r : Record) → CanRun a shown → LevelFits a shown old → TakesOut (query_of old.here).need r (rest old.here shown) (rest new shown) → IsLeast (query_of old.here).order r (rest old.here shown) → old.outer ≡ [] → IsByFirst a → Lead (over_row a shown old r.values) (over_row a shown old r.values ++ flat_map (λ (x : Record). over_row a shown old x.values) (rest new shown))
found_led a shown old new r can fits out least first by d e c i = elim (Contains-append_cases (over_row a shown old r.values) (flat_map (λ (x : Record). over_row a shown old x.values) (rest new shown)) e i) [
  | inl here ↦ rw (key r d c, key r e here) (lt_same (order_of (item_at a 0).order r))
  | inr more ↦ in_flat (λ (x : Record). over_row a shown old x.values) (rest new shown) (λ (e : Offer). before e d ≡ false) (λ x m e j. rw (key r d c, key x e j) (behind x m)) e more
]
  where
    key : (x : Record) (d : Offer) → Contains (over_row a shown old x.values) d → d.order ≡ order_of (item_at a 0).order x
    key x d c = order_under a shown by (below a old) x [] d (subst (λ (rows : List (List Value)). Contains (under a shown (below a old) (rows ++ x.values ∷ [])) d) first c)

    order_is : (query_of old.here).order ≡ (item_at a 0).order
    order_is = fits.asks.item.order ∙ ap (λ (rows : List (List Value)). (item_at a (length rows)).order) first

    behind : (x : Record) → Contains (rest new shown) x → is_lt (values_cmp (order_of (item_at a 0).order x) (order_of (item_at a 0).order r)) ≡ false
    behind x m = subst (λ (o : List ℕ). is_lt (values_cmp (order_of o x) (order_of o r)) ≡ false) order_is (least_in (query_of old.here).order r (rest old.here shown) x least (rw out.before (stayed out.front out.behind out.taken x (rw out.after at m))))

-- a row that is found is held
pub found_moves : (a : Asked) (shown : Shown) (old : Level) (new : Access) (r : Record) (before after : Counts) → CanRun a shown → LevelFits a shown old → old.row ≡ None → query_of new ≡ query_of old.here → AccessFits new shown → Tries before after (effort old.here shown) (effort new shown) → (Awaiting old.here → Awaiting new) → (Tells old.here → Tells new) → TakesOut (query_of old.here).need r (rest old.here shown) (rest new shown) × IsLeast (query_of old.here).order r (rest old.here shown) → LevelMoves a shown old (record { outer = old.outer; row = Some r.values; here = new })
found_moves a shown old new r before after can fits none query here tries waits tells found = record {
  fits = stays_fits a shown old new fits query here waits tells (Some r.values);
  outer = refl;
  bag = rw none (found_bag a shown old new r can fits found.0);
  led = λ first by led. found_led a shown old new r can fits found.0 found.1 first by;
  work = found_work a shown old new r none tries.less found.0;
}

-- a level that owes what it owed
pub stays_moves : (a : Asked) (shown : Shown) (old new : Level) → LevelStays a shown old new → LevelMoves a shown old new
stays_moves a shown old new stays = record {
  fits = stays.fits;
  outer = stays.outer;
  bag = subst (λ l. IsPermutation (still a shown old) l) (sym (stays_still a shown old new stays)) (IsPermutation-refl _);
  led = λ first by led. subst (λ l. Lead l (still a shown new)) (sym (stays_held a shown old new stays)) (subst (λ l. Lead (over_held a shown old old.row) l) (sym (stays_still a shown old new stays)) led);
  work = stays.work;
}

pub same_moves : (a : Asked) (shown : Shown) (l : Level) → LevelFits a shown l → LevelMoves a shown l l
same_moves a shown l fits = stays_moves a shown l l (level_same a shown l fits)

-- the end of a retrieval
pub ended_moves : (a : Asked) (shown : Shown) (old : Level) (new : Access) (before after : Counts) → LevelFits a shown old → old.row ≡ None → query_of new ≡ query_of old.here → AccessFits new shown → Tries before after (effort old.here shown) (effort new shown) → (Awaiting old.here → Awaiting new) → (Tells old.here → Tells new) → (rest old.here shown ≡ []) × (rest new shown ≡ []) → LevelMoves a shown old (record old { here = new }) × (still a shown (record old { here = new }) ≡ [])
ended_moves a shown old new before after fits none query here tries waits tells ended = (stays_moves a shown old (record old { here = new }) (level_stays a shown old new before after fits query here tries waits tells (ended.1 ∙ sym ended.0)), rw (none, ended.1) refl)

-- a step without a row lowers the work
pub worked_moves : (a : Asked) (shown : Shown) (old : Level) (new : Access) (before after : Counts) → LevelFits a shown old → query_of new ≡ query_of old.here → AccessFits new shown → Tries before after (effort old.here shown) (effort new shown) → (Awaiting old.here → Awaiting new) → (Tells old.here → Tells new) → rest new shown ≡ rest old.here shown → effort new shown < effort old.here shown → LevelMoves a shown old (record old { here = new }) × (level_work a shown (record old { here = new }) < level_work a shown old)
worked_moves a shown old new before after fits query here tries waits tells same less = (stays_moves a shown old (record old { here = new }) (level_stays a shown old new before after fits query here tries waits tells same), works_less a shown old new less same)
