-- Levels: a row that is found, a retrieval that is opened, a call that keeps the rest.
use Rattle.std.proofs.Common.{◌≡◌, ℕ, ◌+◌, ◌<◌, ◌≤◌, List, [], ◌∷◌, ◌++◌, length, map, drop, Option, Some, None, refl, ap, sym, ◌∙◌, arith, subst, slice_index_or, zero, suc, append_assoc, le_refl}
use Rattle.std.specs.List.{flat_map}
use Rattle.std.specs.List.Sorted.{IsPermutation}
use Rattle.std.proofs.lemmas.List.Sorted.{IsPermutation-append_comm, IsPermutation-append_left}
use Rattle.std.proofs.lemmas.List.Concat.{flat_map-append}
use Rattle.std.proofs.lemmas.Grind.{common_steps}
use Rattle.rv_value.specs.declared.value.Value.{Value}
use Rattle.rv_value.specs.declared.record.Record.{Record}
use Rattle.rv_reader.specs.Shown.{Shown}
use Rattle.rv_judge.specs.declared.counting.Counts.{Counts}
use Rattle.rv_final.specs.Work.{Tries}
use Rattle.rv_final.specs.Rest.{AgreesIn, TakesOut}
use Rattle.rv_access.specs.declared.access.Access.{Access}
use Rattle.rv_access.specs.Accesses.{AccessFits, Awaiting, Keeps, Tells, effort, query_of, rest, trace_of}
use Rattle.rv_access.specs.Opened.{Opened}
use Rattle.rv_judge.specs.Tracing.{CountsAll}
use Rattle.rv_retrieval.specs.Short.{OnlyLeaves}
use Rattle.rv_scan.specs.Told.{width}
use Rattle.rv_join.specs.declared.places.Asked.{Asked}
use Rattle.rv_join.specs.declared.places.Item.{Item}
use Rattle.rv_join.specs.declared.level.Level.{Level}
use Rattle.rv_join.specs.Asking.{AreWide, Asks, CanRun, OpensItem, item_at, lives_of, no_item, rows_at}
use Rattle.rv_join.specs.Levels.{LevelFits, below, over_held, over_rest, over_row, still, tables_of, under, widened}
use Rattle.rv_join.specs.Work.{level_work, row_cost}
use Rattle.rv_join.specs.Moves.{Descends, LevelStays, OpensInner}
use Rattle.rv_join.proofs.Working.{fresh_work, stays_work}
use Rattle.rv_join.proofs.Same.{alike_last, alike_wide, flat_filter_same, under_same}

-- one item's part goes to the front
pub flat_out : {A B : Type 0} (f : A → List B) (front : List A) (x : A) (behind : List A) → IsPermutation (flat_map f (front ++ x ∷ behind)) (f x ++ flat_map f (front ++ behind))
flat_out f front x behind = rw (flat_map-append f front (x ∷ behind), flat_map-append f front behind) (swapped (flat_map f front) (f x) (flat_map f behind))
  where
    swapped : {B : Type 0} (a b c : List B) → IsPermutation (a ++ (b ++ c)) (b ++ (a ++ c))
    swapped a b c = subst (λ l. IsPermutation l (b ++ (a ++ c))) (append_assoc a b c) (subst (λ l. IsPermutation ((a ++ b) ++ c) l) (append_assoc b a c) (IsPermutation-append_left c (a ++ b) (b ++ a) (IsPermutation-append_comm a b)))

-- the row that is told has the same offers over it as the table's
pub told_same : (a : Asked) (shown : Shown) (l : Level) (r taken : Record) → CanRun a shown → LevelFits a shown l → AgreesIn (query_of l.here).need r taken → over_row a shown l r.values ≡ over_row a shown l taken.values
told_same a shown l r taken can fits agrees = under_same a shown (below a l) _ _ (alike_last a l.outer r.values taken.values (λ n u. agrees n (rw fits.asks.item.need ((can.each (length l.outer) fits.inside).need n u))))

-- a row goes out of the rest and is held
pub found_bag : (a : Asked) (shown : Shown) (old : Level) (new : Access) (r : Record) → CanRun a shown → LevelFits a shown old → TakesOut (query_of old.here).need r (rest old.here shown) (rest new shown) → IsPermutation (over_rest a shown old) (over_row a shown old r.values ++ flat_map (λ (x : Record). over_row a shown old x.values) (rest new shown))
found_bag a shown old new r can fits out = rw (out.before, out.after, told_same a shown old r out.taken can fits out.agrees) (flat_out (λ (x : Record). over_row a shown old x.values) out.front out.taken out.behind)

pub stays_fits : (a : Asked) (shown : Shown) (old : Level) (new : Access) → LevelFits a shown old → query_of new ≡ query_of old.here → AccessFits new shown → (Awaiting old.here → Awaiting new) → (Tells old.here → Tells new) → (row : Option (List Value)) → LevelFits a shown (record { outer = old.outer; row = row; here = new })
stays_fits a shown old new fits query here waits tells row = record {
  inside = fits.inside;
  here = here;
  asks = subst (λ q. Asks a old.outer q) (sym query) fits.asks;
  wide = fits.wide;
  awaiting = waits fits.awaiting;
  tells = tells fits.tells;
}

pub level_stays : (a : Asked) (shown : Shown) (old : Level) (new : Access) (before after : Counts) → LevelFits a shown old → query_of new ≡ query_of old.here → AccessFits new shown → Tries before after (effort old.here shown) (effort new shown) → (Awaiting old.here → Awaiting new) → (Tells old.here → Tells new) → rest new shown ≡ rest old.here shown → LevelStays a shown old (record old { here = new })
level_stays a shown old new before after fits query here tries waits tells same = record {
  fits = stays_fits a shown old new fits query here waits tells old.row;
  outer = refl;
  row = refl;
  left = same;
  work = stays_work a shown old new tries.less same;
}

-- the tables of the items from a place on
tables_at : (items : List Item) (p : ℕ) → p < length items → drop p (map (λ (i : Item). i.table) items) ≡ (slice_index_or items p no_item).table ∷ drop (p + 1) (map (λ (i : Item). i.table) items)
tables_at [] p le = absurd (omega (arith, le))
tables_at (i ∷ items) zero le = refl
tables_at (i ∷ items) (suc p) le = let next : suc p + 1 ≡ suc (p + 1) = omega arith in rw next (tables_at items p (omega (arith, le)))

-- a retrieval that is opened over rows owes what is under them
pub opened_is : (a : Asked) (shown : Shown) (outer : List (List Value)) (v : Access) → length outer < length a.items → OpensItem a shown outer v → still a shown (record { outer = outer; row = None; here = v }) ≡ under a shown (drop (length outer) (tables_of a)) outer
opened_is a shown outer v inside opens = rw (opens.rest_is, tables_at a.items (length outer) inside) (flat_filter_same (rows_at a shown (length outer)) _ _ _ _ (λ r. refl) (λ r. refl))

pub opened_fits : (a : Asked) (shown : Shown) (outer : List (List Value)) (v : Access) → length outer < length a.items → AreWide a outer → OpensItem a shown outer v → LevelFits a shown (record { outer = outer; row = None; here = v })
opened_fits a shown outer v inside wide opens = record { inside = inside; here = opens.fits; asks = opens.asks; wide = wide; awaiting = opens.awaiting; tells = opens.tells }

-- an inner retrieval over the row that is held, padded
pub descends : (a : Asked) (shown : Shown) (old : Level) (row : List Value) (width : ℕ) (outer : List (List Value)) (v : Access)
    → old.row ≡ Some row → outer ≡ old.outer ++ widened width row ∷ [] → length old.outer + 1 < length a.items → AreWide a outer → OpensItem a shown outer v
    → Descends a shown old (record { outer = outer; row = None; here = v })
descends a shown old row width outer v held is inside wide opens =
    let long : length outer ≡ length old.outer + 1 = rw is (grind (arith, common_steps)) in
    let in_it : length outer < length a.items = omega (arith, long, inside) in
    record {
      fits = opened_fits a shown outer v in_it wide opens;
      deeper = long;
      none = refl;
      work = subst (λ n. level_work a shown (record { outer = outer; row = None; here = v }) < row_cost (lives_of a.only) shown a.snap (drop n a.items)) long (fresh_work a shown outer v in_it opens);
      bag = opened_is a shown outer v in_it opens ∙ rw (held, long, is) (under_same a shown (below a old) _ _ (alike_wide a old.outer width row));
    }

-- and it is opened as the rules say, under its number
pub opens_inner : (a : Asked) (shown : Shown) (opening : ℕ) (c d : Counts) (old : Level) (row : List Value) (outer : List (List Value)) (v : Access)
    → old.row ≡ Some row → outer ≡ old.outer ++ widened (width (item_at a (length old.outer)).need) row ∷ [] → OpensItem a shown outer v
    → Opened a.race (query_of v) shown a.cursor opening v → CountsAll (trace_of v) c d → OnlyLeaves c d
    → OpensInner a shown opening c d old (record { outer = outer; row = None; here = v })
opens_inner a shown opening c d old row outer v held is opens opened counts only = record { row = row; held = held; over = is; none = refl; asks = opens.asks; opened = opened; counts = counts; only = only }

-- a level that owes what it owed has the same offers
pub stays_held : (a : Asked) (shown : Shown) (old new : Level) → LevelStays a shown old new → over_held a shown new new.row ≡ over_held a shown old old.row
stays_held a shown old new stays = rw stays.row (same_held old.row)
  where
    same_held : (o : Option (List Value)) → over_held a shown new o ≡ over_held a shown old o
    same_held None = refl
    same_held (Some row) = rw stays.outer refl

pub stays_still : (a : Asked) (shown : Shown) (old new : Level) → LevelStays a shown old new → still a shown new ≡ still a shown old
stays_still a shown old new stays = let held = stays_held a shown old new stays in rw held (ap (λ l. over_held a shown old old.row ++ l) over)
  where
    over : over_rest a shown new ≡ over_rest a shown old
    over = rw (stays.left, stays.outer) refl

pub level_same : (a : Asked) (shown : Shown) (l : Level) → LevelFits a shown l → LevelStays a shown l l
level_same a shown l fits = record { fits = fits; outer = refl; row = refl; left = refl; work = le_refl (level_work a shown l) }

-- a call that keeps what every reader shows
pub level_keeps : (a : Asked) (shown : Shown) (old : Level) (new : Access) → LevelFits a shown old → Keeps old.here new → ((shown : Shown) → AccessFits old.here shown → effort new shown ≤ effort old.here shown) → (Awaiting old.here → Awaiting new) → (Tells old.here → Tells new) → LevelStays a shown old (record old { here = new })
level_keeps a shown old new fits keeps less waits tells = record {
  fits = stays_fits a shown old new fits keeps.query (keeps.fits shown fits.here) waits tells old.row;
  outer = refl;
  row = refl;
  left = keeps.rest shown fits.here;
  work = stays_work a shown old new (less shown fits.here) (keeps.rest shown fits.here);
}
