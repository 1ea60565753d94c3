-- An accepted piece lowers the work of a plan, and a stale one leaves it.
use Rattle.std.proofs.Common.{◌≡◌, ℕ, ◌+◌, ◌*◌, ◌<◌, List, [], ◌∷◌, length, Result, Ok, Err, IfOk, ap, sym, ◌∙◌, arith, subst, zero, suc, slice_index_or, slice_set}
use Rattle.rv_value.specs.declared.record.Record.{Record}
use Rattle.rv_reader.specs.Shown.{Shown}
use Rattle.rv_jscan.specs.declared.jscan.Given.{Given}
use Rattle.rv_jscan.specs.declared.jscan.Given.TheVariants.{Accepted, Stale}
use Rattle.rv_retrieval.specs.Effort.{GiveSpends}
use Rattle.rv_access.specs.declared.access.Access.{Access}
use Rattle.rv_access.specs.Accesses.{AccessFits, Keeps, effort, rest}
use Rattle.rv_join.specs.declared.places.Asked.{Asked}
use Rattle.rv_join.specs.declared.level.Level.{Level}
use Rattle.rv_join.specs.Asking.{lives_of}
use Rattle.rv_join.specs.Levels.{AllFit, LevelFits, Stacked}
use Rattle.rv_join.specs.Work.{held_rows, items_below, level_work, levels_work, loops_work, row_cost}
use Rattle.rv_join.proofs.Calls.{fit_at}
use Rattle.rv_join.proofs.Working.{works_less}

same_effort : (a : Asked) (shown : Shown) (old : Level) (new : Access) → effort new shown ≡ effort old.here shown → rest new shown ≡ rest old.here shown → level_work a shown (record old { here = new }) ≡ level_work a shown old
same_effort a shown old new same left =
    let cost = row_cost (lives_of a.only) shown a.snap (items_below a old) in
    ap (λ (n : ℕ). n + 1 + (held_rows old.row + length (rest new shown)) * cost) same ∙ ap (λ (l : List Record). effort old.here shown + 1 + (held_rows old.row + length l) * cost) left

lowers_one : (g : Given) (a : Asked) (shown : Shown) (old : Level) (new : Access) → rest new shown ≡ rest old.here shown → GiveSpends g (effort old.here shown) (effort new shown) → GiveSpends g (level_work a shown old) (level_work a shown (record old { here = new }))
lowers_one Accepted a shown old new left less = works_less a shown old new less left
lowers_one (Stale asked now) a shown old new left same = same_effort a shown old new same left

-- a level's retrieval was given a piece
pub level_lowers : {E : Type 0} (r : Result Given E) (a : Asked) (shown : Shown) (old : Level) (new : Access) → LevelFits a shown old → Keeps old.here new → ((s : Shown) → AccessFits old.here s → IfOk r (λ g. GiveSpends g (effort old.here s) (effort new s))) → IfOk r (λ g. GiveSpends g (level_work a shown old) (level_work a shown (record old { here = new })))
level_lowers (Ok g) a shown old new fits keeps spends = lowers_one g a shown old new (keeps.rest shown fits.here) (spends shown fits.here)
level_lowers (Err e) a shown old new fits keeps spends = tt

first_lowers : (g : Given) (k m n : ℕ) → GiveSpends g m n → GiveSpends g (m + k) (n + k)
first_lowers Accepted k m n less = omega (arith, less)
first_lowers (Stale asked now) k m n same = ap (λ (x : ℕ). x + k) same

then_lowers : (g : Given) (k m n : ℕ) → GiveSpends g m n → GiveSpends g (k + m) (k + n)
then_lowers Accepted k m n less = omega (arith, less)
then_lowers (Stale asked now) k m n same = ap (λ (x : ℕ). k + x) same

set_lowers : (g : Given) (a : Asked) (shown : Shown) (ls : List Level) (i : ℕ) (d new : Level) → i < length ls → GiveSpends g (level_work a shown (slice_index_or ls i d)) (level_work a shown new) → GiveSpends g (levels_work a shown ls) (levels_work a shown (slice_set ls i new))
set_lowers g a shown [] i d new le lowers = absurd (omega (arith, le))
set_lowers g a shown (l ∷ ls) zero d new le lowers = first_lowers g (levels_work a shown ls) (level_work a shown l) (level_work a shown new) lowers
set_lowers g a shown (l ∷ ls) (suc i) d new le lowers = then_lowers g (level_work a shown l) (levels_work a shown ls) (levels_work a shown (slice_set ls i new)) (set_lowers g a shown ls i d new (omega (arith, le)) lowers)

-- the retrieval of a place was given a piece
pub levels_lower : {E : Type 0} (r : Result Given E) (a : Asked) (shown : Shown) (ls : List Level) (i : ℕ) (old : Level) (new : Access) → i < length ls → AllFit a shown 0 ls → old ≡ slice_index_or ls i old → Keeps old.here new → ((s : Shown) → AccessFits old.here s → IfOk r (λ g. GiveSpends g (effort old.here s) (effort new s))) → IfOk r (λ g. GiveSpends g (levels_work a shown ls) (levels_work a shown (slice_set ls i (record old { here = new }))))
levels_lower r a shown ls i old new le all is keeps spends = each r (level_lowers r a shown old new (subst (LevelFits a shown) (sym is) (fit_at a shown 0 ls i old le all)) keeps spends)
  where
    each : {E : Type 0} (r : Result Given E) → IfOk r (λ g. GiveSpends g (level_work a shown old) (level_work a shown (record old { here = new }))) → IfOk r (λ g. GiveSpends g (levels_work a shown ls) (levels_work a shown (slice_set ls i (record old { here = new }))))
    each (Ok g) lowers = set_lowers g a shown ls i old (record old { here = new }) le (subst (λ (l : Level). GiveSpends g (level_work a shown l) (level_work a shown (record old { here = new }))) is lowers)
    each (Err e) lowers = tt

-- the levels above the innermost one, or that one
pub above_lowers : {E : Type 0} (r : Result Given E) (a : Asked) (shown : Shown) (old new : Stacked) → IfOk r (λ g. GiveSpends g (levels_work a shown old.above) (levels_work a shown new.above)) → new ≡ record old { above = new.above } → IfOk r (λ g. GiveSpends g (loops_work a shown old) (loops_work a shown new))
above_lowers (Ok g) a shown old new lowers same = rw same (first_lowers g (level_work a shown old.at) (levels_work a shown old.above) (levels_work a shown new.above) lowers)
above_lowers (Err e) a shown old new lowers same = tt

pub innermost_lowers : {E : Type 0} (r : Result Given E) (a : Asked) (shown : Shown) (old new : Stacked) → IfOk r (λ g. GiveSpends g (level_work a shown old.at) (level_work a shown new.at)) → new ≡ record old { at = new.at } → IfOk r (λ g. GiveSpends g (loops_work a shown old) (loops_work a shown new))
innermost_lowers (Ok g) a shown old new lowers same = rw same (then_lowers g (levels_work a shown old.above) (level_work a shown old.at) (level_work a shown new.at) lowers)
innermost_lowers (Err e) a shown old new lowers same = tt
