-- A call of one level's retrieval that owes what it owed leaves the bag and what leads.
use Rattle.std.proofs.Common.{◌≡◌, ℕ, ◌+◌, ◌<◌, ◌≤◌, List, [], ◌∷◌, ◌++◌, length, refl, ap, sym, ◌∙◌, arith, subst, zero, suc, slice_index_or, slice_set, position, Option, Some, None, le_refl}
use Rattle.std.specs.List.{flat_map}
use Rattle.std.proofs.lemmas.List.Quantifiers.{position-Some}
use Rattle.rv_reader.specs.Shown.{Shown}
use Rattle.rv_join.specs.declared.places.Asked.{Asked}
use Rattle.rv_join.specs.declared.level.Level.{Level}
use Rattle.rv_join.specs.Levels.{AllFit, LevelFits, StackFits, Stacked, bag, given, given_in, over_held, still}
use Rattle.rv_join.specs.Moves.{LevelStays, LevelsStay, SameFirst, StackStays}
use Rattle.rv_join.specs.Order.{Lead, Led}
use Rattle.rv_join.specs.Pieces.{is_waiting, place_or, waits}
use Rattle.rv_join.specs.Work.{level_work, levels_work}
use Rattle.rv_join.proofs.Opening.{stays_held, stays_still}
use Rattle.rv_join.proofs.Working.{sums_le}

pub fit_at : (a : Asked) (shown : Shown) (place : ℕ) (ls : List Level) (i : ℕ) (d : Level) → i < length ls → AllFit a shown place ls → LevelFits a shown (slice_index_or ls i d)
fit_at a shown place [] i d le all = absurd (omega (arith, le))
fit_at a shown place (l ∷ ls) zero d le all = all.1
fit_at a shown place (l ∷ ls) (suc i) d le all = fit_at a shown (place + 1) ls i d (omega (arith, le)) all.2

-- past the levels above the innermost one is that one
pub at_past : (ls : List Level) (i : ℕ) (d : Level) → length ls ≤ i → slice_index_or ls i d ≡ d
at_past [] i d le = refl
at_past (l ∷ ls) zero d le = absurd (omega (arith, le))
at_past (l ∷ ls) (suc i) d le = at_past ls i d (omega (arith, le))

levels_set : (a : Asked) (shown : Shown) (place : ℕ) (ls : List Level) (i : ℕ) (d new : Level) → i < length ls → AllFit a shown place ls → LevelStays a shown (slice_index_or ls i d) new → LevelsStay a shown place ls (slice_set ls i new)
levels_set a shown place [] i d new le all stays = absurd (omega (arith, le))
levels_set a shown place (l ∷ ls) zero d new le all stays = record {
  fits = (ap length stays.outer ∙ all.0, stays.fits, all.2);
  count = refl;
  bag = ap (λ x. x ++ flat_map (still a shown) ls) (stays_still a shown l new stays);
  work = sums_le (level_work a shown new) (level_work a shown l) (levels_work a shown ls) (levels_work a shown ls) stays.work (le_refl (levels_work a shown ls));
}
levels_set a shown place (l ∷ ls) (suc i) d new le all stays =
    let tail = levels_set a shown (place + 1) ls i d new (omega (arith, le)) all.2 stays in
    record { fits = (all.0, all.1, tail.fits); count = ap suc tail.count; bag = ap (λ x. still a shown l ++ x) tail.bag; work = sums_le (level_work a shown l) (level_work a shown l) (levels_work a shown (slice_set ls i new)) (levels_work a shown ls) (le_refl (level_work a shown l)) tail.work }

first_set : (a : Asked) (shown : Shown) (place : ℕ) (ls : List Level) (i : ℕ) (d new : Level) → i < length ls → AllFit a shown place ls → LevelStays a shown (slice_index_or ls i d) new → SameFirst a shown ls (slice_set ls i new)
first_set a shown place [] i d new le all stays = absurd (omega (arith, le))
first_set a shown place (l ∷ ls) zero d new le all stays = (stays_held a shown l new stays, refl)
first_set a shown place (l ∷ ls) (suc i) d new le all stays = (refl, (levels_set a shown (place + 1) ls i d new (omega (arith, le)) all.2 stays).bag)

-- the level of a place was called
pub levels_at : (a : Asked) (shown : Shown) (ls : List Level) (i : ℕ) (old new : Level) → i < length ls → AllFit a shown 0 ls → old ≡ slice_index_or ls i old → (LevelFits a shown old → LevelStays a shown old new) → LevelsStay a shown 0 ls (slice_set ls i new) × SameFirst a shown ls (slice_set ls i new)
levels_at a shown ls i old new le all is stays =
    let fits = subst (λ l. LevelFits a shown l) (sym is) (fit_at a shown 0 ls i old le all) in
    let there = subst (λ l. LevelStays a shown l new) is (stays fits) in
    (levels_set a shown 0 ls i old new le all there, first_set a shown 0 ls i old new le all there)

-- the first level that awaits a piece is one of the open ones
pub waits_within : (v : Stacked) → waits v ≤ length v.above
waits_within v = by_place v.above (position is_waiting v.above) refl
  where
    position_below : (ls : List Level) (n : ℕ) → position is_waiting ls ≡ Some n → n ≤ length ls
    position_below ls n e = let low = (position-Some is_waiting ls n v.at e).0 in omega (arith, low)

    by_place : (ls : List Level) (o : Option ℕ) → position is_waiting ls ≡ o → place_or o (length ls) ≤ length ls
    by_place ls None e = omega arith
    by_place ls (Some n) e = position_below ls n e

given_same : (a : Asked) (shown : Shown) (old new : List Level) (at : Level) → SameFirst a shown old new → given_in a shown new at ≡ given_in a shown old at
given_same a shown [] new at same = rw same refl
given_same a shown (f ∷ ls) [] at same = absurd same
given_same a shown (f ∷ ls) (g ∷ ms) at same = rw (same.0, same.1) refl

given_at : (a : Asked) (shown : Shown) (above : List Level) (old new : Level) → LevelStays a shown old new → given_in a shown above new ≡ given_in a shown above old
given_at a shown [] old new stays = stays_held a shown old new stays
given_at a shown (f ∷ ls) old new stays = ap (λ x. over_held a shown f f.row ++ (flat_map (still a shown) ls ++ x)) (stays_still a shown old new stays)

led_same : (a : Asked) (shown : Shown) (old new : Stacked) → given a shown new ≡ given a shown old → bag a shown new ≡ bag a shown old → Led a shown old → Led a shown new
led_same a shown old new g b led = subst (λ l. Lead l (bag a shown new)) (sym g) (subst (λ l. Lead (given a shown old) l) (sym b) led)

pub stays_above : (a : Asked) (shown : Shown) (old new : Stacked) → StackFits a shown old → LevelsStay a shown 0 old.above new.above → SameFirst a shown old.above new.above → new ≡ record old { above = new.above } → StackStays a shown old new
stays_above a shown old new fits stay first same = rw same (record {
  fits = record { above = stay.fits; at = fits.at; deep = fits.deep ∙ sym stay.count };
  bag = ap (λ x. x ++ still a shown old.at) stay.bag;
  work = sums_le (levels_work a shown new.above) (levels_work a shown old.above) (level_work a shown old.at) (level_work a shown old.at) stay.work (le_refl (level_work a shown old.at));
  led = led_same a shown old (record old { above = new.above }) (given_same a shown old.above new.above old.at first) (ap (λ x. x ++ still a shown old.at) stay.bag);
})

pub stays_at : (a : Asked) (shown : Shown) (old new : Stacked) → StackFits a shown old → LevelStays a shown old.at new.at → new ≡ record old { at = new.at } → StackStays a shown old new
stays_at a shown old new fits stays same = rw same (record {
  fits = record { above = fits.above; at = stays.fits; deep = ap length stays.outer ∙ fits.deep };
  bag = ap (λ x. flat_map (still a shown) old.above ++ x) (stays_still a shown old.at new.at stays);
  work = sums_le (levels_work a shown old.above) (levels_work a shown old.above) (level_work a shown new.at) (level_work a shown old.at) (le_refl (levels_work a shown old.above)) stays.work;
  led = led_same a shown old (record old { at = new.at }) (given_at a shown old.above old.at new.at stays) (ap (λ x. flat_map (still a shown) old.above ++ x) (stays_still a shown old.at new.at stays));
})
