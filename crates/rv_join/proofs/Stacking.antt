-- Each change of the open levels keeps the bag, but for an offer that is given.
use Rattle.std.proofs.Common.{◌≡◌, ℕ, ◌+◌, ◌<◌, List, [], ◌∷◌, ◌++◌, length, map, true, Option, Some, None, IsSome, Result, Ok, Err, IfOk, OnErr, refl, ap, sym, ◌∙◌, arith, subst, suc, le_trans, lt_of_lt_of_le, le_of_lt, le_refl}
use Rattle.std.specs.List.{flat_map}
use Rattle.std.specs.List.Sorted.{IsPermutation}
use Rattle.std.proofs.lemmas.Bool.Decides.{nat_tests}
use Rattle.std.proofs.lemmas.List.{drop_all, append-nil, nil_from_length}
use Rattle.std.proofs.lemmas.List.Elements.{Contains-append_left}
use Rattle.std.proofs.lemmas.List.Sorted.{Contains-permutation, IsPermutation-refl, IsPermutation-append_right, IsPermutation-sym, IsPermutation-trans, length_permutation}
use Rattle.std.proofs.lemmas.Grind.{common_steps}
use Rattle.rv_value.specs.declared.value.Value.{Value}
use Rattle.rv_model.specs.declared.state.Offer.{Offer}
use Rattle.rv_reader.specs.Shown.{Shown}
use Rattle.rv_join.specs.declared.places.Asked.{Asked}
use Rattle.rv_join.specs.declared.places.Item.{Item}
use Rattle.rv_join.specs.declared.level.Level.{Level}
use Rattle.rv_reader.specs.declared.step.Step.{Step}
use Rattle.rv_reader.specs.declared.step.Step.TheVariants.{Row, Working, End}
use Rattle.rv_join.specs.Levels.{AllFit, LevelFits, StackFits, Stacked, bag, below, down, given, given_in, is_last, offered, over_row, still, tables_of, under, used}
use Rattle.rv_join.specs.Moves.{Descends, Kept, LevelMoves, Moves, Takes}
use Rattle.rv_join.specs.Work.{level_work, levels_work, loops_work}
use Rattle.rv_join.specs.Order.{IsByFirst, Lead}
use Rattle.rv_join.proofs.Leading.{bag_down, bag_more, bag_used, given_at, given_down, given_up, given_used, lead_less, stands_in}
use Rattle.rv_join.proofs.Working.{down_work, given_work, sums_le, sums_less, up_work}

fit_more : (a : Asked) (shown : Shown) (place : ℕ) (ls : List Level) (l : Level) → AllFit a shown place ls → length l.outer ≡ place + length ls → LevelFits a shown l → AllFit a shown place (ls ++ l ∷ [])
fit_more a shown place [] l all deep fits = (omega (arith, deep), fits, record {})
fit_more a shown place (x ∷ ls) l all deep fits = (all.0, all.1, fit_more a shown (place + 1) ls l all.2 (omega (arith, deep)) fits)

pub record Parts (a : Asked) (shown : Shown) (place : ℕ) (ls : List Level) (l : Level) : Type 0 where
  pub above : AllFit a shown place ls
  pub deep : length l.outer ≡ place + length ls
  pub at : LevelFits a shown l

fit_less : (a : Asked) (shown : Shown) (place : ℕ) (ls : List Level) (l : Level) → AllFit a shown place (ls ++ l ∷ []) → Parts a shown place ls l
fit_less a shown place [] l all = let here = all.0 in record { above = record {}; deep = omega (arith, here); at = all.1 }
fit_less a shown place (x ∷ ls) l all = let tail = fit_less a shown (place + 1) ls l all.2 in let deep = tail.deep in record { above = (all.0, all.1, tail.above); deep = omega (arith, deep); at = tail.at }

-- two stacks by their parts
stack_is : (above : List Level) (at : Level) (openings : ℕ) → Stacked
stack_is above at openings = record { above = above; at = at; openings = openings }

led_at : (a : Asked) (shown : Shown) (above : List Level) (old new : Level) (n : ℕ) → length old.outer ≡ length above → LevelMoves a shown old new → IsByFirst a → Lead (given_in a shown above old) (flat_map (still a shown) above ++ still a shown old) → Lead (given_in a shown above new) (flat_map (still a shown) above ++ still a shown new)
led_at a shown [] old new n deep moves by led = moves.led (nil_from_length old.outer deep) by led
led_at a shown (f ∷ ls) old new n deep moves by led = lead_less (given_in a shown (f ∷ ls) old) (flat_map (still a shown) (f ∷ ls) ++ still a shown old) [] (given_in a shown (f ∷ ls) new) [] (flat_map (still a shown) (f ∷ ls) ++ still a shown new) (given_at a shown f ls old new moves.bag) (IsPermutation-append_right (flat_map (still a shown) (f ∷ ls)) (still a shown old) (still a shown new) moves.bag) led

-- the innermost level alone moves
pub kept_at : (a : Asked) (shown : Shown) (old new : Stacked) → StackFits a shown old → new ≡ record old { at = new.at } → LevelMoves a shown old.at new.at → Kept a shown old new
kept_at a shown old new fits same moves = rw same (record {
  fits = record { above = fits.above; at = moves.fits; deep = ap length moves.outer ∙ fits.deep };
  bag = IsPermutation-append_right (flat_map (still a shown) old.above) (still a shown old.at) (still a shown new.at) moves.bag;
  led = λ by led. led_at a shown old.above old.at new.at 0 fits.deep moves by led;
  work = sums_le (levels_work a shown old.above) (levels_work a shown old.above) (level_work a shown new.at) (level_work a shown old.at) (le_refl (levels_work a shown old.above)) moves.work;
})

-- and does some work
pub kept_less : (a : Asked) (shown : Shown) (old new : Stacked) → StackFits a shown old → new ≡ record old { at = new.at } → LevelMoves a shown old.at new.at → level_work a shown new.at < level_work a shown old.at → Kept a shown old new × (loops_work a shown new < loops_work a shown old)
kept_less a shown old new fits same moves less = (kept_at a shown old new fits same moves, rw same (sums_less (levels_work a shown old.above) (level_work a shown new.at) (level_work a shown old.at) less))

-- an inner level is opened
pub opens : (a : Asked) (shown : Shown) (old new : Stacked) (inner : Level) → StackFits a shown old → IsSome old.at.row → Descends a shown old.at inner → new ≡ down old inner → Kept a shown old new × (loops_work a shown new < loops_work a shown old)
opens a shown old new inner fits some descends is =
    let deep = fits.deep in
    let deeper = descends.deeper in
    rw is (
      record {
        fits = record {
          above = fit_more a shown 0 old.above _ fits.above (omega (arith, deep)) (record { inside = fits.at.inside; here = fits.at.here; asks = fits.at.asks; wide = fits.at.wide; awaiting = fits.at.awaiting; tells = fits.at.tells });
          at = descends.fits;
          deep = grind (arith, common_steps, deep, deeper);
        };
        bag = bag_down a shown old.above old.at inner descends.bag;
        led = λ by led. lead_less (given a shown old) (bag a shown old) [] _ [] _ (given_down a shown old.above old.at inner descends.bag) (bag_down a shown old.above old.at inner descends.bag) led;
        work = le_of_lt less;
      },
      less,
    )
  where
    by_row : (row : Option (List Value)) → old.at.row ≡ row → IsSome row → levels_work a shown (old.above ++ (record old.at { row = None }) ∷ []) + level_work a shown inner < levels_work a shown old.above + level_work a shown old.at
    by_row None e h = absurd (cc)
    by_row (Some row) e h = down_work a shown old.above old.at inner row e descends.work

    less : levels_work a shown (old.above ++ (record old.at { row = None }) ∷ []) + level_work a shown inner < levels_work a shown old.above + level_work a shown old.at
    less = by_row old.at.row refl some

-- the row that is held is given
pub delivers : (a : Asked) (shown : Shown) (old new : Stacked) (o : Offer) → StackFits a shown old → IsSome old.at.row → is_last a old ≡ true → ((row : List Value) → old.at.row ≡ Some row → o ≡ offered a (old.at.outer ++ row ∷ [])) → new ≡ used old → Takes a shown o old new
delivers a shown old new o fits some last is used_is = elim old.at.row as (λ x. old.at.row ≡ x → IsSome x → Takes a shown o old new) [
  | None ↦ λ e h. absurd (cc)
  | Some row ↦ λ e h. gives row e
] refl some
  where
    count_same : (xs : List Item) → length (map (λ (i : Item). i.table) xs) ≡ length xs
    count_same [] = refl
    count_same (x ∷ xs) = ap suc (count_same xs)

    none_below : below a old.at ≡ []
    none_below = let n = count_same a.items in drop_all (length old.at.outer + 1) (tables_of a) (grind (arith, nat_tests, last, n))

    gives : (row : List Value) → old.at.row ≡ Some row → Takes a shown o old new
    gives row e =
        let one : over_row a shown old.at row ≡ o ∷ [] = subst (λ ts. under a shown ts (old.at.outer ++ row ∷ []) ≡ o ∷ []) (sym none_below) (ap (λ x. x ∷ []) (sym (is row e))) in
        let goes : IsPermutation (bag a shown old) (o ∷ (flat_map (still a shown) old.above ++ still a shown (record old.at { row = None }))) = subst (λ l. IsPermutation (bag a shown old) (l ++ (flat_map (still a shown) old.above ++ still a shown (record old.at { row = None })))) one (bag_used a shown old.above old.at row e) in
        let held : IsPermutation (given a shown old) (o ∷ given_in a shown old.above (record old.at { row = None })) = subst (λ l. IsPermutation (given a shown old) (l ++ given_in a shown old.above (record old.at { row = None }))) one (given_used a shown old.above old.at row e) in
        rw used_is (record {
          fits = record { above = fits.above; at = record { inside = fits.at.inside; here = fits.at.here; asks = fits.at.asks; wide = fits.at.wide; awaiting = fits.at.awaiting; tells = fits.at.tells }; deep = fits.deep };
          work = given_work a shown old.above old.at row e;
          bag = goes;
          led = λ by led. lead_less (given a shown old) (bag a shown old) (o ∷ []) _ (o ∷ []) _ held goes led;
          least = λ by led d c. led o d (Contains-permutation _ (given a shown old) o (IsPermutation-sym _ _ held) (Contains-append_left (o ∷ []) _ o (0, omega arith, refl))) (stands_in (bag a shown old) (o ∷ []) _ d goes c);
        })

-- the innermost level is left
pub climbs : (a : Asked) (shown : Shown) (old new : Stacked) → StackFits a shown old → still a shown old.at ≡ [] → old.above ≡ new.above ++ new.at ∷ [] → Kept a shown old new × (loops_work a shown new < loops_work a shown old)
climbs a shown old new fits none up =
    let all = fit_less a shown 0 new.above new.at (rw (← up) fits.above) in
    let deep = all.deep in
    let same : bag a shown old ≡ bag a shown new = rw (up, none, bag_more a shown new.above new.at) (append-nil (flat_map (still a shown) new.above ++ still a shown new.at)) in
    let held : given a shown old ≡ given a shown new = rw up (given_up a shown new.above new.at old.at none) in
    let less : loops_work a shown new < loops_work a shown old = rw up (up_work a shown new.above new.at old.at) in (
      record {
        fits = record { above = all.above; at = all.at; deep = omega (arith, deep) };
        bag = rw same (IsPermutation-refl _);
        led = λ by led. subst (λ l. Lead l (bag a shown new)) held (subst (λ l. Lead (given a shown old) l) same led);
        work = le_of_lt less;
      },
      less,
    )

pub ends : (a : Asked) (shown : Shown) (old new : Stacked) → StackFits a shown old → still a shown old.at ≡ [] → (old.above ≡ []) × (new ≡ old) → Moves a shown End old new
ends a shown old new fits none top = rw top.1 (record { fits = fits; bag = IsPermutation-refl _; led = λ by led. led; work = le_refl _ }, rw (none, top.0) refl)

pub none_before : {A : Type 0} (xs : List A) → IsPermutation xs [] → xs ≡ []
none_before [] p = refl
none_before (x ∷ xs) p = absurd (omega (arith, length_permutation (x ∷ xs) [] p))

kept_kept : (a : Asked) (shown : Shown) (old mid new : Stacked) → Kept a shown old mid → Kept a shown mid new → Kept a shown old new
kept_kept a shown old mid new one two = record { fits = two.fits; bag = IsPermutation-trans _ _ _ one.bag two.bag; led = λ by led. two.led by (one.led by led); work = le_trans two.work one.work }

pub kept_then : (a : Asked) (shown : Shown) (m : Step Offer) (old mid new : Stacked) → Kept a shown old mid → Moves a shown m mid new → Moves a shown m old new
kept_then a shown (Row o) old mid new kept moves = record { fits = moves.fits; bag = IsPermutation-trans _ _ _ kept.bag moves.bag; led = λ by led. moves.led by (kept.led by led); least = λ by led. moves.least by (kept.led by led); work = lt_of_lt_of_le moves.work kept.work }
kept_then a shown End old mid new kept moves = (kept_kept a shown old mid new kept moves.0, none_before _ (subst (λ l. IsPermutation (bag a shown old) l) moves.1 kept.bag))
kept_then a shown Working old mid new kept moves = (kept_kept a shown old mid new kept moves.0, lt_of_lt_of_le moves.1 kept.work)

pub kept_then_if : {E : Type 0} (a : Asked) (shown : Shown) (r : Result (Step Offer) E) (old mid new : Stacked) → Kept a shown old mid → IfOk r (λ m. Moves a shown m mid new) → IfOk r (λ m. Moves a shown m old new)
kept_then_if a shown (Ok m) old mid new kept moves = kept_then a shown m old mid new kept moves
kept_then_if a shown (Err e) old mid new kept moves = moves

-- the innermost level was called, and nothing more was done where memory was wanting
pub kept_or : {X E : Type 0} (r : Result X E) (a : Asked) (shown : Shown) (old mid new : Stacked) → Kept a shown old mid → OnErr r (new ≡ mid) → OnErr r (Kept a shown old new)
kept_or (Ok x) a shown old mid new kept same = tt
kept_or (Err e) a shown old mid new kept same = subst (Kept a shown old) (sym same) kept
