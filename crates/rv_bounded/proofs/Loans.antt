-- How many records a fast-first foreground may still fetch, by the scans that are left and the list that it borrows from.
use Rattle.std.proofs.Common.{◌≡◌, ℕ, zero, suc, ◌+◌, ◌-◌, ◌*◌, ◌/◌, ◌^◌, ◌<◌, ◌≤◌, List, length, Bool, true, false, Option, Some, None, is_some, refl, sym, ap, ◌∙◌, arith, mul_comm, pow-suc, if◌then◌else◌}
use Rattle.std.specs.Prelude.{nat_lt}
use Rattle.std.proofs.lemmas.Bool.Decides.{nat_tests}
use Rattle.std.proofs.lemmas.Nat.{le-div, pow_pos}
use Rattle.std.proofs.Math.Nat.{div-div-eq-div-mul}
use Rattle.rv_value.specs.declared.record.IndexEntry.{IndexEntry}
use Rattle.rv_jscan.specs.Joint.{Joint}
use Rattle.rv_jscan.specs.Steps.{abandoned, completed}
use Rattle.rv_retrieval.specs.Shape.{lending, lending_of}
use Rattle.rv_bounded.specs.Bounds.{spare}
use Rattle.rv_bounded.proofs.Sums.{le_on, after}

-- THE KEYS THAT THE SCAN AT A POSITION LENDS AT MOST: as many as an eighth of the pages, the next one a sixteenth, and so
-- on by halves
abbrev pub part : ℕ → ℕ → ℕ
part p scan = p / (8 * 2 ^ scan)

-- fewer keys than that share of what is guaranteed
pub part_within : (kept g p scan : ℕ) → 8 * 2 ^ scan * kept < g → g ≤ p → kept ≤ part p scan
part_within kept g p scan fewer less =
    let some = pow_pos scan in
    let turned = mul_comm kept (8 * 2 ^ scan) in
    le-div kept p (8 * 2 ^ scan) (omega (arith, some)) (omega (arith, turned, fewer, less))

-- each is half of the one before it
half_part : (p scan : ℕ) → part p (scan + 1) ≡ part p scan / 2
half_part p scan =
    ap (part p) (after scan) ∙ sym (div-div-eq-div-mul p (8 * 2 ^ scan) 2 ∙ ap (λ (d : ℕ). p / d) (doubled scan))
  where
    doubled : (n : ℕ) → 8 * 2 ^ n * 2 ≡ 8 * 2 ^ suc n
    doubled n = let twice = pow-suc 2 n in omega (arith, twice)

half_less : (half whole : ℕ) → half ≡ whole / 2 → half ≤ whole
half_less half whole e = omega (arith, e)

pub part_first : (p scan : ℕ) → part p scan ≤ part p 0
part_first p zero = omega arith
part_first p (suc n) =
    let one : part p (suc n) ≡ part p (n + 1) = ap (part p) (sym (after n)) in
    let half = half_less (part p (n + 1)) (part p n) (half_part p n) in
    let rest = part_first p n in
    omega (arith, one, half, rest)

-- the parts of so many scans from a position on come to no more than twice the first of them
abbrev pub parts_from : ℕ → ℕ → ℕ → ℕ
parts_from p scan zero = 0
parts_from p scan (suc n) = part p scan + parts_from p (scan + 1) n

parts_sum : (first next rest : ℕ) → next ≡ first / 2 → rest ≤ 2 * next → first + rest ≤ 2 * first
parts_sum first next rest e h = omega (arith, e, h)

parts_few : (p scan n : ℕ) → parts_from p scan n ≤ 2 * part p scan
parts_few p scan zero = omega arith
parts_few p scan (suc n) = parts_sum (part p scan) (part p (scan + 1)) (parts_from p (scan + 1) n) (half_part p scan) (parts_few p (scan + 1) n)

pub first_part : (p ended planned : ℕ) → ended < planned → parts_from p ended (planned - ended) ≡ part p ended + parts_from p (ended + 1) (planned - (ended + 1))
first_part p ended planned lt =
    let more : planned - ended ≡ suc (planned - (ended + 1)) = omega (arith, lt) in
    ap (parts_from p ended) more

-- THE RECORDS THAT MAY STILL BE BORROWED. Before a list is complete: what the present scan lends beside what it has lent,
-- the parts of those after it, and an eighth of the pages of a small table, since what a scan has lent is lent anew where
-- its list is complete. Behind
-- a complete list: what is left of it, and the parts of the scans that are left. Each list but the last may have 48 more.
abbrev pub loans_by : Option (List ℕ) → ℕ → ℕ → ℕ → ℕ → ℕ
loans_by None p planned ended borrowed = (part p ended - borrowed) + parts_from p (ended + 1) (planned - (ended + 1)) + spare p
loans_by (Some keys) p planned ended borrowed = (length keys - borrowed) + parts_from p ended (planned - ended)

abbrev pub loans : ℕ → Joint → ℕ → ℕ
loans p j borrowed = loans_by j.list p (length j.plans) j.ended borrowed + 48 * (length j.plans - (j.ended + 1))

-- keys are passed over
less_left : (whole a b x y : ℕ) → a ≤ b → (whole - b) + x + y ≤ (whole - a) + x + y
less_left whole a b x y h = omega (arith, h)

pub loans_passed : (p : ℕ) (j : Joint) (a b : ℕ) → a ≤ b → loans p j b ≤ loans p j a
loans_passed p j a b h = by j.list
  where
    more : ℕ
    more = 48 * (length j.plans - (j.ended + 1))

    by : (list : Option (List ℕ)) → loans_by list p (length j.plans) j.ended b + more ≤ loans_by list p (length j.plans) j.ended a + more
    by None = passed (part p j.ended) a b (parts_from p (j.ended + 1) (length j.plans - (j.ended + 1))) (spare p) more h
      where
        passed : (whole a b x y z : ℕ) → a ≤ b → (whole - b) + x + y + z ≤ (whole - a) + x + y + z
        passed whole a b x y z h = omega (arith, h)
    by (Some keys) = less_left (length keys) a b (parts_from p j.ended (length j.plans - j.ended)) more h

-- a key is fetched
one_left : (whole has a b x y z : ℕ) → a < b → a < has → has ≤ whole → (whole - b) + x + y + z + 1 ≤ (whole - a) + x + y + z
one_left whole has a b x y z h l m = omega (arith, h, l, m)

one_listed : (whole a b x z : ℕ) → a < b → a < whole → (whole - b) + x + z + 1 ≤ (whole - a) + x + z
one_listed whole a b x z h l = omega (arith, h, l)

pub loans_borrowed : (p : ℕ) (j : Joint) (a b : ℕ) → a < b → a < length (lending j) → length j.building ≤ part p j.ended → loans p j b + 1 ≤ loans p j a
loans_borrowed p j a b h some few = by j.list some
  where
    more : ℕ
    more = 48 * (length j.plans - (j.ended + 1))

    by : (list : Option (List ℕ)) → a < length (lending_of list j.building) → loans_by list p (length j.plans) j.ended b + more + 1 ≤ loans_by list p (length j.plans) j.ended a + more
    by None lt = one_left (part p j.ended) (length j.building) a b (parts_from p (j.ended + 1) (length j.plans - (j.ended + 1))) (spare p) more h lt few
    by (Some keys) lt = one_listed (length keys) a b (parts_from p j.ended (length j.plans - j.ended)) more h lt

-- the present scan is dropped, and another begins
dropped_none : (now rest left gone first ended planned : ℕ) → left ≡ now + rest → ended + 1 < planned → (now - 0) + rest + first + 48 * (planned - (ended + 1 + 1)) ≤ gone + left + first + 48 * (planned - (ended + 1))
dropped_none now rest left gone first ended planned e more = omega (arith, e, more)

dropped_some : (keys left part rest ended planned : ℕ) → left ≡ part + rest → keys + rest + 48 * (planned - (ended + 1 + 1)) ≤ keys + left + 48 * (planned - (ended + 1))
dropped_some keys left part rest ended planned e = omega (arith, e)

less_one : (a b : ℕ) → a + 1 < b → a < b
less_one a b h = omega (arith, h)

pub loans_dropped : (p : ℕ) (j : Joint) (borrowed : ℕ) → j.ended + 1 < length j.plans → loans p (abandoned j) (if is_some j.list then borrowed else 0) ≤ loans p j borrowed
loans_dropped p j borrowed more = by j.list
  where
    planned : ℕ
    planned = length j.plans

    by : (list : Option (List ℕ)) → loans_by list p planned (j.ended + 1) (if is_some list then borrowed else 0) + 48 * (planned - (j.ended + 1 + 1)) ≤ loans_by list p planned j.ended borrowed + 48 * (planned - (j.ended + 1))
    by None = dropped_none (part p (j.ended + 1)) (parts_from p (j.ended + 1 + 1) (planned - (j.ended + 1 + 1))) (parts_from p (j.ended + 1) (planned - (j.ended + 1))) (part p j.ended - borrowed) (spare p) j.ended planned (first_part p (j.ended + 1) planned more) more
    by (Some keys) = dropped_some (length keys - borrowed) (parts_from p j.ended (planned - j.ended)) (part p j.ended) (parts_from p (j.ended + 1) (planned - (j.ended + 1))) j.ended planned (first_part p j.ended planned (less_one j.ended planned more))

-- THE FINAL STAGE reads no more than the pages, or, once a list is complete, than what is guaranteed, and 48 records more
abbrev pub most_by : Option (List ℕ) → ℕ → ℕ → ℕ
most_by None p guaranteed = p
most_by (Some keys) p guaranteed = guaranteed

-- a list of few keys, and what its scan has lent, come to no more than the pages of a table that is not small
fits_great : (now q first p : ℕ) → first ≡ p / 8 → q ≤ first → now ≤ q + 48 → 64 ≤ p → now + q ≤ p + 0
fits_great now q first p e f n h = omega (arith, e, f, n, h)

fits_small : (now q first p : ℕ) → q ≤ first → now ≤ p → now + q ≤ p + first
fits_small now q first p f n = omega (arith, f, n)

spare_fits : (now q p : ℕ) → q ≤ part p 0 → now ≤ q + 48 → now ≤ p → now + q ≤ p + spare p
spare_fits now q p f n l = by (nat_lt p 64) refl
  where
    great : nat_lt p 64 ≡ false → 64 ≤ p
    great test = grind (arith, nat_tests)

    by : (b : Bool) → nat_lt p 64 ≡ b → now + q ≤ p + (if b then p / 8 else 0)
    by true test = fits_small now q (part p 0) p f l
    by false test = fits_great now q (part p 0) p refl f n (great test)

-- its list is complete, and another begins
whole_none : (now keys q rest gone more ended planned p : ℕ) → keys ≤ q + 48 → now + q ≤ p + more → ended + 1 < planned → now + ((keys - 0) + rest + 48 * (planned - (ended + 1 + 1))) ≤ p + (gone + rest + more + 48 * (planned - (ended + 1)))
whole_none now keys q rest gone more ended planned p k n h = omega (arith, k, n, h)

whole_some : (now keys q rest gone left ended planned g : ℕ) → keys ≤ q + 48 → left ≡ q + rest → now ≤ g → ended + 1 < planned → now + ((keys - 0) + rest + 48 * (planned - (ended + 1 + 1))) ≤ g + (gone + left + 48 * (planned - (ended + 1)))
whole_some now keys q rest gone left ended planned g k l n h = omega (arith, k, l, n, h)

least_of : (now keys q : ℕ) → now ≤ keys → keys ≤ q + 48 → now ≤ q + 48
least_of now keys q n k = omega (arith, n, k)

pub loans_completed : (p : ℕ) (j : Joint) (borrowed g now : ℕ) (entries : List IndexEntry) (keys : List ℕ) → length keys ≤ part p j.ended + 48 → now ≤ length keys → now ≤ g → g ≤ p → j.ended + 1 < length j.plans → now + loans p (completed j entries keys) 0 ≤ most_by j.list p g + loans p j borrowed
loans_completed p j borrowed g now entries keys few least less within more = by j.list
  where
    planned : ℕ
    planned = length j.plans

    by : (list : Option (List ℕ)) → now + ((length keys - 0) + parts_from p (j.ended + 1) (planned - (j.ended + 1)) + 48 * (planned - (j.ended + 1 + 1))) ≤ most_by list p g + (loans_by list p planned j.ended borrowed + 48 * (planned - (j.ended + 1)))
    by None = whole_none now (length keys) (part p j.ended) (parts_from p (j.ended + 1) (planned - (j.ended + 1))) (part p j.ended - borrowed) (spare p) j.ended planned p few (spare_fits now (part p j.ended) p (part_first p j.ended) (least_of now (length keys) (part p j.ended) least few) (le_on now g p less within)) more
    by (Some had) = whole_some now (length keys) (part p j.ended) (parts_from p (j.ended + 1) (planned - (j.ended + 1))) (length had - borrowed) (parts_from p j.ended (planned - j.ended)) j.ended planned g few (first_part p j.ended planned (less_one j.ended planned more)) less more

-- at opening
first_sum : (first next rest more planned : ℕ) → next ≡ first / 2 → rest ≤ 2 * next → 1 ≤ planned → (first - 0) + rest + more + 48 * (planned - 1) + 48 ≤ 2 * first + more + 48 * planned
first_sum first next rest more planned e h some = omega (arith, e, h, some)

pub loans_first : (p planned : ℕ) → 1 ≤ planned → loans_by None p planned 0 0 + 48 * (planned - (0 + 1)) + 48 ≤ 2 * (p / 8) + spare p + 48 * planned
loans_first p planned some = first_sum (part p 0) (part p 1) (parts_from p 1 (planned - 1)) (spare p) planned (half_part p 0) (parts_few p 1 (planned - 1)) some
