-- A guarded judge is bounded, and a product that stays at a greatest number is tested as the product is.
use Rattle.std.proofs.Common.{◌≡◌, ℕ, zero, suc, ◌+◌, ◌-◌, ◌*◌, ◌/◌, ◌^◌, ◌<◌, ◌≤◌, Bool, true, false, ◌&&◌, ◌||◌, nat_le, min, refl, ap, sym, ◌∙◌, arith, mul_comm, mul_right_comm, suc-mul, zero-mul, if◌then◌else◌}
use Rattle.std.proofs.lemmas.Bool.Decides.{nat_tests}
use Rattle.std.proofs.lemmas.Nat.{le-div, pow_pos}
use Rattle.std.proofs.lemmas.Bool.{leb-false}
use Rattle.rv_judge.specs.declared.judging.Facts.{Facts}
use Rattle.rv_judge.specs.declared.judging.Verdict.{Verdict}
use Rattle.rv_judge.specs.declared.judging.Verdict.TheVariants.{Continue, AbandonScan, AbandonForeground, AbandonBackground}
use Rattle.rv_judge.specs.Verdicts.{Ruling}
use Rattle.skew_judges.specs.Rules.{is_building}
use Rattle.skew_judges.specs.Guard.{GuardedAreBounded, Keeps, goes_on, held_back, is_lent, is_long, is_sunk, listed, parts}

-- from the fourth scan on
pub parts_late : (n : ℕ) → parts (suc (suc (suc n))) ≡ 2 * 2 ^ suc (suc (suc n))
parts_late n = grind (arith, nat_tests)

pub parts_some : (scan : ℕ) → 0 < parts scan
parts_some zero = omega arith
parts_some (suc zero) = omega arith
parts_some (suc (suc zero)) = omega arith
parts_some (suc (suc (suc n))) =
    let some = pow_pos (suc (suc (suc n))) in
    let are = parts_late n in
    omega (arith, some, are)

-- where so many times the leaves beside one are less than the guarantee, they are a part of it
in_share : (parts spent guaranteed : ℕ) → 0 < parts → parts * (spent - 1) < guaranteed → spent ≤ 1 + guaranteed / parts
in_share parts spent guaranteed some fewer =
    let turned = mul_comm parts (spent - 1) in
    let part = le-div (spent - 1) guaranteed parts some (omega arith) in
    omega arith

least_less : (a b n : ℕ) → a < n → min a b < n
least_less a b n h = omega arith

keeps : (facts : Facts) → is_sunk facts ≡ false → is_long facts ≡ false → Keeps facts
keeps facts sunk long = record {
  sunk = in_share (parts facts.scan) facts.spent facts.guaranteed (parts_some facts.scan) (leb-false facts.guaranteed _ sunk);
  few = least_less (listed facts) facts.projected facts.guaranteed (leb-false facts.guaranteed (listed facts) long);
}

-- what the guard answers by the two tests
abbrev told : Bool → Bool → ℕ → Facts → Ruling → Ruling
told sunk long state facts answer =
    if sunk || long then record { verdict = AbandonScan; next = state } else record { verdict = held_back facts answer.verdict; next = answer.next }

scan_keeps : (sunk long : Bool) (state : ℕ) (facts : Facts) (answer : Ruling) → is_sunk facts ≡ sunk → is_long facts ≡ long → goes_on (told sunk long state facts answer).verdict ≡ true → Keeps facts
scan_keeps true long state facts answer s l goes = let no : false ≡ true = goes in cc
scan_keeps false true state facts answer s l goes = let no : false ≡ true = goes in cc
scan_keeps false false state facts answer s l goes = keeps facts s l

abbrev is_continue : Verdict → Bool
is_continue Continue = true
is_continue verdict = false

abbrev stopped : Bool → Verdict
stopped lent = if lent then AbandonForeground else Continue

not_lent : (lent : Bool) (facts : Facts) → is_lent facts ≡ lent → is_continue (stopped lent) ≡ true → 8 * 2 ^ facts.scan * facts.kept < facts.guaranteed
not_lent true facts is goes = let no : false ≡ true = goes in cc
not_lent false facts is goes = leb-false facts.guaranteed _ is

held_keeps : (facts : Facts) (answer : Verdict) → is_continue (held_back facts answer) ≡ true → is_building facts.control ≡ true → 8 * 2 ^ facts.scan * facts.kept < facts.guaranteed
held_keeps facts Continue goes building = not_lent (is_lent facts) facts refl (sym (ap (λ b. is_continue (stopped (b && is_lent facts))) building) ∙ goes)
held_keeps facts AbandonScan goes building = let no : false ≡ true = goes in cc
held_keeps facts AbandonForeground goes building = let no : false ≡ true = goes in cc
held_keeps facts AbandonBackground goes building = let no : false ≡ true = goes in cc

lent_keeps : (sunk long : Bool) (state : ℕ) (facts : Facts) (answer : Ruling) → is_continue (told sunk long state facts answer).verdict ≡ true → is_building facts.control ≡ true → 8 * 2 ^ facts.scan * facts.kept < facts.guaranteed
lent_keeps true long state facts answer goes building = let no : false ≡ true = goes in cc
lent_keeps false true state facts answer goes building = let no : false ≡ true = goes in cc
lent_keeps false false state facts answer goes building = held_keeps facts answer.verdict goes building

-- the law
pub are_bounded : GuardedAreBounded
are_bounded would state facts = (
  scan_keeps (is_sunk facts) (is_long facts) state facts (would state facts) refl refl,
  λ goes. lent_keeps (is_sunk facts) (is_long facts) state facts (would state facts) (ap is_continue goes),
)

-- Products that stay at a greatest number.

least_tests : (x most n : ℕ) → n ≤ most → nat_le n (min x most) ≡ nat_le n x
least_tests x most n fits = grind (arith, nat_tests)

both_reach : (a b n : ℕ) → n ≤ a → n ≤ b → nat_le n a ≡ nat_le n b
both_reach a b n left right = grind (arith, nat_tests)

at_least : (k x : ℕ) → x ≤ suc k * x
at_least k x = let more = suc-mul k x in omega (arith, more)

pub held_tests : (count power most n : ℕ) → n ≤ most → nat_le n (min (count * min power most) most) ≡ nat_le n (count * power)
held_tests zero power most n fits = ap (λ x. nat_le n (min x most)) (zero-mul (min power most)) ∙ least_tests 0 most n fits ∙ ap (λ x. nat_le n x) (sym (zero-mul power))
held_tests (suc k) power most n fits = by (nat_le power most) refl
  where
    whole : nat_le power most ≡ true → min power most ≡ power
    whole p = grind (arith, nat_tests)

    held : nat_le power most ≡ false → min power most ≡ most
    held p = grind (arith, nat_tests)

    by : (b : Bool) → nat_le power most ≡ b → nat_le n (min (suc k * min power most) most) ≡ nat_le n (suc k * power)
    by true p = ap (λ x. nat_le n (min (suc k * x) most)) (whole p) ∙ least_tests (suc k * power) most n fits
    by false p =
        let most_is = held p in
        let left = at_least k (min power most) in
        let right = at_least k power in
        let over = leb-false power most p in
        both_reach (min (suc k * min power most) most) (suc k * power) n (omega (arith, most_is, left, fits)) (omega (arith, right, over, fits))

-- the test of what is sunk, as the factors of a share are told
pub sunk_is : (cut : ℕ × ℕ) (parts factor beside spent guaranteed : ℕ) → parts ≡ cut.0 * 2 ^ cut.1 → factor ≡ cut.0 → beside ≡ spent - 1 → nat_le guaranteed (factor * beside * 2 ^ cut.1) ≡ nat_le guaranteed (parts * (spent - 1))
sunk_is cut parts factor beside spent guaranteed whole first second =
    ap (λ x. nat_le guaranteed x) (mul_right_comm factor beside (2 ^ cut.1) ∙ ap (λ x. x * 2 ^ cut.1 * beside) first ∙ ap (λ x. x * beside) (sym whole) ∙ ap (λ x. parts * x) second)
