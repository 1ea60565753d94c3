-- Sums and orders of numbers, as several of these files need them.
use Rattle.std.proofs.Common.{◌≡◌, ℕ, suc, ◌+◌, ◌-◌, ◌*◌, ◌<◌, ◌≤◌, min, arith, refl, sym, subst}

pub at_most : (n : ℕ) → n ≤ n
at_most n = omega arith

pub le_on : (a m n : ℕ) → a ≤ m → m ≤ n → a ≤ n
le_on a m n h k = omega (arith, h, k)

pub less_by : (now was most : ℕ) → now ≡ was → was ≤ most → now ≤ most
less_by now was most e h = omega (arith, e, h)

pub min_left : (a b : ℕ) → min a b ≤ a
min_left a b = omega arith

pub more_by : (m a b : ℕ) → a ≤ b → m + a ≤ m + b
more_by m a b h = omega (arith, h)

pub less_same : (now mid was : ℕ) → now ≤ mid → mid ≡ was → now ≤ was
less_same now mid was h e = omega (arith, h, e)

pub great_sum : (now most bound lost : ℕ) → now ≤ most → most ≤ bound → now ≤ bound + lost
great_sum now most bound lost h m = omega (arith, h, m)

pub share_more : (spent share more : ℕ) → spent ≤ 1 + share → share ≤ more → spent ≤ 1 + more
share_more spent share more s m = omega (arith, s, m)

pub both_less : (a b c d : ℕ) → a ≡ c → b ≡ d → c ≤ d → a ≤ b
both_less a b c d e f h = omega (arith, e, f, h)

pub rise_one : (now was before behind most : ℕ) → now ≡ min (was + (behind - before)) most → behind ≤ before + 1 → now ≤ was + 1
rise_one now was before behind most n b = omega (arith, n, b)

pub same_one : (behind before : ℕ) → behind ≡ before → behind ≤ before + 1
same_one behind before e = omega (arith, e)

-- what was read with what is ahead of it, and the same after a call
pub sum_read : (now was left had : ℕ) → now ≤ was + 1 → left + 1 ≤ had → now + left ≤ was + had + 0
sum_read now was left had n l = omega (arith, n, l)

pub sum_none : (now was left had : ℕ) → now ≤ was → left ≤ had → now + left ≤ was + had + 0
sum_none now was left had n l = omega (arith, n, l)

pub sum_lost : (now was left had : ℕ) → now ≤ was + 1 → left ≤ had → now + left ≤ was + had + 1
sum_lost now was left had n l = omega (arith, n, l)

pub read_sum : (new old whole rest share spent after held had most : ℕ) → new ≡ whole - min after (1 + share + held) → old ≡ whole - min spent (1 + share + had) → whole ≡ 2 + share + rest → after ≡ min (spent + 1) most → held ≡ 1 → had ≡ 0 → 2 + share ≤ most → new + 1 ≤ old
read_sum new old whole rest share spent after held had most n o w a h d s = omega (arith, n, o, w, a, h, d, s)

pub less_more : (a b c : ℕ) → a < b → b ≤ c → a < c
less_more a b c h m = omega (arith, h, m)

pub min_right : (a b : ℕ) → min a b ≤ b
min_right a b = omega arith

pub record_sum : (now left was had : ℕ) → now ≤ was + (0 + 1) → left ≤ had → now + left ≤ was + had + 1
record_sum now left was had n l = omega (arith, n, l)

pub sum_more : (now was left had : ℕ) → now ≤ was → left ≤ had + 1 → now + left ≤ was + had + 1
sum_more now was left had n l = omega (arith, n, l)

pub both_more : (a b c d : ℕ) → a ≡ c → b ≡ d → c ≤ d + 1 → a ≤ b + 1
both_more a b c d e f h = omega (arith, e, f, h)

pub none_more : (a b : ℕ) → a ≤ b → a ≤ b + 0
none_more a b h = omega (arith, h)

pub same_less : (a b : ℕ) → a ≡ b → a ≤ b
same_less a b e = omega (arith, e)

pub zero_most : (n most : ℕ) → n ≡ 0 → n ≤ most
zero_most n most e = omega (arith, e)

pub risen_most : (now risen most : ℕ) → now ≡ min risen most → now ≤ most
risen_most now risen most e = omega (arith, e)

pub zero_least : (n : ℕ) → 0 ≤ n
zero_least n = omega arith

pub add_lost : (now mid was lost more : ℕ) → mid ≤ was + lost → now ≤ mid + more → now ≤ was + (lost + more)
add_lost now mid was lost more h g = omega (arith, h, g)

pub small_pages : (p planned most : ℕ) → p + 2 * planned < most → p ≤ most
small_pages p planned most h = omega (arith, h)

pub from_first : (n : ℕ) → n - 0 ≡ n
from_first n = omega arith

pub whole_sum : (now left was had most lost : ℕ) → now + left ≤ was + had + lost → was ≡ 0 → had ≤ most → now ≤ most + lost
whole_sum now left was had most lost h z m = omega (arith, h, z, m)

pub rise_none : (now was before behind most : ℕ) → now ≡ min (was + (behind - before)) most → behind ≡ before → now ≤ was
rise_none now was before behind most n b = omega (arith, n, b)

pub minus_less : (new whole taken all most : ℕ) → new ≡ whole - taken → whole ≡ all → all ≤ most → new ≤ most
minus_less new whole taken all most n w h = omega (arith, n, w, h)

pub none_risen : (now n most : ℕ) → now ≡ min (0 + (n - n)) most → now ≡ 0
none_risen now n most e = omega (arith, e)

pub quiet_sum : (now was left stepped had : ℕ) → now ≤ was → left ≡ stepped → stepped ≤ had → now + left ≤ was + had + 0
quiet_sum now was left stepped had n e s = omega (arith, n, e, s)

pub there_sum : (now a most calls lost : ℕ) → now ≡ a → a ≤ most + calls → calls ≤ lost → now ≤ most + lost
there_sum now a most calls lost n h l = omega (arith, n, h, l)

pub list_sum : (keys all built more entries p : ℕ) → all ≡ keys → all ≡ built + more → built ≤ p → more ≤ entries → entries ≤ 48 → keys ≤ p + 48
list_sum keys all built more entries p k a b m e = omega (arith, k, a, b, m, e)

pub after : (n : ℕ) → n + 1 ≡ suc n
after n = omega arith

pub still_sum : (n a : ℕ) → n + a ≤ n + a + 0
still_sum n a = omega arith

pub lost_sum : (new old whole rest share spent after held had most : ℕ) → new ≡ whole - min after (1 + share + held) → old ≡ whole - min spent (1 + share + had) → whole ≡ 2 + share + rest → after ≡ min (spent + 1) most → had ≡ 0 → 2 + share ≤ most → new ≤ old
lost_sum new old whole rest share spent after held had most n o w a d s = omega (arith, n, o, w, a, d, s)

-- WHAT CALLS ONE AFTER ANOTHER COST: the leaves, with those ahead, come to no more than before, and so do the other reads, but for one
-- for each call for which no memory was found; and something holds on.
pub record Spent {S : Type 0} (Holds : S → Type 0) (leaves_of others_of : S → ℕ) (lost : ℕ) (old new : S) : Type 0 where
  pub holds : Holds new
  pub leaf : ℕ
  pub other : ℕ
  pub both : leaf + other ≡ lost
  pub leaves : leaves_of new ≤ leaves_of old + leaf
  pub fewer : others_of new ≤ others_of old + other

pub none_spent : {S : Type 0} {Holds : S → Type 0} {leaves_of others_of : S → ℕ} (old new : S) → new ≡ old → Holds old → Spent Holds leaves_of others_of 0 old new
none_spent {S} {Holds} {leaves_of} {others_of} old new same holds = subst (Spent Holds leaves_of others_of 0 old) (sym same) (record { holds = holds; leaf = 0; other = 0; both = refl; leaves = none_more (leaves_of old) (leaves_of old) (at_most (leaves_of old)); fewer = none_more (others_of old) (others_of old) (at_most (others_of old)) })

both_lost : (a b c d lost more : ℕ) → a + b ≡ lost → c + d ≡ more → (a + c) + (b + d) ≡ lost + more
both_lost a b c d lost more e f = omega (arith, e, f)

pub spent_on : {S : Type 0} {Holds : S → Type 0} {leaves_of others_of : S → ℕ} (lost more : ℕ) (old mid new : S) → Spent Holds leaves_of others_of lost old mid → Spent Holds leaves_of others_of more mid new → Spent Holds leaves_of others_of (lost + more) old new
spent_on {S} {Holds} {leaves_of} {others_of} lost more old mid new before last = record {
  holds = last.holds;
  leaf = before.leaf + last.leaf;
  other = before.other + last.other;
  both = both_lost before.leaf before.other last.leaf last.other lost more before.both last.both;
  leaves = add_lost (leaves_of new) (leaves_of mid) (leaves_of old) before.leaf last.leaf before.leaves last.leaves;
  fewer = add_lost (others_of new) (others_of mid) (others_of old) before.other last.other before.fewer last.fewer;
}
