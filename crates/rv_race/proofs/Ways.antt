-- Who goes on where a scan is over.
use Rattle.std.proofs.Common.{◌≡◌, ℕ, ◌+◌, ◌<◌, List, length, Bool, true, false, not, ◌&&◌, ◌||◌, Option, Some, None, is_some, nat_lt, refl, ap, arith}
use Rattle.std.specs.Prelude.{if◌then◌else◌}
use Rattle.std.proofs.lemmas.Bool.{ltb-true}
use Rattle.std.specs.Cmp.{second_so}
use Rattle.rv_value.proofs.Tests.{some_at}
use Rattle.rv_keylist.specs.Listed.{Listed}
use Rattle.rv_jscan.specs.declared.jscan.ScanPlan.{ScanPlan}
use Rattle.rv_race.specs.declared.running.Runner.{Runner}
use Rattle.rv_race.specs.declared.running.Running.{Running}
use Rattle.rv_race.specs.Raced.{IsRace}
use Rattle.rv_race.specs.Ways.{advanced, begun, followed, followed_by, has_next, joined}

-- what holds of the scan that goes on, and of it with the next one beside it, holds
pub advanced_as : (P : Running → Type 0) (listed : Bool) (planned : ℕ) (w : Running) → P (followed w) → ((followed w).next < planned → P (joined (followed w))) → P (advanced listed planned w)
advanced_as P listed planned w alone two = elim (not listed && nat_lt (followed w).next planned) as (λ b. (not listed && nat_lt (followed w).next planned) ≡ b → P (if b then joined (followed w) else followed w)) [
  | true ↦ λ e. two (ltb-true (followed w).next planned (second_so (not listed) (nat_lt (followed w).next planned) e))
  | false ↦ λ e. alone
] refl

pub followed_as : (P : Running → Type 0) (planned : ℕ) (w : Running) → has_next planned w ≡ true → ((other : Runner) → w.other ≡ Some other → P (record { turn = other; other = None; next = w.next })) → (w.other ≡ None → w.next < planned → P (record { turn = begun w.next; other = None; next = w.next + 1 })) → P (followed w)
followed_as P planned w h some none = by w.other refl h
  where
    by : (o : Option Runner) → w.other ≡ o → (is_some o || nat_lt w.next planned) ≡ true → P (followed_by o w)
    by None e h = none e (ltb-true w.next planned h)
    by (Some other) e h = some other e

-- the other scan, where there was one, has the turn
pub advanced_turn : (listed : Bool) (planned : ℕ) (w : Running) (other : Runner) → w.other ≡ Some other → (advanced listed planned w).turn ≡ other
advanced_turn listed planned w other e = advanced_as (λ v. v.turn ≡ other) listed planned w first (λ l. first)
  where
    first : (followed w).turn ≡ other
    first = ap (λ (o : Option Runner). (followed_by o w).turn) e

pub advanced_within : (plans : List ScanPlan) (list : Option Listed) (listed : Bool) (w : Running) → IsRace plans w list → has_next (length plans) w ≡ true → IsRace plans (advanced listed (length plans) w) list
advanced_within plans list listed w i h = advanced_as (λ v. IsRace plans v list) listed (length plans) w alone (λ l. record {
  few = alone.few;
  turn_planned = alone.turn_planned;
  other_planned = l;
  next_planned = omega (arith, l);
  list_finished = alone.list_finished;
})
  where
    alone : IsRace plans (followed w) list
    alone = followed_as (λ v. IsRace plans v list) (length plans) w h
        (λ other e. record {
          few = i.few;
          turn_planned = some_at (λ (o : Runner). o.scan < length plans) w.other other e i.other_planned;
          other_planned = tt;
          next_planned = i.next_planned;
          list_finished = i.list_finished;
        })
        (λ e l. record { few = i.few; turn_planned = l; other_planned = tt; next_planned = omega (arith, l); list_finished = i.list_finished })
