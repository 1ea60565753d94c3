-- How many leaves the scans of a race may still read where they keep to their shares.
use Rattle.std.proofs.Common.{◌≡◌, ℕ, ◌+◌, ◌-◌, ◌<◌, ◌≤◌, List, length, slice_set, min, Bool, true, false, not, ◌&&◌, ◌||◌, Option, Some, None, IfSome, is_some, nat_lt, refl, ap, sym, subst, arith, if◌then◌else◌}
use Rattle.std.proofs.lemmas.List.{get_or-set_other, get_or-set_same}
use Rattle.std.proofs.lemmas.Bool.{ltb-true}
use Rattle.std.specs.Cmp.{second_so}
use Rattle.rv_reader.specs.declared.reader.Chunk.{Chunk}
use Rattle.rv_jscan.specs.declared.jscan.ScanCounts.{ScanCounts}
use Rattle.rv_jscan.specs.Joint.{counts_at, no_counts}
use Rattle.rv_race.specs.declared.running.Runner.{Runner}
use Rattle.rv_race.specs.declared.running.Running.{Running}
use Rattle.rv_race.specs.Ways.{advanced, followed, followed_by, has_next, joined, turned, turned_to}
use Rattle.skew_judges.specs.Guard.{share}
use Rattle.rv_bounded.proofs.Ahead.{held_one}
use Rattle.rv_bounded.proofs.Shares.{first_scan, to_read}
use Rattle.rv_bounded.proofs.Sums.{at_most, le_on}

-- the leaves ahead of a scan under way: two and its share, less those that it has read of its own
abbrev pub left_at : ℕ → List ScanCounts → ℕ → Option Chunk → ℕ
left_at p counts scan held = 2 + share p scan - min (counts_at counts scan).leaves (1 + share p scan + held_one held)

abbrev pub turn_left : ℕ → List ScanCounts → Runner → ℕ
turn_left p counts run = left_at p counts run.scan run.lane.held

abbrev pub other_left : ℕ → List ScanCounts → Option Runner → ℕ
other_left p counts None = 0
other_left p counts (Some o) = turn_left p counts o

-- THE LEAVES AHEAD of the scans that have not begun, and of the one or two under way
abbrev pub race_sum : ℕ → ℕ → List ScanCounts → Running → ℕ
race_sum p planned counts w = to_read p w.next (planned - w.next) + turn_left p counts w.turn + other_left p counts w.other

-- the same without the scan whose turn it is
abbrev pub rest_sum : ℕ → ℕ → List ScanCounts → Running → ℕ
rest_sum p planned counts w = to_read p w.next (planned - w.next) + other_left p counts w.other

-- WHERE THE SCANS STAND: those under way are two, below the next one
pub record Runs (planned : ℕ) (w : Running) : Type 0 where
  pub turn : w.turn.scan < w.next
  pub other : IfSome w.other (λ o. o.scan < w.next)
  pub apart : IfSome w.other (λ o. ¬ (o.scan ≡ w.turn.scan))
  pub next : w.next ≤ planned

-- The other scan has the turn.

swapped : (a b c d : ℕ) → d ≡ b → a + b + c ≤ a + c + d
swapped a b c d e = omega (arith, e)

turned_left : (p planned : ℕ) (counts : List ScanCounts) (w : Running) (o : Option Runner) → w.other ≡ o → race_sum p planned counts (turned_to o w) ≤ race_sum p planned counts w
turned_left p planned counts w None e = at_most (race_sum p planned counts w)
turned_left p planned counts w (Some o) e = swapped (to_read p w.next (planned - w.next)) (turn_left p counts o) (turn_left p counts w.turn) (other_left p counts w.other) (ap (other_left p counts) e)

pub turned_fewer : (p planned : ℕ) (counts : List ScanCounts) (w : Running) → race_sum p planned counts (turned w) ≤ race_sum p planned counts w
turned_fewer p planned counts w = turned_left p planned counts w w.other refl

turned_by : (planned : ℕ) (w : Running) (o : Option Runner) → w.other ≡ o → Runs planned w → Runs planned (turned_to o w)
turned_by planned w None e s = s
turned_by planned w (Some o) e s =
    let other : o.scan < w.next = subst (λ (x : Option Runner). IfSome x (λ y. y.scan < w.next)) e s.other in
    let apart : ¬ (o.scan ≡ w.turn.scan) = subst (λ (x : Option Runner). IfSome x (λ y. ¬ (y.scan ≡ w.turn.scan))) e s.apart in
    record { turn = other; other = s.turn; apart = λ same. apart (sym same); next = s.next }

pub turned_runs : (planned : ℕ) (w : Running) → Runs planned w → Runs planned (turned w)
turned_runs planned w s = turned_by planned w w.other refl s

-- A scan is over: the other one goes on, or the next one begins.

begun_less : (whole rest share taken : ℕ) → whole ≡ 2 + share + rest → rest + (2 + share - taken) + 0 ≤ whole + 0
begun_less whole rest share taken w = omega (arith, w)

alone_less : (a b d : ℕ) → d ≡ b → a + b + 0 ≤ a + d
alone_less a b d e = omega (arith, e)

with_other : (a b d : ℕ) → a ≤ b + 0 → a ≤ b + d
with_other a b d h = omega (arith, h)

followed_left : (p planned : ℕ) (counts : List ScanCounts) (w : Running) (o : Option Runner) → w.other ≡ o → (is_some o || nat_lt w.next planned) ≡ true → race_sum p planned counts (followed_by o w) ≤ rest_sum p planned counts w
followed_left p planned counts w None e more =
    with_other (to_read p (w.next + 1) (planned - (w.next + 1)) + left_at p counts w.next None + 0) (to_read p w.next (planned - w.next)) (other_left p counts w.other) (begun_less (to_read p w.next (planned - w.next)) (to_read p (w.next + 1) (planned - (w.next + 1))) (share p w.next) (min (counts_at counts w.next).leaves (1 + share p w.next + 0)) (first_scan p w.next planned (ltb-true w.next planned more)))
followed_left p planned counts w (Some o) e more = alone_less (to_read p w.next (planned - w.next)) (turn_left p counts o) (other_left p counts w.other) (ap (other_left p counts) e)

one_below : (n : ℕ) → n < n + 1
one_below n = omega arith

less_one : (a b : ℕ) → a < b → a < b + 1
less_one a b h = omega (arith, h)

one_within : (a b : ℕ) → a < b → a + 1 ≤ b
one_within a b h = omega (arith, h)

followed_runs : (planned : ℕ) (w : Running) (o : Option Runner) → w.other ≡ o → (is_some o || nat_lt w.next planned) ≡ true → Runs planned w → Runs planned (followed_by o w)
followed_runs planned w None e more s = record { turn = one_below w.next; other = tt; apart = tt; next = one_within w.next planned (ltb-true w.next planned more) }
followed_runs planned w (Some o) e more s = record { turn = subst (λ (x : Option Runner). IfSome x (λ y. y.scan < w.next)) e s.other; other = tt; apart = tt; next = s.next }

-- no other scan goes on beside it
followed_alone : (w : Running) (o : Option Runner) → (followed_by o w).other ≡ None
followed_alone w None = refl
followed_alone w (Some o) = refl

joined_less : (whole rest share taken turn : ℕ) → whole ≡ 2 + share + rest → rest + turn + (2 + share - taken) ≤ whole + turn + 0
joined_less whole rest share taken turn w = omega (arith, w)

joined_left : (p planned : ℕ) (counts : List ScanCounts) (w : Running) → w.next < planned → w.other ≡ None → race_sum p planned counts (joined w) ≤ race_sum p planned counts w
joined_left p planned counts w lt none =
    subst (λ (o : Option Runner). race_sum p planned counts (joined w) ≤ to_read p w.next (planned - w.next) + turn_left p counts w.turn + other_left p counts o) (sym none) (joined_less (to_read p w.next (planned - w.next)) (to_read p (w.next + 1) (planned - (w.next + 1))) (share p w.next) (min (counts_at counts w.next).leaves (1 + share p w.next + 0)) (turn_left p counts w.turn) (first_scan p w.next planned lt))

not_same : (a b : ℕ) → a < b → ¬ (b ≡ a)
not_same a b h e = absurd (omega (arith, h, e))

joined_runs : (planned : ℕ) (w : Running) → w.next < planned → Runs planned w → Runs planned (joined w)
joined_runs planned w lt s = record { turn = less_one w.turn.scan w.next s.turn; other = one_below w.next; apart = not_same w.turn.scan w.next s.turn; next = one_within w.next planned lt }

pub advanced_fewer : (p planned : ℕ) (counts : List ScanCounts) (listed : Bool) (w : Running) → has_next planned w ≡ true → race_sum p planned counts (advanced listed planned w) ≤ rest_sum p planned counts w
advanced_fewer p planned counts listed w more = by (not listed && nat_lt (followed w).next planned) refl
  where
    first : race_sum p planned counts (followed w) ≤ rest_sum p planned counts w
    first = followed_left p planned counts w w.other refl more

    by : (b : Bool) → (not listed && nat_lt (followed w).next planned) ≡ b → race_sum p planned counts (if b then joined (followed w) else followed w) ≤ rest_sum p planned counts w
    by true test = le_on (race_sum p planned counts (joined (followed w))) (race_sum p planned counts (followed w)) (rest_sum p planned counts w) (joined_left p planned counts (followed w) (ltb-true (followed w).next planned (second_so (not listed) (nat_lt (followed w).next planned) test)) (followed_alone w w.other)) first
    by false test = first

pub advanced_runs : (planned : ℕ) (listed : Bool) (w : Running) → has_next planned w ≡ true → Runs planned w → Runs planned (advanced listed planned w)
advanced_runs planned listed w more s = by (not listed && nat_lt (followed w).next planned) refl
  where
    first : Runs planned (followed w)
    first = followed_runs planned w w.other refl more s

    by : (b : Bool) → (not listed && nat_lt (followed w).next planned) ≡ b → Runs planned (if b then joined (followed w) else followed w)
    by true test = joined_runs planned (followed w) (ltb-true (followed w).next planned (second_so (not listed) (nat_lt (followed w).next planned) test)) first
    by false test = first

-- THE COUNTS OF THE SCAN WHOSE TURN IT IS change, and not those of the other one.

pub other_same : (p : ℕ) (counts : List ScanCounts) (scan : ℕ) (c : ScanCounts) (o : Option Runner) → IfSome o (λ x. ¬ (x.scan ≡ scan)) → other_left p (slice_set counts scan c) o ≡ other_left p counts o
other_same p counts scan c None apart = refl
other_same p counts scan c (Some o) apart = ap (λ (k : ScanCounts). 2 + share p o.scan - min k.leaves (1 + share p o.scan + held_one o.lane.held)) (get_or-set_other counts scan o.scan c no_counts (λ e. apart e))

pub turn_leaves : (counts : List ScanCounts) (scan : ℕ) (c : ScanCounts) → scan < length counts → (counts_at (slice_set counts scan c) scan).leaves ≡ c.leaves
turn_leaves counts scan c lt = ap (λ (k : ScanCounts). k.leaves) (get_or-set_same counts scan c no_counts lt)
