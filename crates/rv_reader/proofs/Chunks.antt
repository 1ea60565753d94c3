-- The leaves of an index, one after another, give a whole run, and their number falls.
use Rattle.std.proofs.Common.{◌≡◌, ◌<◌, ◌≤◌, List, [], ◌∷◌, ◌++◌, Bool, true, false, not, ◌&&◌, cond, Option, Some, None, IfSome, inl, inr, refl, ap, sym, ◌∙◌, filter, length, arith, append-nil, ◌+◌, subst}
use Rattle.std.proofs.lemmas.Bool.{cases_Bool, and_parts, not-false, not-true}
use Rattle.std.specs.List.{list_all}
use Rattle.rv_value.specs.declared.record.IndexEntry.{IndexEntry}
use Rattle.rv_value.specs.declared.range.Range.{Range}
use Rattle.rv_value.specs.declared.range.Side.{Side}
use Rattle.rv_value.specs.declared.range.Side.TheVariants.{Before, In, After}
use Rattle.rv_value.specs.Ranges.{place, in_side}
use Rattle.rv_value.proofs.Lists.{filter_true}
use Rattle.rv_reader.specs.declared.reader.Chunk.{Chunk}
use Rattle.rv_reader.specs.Entries.{comes_before, Ascend, AreLong, is_in, reaches}
use Rattle.rv_reader.specs.Leaves.{Leaf, IsChunk, is_from, is_wanted, is_below, is_taken, before_side, after_side, from_on, up_to, leaf_from, leaf_at, leaf_entries, is_passed, within, run_from, run_after, leaves_from, leaves_after, is_ahead, leaves_for, leaves_behind}
use Rattle.rv_reader.proofs.Filters.{filter_same, filter_twice, filter_none, filter_fewer, rising_cut}
use Rattle.rv_reader.proofs.Orders.{one_way, below_through, follows, itself, key_not, order, stays_above}
use Rattle.rv_reader.proofs.Sides.{before_along, after_along}

-- Tests in place of lists.

abbrev pub is_long : Range → IndexEntry → Bool
is_long range e = reaches range.low e.key && reaches range.high e.key

from_tests : (start : Option IndexEntry) (xs : List IndexEntry) → from_on start xs ≡ filter (is_from start) xs
from_tests None xs = sym (filter_true xs)
from_tests (Some s) xs = refl

below_tests : (cut : Option IndexEntry) (xs : List IndexEntry) → up_to cut xs ≡ filter (is_below cut) xs
below_tests None xs = sym (filter_true xs)
below_tests (Some s) xs = refl

pub run_tests : (entries : List IndexEntry) (range : Range) (start : Option IndexEntry) → run_from entries range start ≡ filter (is_wanted range start) entries
run_tests entries range start = rw (from_tests start entries) (filter_twice (is_in range) (is_from start) entries)

abbrev taken : Range → Option IndexEntry → Leaf → IndexEntry → Bool
taken range start leaf e = (is_from leaf.low e && is_below leaf.next e) && is_wanted range start e

leaf_tests : (entries : List IndexEntry) (range : Range) (start : Option IndexEntry) (leaf : Leaf) → run_from (leaf_entries leaf entries) range start ≡ filter (taken range start leaf) entries
leaf_tests entries range start leaf =
    run_tests (leaf_entries leaf entries) range start
    ∙ ap (filter (is_wanted range start)) (below_tests leaf.next (from_on leaf.low entries) ∙ ap (filter (is_below leaf.next)) (from_tests leaf.low entries) ∙ filter_twice (is_below leaf.next) (is_from leaf.low) entries)
    ∙ filter_twice (is_wanted range start) (λ e. is_from leaf.low e && is_below leaf.next e) entries

-- What is known of the cuts of a leaf.

leaf_keeps : (q passes : IndexEntry → Bool) (low : Option IndexEntry) (cuts : List IndexEntry) → IfSome low (λ c. q c ≡ true) → list_all q cuts ≡ true → IfSome (leaf_from passes low cuts).low (λ c. q c ≡ true) × IfSome (leaf_from passes low cuts).next (λ c. q c ≡ true)
leaf_keeps q passes low [] l all = (l, tt)
leaf_keeps q passes low (cut ∷ cuts) l all =
    let parts = and_parts (q cut) (list_all q cuts) all in
    let rest = leaf_keeps q passes (Some cut) cuts parts.0 parts.1 in
    elim (passes cut) as (λ b. IfSome (cond b (leaf_from passes (Some cut) cuts) (record { low = low; next = Some cut })).low (λ c. q c ≡ true) × IfSome (cond b (leaf_from passes (Some cut) cuts) (record { low = low; next = Some cut })).next (λ c. q c ≡ true)) [
      | true ↦ rest
      | false ↦ (l, parts.0)
    ]

leaf_passes : (passes : IndexEntry → Bool) (low : Option IndexEntry) (cuts : List IndexEntry) → IfSome low (λ c. passes c ≡ true) → IfSome (leaf_from passes low cuts).low (λ c. passes c ≡ true) × IfSome (leaf_from passes low cuts).next (λ c. passes c ≡ false)
leaf_passes passes low [] l = (l, tt)
leaf_passes passes low (cut ∷ cuts) l =
    elim (passes cut) as (λ b. passes cut ≡ b → IfSome (cond b (leaf_from passes (Some cut) cuts) (record { low = low; next = Some cut })).low (λ c. passes c ≡ true) × IfSome (cond b (leaf_from passes (Some cut) cuts) (record { low = low; next = Some cut })).next (λ c. passes c ≡ false)) [
      | true ↦ λ e. leaf_passes passes (Some cut) cuts e
      | false ↦ λ e. (l, e)
    ] refl

-- the cut that follows is among the cuts
next_counts : (p q passes : IndexEntry → Bool) (low : Option IndexEntry) (cuts : List IndexEntry) → ((c : IndexEntry) → p c ≡ true → q c ≡ true) → IfSome (leaf_from passes low cuts).next (λ n. p n ≡ false → q n ≡ true → length (filter p cuts) < length (filter q cuts))
next_counts p q passes low [] sharper = tt
next_counts p q passes low (cut ∷ cuts) sharper =
    let few = filter_fewer p q sharper cuts in
    elim (passes cut) as (λ b. IfSome (cond b (leaf_from passes (Some cut) cuts) (record { low = low; next = Some cut })).next (λ n. p n ≡ false → q n ≡ true → length (filter p (cut ∷ cuts)) < length (filter q (cut ∷ cuts)))) [
      | true ↦ more (leaf_from passes (Some cut) cuts).next (next_counts p q passes (Some cut) cuts sharper)
      | false ↦ λ f t. rw (f, t) (omega arith)
    ]
  where
    longer : (a b : Bool) (x : IndexEntry) (xs ys : List IndexEntry) → (a ≡ true → b ≡ true) → length xs < length ys → length (cond a (x ∷ xs) xs) < length (cond b (x ∷ ys) ys)
    longer true true x xs ys f h = omega arith
    longer true false x xs ys f h = let no : false ≡ true = f refl in cc
    longer false true x xs ys f h = omega arith
    longer false false x xs ys f h = h

    more : (next : Option IndexEntry) → IfSome next (λ n. p n ≡ false → q n ≡ true → length (filter p cuts) < length (filter q cuts)) → IfSome next (λ n. p n ≡ false → q n ≡ true → length (filter p (cut ∷ cuts)) < length (filter q (cut ∷ cuts)))
    more None h = tt
    more (Some n) h = λ f t. longer (p cut) (q cut) cut (filter p cuts) (filter q cuts) (sharper cut) (h f t)

-- What a leaf leaves out on either side.

pub before_out : (s : Side) → before_side s ≡ true → in_side s ≡ false
before_out Before h = refl
before_out In h = cc
before_out After h = refl

pub after_out : (s : Side) → after_side s ≡ true → in_side s ≡ false
after_out Before h = refl
after_out In h = cc
after_out After h = refl

-- what is wanted is not below the cut at which the leaf begins
low_wanted : (range : Range) (start low : Option IndexEntry) → IfSome low (λ c. is_passed start range c ≡ true) → IfSome low (λ c. is_long range c ≡ true) → (e : IndexEntry) → is_long range e ≡ true → is_wanted range start e ≡ true → is_from low e ≡ true
low_wanted range start None p l e long w = refl
low_wanted range (Some s) (Some c) p l e long w =
    let parts = and_parts (not (comes_before e s)) (is_in range e) w in
    rw (order.chain e s c (not-true (comes_before e s) parts.0) (not-true (comes_before s c) p)) refl
low_wanted range None (Some c) p l e long w = elim (cases_Bool (comes_before e c)) [
  | inl t ↦
      let before = before_along range e.key c.key (key_not e c (one_way e c t)) long l p in
      let no : in_side (place range e.key) ≡ false = before_out (place range e.key) before in
      cc
  | inr f ↦ rw f refl
]

-- what is from the following cut on is from the start on
from_next : (range : Range) (start : Option IndexEntry) (n e : IndexEntry) → is_passed start range n ≡ false → comes_before e n ≡ false → is_from start e ≡ true
from_next range None n e p h = refl
from_next range (Some s) n e p h =
    let above : comes_before s n ≡ true = not-false (comes_before s n) p in
    rw (one_way s e (below_through s n e above h)) refl

-- The parts of a run: a leaf's, and what is left.

taken_all : (low below want : Bool) → (want ≡ true → low ≡ true) → below ≡ true → want ≡ ((low && below) && want)
taken_all true true want f e = refl
taken_all false true true f e = sym (f refl)
taken_all false true false f e = refl
taken_all low false want f e = cc

taken_below : (low below want : Bool) → (want ≡ true → low ≡ true) → (want && below) ≡ ((low && below) && want)
taken_below true true true f = refl
taken_below true true false f = refl
taken_below true false true f = refl
taken_below true false false f = refl
taken_below false below true f = let no : false ≡ true = f refl in cc
taken_below false below false f = refl

left_same : (from inside below : Bool) → (below ≡ false → from ≡ true) → ((from && inside) && not below) ≡ (not below && inside)
left_same true true true f = refl
left_same true true false f = refl
left_same true false true f = refl
left_same true false false f = refl
left_same false inside true f = refl
left_same false inside false f = let no : false ≡ true = f refl in cc

left_none : (from inside below : Bool) → (below ≡ false → inside ≡ false) → ((from && inside) && not below) ≡ false
left_none true true true f = refl
left_none true true false f = f refl
left_none true false below f = refl
left_none false inside below f = refl

left_tests : (entries : List IndexEntry) (range : Range) (start : Option IndexEntry) (n : IndexEntry) → AreLong range entries → is_long range n ≡ true → is_passed start range n ≡ false → filter (λ e. is_wanted range start e && not (comes_before e n)) entries ≡ run_after entries range (within range (Some n))
left_tests entries range start n long l p =
    elim (after_side (place range n.key)) as (λ b. after_side (place range n.key) ≡ b → filter (λ e. is_wanted range start e && not (comes_before e n)) entries ≡ run_after entries range (cond b None (Some n))) [
      | true ↦ λ after. filter_none (is_long range) (λ e. is_wanted range start e && not (comes_before e n)) entries long
          (λ e h. left_none (is_from start e) (is_in range e) (comes_before e n)
          (λ above. after_out (place range e.key) (after_along range n.key e.key (key_not n e above) l h after)))
      | false ↦ λ other.
          filter_same (is_long range) (λ e. is_wanted range start e && not (comes_before e n)) (is_wanted range (Some n)) entries long
          (λ e h. left_same (is_from start e) (is_in range e) (comes_before e n) (from_next range start n e p))
          ∙ sym (run_tests entries range (Some n))
    ] refl

parts_by : (entries : List IndexEntry) (range : Range) (start low next : Option IndexEntry) → Ascend entries → AreLong range entries
    → IfSome low (λ c. is_passed start range c ≡ true) → IfSome low (λ c. is_long range c ≡ true)
    → IfSome next (λ c. is_passed start range c ≡ false) → IfSome next (λ c. is_long range c ≡ true)
    → run_from entries range start ≡ run_from (leaf_entries (record { low = low; next = next }) entries) range start ++ run_after entries range (within range next)
parts_by entries range start low None ascend long lp ll np nl =
    let leaf : Leaf = record { low = low; next = None } in
    run_tests entries range start
    ∙ filter_same (is_long range) (is_wanted range start) (taken range start leaf) entries long (λ e h. taken_all (is_from low e) true (is_wanted range start e) (low_wanted range start low lp ll e h) refl)
    ∙ sym (leaf_tests entries range start leaf)
    ∙ sym (append-nil (run_from (leaf_entries leaf entries) range start))
parts_by entries range start low (Some n) ascend long lp ll np nl =
    let leaf : Leaf = record { low = low; next = Some n } in
    let cut = rising_cut comes_before (is_wanted range start) (λ e. comes_before e n) (stays_above n) entries ascend in
    let front : filter (λ e. is_wanted range start e && comes_before e n) entries ≡ run_from (leaf_entries leaf entries) range start =
    filter_same (is_long range) (λ e. is_wanted range start e && comes_before e n) (taken range start leaf) entries long (λ e h. taken_below (is_from low e) (comes_before e n) (is_wanted range start e) (low_wanted range start low lp ll e h))
    ∙ sym (leaf_tests entries range start leaf) in
    let back = left_tests entries range start n long nl np in
    run_tests entries range start ∙ cut ∙ (λ i. front i ++ back i)

-- Fewer leaves are left.

counted_all : (cuts : List IndexEntry) → length (filter (λ (e : IndexEntry). true) cuts) ≡ length cuts
counted_all cuts = ap length (filter_true cuts)

fewer_left : (range : Range) (cuts : List IndexEntry) (start : Option IndexEntry) (n : IndexEntry) → is_passed start range n ≡ false
    → ((p q : IndexEntry → Bool) → ((c : IndexEntry) → p c ≡ true → q c ≡ true) → p n ≡ false → q n ≡ true → length (filter p cuts) < length (filter q cuts))
    → leaves_from cuts (Some n) < leaves_from cuts start
fewer_left range cuts None n p counts =
    let few = counts (comes_before n) (λ (e : IndexEntry). true) (λ c h. refl) (itself n) refl in
    let all = counted_all cuts in
    omega arith
fewer_left range cuts (Some s) n p counts =
    let above : comes_before s n ≡ true = not-false (comes_before s n) p in
    let few = counts (comes_before n) (comes_before s) (λ c h. follows s n c above h) (itself n) above in
    omega arith

nearer_by : (range : Range) (cuts : List IndexEntry) (start next : Option IndexEntry) → IfSome next (λ c. is_passed start range c ≡ false)
    → ((p q : IndexEntry → Bool) → ((c : IndexEntry) → p c ≡ true → q c ≡ true) → IfSome next (λ n. p n ≡ false → q n ≡ true → length (filter p cuts) < length (filter q cuts)))
    → leaves_after cuts (within range next) < leaves_from cuts start
nearer_by range cuts start None p counts = some start
  where
    some : (s : Option IndexEntry) → 0 < leaves_from cuts s
    some None = omega arith
    some (Some s) = omega arith
nearer_by range cuts start (Some n) p counts =
    let few = fewer_left range cuts start n p (λ p q sharper. counts p q sharper) in
    elim (after_side (place range n.key)) as (λ b. leaves_after cuts (cond b None (Some n)) < leaves_from cuts start) [
      | true ↦ omega arith
      | false ↦ few
    ]

-- What is read of a leaf, and the cut that follows, give all that a chunk says.
pub is_chunk : (entries cuts : List IndexEntry) (range : Range) (start : Option IndexEntry) (chunk : Chunk) → Ascend entries → AreLong range entries → AreLong range cuts
    → chunk.entries ≡ run_from (leaf_entries (leaf_at cuts start range) entries) range start → chunk.next ≡ within range (leaf_at cuts start range).next → length chunk.entries ≤ 48
    → IsChunk entries cuts range start chunk
is_chunk entries cuts range start chunk ascend long long_cuts found following short =
    let passes = leaf_passes (is_passed start range) None cuts tt in
    let keeps = leaf_keeps (is_long range) (is_passed start range) None cuts tt long_cuts in
    let leaf = leaf_at cuts start range in
    record {
      found = found;
      following = following;
      short = short;
      parts = rw (found, following) (parts_by entries range start leaf.low leaf.next ascend long passes.0 keeps.0 passes.1 keeps.1);
      nearer = rw following (nearer_by range cuts start leaf.next passes.1 (λ p q sharper. next_counts p q (is_passed start range) None cuts sharper));
    }

-- What is read of a leaf, by one test: what is wanted and before the cut that follows, where that is given.

pub taken_within : (range : Range) (start next : Option IndexEntry) (e : IndexEntry) → is_long range e ≡ true → IfSome next (λ c. is_long range c ≡ true) → is_taken range start (within range next) e ≡ is_taken range start next e
taken_within range start None e long l = refl
taken_within range start (Some n) e long l =
    elim (after_side (place range n.key)) as (λ b. after_side (place range n.key) ≡ b → is_taken range start (cond b None (Some n)) e ≡ is_taken range start (Some n) e) [
      | true ↦ λ after. by_test (is_from start e) (is_in range e) (comes_before e n) (λ above. after_out (place range e.key) (after_along range n.key e.key (key_not n e above) l long after))
      | false ↦ λ other. refl
    ] refl
  where
    by_test : (from inside below : Bool) → (below ≡ false → inside ≡ false) → ((from && inside) && true) ≡ ((from && inside) && below)
    by_test true true true f = refl
    by_test true true false f = let no : true ≡ false = f refl in cc
    by_test true false below f = refl
    by_test false inside below f = refl

pub leaf_read : (entries cuts : List IndexEntry) (range : Range) (start : Option IndexEntry) → AreLong range entries → AreLong range cuts
    → run_from (leaf_entries (leaf_at cuts start range) entries) range start ≡ filter (is_taken range start (within range (leaf_at cuts start range).next)) entries
leaf_read entries cuts range start long long_cuts =
    let passes = leaf_passes (is_passed start range) None cuts tt in
    let keeps = leaf_keeps (is_long range) (is_passed start range) None cuts tt long_cuts in
    let leaf = leaf_at cuts start range in
    leaf_tests entries range start leaf
    ∙ filter_same (is_long range) (taken range start leaf) (is_taken range start (within range leaf.next)) entries long
    (λ e h. sym (taken_below (is_from leaf.low e) (is_below leaf.next e) (is_wanted range start e) (low_wanted range start leaf.low passes.0 keeps.0 e h))
    ∙ sym (taken_within range start leaf.next e h keeps.1))

-- the cut that follows a leaf has a key as long as the cuts have
pub next_long : (cuts : List IndexEntry) (range : Range) (start : Option IndexEntry) → AreLong range cuts → IfSome (leaf_at cuts start range).next (λ c. is_long range c ≡ true)
next_long cuts range start long = (leaf_keeps (is_long range) (is_passed start range) None cuts tt long).1

-- Fewer leaves may hold what is left of a range.

turned_twice : (b : Bool) → not (not b) ≡ true → b ≡ true
turned_twice true h = refl
turned_twice false h = cc

with_true : (a b : Bool) → b ≡ true → a ≡ (a && b)
with_true true true h = refl
with_true false true h = refl
with_true a false h = cc

-- what is ahead of the following cut is ahead of where the reading began
ahead_more : (range : Range) (start : Option IndexEntry) (n c : IndexEntry) → is_long range n ≡ true → is_passed start range n ≡ false → (is_ahead (Some n) range c && is_long range c) ≡ true → is_ahead start range c ≡ true
ahead_more range None n c l p h =
    let parts = and_parts (is_ahead (Some n) range c) (is_long range c) h in
    let ahead = and_parts (not (not (comes_before n c))) (not (after_side (place range c.key))) parts.0 in
    let above : comes_before n c ≡ true = turned_twice (comes_before n c) ahead.0 in
    elim (before_side (place range c.key)) as (λ b. before_side (place range c.key) ≡ b → (not b && not (after_side (place range c.key))) ≡ true) [
      | true ↦ λ before. absurd (let bad : before_side (place range n.key) ≡ true = before_along range n.key c.key (key_not n c (one_way n c above)) l parts.1 before in let no : true ≡ false = sym bad ∙ p in cc)
      | false ↦ λ other. ahead.1
    ] refl
ahead_more range (Some s) n c l p h =
    let parts = and_parts (is_ahead (Some n) range c) (is_long range c) h in
    let ahead = and_parts (not (not (comes_before n c))) (not (after_side (place range c.key))) parts.0 in
    let above : comes_before n c ≡ true = turned_twice (comes_before n c) ahead.0 in
    let first : comes_before s n ≡ true = not-false (comes_before s n) p in
    rw (follows s n c first above) ahead.1

fewer_ahead : (range : Range) (cuts : List IndexEntry) (start : Option IndexEntry) (n : IndexEntry) → AreLong range cuts → is_long range n ≡ true → is_passed start range n ≡ false → after_side (place range n.key) ≡ false
    → ((p q : IndexEntry → Bool) → ((c : IndexEntry) → p c ≡ true → q c ≡ true) → p n ≡ false → q n ≡ true → length (filter p cuts) < length (filter q cuts))
    → leaves_for cuts range (Some n) + 1 ≤ leaves_for cuts range start
fewer_ahead range cuts start n long l p other counts =
    let test : IndexEntry → Bool = λ c. is_ahead (Some n) range c && is_long range c in
    let same : filter (is_ahead (Some n) range) cuts ≡ filter test cuts = filter_same (is_long range) (is_ahead (Some n) range) test cuts long (λ c h. with_true (is_ahead (Some n) range c) (is_long range c) h) in
    let few = counts test (is_ahead start range) (λ c h. ahead_more range start n c l p h) (rw (itself n) refl) (rw (p, other) refl) in
    let count = ap length same in
    omega arith

behind_by : (range : Range) (cuts : List IndexEntry) (start next : Option IndexEntry) → AreLong range cuts → IfSome next (λ c. is_passed start range c ≡ false) → IfSome next (λ c. is_long range c ≡ true)
    → ((p q : IndexEntry → Bool) → ((c : IndexEntry) → p c ≡ true → q c ≡ true) → IfSome next (λ n. p n ≡ false → q n ≡ true → length (filter p cuts) < length (filter q cuts)))
    → leaves_behind cuts range (within range next) + 1 ≤ leaves_for cuts range start
behind_by range cuts start None long p l counts = omega arith
behind_by range cuts start (Some n) long p l counts =
    elim (after_side (place range n.key)) as (λ b. after_side (place range n.key) ≡ b → leaves_behind cuts range (cond b None (Some n)) + 1 ≤ leaves_for cuts range start) [
      | true ↦ λ after. omega arith
      | false ↦ λ other. fewer_ahead range cuts start n long l p other (λ p q sharper. counts p q sharper)
    ] refl

-- once a leaf was read, one leaf less may hold what is left of the range
pub leaves_nearer : (entries cuts : List IndexEntry) (range : Range) (start : Option IndexEntry) (chunk : Chunk) → AreLong range cuts → IsChunk entries cuts range start chunk → leaves_behind cuts range chunk.next + 1 ≤ leaves_for cuts range start
leaves_nearer entries cuts range start chunk long is =
    let passes = leaf_passes (is_passed start range) None cuts tt in
    let keeps = leaf_keeps (is_long range) (is_passed start range) None cuts tt long in
    subst (λ (o : Option IndexEntry). leaves_behind cuts range o + 1 ≤ leaves_for cuts range start) (sym is.following) (behind_by range cuts start (leaf_at cuts start range).next long passes.1 keeps.1 (λ p q sharper. next_counts p q (is_passed start range) None cuts sharper))
