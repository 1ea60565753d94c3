-- How many leaves the scans of a joint scan may still read where they keep to their shares.
use Rattle.std.proofs.Common.{◌≡◌, ℕ, ◌+◌, ◌-◌, ◌*◌, ◌^◌, ◌<◌, ◌≤◌, List, length, length-set, min, Bool, true, false, not, ◌&&◌, Option, Some, None, is_some, refl, ap, ◌∙◌, arith, if◌then◌else◌}
use Rattle.std.proofs.lemmas.List.{get_or-set_same}
use Rattle.std.specs.Cmp.{first_so}
use Rattle.rv_value.specs.declared.record.IndexEntry.{IndexEntry}
use Rattle.rv_reader.specs.declared.reader.Chunk.{Chunk}
use Rattle.rv_jscan.specs.declared.jscan.ScanPlan.{ScanPlan}
use Rattle.rv_jscan.specs.declared.jscan.ScanCounts.{ScanCounts}
use Rattle.rv_jscan.specs.Joint.{Joint, counts_at, no_counts, under_way}
use Rattle.rv_jscan.specs.Steps.{HasEntries, TakeLeaves, counts_read, going, leaf_counted, one_leaf, reads_leaf}
use Rattle.rv_jscan.proofs.Fits.{way_within}
use Rattle.skew_judges.specs.Guard.{share}
use Rattle.rv_bounded.proofs.Shares.{first_scan, share_within, to_read}
use Rattle.rv_bounded.proofs.Sums.{read_sum, lost_sum}

abbrev pub greatest : ℕ
greatest = 2 ^ 64 - 1

abbrev pub held_one : Option Chunk → ℕ
held_one None = 0
held_one (Some chunk) = 1

-- the leaves that the present scan has read
abbrev pub spent_by : Joint → ℕ
spent_by j = (counts_at j.counts j.ended).leaves

-- THE LEAVES AHEAD: those of the scans that have not ended, less those that the present one has read of its own. These are
-- one and its share, and one more where it holds a leaf; what it read beyond was lost.
abbrev pub ahead : ℕ → Joint → ℕ
ahead p j = to_read p j.ended (length j.plans - j.ended) - min (spent_by j) (1 + share p j.ended + held_one j.held)

-- Sums.

next_sum : (new old whole rest share spent taken had left : ℕ) → new ≡ left - taken → left ≡ rest → old ≡ whole - min spent (1 + share + had) → whole ≡ 2 + share + rest → had ≤ 1 → new ≤ old
next_sum new old whole rest share spent taken had left n l o w h = omega (arith, n, l, o, w, h)

stay_sum : (new old left whole part share after spent held had : ℕ) → new ≡ left - min after (1 + part + held) → old ≡ whole - min spent (1 + share + had) → left ≡ whole → part ≡ share → after ≡ spent → spent ≤ 1 + share → new ≤ old
stay_sum new old left whole part share after spent held had n o l p a s = omega (arith, n, o, l, p, a, s)

-- Facts of the scan under way.

pub none_held : (b : Bool) (h : Option Chunk) → (b && not (is_some h)) ≡ true → held_one h ≡ 0
none_held b None r = refl
none_held true (Some c) r = absurd (cc)
none_held false (Some c) r = absurd (cc)

pub one_held : (h : Option Chunk) → is_some h ≡ true → held_one h ≡ 1
one_held None s = absurd (cc)
one_held (Some c) s = refl

pub held_few : (h : Option Chunk) → held_one h ≤ 1
held_few None = omega arith
held_few (Some c) = omega arith

pub has_held : (h : Option Chunk) (entries : List IndexEntry) → HasEntries h entries → is_some h ≡ true
has_held None entries i = absurd i
has_held (Some c) entries i = refl

pub is_under_way : (j : Joint) → reads_leaf j ≡ true → under_way j ≡ true
is_under_way j r = first_so (under_way j) (not (is_some j.held)) r

pub way_counted : (j : Joint) → under_way j ≡ true → length j.plans ≤ length j.counts → j.ended < length j.counts
way_counted j way room = let lt = way_within j way in omega (arith, lt, room)

leaf_more : (j : Joint) → reads_leaf j ≡ true → j.ended < length j.counts → (counts_at (counts_read j) j.ended).leaves ≡ min (spent_by j + 1) greatest
leaf_more j r lt =
    ap (λ (b : Bool). (counts_at (if b then one_leaf j else j.counts) j.ended).leaves) r ∙ ap (λ (c : ScanCounts). c.leaves) (get_or-set_same j.counts j.ended (leaf_counted (counts_at j.counts j.ended)) no_counts lt)

pub counts_long : (j : Joint) → length (counts_read j) ≡ length j.counts
counts_long j = by (reads_leaf j)
  where
    by : (b : Bool) → length (if b then one_leaf j else j.counts) ≡ length j.counts
    by true = length-set j.counts j.ended (leaf_counted (counts_at j.counts j.ended))
    by false = refl

pub small_share : (p scan planned : ℕ) → scan < planned → p + 2 * planned < greatest → 2 + share p scan ≤ greatest
small_share p scan planned lt small = let within = share_within p scan in omega (arith, lt, small, within)

-- A leaf is read, and held.
pub read_ahead : (p : ℕ) (old new : Joint) → TakeLeaves old new → reads_leaf old ≡ true → is_some new.held ≡ true → length old.plans ≤ length old.counts → p + 2 * length old.plans < greatest → ahead p new + 1 ≤ ahead p old
read_ahead p old new t r h room small =
    let way = is_under_way old r in
    let lt = way_within old way in
    read_sum (ahead p new) (ahead p old) (to_read p old.ended (length old.plans - old.ended)) (to_read p (old.ended + 1) (length old.plans - (old.ended + 1))) (share p old.ended) (spent_by old) ((counts_at (counts_read old) old.ended).leaves) (held_one new.held) (held_one old.held) greatest (ap (ahead p) t.same) refl (first_scan p old.ended (length old.plans) lt) (leaf_more old r (way_counted old way room)) (one_held new.held h) (none_held (under_way old) old.held r) (small_share p old.ended (length old.plans) lt small)

-- A leaf may have been read, and may be held.
pub lost_ahead : (p : ℕ) (old new : Joint) → TakeLeaves old new → length old.plans ≤ length old.counts → p + 2 * length old.plans < greatest → ahead p new ≤ ahead p old
lost_ahead p old new t room small = by (reads_leaf old) refl
  where
    same_less : (a b : ℕ) → a ≡ b → a ≤ b
    same_less a b e = omega (arith, e)

    by : (b : Bool) → reads_leaf old ≡ b → ahead p new ≤ ahead p old
    by true r =
        let way = is_under_way old r in
        let lt = way_within old way in
        lost_sum (ahead p new) (ahead p old) (to_read p old.ended (length old.plans - old.ended)) (to_read p (old.ended + 1) (length old.plans - (old.ended + 1))) (share p old.ended) (spent_by old) ((counts_at (counts_read old) old.ended).leaves) (held_one new.held) (held_one old.held) greatest (ap (ahead p) t.same) refl (first_scan p old.ended (length old.plans) lt) (leaf_more old r (way_counted old way room)) (none_held (under_way old) old.held r) (small_share p old.ended (length old.plans) lt small)
    by false r = same_less (ahead p new) (ahead p old) (ap (ahead p) (t.none r))

-- The next scan is the present one.
pub next_ahead : (p : ℕ) (old new : Joint) → old.ended < length old.plans → new.plans ≡ old.plans → new.ended ≡ old.ended + 1 → ahead p new ≤ ahead p old
next_ahead p old new lt plans ended =
    let left : to_read p new.ended (length new.plans - new.ended) ≡ to_read p (old.ended + 1) (length old.plans - (old.ended + 1)) =
    ap (λ (n : ℕ). to_read p n (length new.plans - n)) ended ∙ ap (λ (ps : List ScanPlan). to_read p (old.ended + 1) (length ps - (old.ended + 1))) plans in
    next_sum (ahead p new) (ahead p old) (to_read p old.ended (length old.plans - old.ended)) (to_read p (old.ended + 1) (length old.plans - (old.ended + 1))) (share p old.ended) (spent_by old) (min (spent_by new) (1 + share p new.ended + held_one new.held)) (held_one old.held) (to_read p new.ended (length new.plans - new.ended)) refl left refl (first_scan p old.ended (length old.plans) lt) (held_few old.held)

-- The present scan goes on, within its share.
pub stay_ahead : (p : ℕ) (old new : Joint) → new.plans ≡ old.plans → new.ended ≡ old.ended → spent_by new ≡ spent_by old → spent_by old ≤ 1 + share p old.ended → ahead p new ≤ ahead p old
stay_ahead p old new plans ended spent within =
    let left : to_read p new.ended (length new.plans - new.ended) ≡ to_read p old.ended (length old.plans - old.ended) =
    ap (λ (n : ℕ). to_read p n (length new.plans - n)) ended ∙ ap (λ (ps : List ScanPlan). to_read p old.ended (length ps - old.ended)) plans in
    stay_sum (ahead p new) (ahead p old) (to_read p new.ended (length new.plans - new.ended)) (to_read p old.ended (length old.plans - old.ended)) (share p new.ended) (share p old.ended) (spent_by new) (spent_by old) (held_one new.held) (held_one old.held) refl refl left (ap (share p) ended) spent within

-- an accepted piece leaves the leaves that its scan has read
pub going_spent : (j : Joint) (entries : List IndexEntry) (cut : IndexEntry) → j.ended < length j.counts → spent_by (going j entries cut) ≡ spent_by j
going_spent j entries cut lt = ap (λ (c : ScanCounts). c.leaves) (get_or-set_same j.counts j.ended _ no_counts lt)
