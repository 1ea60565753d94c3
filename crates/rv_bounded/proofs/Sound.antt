-- Under judges that are bounded a list that is built has fewer keys than are guaranteed, and a complete one at most 48 more.
use Rattle.std.proofs.Common.{◌≡◌, ℕ, ◌+◌, ◌-◌, ◌*◌, ◌/◌, ◌%◌, ◌<◌, ◌≤◌, ◌==◌, zero, suc, List, [], ◌++◌, length, slice_set, min, max, Bool, true, false, Option, Some, None, IfSome, IsPermutation, refl, ap, sym, ◌∙◌, subst, arith, if◌then◌else◌}
use Rattle.std.specs.Int.{div_ceil}
use Rattle.std.proofs.Math.Nat.{mul-le-mul_left}
use Rattle.std.proofs.lemmas.Bool.Decides.{nat_tests}
use Rattle.std.proofs.lemmas.List.{get_or-set_other, get_or-set_same, length-append}
use Rattle.std.proofs.lemmas.List.Sorted.{length_permutation}
use Rattle.std.proofs.lemmas.Nat.{le-div}
use Rattle.rv_value.specs.declared.record.IndexEntry.{IndexEntry}
use Rattle.rv_judge.specs.declared.events.Control.{Control}
use Rattle.rv_judge.specs.Account.{ScanAccount, facts_at, total_of}
use Rattle.rv_judge.specs.Costs.{expected_keys, projection}
use Rattle.rv_reader.specs.declared.reader.Chunk.{Chunk}
use Rattle.rv_jscan.specs.declared.jscan.ScanCounts.{ScanCounts}
use Rattle.rv_jscan.specs.Joint.{Joint, counts_at, no_counts}
use Rattle.rv_jscan.specs.Steps.{HasEntries, TakeLeaves, abandoned, completed, counts_read, eight, going, kept_of, leaf_counted, one_leaf, piece_counted, reads_leaf}
use Rattle.rv_retrieval.specs.Telling.{list_len}
use Rattle.rv_retrieval.proofs.BackWork.{kept_few}
use Rattle.skew_judges.specs.Guard.{Keeps, keys_before}
use Rattle.rv_bounded.proofs.Ahead.{greatest, is_under_way, way_counted}
use Rattle.rv_bounded.proofs.Sums.{both_less, at_most, risen_most, list_sum}

-- the keys that the present scan has kept, and the entries that it has scanned
abbrev pub kept_by : Joint → ℕ
kept_by j = (counts_at j.counts j.ended).kept

abbrev pub scanned_by : Joint → ℕ
scanned_by j = (counts_at j.counts j.ended).scanned

-- a leaf has at most 48 entries
abbrev pub IsShort : Chunk → Type 0
IsShort h = length h.entries ≤ 48

pub record Sound (p : ℕ) (j : Joint) : Type 0 where
  pub fresh : (i : ℕ) → j.ended < i → counts_at j.counts i ≡ no_counts
  pub scanned : kept_by j ≤ scanned_by j
  pub capped : kept_by j ≤ greatest
  pub built : length j.building ≤ kept_by j
  pub few : length j.building ≤ p
  pub list : list_len j.list ≤ p + 48
  pub short : IfSome j.held IsShort

other_counts : (counts : List ScanCounts) (ended i : ℕ) (c : ScanCounts) → ended < i → counts_at (slice_set counts ended c) i ≡ counts_at counts i
other_counts counts ended i c lt = get_or-set_other counts ended i c no_counts (λ e. absurd (omega (arith, lt, e)))

left_less : (a b c : ℕ) → a ≡ c → c ≤ b → a ≤ b
left_less a b c e h = omega (arith, e, h)

-- A leaf is read, or there is none to read.
pub taken_sound : (p : ℕ) (old new : Joint) → TakeLeaves old new → length old.plans ≤ length old.counts → IfSome new.held IsShort → Sound p old → Sound p new
taken_sound p old new t room short s = by (reads_leaf old) refl
  where
    by : (b : Bool) → reads_leaf old ≡ b → Sound p new
    by true r =
        let lt = way_counted old (is_under_way old r) room in
        let told : counts_at (counts_read old) old.ended ≡ leaf_counted (counts_at old.counts old.ended) =
        ap (λ (b : Bool). counts_at (if b then one_leaf old else old.counts) old.ended) r ∙ get_or-set_same old.counts old.ended (leaf_counted (counts_at old.counts old.ended)) no_counts lt in
        let kept : (counts_at (counts_read old) old.ended).kept ≡ kept_by old = ap (λ (c : ScanCounts). c.kept) told in
        let scanned : (counts_at (counts_read old) old.ended).scanned ≡ scanned_by old = ap (λ (c : ScanCounts). c.scanned) told in
        let fresh : (i : ℕ) → old.ended < i → counts_at (counts_read old) i ≡ no_counts =
        λ i above. ap (λ (b : Bool). counts_at (if b then one_leaf old else old.counts) i) r ∙ other_counts old.counts old.ended i (leaf_counted (counts_at old.counts old.ended)) above ∙ s.fresh i above in
        let read : Sound p (record old { held = new.held; counts = counts_read old }) = record {
          fresh = fresh;
          scanned = both_less (counts_at (counts_read old) old.ended).kept (counts_at (counts_read old) old.ended).scanned (kept_by old) (scanned_by old) kept scanned s.scanned;
          capped = left_less (counts_at (counts_read old) old.ended).kept greatest (kept_by old) kept s.capped;
          built = subst (λ (n : ℕ). length old.building ≤ n) (sym kept) s.built;
          few = s.few;
          list = s.list;
          short = short;
        } in
        subst (Sound p) (sym t.same) read
    by false r = subst (Sound p) (sym (t.none r)) s

-- A piece that is accepted.

pub kept_sum : (now was more scanned had entries most : ℕ) → now ≡ min (was + more) most → scanned ≡ min (had + entries) most → was ≤ had → more ≤ entries → now ≤ scanned
kept_sum now was more scanned had entries most n s h m = omega (arith, n, s, h, m)

pub built_sum : (now was more built all p most : ℕ) → now ≡ min (was + more) most → built ≤ was → all ≡ built + more → now < p → p ≤ most → (all ≤ now) × (all ≤ p)
built_sum now was more built all p most n b a lt small = (omega (arith, n, b, a, lt, small), omega (arith, n, b, a, lt, small))

-- its scan goes on

going_counts : (j : Joint) (entries : List IndexEntry) (cut : IndexEntry) → j.ended < length j.counts → counts_at (going j entries cut).counts j.ended ≡ piece_counted (counts_at j.counts j.ended) (length entries) (length (kept_of j entries)) false
going_counts j entries cut lt = get_or-set_same j.counts j.ended _ no_counts lt

going_kept : (j : Joint) (entries : List IndexEntry) (cut : IndexEntry) → j.ended < length j.counts → kept_by (going j entries cut) ≡ min (kept_by j + length (kept_of j entries)) greatest
going_kept j entries cut lt = ap (λ (c : ScanCounts). c.kept) (going_counts j entries cut lt)

pub going_scanned : (p : ℕ) (j : Joint) (entries : List IndexEntry) (cut : IndexEntry) → j.ended < length j.counts → Sound p j → kept_by (going j entries cut) ≤ scanned_by (going j entries cut)
going_scanned p j entries cut lt s =
    kept_sum (kept_by (going j entries cut)) (kept_by j) (length (kept_of j entries)) (scanned_by (going j entries cut)) (scanned_by j) (length entries) greatest (going_kept j entries cut lt) (ap (λ (c : ScanCounts). c.scanned) (going_counts j entries cut lt)) s.scanned (kept_few j entries)

pub going_capped : (j : Joint) (entries : List IndexEntry) (cut : IndexEntry) → j.ended < length j.counts → kept_by (going j entries cut) ≤ greatest
going_capped j entries cut lt = risen_most (kept_by (going j entries cut)) (kept_by j + length (kept_of j entries)) greatest (going_kept j entries cut lt)

pub going_fresh : (p : ℕ) (j : Joint) (entries : List IndexEntry) (cut : IndexEntry) → Sound p j → (i : ℕ) → j.ended < i → counts_at (going j entries cut).counts i ≡ no_counts
going_fresh p j entries cut s i above = other_counts j.counts j.ended i (piece_counted (counts_at j.counts j.ended) (length entries) (length (kept_of j entries)) false) above ∙ s.fresh i above

-- with fewer keys than the table has pages
pub going_sound : (p : ℕ) (j : Joint) (entries : List IndexEntry) (cut : IndexEntry) → j.ended < length j.counts → p ≤ greatest → kept_by (going j entries cut) < p → Sound p j → Sound p (going j entries cut)
going_sound p j entries cut lt small fewer s =
    let sums = built_sum (kept_by (going j entries cut)) (kept_by j) (length (kept_of j entries)) (length j.building) (length (j.building ++ kept_of j entries)) p greatest (going_kept j entries cut lt) s.built (length-append j.building (kept_of j entries)) fewer small in
    record {
      fresh = going_fresh p j entries cut s;
      scanned = going_scanned p j entries cut lt s;
      capped = going_capped j entries cut lt;
      built = sums.0;
      few = sums.1;
      list = s.list;
      short = tt;
    }

pub none_kept : (n : ℕ) (most : ℕ) → n ≡ 0 → n ≤ most
none_kept n most e = omega (arith, e)

-- a scan begins
begun_sound : (p : ℕ) (j : Joint) → ((i : ℕ) → j.ended ≤ i → counts_at j.counts i ≡ no_counts) → j.building ≡ [] → j.held ≡ None → list_len j.list ≤ p + 48 → Sound p j
begun_sound p j fresh building held list =
    let none = fresh j.ended (at_most j.ended) in
    let kept : kept_by j ≡ 0 = ap (λ (c : ScanCounts). c.kept) none in
    let built : length j.building ≡ 0 = ap length building in
    record {
      fresh = λ i above. fresh i (less_or_same j.ended i above);
      scanned = none_kept (kept_by j) (scanned_by j) kept;
      capped = none_kept (kept_by j) greatest kept;
      built = none_kept (length j.building) (kept_by j) built;
      few = none_kept (length j.building) p built;
      list = list;
      short = subst (λ (h : Option Chunk). IfSome h IsShort) (sym held) tt;
    }
  where
    less_or_same : (a b : ℕ) → a < b → a ≤ b
    less_or_same a b h = omega (arith, h)

after_below : (ended i : ℕ) → ended + 1 ≤ i → ended < i
after_below ended i h = omega (arith, h)

pub abandoned_sound : (p : ℕ) (j : Joint) → ((i : ℕ) → j.ended < i → counts_at j.counts i ≡ no_counts) → list_len j.list ≤ p + 48 → Sound p (abandoned j)
abandoned_sound p j fresh list = begun_sound p (abandoned j) (λ i from. fresh i (after_below j.ended i from)) refl refl list

-- its scan is complete
pub completed_sound : (p : ℕ) (j : Joint) (entries : List IndexEntry) (keys : List ℕ) → length entries ≤ 48 → IsPermutation (j.building ++ kept_of j entries) keys → Sound p j → Sound p (completed j entries keys)
completed_sound p j entries keys short perm s =
    begun_sound p (completed j entries keys) (λ i from. other_counts j.counts j.ended i (piece_counted (counts_at j.counts j.ended) (length entries) (length (kept_of j entries)) true) (after_below j.ended i from) ∙ s.fresh i (after_below j.ended i from)) refl refl (list_sum (length keys) (length (j.building ++ kept_of j entries)) (length j.building) (length (kept_of j entries)) (length entries) p (sym (length_permutation (j.building ++ kept_of j entries) keys perm)) (length-append j.building (kept_of j entries)) s.few (kept_few j entries) short)

pub held_short : (h : Option Chunk) (entries : List IndexEntry) → HasEntries h entries → IfSome h IsShort → length entries ≤ 48
held_short None entries has short = absurd has
held_short (Some chunk) entries has short = subst (λ (es : List IndexEntry). length es ≤ 48) has short

pub short_held : (h : Option Chunk) (entries : List IndexEntry) → HasEntries h entries → length entries ≤ 48 → IfSome h IsShort
short_held None entries has short = tt
short_held (Some chunk) entries has short = subst (λ (es : List IndexEntry). length es ≤ 48) (sym has) short

-- before the first step
pub eight_none : (i : ℕ) → counts_at (eight no_counts) i ≡ no_counts
eight_none zero = refl
eight_none (suc zero) = refl
eight_none (suc (suc zero)) = refl
eight_none (suc (suc (suc zero))) = refl
eight_none (suc (suc (suc (suc zero)))) = refl
eight_none (suc (suc (suc (suc (suc zero))))) = refl
eight_none (suc (suc (suc (suc (suc (suc zero)))))) = refl
eight_none (suc (suc (suc (suc (suc (suc (suc zero))))))) = refl
eight_none (suc (suc (suc (suc (suc (suc (suc (suc i)))))))) = refl

pub first_sound : (p : ℕ) (j : Joint) → j.counts ≡ eight no_counts → j.building ≡ [] → j.held ≡ None → j.list ≡ None → Sound p j
first_sound p j counts building held list = begun_sound p j (λ i from. ap (λ (cs : List ScanCounts). counts_at cs i) counts ∙ eight_none i) building held (none_kept (list_len j.list) (p + 48) (ap list_len list))

-- WHAT A JUDGE THAT IS BOUNDED KEEPS TO: the keys kept are fewer than are guaranteed, since no projection is below them.

ceil_least : (k total s : ℕ) → 0 < s → s ≤ total → k ≤ k * total / s + min 1 (k * total % s)
ceil_least k total s some within =
    let times = mul-le-mul_left k within in
    let part = le-div k (k * total) s some times in
    omega (arith, part)

some_of : (s : ℕ) → (s == 0) ≡ false → 0 < s
some_of s test = grind (arith, nat_tests)

none_of : (s : ℕ) → (s == 0) ≡ true → s ≡ 0
none_of s test = grind (arith, nat_tests)

expected_least : (total s k : ℕ) → s ≤ total → k ≤ s → k ≤ expected_keys total s k
expected_least total s k within fewer = by (s == 0) refl
  where
    by : (b : Bool) → (s == 0) ≡ b → k ≤ (if b then total else div_ceil (k * total) s)
    by true test = let none = none_of s test in omega (arith, none, within, fewer)
    by false test = ceil_least k total s (some_of s test) within

min_least : (k a e most : ℕ) → k ≤ e → k ≤ most → k ≤ min (a + e) most
min_least k a e most h m = omega (arith, h, m)

max_least : (a b : ℕ) → b ≤ max a b
max_least a b = omega arith

pub projected_least : (estimate scanned kept : ℕ) → kept ≤ scanned → kept ≤ greatest → kept ≤ projection (max estimate scanned) scanned kept
projected_least estimate scanned kept fewer capped =
    min_least kept (div_ceil (max estimate scanned - scanned) 16) (expected_keys (max estimate scanned) scanned kept) greatest (expected_least (max estimate scanned) scanned kept (max_least estimate scanned) fewer) capped

lesser : (k before projected g : ℕ) → k ≤ projected → min (k + before) projected < g → k < g
lesser k before projected g h m = omega (arith, h, m)

pub keeps_fewer : (control : Control) (a : ScanAccount) (scan g delivered : ℕ) → Keeps (facts_at control a scan g delivered) → a.kept ≤ a.scanned → a.kept ≤ greatest → a.kept < g
keeps_fewer control a scan g delivered keeps fewer capped =
    lesser a.kept (keys_before (facts_at control a scan g delivered)) (projection (total_of a) a.scanned a.kept) g (projected_least a.estimate a.scanned a.kept fewer capped) keeps.few
