-- A step of a retrieval, a race or a union changes at most one of the counts.
use Rattle.std.proofs.Common.{◌≡◌, ◌⊎◌, ℕ, ◌+◌, ◌-◌, ◌≤◌, Bool, true, false, inl, inr, sym, subst, arith, if◌then◌else◌}
use Rattle.rv_judge.specs.declared.counting.Counts.{Counts}
use Rattle.rv_judge.specs.declared.events.Control.{Control}
use Rattle.rv_judge.specs.declared.events.Control.TheVariants.{Building, ForegroundAlone, BackgroundAlone, FinalList, FinalTable, Done}
use Rattle.rv_judge.specs.Counting.{leaf_read, one_more, page_read, reads, record_read}
use Rattle.rv_final.specs.Work.{Tries}
use Rattle.rv_scan.specs.Fronts.{FrontMayRead}
use Rattle.rv_scan.specs.Reads.{OneAtMost}
use Rattle.rv_jscan.specs.Steps.{reads_leaf}
use Rattle.rv_retrieval.specs.Shape.{Shape, is_background}
use Rattle.rv_retrieval.specs.Accounts.{fresh_of}
use Rattle.rv_retrieval.specs.Stepping.{Kind, MayRead, kind_of}
use Rattle.rv_retrieval.specs.Stepping.Kind.{Borrow, Piece, Walk, WalkBoth, NextKey, NextPage, Over}
use Rattle.rv_race.specs.Given.{reads_leaf as race_reads}
use Rattle.rv_race.specs.Opened.{MayRead as RaceReads}
use Rattle.rv_race.specs.Raced.{Raced}
use Rattle.rv_union.specs.Given.{reads_leaf as union_reads}
use Rattle.rv_union.specs.Opened.{MayRead as UnionReads}
use Rattle.rv_union.specs.Unioned.{Unioned}
use Rattle.rv_access.specs.declared.access.Access.{Access}
use Rattle.rv_access.specs.declared.access.Access.TheVariants.{Competing, Racing, Uniting}
use Rattle.rv_access.specs.Given.{piece_read}
use Rattle.rv_access.specs.Stepping.{MayReadIts}
use Rattle.rv_join.specs.Alone.{Spends}

-- one of the counts is another, or none
abbrev pub One : Counts → Counts → Type 0
One c d = (d ≡ c) ⊎ ((d ≡ page_read c) ⊎ ((d ≡ leaf_read c) ⊎ (d ≡ record_read c)))

no_one : (c d : Counts) → d ≡ c → One c d
no_one c d e = inl e

one_page : (c d : Counts) → d ≡ page_read c → One c d
one_page c d e = inr (inl e)

one_leaf : (c d : Counts) → d ≡ leaf_read c → One c d
one_leaf c d e = inr (inr (inl e))

one_record : (c d : Counts) → d ≡ record_read c → One c d
one_record c d e = inr (inr (inr e))

page_once : (c d : Counts) → OneAtMost page_read c d → One c d
page_once c d (inl e) = no_one c d e
page_once c d (inr e) = one_page c d e

leaf_once : (c d : Counts) → OneAtMost leaf_read c d → One c d
leaf_once c d (inl e) = no_one c d e
leaf_once c d (inr e) = one_leaf c d e

record_once : (c d : Counts) → OneAtMost record_read c d → One c d
record_once c d (inl e) = no_one c d e
record_once c d (inr e) = one_record c d e

leaf_if : (b : Bool) (c d : Counts) → d ≡ (if b then leaf_read c else c) → One c d
leaf_if true c d e = one_leaf c d e
leaf_if false c d e = no_one c d e

leaf_ifs : (a b : Bool) (c d : Counts) → d ≡ (if a then (if b then leaf_read c else c) else c) → One c d
leaf_ifs true b c d e = leaf_if b c d e
leaf_ifs false b c d e = no_one c d e

front_one : (alone : Bool) (c d : Counts) → FrontMayRead alone c d → One c d
front_one true c d e = leaf_once c d e
front_one false c d (inl e) = leaf_once c d e
front_one false c d (inr e) = record_once c d e

retrieval_one : (k : Kind) (v : Shape) (c d : Counts) → MayRead k v c d → One c d
retrieval_one (Borrow key) v c d e = one_record c d e
retrieval_one Piece v c d e = leaf_ifs (is_background v.control) (reads_leaf v.joint) c d e
retrieval_one Walk v c d e = front_one v.front.alone c d e
retrieval_one WalkBoth v c d e = leaf_once c d e
retrieval_one NextKey v c d e = record_once c d e
retrieval_one NextPage v c d e = page_once c d e
retrieval_one Over v c d e = no_one c d e

race_one : (control : Control) (r : Raced) (c d : Counts) → RaceReads control r c d → One c d
race_one Building r c d e = no_one c d e
race_one ForegroundAlone r c d e = no_one c d e
race_one BackgroundAlone r c d e = leaf_if (race_reads r) c d e
race_one FinalList r c d e = record_once c d e
race_one FinalTable r c d e = page_once c d e
race_one Done r c d e = no_one c d e

union_one : (control : Control) (u : Unioned) (c d : Counts) → UnionReads control u c d → One c d
union_one Building u c d e = no_one c d e
union_one ForegroundAlone u c d e = no_one c d e
union_one BackgroundAlone u c d e = leaf_if (union_reads u) c d e
union_one FinalList u c d e = record_once c d e
union_one FinalTable u c d e = page_once c d e
union_one Done u c d e = no_one c d e

pub access_one : (a : Access) (c d : Counts) → MayReadIts a c d → One c d
access_one (Competing v) c d e = retrieval_one (kind_of v.value.control v.value.strategy (fresh_of v.value)) v.value c d e
access_one (Racing r) c d e = race_one r.value.race.control r.value.race c d e
access_one (Uniting u) c d e = union_one u.value.union.control u.value.union c d e

pub piece_one : (a : Access) (c d : Counts) → d ≡ piece_read a c → One c d
piece_one (Competing v) c d e = leaf_ifs (is_background v.value.control) (reads_leaf v.value.joint) c d e
piece_one (Racing r) c d e = leaf_if (race_reads r.value.race) c d e
piece_one (Uniting u) c d e = leaf_if (union_reads u.value.union) c d e

-- what the counts have risen by
abbrev pub rise : Counts → Counts → ℕ
rise c d = (d.pages - c.pages) + (d.leaves - c.leaves) + (d.records - c.records)

-- The effort falls by what the counts rise, also where a count is at the greatest number and stays there.

pages_spend : (p l r x e f : ℕ) → x + l + r + f ≤ p + l + r + e → f ≤ e → (x - p) + (l - l) + (r - r) + f ≤ e
pages_spend p l r x e f all less = omega (arith, all, less)

leaves_spend : (p l r x e f : ℕ) → p + x + r + f ≤ p + l + r + e → f ≤ e → (p - p) + (x - l) + (r - r) + f ≤ e
leaves_spend p l r x e f all less = omega (arith, all, less)

records_spend : (p l r x e f : ℕ) → p + l + x + f ≤ p + l + r + e → f ≤ e → (p - p) + (l - l) + (x - r) + f ≤ e
records_spend p l r x e f all less = omega (arith, all, less)

none_spent : (p l r e f : ℕ) → f ≤ e → (p - p) + (l - l) + (r - r) + f ≤ e
none_spent p l r e f less = omega (arith, less)

pub spends_rise : (c d : Counts) (e f : ℕ) → One c d → Spends c d e f → f ≤ e → rise c d + f ≤ e
spends_rise c d e f (inl same) spends less = subst (λ (x : Counts). rise c x + f ≤ e) (sym same) (none_spent c.pages c.leaves c.records e f less)
spends_rise c d e f (inr (inl same)) spends less = subst (λ (x : Counts). rise c x + f ≤ e) (sym same) (pages_spend c.pages c.leaves c.records (one_more c.pages) e f (subst (λ (x : Counts). Spends c x e f) same spends) less)
spends_rise c d e f (inr (inr (inl same))) spends less = subst (λ (x : Counts). rise c x + f ≤ e) (sym same) (leaves_spend c.pages c.leaves c.records (one_more c.leaves) e f (subst (λ (x : Counts). Spends c x e f) same spends) less)
spends_rise c d e f (inr (inr (inr same))) spends less = subst (λ (x : Counts). rise c x + f ≤ e) (sym same) (records_spend c.pages c.leaves c.records (one_more c.records) e f (subst (λ (x : Counts). Spends c x e f) same spends) less)

-- a call that reads at most once
pub tries_rise : (c d : Counts) (e f : ℕ) → One c d → Tries c d e f → rise c d + f ≤ e + 1
tries_rise c d e f one tries = spends_rise c d (e + 1) f one (once (reads c) (reads d) e f tries.once tries.less) (less e f tries.less)
  where
    once : (a b e f : ℕ) → b ≤ a + 1 → f ≤ e → b + f ≤ a + (e + 1)
    once a b e f one low = omega (arith, one, low)

    less : (e f : ℕ) → f ≤ e → f ≤ e + 1
    less e f low = omega (arith, low)
