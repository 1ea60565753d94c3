-- What a step of an access adds to the count of records: one at most, and it takes none back.
use Rattle.std.proofs.Common.{◌≡◌, ℕ, ◌+◌, ◌^◌, ◌<◌, ◌≤◌, Bool, true, false, refl, ap, ◌∙◌, arith, inl, inr, if◌then◌else◌}
use Rattle.rv_judge.specs.Counting.{leaf_read, one_more, page_read, record_read}
use Rattle.rv_judge.specs.declared.counting.Counts.{Counts}
use Rattle.rv_jscan.specs.Steps.{reads_leaf, steps_read}
use Rattle.rv_judge.specs.declared.events.Control.{Control}
use Rattle.rv_judge.specs.declared.events.Control.TheVariants.{Building, ForegroundAlone, BackgroundAlone, FinalList, FinalTable, Done}
use Rattle.rv_retrieval.specs.Accounts.{fresh_of}
use Rattle.rv_retrieval.specs.Shape.{Shape, is_background}
use Rattle.rv_retrieval.specs.Stepping.{Kind, MayRead, kind_of, piece_read}
use Rattle.rv_scan.specs.Fronts.{FrontMayRead}
use Rattle.rv_scan.specs.Reads.{OneAtMost}
use Rattle.rv_race.specs.Given.{piece_read as race_read, reads_leaf as reads_turn}
use Rattle.rv_race.specs.Opened.{MayRead as RaceMayRead}
use Rattle.rv_race.specs.Raced.{Raced}
use Rattle.rv_union.specs.Given.{piece_read as union_read, reads_leaf as reads_member}
use Rattle.rv_union.specs.Opened.{MayRead as UnionMayRead}
use Rattle.rv_union.specs.Unioned.{Unioned}
use Rattle.rv_access.specs.declared.access.Access.{Access}
use Rattle.rv_access.specs.declared.access.Access.TheVariants.{Competing, Racing, Uniting}
use Rattle.rv_access.specs.Stepping.{MayReadIts}
use Rattle.rv_retrieval.specs.Stepping.Kind.{Borrow, Piece, Walk, WalkBoth, NextKey, NextPage, Over}

abbrev pub OneUp : Counts → Counts → Type 0
OneUp c d = (c.records ≤ d.records) × (d.records ≤ c.records + 1)

pub same_up : (c d : Counts) → d.records ≡ c.records → OneUp c d
same_up c d same = (omega (arith, same), omega (arith, same))

more_up : (c d : Counts) → c.records < 2 ^ 64 → d.records ≡ one_more c.records → OneUp c d
more_up c d within more = (omega (arith, within, more), omega (arith, within, more))

leaf_up : (c d : Counts) → OneAtMost leaf_read c d → OneUp c d
leaf_up c d read = elim read [
  | inl none ↦ same_up c d (ap (λ (k : Counts). k.records) none)
  | inr leaf ↦ same_up c d (ap (λ (k : Counts). k.records) leaf)
]

page_up : (c d : Counts) → OneAtMost page_read c d → OneUp c d
page_up c d read = elim read [
  | inl none ↦ same_up c d (ap (λ (k : Counts). k.records) none)
  | inr page ↦ same_up c d (ap (λ (k : Counts). k.records) page)
]

record_up : (c d : Counts) → c.records < 2 ^ 64 → OneAtMost record_read c d → OneUp c d
record_up c d within read = elim read [
  | inl none ↦ same_up c d (ap (λ (k : Counts). k.records) none)
  | inr fetched ↦ more_up c d within (ap (λ (k : Counts). k.records) fetched)
]

walk_up : (alone : Bool) (c d : Counts) → c.records < 2 ^ 64 → FrontMayRead alone c d → OneUp c d
walk_up true c d within read = leaf_up c d read
walk_up false c d within read = elim read [
  | inl leaf ↦ leaf_up c d leaf
  | inr fetched ↦ record_up c d within fetched
]

either_records : (b : Bool) (x y : Counts) (n : ℕ) → x.records ≡ n → y.records ≡ n → (if b then x else y).records ≡ n
either_records true x y n p q = p
either_records false x y n p q = q

piece_records : (v : Shape) (c : Counts) → (piece_read v c).records ≡ c.records
piece_records v c = either_records (is_background v.control) (steps_read v.joint c) c c.records (either_records (reads_leaf v.joint) (leaf_read c) c c.records refl refl) refl

kind_up : (k : Kind) (v : Shape) (c d : Counts) → c.records < 2 ^ 64 → MayRead k v c d → OneUp c d
kind_up (Borrow key) v c d within read = more_up c d within (ap (λ (k : Counts). k.records) read)
kind_up Piece v c d within read = same_up c d (ap (λ (k : Counts). k.records) read ∙ piece_records v c)
kind_up Walk v c d within read = walk_up v.front.alone c d within read
kind_up WalkBoth v c d within read = leaf_up c d read
kind_up NextKey v c d within read = record_up c d within read
kind_up NextPage v c d within read = page_up c d read
kind_up Over v c d within read = same_up c d (ap (λ (k : Counts). k.records) read)

-- A race.

race_records : (r : Raced) (c : Counts) → (race_read r c).records ≡ c.records
race_records r c = either_records (reads_turn r) (leaf_read c) c c.records refl refl

race_up : (now : Control) (r : Raced) (c d : Counts) → c.records < 2 ^ 64 → RaceMayRead now r c d → OneUp c d
race_up Building r c d within read = same_up c d (ap (λ (k : Counts). k.records) read)
race_up ForegroundAlone r c d within read = same_up c d (ap (λ (k : Counts). k.records) read)
race_up BackgroundAlone r c d within read = same_up c d (ap (λ (k : Counts). k.records) read ∙ race_records r c)
race_up FinalList r c d within read = record_up c d within read
race_up FinalTable r c d within read = page_up c d read
race_up Done r c d within read = same_up c d (ap (λ (k : Counts). k.records) read)

-- A union.

union_records : (u : Unioned) (c : Counts) → (union_read u c).records ≡ c.records
union_records u c = either_records (reads_member u) (leaf_read c) c c.records refl refl

union_up : (now : Control) (u : Unioned) (c d : Counts) → c.records < 2 ^ 64 → UnionMayRead now u c d → OneUp c d
union_up Building u c d within read = same_up c d (ap (λ (k : Counts). k.records) read)
union_up ForegroundAlone u c d within read = same_up c d (ap (λ (k : Counts). k.records) read)
union_up BackgroundAlone u c d within read = same_up c d (ap (λ (k : Counts). k.records) read ∙ union_records u c)
union_up FinalList u c d within read = record_up c d within read
union_up FinalTable u c d within read = page_up c d read
union_up Done u c d within read = same_up c d (ap (λ (k : Counts). k.records) read)

-- All.

pub may_up : (a : Access) (c d : Counts) → c.records < 2 ^ 64 → MayReadIts a c d → OneUp c d
may_up (Competing v) c d within read = kind_up (kind_of v.value.control v.value.strategy (fresh_of v.value)) v.value c d within read
may_up (Racing r) c d within read = race_up r.value.race.control r.value.race c d within read
may_up (Uniting u) c d within read = union_up u.value.union.control u.value.union c d within read
