-- What the steps of a final stage cost, of a race and of a union alike: pages and records that are read, and what is then left.
use Rattle.std.proofs.Common.{◌≡◌, ℕ, ◌+◌, ◌-◌, ◌<◌, ◌≤◌, List, false, Option, Some, None, IfSome, inl, inr, refl, ap, arith}
use Rattle.rv_value.specs.declared.record.IndexEntry.{IndexEntry}
use Rattle.rv_value.specs.declared.record.Record.{Record}
use Rattle.rv_judge.specs.declared.counting.Counts.{Counts}
use Rattle.rv_judge.specs.declared.events.Control.{Control}
use Rattle.rv_judge.specs.declared.events.Control.TheVariants.{Building, ForegroundAlone, BackgroundAlone, FinalList, FinalTable, Done}
use Rattle.rv_judge.specs.declared.events.Trace.{Trace}
use Rattle.rv_judge.specs.Counting.{page_read, record_read}
use Rattle.rv_judge.specs.Tracing.{CountsRise, SameCounts}
use Rattle.rv_restrict.specs.declared.atom.Atom.{Atom}
use Rattle.rv_reader.specs.declared.reader.Chunk.{Chunk}
use Rattle.rv_reader.specs.Shown.{Shown}
use Rattle.rv_scan.specs.Places.{PageReads, PageTurns, Place}
use Rattle.rv_scan.specs.Reads.{OneAtMost}
use Rattle.rv_reader.specs.declared.step.Step.{Step}
use Rattle.rv_reader.specs.declared.step.Step.TheVariants.{Row, Working, End}
use Rattle.rv_jscan.specs.declared.jscan.ScanPlan.{ScanPlan}
use Rattle.rv_jscan.specs.Lanes.{IsLeafAt}
use Rattle.rv_final.specs.Shell.{scanning}
use Rattle.rv_final.specs.Stage.{FetchesKey}
use Rattle.rv_final.specs.Work.{Falls}
use Rattle.rv_bounded.proofs.Ahead.{greatest}
use Rattle.rv_bounded.proofs.Sound.{IsShort}
use Rattle.rv_bounded.proofs.StepCosts.{no_more, page_few, page_records, plus_none, record_few, record_pages, rise_sum}

-- the pages and the records that a trace has counted
abbrev pub others_of : Trace → ℕ
others_of t = t.pages + t.fetches

-- THE READS OF THE FINAL STAGE that a control may still come to: at most so many while pieces are awaited; the keys left of
-- the list; the pages left of the table
abbrev pub stage_by : Control → ℕ → ℕ → ℕ → ℕ → ℕ
stage_by Building most p keys next = 0
stage_by ForegroundAlone most p keys next = 0
stage_by BackgroundAlone most p keys next = most
stage_by FinalList most p keys next = keys
stage_by FinalTable most p keys next = p - next
stage_by Done most p keys next = 0

-- where a source at its end leads
abbrev pub behind : Step Record → Control → Control
behind (Row r) c = c
behind Working c = c
behind End c = Done

-- which scans nothing where the control did not
pub behind_idle : (s : Step Record) (c : Control) → scanning c ≡ false → scanning (behind s c) ≡ false
behind_idle (Row r) c off = off
behind_idle Working c off = off
behind_idle End c off = refl

pub stage_most : (c : Control) (most p keys next : ℕ) → p ≤ most → keys ≤ most → stage_by c most p keys next ≤ most
stage_most Building most p keys next q h = omega arith
stage_most ForegroundAlone most p keys next q h = omega arith
stage_most BackgroundAlone most p keys next q h = omega arith
stage_most FinalList most p keys next q h = h
stage_most FinalTable most p keys next q h = omega (arith, q)
stage_most Done most p keys next q h = omega arith

pub stage_less : (c : Control) (most p keys more next : ℕ) → keys ≤ more → stage_by c most p keys next ≤ stage_by c most p more next
stage_less Building most p keys more next h = omega arith
stage_less ForegroundAlone most p keys more next h = omega arith
stage_less BackgroundAlone most p keys more next h = omega arith
stage_less FinalList most p keys more next h = h
stage_less FinalTable most p keys more next h = omega arith
stage_less Done most p keys more next h = omega arith

-- HOW COUNTS RISE

-- so many more pages and records were read
others_rise : (a b : ℕ) (t u : Trace) (c d : Counts) → CountsRise t u c d → d.pages ≤ c.pages + a → d.records ≤ c.records + b → others_of u ≤ others_of t + (a + b)
others_rise a b t u c d rise pages records = rise_sum u.pages u.fetches t.pages t.fetches c.pages d.pages c.records d.records a b greatest rise.pages rise.fetches pages records

-- none was
pub others_same : (t u : Trace) (c d : Counts) → CountsRise t u c d → d.pages ≡ c.pages → d.records ≡ c.records → others_of u ≤ others_of t
others_same t u c d rise pages records = plus_none (others_of u) (others_of t) (others_rise 0 0 t u c d rise (no_more d.pages c.pages pages) (no_more d.records c.records records))

record_more : (n m : ℕ) → n ≤ m + (0 + 1) → n ≤ m + 1
record_more n m h = omega (arith, h)

page_more : (n m : ℕ) → n ≤ m + (1 + 0) → n ≤ m + 1
page_more n m h = omega (arith, h)

-- one record at most
pub record_rise : (t u : Trace) (c d : Counts) → CountsRise t u c d → OneAtMost record_read c d → others_of u ≤ others_of t + 1
record_rise t u c d rise reads = record_more (others_of u) (others_of t) (others_rise 0 1 t u c d rise (no_more d.pages c.pages (record_pages c d reads)) (record_few c d reads))

-- one page at most
pub page_rise : (t u : Trace) (c d : Counts) → CountsRise t u c d → OneAtMost page_read c d → others_of u ≤ others_of t + 1
page_rise t u c d rise reads = page_more (others_of u) (others_of t) (others_rise 1 0 t u c d rise (page_few c d reads) (no_more d.records c.records (page_records c d reads)))

-- THE LIST: a key that is fetched is behind

key_reads : (key : Option ℕ) (only : List (List Atom)) (rows : List Record) (c d : Counts) (s : Step Record) → FetchesKey key only rows c d s → OneAtMost record_read c d
key_reads None only rows c d s f = inl f.1
key_reads (Some key) only rows c d s f = inr f.0

fetched_sum : (now was left rest had : ℕ) → now ≤ was + 1 → rest ≡ left → left < had → now + rest ≤ was + had + 0
fetched_sum now was left rest had n r l = omega (arith, n, r, l)

ended_sum : (now was rest had : ℕ) → now ≤ was → rest ≡ 0 → now + rest ≤ was + had + 0
ended_sum now was rest had n r = omega (arith, n, r)

pub list_fewer : (most p left had next : ℕ) (t u : Trace) (c d : Counts) (s : Step Record) (key : Option ℕ) (only : List (List Atom)) (rows : List Record) (now : Control) → CountsRise t u c d → FetchesKey key only rows c d s → Falls s c d had left → now ≡ behind s FinalList → others_of u + stage_by now most p left next ≤ others_of t + had + 0
list_fewer most p left had next t u c d s key only rows now rise fetches falls is = by s falls is
  where
    more : others_of u ≤ others_of t + 1
    more = record_rise t u c d rise (key_reads key only rows c d s fetches)

    rest : (x : Control) → now ≡ x → stage_by now most p left next ≡ stage_by x most p left next
    rest x e = ap (λ (k : Control). stage_by k most p left next) e

    by : (s : Step Record) → Falls s c d had left → now ≡ behind s FinalList → others_of u + stage_by now most p left next ≤ others_of t + had + 0
    by (Row r) falls is = fetched_sum (others_of u) (others_of t) left (stage_by now most p left next) had more (rest FinalList is) falls
    by Working falls is = fetched_sum (others_of u) (others_of t) left (stage_by now most p left next) had more (rest FinalList is) falls
    by End falls is = ended_sum (others_of u) (others_of t) (stage_by now most p left next) had (others_same t u c d rise (ap (λ (x : Counts). x.pages) falls) (ap (λ (x : Counts). x.records) falls)) (rest Done is)

-- THE TABLE: a page that is read was there, and is behind

turned_sum : (now was rest next p before : ℕ) → now ≤ was + 1 → rest ≡ p - next → before < p → next ≡ before + 1 → now + rest ≤ was + (p - before) + 0
turned_sum now was rest next p before n r l e = omega (arith, n, r, l, e)

found_sum : (now was rest next p before : ℕ) → now ≤ was → rest ≡ p - next → next ≡ before → now + rest ≤ was + (p - before) + 0
found_sum now was rest next p before n r e = omega (arith, n, r, e)

pub table_fewer : (most p keys : ℕ) (old new : Place) (t u : Trace) (c d : Counts) (s : Step Record) (now : Control) → CountsRise t u c d → PageReads s c d → PageTurns s old new p → now ≡ behind s FinalTable → others_of u + stage_by now most p keys new.next ≤ others_of t + (p - old.next) + 0
table_fewer most p keys old new t u c d s now rise reads turns is = by s reads turns is
  where
    rest : (x : Control) → now ≡ x → stage_by now most p keys new.next ≡ stage_by x most p keys new.next
    rest x e = ap (λ (k : Control). stage_by k most p keys new.next) e

    by : (s : Step Record) → PageReads s c d → PageTurns s old new p → now ≡ behind s FinalTable → others_of u + stage_by now most p keys new.next ≤ others_of t + (p - old.next) + 0
    by (Row r) reads turns is = found_sum (others_of u) (others_of t) (stage_by now most p keys new.next) new.next p old.next (others_same t u c d rise (ap (λ (x : Counts). x.pages) reads) (ap (λ (x : Counts). x.records) reads)) (rest FinalTable is) turns
    by Working reads turns is = turned_sum (others_of u) (others_of t) (stage_by now most p keys new.next) new.next p old.next (page_rise t u c d rise (inr reads)) (rest FinalTable is) turns.0 turns.1
    by End reads turns is = ended_sum (others_of u) (others_of t) (stage_by now most p keys new.next) (p - old.next) (others_same t u c d rise (ap (λ (x : Counts). x.pages) reads) (ap (λ (x : Counts). x.records) reads)) (rest Done is)

-- SUMS

pub same_others : (t u : Trace) → SameCounts t u → others_of u ≤ others_of t
same_others t u s = sums u.pages u.fetches t.pages t.fetches s.pages s.fetches
  where
    sums : (a b c d : ℕ) → a ≡ c → b ≡ d → a + b ≤ c + d
    sums a b c d e f = omega (arith, e, f)

pub sum_to : (now left to was had old : ℕ) → left ≡ to → old ≡ had → now + to ≤ was + had + 0 → now + left ≤ was + old + 0
sum_to now left to was had old e f h = omega (arith, e, f, h)

-- WHAT IS HELD is a leaf, and has at most 48 entries
pub drawn_short : (plan : ScanPlan) (shown : Shown) (snap : ℕ) (place : Option IndexEntry) (h : Option Chunk) → IfSome h (IsLeafAt plan shown snap place) → IfSome h IsShort
drawn_short plan shown snap place None drawn = tt
drawn_short plan shown snap place (Some chunk) drawn = drawn.short
