-- What a cursor reads where its transaction had changed nothing is what the reader shows at its snapshot.
use Rattle.std.proofs.Common.{◌≡◌, ◌∙◌, ℕ, Option, None, ap, subst, sym}
use Rattle.rv_value.specs.declared.range.Range.{Range}
use Rattle.rv_reader.specs.Shown.{Shown, CanRead, CanScan, Suits}
use Rattle.rv_view.specs.Alone.{alone}
use Rattle.rv_view.proofs.Staying.{can_read, can_scan, same_cuts, same_entries, same_estimate, same_pages, same_rows, suits_own}
use Rattle.rv_overlay.specs.declared.frozen.Frozen.{Frozen}
use Rattle.rv_view.specs.Sights.{laid_over}

reads : (shown : Shown) (snap : ℕ) (view : Option Frozen) (table s : ℕ) → view ≡ None → CanRead (laid_over (alone shown snap) view) table s → CanRead (alone shown snap) table s
reads shown snap view table s none can = subst (λ (v : Option Frozen). CanRead (laid_over (alone shown snap) v) table s) none can

scans : (shown : Shown) (snap : ℕ) (view : Option Frozen) (index s : ℕ) → view ≡ None → CanScan (laid_over (alone shown snap) view) index s → CanScan (alone shown snap) index s
scans shown snap view index s none can = subst (λ (v : Option Frozen). CanScan (laid_over (alone shown snap) v) index s) none can

pub plain_reads : (shown : Shown) (snap : ℕ) (view : Option Frozen) (table s : ℕ) → view ≡ None → CanRead (laid_over (alone shown snap) view) table s → CanRead shown table s
plain_reads shown snap view table s none can = can_read shown snap table s (reads shown snap view table s none can)

pub plain_scans : (shown : Shown) (snap : ℕ) (view : Option Frozen) (index s : ℕ) → view ≡ None → CanScan (laid_over (alone shown snap) view) index s → CanScan shown index s
plain_scans shown snap view index s none can = can_scan shown snap index s (scans shown snap view index s none can)

pub plain_suits : (shown : Shown) (snap : ℕ) (view : Option Frozen) (index s : ℕ) (range : Range) → view ≡ None → CanScan (laid_over (alone shown snap) view) index s → Suits (laid_over (alone shown snap) view) index s range → Suits shown index s range
plain_suits shown snap view index s range none can h = suits_own shown snap index s range (scans shown snap view index s none can) (subst (λ (v : Option Frozen). Suits (laid_over (alone shown snap) v) index s range) none h)

pub plain_rows : (shown : Shown) (snap : ℕ) (view : Option Frozen) (table s : ℕ) → view ≡ None → CanRead (laid_over (alone shown snap) view) table s → shown.rows table s ≡ (laid_over (alone shown snap) view).rows table s
plain_rows shown snap view table s none can = sym (ap (λ (v : Option Frozen). (laid_over (alone shown snap) v).rows table s) none ∙ same_rows shown snap table s (reads shown snap view table s none can))

pub plain_pages : (shown : Shown) (snap : ℕ) (view : Option Frozen) (table s : ℕ) → view ≡ None → CanRead (laid_over (alone shown snap) view) table s → shown.pages table s ≡ (laid_over (alone shown snap) view).pages table s
plain_pages shown snap view table s none can = sym (ap (λ (v : Option Frozen). (laid_over (alone shown snap) v).pages table s) none ∙ same_pages shown snap table s (reads shown snap view table s none can))

pub plain_entries : (shown : Shown) (snap : ℕ) (view : Option Frozen) (index s : ℕ) → view ≡ None → CanScan (laid_over (alone shown snap) view) index s → shown.entries index s ≡ (laid_over (alone shown snap) view).entries index s
plain_entries shown snap view index s none can = sym (ap (λ (v : Option Frozen). (laid_over (alone shown snap) v).entries index s) none ∙ same_entries shown snap index s (scans shown snap view index s none can))

pub plain_cuts : (shown : Shown) (snap : ℕ) (view : Option Frozen) (index s : ℕ) → view ≡ None → CanScan (laid_over (alone shown snap) view) index s → shown.cuts index s ≡ (laid_over (alone shown snap) view).cuts index s
plain_cuts shown snap view index s none can = sym (ap (λ (v : Option Frozen). (laid_over (alone shown snap) v).cuts index s) none ∙ same_cuts shown snap index s (scans shown snap view index s none can))

pub plain_estimate : (shown : Shown) (snap : ℕ) (view : Option Frozen) (index s : ℕ) (range : Range) → view ≡ None → CanScan (laid_over (alone shown snap) view) index s → shown.estimates index s range ≡ (laid_over (alone shown snap) view).estimates index s range
plain_estimate shown snap view index s range none can = sym (ap (λ (v : Option Frozen). (laid_over (alone shown snap) v).estimates index s range) none ∙ same_estimate shown snap index s range (scans shown snap view index s none can))
