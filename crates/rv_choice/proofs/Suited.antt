-- The range that a restriction has for an index suits the index's entries and cuts.
use Rattle.std.proofs.Common.{◌≡◌, ℕ, ◌≤◌, List, length, sym, subst, Some, None, Option, IfSome}
use Rattle.rv_value.specs.declared.range.Bound.{Bound}
use Rattle.rv_value.specs.declared.range.Range.{Range}
use Rattle.rv_restrict.specs.declared.atom.Atom.{Atom}
use Rattle.rv_restrict.specs.Ranges.{IsShort, AreShort, range_for}
use Rattle.rv_restrict.proofs.Short.{range_short}
use Rattle.rv_reader.specs.Entries.{AreLong, entries_of}
use Rattle.rv_reader.specs.Shown.{Shown, Suits}
use Rattle.rv_reader.proofs.Sorting.{entries_keys}
use Rattle.rv_reader.proofs.Suiting.{long_keys}
use Rattle.rv_choice.specs.declared.query.Query.{Query}
use Rattle.rv_choice.specs.Asked.{IsIndexOf, with_only}

-- an index of a table is one of it whatever is asked
pub index_of_any : (query : Query) (shown : Shown) (index : ℕ) (columns : List ℕ) (only : List (List Atom)) → IsIndexOf query shown index columns → IsIndexOf (with_only only query) shown index columns
index_of_any query shown index columns only i = record { can = i.can; some = i.some; few = i.few; different = i.different; entries = i.entries; cuts = i.cuts }

if_short : (n : ℕ) (bound : Option Bound) → IsShort n bound → IfSome bound (λ b. length b.key ≤ n)
if_short n None s = tt
if_short n (Some b) s = s

pub range_suits : (query : Query) (shown : Shown) (index : ℕ) (columns : List ℕ) (range : Range) → IsIndexOf query shown index columns → range ≡ range_for query.only columns → Suits shown index query.snap range
range_suits query shown index columns range i e =
    let short = subst (AreShort (length columns)) (sym e) (range_short query.only columns) in
    let low = if_short (length columns) range.low short.low_end in
    let high = if_short (length columns) range.high short.high_end in
    record {
      entries = subst (AreLong range) (sym i.entries) (long_keys (length columns) range (entries_of columns (shown.rows query.table query.snap)) low high (entries_keys columns (shown.rows query.table query.snap)));
      cuts = long_keys (length columns) range (shown.cuts index query.snap) low high i.cuts;
    }
