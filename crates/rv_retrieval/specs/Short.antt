-- WHERE A SHORT INDEX WAS SCANNED AT OPENING: the background is over, and few records may still be fetched.
use Rattle.std.specs.Prelude.{◌≡◌, ℕ, ◌+◌, Bool, true, false, length, filter, if◌then◌else◌}
use Rattle.std.specs.List.{list_any}
use Rattle.rv_value.specs.declared.record.IndexEntry.{IndexEntry}
use Rattle.rv_judge.specs.declared.counting.Counts.{Counts}
use Rattle.rv_judge.specs.declared.events.Control.{Control}
use Rattle.rv_judge.specs.declared.events.Control.TheVariants.{Building, ForegroundAlone, BackgroundAlone, FinalList, FinalTable, Done}
use Rattle.rv_reader.specs.Shown.{Shown}
use Rattle.rv_scan.specs.Alongs.{left}
use Rattle.rv_jscan.specs.Joint.{Joint}
use Rattle.rv_jscan.specs.Pieces.{may}
use Rattle.rv_choice.specs.declared.query.Query.{Query}
use Rattle.rv_choice.specs.declared.choosing.Role.TheVariants.{Short}
use Rattle.rv_choice.specs.Choice.{candidates_of, plays}
use Rattle.rv_retrieval.specs.Effort.{entries_ahead, keys_work}
use Rattle.rv_retrieval.specs.Shape.{Shape, front_entries, is_sorted}
use Rattle.rv_retrieval.specs.Telling.{list_len}

-- no piece is awaited, and the table is not scanned
abbrev pub is_settled : Control → Bool
is_settled Building = false
is_settled ForegroundAlone = true
is_settled BackgroundAlone = false
is_settled FinalList = true
is_settled FinalTable = false
is_settled Done = true

-- the background is over: a list is fetched, or the foreground of a sorted retrieval goes on alone, or all is done
pub record Settled (v : Shape) : Type 0 where
  pub over : is_settled v.control ≡ true
  pub sorted : v.control ≡ ForegroundAlone → is_sorted v.strategy ≡ true

-- the records that a foreground's scan may still fetch, where a complete list hides what it cannot have: one for each
-- entry ahead that the list may have, none where the index is scanned alone
abbrev pub scan_fetches : Shape → Shown → ℕ
scan_fetches v shown =
    if v.front.alone then 0
    else length (filter (λ (e : IndexEntry). may v.joint.list e.row.0)
    (left v.front.fetching.walk (front_entries v shown)))

abbrev pub fetches_by : Control → ℕ → ℕ → ℕ
fetches_by Building front keys = 0
fetches_by ForegroundAlone front keys = front
fetches_by BackgroundAlone front keys = 0
fetches_by FinalList front keys = keys
fetches_by FinalTable front keys = 0
fetches_by Done front keys = 0

-- how many records may still be fetched where the background is over
abbrev pub fetches_left : Shape → Shown → ℕ
fetches_left v shown = fetches_by v.control (scan_fetches v shown) (keys_work v)

-- no page and no record was read
pub record OnlyLeaves (before after : Counts) : Type 0 where
  pub pages : after.pages ≡ before.pages
  pub records : after.records ≡ before.records

-- AT OPENING

-- some restricted index has an exact estimate of at most 20
abbrev pub has_short : Query → Shown → Bool
has_short query shown = list_any (plays Short) (candidates_of query shown)

-- how many keys the complete list and the list being built can come to have together
abbrev pub keys_most : Joint → Shown → ℕ
keys_most j shown = length j.building + list_len j.list + entries_ahead j shown
