-- HOW MUCH WORK A PLAN STILL HAS, as a number: a sum over its open levels.
use Rattle.std.specs.Prelude.{ℕ, ◌+◌, ◌*◌, List, [], ◌∷◌, drop, length, Option, Some, None}
use Rattle.rv_value.specs.declared.value.Value.{Value}
use Rattle.rv_reader.specs.Shown.{Shown}
use Rattle.rv_access.specs.Accesses.{effort, rest}
use Rattle.rv_join.specs.declared.places.Item.{Item}
use Rattle.rv_join.specs.declared.places.Asked.{Asked}
use Rattle.rv_join.specs.declared.level.Level.{Level}
use Rattle.rv_join.specs.Asking.{item_life, lives_of}
use Rattle.rv_join.specs.Levels.{Stacked}

-- what a row of the items before these may cost: an access to the next item is opened, of so many lives at most,
-- gives at most the rows of its table, and ends
abbrev pub row_cost : ℕ → Shown → ℕ → List Item → ℕ
row_cost lives shown snap [] = 1
row_cost lives shown snap (i ∷ is) =
    item_life lives shown snap i + 2 + length (shown.rows i.table snap) * row_cost lives shown snap is

abbrev pub items_below : Asked → Level → List Item
items_below a l = drop (length l.outer + 1) a.items

abbrev pub held_rows : Option (List Value) → ℕ
held_rows None = 0
held_rows (Some row) = 1

-- the effort of its retrieval, its end, and what the rows may cost that it holds or has still to give
abbrev pub level_work : Asked → Shown → Level → ℕ
level_work a shown l =
    effort l.here shown + 1
    + (held_rows l.row + length (rest l.here shown)) * row_cost (lives_of a.only) shown a.snap (items_below a l)

abbrev pub levels_work : Asked → Shown → List Level → ℕ
levels_work a shown [] = 0
levels_work a shown (l ∷ ls) = level_work a shown l + levels_work a shown ls

abbrev pub loops_work : Asked → Shown → Stacked → ℕ
loops_work a shown v = levels_work a shown v.above + level_work a shown v.at
