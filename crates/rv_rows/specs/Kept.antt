-- Where the changes of a transaction lie: in a list, or as the entries of a map.
use Rattle.std.specs.Prelude.{◌≡◌, ◌≤◌, ℕ, List, [], ◌∷◌, ◌++◌, Option, Bool, false, nat_lt, ◌==◌, ◌&&◌, ◌||◌, length, map}
use Rattle.rv_value.specs.declared.value.Value.{Value}
use Rattle.rv_rows.specs.declared.changes.Change.{Change}
use Rattle.rv_rows.specs.declared.changes.Lent.{Lent}
use Rattle.rv_rows.specs.declared.changes.Lent.TheVariants.{Own, Copied}
use Rattle.rv_rows.specs.declared.changes.RowKey.{RowKey}
use Rattle.rv_rows.specs.Changes.{Rise, change_at, is_of}

-- those of a list, and behind them those of a map's entries
abbrev pub kept_changes : List Change → List (RowKey × Option (List Value)) → List Change
kept_changes listed entries = listed ++ map change_at entries

-- They ascend, and all lie in the list, or all in the map.
pub record IsKept (listed : List Change) (entries : List (RowKey × Option (List Value))) : Type 0 where
  pub rise : Rise (kept_changes listed entries)
  pub one : 1 ≤ length listed → entries ≡ []

-- The same ones, and none of them in the list.
pub record IsGathered (listed : List Change) (entries : List (RowKey × Option (List Value))) (left : List Change)
    (all : List (RowKey × Option (List Value))) : Type 0 where
  pub none : left ≡ []
  pub same : map change_at all ≡ kept_changes listed entries

-- changes that are lent, or copies of them
abbrev pub lent_changes : Lent → List Change
lent_changes (Own changes) = changes.now
lent_changes (Copied changes) = changes.items

-- a change before a row of a table
abbrev pub comes_before : ℕ → ℕ → Change → Bool
comes_before table row c = nat_lt c.table table || ((c.table == table) && nat_lt c.row.0 row)

-- whether the first change is of a row
abbrev pub begins_at : ℕ → ℕ → List Change → Bool
begins_at table row [] = false
begins_at table row (c ∷ cs) = is_of table row c

-- whether the first change is of a table
abbrev pub begins_in : ℕ → List Change → Bool
begins_in table [] = false
begins_in table (c ∷ cs) = c.table == table
