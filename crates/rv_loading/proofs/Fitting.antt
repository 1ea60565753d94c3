-- What passes the tests of indexes and of changes.
use Rattle.std.proofs.Common.{◌≡◌, ℕ, ◌<◌, ◌≤◌, List, [], ◌∷◌, true, false, not, ◌&&◌, Option, Some, None, IfSome, nat_eq, nat_lt, refl, sym, ◌∙◌, arith, length}
use Rattle.std.proofs.lemmas.Bool.{and_from, and_parts, eqb-true, ltb-true, not-true}
use Rattle.std.specs.List.{AllByRecursion, IsDistinct, list_all, list_any}
use Rattle.std.proofs.lemmas.Map.Keys.{IsDistinct-cons}
use Rattle.rv_value.specs.declared.value.Value.{Value}
use Rattle.rv_rows.specs.declared.changes.Change.{Change}
use Rattle.rv_rows.specs.Changes.{Rise, is_before}
use Rattle.rv_rows.proofs.Chains.{by_row}
use Rattle.rv_reader.specs.Shown.{Shown}
use Rattle.rv_reader.specs.Storing.{AreColumns, CanCommit, IsChange}
use Rattle.rv_loading.specs.declared.schema.Layout.{Layout}
use Rattle.rv_loading.specs.declared.schema.Schema.{Schema}
use Rattle.rv_loading.specs.Laid.{Laid, are_fit, is_behind, is_of, is_wide, may_index, rise_from, rises}

-- Columns.

none_distinct : IsDistinct nat_eq []
unfolding IsDistinct
none_distinct = tt

others : (c : ℕ) (cs : List ℕ) → list_any (nat_eq c) cs ≡ false → AllByRecursion (λ (d : ℕ). nat_eq c d ≡ false) cs
others c [] none = tt
others c (d ∷ cs) none =
    let here : nat_eq c d ≡ false = grind (arith, none) in
    let rest : list_any (nat_eq c) cs ≡ false = grind (arith, none) in
    (here, others c cs rest)

distinct : (width : ℕ) (cs : List ℕ) → may_index width cs ≡ true → IsDistinct nat_eq cs
distinct width [] fits = none_distinct
distinct width (c ∷ cs) fits =
    let parts = and_parts (nat_lt c width) (not (list_any (nat_eq c) cs) && may_index width cs) fits in
    let more = and_parts (not (list_any (nat_eq c) cs)) (may_index width cs) parts.1 in
    IsDistinct-cons nat_eq c cs (others c cs (not-true (list_any (nat_eq c) cs) more.0)) (distinct width cs more.1)

below : (width : ℕ) (cs : List ℕ) → may_index width cs ≡ true → AllByRecursion (λ (c : ℕ). c < width) cs
below width [] fits = tt
below width (c ∷ cs) fits =
    let parts = and_parts (nat_lt c width) (not (list_any (nat_eq c) cs) && may_index width cs) fits in
    let more = and_parts (not (list_any (nat_eq c) cs)) (may_index width cs) parts.1 in
    (ltb-true c width parts.0, below width cs more.1)

pub are_columns : (width : ℕ) (columns : List ℕ) → 1 ≤ length columns → length columns ≤ 4 → may_index width columns ≡ true → AreColumns width columns
are_columns width columns some few fits = record { some = some; few = few; different = distinct width columns fits; there = below width columns fits }

-- Changes.

follows_all : (c d : Change) (cs : List Change) → is_before c d ≡ true → list_all (is_before d) cs ≡ true → list_all (is_before c) cs ≡ true
follows_all c d [] first all = refl
follows_all c d (e ∷ cs) first all =
    let parts = and_parts (is_before d e) (list_all (is_before d) cs) all in
    and_from (is_before c e) (list_all (is_before c) cs) (by_row.follows c d e first parts.0) (follows_all c d cs first parts.1)

rise_behind : (c : Change) (cs : List Change) → rise_from c.table c.row.0 cs ≡ true → Rise (c ∷ cs)
rise_behind c [] up = (refl, tt)
rise_behind c (d ∷ cs) up =
    let parts = and_parts (is_behind c.table c.row.0 d) (rise_from d.table d.row.0 cs) up in
    let first : is_before c d ≡ true = parts.0 in
    let rest = rise_behind d cs parts.1 in
    (and_from (is_before c d) (list_all (is_before c) cs) first (follows_all c d cs first rest.0), rest)

rise_all : (cs : List Change) → rises cs ≡ true → Rise cs
rise_all [] up = tt
rise_all (c ∷ cs) up = rise_behind c cs up

wide_values : (n m : ℕ) (values : Option (List Value)) → n ≡ m → is_wide n values ≡ true → IfSome values (λ v. length v ≡ m)
wide_values n m None same wide = tt
wide_values n m (Some v) same wide = eqb-true (length v) n wide ∙ same

is_change : (schema : Schema) (layout : Layout) (shown : Shown) (c : Change) → Laid schema layout shown → is_of layout.tables schema.width c ≡ true → IsChange shown c
is_change schema layout shown c laid fits =
    let parts = and_parts (nat_lt c.table layout.tables) (nat_lt c.row.0 4294967296 && is_wide schema.width c.values) fits in
    let more = and_parts (nat_lt c.row.0 4294967296) (is_wide schema.width c.values) parts.1 in
    let low = ltb-true c.table layout.tables parts.0 in
    record {
      there = (let n = laid.counts.tables in omega arith);
      fits = ltb-true c.row.0 4294967296 more.0;
      width = wide_values schema.width (shown.columns c.table) c.values (sym (laid.width c.table low)) more.1;
    }

are_changes : (schema : Schema) (layout : Layout) (shown : Shown) (cs : List Change) → Laid schema layout shown → list_all (is_of layout.tables schema.width) cs ≡ true → AllByRecursion (IsChange shown) cs
are_changes schema layout shown [] laid fits = tt
are_changes schema layout shown (c ∷ cs) laid fits =
    let parts = and_parts (is_of layout.tables schema.width c) (list_all (is_of layout.tables schema.width) cs) fits in
    (is_change schema layout shown c laid parts.0, are_changes schema layout shown cs laid parts.1)

pub can_commit : (schema : Schema) (layout : Layout) (shown : Shown) (changes : List Change) → Laid schema layout shown → are_fit schema layout changes ≡ true → CanCommit shown changes
can_commit schema layout shown changes laid fit =
    let parts = and_parts (rises changes) (list_all (is_of layout.tables schema.width) changes) fit in
    record { rise = rise_all changes parts.0; each = are_changes schema layout shown changes laid parts.1 }
