-- A database stays tied to its store under the store's calls.
use Rattle.std.proofs.Common.{◌≡◌, ℕ, zero, suc, ◌+◌, ◌<◌, ◌≤◌, List, [], ◌∷◌, ◌++◌, refl, ap, sym, ◌∙◌, subst, arith, length, length-append, Option, Some, None, inl, inr, ◌≢◌, eqb, true, false, filter, IfSome}
use Rattle.std.specs.List.{AllByRecursion, slice_index_or}
use Rattle.std.proofs.Math.Seq.{get_or-append_seam}
use Rattle.std.proofs.lemmas.List.{get_or_append_left}
use Rattle.std.proofs.lemmas.Bool.{cases_lt}
use Rattle.std.proofs.lemmas.Bool.Decides.{eqb_tells}
use Rattle.rv_value.proofs.Lists.{all_filter, all_more, all_or, all_remove}
use Rattle.rv_value.specs.declared.value.Value.{Value}
use Rattle.rv_value.specs.declared.record.Record.{Record}
use Rattle.rv_rows.specs.declared.changes.Change.{Change}
use Rattle.rv_rows.specs.Changes.{rows_with_changes}
use Rattle.rv_rows.specs.Rows.{comes_below, with_values}
use Rattle.rv_catalog.specs.declared.def.TableDef.{TableDef}
use Rattle.rv_catalog.specs.declared.def.IndexDef.{IndexDef}
use Rattle.rv_catalog.specs.Kept.{indexes_over, is_over}
use Rattle.rv_catalog.specs.Schema.{Schema, width}
use Rattle.rv_reader.specs.Shown.{Shown, IsSnapshot, CanRead}
use Rattle.rv_reader.specs.Storing.{Stays, IsSame, Created, Indexed, Committed, Swept, IsChange}
use Rattle.rv_model.specs.declared.transactions.Transaction.{Transaction}
use Rattle.rv_model.specs.declared.transactions.Transactions.{Transactions}
use Rattle.rv_model.specs.Transactions.{no_transaction, transaction_at, next_row, touch_all, done, without, lowest, horizon}
use Rattle.rv_model.specs.Database.{no_index}
use Rattle.rv_model.proofs.Touches.{touch_all_same}
use Rattle.rv_core.specs.Db.{IsOwn, IsActive, AreTaken, HasIndex, IsTied}
use Rattle.rv_core.proofs.Facts.{all_put}

own_stays : (old new : Shown) (touched : List (List ℕ)) (c : Change) → old.tables ≤ new.tables → Stays old new → IsOwn old touched c → IsOwn new touched c
own_stays old new touched c more stays h = record {
  there = omega (arith, h.there);
  taken = h.taken;
  width = subst (λ (n : ℕ). IfSome c.values (λ (values : List Value). length values ≡ n)) (sym (stays.columns c.table h.there)) h.width;
}

active_stays : (old new : Shown) (touched : List (List ℕ)) (t : Transaction) → old.tables ≤ new.tables → Stays old new → IsSnapshot new t.base → IsActive old touched t → IsActive new touched t
active_stays old new touched t more stays base h = record {
  base = base;
  changes = all_more (IsOwn old touched) (IsOwn new touched) (λ c k. own_stays old new touched c more stays k) t.changes h.changes;
}

actives_stay : (old new : Shown) (touched : List (List ℕ)) (active : List Transaction) → old.tables ≤ new.tables → Stays old new → AllByRecursion (λ (t : Transaction). IsSnapshot new t.base) active → AllByRecursion (IsActive old touched) active → AllByRecursion (IsActive new touched) active
actives_stay old new touched [] more stays bases h = tt
actives_stay old new touched (t ∷ ts) more stays bases h = (active_stays old new touched t more stays bases.0 h.0, actives_stay old new touched ts more stays bases.1 h.1)

-- bases are snapshots of a store with the same horizon and no fewer commits
bases_known : (old new : Shown) (touched : List (List ℕ)) (active : List Transaction) → new.horizon ≡ old.horizon → old.newest ≤ new.newest → AllByRecursion (IsActive old touched) active → AllByRecursion (λ (t : Transaction). IsSnapshot new t.base) active
bases_known old new touched active h n all = all_more (IsActive old touched) (λ (t : Transaction). IsSnapshot new t.base) (λ t a. record { kept = omega (arith, h, a.base.kept); known = omega (arith, n, a.base.known) }) active all

-- an index that was there stays as it is
index_stays : (old new : Shown) (indexes : List IndexDef) (i : ℕ) → i < old.indexes → Stays old new → HasIndex old indexes i → HasIndex new indexes i
index_stays old new indexes i there stays h = record { over = stays.over i there ∙ h.over; keys = stays.keys i there ∙ h.keys }

-- a store that shows the same
pub tied_same : (old new : Shown) (schema : Schema) (txns : Transactions) → IsSame old new → IsTied old schema txns → IsTied new schema txns
tied_same old new schema txns same tied =
    let n : old.newest ≤ new.newest = omega (arith, same.newest) in
    record {
      count = same.tables ∙ tied.count;
      indexes = tied.indexes;
      indexed = same.indexes ∙ tied.indexed;
      each = λ i h. index_stays old new schema.indexes i (omega (arith, tied.indexed, h)) same.stays (tied.each i h);
      over = tied.over;
      columns = λ i h. same.stays.columns i (omega (arith, tied.count, h)) ∙ tied.columns i h;
      standing = omega (arith, same.horizon, same.newest, tied.standing);
      given = λ i snap can.
          let was : CanRead old i snap = record { there = omega (arith, same.tables, can.there); snapshot = record { kept = omega (arith, same.horizon, can.snapshot.kept); known = omega (arith, same.newest, can.snapshot.known) } } in
          rw (same.stays.rows i snap was can.snapshot) (tied.given i snap was);
      few = tied.few;
      active = actives_stay old new txns.touched txns.active (omega (arith, same.tables)) same.stays (bases_known old new txns.touched txns.active same.horizon n tied.active) tied.active;
    }

-- no transaction has the lowest number only where there is none
pub none_lowest : (active : List Transaction) → lowest active ≡ None → active ≡ []
none_lowest [] h = refl
none_lowest (t ∷ ts) h = cc

width_stays : (defs : List TableDef) (def : TableDef) (i : ℕ) → i < length defs → width (defs ++ def ∷ []) i ≡ width defs i
width_stays [] def i h = absurd (omega arith)
width_stays (d ∷ ds) def zero h = refl
width_stays (d ∷ ds) def (suc i) h = width_stays ds def i (omega arith)

width_last : (defs : List TableDef) (def : TableDef) → width (defs ++ def ∷ []) (length defs) ≡ length def.columns
width_last [] def = refl
width_last (d ∷ ds) def = width_last ds def

-- a table more, where no transaction is active
pub tied_created : (old new : Shown) (schema : Schema) (def : TableDef) (txns : Transactions) → lowest txns.active ≡ None → Created old new (length def.columns) → IsTied old schema txns → IsTied new (record schema { tables = schema.tables ++ def ∷ [] }) txns
tied_created old new schema def txns idle more tied =
    let count : length (schema.tables ++ def ∷ []) ≡ length schema.tables + 1 = length-append schema.tables (def ∷ []) in
    record {
      count = omega (arith, more.tables, tied.count, count);
      indexes = λ i h. tied.indexes i (omega (arith, count));
      indexed = more.indexes ∙ tied.indexed;
      each = λ i h. index_stays old new schema.indexes i (omega (arith, tied.indexed, h)) more.stays (tied.each i h);
      over = tied.over;
      columns = λ i h. elim (cases_lt i (length schema.tables)) [
        | inl within ↦ more.stays.columns i (omega (arith, tied.count)) ∙ tied.columns i within ∙ sym (width_stays schema.tables def i within)
        | inr past ↦
            let here : i ≡ length schema.tables = omega (arith, count) in
            let last : old.tables ≡ i = omega (arith, tied.count) in
            rw here (subst (λ (k : ℕ). new.columns k ≡ length def.columns) (last ∙ here) more.width ∙ sym (width_last schema.tables def))
      ];
      standing = omega (arith, more.horizon, more.newest, tied.standing);
      given = λ i snap can. elim (cases_lt i old.tables) [
        | inl within ↦
            let was : CanRead old i snap = record { there = within; snapshot = record { kept = omega (arith, more.horizon, can.snapshot.kept); known = omega (arith, more.newest, can.snapshot.known) } } in
            rw (more.stays.rows i snap was can.snapshot) (tied.given i snap was)
        | inr past ↦
            let here : i ≡ old.tables = omega (arith, more.tables, can.there) in
            let none : new.rows i snap ≡ [] = rw here (more.rows snap can.snapshot) in
            rw none tt
      ];
      few = tied.few;
      active = rw (none_lowest txns.active idle) tt;
    }

-- An index more.

-- none is over a table that is not there
over_past : (table : ℕ) (indexes : List IndexDef) (def : IndexDef) → indexes_over table indexes ≡ 0 → def.table ≢ table → indexes_over table (indexes ++ def ∷ []) ≡ 0
over_past table [] def none other = elim (eqb_tells def.table table) [
  | inl here ↦ absurd (other here.1)
  | inr apart ↦ rw apart.0 refl
]
over_past table (i ∷ is) def none other = elim (eqb_tells i.table table) [
  | inl here ↦ absurd (some_over (length (filter (is_over table) is)) (rw here.0 at none))
  | inr apart ↦ rw apart.0 (over_past table is def (rw apart.0 at none) other)
]
  where
    some_over : (n : ℕ) → suc n ≡ 0 → ⊥
    some_over n h = omega arith

has_more : (shown : Shown) (indexes : List IndexDef) (def : IndexDef) (i : ℕ) → i < length indexes → HasIndex shown indexes i → HasIndex shown (indexes ++ def ∷ []) i
has_more shown indexes def i there h = let same : slice_index_or (indexes ++ def ∷ []) i no_index ≡ slice_index_or indexes i no_index = get_or_append_left indexes (def ∷ []) no_index i there in record { over = rw same h.over; keys = rw same h.keys }

has_last : (shown : Shown) (indexes : List IndexDef) (def : IndexDef) (i : ℕ) → i ≡ length indexes → shown.over i ≡ def.table → shown.keys i ≡ def.columns → HasIndex shown (indexes ++ def ∷ []) i
has_last shown indexes def i at over keys = let last : slice_index_or (indexes ++ def ∷ []) i no_index ≡ def = rw at (get_or-append_seam indexes def [] no_index) in record { over = rw last over; keys = rw last keys }

-- one more over its table
over_more : (table : ℕ) (indexes : List IndexDef) (def : IndexDef) → indexes_over table indexes ≤ 8 → indexes_over def.table indexes ≤ 7 → indexes_over table (indexes ++ def ∷ []) ≤ 8
over_more table indexes def most room = elim (eqb_tells def.table table) [
  | inl here ↦ let count = over_here table indexes def here.0 in let low : indexes_over table indexes ≤ 7 = subst (λ (t : ℕ). indexes_over t indexes ≤ 7) here.1 room in omega arith
  | inr apart ↦ let count = over_there table indexes def apart.0 in omega arith
]
  where
    one_more : (a b : ℕ) → a ≡ b + 1 → suc a ≡ suc b + 1
    one_more a b h = omega (arith, h)

    over_here : (t : ℕ) (is : List IndexDef) (d : IndexDef) → eqb d.table t ≡ true → indexes_over t (is ++ d ∷ []) ≡ indexes_over t is + 1
    over_here t [] d e = rw e refl
    over_here t (i ∷ is) d e = elim (eqb_tells i.table t) [
      | inl y ↦ let rest = over_here t is d e in rw y.0 (one_more _ _ rest)
      | inr n ↦ rw n.0 (over_here t is d e)
    ]

    over_there : (t : ℕ) (is : List IndexDef) (d : IndexDef) → eqb d.table t ≡ false → indexes_over t (is ++ d ∷ []) ≡ indexes_over t is
    over_there t [] d e = rw e refl
    over_there t (i ∷ is) d e = elim (eqb_tells i.table t) [
      | inl y ↦ rw y.0 (ap (λ n. suc n) (over_there t is d e))
      | inr n ↦ rw n.0 (over_there t is d e)
    ]

pub tied_indexed : (old new : Shown) (schema : Schema) (def : IndexDef) (txns : Transactions) → def.table < length schema.tables → indexes_over def.table schema.indexes ≤ 7 → Indexed old new def.table def.columns → IsTied old schema txns → IsTied new (record schema { indexes = schema.indexes ++ def ∷ [] }) txns
tied_indexed old new schema def txns there room more tied =
    let count : length (schema.indexes ++ def ∷ []) ≡ length schema.indexes + 1 = length-append schema.indexes (def ∷ []) in
    let n : old.newest ≤ new.newest = omega (arith, more.newest) in
    record {
      count = more.tables ∙ tied.count;
      indexes = λ i h. over_past i schema.indexes def (tied.indexes i h) (λ e. absurd (omega (arith, e, h, there)));
      indexed = more.indexes ∙ ap (λ (k : ℕ). k + 1) tied.indexed ∙ sym count;
      each = λ i h. elim (cases_lt i (length schema.indexes)) [
        | inl within ↦ has_more new schema.indexes def i within (index_stays old new schema.indexes i (omega (arith, tied.indexed, within)) more.stays (tied.each i within))
        | inr past ↦
            let last : old.indexes ≡ i = omega (arith, tied.indexed, count, h) in
            has_last new schema.indexes def i (omega (arith, count, h)) (subst (λ (k : ℕ). new.over k ≡ def.table) last more.over) (subst (λ (k : ℕ). new.keys k ≡ def.columns) last more.keys)
      ];
      over = λ table. over_more table schema.indexes def (tied.over table) room;
      columns = λ i h. more.stays.columns i (omega (arith, tied.count, h)) ∙ tied.columns i h;
      standing = omega (arith, more.horizon, more.newest, tied.standing);
      given = λ i snap can.
          let was : CanRead old i snap = record { there = omega (arith, more.tables, can.there); snapshot = record { kept = omega (arith, more.horizon, can.snapshot.kept); known = omega (arith, more.newest, can.snapshot.known) } } in
          rw (more.stays.rows i snap was can.snapshot) (tied.given i snap was);
      few = tied.few;
      active = actives_stay old new txns.touched txns.active (omega (arith, more.tables)) more.stays (bases_known old new txns.touched txns.active more.horizon n tied.active) tied.active;
    }

-- Row numbers that were taken.

values_taken : (touched : List (List ℕ)) (table number : ℕ) (values : Option (List Value)) (rows : List Record) → number < next_row touched table → AreTaken touched table rows → AreTaken touched table (with_values number values rows)
values_taken touched table number (Some vs) rows fits a = all_put (λ (r : Record). r.row.0 < next_row touched table) comes_below (record { row = record { 0 = number }; values = vs }) rows fits a
values_taken touched table number None rows fits a = all_filter (λ (r : Record). r.row.0 < next_row touched table) _ rows a

pub applied_taken : (shown : Shown) (touched : List (List ℕ)) (table : ℕ) (changes : List Change) (rows : List Record) → AllByRecursion (IsOwn shown touched) changes → AreTaken touched table rows → AreTaken touched table (rows_with_changes table changes rows)
applied_taken shown touched table [] rows fits a = a
applied_taken shown touched table (c ∷ cs) rows fits a = elim (eqb_tells c.table table) [
  | inl here ↦
      let same : c.table ≡ table = here.1 in
      let below : c.row.0 < next_row touched table = subst (λ (n : ℕ). c.row.0 < next_row touched n) same fits.0.taken in
      rw here.0 (applied_taken shown touched table cs (with_values c.row.0 c.values rows) fits.1 (values_taken touched table c.row.0 c.values rows below a))
  | inr other ↦ rw other.0 (applied_taken shown touched table cs rows fits.1 a)
]

-- Facts of row numbers taken, where at least as many were taken.

abbrev pub TakesMore : List (List ℕ) → List (List ℕ) → Type 0
TakesMore touched more = (table : ℕ) → next_row touched table ≤ next_row more table

taken_more : (touched more : List (List ℕ)) (table : ℕ) (rows : List Record) → TakesMore touched more → AreTaken touched table rows → AreTaken more table rows
taken_more touched more table rows grows a =
    let g = grows table in
    all_more (λ (r : Record). r.row.0 < next_row touched table) (λ (r : Record). r.row.0 < next_row more table) (λ r h. omega arith) rows a

own_more : (shown : Shown) (touched more : List (List ℕ)) (c : Change) → TakesMore touched more → IsOwn shown touched c → IsOwn shown more c
own_more shown touched more c grows h = let g = grows c.table in record { there = h.there; taken = omega (arith, h.taken); width = h.width }

active_more : (shown : Shown) (touched more : List (List ℕ)) (t : Transaction) → TakesMore touched more → IsActive shown touched t → IsActive shown more t
active_more shown touched more t grows h = record { base = h.base; changes = all_more (IsOwn shown touched) (IsOwn shown more) (λ c k. own_more shown touched more c grows k) t.changes h.changes }

pub actives_more : (shown : Shown) (touched more : List (List ℕ)) (active : List Transaction) → TakesMore touched more → AllByRecursion (IsActive shown touched) active → AllByRecursion (IsActive shown more) active
actives_more shown touched more active grows h = all_more (IsActive shown touched) (IsActive shown more) (λ t k. active_more shown touched more t grows k) active h

-- other row numbers taken, and other transactions
pub tied_more : (shown : Shown) (schema : Schema) (old new : Transactions) → TakesMore old.touched new.touched → ((table : ℕ) → next_row new.touched table ≤ 1000000) → AllByRecursion (IsActive shown new.touched) new.active → IsTied shown schema old → IsTied shown schema new
tied_more shown schema old new grows few active tied = record {
  count = tied.count;
  columns = tied.columns;
  indexes = tied.indexes;
  indexed = tied.indexed;
  each = tied.each;
  over = tied.over;
  standing = tied.standing;
  given = λ i snap can. taken_more old.touched new.touched i (shown.rows i snap) grows (tied.given i snap can);
  few = few;
  active = active;
}

-- Commits.

change_fits : (shown : Shown) (schema : Schema) (txns : Transactions) (c : Change) → IsTied shown schema txns → IsOwn shown txns.touched c → IsChange shown c
change_fits shown schema txns c tied h = let most = tied.few c.table in record { there = h.there; fits = omega (arith, h.taken); width = h.width }

-- the changes of the transaction in a place
pub own_changes : (shown : Shown) (touched : List (List ℕ)) (active : List Transaction) (own : ℕ) → AllByRecursion (IsActive shown touched) active → AllByRecursion (IsOwn shown touched) (transaction_at active own).changes
own_changes shown touched active own all = all_or (λ (t : Transaction). AllByRecursion (IsOwn shown touched) t.changes) active own no_transaction (all_more (IsActive shown touched) (λ (t : Transaction). AllByRecursion (IsOwn shown touched) t.changes) (λ t a. a.changes) active all) tt

-- a transaction's changes are those of a commit
pub changes_fit : (shown : Shown) (schema : Schema) (txns : Transactions) (own : ℕ) → IsTied shown schema txns → AllByRecursion (IsChange shown) (transaction_at txns.active own).changes
changes_fit shown schema txns own tied =
    all_more (IsOwn shown txns.touched) (IsChange shown) (λ c k. change_fits shown schema txns c tied k) (transaction_at txns.active own).changes (own_changes shown txns.touched txns.active own tied.active)

-- the transaction in a place is gone
pub tied_without : (shown : Shown) (schema : Schema) (txns : Transactions) (own : ℕ) → IsTied shown schema txns → IsTied shown schema (without txns own)
tied_without shown schema txns own tied = tied_more shown schema txns (without txns own) (λ i. omega arith) tied.few (all_remove (IsActive shown txns.touched) txns.active own tied.active) tied

pub tied_done : (shown : Shown) (schema : Schema) (txns : Transactions) (own commit : ℕ) → IsTied shown schema txns → IsTied shown schema (done txns own commit)
tied_done shown schema txns own commit tied =
    let changes = (transaction_at txns.active own).changes in
    let same : (i : ℕ) → next_row (touch_all commit changes txns.touched) i ≡ next_row txns.touched i = touch_all_same commit changes txns.touched in
    tied_more shown schema txns (done txns own commit) (λ i. let e = same i in omega arith) (λ i. let e = same i in let f = tied.few i in omega arith)
    (all_remove (IsActive shown (touch_all commit changes txns.touched)) txns.active own (actives_more shown txns.touched (touch_all commit changes txns.touched) txns.active (λ i. let e = same i in omega arith) tied.active)) tied

-- a commit of own changes
pub tied_committed : (old new : Shown) (schema : Schema) (txns : Transactions) (changes : List Change) → AllByRecursion (IsOwn old txns.touched) changes → Committed old new changes → IsTied old schema txns → IsTied new schema txns
tied_committed old new schema txns changes owns told tied =
    let n : old.newest ≤ new.newest = omega (arith, told.newest) in
    record {
      count = told.tables ∙ tied.count;
      indexes = tied.indexes;
      indexed = told.indexes ∙ tied.indexed;
      each = λ i h. index_stays old new schema.indexes i (omega (arith, tied.indexed, h)) told.stays (tied.each i h);
      over = tied.over;
      columns = λ i h. told.stays.columns i (omega (arith, tied.count, h)) ∙ tied.columns i h;
      standing = omega (arith, told.horizon, told.newest, tied.standing);
      given = λ i snap can. elim (cases_lt snap new.newest) [
        | inl before ↦
            let was : CanRead old i snap = record { there = omega (arith, told.tables, can.there); snapshot = record { kept = omega (arith, told.horizon, can.snapshot.kept); known = omega (arith, told.newest) } } in
            rw (told.stays.rows i snap was can.snapshot) (tied.given i snap was)
        | inr now ↦
            let here : snap ≡ new.newest = omega (arith, can.snapshot.known) in
            let there : i < old.tables = omega (arith, told.tables, can.there) in
            let was : CanRead old i old.newest = record { there = there; snapshot = record { kept = tied.standing; known = omega arith } } in
            rw (here, told.rows i there) (applied_taken old txns.touched i changes (old.rows i old.newest) owns (tied.given i old.newest was))
      ];
      few = tied.few;
      active = actives_stay old new txns.touched txns.active (omega (arith, told.tables)) told.stays (bases_known old new txns.touched txns.active told.horizon n tied.active) tied.active;
    }

-- Sweeps.

-- the horizon is below each base, and no lower than the store's
pub horizon_low : (active : List Transaction) (last : ℕ) → AllByRecursion (λ (t : Transaction). horizon active last ≤ t.base) active
horizon_low [] last = tt
horizon_low (t ∷ ts) last = (omega arith, all_more (λ (u : Transaction). horizon ts last ≤ u.base) (λ (u : Transaction). horizon (t ∷ ts) last ≤ u.base) (λ u h. omega arith) ts (horizon_low ts last))

pub horizon_last : (active : List Transaction) (last : ℕ) → horizon active last ≤ last
horizon_last [] last = omega arith
horizon_last (t ∷ ts) last = let h = horizon_last ts last in omega arith

pub horizon_kept : (shown : Shown) (touched : List (List ℕ)) (active : List Transaction) → shown.horizon ≤ shown.newest → AllByRecursion (IsActive shown touched) active → shown.horizon ≤ horizon active shown.newest
horizon_kept shown touched [] standing all = standing
horizon_kept shown touched (t ∷ ts) standing all = let h = horizon_kept shown touched ts standing all.1 in let k = all.0.base.kept in omega arith

swept_bases : (old new : Shown) (touched : List (List ℕ)) (active : List Transaction) (low : ℕ) → Swept old new low → AllByRecursion (λ (t : Transaction). low ≤ t.base) active → AllByRecursion (IsActive old touched) active → AllByRecursion (λ (t : Transaction). IsSnapshot new t.base) active
swept_bases old new touched [] low swept below all = tt
swept_bases old new touched (t ∷ ts) low swept below all = (record { kept = omega (arith, swept.moved, below.0); known = omega (arith, swept.newest, all.0.base.known) }, swept_bases old new touched ts low swept below.1 all.1)

tied_swept_to : (old new : Shown) (schema : Schema) (txns : Transactions) → Swept old new (horizon txns.active old.newest) → IsTied old schema txns → IsTied new schema txns
tied_swept_to old new schema txns swept tied =
    let low = horizon txns.active old.newest in
    let last = horizon_last txns.active old.newest in
    let kept = horizon_kept old txns.touched txns.active tied.standing tied.active in
    record {
      count = swept.tables ∙ tied.count;
      indexes = tied.indexes;
      indexed = swept.indexes ∙ tied.indexed;
      each = λ i h. index_stays old new schema.indexes i (omega (arith, tied.indexed, h)) swept.stays (tied.each i h);
      over = tied.over;
      columns = λ i h. swept.stays.columns i (omega (arith, tied.count, h)) ∙ tied.columns i h;
      standing = omega (arith, swept.moved, swept.newest, last);
      given = λ i snap can.
          let was : CanRead old i snap = record { there = omega (arith, swept.tables, can.there); snapshot = record { kept = omega (arith, swept.moved, can.snapshot.kept, kept); known = omega (arith, swept.newest, can.snapshot.known) } } in
          rw (swept.stays.rows i snap was can.snapshot) (tied.given i snap was);
      few = tied.few;
      active = actives_stay old new txns.touched txns.active (omega (arith, swept.tables)) swept.stays (swept_bases old new txns.touched txns.active low swept (horizon_low txns.active old.newest) tied.active) tied.active;
    }

pub tied_swept : (old new : Shown) (schema : Schema) (txns : Transactions) (newest low : ℕ) → newest ≡ old.newest → low ≡ horizon txns.active newest → Swept old new low → IsTied old schema txns → IsTied new schema txns
tied_swept old new schema txns newest low is at swept tied = tied_swept_to old new schema txns (subst (λ (h : ℕ). Swept old new h) (at ∙ ap (λ (n : ℕ). horizon txns.active n) is) swept) tied
