-- A cursor's plan over a snapshot of the store.
use Rattle.std.proofs.Common.{◌≡◌, ℕ, ◌<◌, ◌≤◌, List, [], ◌∷◌, true, Option, Some, None, IfSome, ap, sym, subst, ◌∙◌, arith, length, Result, Ok, Err, IfOk}
use Rattle.std.specs.List.{AllByRecursion, list_all}
use Rattle.std.proofs.lemmas.Bool.{and_parts, ltb-true}
use Rattle.rv_value.proofs.Lists.{all_at}
use Rattle.rv_rows.specs.Rows.{Ascend}
use Rattle.rv_catalog.specs.declared.def.IndexDef.{IndexDef}
use Rattle.rv_catalog.specs.declared.def.Select.{Select}
use Rattle.rv_catalog.specs.Fits.{IsQueryOf, is_column}
use Rattle.rv_catalog.specs.Schema.{Schema}
use Rattle.rv_reader.specs.Shown.{Shown, IsSnapshot, CanRead}
use Rattle.rv_reader.specs.Storing.{IsStored}
use Rattle.rv_model.specs.declared.transactions.Transactions.{Transactions}
use Rattle.rv_model.specs.Offering.{offers_over}
use Rattle.rv_model.specs.Offers.{offers_in_order}
use Rattle.rv_model.specs.Step.{table_of}
use Rattle.rv_overlay.specs.declared.frozen.Frozen.{Frozen}
use Rattle.rv_join.specs.Asking.{CanPlan, IsAsked}
use Rattle.rv_join.specs.Levels.{table_rows}
use Rattle.rv_cursor.specs.declared.cursor.Open.{Open}
use Rattle.rv_cursor.specs.Left.{left, seen_at}
use Rattle.rv_core.specs.Db.{IsTied, IsViewed, seen_of, view_at}
use Rattle.rv_core.proofs.Choosing.{offers_same}
use Rattle.rv_core.proofs.Planning.{can_plan, column_fits}
use Rattle.rv_core.proofs.Viewing.{plan_viewed, seen_view}

pub reads_all : (shown : Shown) (schema : Schema) (txns : Transactions) (snap : ℕ) (tables : List ℕ) → IsTied shown schema txns → list_all (is_column (length schema.tables)) tables ≡ true → IsSnapshot shown snap → AllByRecursion (λ (t : ℕ). CanRead shown t snap) tables
reads_all shown schema txns snap [] tied there base = tt
reads_all shown schema txns snap (t ∷ ts) tied there base =
    let parts = and_parts (is_column (length schema.tables) t) (list_all (is_column (length schema.tables)) ts) there in
    let low : t < length schema.tables = ltb-true t (length schema.tables) parts.0 in
    (record { there = omega (arith, low, tied.count); snapshot = base }, reads_all shown schema txns snap ts tied parts.1 base)

pub plans : (shown : Shown) (schema : Schema) (txns : Transactions) (s : Select) (snap : ℕ) (frozen : Option Frozen) (indexes : List IndexDef) → IsTied shown schema txns → IsStored shown → IsSnapshot shown snap → IsQueryOf schema s → 1 ≤ length s.tables → indexes ≡ schema.indexes → length schema.indexes ≤ 512
    → AllByRecursion (λ (t : ℕ). Ascend (shown.rows t snap)) s.tables → IfSome frozen (IsViewed shown txns.touched snap) → CanPlan s indexes (seen_at shown snap frozen) snap
plans shown schema txns s snap frozen indexes tied stored base query some same numbers ascend viewed =
    let can = can_plan shown schema txns s snap tied stored base query some numbers tied.over (λ p h. all_at (λ (t : ℕ). Ascend (shown.rows t snap)) s.tables p 0 ascend h) in
    subst (λ (ds : List IndexDef). CanPlan s ds (seen_at shown snap frozen) snap) (sym same)
    (plan_viewed shown schema txns s snap frozen tied stored base (λ c used. column_fits shown schema txns s c tied query used) viewed can)

viewed_base : (shown : Shown) (touched : List (List ℕ)) (snap : ℕ) (frozen : Option Frozen) → IfSome frozen (IsViewed shown touched snap) → IfSome frozen (λ (f : Frozen). f.base ≡ snap)
viewed_base shown touched snap None viewed = tt
viewed_base shown touched snap (Some f) viewed = viewed.base

view_seen : (shown : Shown) (snap : ℕ) (frozen : Option Frozen) (tables : List ℕ) → IfSome frozen (λ (f : Frozen). f.base ≡ snap) → AllByRecursion (λ (t : ℕ). CanRead shown t snap) tables → AllByRecursion (λ (t : ℕ). table_rows (seen_at shown snap frozen) snap t ≡ view_at shown snap frozen t) tables
view_seen shown snap frozen [] at can = tt
view_seen shown snap frozen (t ∷ ts) at can = (seen_view shown snap t frozen can.0 at, view_seen shown snap frozen ts at can.1)

-- what is seen of the cursor
pub plans_seen : {E : Type 0} (r : Result Open E) (shown : Shown) (schema : Schema) (txns : Transactions) (s : Select) (snap session number : ℕ) (name : List ℕ) (frozen : Option Frozen) (indexes : List IndexDef) → IsTied shown schema txns → IsQueryOf schema s → 1 ≤ length s.tables → IsSnapshot shown snap
    → IfSome frozen (IsViewed shown txns.touched snap)
    → IfOk r (λ c. left shown c ≡ offers_in_order (offers_over s (table_rows (seen_at shown snap frozen) snap))) → IfOk r (λ c. IsAsked s indexes snap number c.plan.asked) → IfOk r (λ c. c.session ≡ session) → IfOk r (λ c. c.name ≡ name)
    → IfOk r (λ c. seen_of shown c ≡ record { session = session; name = name; table = table_of s; offers = offers_in_order (offers_over s (view_at shown snap frozen)) })
plans_seen (Err e) shown schema txns s snap session number name frozen indexes tied query some base viewed lefts asked sessions names = tt
plans_seen (Ok c) shown schema txns s snap session number name frozen indexes tied query some base viewed lefts asked sessions names =
    let rows = view_seen shown snap frozen s.tables (viewed_base shown txns.touched snap frozen viewed) (reads_all shown schema txns snap s.tables tied query.there base) in
    let same = offers_same s (table_rows (seen_at shown snap frozen) snap) (view_at shown snap frozen) rows in
    let offers = lefts ∙ ap offers_in_order same in
    let item = asked.items 0 (omega (arith, some)) in
    let table = item.table in
    cc
