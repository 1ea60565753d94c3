use Rattle.std.proofs.Common.{◌∙◌, ◌<◌, ◌+◌, ℕ, sym, subst, ap, arith, length}
use Rattle.std.proofs.lemmas.List.{get_or_default}
use Rattle.rv_records.specs.Pages.{IsBelow, IsSame}
use Rattle.rv_records.proofs.Keeping.{below_more}
use Rattle.rv_store.specs.declared.tables.Table.{Table}
use Rattle.rv_store.specs.Tables.{no_table, table_at}
use Rattle.rv_store.proofs.Tabling.{set_same, set_open, set_below, same_below_trans, all_below, IsKeptBelow}
use Rattle.rv_store.proofs.tables.abandon_tables.Goals as goal

pub abandon-requires-clause-newest : goal.abandon-requires-clause-newest
abandon-requires-clause-newest c =
    let was = c.index_mut.ensures.value ∙ get_or_default c.tables.tables.items c.tables.table c.index_mut.result.now no_table (omega arith) in
    subst (λ (x : Table). IsBelow (c.args.commit + 1) x.records) (sym was) (c.tables.invariant.open_.newest c.tables.table)

pub tables-preserved : goal.tables-preserved
tables-preserved c =
    let items = c.tables.tables.items in
    let t = c.tables.table in
    let count = c.tables.invariant.same.count in
    let there : t < length items = omega arith in
    let was = c.index_mut.ensures.value ∙ get_or_default items t c.index_mut.result.now no_table there in
    let horizon = c.abandon.ensures.horizon ∙ ap (λ (x : Table). x.records.horizon) was in
    let older : IsKeptBelow c.args.commit (table_at items t).records c.abandon.new.self = record {
      horizon = horizon;
      older = λ snap h. subst (λ (x : Table). IsSame x.records snap c.abandon.new.self snap) was (c.abandon.ensures.older snap h);
    } in
    record {
      same = same_below_trans c.args.commit c.args.tables.now.items items _ c.tables.invariant.same (set_same c.args.commit t items _ there (ap (λ (x : Table). x.width) was) older);
      open_ = set_open c.args.commit t items _ there c.tables.invariant.open_ (subst (λ (n : ℕ). n < c.args.commit) (sym horizon) (c.tables.invariant.open_.later t))
          (below_more c.args.commit (c.args.commit + 1) c.abandon.new.self c.abandon.ensures.below (omega arith));
      below = set_below c.args.commit t items _ there c.tables.invariant.below c.abandon.ensures.below;
    }

pub returns-clause-below : goal.returns-clause-below
returns-clause-below c =
    let count = c.tables.invariant.same.count in
    all_below c.args.commit c.tables.tables.items (λ t h. c.tables.invariant.below t (omega arith))
