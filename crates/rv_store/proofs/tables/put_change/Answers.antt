use Rattle.std.proofs.Common.{◌∙◌, ◌<◌, ◌+◌, sym, subst, ap, ℕ}
use Rattle.std.proofs.lemmas.List.{get_or_default}
use Rattle.rv_records.specs.Pages.{IsBelow}
use Rattle.rv_store.specs.declared.tables.Table.{Table}
use Rattle.rv_store.specs.Tables.{no_table}
use Rattle.rv_store.proofs.Tabling.{set_open}
use Rattle.rv_store.proofs.tables.put_change.Goals as goal

pub put-requires-clause-newest : goal.put-requires-clause-newest
put-requires-clause-newest c =
    let was = c.index_mut.ensures.value ∙ get_or_default c.args.tables.now.items c.args.change.now.table c.index_mut.result.now no_table c.requires.can.there in
    subst (λ (x : Table). IsBelow (c.args.commit + 1) x.records) (sym was) (c.requires.open.newest c.args.change.now.table)

pub returns-clause-open : goal.returns-clause-open
returns-clause-open c =
    let was = c.index_mut.ensures.value ∙ get_or_default c.args.tables.now.items c.args.change.now.table c.index_mut.result.now no_table c.requires.can.there in
    let horizon = c.put.ensures.horizon ∙ ap (λ (x : Table). x.records.horizon) was in
    set_open c.args.commit c.args.change.now.table c.args.tables.now.items _ c.requires.can.there c.requires.open
    (subst (λ (n : ℕ). n < c.args.commit) (sym horizon) (c.requires.open.later c.args.change.now.table)) c.put.ensures.newest
