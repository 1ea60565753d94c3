use Rattle.std.proofs.Common.{◌∙◌, ◌<◌, ap, sym, subst, arith, length, max}
use Rattle.std.proofs.lemmas.List.{get_or_default}
use Rattle.rv_records.specs.Pages.{IsBelow, IsSame}
use Rattle.rv_store.specs.declared.tables.Table.{Table}
use Rattle.rv_store.specs.Tables.{no_table}
use Rattle.rv_store.proofs.Turning.{page_purged, set_from}
use Rattle.rv_store.proofs.places.purge_page.Goals as goal

pub returns-clause-same : goal.returns-clause-same
returns-clause-same c =
    let items = c.args.tables.now.items in
    let t = c.args.table in
    let there : t < length items = omega (arith, c.len.ensures) in
    let was = c.index_mut.ensures.value ∙ get_or_default items t c.index_mut.result.now no_table there in
    let horizon = c.purge.ensures.horizon ∙ ap (λ (x : Table). max x.records.horizon c.args.horizon) was in
    set_from c.args.horizon t items _ there (ap (λ (x : Table). x.width) was) (omega (arith, horizon))
    (λ snap h. subst (λ (x : Table). IsSame x.records snap c.purge.new.self snap) was (c.purge.ensures.same snap h))
    (λ high b. c.purge.ensures.below high (subst (λ (x : Table). IsBelow high x.records) (sym was) b))

pub returns-clause-purged : goal.returns-clause-purged
returns-clause-purged c =
    let items = c.args.tables.now.items in
    let there : c.args.table < length items = omega (arith, c.len.ensures) in
    page_purged c.args.horizon c.args.table c.args.n items _ there c.purge.ensures.one
