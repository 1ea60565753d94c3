use Rattle.std.proofs.Common.{◌≡◌, ◌∙◌, ◌<◌, ℕ, ap, arith, length, slice_set, subst, sym}
use Rattle.std.proofs.lemmas.List.{get_or_default}
use Rattle.rv_store.specs.Places.{page_places, AreListed}
use Rattle.rv_store.specs.Tables.{no_table, table_at}
use Rattle.rv_store.proofs.Placing.{listed_set, page_count}
use Rattle.rv_store.proofs.places.count_pages.Goals as goal

pub returns : goal.returns
returns c =
    let items = c.args.tables.now in
    let counts = c.args.pages.now.items in
    let at = c.args.table in
    let there : at < length items = (let low = c.if-table-tables.false in omega (arith, low)) in
    let fits : at < length counts = (let low = c.if-table-len.false in let count = c.len.ensures in omega (arith, low, count)) in
    let was = get_or_default items at c.index-tables-table.result no_table there in
    let is : c.len-2.result ≡ page_count (table_at items at) = c.len-2.ensures.same ∙ ap page_count was in
    subst (λ n. AreListed page_places (λ (k : ℕ). page_count (table_at items k)) counts (slice_set counts at n)) (sym is) (listed_set page_places (λ (k : ℕ). page_count (table_at items k)) counts at fits)
