use Rattle.std.proofs.Common.{◌≤◌, ◌++◌, ◌∙◌, sym, arith}
use Rattle.rv_loading.proofs.Reading.{all_pages, next_page, no_pages}
use Rattle.rv_loading.proofs.read.rows_of.Goals as goal

pub pages-init : goal.pages-init
pages-init g c = c.new-rows.ensures.items ∙ sym (no_pages ((g.S.Reader.shown c.args.store.now).rows c.args.table c.args.snap))

pub pages-preserved : goal.pages-preserved
pages-preserved g c =
    let rows = (g.S.Reader.shown c.args.store.now).rows c.args.table c.args.snap in
    c.in_ok-append.ensures.items ∙ (λ i. c.pages.invariant i ++ c.in_ok-page.ensures.rows i) ∙ next_page c.pages.n rows c.sizes-sizes.ensures.table.ascend

pub returns : goal.returns
returns g c =
    let shown = g.S.Reader.shown c.args.store.now in
    let past : shown.pages c.args.table c.args.snap ≤ c.pages.n = (let here = c.sizes-sizes.ensures.pages in let end = c.pages-test.false in let last = c.pages.auto.n-end in omega arith) in
    c.pages.invariant ∙ all_pages (shown.pages c.args.table c.args.snap) c.pages.n (shown.rows c.args.table c.args.snap) past c.sizes-sizes.ensures.table.within
