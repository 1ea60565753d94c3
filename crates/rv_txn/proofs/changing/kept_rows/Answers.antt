use Rattle.std.proofs.Common.{◌+◌, ◌∙◌, ap, arith, filter, refl}
use Rattle.rv_reader.specs.Tables.{page_of}
use Rattle.rv_txn.proofs.Pages.{all_up_to, kept_more, none_up_to, pages_more, pages_none, pages_within}
use Rattle.rv_txn.proofs.Views.{filter_have, keeps, rows_have}
use Rattle.rv_txn.proofs.changing.kept_rows.Goals as goal

pub pages-init : goal.pages-init
pages-init g c = record {
  kept = rw (c.new-kept.ensures.items, none_up_to ((g.S.Reader.shown c.args.store.now).rows c.args.table c.args.snap)) refl;
  few = omega arith;
  only = pages_none c.args.steps.now;
}

pub add_page-requires-clause-columns : goal.add_page-requires-clause-columns
add_page-requires-clause-columns g c =
    let shown = g.S.Reader.shown c.args.store.now in
    let wide = c.last-newest.ensures.stored.wide c.args.table c.args.snap c.requires.can in
    filter_have c.args.only.now _ (shown.rows c.args.table c.args.snap) (rows_have c.args.only.now (shown.columns c.args.table) (shown.rows c.args.table c.args.snap) c.requires.over wide)

pub pages-preserved : goal.pages-preserved
pages-preserved g c =
    let rows = (g.S.Reader.shown c.args.store.now).rows c.args.table c.args.snap in
    let below = c.pages-test.true in
    let pages = c.sizes-sizes.ensures.pages in
    record {
      few = omega (arith, below, pages);
      kept = kept_more (keeps c.args.only.now) c.pages.n rows c.pages.kept.items (page_of rows c.pages.n) c.add_page.new.kept.items c.sizes-sizes.ensures.table.ascend c.pages.invariant.kept refl c.in_ok-add_page.ensures.added;
      only = pages_more c.pages.n c.args.steps.now c.pages.steps c.add_page.new.steps c.pages.invariant.only c.add_page.ensures.counted;
    }

pub returns-in_err-add_page-clause-only : goal.returns-in_err-add_page-clause-only
returns-in_err-add_page-clause-only g c =
    let below = c.pages-test.true in
    let pages = c.sizes-sizes.ensures.pages in
    pages_within (c.pages.n + 1) ((g.S.Reader.shown c.args.store.now).pages c.args.table c.args.snap) c.args.steps.now c.add_page.new.steps (omega (arith, below, pages))
    (pages_more c.pages.n c.args.steps.now c.pages.steps c.add_page.new.steps c.pages.invariant.only c.add_page.ensures.counted)

pub returns-clause-kept : goal.returns-clause-kept
returns-clause-kept g c =
    let rows = (g.S.Reader.shown c.args.store.now).rows c.args.table c.args.snap in
    c.pages.invariant.kept ∙ ap (filter (keeps c.args.only.now)) (all_up_to c.pages.n _ rows (omega (arith, c.sizes-sizes.ensures.pages, c.pages-test.false)) c.sizes-sizes.ensures.table.within)

pub returns-clause-only : goal.returns-clause-only
returns-clause-only g c = pages_within c.pages.n ((g.S.Reader.shown c.args.store.now).pages c.args.table c.args.snap) c.args.steps.now c.pages.steps c.pages.invariant.few c.pages.invariant.only
