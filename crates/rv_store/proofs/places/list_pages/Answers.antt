use Rattle.std.proofs.Common.{◌≡◌, ◌∙◌, length, ap, subst, inl, inr, arith}
use Rattle.std.proofs.lemmas.Bool.{cases_lt}
use Rattle.std.proofs.lemmas.List.{get_or_default}
use Rattle.std.specs.List.{slice_index_or}
use Rattle.rv_store.specs.Tables.{no_table, table_at}
use Rattle.rv_store.specs.Places.{page_places, HasRange}
use Rattle.rv_store.proofs.Placing.{longer_none, longer_trans, page_count, pages_past, ranges_more}
use Rattle.rv_store.proofs.places.list_pages.Goals as goal

pub tables-init : goal.tables-init
tables-init c = record {
  longer = longer_none c.args.more.now.items;
  has = λ k low. absurd (omega arith);
}

pub returns-in_err-add_pages-clause-longer : goal.returns-in_err-add_pages-clause-longer
returns-in_err-add_pages-clause-longer c = longer_trans c.args.more.now.items c.tables.more.items c.add_pages.new.more.items c.tables.invariant.longer c.add_pages.ensures.longer

pub tables-preserved : goal.tables-preserved
tables-preserved c =
    let items = c.args.tables.now in
    let listed = c.args.listed.now in
    let at = c.tables.at in
    let old = c.tables.more.items in
    let new = c.add_pages.new.more.items in
    let was = get_or_default items at c.index-tables-at.result no_table c.tables-test.true in
    let to : c.len-count.result ≡ page_count (table_at items at) = c.len-count.ensures.same ∙ ap page_count was in
    let counted = subst (λ n. HasRange (page_places at) new c.count_at.result n) to c.in_ok-add_pages.ensures.ok in
    let here = subst (λ n. HasRange (page_places at) new n (page_count (table_at items at))) c.count_at.ensures counted in
    record {
      longer = longer_trans c.args.more.now.items old new c.tables.invariant.longer c.add_pages.ensures.longer;
      has = ranges_more page_places (λ k. slice_index_or listed k 0) (λ k. page_count (table_at items k)) at old new c.add_pages.ensures.longer c.tables.invariant.has here;
    }

pub returns : goal.returns
returns c =
    let items = c.args.tables.now in
    let end = c.tables-test.false in
    record {
      longer = c.tables.invariant.longer;
      ok = λ k. elim (cases_lt k (length items)) [
        | inl l ↦ c.tables.invariant.has k (omega arith)
        | inr past ↦ pages_past items k (slice_index_or c.args.listed.now k 0) c.tables.more.items past
      ];
    }
