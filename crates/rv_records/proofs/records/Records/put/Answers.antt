use Rattle.std.proofs.Common.{◌/◌, List, refl, arith}
use Rattle.rv_value.specs.declared.record.Record.{Record}
use Rattle.rv_reader.specs.declared.reader.Sizes.{Sizes}
use Rattle.rv_records.specs.Pages.{Kept, page_after, sizes_with}
use Rattle.rv_records.proofs.Keeping.{IsReady, by_result, ok_only, put_keeps, back_keeps, put_is, put_older, back_same, back_below}
use Rattle.rv_records.proofs.records.Records.put.Goals as goal

abbrev kept : (c : goal.After-put_row) → Kept
kept c = record { horizon = c.self.inside.horizon; pages = c.self.inside.pages; sizes = c.self.inside.sizes }

abbrev page : (c : goal.After-put_row) → List Record
page c = page_after c.args.row.0 c.args.values c.self.inside.pages c.args.commit

abbrev size : (c : goal.After-put_row) → Sizes
size c = sizes_with c.sizes_without-sizes.result (page c)

ready : (c : goal.After-put_row) → IsReady (kept c) c.args.row.0 (c.args.row.0 / 32) c.args.commit c.args.values (page c) (size c)
ready c =
    let pages = rw (← c.self.view_is) at c.sizes_without-sizes.ensures.pages in
    let rows = rw (← c.self.view_is) at c.sizes_without-sizes.ensures.rows in
    let newest = rw (← c.self.view_is) at c.requires.newest in
    let later = rw (← c.self.view_is) at c.requires.later in
    record {
      own = refl;
      narrow = c.requires.narrow;
      later = later;
      newest = newest;
      page_is = refl;
      pages_is = rw (c.is_some.ensures) at pages;
      rows_is = omega arith;
    }

pub invariant_of-self : goal.invariant_of-self
invariant_of-self c =
    by_result c.put_row.result _ _ _ c.put_row.ensures.ok c.put_row.ensures.err
    (put_keeps _ c.args.row.0 (c.args.row.0 / 32) c.args.commit c.args.values (page c) (size c) c.put_row.new.pages c.put_row.new.sizes c.self.invariant (ready c))
    (back_keeps _ c.args.commit c.put_row.new.pages c.put_row.new.sizes c.self.invariant (ready c).later)

pub returns-clause-ok : goal.returns-clause-ok
returns-clause-ok c =
    rw (← c.self.view_is) (ok_only c.put_row.result _ _ c.put_row.ensures.ok
    (put_is _ c.args.row.0 (c.args.row.0 / 32) c.args.commit c.args.values (page c) (size c) c.put_row.new.pages c.put_row.new.sizes c.self.invariant (ready c)))

pub returns-clause-older : goal.returns-clause-older
returns-clause-older c snap h =
    rw (← c.self.view_is) (by_result c.put_row.result _ _ _ c.put_row.ensures.ok c.put_row.ensures.err
    (λ written. put_older _ (c.args.row.0 / 32) c.args.commit (page c) (size c) c.put_row.new.pages c.put_row.new.sizes written snap h)
    (λ back. back_same _ c.args.commit c.put_row.new.pages c.put_row.new.sizes back snap h))

pub returns-clause-newest : goal.returns-clause-newest
returns-clause-newest c =
    by_result c.put_row.result _ _ _ c.put_row.ensures.ok c.put_row.ensures.err
    (λ written. record { pages = written.newest; sizes = written.newest_sizes })
    (back_below _ c.args.commit c.put_row.new.pages c.put_row.new.sizes)
