use Rattle.std.proofs.Common.{◌≡◌, ◌+◌, ◌++◌, ◌∷◌, ◌∙◌, [], List, drop, ap, arith, sym, append_assoc}
use Rattle.std.specs.List.{slice_index_or}
use Rattle.std.proofs.lemmas.List.{drop_more}
use Rattle.rv_value.specs.declared.record.Record.{Record}
use Rattle.rv_value.specs.declared.record.RowNo.{RowNo}
use Rattle.rv_search.specs.Searching.{rows_of}
use Rattle.rv_search.proofs.Fetching.{rows_next}
use Rattle.rv_search.proofs.Gathering.{fetched_most, fetched_next, fetched_none}
use Rattle.rv_search.proofs.search.rows_of.Goals as goal

pub numbers-preserved : goal.numbers-preserved
numbers-preserved g c =
    let all = (g.R.Reader.shown c.args.reader.now).rows c.args.table c.args.snap in
    let ns = c.args.found.now in
    let before = c.numbers.rows.items in
    let none : RowNo = record { 0 = 0 } in
    let item = slice_index_or ns c.numbers.number-index none in
    let behind = drop (c.numbers.number-index + 1) ns in
    let split : drop c.numbers.number-index ns ≡ item ∷ behind = drop_more ns c.numbers.number-index none c.numbers-test.true in
    record {
      rows =
          ap (λ (rs : List Record). rs ++ rows_of all behind) c.in_ok-add_row.ensures.rows
          ∙ append_assoc before (rows_of all (item ∷ [])) (rows_of all behind)
          ∙ ap (λ (rs : List Record). before ++ rs) (sym (rows_next all item behind))
          ∙ ap (λ (xs : List RowNo). before ++ rows_of all xs) (sym split)
          ∙ c.numbers.invariant.rows;
      only = fetched_next c.numbers.number-index c.args.steps.now c.numbers.steps c.add_row.new.steps c.numbers.invariant.only c.add_row.ensures.counted;
    }

pub numbers-init : goal.numbers-init
numbers-init g c = record {
  rows = ap (λ (rs : List Record). rs ++ rows_of ((g.R.Reader.shown c.args.reader.now).rows c.args.table c.args.snap) c.args.found.now) c.new-rows.ensures.items;
  only = fetched_none c.args.steps.now;
}

pub returns-clause-only : goal.returns-clause-only
returns-clause-only g c = fetched_most _ _ _ _ (omega arith) c.numbers.invariant.only

pub returns-in_err-add_row-clause-only : goal.returns-in_err-add_row-clause-only
returns-in_err-add_row-clause-only g c = fetched_most _ _ _ _ (omega arith) (fetched_next c.numbers.number-index c.args.steps.now c.numbers.steps c.add_row.new.steps c.numbers.invariant.only c.add_row.ensures.counted)
