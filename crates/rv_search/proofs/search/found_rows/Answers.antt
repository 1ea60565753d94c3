use Rattle.std.proofs.Common.{◌∙◌, ◌+◌, ◌≤◌, ℕ, List, ap, arith, inr, length, subst, sym}
use Rattle.std.proofs.lemmas.List.{length-map}
use Rattle.rv_value.proofs.Lists.{on_err}
use Rattle.rv_value.specs.declared.record.Record.{Record}
use Rattle.rv_value.specs.declared.record.RowNo.{RowNo}
use Rattle.rv_judge.specs.Counting.{reads}
use Rattle.rv_restrict.specs.Truth.{qualifies}
use Rattle.rv_final.specs.Rest.{qualifying}
use Rattle.rv_retrieval.specs.Effort.{life_of}
use Rattle.rv_search.specs.Searching.{OnlyRecords, rows_of, search_of}
use Rattle.rv_search.proofs.Goings.{ran_of}
use Rattle.rv_search.proofs.Fetching.{found_again}
use Rattle.rv_search.proofs.Gathering.{reads_and}
use Rattle.rv_search.proofs.search.found_rows.Goals as goal

pub returns-clause-rows : goal.returns-clause-rows
returns-clause-rows g c =
    let rows = (g.R.Reader.shown c.args.reader.now).rows c.args.table c.args.snap in
    c.in_ok-rows.ensures.rows ∙ ap (rows_of rows) (c.as_slice.ensures.value ∙ c.in_ok-found.ensures.found) ∙ found_again (λ (r : Record). qualifies c.args.only.now r.values) rows c.requires.can.ascend

pub returns-clause-pages : goal.returns-clause-pages
returns-clause-pages g c = λ short. (c.rows_of.ensures.only.pages ∙ c.in_ok-found.ensures.pages short)

pub returns-clause-reads : goal.returns-clause-reads
returns-clause-reads g c =
    let shown = g.R.Reader.shown c.args.reader.now in
    let life = life_of (search_of c.args.table c.args.snap c.args.only.now c.args.indexes) shown in
    let due = qualifying c.args.only.now (shown.rows c.args.table c.args.snap) in
    let owed = ap (λ (ns : List RowNo). length ns) (c.as_slice.ensures.value ∙ c.in_ok-found.ensures.found) ∙ length-map due (λ (r : Record). r.row) in
    let given = ap (λ (rs : List Record). length rs) (returns-clause-rows g c) in
    subst (λ (n : ℕ). reads c.rows_of.new.steps ≤ reads c.args.steps.now + life + n) (owed ∙ sym given)
    (reads_and c.args.steps.now c.find.new.steps c.rows_of.new.steps life (length c.as_slice.result.now) c.in_ok-found.ensures.reads c.rows_of.ensures.only)

pub returns-clause-records : goal.returns-clause-records
returns-clause-records g c = λ short.
    (let few = c.in_ok-found.ensures.few short in
    let searched = c.in_ok-found.ensures.records short in
    let fetched = c.rows_of.ensures.only.records in
    let long = ap (λ (ns : List RowNo). length ns) c.as_slice.ensures.value in
    omega (arith, few, searched, fetched, long))

pub returns-clause-ran : goal.returns-clause-ran
returns-clause-ran g c =
    let due = qualifying c.args.only.now ((g.R.Reader.shown c.args.reader.now).rows c.args.table c.args.snap) in
    let owed = ap (λ (ns : List RowNo). length ns) (c.as_slice.ensures.value ∙ c.in_ok-found.ensures.found) ∙ length-map due (λ (r : Record). r.row) in
    let given = ap (λ (rs : List Record). length rs) (returns-clause-rows g c) in
    record {
      counts = c.find.new.steps;
      ran = c.in_ok-found.ensures.ran;
      fetched = subst (λ (n : ℕ). OnlyRecords n c.find.new.steps c.rows_of.new.steps) (owed ∙ sym given) c.rows_of.ensures.only;
    }

pub returns-in_err-rows-clause-lost : goal.returns-in_err-rows-clause-lost
returns-in_err-rows-clause-lost g c = on_err _ _ (inr (ran_of _ _ _ (g.R.Reader.shown c.args.reader.now) c.args.steps.now c.find.new.steps (search_of c.args.table c.args.snap c.args.only.now c.args.indexes) c.in_ok-found.ensures.ran))
