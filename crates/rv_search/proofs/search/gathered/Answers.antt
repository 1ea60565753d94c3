use Rattle.std.proofs.Common.{List, IfOk, ap, inl, refl, subst, sym, ◌∙◌}
use Rattle.std.specs.Prelude.{IsPermutation}
use Rattle.std.proofs.lemmas.Result.{IfOk-weaker, on_ok_weaker}
use Rattle.rv_value.proofs.Lists.{on_err, on_ok}
use Rattle.rv_value.specs.declared.record.RowNo.{RowNo}
use Rattle.rv_judge.specs.Counting.{reads}
use Rattle.rv_retrieval.specs.Effort.{Awaiting, effort, life_of}
use Rattle.rv_retrieval.specs.Runs.{Tells}
use Rattle.rv_retrieval.specs.Shape.{RetrievalFits, Shape, rest}
use Rattle.rv_retrieval.specs.Short.{fetches_left}
use Rattle.rv_search.specs.Searching.{numbers}
use Rattle.rv_search.proofs.Few.{few_found, few_owed}
use Rattle.rv_search.proofs.Gathering.{reads_from, records_from}
use Rattle.rv_search.proofs.Goings.{ran_lost, ran_out}
use Rattle.rv_search.proofs.search.gathered.Goals as goal

pub gathered_of-found-requires-clause-fits : goal.gathered_of-found-requires-clause-fits
gathered_of-found-requires-clause-fits g c = subst (λ (v : Shape). RetrievalFits v (g.R.Reader.shown c.args.reader.now)) (sym c.deref_mut.ensures.value) c.in_ok-retrieval.ensures.fits

pub gathered_of-found-requires-clause-awaiting : goal.gathered_of-found-requires-clause-awaiting
gathered_of-found-requires-clause-awaiting g c = subst Awaiting (sym c.deref_mut.ensures.value) c.in_ok-retrieval.ensures.awaiting

pub gathered_of-found-requires-clause-tells : goal.gathered_of-found-requires-clause-tells
gathered_of-found-requires-clause-tells g c = subst Tells (sym c.deref_mut.ensures.value) c.in_ok-retrieval.ensures.tells

pub returns-clause-found : goal.returns-clause-found
returns-clause-found g c =
    subst (λ (due : List RowNo). IfOk c.gathered_of-found.result (λ found. IsPermutation due found.items)) (ap numbers c.in_ok-retrieval.ensures.rest) (rw c.deref_mut.ensures.value at c.gathered_of-found.ensures.found)

pub returns-clause-reads : goal.returns-clause-reads
returns-clause-reads g c =
    let shown = g.R.Reader.shown c.args.reader.now in
    on_ok_weaker c.gathered_of-found.result (reads_from c.args.steps.now c.open.new.steps c.gathered_of-found.new.steps (effort c.in_ok-retrieval.retrieval.value shown) (life_of c.args.query shown) c.in_ok-retrieval.ensures.life) (rw c.deref_mut.ensures.value at c.gathered_of-found.ensures.reads)

pub returns-clause-pages : goal.returns-clause-pages
returns-clause-pages g c = λ short. on_ok c.gathered_of-found.result _ ((rw c.deref_mut.ensures.value at c.gathered_of-found.ensures.pages) (c.in_ok-retrieval.ensures.short short).0 ∙ c.open.ensures.only.pages)

pub returns-clause-records : goal.returns-clause-records
returns-clause-records g c = λ short.
    (let few = c.in_ok-retrieval.ensures.short short in
    let left = fetches_left c.in_ok-retrieval.retrieval.value (g.R.Reader.shown c.args.reader.now) in
    on_ok_weaker c.gathered_of-found.result (λ spent. records_from c.args.steps.now.records c.open.new.steps.records c.gathered_of-found.new.steps.records left c.open.ensures.only.records spent few.1) ((rw c.deref_mut.ensures.value at c.gathered_of-found.ensures.records) few.0))

pub returns-clause-unasked : goal.returns-clause-unasked
returns-clause-unasked g c = λ short. ((rw c.deref_mut.ensures.value at c.gathered_of-found.ensures.unasked) (c.in_ok-retrieval.ensures.short short).0)

pub returns-clause-few : goal.returns-clause-few
returns-clause-few g c = λ unordered short.
    (let shown = g.R.Reader.shown c.args.reader.now in
    let v = c.in_ok-retrieval.retrieval.value in
    let owed = few_owed c.args.query shown 0 0 v unordered c.in_ok-retrieval.ensures.opened c.in_ok-retrieval.ensures.fits (c.in_ok-retrieval.ensures.short short) in
    IfOk-weaker c.gathered_of-found.result (λ found. IsPermutation (numbers (rest v shown)) found.items) _ (λ found all. few_found (rest v shown) found.items owed all) (rw c.deref_mut.ensures.value at c.gathered_of-found.ensures.found))

pub returns-in_err-retrieval-clause-lost : goal.returns-in_err-retrieval-clause-lost
returns-in_err-retrieval-clause-lost g c = on_err _ _ (inl refl)

pub returns-clause-ran : goal.returns-clause-ran
returns-clause-ran g c = ran_out c.gathered_of-found.result _ _ _ (g.R.Reader.shown c.args.reader.now) c.args.steps.now c.open.new.steps c.gathered_of-found.new.steps c.args.query c.in_ok-retrieval.retrieval.value c.in_ok-retrieval.ensures.opened c.open.ensures.only c.open.ensures.unread c.in_ok-retrieval.ensures.counts (rw c.deref_mut.ensures.value at c.gathered_of-found.ensures.ran)

pub returns-clause-lost : goal.returns-clause-lost
returns-clause-lost g c = ran_lost c.gathered_of-found.result _ _ _ (g.R.Reader.shown c.args.reader.now) c.open.new.steps c.args.query c.in_ok-retrieval.retrieval.value c.in_ok-retrieval.ensures.opened (rw c.deref_mut.ensures.value at c.gathered_of-found.ensures.lost)
