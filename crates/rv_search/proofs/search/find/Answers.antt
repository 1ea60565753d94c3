use Rattle.std.proofs.Common.{◌≡◌, ◌+◌, ◌≤◌, ap, arith, inl, inr, refl, rules, subst, sym, true}
use Rattle.std.specs.Prelude.{IsPermutation}
use Rattle.std.proofs.lemmas.List.Sorted.{IsNonDecreasingBy-from_sort_by_key, IsPermutation-trans, length_permutation}
use Rattle.rv_value.proofs.Lists.{on_err}
use Rattle.rv_value.specs.declared.record.Record.{Record}
use Rattle.rv_value.specs.declared.record.RowNo.{RowNo}
use Rattle.rv_judge.specs.Counting.{reads}
use Rattle.rv_restrict.specs.Truth.{qualifies}
use Rattle.rv_rows.specs.Rows.{comes_below}
use Rattle.rv_rows.proofs.Puts.{rising_filter}
use Rattle.rv_choice.specs.declared.query.Query.{Query}
use Rattle.rv_choice.specs.Asked.{CanAsk}
use Rattle.rv_final.specs.Rest.{qualifying}
use Rattle.rv_retrieval.specs.Effort.{life_of}
use Rattle.rv_retrieval.specs.Short.{has_short}
use Rattle.rv_search.specs.Searching.{numbers}
use Rattle.rv_search.proofs.Goings.{lost_for, ran_for, ran_of}
use Rattle.rv_search.proofs.Sorted.{sorted_numbers}
use Rattle.rv_search.proofs.search.find.Goals as goal

pub gathered-requires : goal.gathered-requires
gathered-requires g c = record { can = subst (λ (q : Query). CanAsk q (g.R.Reader.shown c.args.reader.now)) (sym c.in_ok-query.ensures) c.requires.can }

pub returns-clause-found : goal.returns-clause-found
returns-clause-found g c =
    let shown = g.R.Reader.shown c.args.reader.now in
    let rows = shown.rows c.args.table c.args.snap in
    let due = qualifying c.args.only.now rows in
    let found = subst (λ (q : Query). IsPermutation (numbers (qualifying q.only (shown.rows q.table q.snap))) c.in_ok-found.found.items) c.in_ok-query.ensures c.in_ok-found.ensures.found in
    sorted_numbers due _ (rising_filter comes_below (λ (r : Record). qualifies c.args.only.now r.values) rows c.requires.can.ascend)
    (IsPermutation-trans (numbers due) c.in_ok-found.found.items _ found c.sort_by_key.ensures.permutation)
    (IsNonDecreasingBy-from_sort_by_key (λ (x : RowNo). x.0) _ c.in_ok-sort_by_key.ensures.sorted (λ a r q k. search rules))

pub returns-clause-reads : goal.returns-clause-reads
returns-clause-reads g c = subst (λ (q : Query). reads c.gathered.new.steps ≤ reads c.args.steps.now + life_of q (g.R.Reader.shown c.args.reader.now)) c.in_ok-query.ensures c.in_ok-found.ensures.reads

pub returns-clause-pages : goal.returns-clause-pages
returns-clause-pages g c = λ short. (c.in_ok-found.ensures.pages (subst (λ (q : Query). has_short q (g.R.Reader.shown c.args.reader.now) ≡ true) (sym c.in_ok-query.ensures) short))

pub returns-clause-records : goal.returns-clause-records
returns-clause-records g c = λ short. (c.in_ok-found.ensures.records (subst (λ (q : Query). has_short q (g.R.Reader.shown c.args.reader.now) ≡ true) (sym c.in_ok-query.ensures) short))

pub returns-clause-unasked : goal.returns-clause-unasked
returns-clause-unasked g c = λ short. (c.gathered.ensures.unasked (subst (λ (q : Query). has_short q (g.R.Reader.shown c.args.reader.now) ≡ true) (sym c.in_ok-query.ensures) short))

pub returns-in_err-found-clause-unasked : goal.returns-in_err-found-clause-unasked
returns-in_err-found-clause-unasked g c = λ short. (c.gathered.ensures.unasked (subst (λ (q : Query). has_short q (g.R.Reader.shown c.args.reader.now) ≡ true) (sym c.in_ok-query.ensures) short))

pub returns-in_err-sort_by_key-clause-unasked : goal.returns-in_err-sort_by_key-clause-unasked
returns-in_err-sort_by_key-clause-unasked g c = λ short. (c.gathered.ensures.unasked (subst (λ (q : Query). has_short q (g.R.Reader.shown c.args.reader.now) ≡ true) (sym c.in_ok-query.ensures) short))

pub returns-clause-few : goal.returns-clause-few
returns-clause-few g c = λ short.
    (let few = c.in_ok-found.ensures.few (ap (λ (q : Query). q.order) c.in_ok-query.ensures) (subst (λ (q : Query). has_short q (g.R.Reader.shown c.args.reader.now) ≡ true) (sym c.in_ok-query.ensures) short) in
    let same = length_permutation c.in_ok-found.found.items _ c.sort_by_key.ensures.permutation in
    omega (arith, few, same))

pub returns-clause-ran : goal.returns-clause-ran
returns-clause-ran g c = ran_for _ _ _ (g.R.Reader.shown c.args.reader.now) c.args.steps.now c.gathered.new.steps c.in_ok-query.query _ c.in_ok-query.ensures c.in_ok-found.ensures.ran

pub returns-in_err-query-clause-lost : goal.returns-in_err-query-clause-lost
returns-in_err-query-clause-lost g c = on_err _ _ (inl refl)

pub returns-in_err-found-clause-lost : goal.returns-in_err-found-clause-lost
returns-in_err-found-clause-lost g c = on_err _ _ (lost_for _ _ _ (g.R.Reader.shown c.args.reader.now) c.in_ok-query.query _ c.in_ok-query.ensures c.in_err-found.ensures.lost)

pub returns-in_err-sort_by_key-clause-lost : goal.returns-in_err-sort_by_key-clause-lost
returns-in_err-sort_by_key-clause-lost g c = on_err _ _ (inr (ran_of _ _ _ (g.R.Reader.shown c.args.reader.now) c.args.steps.now c.gathered.new.steps _ (ran_for _ _ _ (g.R.Reader.shown c.args.reader.now) c.args.steps.now c.gathered.new.steps c.in_ok-query.query _ c.in_ok-query.ensures c.in_ok-found.ensures.ran)))
