use Rattle.std.proofs.Common.{◌≡◌, ◌∙◌, List, [], ap, filter, rules}
use Rattle.std.proofs.lemmas.Result.{IfOk-weaker}
use Rattle.rv_value.specs.declared.record.Record.{Record}
use Rattle.rv_restrict.specs.declared.atom.Atom.{Atom}
use Rattle.rv_restrict.specs.Truth.{qualifies}
use Rattle.rv_rows.specs.Rows.{comes_below}
use Rattle.rv_rows.proofs.Puts.{rising_filter}
use Rattle.rv_txn.proofs.Views.{all_kept}
use Rattle.rv_rivals.proofs.Equals.{equal_found, not_unique}
use Rattle.rv_rivals.proofs.equal.first_equal.Goals as goal

pub returns-then-not-def : goal.returns-then-not-def
returns-then-not-def g c = not_unique c.args.def.now _ c.if-not-def.true

pub equal_among-requires-clause-ascend : goal.equal_among-requires-clause-ascend
equal_among-requires-clause-ascend g c = rw (c.as_slice-2.ensures.value ∙ c.in_ok-rows.ensures.kept) (rising_filter comes_below (λ (r : Record). qualifies c.from_groups-all.result r.values) _ c.in_ok-rows.ensures.ascend)

pub returns : goal.returns
returns g c =
    let shown = g.S.Reader.shown c.args.store.now in
    let none : c.from_groups-all.result ≡ [] = search rules in
    let rows = c.as_slice-2.ensures.value ∙ c.in_ok-rows.ensures.kept
    ∙ ap (λ (o : List (List Atom)). filter (λ (r : Record). qualifies o r.values) (shown.rows c.args.def.now.table c.last-last.result)) none
    ∙ all_kept (shown.rows c.args.def.now.table c.last-last.result)
    ∙ ap (shown.rows c.args.def.now.table) c.last-last.ensures.newest in
    IfOk-weaker c.equal_among.result _ _ (λ row k. equal_found c.args.def.now (shown.rows c.args.def.now.table shown.newest) c.as_slice-2.result.now c.as_slice.result.now row c.if-not-def.false c.as_slice.ensures rows k) c.equal_among.ensures
