use Rattle.std.proofs.Common.{◌≡◌, ◌∙◌, [], inl, inr, ap, map, subst, sym}
use Rattle.std.proofs.lemmas.Bool.{cases_Bool}
use Rattle.rv_model.specs.Rivals.{all_alone, rows_written}
use Rattle.rv_txn.specs.Calls.{IsFault}
use Rattle.std.specs.List.{AllByRecursion}
use Rattle.std.proofs.lemmas.Result.{IfErr-weaker, on_ok_weaker}
use Rattle.rv_rows.specs.declared.changes.Change.{Change}
use Rattle.rv_own.specs.Views.{CanView}
use Rattle.rv_rivals.specs.declared.near.Other.{Other}
use Rattle.rv_rivals.specs.declared.rivals.Unique.{Unique}
use Rattle.rv_rivals.specs.Lookups.{CanTest, IsPlace, entries_written, neighbours_in}
use Rattle.rv_rivals.proofs.Nearing.{all_both, can_test, others_can, own_has}
use Rattle.rv_rivals.proofs.Neighbours.{assembled, none_over, none_unique}
use Rattle.rv_rivals.proofs.rivals.no_rivals.Goals as goal

pub test_rows-tested-requires-clause-others : goal.test_rows-tested-requires-clause-others
test_rows-tested-requires-clause-others g c =
    others_can (g.S.Reader.shown c.args.store.now) c.args.indexes.now c.args.table c.args.own.now.session c.args.txns.now.active (λ (o : Other). o.transaction.now) (λ (o : Other). o.view) c.in_ok-near.near.others.items
    c.requires.active c.in_ok-near.ensures.others c.in_ok-near.ensures.each

pub test_rows-tested-requires-clause-of_table : goal.test_rows-tested-requires-clause-of_table
test_rows-tested-requires-clause-of_table g c = subst (λ n. AllByRecursion (λ (x : Change). x.table ≡ n) c.args.new.now) (sym c.in_ok-near.ensures.table) c.requires.of_table

pub test_rows-tested-requires-clause-entries : goal.test_rows-tested-requires-clause-entries
test_rows-tested-requires-clause-entries g c =
    subst (λ us. AllByRecursion (λ (u : Unique). u.entries ≡ entries_written u.columns.now c.in_ok-near.near.table c.args.new.now) us) (sym c.as_slice.ensures.value)
    (subst (λ n. AllByRecursion (λ (u : Unique). u.entries ≡ entries_written u.columns.now n c.args.new.now) c.in_ok-unique.unique.items) (sym c.in_ok-near.ensures.table) c.in_ok-unique.ensures.entries)

pub test_rows-tested-requires-clause-can : goal.test_rows-tested-requires-clause-can
test_rows-tested-requires-clause-can g c =
    let shown = g.S.Reader.shown c.args.store.now in
    let are = (own_has (λ t. CanView shown c.args.indexes.now t []) c.args.txns.now.active c.args.own.now c.requires.placed c.requires.active).indexed in
    let here = all_both (λ (u : Unique). IsPlace c.args.indexes.now c.args.table u.number u.columns.now) (λ (u : Unique). u.entries ≡ entries_written u.columns.now c.args.table c.args.new.now) (λ (u : Unique). CanTest shown c.args.table u.number u.columns.now c.args.own.now c.in_ok-near.near.view u.entries)
    (λ u place told. can_test shown c.args.indexes.now c.args.table u.number u.columns.now c.args.own.now c.in_ok-near.near.view u.entries c.args.new.now c.requires.stored are place c.requires.read.snapshot c.in_ok-near.ensures.view told)
    c.in_ok-unique.unique.items c.in_ok-unique.ensures.each c.in_ok-unique.ensures.entries in
    subst (λ us. AllByRecursion (λ (u : Unique). CanTest shown c.in_ok-near.near.table u.number u.columns.now c.in_ok-near.near.own.now c.in_ok-near.near.view u.entries) us) (sym c.as_slice.ensures.value)
    (subst (λ n. AllByRecursion (λ (u : Unique). CanTest shown n u.number u.columns.now c.in_ok-near.near.own.now c.in_ok-near.near.view u.entries) c.in_ok-unique.unique.items) (sym c.in_ok-near.ensures.table)
    (subst (λ t. AllByRecursion (λ (u : Unique). CanTest shown c.args.table u.number u.columns.now t c.in_ok-near.near.view u.entries) c.in_ok-unique.unique.items) (sym c.in_ok-near.ensures.own) here))

pub returns-then-not-has_unique-clause-ok : goal.returns-then-not-has_unique-clause-ok
returns-then-not-has_unique-clause-ok g c = elim (cases_Bool c.has_unique.result) [
  | inl t ↦ (let no = rw t at c.if-not-has_unique.true in cc)
  | inr f ↦
      let none = none_over c.args.table c.args.indexes.now (sym c.has_unique.ensures ∙ f) in
      let near = neighbours_in (g.S.Reader.shown c.args.store.now) c.args.txns.now c.args.own.now c.args.table c.args.new.now in
      ap (λ ds. all_alone ds near (rows_written c.args.table c.args.new.now)) none ∙ none_unique near (rows_written c.args.table c.args.new.now)
]

pub returns-clause-ok : goal.returns-clause-ok
returns-clause-ok g c = on_ok_weaker c.test_rows-tested.result (λ k.
    sym (assembled (g.S.Reader.shown c.args.store.now) c.args.txns.now c.args.own.now c.in_ok-near.near.own.now c.args.table c.in_ok-near.near.table c.args.new.now c.args.indexes.now (map (λ (o : Other). o.transaction.now) c.in_ok-near.near.others.items) (map (λ (u : Unique). u.columns.now) c.as_slice.result.now)
    c.in_ok-near.ensures.table c.in_ok-near.ensures.own c.in_ok-near.ensures.others (ap (map (λ (u : Unique). u.columns.now)) c.as_slice.ensures.value ∙ c.in_ok-unique.ensures.columns)) ∙ k) c.test_rows-tested.ensures.ok

pub returns-clause-fault : goal.returns-clause-fault
returns-clause-fault g c = IfErr-weaker c.test_rows-tested.result _ _ (λ fault k. subst (λ due. IsFault due fault)
    (assembled (g.S.Reader.shown c.args.store.now) c.args.txns.now c.args.own.now c.in_ok-near.near.own.now c.args.table c.in_ok-near.near.table c.args.new.now c.args.indexes.now (map (λ (o : Other). o.transaction.now) c.in_ok-near.near.others.items) (map (λ (u : Unique). u.columns.now) c.as_slice.result.now)
    c.in_ok-near.ensures.table c.in_ok-near.ensures.own c.in_ok-near.ensures.others (ap (map (λ (u : Unique). u.columns.now)) c.as_slice.ensures.value ∙ c.in_ok-unique.ensures.columns)) k) c.test_rows-tested.ensures.fault
