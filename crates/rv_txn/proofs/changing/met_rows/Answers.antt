use Rattle.std.proofs.Common.{◌∙◌, sym}
use Rattle.rv_rows.specs.Rows.{comes_below}
use Rattle.rv_rows.proofs.Puts.{rising_filter}
use Rattle.rv_txn.proofs.Views.{changes_have, keeps, kept_applied}
use Rattle.rv_txn.proofs.changing.met_rows.Goals as goal

pub lay_over-requires-clause-ascend : goal.lay_over-requires-clause-ascend
lay_over-requires-clause-ascend g c = rw (c.as_slice.ensures.value ∙ c.in_ok-kept.ensures.kept) (rising_filter comes_below (keeps c.args.only.now) _ c.in_ok-kept.ensures.ascend)

pub lay_over-requires-clause-columns : goal.lay_over-requires-clause-columns
lay_over-requires-clause-columns g c = changes_have c.args.only.now c.args.table ((g.S.Reader.shown c.args.store.now).columns c.args.table) c.args.transaction.now.changes c.requires.over c.requires.wide

pub returns-clause-met : goal.returns-clause-met
returns-clause-met g c =
    let told = rw (c.as_slice.ensures.value ∙ c.in_ok-kept.ensures.kept) at c.in_ok-rows.ensures in
    told ∙ sym (kept_applied c.args.only.now c.args.table c.args.transaction.now.changes ((g.S.Reader.shown c.args.store.now).rows c.args.table c.args.transaction.now.base) c.in_ok-kept.ensures.ascend)
