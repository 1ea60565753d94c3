use Rattle.std.proofs.Common.{◌∙◌, ap, sym}
use Rattle.rv_rows.specs.Rising.{put_in}
use Rattle.rv_value.specs.declared.record.IndexEntry.{IndexEntry}
use Rattle.rv_reader.specs.Entries.{comes_before}
use Rattle.rv_model.specs.Rivals.{key_of}
use Rattle.rv_rivals.proofs.Entries.{front_ascends}
use Rattle.rv_rivals.proofs.Equals.{met_is, null_key, null_none, whole_more}
use Rattle.rv_rivals.proofs.equal.meets.Goals as goal

pub returns-then-has_null-clause-met : goal.returns-then-has_null-clause-met
returns-then-has_null-clause-met c rows ascend is =
    let key = c.in_ok-key.ensures ∙ ap (key_of c.args.columns.now) c.as_slice.ensures in
    null_none c.args.columns.now c.args.row.now rows (null_key c.args.columns.now c.args.row.now.values c.in_ok-key.key c.has_null.result key c.has_null.ensures ∙ c.if-has_null.true)

pub returns-then-branch-clause-met : goal.returns-then-branch-clause-met
returns-then-branch-clause-met c rows ascend is =
    let key = c.in_ok-key.ensures ∙ ap (key_of c.args.columns.now) c.as_slice.ensures in
    sym c.if-branch.true ∙ met_is c.args.columns.now c.args.row.now rows c.args.seen.now c.in_ok-key.key c.in_ok-has_entry.field-0 (front_ascends rows c.args.row.now ascend) is key c.in_ok-has_entry.ensures

pub returns-clause-met : goal.returns-clause-met
returns-clause-met c rows ascend is =
    let key = c.in_ok-key.ensures ∙ ap (key_of c.args.columns.now) c.as_slice.ensures in
    sym c.if-branch.false ∙ met_is c.args.columns.now c.args.row.now rows c.args.seen.now c.in_ok-key.key c.in_ok-has_entry.field-0 (front_ascends rows c.args.row.now ascend) is key c.in_ok-has_entry.ensures

pub returns-clause-seen : goal.returns-clause-seen
returns-clause-seen c rows ascend is same =
    let key = c.in_ok-key.ensures ∙ ap (key_of c.args.columns.now) c.as_slice.ensures in
    whole_more c.args.columns.now rows c.args.row.now c.args.seen.now c.put.new.self ascend
    (null_key c.args.columns.now c.args.row.now.values c.in_ok-key.key c.has_null.result key c.has_null.ensures ∙ c.if-has_null.false) is
    (c.in_ok-put.ensures.ok ∙ ap (λ k. (let e : IndexEntry = record { key = k; row = c.args.row.now.row } in put_in comes_before e c.args.seen.now)) key)
