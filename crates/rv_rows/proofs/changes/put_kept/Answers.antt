use Rattle.std.proofs.Common.{◌≡◌, ◌∙◌, length, rules, sym}
use Rattle.std.proofs.lemmas.List.{nil_from_length}
use Rattle.rv_value.proofs.Lists.{on_err}
use Rattle.rv_rows.proofs.Forms.{gathered_kept, gathered_same, mapped_is, mapped_kept, mapped_undone, pushed_is, pushed_kept, pushed_undone}
use Rattle.rv_rows.proofs.changes.put_kept.Goals as goal

pub returns-then-goes_behind-clause-kept : goal.returns-then-goes_behind-clause-kept
returns-then-goes_behind-clause-kept c =
    let last = rw c.as_slice.ensures at (c.goes_behind.ensures.last c.if-goes_behind.true) in
    let size : length c.args.mapped.now.entries ≡ 0 = sym c.len.ensures.len ∙ c.goes_behind.ensures.none c.if-goes_behind.true in
    pushed_kept c.args.listed.now c.push.new.self c.args.mapped.now.entries c.args.change c.requires (nil_from_length c.args.mapped.now.entries size) last c.in_ok-push.ensures.ok

pub returns-then-goes_behind-clause-ok : goal.returns-then-goes_behind-clause-ok
returns-then-goes_behind-clause-ok c =
    let last = rw c.as_slice.ensures at (c.goes_behind.ensures.last c.if-goes_behind.true) in
    let size : length c.args.mapped.now.entries ≡ 0 = sym c.len.ensures.len ∙ c.goes_behind.ensures.none c.if-goes_behind.true in
    pushed_is c.args.listed.now c.push.new.self c.args.mapped.now.entries c.args.change c.requires (nil_from_length c.args.mapped.now.entries size) last c.in_ok-push.ensures.ok

pub returns-then-goes_behind-clause-undo : goal.returns-then-goes_behind-clause-undo
returns-then-goes_behind-clause-undo c =
    let last = rw c.as_slice.ensures at (c.goes_behind.ensures.last c.if-goes_behind.true) in
    let size : length c.args.mapped.now.entries ≡ 0 = sym c.len.ensures.len ∙ c.goes_behind.ensures.none c.if-goes_behind.true in
    pushed_undone c.args.listed.now c.push.new.self c.args.mapped.now.entries c.args.change c.requires (nil_from_length c.args.mapped.now.entries size) last c.in_ok-push.ensures.ok

pub returns-in_err-old-clause-kept : goal.returns-in_err-old-clause-kept
returns-in_err-old-clause-kept c =
    let stays : c.insert.new.self.entries ≡ c.gather.new.mapped.entries = search rules in
    rw stays (gathered_kept c.args.listed.now c.args.mapped.now.entries c.gather.new.listed c.gather.new.mapped.entries c.requires c.in_ok-gather.ensures.ok)

pub returns-in_err-old-clause-err : goal.returns-in_err-old-clause-err
returns-in_err-old-clause-err c =
    let stays : c.insert.new.self.entries ≡ c.gather.new.mapped.entries = search rules in
    on_err _ _ (rw (sym stays) at (gathered_same c.args.listed.now c.args.mapped.now.entries c.gather.new.listed c.gather.new.mapped.entries c.in_ok-gather.ensures.ok))

pub returns-clause-kept : goal.returns-clause-kept
returns-clause-kept c = mapped_kept c.args.listed.now c.gather.new.listed c.args.mapped.now.entries c.gather.new.mapped.entries c.insert.new.self.entries (record { table = c.args.change.table; row = c.args.change.row }) c.args.change.values c.requires c.in_ok-gather.ensures.ok c.in_ok-old.ensures.entries

pub returns-clause-ok : goal.returns-clause-ok
returns-clause-ok c = mapped_is c.args.listed.now c.gather.new.listed c.args.mapped.now.entries c.gather.new.mapped.entries c.insert.new.self.entries (record { table = c.args.change.table; row = c.args.change.row }) c.args.change.values c.requires c.in_ok-gather.ensures.ok c.in_ok-old.ensures.entries

pub returns-clause-undo : goal.returns-clause-undo
returns-clause-undo c = mapped_undone c.args.listed.now c.gather.new.listed c.args.mapped.now.entries c.gather.new.mapped.entries c.insert.new.self.entries (record { table = c.args.change.table; row = c.args.change.row }) c.args.change.values c.requires c.in_ok-gather.ensures.ok c.in_ok-old.ensures.entries c.in_ok-old.old c.in_ok-old.ensures.old
