use Rattle.std.proofs.Common.{◌∙◌, ◌≡◌, ◌∷◌, ◌++◌, ◌+◌, [], take, sym, ap, subst, List}
use Rattle.std.proofs.lemmas.List.{take_more}
use Rattle.rv_rows.specs.declared.changes.Change.{Change}
use Rattle.rv_store.specs.Tables.{AreChanged}
use Rattle.rv_store.proofs.Tabling.{same_below_trans, changed_more}
use Rattle.rv_store.proofs.tables.put_changes.Goals as goal

pub returns-in_err-put_change-clause-same : goal.returns-in_err-put_change-clause-same
returns-in_err-put_change-clause-same c = same_below_trans c.args.commit c.args.tables.now.items c.changes.tables.items c.put_change.new.tables.items c.changes.invariant.same c.put_change.ensures.same

pub changes-preserved : goal.changes-preserved
changes-preserved c =
    let i = c.changes.change-index in
    let all = c.args.changes.now in
    let item = c.change-item.result in
    let next : take (i + 1) all ≡ take i all ++ item ∷ [] = take_more all i item c.changes-test.true ∙ ap (λ (x : Change). take i all ++ x ∷ []) (sym c.change-item.is) in
    record {
      same = same_below_trans c.args.commit c.args.tables.now.items c.changes.tables.items c.put_change.new.tables.items c.changes.invariant.same c.put_change.ensures.same;
      open_ = c.put_change.ensures.open;
      changed = subst (λ (cs : List Change). AreChanged c.args.commit cs c.args.tables.now.items c.put_change.new.tables.items) (sym next)
          (changed_more c.args.commit (take i all) item c.args.tables.now.items c.changes.tables.items c.put_change.new.tables.items c.changes.invariant.changed c.in_ok-put_change.ensures.changed);
    }
