use Rattle.std.proofs.Common.{◌<◌, ℕ, List, length, subst}
use Rattle.rv_records.proofs.Keeping.{ok_only}
use Rattle.rv_store.specs.declared.tables.Table.{Table}
use Rattle.rv_store.specs.Indexes.{index_at, IsThrough}
use Rattle.rv_store.proofs.whole.write_changes.Goals as goal

pub returns-clause-ok : goal.returns-clause-ok
returns-clause-ok c =
    let old = c.args.indexes.now.items in
    let new = c.change_indexes.new.indexes.items in
    let through = subst (λ (ts : List Table). (index : ℕ) → index < length old → IsThrough c.args.commit c.args.changes.now ts (index_at old index) (index_at new index)) c.as_slice.ensures.value c.in_ok-change_indexes.ensures.ok in
    ok_only c.put_changes.result _ _ c.put_changes.ensures.changed
    (λ changed. record { changed = changed; open_ = c.put_changes.ensures.open; through = through; newest = c.change_indexes.ensures.newest })
