use Rattle.rv_store.proofs.Listing.{same_indexes_trans}
use Rattle.rv_store.proofs.whole.commit_whole.Goals as goal

pub returns-then-is_err-clause-indexes : goal.returns-then-is_err-clause-indexes
returns-then-is_err-clause-indexes c = same_indexes_trans c.args.commit c.args.indexes.now.items c.write_changes.new.indexes.items c.take_back.new.indexes.items c.write_changes.ensures.indexes c.take_back.ensures.indexes

pub returns-then-is_err-2-clause-indexes : goal.returns-then-is_err-2-clause-indexes
returns-then-is_err-2-clause-indexes c = same_indexes_trans c.args.commit c.args.indexes.now.items c.write_changes.new.indexes.items c.take_back-then-is_err-2.new.indexes.items c.write_changes.ensures.indexes c.take_back-then-is_err-2.ensures.indexes
