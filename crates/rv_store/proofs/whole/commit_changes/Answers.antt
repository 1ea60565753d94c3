use Rattle.std.proofs.Common.{◌∙◌}
use Rattle.rv_store.proofs.whole.commit_changes.Goals as goal

pub note_indexes-requires : goal.note_indexes-requires
note_indexes-requires c = rw c.commit_whole-done.ensures.indexes.count c.requires.few_indexes

pub returns-clause-ok : goal.returns-clause-ok
returns-clause-ok c = rw c.note_indexes.ensures.indexes c.commit_whole-done.ensures.ok

pub returns-clause-err : goal.returns-clause-err
returns-clause-err c = rw c.note_indexes.ensures.indexes c.commit_whole-done.ensures.err

pub returns-clause-listed : goal.returns-clause-listed
returns-clause-listed c = rw (c.note_pages.ensures ∙ c.note_indexes.ensures.places, c.note_indexes.ensures.indexes) c.commit_whole-done.ensures.listed

pub returns-clause-longer : goal.returns-clause-longer
returns-clause-longer c = rw (c.note_pages.ensures ∙ c.note_indexes.ensures.places) c.commit_whole-done.ensures.longer

pub returns-clause-next : goal.returns-clause-next
returns-clause-next c = rw (c.note_pages.ensures ∙ c.note_indexes.ensures.places) c.commit_whole-done.ensures.next

pub returns-clause-indexes : goal.returns-clause-indexes
returns-clause-indexes c = rw c.note_indexes.ensures.indexes c.commit_whole-done.ensures.indexes
