use Rattle.try_stores.proofs.Scanning.{stands_columns, stands_read}
use Rattle.try_stores.proofs.scans.look.look_by_pages.Goals as goal

pub by_pages-requires-clause-can : goal.by_pages-requires-clause-can
by_pages-requires-clause-can g c = stands_read c.args.loaded.now (g.S.Reader.shown c.args.store.now) c.requires.stands

pub by_pages-requires-clause-columns : goal.by_pages-requires-clause-columns
by_pages-requires-clause-columns g c = stands_columns c.args.loaded.now (g.S.Reader.shown c.args.store.now) c.args.only.now c.requires.stands c.requires.over
