use Rattle.try_stores.proofs.Scanning.{stands_columns, stands_read, stands_scan, stands_suits}
use Rattle.try_stores.proofs.scans.look.look_by_fetches.Goals as goal

pub by_fetches-requires-clause-can : goal.by_fetches-requires-clause-can
by_fetches-requires-clause-can g c = stands_read c.args.loaded.now (g.S.Reader.shown c.args.store.now) c.requires.stands

pub by_fetches-requires-clause-scans : goal.by_fetches-requires-clause-scans
by_fetches-requires-clause-scans g c = stands_scan c.args.loaded.now (g.S.Reader.shown c.args.store.now) c.requires.stands

pub by_fetches-requires-clause-suits : goal.by_fetches-requires-clause-suits
by_fetches-requires-clause-suits g c = stands_suits c.args.loaded.now (g.S.Reader.shown c.args.store.now) c.in_ok-range.range c.requires.stands c.in_ok-range.ensures.short

pub by_fetches-requires-clause-columns : goal.by_fetches-requires-clause-columns
by_fetches-requires-clause-columns g c = stands_columns c.args.loaded.now (g.S.Reader.shown c.args.store.now) c.args.only.now c.requires.stands c.requires.over
