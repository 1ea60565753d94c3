use Rattle.try_stores.proofs.Scanning.{stands_scan, stands_suits}
use Rattle.try_stores.proofs.scans.look.look_by_keys.Goals as goal

pub by_keys-requires-clause-scans : goal.by_keys-requires-clause-scans
by_keys-requires-clause-scans g c = stands_scan c.args.loaded.now (g.S.Reader.shown c.args.store.now) c.requires.stands

pub by_keys-requires-clause-suits : goal.by_keys-requires-clause-suits
by_keys-requires-clause-suits g c = stands_suits c.args.loaded.now (g.S.Reader.shown c.args.store.now) c.in_ok-range.range c.requires.stands c.in_ok-range.ensures.short
