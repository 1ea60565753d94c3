use Rattle.std.proofs.Common.{refl}
use Rattle.rv_view.proofs.Sights.{reads_over, scans_over}
use Rattle.try_stores.proofs.Laying.{reads, scans}
use Rattle.try_stores.proofs.views.reading.tell_seen.Goals as goal

pub tell_reader-requires-clause-read : goal.tell_reader-requires-clause-read
tell_reader-requires-clause-read g c = reads_over (g.S.Reader.shown c.args.store.now) c.args.view.now 0 1 (reads (g.S.Reader.shown c.args.store.now) c.args.indexes.now 0 c.requires.stands refl)

pub tell_reader-requires-clause-scan : goal.tell_reader-requires-clause-scan
tell_reader-requires-clause-scan g c = scans_over (g.S.Reader.shown c.args.store.now) c.args.view.now 0 1 (scans (g.S.Reader.shown c.args.store.now) c.args.indexes.now c.requires.stands)
