use Rattle.rv_scan.specs.Due.{skipped}
use Rattle.rv_scan.specs.Fronts.{walk_of}
use Rattle.rv_scan.proofs.Telling.{told_fetches}
use Rattle.rv_scan.proofs.front.Front.step.Goals as goal

pub returns-then-self-clause-fetches : goal.returns-then-self-clause-fetches
returns-then-self-clause-fetches g c = told_fetches c.tell.result (skipped c.args.skip.now) c.args.only.now ((g.R.Reader.shown c.args.reader.now).rows c.args.self.now.fetching.table (walk_of c.args.self.now).snap) c.args.steps.now c.tell.new.steps c.tell.ensures.reads
