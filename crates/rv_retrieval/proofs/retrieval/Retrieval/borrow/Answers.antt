use Rattle.std.proofs.Common.{◌+◌, refl}
use Rattle.rv_reader.specs.declared.step.Step.TheVariants.{Row}
use Rattle.rv_retrieval.proofs.Delivering.{borrow_step}
use Rattle.rv_retrieval.proofs.Stepped.{borrowed_none, borrowed_row}
use Rattle.rv_retrieval.proofs.retrieval.Retrieval.borrow.Goals as goal

pub returns-in-Some-clause-step : goal.returns-in-Some-clause-step
returns-in-Some-clause-step g c =
    let shown = g.R.Reader.shown c.args.reader.now in
    let v = c.args.self.now in
    borrow_step v c.pass_borrowed.new.self c.deliver.new.self (v.borrowed + 1) c.args.row.0 shown _ (Row c.in-Some.found) c.requires.control c.requires.strategy c.pass_borrowed.ensures c.deliver.ensures.delivers c.requires.fresh c.requires.fits refl (rw c.in-Some.is at c.in_ok-found.ensures.found)

pub returns-in-Some-clause-does : goal.returns-in-Some-clause-does
returns-in-Some-clause-does g c =
    let shown = g.R.Reader.shown c.args.reader.now in
    borrowed_row c.args.self.now c.pass_borrowed.new.self c.deliver.new.self c.args.row c.in-Some.found shown c.args.steps.now c.examine.new.steps c.pass_borrowed.ensures c.deliver.ensures.fills (rw c.in-Some.is at c.in_ok-found.ensures.found) c.examine.ensures.reads

pub returns-in-None-clause-does : goal.returns-in-None-clause-does
returns-in-None-clause-does g c = borrowed_none c.args.self.now c.pass_borrowed-in-None.new.self c.args.row.0 (g.R.Reader.shown c.args.reader.now) c.args.steps.now c.examine.new.steps c.pass_borrowed-in-None.ensures (rw c.in-None.is at c.in_ok-found.ensures.found) c.examine.ensures.reads
