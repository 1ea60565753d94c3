use Rattle.rv_retrieval.proofs.Worked.{worked_done, worked_keys, worked_less, worked_lists, worked_scans, worked_spends}
use Rattle.rv_retrieval.proofs.Wholes.{worked_first, worked_stays}
use Rattle.rv_retrieval.proofs.retrieval.Retrieval.scan_piece.Goals as goal

pub returns-clause-scans : goal.returns-clause-scans
returns-clause-scans g c = worked_scans c.step_joint.result (g.R.Reader.shown c.args.reader.now) c.args.self.now.joint c.step_joint.new.self.joint c.step_joint.ensures.works c.step_joint.ensures.none c.step_joint.ensures.err

pub returns-clause-done : goal.returns-clause-done
returns-clause-done g c = worked_done c.step_joint.result c.args.self.now.joint c.step_joint.new.self.joint c.step_joint.ensures.none

pub returns-clause-lists : goal.returns-clause-lists
returns-clause-lists g c = worked_lists c.step_joint.result (g.R.Reader.shown c.args.reader.now) c.args.self.now.joint c.step_joint.new.self.joint c.step_joint.ensures.works c.step_joint.ensures.none c.step_joint.ensures.err

pub returns-clause-spends : goal.returns-clause-spends
returns-clause-spends g c = worked_spends c.step_joint.result (g.R.Reader.shown c.args.reader.now) c.args.self.now.joint c.step_joint.new.self.joint c.args.steps.now c.step_joint.new.steps c.step_joint.ensures.reads c.step_joint.ensures.works c.step_joint.ensures.none

pub returns-clause-less : goal.returns-clause-less
returns-clause-less g c = worked_less c.step_joint.result (g.R.Reader.shown c.args.reader.now) c.args.self.now.joint c.step_joint.new.self.joint c.args.steps.now c.step_joint.new.steps c.step_joint.ensures.reads c.step_joint.ensures.works c.step_joint.ensures.none c.step_joint.ensures.err

pub returns-clause-keys : goal.returns-clause-keys
returns-clause-keys g c = worked_keys c.step_joint.result (g.R.Reader.shown c.args.reader.now) c.args.self.now.joint c.step_joint.new.self.joint c.step_joint.ensures.works c.step_joint.ensures.none c.step_joint.ensures.err

pub returns-clause-first : goal.returns-clause-first
returns-clause-first g c none = worked_first c.step_joint.result (g.R.Reader.shown c.args.reader.now) c.args.self.now.joint c.step_joint.new.self.joint c.step_joint.ensures.works c.step_joint.ensures.none c.step_joint.ensures.err none

pub returns-clause-stays : goal.returns-clause-stays
returns-clause-stays g c idle = worked_stays c.step_joint.result (g.R.Reader.shown c.args.reader.now) c.args.self.now.joint c.step_joint.new.self.joint c.step_joint.ensures.works c.step_joint.ensures.none c.step_joint.ensures.err idle
