use Rattle.std.proofs.Common.{◌≡◌, ◌+◌, ◌≤◌, None, length}
use Rattle.rv_judge.specs.Counting.{reads}
use Rattle.rv_retrieval.specs.Effort.{back_work}
use Rattle.rv_retrieval.specs.Short.{OnlyLeaves, keys_most}
use Rattle.rv_jscan.specs.Joint.{CanTake, JointFits, leaves_ahead}
use Rattle.rv_retrieval.specs.Opened.{OnlyLists, SameScans, ScansFirst}
use Rattle.rv_retrieval.proofs.retrieval.Retrieval.scan_all.Given as goal

abbrev pub invariant-pieces : goal.invariant-pieces
invariant-pieces g l = record {
  same : l.self ≡ record l.initial.self { joint = l.self.joint };
  scans : SameScans l.initial.self.joint l.self.joint;
  can : CanTake l.self.joint (g.R.Reader.shown l.reader);
  fits : JointFits l.self.joint (g.R.Reader.shown l.reader);
  lists : OnlyLists l.initial.self.joint l.self.joint;
  first : length l.initial.self.joint.plans ≤ 1 → l.initial.self.joint.list ≡ None → ScansFirst (g.R.Reader.shown l.reader) l.initial.self.joint l.self.joint;
  spends : reads l.steps + back_work l.self.joint 0 (g.R.Reader.shown l.reader) ≤ reads l.initial.steps + back_work l.initial.self.joint 0 (g.R.Reader.shown l.reader);
  keys : keys_most l.self.joint (g.R.Reader.shown l.reader) ≤ keys_most l.initial.self.joint (g.R.Reader.shown l.reader);
  leaves : OnlyLeaves l.initial.steps l.steps;
  less : back_work l.self.joint 0 (g.R.Reader.shown l.reader) ≤ back_work l.initial.self.joint 0 (g.R.Reader.shown l.reader);
}

abbrev pub decreases-pieces : goal.decreases-pieces
decreases-pieces g l = leaves_ahead l.self.joint (g.R.Reader.shown l.reader)
