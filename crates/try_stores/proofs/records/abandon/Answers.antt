use Rattle.std.proofs.Common.{◌+◌, ◌∙◌, arith}
use Rattle.rv_records.proofs.Keeping.{below_more}
use Rattle.try_stores.proofs.records.abandon.Goals as goal

pub returns : goal.returns
returns c = record {
  same = c.abandon.ensures.horizon ∙ c.requires.stands.same;
  order = c.requires.stands.order;
  newest = below_more c.args.clock.last (c.args.clock.last + 1) c.abandon.new.self c.abandon.ensures.below (omega arith);
}
