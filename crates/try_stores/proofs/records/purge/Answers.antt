use Rattle.std.proofs.Common.{◌+◌, ◌∙◌, arith}
use Rattle.std.proofs.Math.Nat.{max-eq_right}
use Rattle.try_stores.proofs.records.purge.Goals as goal

pub returns : goal.returns
returns c = record {
  same = c.purge.ensures.horizon ∙ max-eq_right (let test = c.if-horizon-clock.false in let before = c.requires.stands.same in omega (arith, test, before));
  order = let test = c.if-horizon-clock-2.false in omega (arith, test);
  newest = c.purge.ensures.below (c.args.clock.last + 1) c.requires.stands.newest;
}
