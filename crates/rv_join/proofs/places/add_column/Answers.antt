use Rattle.std.proofs.Common.{rules}
use Rattle.rv_join.proofs.Naming.{adds_new}
use Rattle.rv_join.proofs.places.add_column.Goals as goal

pub returns : goal.returns
returns c = rw c.in_ok-push.ensures.items (adds_new c.args.place c.args.column c.args.need.now.items (search rules))
