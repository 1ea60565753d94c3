use Rattle.std.proofs.Common.{refl}
use Rattle.rv_audit.proofs.Placing.{eight_next, stands_first}
use Rattle.rv_audit.proofs.following.first_places.Goals as goal

pub returns-clause-stands : goal.returns-clause-stands
returns-clause-stands c = stands_first c.args.calls.now _ refl (eight_next c.args.calls.now c.next_of.result c.next_of-2.result c.next_of-3.result c.next_of-4.result c.next_of-5.result c.next_of-6.result c.next_of-7.result c.next_of-8.result c.next_of.ensures c.next_of-2.ensures c.next_of-3.ensures c.next_of-4.ensures c.next_of-5.ensures c.next_of-6.ensures c.next_of-7.ensures c.next_of-8.ensures)
