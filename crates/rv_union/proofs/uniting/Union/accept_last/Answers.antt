use Rattle.std.proofs.Common.{◌^◌, ap, length, subst, true}
use Rattle.rv_union.specs.Rulings.{Completes}
use Rattle.rv_union.specs.Unioned.{Unioned}
use Rattle.rv_union.proofs.Lanes.{enough_room, small_room}
use Rattle.rv_union.proofs.uniting.Union.accept_last.Goals as goal

pub member_ended-requires-clause-enough : goal.member_ended-requires-clause-enough
member_ended-requires-clause-enough c = enough_room c.args.self.now c.accept.new.self c.args.sieved.now true _ c.in_ok-room.room.spare c.in_ok-accept.ensures.ok (ap length c.entries.ensures.entries) c.in_ok-room.ensures.enough

pub member_ended-requires-clause-small : goal.member_ended-requires-clause-small
member_ended-requires-clause-small c = small_room c.args.self.now c.accept.new.self c.args.sieved.now true _ (2 ^ 32) c.in_ok-accept.ensures.ok (ap length c.entries.ensures.entries) c.in_ok-room.ensures.small

pub returns-clause-ok : goal.returns-clause-ok
returns-clause-ok c = subst (λ (u : Unioned). Completes u c.member_ended.new.self) c.in_ok-accept.ensures.ok c.member_ended.ensures
