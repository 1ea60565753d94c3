use Rattle.std.proofs.Common.{arith}
use Rattle.rv_keyset.proofs.Lists.{last_apart, last_moves, last_poured, last_room}
use Rattle.rv_keyset.proofs.runs.pour_last.Goals as goal

pub pour-requires-clause-room : goal.pour-requires-clause-room
pour-requires-clause-room c =
    let fits = last_room c.pop.new.self.items c.args.lists.now.items c.in-Some.list c.args.put.now c.in-Some.ensures.items c.requires.pours in
    omega arith

pub pour-requires-clause-apart : goal.pour-requires-clause-apart
pour-requires-clause-apart c = last_apart c.pop.new.self.items c.args.lists.now.items c.in-Some.list c.args.put.now c.in-Some.ensures.items c.requires.pours

pub returns-clause-pours : goal.returns-clause-pours
returns-clause-pours c = last_poured c.pop.new.self.items c.args.lists.now.items c.in-Some.list c.args.put.now c.pour.new.put c.in-Some.ensures.items c.pour.ensures.keys c.pour.ensures.room c.pour.ensures.open c.requires.pours

pub returns-clause-keys : goal.returns-clause-keys
returns-clause-keys c = last_moves c.pop.new.self.items c.args.lists.now.items c.in-Some.list c.args.put.now c.pour.new.put c.in-Some.ensures.items c.pour.ensures.keys
