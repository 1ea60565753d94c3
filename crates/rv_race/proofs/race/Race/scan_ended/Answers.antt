use Rattle.rv_race.proofs.Lanes.{completes_by}
use Rattle.rv_race.proofs.race.Race.scan_ended.Goals as goal

pub returns : goal.returns
returns c = completes_by c.args.self.now c.complete.new.self c.narrow.new.self c.recount.new.self c.lower_by_list.new.self c.tell_list.new.self c.end.new.self c.complete.ensures.some c.complete.ensures.keys c.narrow.ensures c.recount.ensures c.lower_by_list.ensures c.tell_list.ensures c.end.ensures
