use Rattle.std.proofs.Common.{refl, ◌∙◌}
use Rattle.rv_join.specs.Levels.{first_of}
use Rattle.rv_join.proofs.Beginning.{begins_good, begins_with}
use Rattle.rv_join.proofs.OneItem.{begins_life, opened_rules}
use Rattle.rv_join.proofs.Running.{can_run, offers_are}
use Rattle.rv_join.proofs.plan.Plan.open.Goals as goal

pub open-requires : goal.open-requires
open-requires g c = can_run c.args.select.now c.args.indexes.now (g.R.Reader.shown c.args.reader.now) c.args.snap c.args.cursor c.in_ok-asked.asked c.requires c.in_ok-asked.ensures.asked

pub returns-clause-fits : goal.returns-clause-fits
returns-clause-fits g c = rw (c.new-gathered.ensures, c.in_ok-stage.ensures) (record {
  holds = begins_good c.args.select.now c.args.indexes.now (g.R.Reader.shown c.args.reader.now) c.args.snap c.args.cursor c.in_ok-asked.asked c.in-Ok.stack c.reads_of-reads.result c.requires c.in_ok-asked.ensures.asked c.in-Ok.ensures.starts;
  rules = opened_rules c.in_ok-asked.asked.race (g.R.Reader.shown c.args.reader.now) c.in_ok-asked.asked.cursor 1 (first_of c.in-Ok.stack).here (rw c.in-Ok.ensures.starts.top c.in-Ok.ensures.opened);
  counted = λ one. rw c.first_trace.ensures at c.reads_of-reads.ensures;
})

pub returns-clause-rest : goal.returns-clause-rest
returns-clause-rest g c =
    let select = c.args.select.now in
    let indexes = c.args.indexes.now in
    let shown = g.R.Reader.shown c.args.reader.now in
    begins_with c.in_ok-asked.asked shown select indexes (record { asked = c.in_ok-asked.asked; stack = c.in-Ok.stack; gathered = c.new-gathered.result; stage = c.in_ok-stage.stage; reads = c.reads_of-reads.result }) refl c.new-gathered.ensures c.in_ok-stage.ensures ∙ c.in-Ok.ensures.starts.bag ∙ offers_are select indexes shown c.args.snap c.args.cursor c.in_ok-asked.asked c.requires c.in_ok-asked.ensures.asked

pub returns-clause-life : goal.returns-clause-life
returns-clause-life g c = begins_life c.args.select.now c.args.indexes.now (g.R.Reader.shown c.args.reader.now) c.args.snap c.args.cursor c.in_ok-asked.asked c.in-Ok.stack _ _ c.requires.some c.in_ok-asked.ensures.asked c.in-Ok.ensures.asks c.in-Ok.ensures.row c.in-Ok.ensures.life
