use Rattle.std.proofs.Common.{◌∙◌, ap, subst}
use Rattle.rv_choice.specs.declared.query.Query.{Query}
use Rattle.rv_choice.specs.Choice.{AreScans}
use Rattle.rv_retrieval.specs.Shape.{Shape}
use Rattle.rv_retrieval.proofs.Began.{has_begun}
use Rattle.rv_retrieval.proofs.Chosen.{few_scans}
use Rattle.rv_retrieval.proofs.Lives.{front_there}
use Rattle.rv_retrieval.proofs.retrieval.Retrieval.begin_chosen.Goals as goal

pub guarantee-guaranteed-requires-clause-place : goal.guarantee-guaranteed-requires-clause-place
guarantee-guaranteed-requires-clause-place g c = front_there c.args.self.now.query.order c.args.self.now.query.goal c.args.candidates.now c.args.choice c.requires.choice

pub lead-requires : goal.lead-requires
lead-requires g c = front_there c.args.self.now.query.order c.args.self.now.query.goal c.args.candidates.now c.args.choice c.requires.choice

pub begin-requires : goal.begin-requires
begin-requires g c =
    let are = subst (λ (q : Query). AreScans q.only c.args.candidates.now c.args.choice.background c.in_ok-scans.scans.items) (ap (λ (x : Shape). x.query) c.lead.ensures.same) c.in_ok-scans.ensures.scans in
    few_scans c.args.self.now.query (g.R.Reader.shown c.args.reader.now) c.args.choice.background c.in_ok-scans.scans.items c.args.candidates.now c.requires.candidates c.requires.can are

pub returns : goal.returns
returns g c =
    let planned : Shape = c.scans.new.self in
    let led = ap (λ (x : Shape). x.query) c.lead.ensures.same in
    let are = subst (λ (q : Query). AreScans q.only c.args.candidates.now c.args.choice.background c.in_ok-scans.scans.items) led c.in_ok-scans.ensures.scans in
    let b = c.in_ok-begin.ensures in
    has_begun c.args.self.now.query planned.query (g.R.Reader.shown c.args.reader.now) c.args.choice c.args.candidates.now c.in_ok-scans.scans.items planned.front c.guarantee-guaranteed.result c.args.cursor c.args.opening c.begin.new.self
    (ap (λ (x : Shape). x.query) c.scans.ensures.same ∙ led) (ap (λ (x : Shape). x.front) c.scans.ensures.same ∙ c.in_ok-lead.ensures.front)
    c.requires.candidates c.requires.can c.guarantee-guaranteed.ensures.table c.requires.choice c.requires.right are c.guarantee-guaranteed.ensures.value b.begun b.told b.fits b.rest b.last
