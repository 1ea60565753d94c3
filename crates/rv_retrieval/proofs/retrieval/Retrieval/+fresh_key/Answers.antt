use Rattle.std.proofs.Common.{◌∙◌, ap, sym}
use Rattle.rv_jscan.specs.Joint.{under_way}
use Rattle.rv_retrieval.specs.Shape.{Shape}
use Rattle.rv_retrieval.proofs.Stepped.{fresh_on, passes_on}
use Rattle.rv_retrieval.proofs.retrieval.Retrieval.+fresh_key.Goals as goal

pub returns-then-was_delivered-clause-first : goal.returns-then-was_delivered-clause-first
returns-then-was_delivered-clause-first t c way =
    let v = c.args.self.now in
    let mid = c.pass_borrowed.new.self in
    let passed = passes_on v mid c.in-Some.row c.pass_borrowed.ensures (sym c.was_delivered.ensures ∙ c.if-was_delivered.true) (c.in-Some.ensures.next way) in
    fresh_on v mid c.fresh_key.result passed (c.fresh_key.ensures.first (ap (λ (x : Shape). under_way x.joint) c.pass_borrowed.ensures ∙ way))
