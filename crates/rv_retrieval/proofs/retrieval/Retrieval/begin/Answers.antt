use Rattle.std.proofs.Common.{◌≡◌, ◌∙◌, ap, subst, sym}
use Rattle.rv_judge.specs.declared.events.Trace.{Trace}
use Rattle.rv_judge.specs.Tracing.{NothingCounted, new_trace}
use Rattle.rv_scan.specs.Places.{work as pages_work}
use Rattle.rv_final.specs.Stage.{Unbegun}
use Rattle.rv_retrieval.specs.Opened.{start_told}
use Rattle.rv_retrieval.specs.Shape.{Shape, rest}
use Rattle.rv_retrieval.proofs.Switching.{trace_keeps}
use Rattle.rv_retrieval.proofs.retrieval.Retrieval.begin.Goals as goal

pub returns-clause-begun : goal.returns-clause-begun
returns-clause-begun c =
    let made : Shape = c.renew.new.self in
    let is : c.tell_start.new.self ≡ record made { trace = start_told made } = c.tell_start.ensures in
    let b = c.in_ok-renew.ensures.begun in
    record {
      asked = ap (λ (x : Shape). x.query) is ∙ b.asked;
      chosen = ap (λ (x : Shape). x.strategy) is ∙ b.chosen;
      joint = ap (λ (x : Shape). x.joint) is ∙ b.joint;
      front = ap (λ (x : Shape). x.front) is ∙ b.front;
      fresh = ap (λ (x : Shape). x.delivered) is ∙ b.fresh;
      bound = ap (λ (x : Shape). x.guaranteed) is ∙ b.bound;
      started = ap (λ (x : Shape). x.control) is ∙ b.started;
      counts = subst (λ (x : Shape). NothingCounted x.trace) (sym is) (record { pages = b.counts.pages; leaves = b.counts.leaves; fetches = b.counts.fetches });
      borrowed = ap (λ (x : Shape). x.borrowed) is ∙ b.borrowed;
      unbegun = subst (λ (x : Shape). Unbegun x.at x.last) (sym is) b.unbegun;
    }

pub returns-clause-told : goal.returns-clause-told
returns-clause-told c =
    let made : Shape = c.renew.new.self in
    let is : c.tell_start.new.self ≡ record made { trace = start_told made } = c.tell_start.ensures in
    subst (λ (x : Shape). x.trace ≡ start_told (record x { trace = new_trace c.args.strategy })) (sym is) (ap (λ (t : Trace). start_told (record made { trace = t })) c.in_ok-renew.ensures.told)

pub returns-clause-unborrowed : goal.returns-clause-unborrowed
returns-clause-unborrowed c = ap (λ (x : Shape). x.borrowed) c.tell_start.ensures ∙ c.in_ok-renew.ensures.begun.borrowed

pub returns-clause-last : goal.returns-clause-last
returns-clause-last c rows pages = ap (λ (x : Shape). pages_work x.last rows pages) c.tell_start.ensures ∙ c.in_ok-renew.ensures.last rows pages

pub returns-clause-fits : goal.returns-clause-fits
returns-clause-fits c shown o = (trace_keeps c.renew.new.self c.tell_start.new.self _ c.tell_start.ensures).fits shown (c.in_ok-renew.ensures.fits shown o)

pub returns-clause-rest : goal.returns-clause-rest
returns-clause-rest c shown o = (trace_keeps c.renew.new.self c.tell_start.new.self _ c.tell_start.ensures).rest shown (c.in_ok-renew.ensures.fits shown o) ∙ c.in_ok-renew.ensures.rest shown o
