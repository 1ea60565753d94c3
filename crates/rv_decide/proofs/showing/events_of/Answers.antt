use Rattle.std.proofs.Common.{◌≡◌, ◌∙◌, sym, arith, length}
use Rattle.rv_decide.proofs.Shown.{all_found, from_start, none_found, one_more}
use Rattle.rv_decide.proofs.showing.events_of.Goals as goal

pub shown-init : goal.shown-init
shown-init c = from_start c.args.indexes.now c.args.table c.new-events.result.items c.args.shown.now c.new-events.ensures.items

pub shown-preserved : goal.shown-preserved
shown-preserved c = one_more c.args.indexes.now c.args.table c.args.shown.now c.shown.event-index c.event-item.result c.in-Some.event c.shown.events.items c.push.new.self.items c.shown-test.true c.event-item.is (sym c.event_of.ensures ∙ c.in-Some.is) c.in_ok-push.ensures.items c.shown.invariant

pub returns-in_default-clause-none : goal.returns-in_default-clause-none
returns-in_default-clause-none c = λ none. none_found c.args.indexes.now c.args.table c.args.shown.now c.shown.event-index c.event-item.result c.shown.events.items c.shown-test.true c.event-item.is (sym c.event_of.ensures ∙ c.in_default.is) c.shown.invariant

pub returns-clause-some : goal.returns-clause-some
returns-clause-some c =
    let end : c.shown.event-index ≡ length c.args.shown.now = omega arith in
    all_found c.args.indexes.now c.args.table c.args.shown.now c.shown.events.items c.shown.event-index end c.shown.invariant
