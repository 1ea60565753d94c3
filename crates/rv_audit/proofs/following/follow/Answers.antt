use Rattle.std.proofs.Common.{sym, ◌∙◌}
use Rattle.std.proofs.lemmas.List.{nil_from_length}
use Rattle.rv_audit.proofs.Answering.{begins, ends_all, ends_stuck, goes_more}
use Rattle.rv_audit.proofs.following.follow.Goals as goal

pub entries-init : goal.entries-init
entries-init c = begins c.args.phases.now c.args.entries.items c.new-followed.result.items c.first_places-places.result c.into_iter-entry-iterator.result.rest.items c.deref.result.now c.new-followed.ensures.items c.into_iter-entry-iterator.ensures.into_iter_gives.0 c.requires.sessions (c.deref.ensures.value ∙ c.in_ok-calls.ensures) c.first_places-places.ensures.stands c.first_places-places.ensures.first

pub entries-preserved : goal.entries-preserved
entries-preserved c = goes_more c.args.phases.now c.args.entries.items c.entries.followed.items _ c.entries.places c.take.new.places c.in-Some.entry c.in_phase.result c.entries.entry-iterator.rest.items _ c.deref-in-entries.result.now c.as_str.result.now c.in-Some-take.phase c.entries.invariant c.in-Some.ensures.steps.0 (c.deref-in-entries.ensures.value ∙ c.in_ok-calls.ensures) c.as_str.ensures.same c.in_phase.ensures.same c.in_phase.ensures.phase c.in-Some-take.ensures c.in_ok-push-in-Some-take.ensures.items

pub returns-in-None-take : goal.returns-in-None-take
returns-in-None-take c =
    let e = ends_stuck c.args.phases.now c.args.entries.items c.entries.followed.items c.entries.places c.take.new.places c.in-Some.entry c.entries.entry-iterator.rest.items _ c.deref-in-entries.result.now c.as_str.result.now c.entries.invariant c.in-Some.ensures.steps.0 (c.deref-in-entries.ensures.value ∙ c.in_ok-calls.ensures) c.as_str.ensures.same c.in-None-take.ensures in
    record { fronts = e.fronts; only = e.only; no_longer = e.no_longer; end = e.end }

pub returns : goal.returns
returns c =
    let e = ends_all c.args.phases.now c.args.entries.items c.entries.followed.items c.entries.places c.entries.entry-iterator.rest.items c.deref-2.result.now c.end_at.result c.entries.invariant (nil_from_length c.entries.entry-iterator.rest.items (sym c.entries.entry-iterator.rest.ok.0 ∙ c.in-None.ensures.steps.0)) (c.deref-2.ensures.value ∙ c.in_ok-calls.ensures) c.end_at.ensures in
    record { fronts = e.fronts; only = e.only; no_longer = e.no_longer; end = e.end }
