use Rattle.std.proofs.Common.{ap, subst, sym, ◌∙◌}
use Rattle.std.specs.List.Sorted.{IsPermutation}
use Rattle.std.proofs.lemmas.List.Sorted.{IsPermutation-refl}
use Rattle.rv_value.proofs.Lists.{on_err}
use Rattle.rv_join.specs.Plans.{Planned}
use Rattle.rv_join.proofs.OneItem.{all_spends}
use Rattle.rv_join.proofs.Planning.{all_failed, all_step, gather_kept, given_fits, sort_failed, sorted_good}
use Rattle.rv_join.proofs.Going.{asks_then, fetches_if, once_then, spends_then}
use Rattle.rv_join.proofs.plan.Plan.gather_step.Goals as goal

pub returns-in_err-gather-clause-err : goal.returns-in_err-gather-clause-err
returns-in_err-gather-clause-err g c = on_err _ _ (gather_kept (g.R.Reader.shown c.args.reader.now) c.args.self.now c.gather.new.self c.requires.stage c.in_err-gather.ensures.kept (subst (IsPermutation c.args.self.now.gathered) (sym c.in_err-gather.ensures.none) (IsPermutation-refl _)) c.gather.ensures.same)

pub returns-in_ok-sort-clause-holds : goal.returns-in_ok-sort-clause-holds
returns-in_ok-sort-clause-holds g c =
    let shown = g.R.Reader.shown c.args.reader.now in
    let good = sorted_good shown c.args.self.now c.gather.new.self c.sort.new.self c.requires.fits c.requires.stage (rw c.if-branch.true at c.in_ok-gather.ensures.gathers) c.gather.ensures.same c.in_ok-sort.ensures.ok in
    given_fits c.give_next.result shown c.sort.new.self c.give_next.new.self good (ap (λ (p : Planned). p.stage) c.in_ok-sort.ensures.ok.same) c.give_next.ensures.given c.give_next.ensures.err c.give_next.ensures.same

pub returns-in_err-sort-clause-asks : goal.returns-in_err-sort-clause-asks
returns-in_err-sort-clause-asks g c = asks_then _ _ _ _ _ _ c.args.self.now c.gather.new.self c.sort.new.self c.gather.ensures.asks (ap (λ (p : Planned). p.stack) c.in_err-sort.ensures.err)

pub returns-in_ok-sort-clause-asks : goal.returns-in_ok-sort-clause-asks
returns-in_ok-sort-clause-asks g c = asks_then _ _ _ _ _ _ c.args.self.now c.gather.new.self c.give_next.new.self c.gather.ensures.asks (ap (λ (p : Planned). p.stack) c.give_next.ensures.same ∙ ap (λ (p : Planned). p.stack) c.in_ok-sort.ensures.ok.same)

pub returns-in_err-sort-clause-once : goal.returns-in_err-sort-clause-once
returns-in_err-sort-clause-once g c = once_then _ _ _ _ _ _ c.args.self.now c.gather.new.self c.sort.new.self c.gather.ensures.once (ap (λ (p : Planned). p.stack) c.in_err-sort.ensures.err)

pub returns-in_ok-sort-clause-once : goal.returns-in_ok-sort-clause-once
returns-in_ok-sort-clause-once g c = once_then _ _ _ _ _ _ c.args.self.now c.gather.new.self c.give_next.new.self c.gather.ensures.once (ap (λ (p : Planned). p.stack) c.give_next.ensures.same ∙ ap (λ (p : Planned). p.stack) c.in_ok-sort.ensures.ok.same)

pub returns-in_err-sort-clause-err : goal.returns-in_err-sort-clause-err
returns-in_err-sort-clause-err g c = on_err _ _ (sort_failed (g.R.Reader.shown c.args.reader.now) c.args.self.now c.gather.new.self c.sort.new.self c.requires.stage (rw c.if-branch.true at c.in_ok-gather.ensures.gathers) c.gather.ensures.same c.in_err-sort.ensures.same c.in_err-sort.ensures.err)

pub returns-in_ok-sort-clause-err : goal.returns-in_ok-sort-clause-err
returns-in_ok-sort-clause-err g c = all_failed c.give_next.result (g.R.Reader.shown c.args.reader.now) c.args.self.now c.gather.new.self c.sort.new.self c.give_next.new.self c.requires.stage (rw c.if-branch.true at c.in_ok-gather.ensures.gathers) c.gather.ensures.same c.in_ok-sort.ensures.ok c.give_next.ensures.err

pub returns-in_ok-sort-clause-step : goal.returns-in_ok-sort-clause-step
returns-in_ok-sort-clause-step g c = all_step c.give_next.result (g.R.Reader.shown c.args.reader.now) c.args.self.now c.gather.new.self c.sort.new.self c.give_next.new.self c.requires.fits c.requires.stage (rw c.if-branch.true at c.in_ok-gather.ensures.gathers) c.gather.ensures.same c.in_ok-sort.ensures.ok c.give_next.ensures.given c.give_next.ensures.same

pub returns-in_ok-sort-clause-spends : goal.returns-in_ok-sort-clause-spends
returns-in_ok-sort-clause-spends g c = spends_then c.give_next.result (g.R.Reader.shown c.args.reader.now) c.args.steps.now c.gather.new.steps c.args.self.now c.gather.new.self c.give_next.new.self (λ one. all_spends c.give_next.result _ _ _ _ _ _ c.give_next.ensures.given (rw c.if-branch.true at c.in_ok-gather.ensures.spends one)) (ap (λ (p : Planned). p.stack) c.give_next.ensures.same ∙ ap (λ (p : Planned). p.stack) c.in_ok-sort.ensures.ok.same)

pub returns-in_ok-sort-clause-fetches : goal.returns-in_ok-sort-clause-fetches
returns-in_ok-sort-clause-fetches g c = fetches_if c.give_next.result (g.R.Reader.shown c.args.reader.now) c.args.steps.now c.gather.new.steps c.args.self.now c.gather.new.self c.give_next.new.self c.in_ok-gather.ensures.fetches (ap (λ (p : Planned). p.stack) c.give_next.ensures.same ∙ ap (λ (p : Planned). p.stack) c.in_ok-sort.ensures.ok.same)
