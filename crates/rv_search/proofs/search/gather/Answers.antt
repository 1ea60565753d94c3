use Rattle.std.proofs.Common.{◌∙◌, refl}
use Rattle.rv_value.proofs.Lists.{on_err}
use Rattle.rv_search.proofs.Gathering.{gathers_all, gathers_begun, gathers_on, gathers_reads, gathers_records}
use Rattle.rv_search.proofs.Goings.{goes_none, goes_on, goes_out, some_on}
use Rattle.rv_search.proofs.search.gather.Goals as goal

pub turns-init : goal.turns-init
turns-init g c = record {
  gathers = gathers_begun (g.R.Reader.shown c.args.reader.now) c.args.steps.now c.args.found.now.items c.args.retrieval.now c.requires.fits c.requires.awaiting;
  tells = c.requires.tells;
  goes = goes_none _ _ (g.R.Reader.shown c.args.reader.now) c.args.steps.now c.args.retrieval.now;
  rule = refl;
  unasked = λ settled. refl;
}

pub turns-preserved : goal.turns-preserved
turns-preserved g c =
    let before = c.turns.invariant in
    record {
      gathers = gathers_on (g.R.Reader.shown c.args.reader.now) c.args.steps.now c.turns.steps c.forward.new.steps c.args.found.now.items c.turns.found.items c.forward.new.found.items c.args.retrieval.now c.turns.retrieval c.forward.new.retrieval before.gathers c.in_ok-forward.ensures.gathers;
      tells = c.forward.ensures.tells;
      goes = goes_on _ _ _ _ _ (g.R.Reader.shown c.args.reader.now) c.args.steps.now c.turns.steps c.forward.new.steps c.args.retrieval.now c.turns.retrieval c.forward.new.retrieval before.rule before.goes (rw c.if-branch.false at c.in_ok-forward.ensures.does);
      rule = c.forward.ensures.stays ∙ before.rule;
      unasked = λ settled. (c.forward.ensures.unasked (before.gathers.settled settled) ∙ before.unasked settled);
    }

pub turns-smaller : goal.turns-smaller
turns-smaller g c = c.in_ok-forward.ensures.nearer c.if-branch.false

pub returns-then-branch-clause-found : goal.returns-then-branch-clause-found
returns-then-branch-clause-found g c =
    let shown = g.R.Reader.shown c.args.reader.now in
    gathers_all shown c.args.steps.now c.forward.new.steps c.args.found.now.items c.forward.new.found.items c.args.retrieval.now c.forward.new.retrieval
    (gathers_on shown c.args.steps.now c.turns.steps c.forward.new.steps c.args.found.now.items c.turns.found.items c.forward.new.found.items c.args.retrieval.now c.turns.retrieval c.forward.new.retrieval c.turns.invariant.gathers c.in_ok-forward.ensures.gathers)
    (c.in_ok-forward.ensures.ends c.if-branch.true)

pub returns-then-branch-clause-reads : goal.returns-then-branch-clause-reads
returns-then-branch-clause-reads g c =
    let shown = g.R.Reader.shown c.args.reader.now in
    gathers_reads shown c.args.steps.now c.forward.new.steps c.args.found.now.items c.forward.new.found.items c.args.retrieval.now c.forward.new.retrieval
    (gathers_on shown c.args.steps.now c.turns.steps c.forward.new.steps c.args.found.now.items c.turns.found.items c.forward.new.found.items c.args.retrieval.now c.turns.retrieval c.forward.new.retrieval c.turns.invariant.gathers c.in_ok-forward.ensures.gathers)

pub returns-then-branch-clause-records : goal.returns-then-branch-clause-records
returns-then-branch-clause-records g c = λ settled.
    (let shown = g.R.Reader.shown c.args.reader.now in
    gathers_records shown c.args.steps.now c.forward.new.steps c.args.found.now.items c.forward.new.found.items c.args.retrieval.now c.forward.new.retrieval
    (gathers_on shown c.args.steps.now c.turns.steps c.forward.new.steps c.args.found.now.items c.turns.found.items c.forward.new.found.items c.args.retrieval.now c.turns.retrieval c.forward.new.retrieval c.turns.invariant.gathers c.in_ok-forward.ensures.gathers) settled)

pub returns-then-branch-clause-pages : goal.returns-then-branch-clause-pages
returns-then-branch-clause-pages g c = λ settled. (c.forward.ensures.pages (c.turns.invariant.gathers.settled settled) ∙ c.turns.invariant.gathers.pages settled)

pub returns-then-branch-clause-unasked : goal.returns-then-branch-clause-unasked
returns-then-branch-clause-unasked g c = λ settled. (c.forward.ensures.unasked (c.turns.invariant.gathers.settled settled) ∙ c.turns.invariant.unasked settled)

pub returns-in_err-forward-clause-pages : goal.returns-in_err-forward-clause-pages
returns-in_err-forward-clause-pages g c = λ settled. (c.forward.ensures.pages (c.turns.invariant.gathers.settled settled) ∙ c.turns.invariant.gathers.pages settled)

pub returns-in_err-forward-clause-unasked : goal.returns-in_err-forward-clause-unasked
returns-in_err-forward-clause-unasked g c = λ settled. (c.forward.ensures.unasked (c.turns.invariant.gathers.settled settled) ∙ c.turns.invariant.unasked settled)

pub returns-then-branch-clause-ran : goal.returns-then-branch-clause-ran
returns-then-branch-clause-ran g c = goes_out _ _ _ _ _ (g.R.Reader.shown c.args.reader.now) c.args.steps.now c.turns.steps c.forward.new.steps c.args.retrieval.now c.turns.retrieval c.forward.new.retrieval c.turns.invariant.rule c.turns.invariant.goes (rw c.if-branch.true at c.in_ok-forward.ensures.does)

pub returns-in_err-forward-clause-lost : goal.returns-in_err-forward-clause-lost
returns-in_err-forward-clause-lost g c = on_err _ _ (some_on _ _ _ _ _ (g.R.Reader.shown c.args.reader.now) c.args.steps.now c.turns.steps c.args.retrieval.now c.turns.retrieval c.turns.invariant.rule c.turns.invariant.goes c.in_err-forward.ensures.lost)
