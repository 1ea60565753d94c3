use Rattle.std.proofs.Common.{◌≡◌, ◌++◌, ap, ◌∙◌, arith, ℕ, List}
use Rattle.rv_gen.specs.Workload.{fetches_of}
use Rattle.rv_gen.proofs.Runs.{fetch_added, readers_end}
use Rattle.rv_gen.proofs.workload.add_fetches.Goals as goal

pub readers-preserved : goal.readers-preserved
readers-preserved c = fetch_added c.readers.session c.args.lines.now c.readers.lines c.add.new.lines c.readers.auto.session c.readers.invariant c.in_ok-add.ensures

pub returns : goal.returns
returns c =
    let end : c.readers.session ≡ 6 = omega (arith, c.readers.auto.session-end (omega arith), c.readers-test.false) in
    c.readers.invariant ∙ ap (λ (sessions : List ℕ). c.args.lines.now ++ fetches_of sessions) (readers_end c.readers.session end)
