use Rattle.std.proofs.Common.{ap, ◌∙◌}
use Rattle.rv_restrict.specs.Ranges.{range_for}
use Rattle.rv_choice.specs.Asked.{with_only}
use Rattle.rv_choice.proofs.Suited.{index_of_any, range_suits}
use Rattle.rv_choice.proofs.choosing.Candidate.renew.Goals as goal

pub estimate-self-requires-clause-suits : goal.estimate-self-requires-clause-suits
estimate-self-requires-clause-suits g c = range_suits (with_only c.args.only.now c.args.query.now) (g.R.Reader.shown c.args.reader.now) c.args.index c.args.columns.now c.in_ok-range.range (index_of_any c.args.query.now (g.R.Reader.shown c.args.reader.now) c.args.index c.args.columns.now c.args.only.now c.requires) (c.in_ok-range.ensures.range ∙ ap (range_for c.args.only.now) c.as_slice.ensures)
