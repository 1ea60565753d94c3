use Rattle.std.proofs.Common.{◌∙◌, List, subst}
use Rattle.rv_value.specs.declared.record.IndexEntry.{IndexEntry}
use Rattle.rv_reader.specs.Shown.{IsEstimate, IsIndex}
use Rattle.rv_view.specs.Alone.{alone}
use Rattle.rv_view.specs.Sights.{laid_over}
use Rattle.rv_cursor.proofs.Seeing.{plain_cuts, plain_entries, plain_estimate, plain_scans, plain_suits}
use Rattle.rv_cursor.proofs.sight.SightReader.estimate.Goals as goal

pub estimate-requires-clause-can : goal.estimate-requires-clause-can
estimate-requires-clause-can g c = plain_scans (g.R.Reader.shown c.args.self.now.at.reader.now) c.args.self.now.at.snap c.args.self.now.view.now c.args.index c.args.snap c.in-None.is c.requires.can

pub estimate-requires-clause-suits : goal.estimate-requires-clause-suits
estimate-requires-clause-suits g c = plain_suits (g.R.Reader.shown c.args.self.now.at.reader.now) c.args.self.now.at.snap c.args.self.now.view.now c.args.index c.args.snap c.args.range.now c.in-None.is c.requires.can c.requires.suits

pub returns-in-None-clause-shown : goal.returns-in-None-clause-shown
returns-in-None-clause-shown g c = c.estimate.ensures.shown ∙ plain_estimate (g.R.Reader.shown c.args.self.now.at.reader.now) c.args.self.now.at.snap c.args.self.now.view.now c.args.index c.args.snap c.args.range.now c.in-None.is c.requires.can

pub returns-in-None-clause-exact : goal.returns-in-None-clause-exact
returns-in-None-clause-exact g c = subst (λ (entries : List IndexEntry). IsEstimate entries c.args.range.now c.estimate.result) (plain_entries (g.R.Reader.shown c.args.self.now.at.reader.now) c.args.self.now.at.snap c.args.self.now.view.now c.args.index c.args.snap c.in-None.is c.requires.can) c.estimate.ensures.exact

pub returns-in-None-clause-index : goal.returns-in-None-clause-index
returns-in-None-clause-index g c =
    let shown = g.R.Reader.shown c.args.self.now.at.reader.now in
    let laid = laid_over (alone (g.R.Reader.shown c.args.self.now.at.reader.now) c.args.self.now.at.snap) c.args.self.now.view.now in
    let entries = subst (λ (entries : List IndexEntry). IsIndex entries (shown.cuts c.args.index c.args.snap)) (plain_entries (g.R.Reader.shown c.args.self.now.at.reader.now) c.args.self.now.at.snap c.args.self.now.view.now c.args.index c.args.snap c.in-None.is c.requires.can) c.estimate.ensures.index in
    subst (λ (cuts : List IndexEntry). IsIndex (laid.entries c.args.index c.args.snap) cuts) (plain_cuts (g.R.Reader.shown c.args.self.now.at.reader.now) c.args.self.now.at.snap c.args.self.now.view.now c.args.index c.args.snap c.in-None.is c.requires.can) entries
