use Rattle.rv_loading.proofs.Laying.{can_scan}
use Rattle.rv_loading.proofs.Reading.{suits_narrow}
use Rattle.rv_loading.proofs.read.estimate_of.Goals as goal

pub estimate-requires-clause-suits : goal.estimate-requires-clause-suits
estimate-requires-clause-suits g c =
    let shown = g.S.Reader.shown c.args.store.now in
    suits_narrow shown c.args.index c.args.snap c.args.range.now c.last-last.ensures.stored (can_scan c.args.layout shown c.args.index c.args.snap c.requires.laid c.requires.there c.requires.kept c.requires.known) c.requires.narrow
