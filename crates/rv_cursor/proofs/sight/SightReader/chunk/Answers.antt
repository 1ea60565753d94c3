use Rattle.std.proofs.Common.{IfOk, List, subst}
use Rattle.std.specs.Option.{option_copied}
use Rattle.rv_value.specs.declared.record.IndexEntry.{IndexEntry}
use Rattle.rv_reader.specs.Leaves.{IsChunk}
use Rattle.rv_view.specs.Alone.{alone}
use Rattle.rv_view.specs.Sights.{laid_over}
use Rattle.rv_cursor.proofs.Seeing.{plain_cuts, plain_entries, plain_scans, plain_suits}
use Rattle.rv_cursor.proofs.sight.SightReader.chunk.Goals as goal

pub chunk-requires-clause-can : goal.chunk-requires-clause-can
chunk-requires-clause-can g c = plain_scans (g.R.Reader.shown c.args.self.now.at.reader.now) c.args.self.now.at.snap c.args.self.now.view.now c.args.index c.args.snap c.in-None.is c.requires.can

pub chunk-requires-clause-suits : goal.chunk-requires-clause-suits
chunk-requires-clause-suits g c = plain_suits (g.R.Reader.shown c.args.self.now.at.reader.now) c.args.self.now.at.snap c.args.self.now.view.now c.args.index c.args.snap c.args.range.now c.in-None.is c.requires.can c.requires.suits

pub returns-in-None-clause-chunk : goal.returns-in-None-clause-chunk
returns-in-None-clause-chunk g c =
    let shown = g.R.Reader.shown c.args.self.now.at.reader.now in
    let laid = laid_over (alone (g.R.Reader.shown c.args.self.now.at.reader.now) c.args.self.now.at.snap) c.args.self.now.view.now in
    let entries = subst (λ (entries : List IndexEntry). IfOk c.chunk.result (IsChunk entries (shown.cuts c.args.index c.args.snap) c.args.range.now (option_copied c.args.from))) (plain_entries (g.R.Reader.shown c.args.self.now.at.reader.now) c.args.self.now.at.snap c.args.self.now.view.now c.args.index c.args.snap c.in-None.is c.requires.can) c.chunk.ensures.chunk in
    subst (λ (cuts : List IndexEntry). IfOk c.chunk.result (IsChunk (laid.entries c.args.index c.args.snap) cuts c.args.range.now (option_copied c.args.from))) (plain_cuts (g.R.Reader.shown c.args.self.now.at.reader.now) c.args.self.now.at.snap c.args.self.now.view.now c.args.index c.args.snap c.in-None.is c.requires.can) entries
