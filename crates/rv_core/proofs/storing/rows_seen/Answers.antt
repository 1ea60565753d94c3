use Rattle.std.proofs.Common.{length}
use Rattle.rv_search.specs.Searching.{search_of}
use Rattle.rv_search.proofs.Goings.{ran_any}
use Rattle.rv_cursor.specs.Left.{seen_at}
use Rattle.rv_core.proofs.storing.rows_seen.Goals as goal

pub returns-clause-ran : goal.returns-clause-ran
returns-clause-ran g c = ran_any c.found_rows.result (λ rows. length rows.items) _ _ _ (seen_at (g.R.Reader.shown c.args.reader.now) c.args.snap c.args.view.now) c.args.steps.now c.found_rows.new.steps (search_of c.args.table c.args.snap c.args.only.now c.args.indexes) c.found_rows.ensures.ran c.found_rows.ensures.lost

pub returns-clause-fetched : goal.returns-clause-fetched
returns-clause-fetched g c = c.found_rows.ensures.ran
