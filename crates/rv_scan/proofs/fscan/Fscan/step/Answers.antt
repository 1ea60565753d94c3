use Rattle.std.proofs.Common.{◌≡◌, ◌+◌, ◌∙◌, [], ap, drop, subst, sym}
use Rattle.rv_value.specs.declared.record.IndexEntry.{IndexEntry}
use Rattle.rv_reader.specs.Tables.{row_at}
use Rattle.rv_scan.specs.Alongs.{Along, Fetching, Follows, looked}
use Rattle.rv_scan.specs.Due.{skipped}
use Rattle.rv_scan.proofs.Fetches.{fetched_follows, fetches_none, fetches_row, follows_turned, found_columns, step_fetched, step_turned}
use Rattle.rv_scan.proofs.Fetching.{fetches_fetched, fetches_turned}
use Rattle.rv_scan.proofs.fscan.Fscan.step.Given as given
use Rattle.rv_scan.proofs.fscan.Fscan.step.Goals as goal
use Rattle.rv_scan.proofs.fscan.Fscan.step.Goals.{After-pass}

-- the record that was found is looked at
looks : (g : given.Over) (c : After-pass g) → c.look-scanned.result ≡ looked c.args.only.now (row_at ((g.R.Reader.shown c.args.reader.now).rows c.args.self.now.table c.args.self.now.walk.snap) c.in-Some.row.0)
looks g c =
    let rows = (g.R.Reader.shown c.args.reader.now).rows in
    let found = rw c.snap.ensures at c.in_ok-found-in-Some.ensures.row in
    subst (λ (x : Fetching). c.look-scanned.result ≡ looked c.args.only.now (row_at (rows x.table x.walk.snap) c.in-Some.row.0)) c.self.view_is (c.look-scanned.ensures ∙ ap (looked c.args.only.now) found)

-- and its entry is passed over
passes : (g : given.Over) (c : After-pass g) → c.pass.new.self ≡ record c.args.self.now.walk { held = drop (c.in-Some.passed + 1) c.args.self.now.walk.held }
passes g c = subst (λ (x : Fetching). c.pass.new.self ≡ record x.walk { held = drop (c.in-Some.passed + 1) x.walk.held }) c.self.view_is c.pass.ensures

pub look-scanned-requires : goal.look-scanned-requires
look-scanned-requires g c =
    let columns = rw (← c.self.view_is) at c.requires.columns in
    let have = rw (← c.snap.ensures) at columns in
    rw c.in_ok-found-in-Some.ensures.row (found_columns c.args.only.now _ c.in-Some.row.0 have)

pub returns-in_ok-found-in-Some-clause-follows : goal.returns-in_ok-found-in-Some-clause-follows
returns-in_ok-found-in-Some-clause-follows g c fits =
    let v = c.args.self.now in
    let entries = (g.R.Reader.shown c.args.reader.now).entries v.walk.index v.walk.snap in
    subst (λ (w : Along). Follows w entries) (sym (passes g (goal.at.returns-in_ok-found-in-Some-clause-follows g c).After-pass)) (fetched_follows v.walk c.in-Some.passed entries c.in-Some.ensures.0.0 fits)

pub returns-in_ok-found-in-Some-clause-step : goal.returns-in_ok-found-in-Some-clause-step
returns-in_ok-found-in-Some-clause-step g c =
    let shown = g.R.Reader.shown c.args.reader.now in
    let v = c.args.self.now in
    let any : IndexEntry = record { key = []; row = c.in-Some.row } in
    let at = (goal.at.returns-in_ok-found-in-Some-clause-step g c).After-pass in
    step_fetched c.look-scanned.result c.args.only.now (skipped c.args.skip.now) v.walk c.pass.new.self c.in-Some.passed c.in-Some.row any (shown.entries v.walk.index v.walk.snap) (shown.cuts v.walk.index v.walk.snap) (shown.rows v.table v.walk.snap) c.in-Some.ensures (looks g at) (passes g at)

pub returns-in_ok-found-in-Some-clause-fetches : goal.returns-in_ok-found-in-Some-clause-fetches
returns-in_ok-found-in-Some-clause-fetches g c =
    let v = c.args.self.now in
    let any : IndexEntry = record { key = []; row = c.in-Some.row } in
    fetches_row c.look-scanned.result (skipped c.args.skip.now) c.args.only.now ((g.R.Reader.shown c.args.reader.now).rows v.table v.walk.snap) v.walk.held c.in-Some.passed c.in-Some.row any c.args.steps.now c.fetch.new.steps c.in-Some.ensures c.fetch.ensures.counted (looks g (goal.at.returns-in_ok-found-in-Some-clause-fetches g c).After-pass)

pub returns-in_ok-found-in-Some-clause-records : goal.returns-in_ok-found-in-Some-clause-records
returns-in_ok-found-in-Some-clause-records g c =
    let v = c.args.self.now in
    let any : IndexEntry = record { key = []; row = c.in-Some.row } in
    fetches_fetched (skipped c.args.skip.now) v c.pass.new.self c.in-Some.passed c.in-Some.row any ((g.R.Reader.shown c.args.reader.now).entries v.walk.index v.walk.snap) c.args.steps.now c.fetch.new.steps c.in-Some.ensures c.fetch.ensures.counted (passes g (goal.at.returns-in_ok-found-in-Some-clause-records g c).After-pass)

pub returns-in-None-clause-follows : goal.returns-in-None-clause-follows
returns-in-None-clause-follows g c fits =
    let shown = g.R.Reader.shown c.args.reader.now in
    follows_turned c.turn.result c.args.self.now c.turn.new.self (shown.entries c.args.self.now.walk.index c.args.self.now.walk.snap) (shown.cuts c.args.self.now.walk.index c.args.self.now.walk.snap) c.turn.ensures.turned c.turn.ensures.err fits

pub returns-in-None-clause-step : goal.returns-in-None-clause-step
returns-in-None-clause-step g c =
    let shown = g.R.Reader.shown c.args.reader.now in
    step_turned c.turn.result c.args.only.now (skipped c.args.skip.now) c.args.self.now c.turn.new.self (shown.entries c.args.self.now.walk.index c.args.self.now.walk.snap) (shown.cuts c.args.self.now.walk.index c.args.self.now.walk.snap) (shown.rows c.args.self.now.table c.args.self.now.walk.snap) c.in-None.ensures c.turn.ensures.turned

pub returns-in-None-clause-fetches : goal.returns-in-None-clause-fetches
returns-in-None-clause-fetches g c =
    let shown = g.R.Reader.shown c.args.reader.now in
    fetches_none c.turn.result (skipped c.args.skip.now) c.args.only.now (shown.rows c.args.self.now.table c.args.self.now.walk.snap) c.args.steps.now c.turn.new.steps c.turn.ensures.records

pub returns-in-None-clause-records : goal.returns-in-None-clause-records
returns-in-None-clause-records g c =
    let shown = g.R.Reader.shown c.args.reader.now in
    fetches_turned c.turn.result (skipped c.args.skip.now) c.args.self.now c.turn.new.self (shown.entries c.args.self.now.walk.index c.args.self.now.walk.snap) (shown.cuts c.args.self.now.walk.index c.args.self.now.walk.snap) c.args.steps.now c.turn.new.steps c.turn.ensures.turned c.turn.ensures.same.1
