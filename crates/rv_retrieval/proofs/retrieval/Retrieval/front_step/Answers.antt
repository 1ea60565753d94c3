use Rattle.std.proofs.Common.{◌≡◌, ◌+◌, ◌<◌, ◌≤◌, ◌∙◌, ◌&&◌, IfOk, OnErr, None, length, ap, refl, subst, sym, true, false}
use Rattle.std.specs.Prelude.{if◌then◌else◌}
use Rattle.std.specs.Option.{option_copied}
use Rattle.std.specs.Cmp.{first_so}
use Rattle.rv_value.proofs.Lists.{on_err}
use Rattle.rv_value.specs.declared.record.Record.{Record}
use Rattle.rv_keylist.specs.Keys.{has_key}
use Rattle.rv_judge.specs.Tracing.{noted}
use Rattle.rv_judge.specs.declared.events.Event.TheVariants.{At}
use Rattle.rv_judge.specs.declared.events.Control.TheVariants.{Done}
use Rattle.rv_judge.specs.declared.events.Happening.TheVariants.{FrontEnded}
use Rattle.rv_judge.specs.Course.{next_control}
use Rattle.rv_reader.specs.declared.step.Step.{Step}
use Rattle.rv_reader.specs.declared.step.Step.TheVariants.{Row, Working, End}
use Rattle.rv_scan.specs.Alongs.{FetchesDue, Follows}
use Rattle.rv_scan.specs.Due.{Skipped}
use Rattle.rv_scan.specs.Fronts.{Front, FrontMayRead, FrontReads, SameFront, front_fetches, walk_of}
use Rattle.rv_jscan.specs.Joint.{keys_of}
use Rattle.rv_final.specs.Work.{Tries}
use Rattle.rv_retrieval.specs.Effort.{effort}
use Rattle.rv_retrieval.specs.Shape.{Delivers, DoesStep, RetrievalFits, Shape, is_building, is_index_only, is_sorted}
use Rattle.rv_retrieval.specs.Short.{Settled, fetches_left}
use Rattle.rv_retrieval.specs.Stepping.{GivesAhead, Steady}
use Rattle.rv_retrieval.proofs.Ahead.{FrontScanned, ahead_falls, ahead_records, ahead_tries, alone_sorted, end_leaves, end_records, end_settled, end_steady, end_tries, front_scanned, noted_counts, row_does, row_falls, row_fits, row_leaves, row_records, row_settled, row_steady, row_tries}
use Rattle.rv_retrieval.proofs.Controls.{ended, ends_fits}
use Rattle.rv_retrieval.proofs.Delivering.{fresh_row, front_does, front_ends, front_fits}
use Rattle.rv_retrieval.proofs.Fronting.{FrontStep, own_entries}
use Rattle.rv_retrieval.proofs.Waiting.{steady_moved}
use Rattle.rv_retrieval.proofs.retrieval.Retrieval.front_step.Given as given
use Rattle.rv_retrieval.proofs.retrieval.Retrieval.front_step.Goals as goal
use Rattle.rv_retrieval.proofs.retrieval.Retrieval.front_step.Goals.{After-step, After-give_ahead, After-go}

-- the step along the index
scanned : (g : given.Over) (c : After-step g) → FrontScanned c.step.result c.args.self.now c.step.new.self (g.R.Reader.shown c.args.reader.now) c.args.steps.now c.step.new.steps
scanned g c =
    let shown = g.R.Reader.shown c.args.reader.now in
    let v = c.args.self.now in
    let new = c.step.new.self in
    let skip : Skipped = record { delivered = None; list = option_copied c.hiding.result } in
    let hides = subst (λ (x : Shape). option_copied c.hiding.result ≡ (if is_sorted x.strategy then option_copied c.list.result else None)) c.self.view_is c.hiding.ensures in
    let keys = subst (λ (x : Shape). keys_of (option_copied c.list.result) ≡ x.joint.list) c.self.view_is c.list.ensures.keys in
    let same = subst (λ (x : Shape). SameFront x.front new) c.self.view_is c.step.ensures.same in
    let follows = subst (λ (x : Shape). Follows (walk_of x.front) (own_entries x shown) → Follows (walk_of new) (own_entries x shown)) c.self.view_is c.step.ensures.follows in
    let step = subst (λ (x : Shape). IfOk c.step.result (FrontStep x new shown skip)) c.self.view_is c.step.ensures.step in
    let fetches = subst (λ (x : Shape). IfOk c.step.result (λ (s : Step Record). FetchesDue skip x.query.only (shown.rows x.front.fetching.table (walk_of x.front).snap) s c.args.steps.now c.step.new.steps)) c.self.view_is c.step.ensures.fetches in
    let err = subst (λ (x : Shape). OnErr c.step.result (new ≡ x.front)) c.self.view_is c.step.ensures.err in
    let fewer = subst (λ (x : Shape). IfOk c.step.result (λ s. c.step.new.steps.records + front_fetches new (own_entries x shown) skip ≤ c.args.steps.now.records + front_fetches x.front (own_entries x shown) skip)) c.self.view_is c.step.ensures.records in
    front_scanned c.step.result v new shown (option_copied c.hiding.result) (option_copied c.list.result) c.args.steps.now c.step.new.steps c.requires.fits (c.requires.fits.led c.requires.front) hides keys same follows step fetches c.step.ensures.once c.step.ensures.none err fewer

-- the row that it gives was remembered
delivers : (g : given.Over) (c : After-give_ahead g) → (is_building c.args.self.now.control && is_index_only c.args.self.now.strategy) ≡ true → Delivers (record c.args.self.now { front = c.step.new.self }) c.give_ahead.new.self c.in-Row.record.row.0
delivers g c = subst (λ (x : Shape). (is_building x.control && is_index_only x.strategy) ≡ true → Delivers (record x { front = c.step.new.self }) c.give_ahead.new.self c.in-Row.record.row.0) c.self.view_is c.give_ahead.ensures.delivers

gives : (g : given.Over) (c : After-give_ahead g) → GivesAhead c.in-Row.record.row.0 (record c.args.self.now { front = c.step.new.self }) c.give_ahead.new.self
gives g c = subst (λ (x : Shape). GivesAhead c.in-Row.record.row.0 (record x { front = c.step.new.self }) c.give_ahead.new.self) c.self.view_is c.give_ahead.ensures.gives

-- all is done at its end
went : (g : given.Over) (c : After-go g) → c.go.new.self ≡ record c.args.self.now { front = c.step.new.self; control = Done; trace = c.go.new.self.trace }
went g c =
    let v = c.args.self.now in
    let same = subst (λ (x : Shape). c.go.new.self ≡ record (record x { front = c.step.new.self }) { control = next_control x.strategy x.control FrontEnded; trace = c.go.new.self.trace }) c.self.view_is c.go.ensures.same in
    front_ends v (record v { front = c.step.new.self }) c.go.new.self refl c.requires.front (c.requires.fits.led c.requires.front) same

pub give_ahead-requires-clause-room : goal.give_ahead-requires-clause-room
give_ahead-requires-clause-room g c = subst (λ (x : Shape). (is_building x.control && is_index_only x.strategy) ≡ true → length x.delivered < 1024) (sym c.self.view_is) (λ both. c.requires.fits.room (first_so _ _ both))

pub give_ahead-requires-clause-fresh : goal.give_ahead-requires-clause-fresh
give_ahead-requires-clause-fresh g c =
    let shown = g.R.Reader.shown c.args.reader.now in
    let s = scanned g (goal.at.give_ahead-requires-clause-fresh g c).After-step in
    let marks = rw (c.in_ok-record.was, c.in-Row.is) at s.marks in
    subst (λ (x : Shape). (is_building x.control && is_index_only x.strategy) ≡ true → has_key c.in-Row.record.row.0 x.delivered ≡ false) (sym c.self.view_is) (λ both. fresh_row c.args.self.now c.step.new.self shown c.in-Row.record c.requires.fits both marks)

pub returns-in-Row : goal.returns-in-Row
returns-in-Row g c =
    let v = c.args.self.now in
    let shown = g.R.Reader.shown c.args.reader.now in
    let nf = c.step.new.self in
    let new = c.give_ahead.new.self in
    let row = c.in-Row.record in
    let s = scanned g (goal.at.returns-in-Row g c).After-step in
    let took = delivers g (goal.at.returns-in-Row g c).After-give_ahead in
    let given = gives g (goal.at.returns-in-Row g c).After-give_ahead in
    let marks = rw (c.in_ok-record.was, c.in-Row.is) at s.marks in
    record {
      steady = row_steady v nf new row.row.0 s.front took given.forgets;
      fits = row_fits v nf new row shown s.front s.follows marks took given.forgets c.requires.fits;
      step = row_does v nf new row shown c.requires.front s.front (rw (c.in_ok-record.was, c.in-Row.is) at s.least) marks took given.forgets c.requires.fits;
      ends = tt;
      err = tt;
      does = row_leaves v nf new row took given;
      may_read = subst (λ (x : Shape). FrontMayRead x.front.alone c.args.steps.now c.step.new.steps) c.self.view_is c.step.ensures.may_read;
      reads = subst (λ (x : Shape). FrontReads x.front.alone (Row row) c.args.steps.now c.step.new.steps) c.self.view_is (rw c.in-Row.is at c.in_ok-record.ensures.reads);
      tries = row_tries v nf new row.row.0 shown c.args.steps.now c.step.new.steps s.tries took given.forgets;
      falls = row_falls v nf new row.row.0 shown c.requires.front (rw (c.in_ok-record.was, c.in-Row.is) at s.falls) took given.forgets;
      fetches = rw (c.in_ok-record.was, c.in-Row.is) at s.fetches;
      records = λ settled. row_records v nf new shown c.args.steps.now c.step.new.steps c.requires.front given.forgets settled (rw c.in_ok-record.was at s.records (alone_sorted v settled c.requires.front));
      pages = c.step.ensures.pages;
      settled = row_settled v nf new c.requires.front given.forgets;
    }

pub returns-in-Working : goal.returns-in-Working
returns-in-Working g c =
    let v = c.args.self.now in
    let shown = g.R.Reader.shown c.args.reader.now in
    let nf = c.step.new.self in
    let s = scanned g (goal.at.returns-in-Working g c).After-step in
    let marks = rw (c.in_ok-record.was, c.in-Working.is) at s.marks in
    let is = sym (ap (λ (x : Shape). record x { front = nf }) c.self.view_is) in
    record {
      steady = subst (λ (x : Shape). Steady v x) is (steady_moved v (record v { front = nf }) refl s.front);
      fits = subst (λ (x : Shape). RetrievalFits x shown) is (front_fits v nf shown s.front s.follows (λ b n q. marks n q ∙ c.requires.fits.remembered b n q) c.requires.fits);
      step = subst (λ (x : Shape). DoesStep v x shown Working) is (front_does v nf shown Working c.requires.front s.front c.requires.fits (λ h. tt) marks);
      ends = tt;
      err = tt;
      does = sym is;
      may_read = subst (λ (x : Shape). FrontMayRead x.front.alone c.args.steps.now c.step.new.steps) c.self.view_is c.step.ensures.may_read;
      reads = subst (λ (x : Shape). FrontReads x.front.alone Working c.args.steps.now c.step.new.steps) c.self.view_is (rw c.in-Working.is at c.in_ok-record.ensures.reads);
      tries = subst (λ (x : Shape). Tries c.args.steps.now c.step.new.steps (effort v shown) (effort x shown)) is (ahead_tries v nf shown c.args.steps.now c.step.new.steps s.tries);
      falls = subst (λ (x : Shape). effort x shown < effort v shown) is (ahead_falls v nf shown c.requires.front (rw (c.in_ok-record.was, c.in-Working.is) at s.falls));
      fetches = rw (c.in_ok-record.was, c.in-Working.is) at s.fetches;
      records = λ settled. subst (λ (x : Shape). c.step.new.steps.records + fetches_left x shown ≤ c.args.steps.now.records + fetches_left v shown) is (ahead_records v nf shown c.args.steps.now c.step.new.steps settled c.requires.front (rw c.in_ok-record.was at s.records (alone_sorted v settled c.requires.front)));
      pages = c.step.ensures.pages;
      settled = λ settled. subst Settled is (record { over = settled.over; sorted = settled.sorted });
    }

pub returns-in-End : goal.returns-in-End
returns-in-End g c =
    let v = c.args.self.now in
    let shown = g.R.Reader.shown c.args.reader.now in
    let nf = c.step.new.self in
    let new = c.go.new.self in
    let s = scanned g (goal.at.returns-in-End g c).After-step in
    let is = went g (goal.at.returns-in-End g c).After-go in
    let marks = rw (c.in_ok-record.was, c.in-End.is) at s.marks in
    let none = rw c.in-End.is at c.in_ok-record.ensures.none in
    let same = subst (λ (x : Shape). new ≡ record x { front = nf; control = next_control x.strategy x.control FrontEnded; trace = new.trace }) c.self.view_is c.go.ensures.same in
    let told = subst (λ (x : Shape). new.trace ≡ noted x.trace (At (next_control x.strategy x.control FrontEnded))) c.self.view_is c.go.ensures.told in
    record {
      steady = end_steady v nf new s.front is (noted_counts v.trace _ new.trace told);
      fits = ends_fits (record v { front = nf }) new shown (front_fits v nf shown s.front s.follows (λ b n q. marks.1 n q ∙ sym (marks.0 n q) ∙ c.requires.fits.remembered b n q) c.requires.fits) is;
      step = ended v (record v { front = nf }) new shown (front_does v nf shown End c.requires.front s.front c.requires.fits (λ h. tt) marks).0 is;
      ends = ap (λ (x : Shape). x.control) is;
      err = tt;
      does = end_leaves v nf new same told;
      may_read = subst (λ (x : Shape). FrontMayRead x.front.alone c.args.steps.now c.step.new.steps) c.self.view_is c.step.ensures.may_read;
      reads = subst (λ (x : Shape). FrontReads x.front.alone End c.args.steps.now c.step.new.steps) c.self.view_is (rw c.in-End.is at c.in_ok-record.ensures.reads);
      tries = end_tries v nf new shown c.args.steps.now c.step.new.steps is c.step.ensures.once;
      falls = none;
      fetches = rw (c.in_ok-record.was, c.in-End.is) at s.fetches;
      records = λ settled. end_records v nf new shown c.args.steps.now c.step.new.steps is none;
      pages = c.step.ensures.pages;
      settled = λ settled. end_settled v nf new is;
    }

pub returns-in_err-record-clause-steady : goal.returns-in_err-record-clause-steady
returns-in_err-record-clause-steady g c =
    let v = c.args.self.now in
    let err = subst (λ (x : Shape). c.step.new.self ≡ x.front) c.self.view_is c.in_err-record.ensures.err in
    let is = sym (ap (λ (x : Shape). record x { front = c.step.new.self }) c.self.view_is ∙ ap (λ (f : Front). record v { front = f }) err) in
    let s = scanned g (goal.at.returns-in_err-record-clause-steady g c).After-step in
    subst (λ (x : Shape). Steady v x) is (steady_moved v v refl (rw err at s.front))

pub returns-in_err-record-clause-fits : goal.returns-in_err-record-clause-fits
returns-in_err-record-clause-fits g c =
    let v = c.args.self.now in
    let err = subst (λ (x : Shape). c.step.new.self ≡ x.front) c.self.view_is c.in_err-record.ensures.err in
    let is = sym (ap (λ (x : Shape). record x { front = c.step.new.self }) c.self.view_is ∙ ap (λ (f : Front). record v { front = f }) err) in
    subst (λ (x : Shape). RetrievalFits x (g.R.Reader.shown c.args.reader.now)) is c.requires.fits

pub returns-in_err-record-clause-err : goal.returns-in_err-record-clause-err
returns-in_err-record-clause-err g c =
    let v = c.args.self.now in
    let err = subst (λ (x : Shape). c.step.new.self ≡ x.front) c.self.view_is c.in_err-record.ensures.err in
    let is = sym (ap (λ (x : Shape). record x { front = c.step.new.self }) c.self.view_is ∙ ap (λ (f : Front). record v { front = f }) err) in
    on_err _ _ (sym is)

pub returns-in_err-record-clause-may_read : goal.returns-in_err-record-clause-may_read
returns-in_err-record-clause-may_read g c =
    subst (λ (x : Shape). FrontMayRead x.front.alone c.args.steps.now c.step.new.steps) c.self.view_is c.step.ensures.may_read

pub returns-in_err-record-clause-tries : goal.returns-in_err-record-clause-tries
returns-in_err-record-clause-tries g c =
    let v = c.args.self.now in
    let err = subst (λ (x : Shape). c.step.new.self ≡ x.front) c.self.view_is c.in_err-record.ensures.err in
    let is = sym (ap (λ (x : Shape). record x { front = c.step.new.self }) c.self.view_is ∙ ap (λ (f : Front). record v { front = f }) err) in
    let shown = g.R.Reader.shown c.args.reader.now in
    let s = scanned g (goal.at.returns-in_err-record-clause-tries g c).After-step in
    subst (λ (x : Shape). Tries c.args.steps.now c.step.new.steps (effort v shown) (effort x shown)) is (subst (λ (f : Front). Tries c.args.steps.now c.step.new.steps (effort v shown) (effort (record v { front = f }) shown)) err (ahead_tries v c.step.new.self shown c.args.steps.now c.step.new.steps s.tries))

pub returns-in_err-record-clause-settled : goal.returns-in_err-record-clause-settled
returns-in_err-record-clause-settled g c =
    let v = c.args.self.now in
    let err = subst (λ (x : Shape). c.step.new.self ≡ x.front) c.self.view_is c.in_err-record.ensures.err in
    let is = sym (ap (λ (x : Shape). record x { front = c.step.new.self }) c.self.view_is ∙ ap (λ (f : Front). record v { front = f }) err) in
    λ settled. subst Settled is settled
