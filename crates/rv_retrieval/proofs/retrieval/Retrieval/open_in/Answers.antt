use Rattle.std.proofs.Common.{◌≡◌, ◌+◌, ◌∙◌, List, refl, subst, ◌≤◌, sym}
use Rattle.rv_choice.specs.declared.choosing.Candidate.{Candidate}
use Rattle.rv_choice.specs.Choice.{IsChosen}
use Rattle.rv_choice.specs.Leading.{guarantee_of}
use Rattle.rv_judge.specs.Counting.{reads}
use Rattle.rv_retrieval.specs.Effort.{Awaiting, effort, life_of}
use Rattle.rv_retrieval.proofs.Counted.{effort_within, none_within, spent_within, tried_within}
use Rattle.rv_retrieval.proofs.AtOnce.{counts_all, opened_by}
use Rattle.rv_retrieval.proofs.Starting.{opened_tells}
use Rattle.rv_retrieval.specs.Shape.{Shape, rest}
use Rattle.rv_retrieval.specs.Short.{Settled, fetches_left}
use Rattle.rv_retrieval.proofs.Shorts.{none_short, short_one}
use Rattle.rv_retrieval.proofs.Switching.{trace_keeps}
use Rattle.rv_retrieval.proofs.retrieval.Retrieval.open_in.Goals as goal

pub returns-clause-rest : goal.returns-clause-rest
returns-clause-rest g c = (trace_keeps c.settle.new.self c.count.new.self _ c.count.ensures).rest (g.R.Reader.shown c.args.reader.now) c.in_ok-settle.ensures.fits ∙ c.in_ok-settle.ensures.rest ∙ c.in_ok-begin_chosen.ensures.rest

pub returns-clause-opened : goal.returns-clause-opened
returns-clause-opened g c =
    let query = c.args.self.now.query in
    let shown = g.R.Reader.shown c.args.reader.now in
    let choice = c.args.choice in
    let made = c.begin_chosen.new.self in
    let mid = c.settle.new.self in
    let chosen = subst (λ (cs : List Candidate). IsChosen query.order query.goal cs choice) c.requires.candidates c.requires.choice in
    let bound = subst (λ (cs : List Candidate). made.guaranteed ≡ guarantee_of query shown cs choice) c.requires.candidates c.in_ok-begin_chosen.ensures.bound in
    let short = c.in_ok-begin_chosen.ensures.short in
    let unlisted = c.in_ok-begin_chosen.ensures.unlisted in
    opened_by query shown choice c.args.cursor c.args.opening made mid c.count.new.self _ _ chosen c.in_ok-begin_chosen.ensures.made c.in_ok-begin_chosen.ensures.started bound c.in_ok-begin_chosen.ensures.way c.in_ok-settle.ensures.scanned c.in_ok-settle.ensures.runs (λ one. c.in_ok-settle.ensures.completes one (short one) unlisted) c.settle.ensures.same c.count.ensures

pub returns-clause-counts : goal.returns-clause-counts
returns-clause-counts g c = counts_all c.args.choice.background c.begin_chosen.new.self c.settle.new.self c.count.new.self c.args.steps.now _ c.in_ok-begin_chosen.ensures.counts c.in_ok-settle.ensures.runs c.settle.ensures.same (rw c.counts.ensures at rw c.counts-before.ensures at c.count.ensures)

pub returns-clause-tells : goal.returns-clause-tells
returns-clause-tells g c = opened_tells c.args.choice.background c.begin_chosen.new.self c.settle.new.self c.count.new.self c.args.cursor c.args.opening _ _ c.in_ok-begin_chosen.ensures.tells c.in_ok-begin_chosen.ensures.back c.in_ok-begin_chosen.ensures.short c.in_ok-begin_chosen.ensures.started c.in_ok-settle.ensures.scanned.scans.plans c.in_ok-settle.ensures.runs c.settle.ensures.same c.count.ensures

pub returns-clause-short : goal.returns-clause-short
returns-clause-short g c short =
    let shown = g.R.Reader.shown c.args.reader.now in
    let one = short_one c.args.self.now.query shown c.args.choice c.args.self.now.query.order c.args.candidates.now refl c.requires.candidates c.requires.choice short in
    let settled = c.in_ok-settle.ensures.settled one c.in_ok-begin_chosen.ensures.awaiting c.in_ok-begin_chosen.ensures.unlisted in
    let few = c.in_ok-settle.ensures.few one c.in_ok-begin_chosen.ensures.awaiting c.in_ok-begin_chosen.ensures.unlisted (c.in_ok-begin_chosen.ensures.few short) in
    subst (λ (x : Shape). Settled x × (fetches_left x shown ≤ 20)) (sym c.count.ensures) (record { over = settled.over; sorted = settled.sorted }, few)

pub returns-clause-unread : goal.returns-clause-unread
returns-clause-unread g c none = c.settle.ensures.unread (none_short c.args.self.now.query (g.R.Reader.shown c.args.reader.now) c.args.choice c.args.self.now.query.order c.args.candidates.now c.requires.candidates c.requires.choice none)

pub returns-in_err-settle-clause-unread : goal.returns-in_err-settle-clause-unread
returns-in_err-settle-clause-unread g c none = c.settle.ensures.unread (none_short c.args.self.now.query (g.R.Reader.shown c.args.reader.now) c.args.choice c.args.self.now.query.order c.args.candidates.now c.requires.candidates c.requires.choice none)

pub returns-clause-fits : goal.returns-clause-fits
returns-clause-fits g c = (trace_keeps c.settle.new.self c.count.new.self _ c.count.ensures).fits (g.R.Reader.shown c.args.reader.now) c.in_ok-settle.ensures.fits

pub returns-clause-awaiting : goal.returns-clause-awaiting
returns-clause-awaiting g c = subst Awaiting (sym c.count.ensures) (let w = c.in_ok-settle.ensures.awaiting c.in_ok-begin_chosen.ensures.awaiting in record { way = w.way; both = w.both })

pub returns-clause-effort : goal.returns-clause-effort
returns-clause-effort g c = subst (λ (x : Shape). effort x (g.R.Reader.shown c.args.reader.now) ≤ life_of c.args.self.now.query (g.R.Reader.shown c.args.reader.now)) (sym c.count.ensures) (effort_within _ _ _ (c.in_ok-settle.ensures.less c.in_ok-begin_chosen.ensures.unborrowed) c.in_ok-begin_chosen.ensures.life)

pub returns-clause-life : goal.returns-clause-life
returns-clause-life g c = subst (λ (x : Shape). reads c.settle.new.steps + effort x (g.R.Reader.shown c.args.reader.now) ≤ reads c.args.steps.now + life_of c.args.self.now.query (g.R.Reader.shown c.args.reader.now)) (sym c.count.ensures) (spent_within _ _ _ _ _ (c.in_ok-settle.ensures.spends c.in_ok-begin_chosen.ensures.unborrowed) c.in_ok-begin_chosen.ensures.life)

pub returns-clause-reads : goal.returns-clause-reads
returns-clause-reads g c = tried_within _ _ _ _ (c.settle.ensures.tried c.in_ok-begin_chosen.ensures.unborrowed) c.in_ok-begin_chosen.ensures.life

pub returns-clause-only : goal.returns-clause-only
returns-clause-only g c = c.settle.ensures.only

pub returns-in_err-settle-clause-reads : goal.returns-in_err-settle-clause-reads
returns-in_err-settle-clause-reads g c = tried_within _ _ _ _ (c.settle.ensures.tried c.in_ok-begin_chosen.ensures.unborrowed) c.in_ok-begin_chosen.ensures.life

pub returns-in_err-settle-clause-only : goal.returns-in_err-settle-clause-only
returns-in_err-settle-clause-only g c = c.settle.ensures.only

pub returns-in_err-begin_chosen-clause-reads : goal.returns-in_err-begin_chosen-clause-reads
returns-in_err-begin_chosen-clause-reads g c = none_within _ _

pub returns-in_err-begin_chosen-clause-only : goal.returns-in_err-begin_chosen-clause-only
returns-in_err-begin_chosen-clause-only g c = record { pages = refl; records = refl }

pub returns-in_err-begin_chosen-clause-unread : goal.returns-in_err-begin_chosen-clause-unread
returns-in_err-begin_chosen-clause-unread g c none = refl

pub begin_chosen-requires-clause-can : goal.begin_chosen-requires-clause-can
begin_chosen-requires-clause-can g c = c.requires.can

pub begin_chosen-requires-clause-candidates : goal.begin_chosen-requires-clause-candidates
begin_chosen-requires-clause-candidates g c = c.requires.candidates

pub begin_chosen-requires-clause-choice : goal.begin_chosen-requires-clause-choice
begin_chosen-requires-clause-choice g c = c.requires.choice

pub begin_chosen-requires-clause-right : goal.begin_chosen-requires-clause-right
begin_chosen-requires-clause-right g c = c.requires.right

pub settle-requires-clause-fits : goal.settle-requires-clause-fits
settle-requires-clause-fits g c = c.in_ok-begin_chosen.ensures.fits

pub settle-requires-clause-back : goal.settle-requires-clause-back
settle-requires-clause-back g c = c.in_ok-begin_chosen.ensures.back

pub settle-requires-clause-way : goal.settle-requires-clause-way
settle-requires-clause-way g c = c.in_ok-begin_chosen.ensures.way
