use Rattle.std.proofs.Common.{◌≡◌, ◌+◌, ◌∙◌, ap, false, refl, subst, ◌≤◌, sym, true}
use Rattle.std.specs.List.{AllByRecursion}
use Rattle.rv_choice.specs.declared.query.Query.{Query}
use Rattle.rv_choice.specs.Asked.{CanAsk}
use Rattle.rv_choice.specs.Choice.{IsChosen, IsRight, candidates_of}
use Rattle.rv_judge.specs.Counting.{reads}
use Rattle.rv_final.specs.Rest.{qualifying}
use Rattle.rv_retrieval.specs.Opened.{Opened}
use Rattle.rv_retrieval.specs.Effort.{effort, life_of}
use Rattle.rv_retrieval.specs.Shape.{Shape, rest}
use Rattle.rv_retrieval.specs.Short.{Settled, fetches_left, has_short}
use Rattle.rv_retrieval.proofs.Counted.{none_within}
use Rattle.rv_retrieval.proofs.retrieval.Retrieval.open_chosen.Goals as goal

pub returns-in-Ok-clause-opened : goal.returns-in-Ok-clause-opened
returns-in-Ok-clause-opened g c = subst (λ (q : Query). Opened q (g.R.Reader.shown c.args.reader.now) c.args.cursor c.args.opening c.open_in.new.self) (ap (λ (x : Shape). x.query) c.deref_mut-placed.ensures.value ∙ c.in_ok-retrieval.ensures) c.in-Ok.ensures.opened

pub returns-in-Ok-clause-counts : goal.returns-in-Ok-clause-counts
returns-in-Ok-clause-counts g c = c.in-Ok.ensures.counts

pub returns-in-Ok-clause-tells : goal.returns-in-Ok-clause-tells
returns-in-Ok-clause-tells g c = c.in-Ok.ensures.tells

pub returns-in-Ok-clause-fits : goal.returns-in-Ok-clause-fits
returns-in-Ok-clause-fits g c = c.in-Ok.ensures.fits

pub returns-in-Ok-clause-rest : goal.returns-in-Ok-clause-rest
returns-in-Ok-clause-rest g c = subst (λ (q : Query). rest c.open_in.new.self (g.R.Reader.shown c.args.reader.now) ≡ qualifying q.only ((g.R.Reader.shown c.args.reader.now).rows q.table q.snap)) (ap (λ (x : Shape). x.query) c.deref_mut-placed.ensures.value ∙ c.in_ok-retrieval.ensures) c.in-Ok.ensures.rest

pub returns-in-Ok-clause-life : goal.returns-in-Ok-clause-life
returns-in-Ok-clause-life g c = subst (λ (q : Query). reads c.open_in.new.steps + effort c.open_in.new.self (g.R.Reader.shown c.args.reader.now) ≤ reads c.args.steps.now + life_of q (g.R.Reader.shown c.args.reader.now)) (ap (λ (x : Shape). x.query) c.deref_mut-placed.ensures.value ∙ c.in_ok-retrieval.ensures) c.in-Ok.ensures.life

pub returns-in-Ok-clause-effort : goal.returns-in-Ok-clause-effort
returns-in-Ok-clause-effort g c = subst (λ (q : Query). effort c.open_in.new.self (g.R.Reader.shown c.args.reader.now) ≤ life_of q (g.R.Reader.shown c.args.reader.now)) (ap (λ (x : Shape). x.query) c.deref_mut-placed.ensures.value ∙ c.in_ok-retrieval.ensures) c.in-Ok.ensures.effort

pub returns-in-Ok-clause-awaiting : goal.returns-in-Ok-clause-awaiting
returns-in-Ok-clause-awaiting g c = c.in-Ok.ensures.awaiting

pub returns-in-Ok-clause-short : goal.returns-in-Ok-clause-short
returns-in-Ok-clause-short g c = subst (λ (q : Query). has_short q (g.R.Reader.shown c.args.reader.now) ≡ true → Settled c.open_in.new.self × (fetches_left c.open_in.new.self (g.R.Reader.shown c.args.reader.now) ≤ 20)) (ap (λ (x : Shape). x.query) c.deref_mut-placed.ensures.value ∙ c.in_ok-retrieval.ensures) c.in-Ok.ensures.short

pub returns-in-Ok-clause-reads : goal.returns-in-Ok-clause-reads
returns-in-Ok-clause-reads g c = subst (λ (q : Query). reads c.open_in.new.steps ≤ reads c.args.steps.now + life_of q (g.R.Reader.shown c.args.reader.now)) (ap (λ (x : Shape). x.query) c.deref_mut-placed.ensures.value ∙ c.in_ok-retrieval.ensures) c.open_in.ensures.reads

pub returns-in-Ok-clause-only : goal.returns-in-Ok-clause-only
returns-in-Ok-clause-only g c = c.open_in.ensures.only

pub returns-in-Ok-clause-unread : goal.returns-in-Ok-clause-unread
returns-in-Ok-clause-unread g c = subst (λ (q : Query). has_short q (g.R.Reader.shown c.args.reader.now) ≡ false → c.open_in.new.steps ≡ c.args.steps.now) (ap (λ (x : Shape). x.query) c.deref_mut-placed.ensures.value ∙ c.in_ok-retrieval.ensures) c.open_in.ensures.unread

pub returns-in-Err-clause-reads : goal.returns-in-Err-clause-reads
returns-in-Err-clause-reads g c = subst (λ (q : Query). reads c.open_in.new.steps ≤ reads c.args.steps.now + life_of q (g.R.Reader.shown c.args.reader.now)) (ap (λ (x : Shape). x.query) c.deref_mut-placed.ensures.value ∙ c.in_ok-retrieval.ensures) c.open_in.ensures.reads

pub returns-in-Err-clause-only : goal.returns-in-Err-clause-only
returns-in-Err-clause-only g c = c.open_in.ensures.only

pub returns-in-Err-clause-unread : goal.returns-in-Err-clause-unread
returns-in-Err-clause-unread g c = subst (λ (q : Query). has_short q (g.R.Reader.shown c.args.reader.now) ≡ false → c.open_in.new.steps ≡ c.args.steps.now) (ap (λ (x : Shape). x.query) c.deref_mut-placed.ensures.value ∙ c.in_ok-retrieval.ensures) c.open_in.ensures.unread

pub returns-in_err-retrieval-clause-reads : goal.returns-in_err-retrieval-clause-reads
returns-in_err-retrieval-clause-reads g c = none_within _ _

pub returns-in_err-retrieval-clause-only : goal.returns-in_err-retrieval-clause-only
returns-in_err-retrieval-clause-only g c = record { pages = refl; records = refl }

pub returns-in_err-retrieval-clause-unread : goal.returns-in_err-retrieval-clause-unread
returns-in_err-retrieval-clause-unread g c none = refl

pub open_in-requires-clause-can : goal.open_in-requires-clause-can
open_in-requires-clause-can g c = subst (λ (q : Query). CanAsk q (g.R.Reader.shown c.args.reader.now)) (sym (ap (λ (x : Shape). x.query) c.deref_mut-placed.ensures.value ∙ c.in_ok-retrieval.ensures)) c.requires.can

pub open_in-requires-clause-candidates : goal.open_in-requires-clause-candidates
open_in-requires-clause-candidates g c = subst (λ (q : Query). c.args.candidates.now ≡ candidates_of q (g.R.Reader.shown c.args.reader.now)) (sym (ap (λ (x : Shape). x.query) c.deref_mut-placed.ensures.value ∙ c.in_ok-retrieval.ensures)) c.requires.candidates

pub open_in-requires-clause-choice : goal.open_in-requires-clause-choice
open_in-requires-clause-choice g c = subst (λ (q : Query). IsChosen q.order q.goal c.args.candidates.now c.args.choice) (sym (ap (λ (x : Shape). x.query) c.deref_mut-placed.ensures.value ∙ c.in_ok-retrieval.ensures)) c.requires.choice

pub open_in-requires-clause-right : goal.open_in-requires-clause-right
open_in-requires-clause-right g c = subst (λ (q : Query). AllByRecursion (IsRight (g.R.Reader.shown c.args.reader.now) q.snap) c.args.candidates.now) (sym (ap (λ (x : Shape). x.query) c.deref_mut-placed.ensures.value ∙ c.in_ok-retrieval.ensures)) c.requires.right
