use Rattle.std.proofs.Common.{◌∙◌, sym}
use Rattle.rv_access.proofs.Chosen.{can_race_so, chosen_for, raced, unraced}
use Rattle.rv_access.proofs.access.Access.open.Goals as goal

pub open_raced-opened-requires-clause-choice : goal.open_raced-opened-requires-clause-choice
open_raced-opened-requires-clause-choice g c = chosen_for c.args.query c.choose-choice.result c.as_slice-2.result.now c.as_slice.result.now c.as_slice-then-raced.result.now c.as_slice-2.ensures (c.as_slice.ensures.value ∙ sym c.as_slice-then-raced.ensures.value) c.choose-choice.ensures

pub open_raced-opened-requires-clause-races : goal.open_raced-opened-requires-clause-races
open_raced-opened-requires-clause-races g c = can_race_so c.args.race c.choose-choice.result c.as_slice-3.result.now c.as_slice-then-raced.result.now (c.as_slice-3.ensures.value ∙ sym c.as_slice-then-raced.ensures.value) (sym c.will_race-raced.ensures ∙ c.if-raced.true)

pub open_chosen-opened-requires-clause-choice : goal.open_chosen-opened-requires-clause-choice
open_chosen-opened-requires-clause-choice g c = chosen_for c.args.query c.choose-choice.result c.as_slice-2.result.now c.as_slice.result.now c.as_slice-else-raced.result.now c.as_slice-2.ensures (c.as_slice.ensures.value ∙ sym c.as_slice-else-raced.ensures.value) c.choose-choice.ensures

pub returns-then-raced-clause-opened : goal.returns-then-raced-clause-opened
returns-then-raced-clause-opened g c = raced c.open_raced-opened.result c.args.race c.args.query (g.R.Reader.shown c.args.reader.now) c.args.cursor c.args.opening c.choose-choice.result c.as_slice-2.result.now c.as_slice.result.now c.as_slice-3.result.now c.as_slice-2.ensures (c.as_slice.ensures.value ∙ c.in-Ok.ensures.are) (c.as_slice-3.ensures.value ∙ c.in-Ok.ensures.are) c.choose-choice.ensures (sym c.will_race-raced.ensures ∙ c.if-raced.true) c.open_raced-opened.ensures.races

pub returns-else-raced-clause-opened : goal.returns-else-raced-clause-opened
returns-else-raced-clause-opened g c = unraced c.open_chosen-opened.result c.args.race c.args.query (g.R.Reader.shown c.args.reader.now) c.args.cursor c.args.opening c.choose-choice.result c.as_slice-2.result.now c.as_slice.result.now c.as_slice-3.result.now c.as_slice-2.ensures (c.as_slice.ensures.value ∙ c.in-Ok.ensures.are) (c.as_slice-3.ensures.value ∙ c.in-Ok.ensures.are) c.choose-choice.ensures (sym c.will_race-raced.ensures ∙ c.if-raced.false) c.open_chosen-opened.ensures.opened
