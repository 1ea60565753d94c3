use Rattle.std.proofs.Common.{◌∙◌, ap, refl, subst, sym, ◌≡◌, ◌⊎◌, ◌&&◌, inl, inr}
use Rattle.rv_judge.specs.declared.events.Control.TheVariants.{ForegroundAlone, BackgroundAlone, FinalList, FinalTable}
use Rattle.rv_value.proofs.Lists.{on_err}
use Rattle.rv_retrieval.specs.Accounts.{fresh_of}
use Rattle.rv_retrieval.specs.Effort.{Awaiting}
use Rattle.rv_retrieval.specs.Shape.{Shape, is_background, is_building, is_index_only}
use Rattle.rv_retrieval.specs.Stepping.{Borrow, NextKey, NextPage, Piece, Walk, piece_read, while_both}
use Rattle.rv_retrieval.proofs.Ahead.{ahead_forgets, beside_ahead, beside_does, beside_may_read, beside_reads}
use Rattle.rv_retrieval.proofs.OfKinds.{course_if, does_by, key_does, kind_at, may_read_by, page_does, reads_always, reads_as, reads_by, rest_if, walk_does}
use Rattle.rv_retrieval.proofs.Waiting.{after_borrowed, keys_only, only_if, steady_at, steady_borrowed}
use Rattle.rv_retrieval.proofs.Controls.{done_rest, passed_rest}
use Rattle.rv_retrieval.proofs.Listed.{at_course, at_settled, keys_fit, keys_try, list_control, list_does, list_ended_by, list_ends, list_falls, list_fits, list_keys, list_records, list_settled, list_steady, list_tries, not_done}
use Rattle.rv_judge.specs.declared.events.Control.{Control}
use Rattle.rv_judge.specs.declared.events.Strategy.{Strategy}
use Rattle.rv_judge.specs.declared.events.Strategy.TheVariants.{Table, BackgroundOnly, FastFirst, Sorted, IndexOnly, Union}
use Rattle.rv_retrieval.proofs.Delivering.{does_from, rest_from}
use Rattle.rv_retrieval.proofs.Passing.{borrow_does, falls_from, fast_kind, fresh_passed, passed_course, passed_effort, tries_from}
use Rattle.rv_retrieval.proofs.Stepped.{background_kind, fast_behind, piece_does}
use Rattle.rv_retrieval.proofs.Switching.{borrow_keeps}
use Rattle.rv_retrieval.proofs.retrieval.Retrieval.step.Goals as goal

of_one : (s r : Strategy) → r ≡ s → (r ≡ Table) ⊎ ((r ≡ BackgroundOnly) ⊎ (r ≡ Union)) → (s ≡ Table) ⊎ ((s ≡ BackgroundOnly) ⊎ (s ≡ Union))
of_one s r is (inl table) = inl (sym is ∙ table)
of_one s r is (inr (inl alone)) = inr (inl (sym is ∙ alone))
of_one s r is (inr (inr union)) = inr (inr (sym is ∙ union))

of_two : (s r : Strategy) → r ≡ s → (r ≡ Sorted) ⊎ (r ≡ IndexOnly) → (s ≡ Sorted) ⊎ (s ≡ IndexOnly)
of_two s r is (inl sorted) = inl (sym is ∙ sorted)
of_two s r is (inr alone) = inr (sym is ∙ alone)

pub returns-in-None-clause-step : goal.returns-in-None-clause-step
returns-in-None-clause-step g c =
    let shown = g.R.Reader.shown c.args.reader.now in
    let v = c.args.self.now in
    let mid = c.fresh_key.new.self in
    does_from c.background_step.result v mid c.background_step.new.self shown (ap (λ (x : Shape). x.query) c.fresh_key.ensures.same) ((borrow_keeps v mid mid.borrowed c.fresh_key.ensures.same).rest shown c.requires.fits) c.background_step.ensures.step

pub returns-in-None-clause-err : goal.returns-in-None-clause-err
returns-in-None-clause-err g c =
    let shown = g.R.Reader.shown c.args.reader.now in
    let v = c.args.self.now in
    let mid = c.fresh_key.new.self in
    rest_from c.background_step.result v mid c.background_step.new.self shown ((borrow_keeps v mid mid.borrowed c.fresh_key.ensures.same).rest shown c.requires.fits) c.background_step.ensures.err

pub returns-in-Some-clause-step : goal.returns-in-Some-clause-step
returns-in-Some-clause-step g c =
    let shown = g.R.Reader.shown c.args.reader.now in
    let v = c.args.self.now in
    let mid = c.fresh_key.new.self in
    does_from c.borrow.result v mid c.borrow.new.self shown (ap (λ (x : Shape). x.query) c.fresh_key.ensures.same) ((borrow_keeps v mid mid.borrowed c.fresh_key.ensures.same).rest shown c.requires.fits) c.borrow.ensures.step

pub returns-in-None-clause-does : goal.returns-in-None-clause-does
returns-in-None-clause-does g c way =
    let v = c.args.self.now in
    let mid = c.fresh_key.new.self in
    fast_behind c.background_step.result _ _ _ (g.R.Reader.shown c.args.reader.now) c.args.steps.now c.background_step.new.steps v mid c.background_step.new.self (sym c.control.ensures ∙ c.in-Building.is) (sym c.strategy.ensures ∙ c.in-FastFirst.is) c.fresh_key.ensures.same c.fresh_key.ensures.further (c.fresh_key.ensures.passes (way (ap is_background (sym c.control.ensures ∙ c.in-Building.is)))) (c.in-None.ensures.first (way (ap is_background (sym c.control.ensures ∙ c.in-Building.is)))) c.background_step.ensures.does

pub returns-in-None-clause-steady : goal.returns-in-None-clause-steady
returns-in-None-clause-steady g c = steady_borrowed c.args.self.now c.fresh_key.new.self c.background_step.new.self c.fresh_key.ensures.same c.background_step.ensures.steady

pub returns-in-None-clause-fits : goal.returns-in-None-clause-fits
returns-in-None-clause-fits g c = c.background_step.ensures.fits

pub returns-in-None-clause-ends : goal.returns-in-None-clause-ends
returns-in-None-clause-ends g c = c.background_step.ensures.ends

pub returns-in-Some-clause-fits : goal.returns-in-Some-clause-fits
returns-in-Some-clause-fits g c = c.borrow.ensures.fits

pub returns-in-Some-clause-ends : goal.returns-in-Some-clause-ends
returns-in-Some-clause-ends g c = c.borrow.ensures.ends

pub returns-in-None-clause-quiet : goal.returns-in-None-clause-quiet
returns-in-None-clause-quiet g c = c.background_step.ensures.quiet

pub returns-in-None-clause-stays : goal.returns-in-None-clause-stays
returns-in-None-clause-stays g c = c.background_step.ensures.stays

pub returns-in-Some-clause-quiet : goal.returns-in-Some-clause-quiet
returns-in-Some-clause-quiet g c = on_err _ _ refl

pub returns-in-Some-clause-stays : goal.returns-in-Some-clause-stays
returns-in-Some-clause-stays g c = refl

pub returns-in-Some-clause-steady : goal.returns-in-Some-clause-steady
returns-in-Some-clause-steady g c = steady_borrowed c.args.self.now c.fresh_key.new.self c.borrow.new.self c.fresh_key.ensures.same c.borrow.ensures.steady

pub returns-in-None-clause-tries : goal.returns-in-None-clause-tries
returns-in-None-clause-tries g c = tries_from _ _ _ _ _ (passed_effort c.args.self.now c.fresh_key.new.self (g.R.Reader.shown c.args.reader.now) (sym c.control.ensures ∙ c.in-Building.is) c.fresh_key.ensures.same c.fresh_key.ensures.fewer) c.background_step.ensures.tries

pub returns-in-None-clause-falls : goal.returns-in-None-clause-falls
returns-in-None-clause-falls g c a = falls_from c.background_step.result _ _ _ _ _ (passed_effort c.args.self.now c.fresh_key.new.self (g.R.Reader.shown c.args.reader.now) (sym c.control.ensures ∙ c.in-Building.is) c.fresh_key.ensures.same c.fresh_key.ensures.fewer) (c.background_step.ensures.falls (ap (λ (x : Shape). is_background x.control) c.fresh_key.ensures.same ∙ ap is_background (sym c.control.ensures ∙ c.in-Building.is)) (subst Awaiting (sym c.fresh_key.ensures.same) (record { way = a.way; both = a.both })))

pub returns-in-None-clause-still : goal.returns-in-None-clause-still
returns-in-None-clause-still g c = after_borrowed c.background_step.result c.args.self.now c.fresh_key.new.self c.background_step.new.self c.fresh_key.ensures.same (λ way. fresh_passed c.args.self.now c.fresh_key.new.self c.fresh_key.ensures.same (c.fresh_key.ensures.passes way)) c.fresh_key.ensures.further c.background_step.ensures.still

pub returns-in-None-clause-course : goal.returns-in-None-clause-course
returns-in-None-clause-course g c = passed_course c.background_step.result c.args.self.now c.fresh_key.new.self c.background_step.new.self c.fresh_key.ensures.same c.background_step.ensures.course

pub returns-in-None-clause-may_read : goal.returns-in-None-clause-may_read
returns-in-None-clause-may_read g c way = may_read_by Piece c.args.self.now c.args.steps.now c.background_step.new.steps (fast_kind c.args.self.now (sym c.control.ensures ∙ c.in-Building.is) (sym c.strategy.ensures ∙ c.in-FastFirst.is) ∙ ap (while_both FastFirst) (c.in-None.ensures.first (way (ap is_background (sym c.control.ensures ∙ c.in-Building.is))))) (subst (λ (x : Shape). c.background_step.new.steps ≡ piece_read x c.args.steps.now) c.fresh_key.ensures.same c.background_step.ensures.reads)

pub returns-in-None-clause-reads : goal.returns-in-None-clause-reads
returns-in-None-clause-reads g c way = reads_always c.background_step.result Piece c.args.self.now c.args.steps.now c.background_step.new.steps (fast_kind c.args.self.now (sym c.control.ensures ∙ c.in-Building.is) (sym c.strategy.ensures ∙ c.in-FastFirst.is) ∙ ap (while_both FastFirst) (c.in-None.ensures.first (way (ap is_background (sym c.control.ensures ∙ c.in-Building.is))))) (λ s. (subst (λ (x : Shape). c.background_step.new.steps ≡ piece_read x c.args.steps.now) c.fresh_key.ensures.same c.background_step.ensures.reads))

pub returns-in-Some-clause-tries : goal.returns-in-Some-clause-tries
returns-in-Some-clause-tries g c = tries_from _ _ _ _ _ (passed_effort c.args.self.now c.fresh_key.new.self (g.R.Reader.shown c.args.reader.now) (sym c.control.ensures ∙ c.in-Building.is) c.fresh_key.ensures.same c.fresh_key.ensures.fewer) c.borrow.ensures.tries

pub returns-in-Some-clause-falls : goal.returns-in-Some-clause-falls
returns-in-Some-clause-falls g c a = falls_from c.borrow.result _ _ _ _ _ (passed_effort c.args.self.now c.fresh_key.new.self (g.R.Reader.shown c.args.reader.now) (sym c.control.ensures ∙ c.in-Building.is) c.fresh_key.ensures.same c.fresh_key.ensures.fewer) (c.borrow.ensures.falls c.in-Some.ensures.near)

pub returns-in-Some-clause-still : goal.returns-in-Some-clause-still
returns-in-Some-clause-still g c = after_borrowed c.borrow.result c.args.self.now c.fresh_key.new.self c.borrow.new.self c.fresh_key.ensures.same (λ way. fresh_passed c.args.self.now c.fresh_key.new.self c.fresh_key.ensures.same (c.fresh_key.ensures.passes way)) c.fresh_key.ensures.further (only_if c.borrow.result c.fresh_key.new.self c.borrow.new.self c.borrow.ensures.err)

pub returns-in-Some-clause-course : goal.returns-in-Some-clause-course
returns-in-Some-clause-course g c = passed_course c.borrow.result c.args.self.now c.fresh_key.new.self c.borrow.new.self c.fresh_key.ensures.same (course_if c.borrow.result c.fresh_key.new.self c.borrow.new.self c.borrow.ensures.err)

pub returns-in-Some-clause-err : goal.returns-in-Some-clause-err
returns-in-Some-clause-err g c = rest_from c.borrow.result c.args.self.now c.fresh_key.new.self c.borrow.new.self (g.R.Reader.shown c.args.reader.now) ((borrow_keeps c.args.self.now c.fresh_key.new.self c.fresh_key.new.self.borrowed c.fresh_key.ensures.same).rest (g.R.Reader.shown c.args.reader.now) c.requires.fits) (rest_if c.borrow.result c.fresh_key.new.self c.borrow.new.self (g.R.Reader.shown c.args.reader.now) c.borrow.ensures.err)

pub returns-in-Some-clause-may_read : goal.returns-in-Some-clause-may_read
returns-in-Some-clause-may_read g c way = may_read_by (Borrow c.in-Some.key.0) c.args.self.now c.args.steps.now c.borrow.new.steps (fast_kind c.args.self.now (sym c.control.ensures ∙ c.in-Building.is) (sym c.strategy.ensures ∙ c.in-FastFirst.is) ∙ ap (while_both FastFirst) (c.in-Some.ensures.first (way (ap is_background (sym c.control.ensures ∙ c.in-Building.is))))) c.borrow.ensures.reads

pub returns-in-Some-clause-reads : goal.returns-in-Some-clause-reads
returns-in-Some-clause-reads g c way = reads_always c.borrow.result (Borrow c.in-Some.key.0) c.args.self.now c.args.steps.now c.borrow.new.steps (fast_kind c.args.self.now (sym c.control.ensures ∙ c.in-Building.is) (sym c.strategy.ensures ∙ c.in-FastFirst.is) ∙ ap (while_both FastFirst) (c.in-Some.ensures.first (way (ap is_background (sym c.control.ensures ∙ c.in-Building.is))))) (λ s. c.borrow.ensures.reads)

pub returns-in-Some-clause-does : goal.returns-in-Some-clause-does
returns-in-Some-clause-does g c way = borrow_does c.borrow.result _ _ (g.R.Reader.shown c.args.reader.now) c.args.steps.now c.borrow.new.steps c.args.self.now c.fresh_key.new.self c.borrow.new.self c.in-Some.key.0 (fast_kind c.args.self.now (sym c.control.ensures ∙ c.in-Building.is) (sym c.strategy.ensures ∙ c.in-FastFirst.is) ∙ ap (while_both FastFirst) (c.in-Some.ensures.first (way (ap is_background (sym c.control.ensures ∙ c.in-Building.is))))) c.fresh_key.ensures.same c.fresh_key.ensures.further c.borrow.ensures.does

pub returns-in-Sorted-clause-steady : goal.returns-in-Sorted-clause-steady
returns-in-Sorted-clause-steady g c = c.front_step.ensures.steady

pub returns-in-Sorted-clause-fits : goal.returns-in-Sorted-clause-fits
returns-in-Sorted-clause-fits g c = c.front_step.ensures.fits

pub returns-in-Sorted-clause-step : goal.returns-in-Sorted-clause-step
returns-in-Sorted-clause-step g c = c.front_step.ensures.step

pub returns-in-Sorted-clause-ends : goal.returns-in-Sorted-clause-ends
returns-in-Sorted-clause-ends g c = c.front_step.ensures.ends

pub returns-in-Sorted-clause-tries : goal.returns-in-Sorted-clause-tries
returns-in-Sorted-clause-tries g c = c.front_step.ensures.tries

pub returns-in-Sorted-clause-falls : goal.returns-in-Sorted-clause-falls
returns-in-Sorted-clause-falls g c a = c.front_step.ensures.falls

pub returns-in-Sorted-clause-err : goal.returns-in-Sorted-clause-err
returns-in-Sorted-clause-err g c = rest_if c.front_step.result c.args.self.now c.front_step.new.self (g.R.Reader.shown c.args.reader.now) c.front_step.ensures.err

pub returns-in-Sorted-clause-still : goal.returns-in-Sorted-clause-still
returns-in-Sorted-clause-still g c = only_if c.front_step.result c.args.self.now c.front_step.new.self c.front_step.ensures.err

pub returns-in-Sorted-clause-course : goal.returns-in-Sorted-clause-course
returns-in-Sorted-clause-course g c = course_if c.front_step.result c.args.self.now c.front_step.new.self c.front_step.ensures.err

pub returns-in-Sorted-clause-quiet : goal.returns-in-Sorted-clause-quiet
returns-in-Sorted-clause-quiet g c = on_err _ _ refl

pub returns-in-Sorted-clause-stays : goal.returns-in-Sorted-clause-stays
returns-in-Sorted-clause-stays g c = refl

pub returns-in-Sorted-clause-settled : goal.returns-in-Sorted-clause-settled
returns-in-Sorted-clause-settled g c = c.front_step.ensures.settled

pub returns-in-Sorted-clause-records : goal.returns-in-Sorted-clause-records
returns-in-Sorted-clause-records g c = c.front_step.ensures.records

pub returns-in-Sorted-clause-pages : goal.returns-in-Sorted-clause-pages
returns-in-Sorted-clause-pages g c settled = c.front_step.ensures.pages

pub returns-in-Sorted-clause-unasked : goal.returns-in-Sorted-clause-unasked
returns-in-Sorted-clause-unasked g c settled = refl

pub returns-in-Sorted-clause-does : goal.returns-in-Sorted-clause-does
returns-in-Sorted-clause-does g c way = beside_does c.front_step.result _ _ (g.R.Reader.shown c.args.reader.now) c.args.steps.now c.front_step.new.steps c.args.self.now c.front_step.new.self (sym c.control.ensures ∙ c.in-Building.is) (of_two _ c.strategy.result c.strategy.ensures c.in-Sorted.is) c.front_step.ensures.fetches c.front_step.ensures.does

pub returns-in-Sorted-clause-may_read : goal.returns-in-Sorted-clause-may_read
returns-in-Sorted-clause-may_read g c way = beside_may_read c.args.self.now (g.R.Reader.shown c.args.reader.now) c.args.steps.now c.front_step.new.steps (sym c.control.ensures ∙ c.in-Building.is) (of_two _ c.strategy.result c.strategy.ensures c.in-Sorted.is) c.requires.fits c.front_step.ensures.may_read

pub returns-in-Sorted-clause-reads : goal.returns-in-Sorted-clause-reads
returns-in-Sorted-clause-reads g c way = beside_reads c.front_step.result c.args.self.now (g.R.Reader.shown c.args.reader.now) c.args.steps.now c.front_step.new.steps (sym c.control.ensures ∙ c.in-Building.is) (of_two _ c.strategy.result c.strategy.ensures c.in-Sorted.is) c.requires.fits c.front_step.ensures.reads

pub front_step-requires-clause-front : goal.front_step-requires-clause-front
front_step-requires-clause-front g c = beside_ahead c.args.self.now (sym c.control.ensures ∙ c.in-Building.is) (of_two _ c.strategy.result c.strategy.ensures c.in-Sorted.is)

pub returns-in-Table-clause-steady : goal.returns-in-Table-clause-steady
returns-in-Table-clause-steady g c = c.background_step-in-Table.ensures.steady

pub returns-in-Table-clause-fits : goal.returns-in-Table-clause-fits
returns-in-Table-clause-fits g c = c.background_step-in-Table.ensures.fits

pub returns-in-Table-clause-step : goal.returns-in-Table-clause-step
returns-in-Table-clause-step g c = c.background_step-in-Table.ensures.step

pub returns-in-Table-clause-ends : goal.returns-in-Table-clause-ends
returns-in-Table-clause-ends g c = c.background_step-in-Table.ensures.ends

pub returns-in-Table-clause-err : goal.returns-in-Table-clause-err
returns-in-Table-clause-err g c = c.background_step-in-Table.ensures.err

pub returns-in-Table-clause-quiet : goal.returns-in-Table-clause-quiet
returns-in-Table-clause-quiet g c = c.background_step-in-Table.ensures.quiet

pub returns-in-Table-clause-still : goal.returns-in-Table-clause-still
returns-in-Table-clause-still g c = c.background_step-in-Table.ensures.still

pub returns-in-Table-clause-stays : goal.returns-in-Table-clause-stays
returns-in-Table-clause-stays g c = c.background_step-in-Table.ensures.stays

pub returns-in-Table-clause-course : goal.returns-in-Table-clause-course
returns-in-Table-clause-course g c = c.background_step-in-Table.ensures.course

pub returns-in-Table-clause-tries : goal.returns-in-Table-clause-tries
returns-in-Table-clause-tries g c = c.background_step-in-Table.ensures.tries

pub returns-in-Table-clause-falls : goal.returns-in-Table-clause-falls
returns-in-Table-clause-falls g c a = c.background_step-in-Table.ensures.falls (ap is_background (sym c.control.ensures ∙ c.in-Building.is)) a

pub returns-in-Table-clause-may_read : goal.returns-in-Table-clause-may_read
returns-in-Table-clause-may_read g c way = may_read_by Piece c.args.self.now c.args.steps.now c.background_step-in-Table.new.steps (background_kind c.args.self.now.control c.args.self.now.strategy (fresh_of c.args.self.now) (sym c.control.ensures ∙ c.in-Building.is) (of_one _ c.strategy.result c.strategy.ensures c.in-Table.is)) c.background_step-in-Table.ensures.reads

pub returns-in-Table-clause-reads : goal.returns-in-Table-clause-reads
returns-in-Table-clause-reads g c way = reads_always c.background_step-in-Table.result Piece c.args.self.now c.args.steps.now c.background_step-in-Table.new.steps (background_kind c.args.self.now.control c.args.self.now.strategy (fresh_of c.args.self.now) (sym c.control.ensures ∙ c.in-Building.is) (of_one _ c.strategy.result c.strategy.ensures c.in-Table.is)) (λ s. c.background_step-in-Table.ensures.reads)

pub returns-in-Table-clause-does : goal.returns-in-Table-clause-does
returns-in-Table-clause-does g c way = piece_does c.background_step-in-Table.result _ _ _ (g.R.Reader.shown c.args.reader.now) c.args.steps.now c.background_step-in-Table.new.steps c.args.self.now c.background_step-in-Table.new.self (sym c.control.ensures ∙ c.in-Building.is) (of_one _ c.strategy.result c.strategy.ensures c.in-Table.is) c.background_step-in-Table.ensures.does

pub returns-in-Done-clause-step : goal.returns-in-Done-clause-step
returns-in-Done-clause-step g c =
    let none = done_rest c.args.self.now (g.R.Reader.shown c.args.reader.now) (sym c.control.ensures ∙ c.in-Done.is) in (none, none)

pub returns-in-ForegroundAlone-clause-steady : goal.returns-in-ForegroundAlone-clause-steady
returns-in-ForegroundAlone-clause-steady g c = c.front_step-in-ForegroundAlone.ensures.steady

pub returns-in-ForegroundAlone-clause-fits : goal.returns-in-ForegroundAlone-clause-fits
returns-in-ForegroundAlone-clause-fits g c = c.front_step-in-ForegroundAlone.ensures.fits

pub returns-in-ForegroundAlone-clause-step : goal.returns-in-ForegroundAlone-clause-step
returns-in-ForegroundAlone-clause-step g c = c.front_step-in-ForegroundAlone.ensures.step

pub returns-in-ForegroundAlone-clause-ends : goal.returns-in-ForegroundAlone-clause-ends
returns-in-ForegroundAlone-clause-ends g c = c.front_step-in-ForegroundAlone.ensures.ends

pub returns-in-ForegroundAlone-clause-tries : goal.returns-in-ForegroundAlone-clause-tries
returns-in-ForegroundAlone-clause-tries g c = c.front_step-in-ForegroundAlone.ensures.tries

pub returns-in-ForegroundAlone-clause-settled : goal.returns-in-ForegroundAlone-clause-settled
returns-in-ForegroundAlone-clause-settled g c = c.front_step-in-ForegroundAlone.ensures.settled

pub returns-in-ForegroundAlone-clause-err : goal.returns-in-ForegroundAlone-clause-err
returns-in-ForegroundAlone-clause-err g c = rest_if c.front_step-in-ForegroundAlone.result c.args.self.now c.front_step-in-ForegroundAlone.new.self (g.R.Reader.shown c.args.reader.now) c.front_step-in-ForegroundAlone.ensures.err

pub returns-in-ForegroundAlone-clause-still : goal.returns-in-ForegroundAlone-clause-still
returns-in-ForegroundAlone-clause-still g c = only_if c.front_step-in-ForegroundAlone.result c.args.self.now c.front_step-in-ForegroundAlone.new.self c.front_step-in-ForegroundAlone.ensures.err

pub returns-in-ForegroundAlone-clause-course : goal.returns-in-ForegroundAlone-clause-course
returns-in-ForegroundAlone-clause-course g c = course_if c.front_step-in-ForegroundAlone.result c.args.self.now c.front_step-in-ForegroundAlone.new.self c.front_step-in-ForegroundAlone.ensures.err

pub returns-in-ForegroundAlone-clause-quiet : goal.returns-in-ForegroundAlone-clause-quiet
returns-in-ForegroundAlone-clause-quiet g c = on_err _ _ refl

pub returns-in-ForegroundAlone-clause-stays : goal.returns-in-ForegroundAlone-clause-stays
returns-in-ForegroundAlone-clause-stays g c = refl

pub returns-in-ForegroundAlone-clause-falls : goal.returns-in-ForegroundAlone-clause-falls
returns-in-ForegroundAlone-clause-falls g c a = c.front_step-in-ForegroundAlone.ensures.falls

pub returns-in-ForegroundAlone-clause-does : goal.returns-in-ForegroundAlone-clause-does
returns-in-ForegroundAlone-clause-does g c way = walk_does c.front_step-in-ForegroundAlone.result _ _ (g.R.Reader.shown c.args.reader.now) c.args.steps.now c.front_step-in-ForegroundAlone.new.steps c.args.self.now c.front_step-in-ForegroundAlone.new.self (kind_at c.args.self.now.control ForegroundAlone c.args.self.now.strategy (fresh_of c.args.self.now) (sym c.control.ensures ∙ c.in-ForegroundAlone.is)) c.front_step-in-ForegroundAlone.ensures.fetches (ahead_forgets c.front_step-in-ForegroundAlone.result c.args.self.now c.front_step-in-ForegroundAlone.new.self (ap (λ (x : Control). is_building x && is_index_only c.args.self.now.strategy) (sym c.control.ensures ∙ c.in-ForegroundAlone.is)) c.front_step-in-ForegroundAlone.ensures.does)

pub returns-in-ForegroundAlone-clause-may_read : goal.returns-in-ForegroundAlone-clause-may_read
returns-in-ForegroundAlone-clause-may_read g c way = may_read_by Walk c.args.self.now c.args.steps.now c.front_step-in-ForegroundAlone.new.steps (kind_at c.args.self.now.control ForegroundAlone c.args.self.now.strategy (fresh_of c.args.self.now) (sym c.control.ensures ∙ c.in-ForegroundAlone.is)) c.front_step-in-ForegroundAlone.ensures.may_read

pub returns-in-ForegroundAlone-clause-reads : goal.returns-in-ForegroundAlone-clause-reads
returns-in-ForegroundAlone-clause-reads g c way = reads_by c.front_step-in-ForegroundAlone.result Walk c.args.self.now c.args.steps.now c.front_step-in-ForegroundAlone.new.steps (kind_at c.args.self.now.control ForegroundAlone c.args.self.now.strategy (fresh_of c.args.self.now) (sym c.control.ensures ∙ c.in-ForegroundAlone.is)) c.front_step-in-ForegroundAlone.ensures.reads

pub returns-in-ForegroundAlone-clause-records : goal.returns-in-ForegroundAlone-clause-records
returns-in-ForegroundAlone-clause-records g c = c.front_step-in-ForegroundAlone.ensures.records

pub returns-in-ForegroundAlone-clause-pages : goal.returns-in-ForegroundAlone-clause-pages
returns-in-ForegroundAlone-clause-pages g c settled = c.front_step-in-ForegroundAlone.ensures.pages

pub returns-in-ForegroundAlone-clause-unasked : goal.returns-in-ForegroundAlone-clause-unasked
returns-in-ForegroundAlone-clause-unasked g c settled = refl

pub returns-in-BackgroundAlone-clause-steady : goal.returns-in-BackgroundAlone-clause-steady
returns-in-BackgroundAlone-clause-steady g c = c.background_step-in-BackgroundAlone.ensures.steady

pub returns-in-BackgroundAlone-clause-fits : goal.returns-in-BackgroundAlone-clause-fits
returns-in-BackgroundAlone-clause-fits g c = c.background_step-in-BackgroundAlone.ensures.fits

pub returns-in-BackgroundAlone-clause-step : goal.returns-in-BackgroundAlone-clause-step
returns-in-BackgroundAlone-clause-step g c = c.background_step-in-BackgroundAlone.ensures.step

pub returns-in-BackgroundAlone-clause-ends : goal.returns-in-BackgroundAlone-clause-ends
returns-in-BackgroundAlone-clause-ends g c = c.background_step-in-BackgroundAlone.ensures.ends

pub returns-in-BackgroundAlone-clause-err : goal.returns-in-BackgroundAlone-clause-err
returns-in-BackgroundAlone-clause-err g c = c.background_step-in-BackgroundAlone.ensures.err

pub returns-in-BackgroundAlone-clause-quiet : goal.returns-in-BackgroundAlone-clause-quiet
returns-in-BackgroundAlone-clause-quiet g c = c.background_step-in-BackgroundAlone.ensures.quiet

pub returns-in-BackgroundAlone-clause-still : goal.returns-in-BackgroundAlone-clause-still
returns-in-BackgroundAlone-clause-still g c = c.background_step-in-BackgroundAlone.ensures.still

pub returns-in-BackgroundAlone-clause-stays : goal.returns-in-BackgroundAlone-clause-stays
returns-in-BackgroundAlone-clause-stays g c = c.background_step-in-BackgroundAlone.ensures.stays

pub returns-in-BackgroundAlone-clause-course : goal.returns-in-BackgroundAlone-clause-course
returns-in-BackgroundAlone-clause-course g c = c.background_step-in-BackgroundAlone.ensures.course

pub returns-in-BackgroundAlone-clause-tries : goal.returns-in-BackgroundAlone-clause-tries
returns-in-BackgroundAlone-clause-tries g c = c.background_step-in-BackgroundAlone.ensures.tries

pub returns-in-BackgroundAlone-clause-falls : goal.returns-in-BackgroundAlone-clause-falls
returns-in-BackgroundAlone-clause-falls g c a = c.background_step-in-BackgroundAlone.ensures.falls (ap is_background (sym c.control.ensures ∙ c.in-BackgroundAlone.is)) a

pub returns-in-BackgroundAlone-clause-does : goal.returns-in-BackgroundAlone-clause-does
returns-in-BackgroundAlone-clause-does g c way = does_by c.background_step-in-BackgroundAlone.result Piece _ _ _ (g.R.Reader.shown c.args.reader.now) c.args.steps.now c.background_step-in-BackgroundAlone.new.steps c.args.self.now c.background_step-in-BackgroundAlone.new.self (kind_at c.args.self.now.control BackgroundAlone c.args.self.now.strategy (fresh_of c.args.self.now) (sym c.control.ensures ∙ c.in-BackgroundAlone.is)) c.background_step-in-BackgroundAlone.ensures.does

pub returns-in-BackgroundAlone-clause-may_read : goal.returns-in-BackgroundAlone-clause-may_read
returns-in-BackgroundAlone-clause-may_read g c way = may_read_by Piece c.args.self.now c.args.steps.now c.background_step-in-BackgroundAlone.new.steps (kind_at c.args.self.now.control BackgroundAlone c.args.self.now.strategy (fresh_of c.args.self.now) (sym c.control.ensures ∙ c.in-BackgroundAlone.is)) c.background_step-in-BackgroundAlone.ensures.reads

pub returns-in-BackgroundAlone-clause-reads : goal.returns-in-BackgroundAlone-clause-reads
returns-in-BackgroundAlone-clause-reads g c way = reads_always c.background_step-in-BackgroundAlone.result Piece c.args.self.now c.args.steps.now c.background_step-in-BackgroundAlone.new.steps (kind_at c.args.self.now.control BackgroundAlone c.args.self.now.strategy (fresh_of c.args.self.now) (sym c.control.ensures ∙ c.in-BackgroundAlone.is)) (λ s. c.background_step-in-BackgroundAlone.ensures.reads)

pub returns-in-Ok-clause-steady : goal.returns-in-Ok-clause-steady
returns-in-Ok-clause-steady g c =
    let was = sym c.control.ensures ∙ c.in-FinalList.is in
    let is = list_control c.args.self.now c.scan_list.new.self was c.scan_list.ensures.same in
    list_steady c.args.self.now c.scan_list.new.self c.finish.new.self c.in-Ok.scanned is c.scan_list.ensures.same c.finish.ensures

pub returns-in-Ok-clause-fits : goal.returns-in-Ok-clause-fits
returns-in-Ok-clause-fits g c =
    let was = sym c.control.ensures ∙ c.in-FinalList.is in
    list_fits c.args.self.now c.scan_list.new.self c.finish.new.self c.in-Ok.scanned (g.R.Reader.shown c.args.reader.now) was c.scan_list.ensures.same c.finish.ensures c.requires.fits

pub returns-in-Ok-clause-step : goal.returns-in-Ok-clause-step
returns-in-Ok-clause-step g c =
    let was = sym c.control.ensures ∙ c.in-FinalList.is in
    list_does c.args.self.now c.scan_list.new.self c.finish.new.self c.in-Ok.scanned (g.R.Reader.shown c.args.reader.now) was c.scan_list.ensures.same c.finish.ensures c.requires.fits c.in-Ok.ensures.marks

pub returns-in-Ok-clause-ends : goal.returns-in-Ok-clause-ends
returns-in-Ok-clause-ends g c =
    let was = sym c.control.ensures ∙ c.in-FinalList.is in
    let is = list_control c.args.self.now c.scan_list.new.self was c.scan_list.ensures.same in
    list_ends c.scan_list.new.self c.finish.new.self c.in-Ok.scanned is c.finish.ensures

pub returns-in-Ok-clause-again : goal.returns-in-Ok-clause-again
returns-in-Ok-clause-again g c done =
    let was = sym c.control.ensures ∙ c.in-FinalList.is in
    not_done c.args.self.now.control was done

pub returns-in-Ok-clause-does : goal.returns-in-Ok-clause-does
returns-in-Ok-clause-does g c way =
    key_does _ _ (g.R.Reader.shown c.args.reader.now) c.args.steps.now c.scan_list.new.steps c.in-Ok.scanned c.args.self.now c.finish.new.self (kind_at c.args.self.now.control FinalList c.args.self.now.strategy (fresh_of c.args.self.now) (sym c.control.ensures ∙ c.in-FinalList.is)) c.in-Ok.ensures.fetches (list_ended_by c.args.self.now c.scan_list.new.self c.finish.new.self c.in-Ok.scanned c.scan_list.ensures.same c.finish.ensures) (list_keys c.args.self.now c.scan_list.new.self c.finish.new.self c.in-Ok.scanned c.args.steps.now c.scan_list.new.steps c.finish.ensures c.in-Ok.ensures.falls)

pub returns-in-Ok-clause-may_read : goal.returns-in-Ok-clause-may_read
returns-in-Ok-clause-may_read g c way =
    may_read_by NextKey c.args.self.now c.args.steps.now c.scan_list.new.steps (kind_at c.args.self.now.control FinalList c.args.self.now.strategy (fresh_of c.args.self.now) (sym c.control.ensures ∙ c.in-FinalList.is)) c.scan_list.ensures.may_read

pub returns-in-Ok-clause-reads : goal.returns-in-Ok-clause-reads
returns-in-Ok-clause-reads g c way =
    reads_as NextKey c.args.self.now c.in-Ok.scanned c.args.steps.now c.scan_list.new.steps (kind_at c.args.self.now.control FinalList c.args.self.now.strategy (fresh_of c.args.self.now) (sym c.control.ensures ∙ c.in-FinalList.is)) c.scan_list.ensures.may_read

pub returns-in-Ok-clause-stays : goal.returns-in-Ok-clause-stays
returns-in-Ok-clause-stays g c = refl

pub returns-in-Ok-clause-tries : goal.returns-in-Ok-clause-tries
returns-in-Ok-clause-tries g c =
    let was = sym c.control.ensures ∙ c.in-FinalList.is in
    let is = list_control c.args.self.now c.scan_list.new.self was c.scan_list.ensures.same in
    list_tries c.args.self.now c.scan_list.new.self c.finish.new.self c.in-Ok.scanned (g.R.Reader.shown c.args.reader.now) c.args.steps.now c.scan_list.new.steps was is c.finish.ensures c.scan_list.ensures.tries

pub returns-in-Ok-clause-falls : goal.returns-in-Ok-clause-falls
returns-in-Ok-clause-falls g c awaiting =
    let was = sym c.control.ensures ∙ c.in-FinalList.is in
    let is = list_control c.args.self.now c.scan_list.new.self was c.scan_list.ensures.same in
    list_falls c.args.self.now c.scan_list.new.self c.finish.new.self c.in-Ok.scanned (g.R.Reader.shown c.args.reader.now) c.args.steps.now c.scan_list.new.steps was is c.finish.ensures c.in-Ok.ensures.falls

pub returns-in-Ok-clause-settled : goal.returns-in-Ok-clause-settled
returns-in-Ok-clause-settled g c settled =
    let was = sym c.control.ensures ∙ c.in-FinalList.is in
    let is = list_control c.args.self.now c.scan_list.new.self was c.scan_list.ensures.same in
    list_settled c.args.self.now c.scan_list.new.self c.finish.new.self c.in-Ok.scanned is c.scan_list.ensures.same c.finish.ensures settled

pub returns-in-Ok-clause-unasked : goal.returns-in-Ok-clause-unasked
returns-in-Ok-clause-unasked g c settled = refl

pub returns-in-Ok-clause-pages : goal.returns-in-Ok-clause-pages
returns-in-Ok-clause-pages g c settled = c.scan_list.ensures.pages

pub returns-in-Ok-clause-records : goal.returns-in-Ok-clause-records
returns-in-Ok-clause-records g c settled =
    let was = sym c.control.ensures ∙ c.in-FinalList.is in
    let is = list_control c.args.self.now c.scan_list.new.self was c.scan_list.ensures.same in
    list_records c.args.self.now c.scan_list.new.self c.finish.new.self c.in-Ok.scanned (g.R.Reader.shown c.args.reader.now) c.args.steps.now c.scan_list.new.steps was is c.finish.ensures c.in-Ok.ensures.records

pub returns-in-Err-clause-steady : goal.returns-in-Err-clause-steady
returns-in-Err-clause-steady g c =
    steady_at c.args.self.now c.scan_list.new.self c.scan_list.ensures.same

pub returns-in-Err-clause-fits : goal.returns-in-Err-clause-fits
returns-in-Err-clause-fits g c =
    let was = sym c.control.ensures ∙ c.in-FinalList.is in
    keys_fit c.args.self.now c.scan_list.new.self (g.R.Reader.shown c.args.reader.now) was c.scan_list.ensures.same c.requires.fits

pub returns-in-Err-clause-again : goal.returns-in-Err-clause-again
returns-in-Err-clause-again g c done =
    let was = sym c.control.ensures ∙ c.in-FinalList.is in
    not_done c.args.self.now.control was done

pub returns-in-Err-clause-err : goal.returns-in-Err-clause-err
returns-in-Err-clause-err g c =
    let was = sym c.control.ensures ∙ c.in-FinalList.is in
    passed_rest c.args.self.now c.scan_list.new.self (g.R.Reader.shown c.args.reader.now) was c.scan_list.ensures.same c.in-Err.ensures.passed

pub returns-in-Err-clause-does : goal.returns-in-Err-clause-does
returns-in-Err-clause-does g c way = tt

pub returns-in-Err-clause-quiet : goal.returns-in-Err-clause-quiet
returns-in-Err-clause-quiet g c = refl

pub returns-in-Err-clause-may_read : goal.returns-in-Err-clause-may_read
returns-in-Err-clause-may_read g c way =
    may_read_by NextKey c.args.self.now c.args.steps.now c.scan_list.new.steps (kind_at c.args.self.now.control FinalList c.args.self.now.strategy (fresh_of c.args.self.now) (sym c.control.ensures ∙ c.in-FinalList.is)) c.scan_list.ensures.may_read

pub returns-in-Err-clause-reads : goal.returns-in-Err-clause-reads
returns-in-Err-clause-reads g c way = tt

pub returns-in-Err-clause-still : goal.returns-in-Err-clause-still
returns-in-Err-clause-still g c =
    keys_only c.args.self.now c.scan_list.new.self c.scan_list.ensures.same c.scan_list.ensures.tries.less

pub returns-in-Err-clause-stays : goal.returns-in-Err-clause-stays
returns-in-Err-clause-stays g c = refl

pub returns-in-Err-clause-course : goal.returns-in-Err-clause-course
returns-in-Err-clause-course g c =
    at_course c.args.self.now c.scan_list.new.self c.scan_list.ensures.same

pub returns-in-Err-clause-tries : goal.returns-in-Err-clause-tries
returns-in-Err-clause-tries g c =
    let was = sym c.control.ensures ∙ c.in-FinalList.is in
    let is = list_control c.args.self.now c.scan_list.new.self was c.scan_list.ensures.same in
    keys_try c.args.self.now c.scan_list.new.self (g.R.Reader.shown c.args.reader.now) c.args.steps.now c.scan_list.new.steps was is c.scan_list.ensures.tries

pub returns-in-Err-clause-falls : goal.returns-in-Err-clause-falls
returns-in-Err-clause-falls g c awaiting = tt

pub returns-in-Err-clause-settled : goal.returns-in-Err-clause-settled
returns-in-Err-clause-settled g c settled =
    at_settled c.args.self.now c.scan_list.new.self c.scan_list.ensures.same settled

pub returns-in-Err-clause-unasked : goal.returns-in-Err-clause-unasked
returns-in-Err-clause-unasked g c settled = refl

pub returns-in-Err-clause-pages : goal.returns-in-Err-clause-pages
returns-in-Err-clause-pages g c settled = c.scan_list.ensures.pages

pub returns-in-Err-clause-records : goal.returns-in-Err-clause-records
returns-in-Err-clause-records g c settled = tt

pub returns-in-FinalTable-clause-steady : goal.returns-in-FinalTable-clause-steady
returns-in-FinalTable-clause-steady g c = c.table_step.ensures.steady

pub returns-in-FinalTable-clause-fits : goal.returns-in-FinalTable-clause-fits
returns-in-FinalTable-clause-fits g c = c.table_step.ensures.fits

pub returns-in-FinalTable-clause-step : goal.returns-in-FinalTable-clause-step
returns-in-FinalTable-clause-step g c = c.table_step.ensures.step

pub returns-in-FinalTable-clause-ends : goal.returns-in-FinalTable-clause-ends
returns-in-FinalTable-clause-ends g c = c.table_step.ensures.ends

pub returns-in-FinalTable-clause-tries : goal.returns-in-FinalTable-clause-tries
returns-in-FinalTable-clause-tries g c = c.table_step.ensures.tries

pub returns-in-FinalTable-clause-err : goal.returns-in-FinalTable-clause-err
returns-in-FinalTable-clause-err g c = rest_if c.table_step.result c.args.self.now c.table_step.new.self (g.R.Reader.shown c.args.reader.now) c.table_step.ensures.err

pub returns-in-FinalTable-clause-still : goal.returns-in-FinalTable-clause-still
returns-in-FinalTable-clause-still g c = only_if c.table_step.result c.args.self.now c.table_step.new.self c.table_step.ensures.err

pub returns-in-FinalTable-clause-course : goal.returns-in-FinalTable-clause-course
returns-in-FinalTable-clause-course g c = course_if c.table_step.result c.args.self.now c.table_step.new.self c.table_step.ensures.err

pub returns-in-FinalTable-clause-quiet : goal.returns-in-FinalTable-clause-quiet
returns-in-FinalTable-clause-quiet g c = on_err _ _ refl

pub returns-in-FinalTable-clause-stays : goal.returns-in-FinalTable-clause-stays
returns-in-FinalTable-clause-stays g c = refl

pub returns-in-FinalTable-clause-falls : goal.returns-in-FinalTable-clause-falls
returns-in-FinalTable-clause-falls g c a = c.table_step.ensures.falls

pub returns-in-FinalTable-clause-does : goal.returns-in-FinalTable-clause-does
returns-in-FinalTable-clause-does g c way = page_does c.table_step.result _ _ (g.R.Reader.shown c.args.reader.now) c.args.steps.now c.table_step.new.steps c.args.self.now c.table_step.new.self (kind_at c.args.self.now.control FinalTable c.args.self.now.strategy (fresh_of c.args.self.now) (sym c.control.ensures ∙ c.in-FinalTable.is)) c.table_step.ensures.does c.table_step.ensures.turns

pub returns-in-FinalTable-clause-may_read : goal.returns-in-FinalTable-clause-may_read
returns-in-FinalTable-clause-may_read g c way = may_read_by NextPage c.args.self.now c.args.steps.now c.table_step.new.steps (kind_at c.args.self.now.control FinalTable c.args.self.now.strategy (fresh_of c.args.self.now) (sym c.control.ensures ∙ c.in-FinalTable.is)) c.table_step.ensures.may_read

pub returns-in-FinalTable-clause-reads : goal.returns-in-FinalTable-clause-reads
returns-in-FinalTable-clause-reads g c way = reads_by c.table_step.result NextPage c.args.self.now c.args.steps.now c.table_step.new.steps (kind_at c.args.self.now.control FinalTable c.args.self.now.strategy (fresh_of c.args.self.now) (sym c.control.ensures ∙ c.in-FinalTable.is)) c.table_step.ensures.reads
