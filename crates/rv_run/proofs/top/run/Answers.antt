use Rattle.std.proofs.Common.{◌≡◌, ◌∙◌, Err, refl, sym, ap, map, subst}
use Rattle.rv_run.specs.Performing.{IsPerformed, Stops}
use Rattle.rv_run.specs.declared.status.Status.{Status}
use Rattle.rv_run.specs.declared.status.Status.TheVariants as statuses
use Rattle.rv_run.specs.Phases.{FirstPhasesUnder, PhasesUnder}
use Rattle.rv_run.specs.Ruling.{CallsUnder, FirstCallsUnder, judging, settings_of}
use Rattle.rv_run.specs.Script.{IsFrontInOrder, IsInOrder}
use Rattle.rv_words.specs.declared.choices.Asked.{Asked}
use Rattle.rv_run.proofs.Ends.{performs_writes, runs_so, some_if}
use Rattle.rv_run.proofs.top.run.Goals as goal

pub returns-in-Ok-clause-done : goal.returns-in-Ok-clause-done
returns-in-Ok-clause-done g c = λ asked ask done. rw (c.in-Ok.ensures.only asked ask) (performs_writes c.perform_asked.result.core (λ core. core.engine.history) _ _ _ _ c.in-Ok.begun.script c.in-Ok.ensures.script (c.perform_asked.ensures.done done))

pub returns-in-Ok-clause-all_read : goal.returns-in-Ok-clause-all_read
returns-in-Ok-clause-all_read g c = λ asked ask none some. c.in-Ok.ensures.all_read (ap (λ (a : Asked). a.seed) (sym (c.in-Ok.ensures.only asked ask)) ∙ none)

pub returns-in-Ok-clause-memory : goal.returns-in-Ok-clause-memory
returns-in-Ok-clause-memory g c = λ asked ask memory. rw (c.in-Ok.ensures.only asked ask) (some_if c.perform_asked.result.core _ (performs_writes c.perform_asked.result.core (λ core. core.engine.history) _ _ _ _ c.in-Ok.begun.script c.in-Ok.ensures.script (c.perform_asked.ensures.memory memory)))

pub returns-in-Ok-clause-front : goal.returns-in-Ok-clause-front
returns-in-Ok-clause-front g c = λ asked ask fault. rw (c.in-Ok.ensures.only asked ask) (performs_writes c.perform_asked.result.core (λ core. core.engine.history) _ _ _ _ c.in-Ok.begun.script c.in-Ok.ensures.script (c.perform_asked.ensures.front fault))

pub returns-in-Ok-clause-unread : goal.returns-in-Ok-clause-unread
returns-in-Ok-clause-unread g c = c.begin.ensures.unread

pub returns-in-Ok-clause-settings : goal.returns-in-Ok-clause-settings
returns-in-Ok-clause-settings g c = λ asked ask. rw (c.in-Ok.ensures.only asked ask) (some_if c.perform_asked.result.core (λ core. core.settings ≡ settings_of c.in-Ok.begun.asked) c.perform_asked.ensures.core)

pub returns-in-Err-clause-generated : goal.returns-in-Err-clause-generated
returns-in-Err-clause-generated g c = λ asked ask some. rw (c.ended.ensures.status, c.in-Err.ensures.generated asked ask some) tt

pub returns-in-Err-clause-unread : goal.returns-in-Err-clause-unread
returns-in-Err-clause-unread g c = c.begin.ensures.unread

pub returns-in-Ok-clause-ruled : goal.returns-in-Ok-clause-ruled
returns-in-Ok-clause-ruled g c = λ asked ask plain done. rw (c.in-Ok.ensures.only asked ask) (runs_so c.perform_asked.result.core (λ core. core.engine) (CallsUnder g.P.Reader.shown (settings_of c.in-Ok.begun.asked) c.args.store (map (λ j. judging ((goal.Judge-dyn g (j.vtable, j.value)).would j.value) ((goal.Judge-dyn g (j.vtable, j.value)).state j.value)) c.args.judges.items) c.in-Ok.begun.asked.judge) _ _ c.in-Ok.begun.script c.in-Ok.ensures.script (c.perform_asked.ensures.ruled (ap (λ (a : Asked). a.threads) (sym (c.in-Ok.ensures.only asked ask)) ∙ plain) done))

pub returns-in-Ok-clause-ruled_first : goal.returns-in-Ok-clause-ruled_first
returns-in-Ok-clause-ruled_first g c = λ asked ask plain. rw (c.in-Ok.ensures.only asked ask) (some_if c.perform_asked.result.core _ (runs_so c.perform_asked.result.core (λ core. core.engine) (FirstCallsUnder g.P.Reader.shown (settings_of c.in-Ok.begun.asked) c.args.store (map (λ j. judging ((goal.Judge-dyn g (j.vtable, j.value)).would j.value) ((goal.Judge-dyn g (j.vtable, j.value)).state j.value)) c.args.judges.items) c.in-Ok.begun.asked.judge) _ _ c.in-Ok.begun.script c.in-Ok.ensures.script (c.perform_asked.ensures.ruled_first (ap (λ (a : Asked). a.threads) (sym (c.in-Ok.ensures.only asked ask)) ∙ plain))))

pub returns-in-Ok-clause-led : goal.returns-in-Ok-clause-led
returns-in-Ok-clause-led g c = λ asked ask threads done. rw (c.in-Ok.ensures.only asked ask) (runs_so c.perform_asked.result.core (λ core. core.engine) (PhasesUnder g.P.Reader.shown (settings_of c.in-Ok.begun.asked) c.args.store (map (λ j. judging ((goal.Judge-dyn g (j.vtable, j.value)).would j.value) ((goal.Judge-dyn g (j.vtable, j.value)).state j.value)) c.args.judges.items) c.in-Ok.begun.asked.judge) _ _ c.in-Ok.begun.script c.in-Ok.ensures.script (c.perform_asked.ensures.led (ap (λ (a : Asked). a.threads) (sym (c.in-Ok.ensures.only asked ask)) ∙ threads) done))

pub returns-in-Ok-clause-led_first : goal.returns-in-Ok-clause-led_first
returns-in-Ok-clause-led_first g c = λ asked ask threads. rw (c.in-Ok.ensures.only asked ask) (some_if c.perform_asked.result.core _ (runs_so c.perform_asked.result.core (λ core. core.engine) (FirstPhasesUnder g.P.Reader.shown (settings_of c.in-Ok.begun.asked) c.args.store (map (λ j. judging ((goal.Judge-dyn g (j.vtable, j.value)).would j.value) ((goal.Judge-dyn g (j.vtable, j.value)).state j.value)) c.args.judges.items) c.in-Ok.begun.asked.judge) _ _ c.in-Ok.begun.script c.in-Ok.ensures.script (c.perform_asked.ensures.led_first (ap (λ (a : Asked). a.threads) (sym (c.in-Ok.ensures.only asked ask)) ∙ threads))))

pub returns-in-Ok-clause-order : goal.returns-in-Ok-clause-order
returns-in-Ok-clause-order g c = λ asked ask plain done. rw (c.in-Ok.ensures.only asked ask) (runs_so c.perform_asked.result.core (λ core. core.engine) (λ core script. IsInOrder core.history script) _ _ c.in-Ok.begun.script c.in-Ok.ensures.script (c.perform_asked.ensures.order (ap (λ (a : Asked). a.threads) (sym (c.in-Ok.ensures.only asked ask)) ∙ plain) done))

pub returns-in-Ok-clause-order_first : goal.returns-in-Ok-clause-order_first
returns-in-Ok-clause-order_first g c = λ asked ask plain. rw (c.in-Ok.ensures.only asked ask) (some_if c.perform_asked.result.core _ (runs_so c.perform_asked.result.core (λ core. core.engine) (λ core script. IsFrontInOrder core.history script) _ _ c.in-Ok.begun.script c.in-Ok.ensures.script (c.perform_asked.ensures.order_first (ap (λ (a : Asked). a.threads) (sym (c.in-Ok.ensures.only asked ask)) ∙ plain))))

pub returns-in-Ok-clause-usage : goal.returns-in-Ok-clause-usage
returns-in-Ok-clause-usage g c = (λ e. absurd (subst IsPerformed e c.perform_asked.ensures.kinds), λ refused. absurd (refused (c.in-Ok.ensures.accepted refl)))

pub returns-in-Err-clause-usage : goal.returns-in-Err-clause-usage
returns-in-Err-clause-usage g c = (λ e. subst (Stops _ _ _ _ _) (sym c.ended.ensures.status ∙ e) c.in-Err.ensures.fault, λ refused. let said = c.in-Err.ensures.usage refused in let is : c.in-Err.status ≡ statuses.Usage = cc in c.ended.ensures.status ∙ is)

pub returns-in-Err-clause-unasked : goal.returns-in-Err-clause-unasked
returns-in-Err-clause-unasked g c = λ e. c.in-Err.ensures.unasked (ap (λ (s : Status). Err s) (sym c.ended.ensures.status ∙ e))
