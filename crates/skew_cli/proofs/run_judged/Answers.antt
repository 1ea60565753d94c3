use denote.Param.Object.{read_made}
use Rattle.std.proofs.Common.{◌≡◌, ◌∙◌, ◌⊎◌, None, refl, subst, sym}
use Rattle.skew_judges.specs.Rules.{all_rows, first_rows}
use Rattle.skew_judges.proofs.Guarding.{are_bounded}
use Rattle.rv_words.specs.Words.{Ask}
use Rattle.rv_run.specs.declared.status.Status.TheVariants as statuses
use Rattle.rv_run.specs.Performing.{IsPerformed}
use Rattle.rv_run.specs.Phases.{FirstPhasesUnder, PhasesUnder}
use Rattle.rv_run.specs.Ruling.{CallsUnder, FirstCallsUnder, Judging, judging, settings_of}
use Rattle.rv_run.specs.Serving.{AskService}
use Rattle.skew_cli.specs.Running.{always, bounded}
use Rattle.skew_cli.proofs.Running.{run_writes, runs_no_line, same_rest, serves_from, serves_none, serves_some, stops, three_pushed, type_in, value_in, writes_from}
use Rattle.skew_cli.proofs.run_judged.OwnLists.{own-1}
use Rattle.skew_cli.proofs.run_judged.Goals as goal

pub returns-in-Some : goal.returns-in-Some
returns-in-Some g c =
    let boxes = three_pushed _ _ _ c.push-3.new.self.items c.into_dyn_box.result c.into_dyn_box-in_ok-new-2.result c.into_dyn_box-in_ok-new-3.result c.new-judges.ensures.items c.in_ok-push.ensures.items c.in_ok-push-2.ensures.items c.in_ok-push-3.ensures.items in
    let zero = read_made own-1 _ (type_in c.into_dyn_box.ensures.1) refl Judging (λ j x. judging (j.1.would x) (j.1.state x)) _ _ (value_in c.into_dyn_box.ensures.1) c.into_dyn_box.ensures.1 in
    let one = read_made own-1 _ (type_in c.into_dyn_box-in_ok-new-2.ensures.1) refl Judging (λ j x. judging (j.1.would x) (j.1.state x)) _ _ (value_in c.into_dyn_box-in_ok-new-2.ensures.1) c.into_dyn_box-in_ok-new-2.ensures.1 in
    let two = read_made own-1 _ (type_in c.into_dyn_box-in_ok-new-3.ensures.1) refl Judging (λ j x. judging (j.1.would x) (j.1.state x)) _ _ (value_in c.into_dyn_box-in_ok-new-3.ensures.1) c.into_dyn_box-in_ok-new-3.ensures.1 in
    let ended = sym c.end_of.ensures in
    record {
      ruled = λ asked ask plain. runs_no_line c.args.words.now asked c.in-Some.rest.now ask (sym c.in-Some.ensures);
      led = λ asked ask threads. runs_no_line c.args.words.now asked c.in-Some.rest.now ask (sym c.in-Some.ensures);
      stopped = λ none. serves_some c.args.words.now c.in-Some.rest.now c.in-Some.ensures none;
      usage = λ none refused. serves_some c.args.words.now c.in-Some.rest.now c.in-Some.ensures none;
      generated = λ asked ask seed. runs_no_line c.args.words.now asked c.in-Some.rest.now ask (sym c.in-Some.ensures);
      served = λ rest asked line ask done. writes_from c.serve.result.core (λ core. core.engine) None _ _ (λ judges. CallsUnder (λ s. g.P.Reader.shown s) (settings_of asked) c.args.store judges asked.judge) _ _ c.into_dyn_box.result c.into_dyn_box-in_ok-new-2.result c.into_dyn_box-in_ok-new-3.result bounded (always all_rows) (always first_rows) (c.serve.ensures.done (ended ∙ done)) (c.serve.ensures.ruled asked (subst (λ words. Ask words asked) (sym (same_rest c.args.words.now c.in-Some.rest.now rest c.in-Some.ensures line)) ask) (ended ∙ done)) boxes zero one two;
      served_first = λ rest asked line ask plain read.
          let here = subst (λ words. Ask words asked) (sym (same_rest c.args.words.now c.in-Some.rest.now rest c.in-Some.ensures line)) ask in
          serves_from c.serve.result.core (λ core. core.engine) c.end_of.result _ _ _ _ _ _ _ _ _ (λ judges. FirstCallsUnder (λ s. g.P.Reader.shown s) (settings_of asked) c.args.store judges asked.judge) _ _ c.into_dyn_box.result c.into_dyn_box-in_ok-new-2.result c.into_dyn_box-in_ok-new-3.result bounded (always all_rows) (always first_rows)
          c.serve.ensures.legal (λ other. c.serve.ensures.whole (λ e. other (c.end_of.ensures ∙ e))) (λ e. c.serve.ensures.front (ended ∙ e)) (c.serve.ensures.served asked here)
          (λ e. c.serve.ensures.end (ended ∙ e)) (λ e. c.serve.ensures.usage (ended ∙ e) (record { asked = asked; ask = here; plain = plain; read = read })) (λ fault e. c.serve.ensures.script fault (ended ∙ e)) (λ over e. c.serve.ensures.limit over (ended ∙ e)) (λ e. c.serve.ensures.read (ended ∙ e)) (λ e. c.serve.ensures.write (ended ∙ e)) c.serve.ensures.early boxes zero one two;
      refused = λ rest line unasked. subst (λ status. (status ≡ statuses.Usage) ⊎ (status ≡ statuses.Memory)) ended (c.serve.ensures.refused (λ asks. unasked (subst AskService (same_rest c.args.words.now c.in-Some.rest.now rest c.in-Some.ensures line) asks)));
      write = λ e. c.serve.ensures.write (ended ∙ e);
      unmade = tt;
      bounded = are_bounded (always all_rows).would;
    }

pub returns-in-None : goal.returns-in-None
returns-in-None g c =
    let boxes = three_pushed _ _ _ c.push-3.new.self.items c.into_dyn_box.result c.into_dyn_box-in_ok-new-2.result c.into_dyn_box-in_ok-new-3.result c.new-judges.ensures.items c.in_ok-push.ensures.items c.in_ok-push-2.ensures.items c.in_ok-push-3.ensures.items in
    let zero = read_made own-1 _ (type_in c.into_dyn_box.ensures.1) refl Judging (λ j x. judging (j.1.would x) (j.1.state x)) _ _ (value_in c.into_dyn_box.ensures.1) c.into_dyn_box.ensures.1 in
    let one = read_made own-1 _ (type_in c.into_dyn_box-in_ok-new-2.ensures.1) refl Judging (λ j x. judging (j.1.would x) (j.1.state x)) _ _ (value_in c.into_dyn_box-in_ok-new-2.ensures.1) c.into_dyn_box-in_ok-new-2.ensures.1 in
    let two = read_made own-1 _ (type_in c.into_dyn_box-in_ok-new-3.ensures.1) refl Judging (λ j x. judging (j.1.would x) (j.1.state x)) _ _ (value_in c.into_dyn_box-in_ok-new-3.ensures.1) c.into_dyn_box-in_ok-new-3.ensures.1 in
    let ended = sym c.end_of-in-None.ensures in
    record {
      ruled = λ asked ask plain. run_writes c.run.result.core (λ core. core.engine) c.end_of-in-None.result asked.seed _ _ _ _ (λ judges. CallsUnder (λ s. g.P.Reader.shown s) (settings_of asked) c.args.store judges asked.judge) (λ judges. FirstCallsUnder (λ s. g.P.Reader.shown s) (settings_of asked) c.args.store judges asked.judge) _ _ c.into_dyn_box.result c.into_dyn_box-in_ok-new-2.result c.into_dyn_box-in_ok-new-3.result bounded (always all_rows) (always first_rows)
          (λ e. c.run.ensures.done asked ask (ended ∙ e)) (λ e. c.run.ensures.ruled asked ask plain (ended ∙ e)) (λ e. c.run.ensures.memory asked ask (ended ∙ e)) (λ e. c.run.ensures.front asked ask (ended ∙ e)) (c.run.ensures.ruled_first asked ask plain) (λ some. subst IsPerformed ended (c.run.ensures.called some)) c.run.ensures.early boxes zero one two;
      led = λ asked ask threads. run_writes c.run.result.core (λ core. core.engine) c.end_of-in-None.result asked.seed _ _ _ _ (λ judges. PhasesUnder (λ s. g.P.Reader.shown s) (settings_of asked) c.args.store judges asked.judge) (λ judges. FirstPhasesUnder (λ s. g.P.Reader.shown s) (settings_of asked) c.args.store judges asked.judge) _ _ c.into_dyn_box.result c.into_dyn_box-in_ok-new-2.result c.into_dyn_box-in_ok-new-3.result bounded (always all_rows) (always first_rows)
          (λ e. c.run.ensures.done asked ask (ended ∙ e)) (λ e. c.run.ensures.led asked ask threads (ended ∙ e)) (λ e. c.run.ensures.memory asked ask (ended ∙ e)) (λ e. c.run.ensures.front asked ask (ended ∙ e)) (c.run.ensures.led_first asked ask threads) (λ some. subst IsPerformed ended (c.run.ensures.called some)) c.run.ensures.early boxes zero one two;
      stopped = λ none. stops c.end_of-in-None.result _ _ _ _ _ (λ e. c.run.ensures.usage.0 (ended ∙ e)) (λ fault e. c.run.ensures.script fault (ended ∙ e)) (λ over e. c.run.ensures.limit over (ended ∙ e)) (λ e. c.run.ensures.read (ended ∙ e));
      usage = λ none refused. c.end_of-in-None.ensures ∙ c.run.ensures.usage.1 refused;
      generated = λ asked ask seed. subst IsPerformed ended (c.run.ensures.generated asked ask seed);
      served = λ rest asked line ask done. serves_none c.args.words.now rest c.in-None.ensures line;
      served_first = λ rest asked line ask plain read. serves_none c.args.words.now rest c.in-None.ensures line;
      refused = λ rest line unasked. serves_none c.args.words.now rest c.in-None.ensures line;
      write = λ e. c.run.ensures.write (ended ∙ e);
      unmade = tt;
      bounded = are_bounded (always all_rows).would;
    }
