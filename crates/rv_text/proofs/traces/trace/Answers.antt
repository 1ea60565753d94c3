use Rattle.std.proofs.Common.{Some, None, refl, ap, sym, ◌∙◌}
use Rattle.std.specs.Option.{option_copied}
use Rattle.rv_text.specs.Traces.{Event, told, words_of}
use Rattle.rv_text.proofs.Passing.{no_trace, trace_read}
use Rattle.rv_text.proofs.traces.trace.Goals as goal

pub returns-in-Some-2 : goal.returns-in-Some-2
returns-in-Some-2 c = trace_read c.args.text.now c.cut_at.result.0.now (option_copied c.cut_at.result.1) (Some c.in-Some.strategy) (Some c.in-Some-2.field-0) _ c.cut_at.ensures.word c.cut_at.ensures.more (sym c.in-Some.is ∙ c.strategy_among.ensures) (sym c.in-Some-2.is ∙ c.in_ok-events-in-Some-more.ensures ∙ ap (λ o. told Event (words_of (option_copied o))) (sym c.in-Some-more.is)) refl

pub returns-in-None-2 : goal.returns-in-None-2
returns-in-None-2 c = trace_read c.args.text.now c.cut_at.result.0.now (option_copied c.cut_at.result.1) (Some c.in-Some.strategy) None None c.cut_at.ensures.word c.cut_at.ensures.more (sym c.in-Some.is ∙ c.strategy_among.ensures) (sym c.in-None-2.is ∙ c.in_ok-events-in-Some-more.ensures ∙ ap (λ o. told Event (words_of (option_copied o))) (sym c.in-Some-more.is)) refl

pub returns-in-None-more : goal.returns-in-None-more
returns-in-None-more c = trace_read c.args.text.now c.cut_at.result.0.now (option_copied c.cut_at.result.1) (Some c.in-Some.strategy) None None c.cut_at.ensures.word c.cut_at.ensures.more (sym c.in-Some.is ∙ c.strategy_among.ensures) (ap (λ o. told Event (words_of (option_copied o))) (sym c.in-None-more.is)) refl

pub returns-in-None : goal.returns-in-None
returns-in-None c = no_trace c.args.text.now c.cut_at.result.0.now (option_copied c.cut_at.result.1) c.cut_at.ensures.word c.cut_at.ensures.more (sym c.in-None.is ∙ c.strategy_among.ensures)
