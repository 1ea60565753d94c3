use Rattle.std.proofs.Common.{◌∷◌, [], Some, None, ap, sym, ◌∙◌}
use Rattle.std.specs.Option.{option_copied, option_map}
use Rattle.rv_text.specs.Parts.{next_by, part_by}
use Rattle.rv_text.specs.Traces.{events_before, told, words_of, Awaits, Counts, Event, Gives}
use Rattle.rv_text.proofs.Passing.{before_events, tail_step}
use Rattle.rv_text.proofs.traces.read_tail.Goals as goal

pub words-preserved-in-Some-Part : goal.words-preserved-in-Some-Part
words-preserved-in-Some-Part c =
    let made = ap (λ n. Some (next_by n)) (sym c.in-Some-Part.field-0-is) ∙ ap (option_map next_by) (sym c.in-Some-Part.is) ∙ c.in_ok-next.ensures in
    tail_step c.words.events (part_by c.words.part) c.words.left c.cut_at.result.1 c.in-Some.behind c.cut_at.result.0.now (Some (Awaits (part_by c.in-Some-Part.next))) _ c.in-Some.is c.cut_at.ensures.word c.cut_at.ensures.more made c.words.invariant

pub words-preserved : goal.words-preserved
words-preserved c =
    let made = ap (λ n. Some (next_by n)) (sym c.in-Some-Event.field-0-is) ∙ ap (option_map next_by) (sym c.in-Some-Event.is) ∙ c.in_ok-next.ensures in
    let more = told Event (words_of (option_copied c.cut_at.result.1)) in
    ap (λ es. events_before es more) c.in_ok-push-in-Some-Event.ensures.ok
    ∙ sym (before_events c.words.events (c.in-Some-Event.event ∷ []) more)
    ∙ tail_step c.words.events (part_by c.words.part) c.words.left c.cut_at.result.1 c.in-Some.behind c.cut_at.result.0.now (Some (Gives c.in-Some-Event.event)) _ c.in-Some.is c.cut_at.ensures.word c.cut_at.ensures.more made c.words.invariant

pub returns-in-Some-Counts : goal.returns-in-Some-Counts
returns-in-Some-Counts c =
    let made = ap (λ n. Some (next_by n)) (sym c.in-Some-Counts.field-0-is) ∙ ap (option_map next_by) (sym c.in-Some-Counts.is) ∙ c.in_ok-next.ensures in
    c.with_counts.ensures ∙ ap (events_before c.words.events) c.counts.ensures
    ∙ tail_step c.words.events (part_by c.words.part) c.words.left c.cut_at.result.1 c.in-Some.behind c.cut_at.result.0.now (Some Counts) _ c.in-Some.is c.cut_at.ensures.word c.cut_at.ensures.more made c.words.invariant

pub returns-in-None : goal.returns-in-None
returns-in-None c = tail_step c.words.events (part_by c.words.part) c.words.left c.cut_at.result.1 c.in-Some.behind c.cut_at.result.0.now None _ c.in-Some.is c.cut_at.ensures.word c.cut_at.ensures.more (ap (option_map next_by) (sym c.in-None.is) ∙ c.in_ok-next.ensures) c.words.invariant
