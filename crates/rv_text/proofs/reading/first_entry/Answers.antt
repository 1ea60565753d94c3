use Rattle.std.proofs.Common.{◌<◌, length, IfSome, Some, None, ap, sym, subst, ◌∙◌}
use Rattle.std.specs.Option.{option_copied, option_map}
use Rattle.rv_text.specs.Steps.{answered_at, call_by}
use Rattle.rv_text.specs.Texts.{read_from}
use Rattle.rv_text.proofs.Stepping.{fronts_all, line_read, no_line}
use Rattle.rv_text.proofs.reading.first_entry.Goals as goal

pub returns-in-Some-2 : goal.returns-in-Some-2
returns-in-Some-2 c =
    let shorter = subst (λ o. IfSome (option_copied o) (λ more. length more < length c.args.bytes.now)) c.in-Some.is c.cut_at.ensures.shorter in
    let asked = ap (option_map call_by) (sym c.in-Some-2.is) ∙ c.in_ok-asked-in-Some.ensures in
    let read = line_read c.args.line c.args.bytes.now c.cut_at.result.0.now c.cut_at.result.1 c.in-Some.behind (Some (call_by c.in-Some-2.asked)) c.cut_at.ensures.word c.cut_at.ensures.more c.in-Some.is asked in
    fronts_all c.args.bytes.now c.in-Some.behind.now c.args.line (answered_at c.args.line (call_by c.in-Some-2.asked) c.in-Some.behind.now) (read_from c.args.line c.args.bytes.now) c.answered.result shorter read c.answered.ensures

pub returns-in-None-2 : goal.returns-in-None-2
returns-in-None-2 c = line_read c.args.line c.args.bytes.now c.cut_at.result.0.now c.cut_at.result.1 c.in-Some.behind None c.cut_at.ensures.word c.cut_at.ensures.more c.in-Some.is (ap (option_map call_by) (sym c.in-None-2.is) ∙ c.in_ok-asked-in-Some.ensures)

pub returns-in-None : goal.returns-in-None
returns-in-None c = no_line c.args.line c.args.bytes.now c.cut_at.result.1 c.requires.some c.cut_at.ensures.more c.in-None.is
