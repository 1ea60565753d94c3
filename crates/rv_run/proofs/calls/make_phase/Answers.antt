use Rattle.std.proofs.Common.{◌≡◌, ◌∙◌, [], ap, refl, reverse, rules, subst, sym, All}
use Rattle.std.proofs.lemmas.List.{reverse-reverse}
use Rattle.std.proofs.lemmas.List.Elements.{All-rest}
use Rattle.rv_value.proofs.Lists.{on_err}
use Rattle.rv_gen.specs.Workload.{IsCall}
use Rattle.rv_phases.proofs.Calls.{all_first}
use Rattle.rv_run.specs.Ruling.{judging}
use Rattle.rv_run.proofs.Rulings.{made_answers, made_more, made_part, made_stops, made_told, next_turned, none_made}
use Rattle.rv_run.proofs.calls.make_phase.Goals as goal

pub lines-init : goal.lines-init
lines-init g c =
    let all = ap reverse c.reverse.ensures.items ∙ reverse-reverse c.args.lines.items in
    record {
      fits = subst (All IsCall) (sym all) c.requires;
      phase = refl;
      made = none_made g.S.Reader.shown c.args.core.now.settings c.args.core.now.engine.phase c.args.lines.items _ c.args.core.now.engine _ all;
      rules = refl;
      settings = refl;
    }

pub make_call-requires : goal.make_call-requires
make_call-requires g c = all_first IsCall _ _ _ c.lines.invariant.fits (next_turned c.lines.left.items c.pop.new.self.items c.give_room_back.new.left.items c.pop.result c.in-Some.line c.pop.ensures.items c.in-Some.is c.give_room_back.ensures)

pub returns-in_err-make_call-clause-part : goal.returns-in_err-make_call-clause-part
returns-in_err-make_call-clause-part g c = made_part _ _ _ _ _ _ _ _ _ c.make_call.new.core.engine.history c.in_err-make_call.ensures.err c.lines.invariant.made

pub returns-in_err-make_call-clause-stopped : goal.returns-in_err-make_call-clause-stopped
returns-in_err-make_call-clause-stopped g c = on_err c.from_residual.result _ (made_stops _ _ _ _ _ _ _ _ _ c.make_call.new.core.engine (judging ((goal.Judge-dyn g (c.args.core.now.judge.vtable, c.args.core.now.judge.value)).would c.args.core.now.judge.value) ((goal.Judge-dyn g (c.make_call.new.core.judge.vtable, c.make_call.new.core.judge.value)).state c.make_call.new.core.judge.value)) c.in_err-make_call.ensures.err c.lines.invariant.made)

pub lines-preserved : goal.lines-preserved
lines-preserved g c =
    let next = next_turned c.lines.left.items c.pop.new.self.items c.give_room_back.new.left.items c.pop.result c.in-Some.line c.pop.ensures.items c.in-Some.is c.give_room_back.ensures in
    record {
      fits = All-rest IsCall _ _ _ next c.lines.invariant.fits;
      phase = c.make_call.ensures.phase ∙ c.lines.invariant.phase;
      made = made_more _ _ _ _ _ _ _ _ c.in-Some.line _ c.lines.core.engine c.make_call.new.core.engine _ _ _ _ _ c.lines.invariant.settings c.lines.invariant.phase c.lines.invariant.rules next c.lines.invariant.made c.in_ok-make_call.ensures.ok c.in_ok-make_call.ensures.ruled;
      rules = c.make_call.ensures.rules ∙ c.lines.invariant.rules;
      settings = c.make_call.ensures.settings ∙ c.lines.invariant.settings;
    }

pub returns-clause-ok : goal.returns-clause-ok
returns-clause-ok g c =
    let none : c.lines.left.items ≡ [] = search rules in
    made_told _ _ _ _ _ _ _ _ _ (ap reverse none) c.lines.invariant.made

pub returns-clause-part : goal.returns-clause-part
returns-clause-part g c = made_part _ _ _ _ _ _ _ _ _ c.lines.core.engine.history refl c.lines.invariant.made

pub returns-clause-ruled : goal.returns-clause-ruled
returns-clause-ruled g c =
    let none : c.lines.left.items ≡ [] = search rules in
    made_answers _ _ _ _ _ _ _ _ _ (ap reverse none) c.lines.invariant.made
