use Rattle.std.proofs.Common.{rules, arith, ap, ◌≡◌, ◌+◌, ◌++◌, ◌∷◌, [], List, length, length-append, false}
use Rattle.std.proofs.lemmas.List.Elements.{All-push, All-rest}
use Rattle.rv_shared.specs.Told.{IsFresh}
use Rattle.rv_phases.specs.Phase.{IsDone}
use Rattle.rv_phases.proofs.Calls.{all_first, idle_done}
use Rattle.rv_phases.proofs.phase.deal.Goals as goal

pub passes-preserved-then-is_idle : goal.passes-preserved-then-is_idle
passes-preserved-then-is_idle g c =
    let i = c.passes.invariant in
    let turn = c.args.shared.now.turn in
    let phase = (g.C.Served.shown turn.mark).phase in
    let one = all_first (λ p. IsFresh turn p) _ _ _ i.left c.in-Some.ensures.steps.0 in
    let items : c.push.new.self.items ≡ c.passes.idle.items ++ c.in-Some.pass ∷ [] = search rules in
    let none = c.is_idle.ensures (search rules) in
    let size = ap (λ (l : List _). length l) c.in-Some.ensures.steps.0 in
    let added = length-append c.passes.yielded (c.in-Some.pass ∷ []) in
    let grown = ap (λ (l : List _). length l) items in
    let longer = length-append c.passes.idle.items (c.in-Some.pass ∷ []) in
    record {
      left = All-rest (λ p. IsFresh turn p) _ _ _ c.in-Some.ensures.steps.0 i.left;
      jobs = i.jobs;
      idle = rw items (All-push (λ p. IsDone phase turn c.args.lines.now false p) c.passes.idle.items c.in-Some.pass i.idle (idle_done phase turn c.args.lines.now c.in-Some.pass one none));
      count = let e = i.count in omega arith;
      total = let e = i.total in omega arith;
      room = i.room;
      more = search rules;
      kept = search rules;
    }

pub passes-preserved : goal.passes-preserved
passes-preserved g c =
    let i = c.passes.invariant in
    let turn = c.args.shared.now.turn in
    let one = all_first (λ p. IsFresh turn p) _ _ _ i.left c.in-Some.ensures.steps.0 in
    let items : c.push-else-is_idle.new.self.items ≡ c.passes.jobs.items ++ record { pass = c.in-Some.pass; short = false } ∷ [] = search rules in
    let size = ap (λ (l : List _). length l) c.in-Some.ensures.steps.0 in
    let added = length-append c.passes.yielded (c.in-Some.pass ∷ []) in
    let grown = ap (λ (l : List _). length l) items in
    let longer = length-append c.passes.jobs.items (record { pass = c.in-Some.pass; short = false } ∷ []) in
    record {
      left = All-rest (λ p. IsFresh turn p) _ _ _ c.in-Some.ensures.steps.0 i.left;
      jobs = rw items (All-push (λ j. IsFresh turn j.pass) c.passes.jobs.items (record { pass = c.in-Some.pass; short = false }) i.jobs one);
      idle = i.idle;
      count = let e = i.count in omega arith;
      total = let e = i.total in omega arith;
      room = search rules;
      more = i.more;
      kept = search rules;
    }
