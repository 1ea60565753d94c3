use Rattle.std.proofs.Common.{rules, arith, ap, ◌≡◌, ◌++◌, ◌∷◌, [], List, length, length-append}
use Rattle.std.proofs.lemmas.List.Elements.{All-push, All-rest}
use Rattle.rv_phases.specs.Phase.{IsDone}
use Rattle.rv_phases.proofs.Calls.{all_first}
use Rattle.rv_phases.proofs.phase.collect.Goals as goal

pub jobs-preserved : goal.jobs-preserved
jobs-preserved g c =
    let i = c.jobs.invariant in
    let turn = c.args.shared.now.turn in
    let phase = (g.C.Served.shown turn.mark).phase in
    let one = all_first (λ j. IsDone phase turn c.args.lines.now c.args.short j.pass) _ _ _ i.left c.in-Some.ensures.steps.0 in
    let items : c.push.new.self.items ≡ c.jobs.list.items ++ c.in-Some.job.pass ∷ [] = search rules in
    let size = ap (λ (l : List _). length l) c.in-Some.ensures.steps.0 in
    let added = length-append c.jobs.yielded (c.in-Some.job ∷ []) in
    let grown = ap (λ (l : List _). length l) items in
    let longer = length-append c.jobs.list.items (c.in-Some.job.pass ∷ []) in
    record {
      left = All-rest (λ j. IsDone phase turn c.args.lines.now c.args.short j.pass) _ _ _ c.in-Some.ensures.steps.0 i.left;
      passes = rw items (All-push (λ p. IsDone phase turn c.args.lines.now c.args.short p) c.jobs.list.items c.in-Some.job.pass i.passes one);
      count = let e = i.count in omega arith;
      total = let e = i.total in omega arith;
      room = search rules;
    }
