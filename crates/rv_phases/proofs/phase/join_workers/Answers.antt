use Rattle.std.proofs.Common.{rules, arith, ap, ◌≡◌, ◌++◌, ◌∷◌, [], List, length, length-append, false}
use Rattle.std.proofs.lemmas.List.Elements.{All-push, All-rest}
use Rattle.rv_shared.specs.Told.{IsFresh}
use Rattle.rv_phases.proofs.Calls.{all_first}
use Rattle.rv_phases.proofs.phase.join_workers.Goals as goal

pub helpers-preserved : goal.helpers-preserved
helpers-preserved g c =
    let i = c.helpers.invariant in
    let turn = c.args.shared.now.turn in
    let one = all_first (λ p. IsFresh turn p) _ _ _ i.left c.in-Some.ensures.steps.0 in
    let items : c.push.new.self.items ≡ c.helpers.jobs.items ++ record { pass = c.in-Some.pass; short = false } ∷ [] = search rules in
    let size = ap (λ (l : List _). length l) c.in-Some.ensures.steps.0 in
    let added = length-append c.helpers.yielded (c.in-Some.pass ∷ []) in
    let grown = ap (λ (l : List _). length l) items in
    let longer = length-append c.helpers.jobs.items (record { pass = c.in-Some.pass; short = false } ∷ []) in
    record {
      left = All-rest (λ p. IsFresh turn p) _ _ _ c.in-Some.ensures.steps.0 i.left;
      jobs = rw items (All-push (λ j. IsFresh turn j.pass) c.helpers.jobs.items (record { pass = c.in-Some.pass; short = false }) i.jobs one);
      count = let e = i.count in omega arith;
      total = let e = i.total in omega arith;
      room = search rules;
    }
