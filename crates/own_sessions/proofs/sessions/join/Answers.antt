use Rattle.std.proofs.Common.{rules, arith, ap, ◌≡◌, ◌++◌, ◌∷◌, [], List, length, length-append}
use Rattle.std.proofs.lemmas.List.Elements.{All-push, All-rest}
use Rattle.rv_turn.specs.State.{IsPassOf}
use Rattle.own_sessions.proofs.Passes.{all_first}
use Rattle.own_sessions.proofs.sessions.join.Goals as goal

pub passes-preserved : goal.passes-preserved
passes-preserved g c =
    let i = c.passes.invariant in
    let turn = c.args.shared.now.turn in
    let one = all_first (λ p. IsPassOf turn p) _ _ _ i.left c.in-Some.ensures.steps.0 in
    let items : c.push.new.self.items ≡ c.passes.list.items ++ c.in-Some.pass ∷ [] = search rules in
    let size = ap (λ (l : List _). length l) c.in-Some.ensures.steps.0 in
    let added = length-append c.passes.yielded (c.in-Some.pass ∷ []) in
    let grown = ap (λ (l : List _). length l) items in
    let longer = length-append c.passes.list.items (c.in-Some.pass ∷ []) in
    record {
      left = All-rest (λ p. IsPassOf turn p) _ _ _ c.in-Some.ensures.steps.0 i.left;
      list = rw items (All-push (λ p. IsPassOf turn p) c.passes.list.items c.in-Some.pass i.list one);
      count = let e = i.count in omega arith;
      total = let e = i.total in omega arith;
      room = search rules;
      kept = search rules;
    }
