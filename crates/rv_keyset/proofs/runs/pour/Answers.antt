use Rattle.std.proofs.Common.{◌≡◌, ℕ, ◌<◌, ◌++◌, ◌∷◌, [], List, false, ap, subst, sym, ◌∙◌, arith}
use Rattle.rv_keylist.specs.Keys.{has_key}
use Rattle.rv_keylist.specs.Listed.{Listed}
use Rattle.rv_keyset.proofs.Lists.{next_new, next_put, ok_holds}
use Rattle.rv_keyset.proofs.runs.pour.Goals as goal

pub push-requires-clause-fresh : goal.push-requires-clause-fresh
push-requires-clause-fresh c = subst (λ (keys : List ℕ). has_key c.get.result.0 keys ≡ false) (sym c.each.invariant.keys) (next_new c.args.put.now.keys c.args.list.now.keys c.each.done c.get.result.0 c.requires.apart c.len-count.ensures.once c.get.ensures)

pub each-preserved : goal.each-preserved
each-preserved c =
    let here = c.each-test.true in
    let count = c.each.invariant.count in
    let room = c.each.invariant.room in
    let enough = c.requires.room in
    let some : 0 < c.each.put.spare = omega arith in
    let pushed = ok_holds c.push.result (c.push.ensures.room some) c.push.ensures.ok in
    let spare = ap (λ (l : Listed). l.spare) pushed in
    record {
      count = count;
      within = omega arith;
      keys = ap (λ (l : Listed). l.keys) pushed ∙ ap (λ (keys : List ℕ). keys ++ c.get.result.0 ∷ []) c.each.invariant.keys ∙ next_put c.args.put.now.keys c.args.list.now.keys c.each.done c.get.result.0 c.get.ensures;
      room = omega arith;
      still_open = ap (λ (l : Listed). l.finished) pushed ∙ c.each.invariant.still_open;
    }
