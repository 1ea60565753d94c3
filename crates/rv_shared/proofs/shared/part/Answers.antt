use Rattle.std.proofs.Common.{rules, arith, ap, subst, ◌≡◌, ℕ, ◌+◌, ◌<◌, ◌≤◌, ◌++◌, ◌∷◌, [], List, All, length, length-append, slice_index_or}
use Rattle.rv_turn.specs.State.{PassState}
use Rattle.rv_model.specs.declared.entry.Entry.{Entry}
use Rattle.rv_shared.specs.Told.{IsFresh}
use Rattle.rv_shared.proofs.Parting.{all_front, all_last, all_push, number_is, numbers_rest}
use Rattle.rv_shared.proofs.shared.part.Goals as goal

pub workers-preserved : goal.workers-preserved
workers-preserved g c =
    let i = c.workers.invariant in
    let turn = c.args.turn.now in
    let F : PassState Entry g.row.C.Denot → Type 0 = λ p. IsFresh turn p in
    let H : PassState Entry g.row.C.Denot → Type 0 = λ p. 8 ≤ p.number in
    let xs = c.last_of-pass.new.passes.items in
    let x = c.last_of-pass.result in
    let before : c.workers.passes.items ≡ xs ++ x ∷ [] = c.last_of-pass.ensures in
    let all = subst (λ (l : List (PassState Entry g.row.C.Denot)). All F l) before i.passes in
    let numbers = subst (λ (l : List (PassState Entry g.row.C.Denot)). (k : ℕ) (d : PassState Entry g.row.C.Denot) → k < length l → (slice_index_or l k d).number ≡ k) before i.numbers in
    let last = number_is (λ (p : PassState Entry g.row.C.Denot). p.number) xs x numbers in
    let items : c.push.new.self.items ≡ c.workers.helpers.items ++ x ∷ [] = search rules in
    let size = ap (λ (l : List (PassState Entry g.row.C.Denot)). length l) before in
    let shorter = length-append xs (x ∷ []) in
    let grown = ap (λ (l : List (PassState Entry g.row.C.Denot)). length l) items in
    let longer = length-append c.workers.helpers.items (x ∷ []) in
    let counted = i.count in
    record {
      count = omega arith;
      helped = let e = i.helped in omega arith;
      room = search rules;
      passes = all_front F xs x all;
      helpers = rw items (all_push F c.workers.helpers.items x i.helpers (all_last F xs x all));
      workers = rw items (all_push H c.workers.helpers.items x i.workers (omega arith));
      numbers = numbers_rest (λ (p : PassState Entry g.row.C.Denot). p.number) xs x numbers;
    }
