use Rattle.std.proofs.Common.{true, arith}
use Rattle.std.specs.Prelude.{nat_lt, nat_le}
use Rattle.std.proofs.lemmas.Bool.Decides.{nat_tests}
use Rattle.rv_value.proofs.Lists.{all_true}
use Rattle.try_stores.specs.declared.views.lists.Ten.{Ten}
use Rattle.rv_rows.proofs.Cuts.{partitioned}
use Rattle.try_stores.proofs.views.lists.up_to.Goals as goal

pub count-requires : goal.count-requires
count-requires c = partitioned (λ (a : Ten) (b : Ten). nat_lt a.ten b.ten) (λ (x : Ten). true) (λ (x : Ten). nat_le x.ten c.args.tens) (λ x y h a b k. let first = h in let second = k in grind (arith, nat_tests)) c.args.list.now c.len-count.ensures.rise (all_true c.args.list.now)
