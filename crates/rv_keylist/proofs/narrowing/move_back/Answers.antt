use Rattle.std.proofs.Common.{◌≤◌, ℕ, rules, subst}
use Rattle.rv_keylist.proofs.Narrow.{few_fit, few_moved, moved_few, stays_many}
use Rattle.rv_keylist.proofs.narrowing.move_back.Goals as goal

pub move_few-requires : goal.move_few-requires
move_few-requires c = few_fit c.args.few.now.items c.args.many.now.items (subst (λ (n : ℕ). n ≤ 20) c.len-held.ensures.value c.len-held.ensures.fits) c.requires (search rules)

pub returns-then-len-le-FEW-clause-moves : goal.returns-then-len-le-FEW-clause-moves
returns-then-len-le-FEW-clause-moves c = moved_few c.args.few.now.items c.args.many.now.items _ c.move_few.new.few.items c.move_few.new.many.items _ c.move_few.ensures.few c.move_few.ensures.many

pub returns-then-len-le-FEW-clause-short : goal.returns-then-len-le-FEW-clause-short
returns-then-len-le-FEW-clause-short c = few_moved c.args.few.now.items c.args.many.now.items c.move_few.new.few.items c.move_few.ensures.few (few_fit c.args.few.now.items c.args.many.now.items (subst (λ (n : ℕ). n ≤ 20) c.len-held.ensures.value c.len-held.ensures.fits) c.requires (search rules))

pub returns-else-len-le-FEW-clause-moves : goal.returns-else-len-le-FEW-clause-moves
returns-else-len-le-FEW-clause-moves c = stays_many c.args.few.now.items c.args.many.now.items _ c.requires (search rules)

pub returns-else-len-le-FEW-clause-short : goal.returns-else-len-le-FEW-clause-short
returns-else-len-le-FEW-clause-short c = subst (λ (n : ℕ). n ≤ 20) c.len-held.ensures.value c.len-held.ensures.fits
