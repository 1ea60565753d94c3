use Rattle.rv_join.proofs.OneItem.{list_plans}
use Rattle.rv_join.proofs.Calls.{levels_at}
use Rattle.rv_join.proofs.Numbers.{levels_count}
use Rattle.rv_join.proofs.Lowering.{levels_lower}
use Rattle.rv_join.proofs.Opening.{level_keeps}
use Rattle.rv_join.proofs.stack.give_at.Goals as goal

pub returns-clause-stay : goal.returns-clause-stay
returns-clause-stay g c = λ a shown all. (levels_at a shown c.args.levels.now.items c.args.at c.index_mut.result.now _ c.requires.at all c.index_mut.ensures.value (λ fits. level_keeps a shown c.index_mut.result.now c.give.new.self fits c.give.ensures.keeps c.give.ensures.less c.give.ensures.awaiting c.give.ensures.tells)).0

pub returns-clause-led : goal.returns-clause-led
returns-clause-led g c = λ a shown all. (levels_at a shown c.args.levels.now.items c.args.at c.index_mut.result.now _ c.requires.at all c.index_mut.ensures.value (λ fits. level_keeps a shown c.index_mut.result.now c.give.new.self fits c.give.ensures.keeps c.give.ensures.less c.give.ensures.awaiting c.give.ensures.tells)).1

pub returns-clause-pieces : goal.returns-clause-pieces
returns-clause-pieces g c = λ d. levels_count c.give.result c.args.levels.now.items c.args.at c.index_mut.result.now _ c.requires.at c.index_mut.ensures.value c.give.ensures.number d

pub returns-clause-plans : goal.returns-clause-plans
returns-clause-plans g c = list_plans c.args.levels.now.items c.args.at c.index_mut.result.now _ c.requires.at c.index_mut.ensures.value c.give.ensures.plans

pub returns-clause-lowers : goal.returns-clause-lowers
returns-clause-lowers g c = λ a shown all. levels_lower c.give.result a shown c.args.levels.now.items c.args.at c.index_mut.result.now c.give.new.self c.requires.at all c.index_mut.ensures.value c.give.ensures.keeps c.give.ensures.spends

pub returns-clause-stays_rule : goal.returns-clause-stays_rule
returns-clause-stays_rule g c = c.give.ensures.stays

pub returns-clause-quiet : goal.returns-clause-quiet
returns-clause-quiet g c = c.give.ensures.quiet

pub returns-clause-reads : goal.returns-clause-reads
returns-clause-reads g c = c.give.ensures.reads
