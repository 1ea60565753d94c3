use Rattle.std.proofs.Common.{ap, refl, rules}
use Rattle.rv_access.specs.declared.access.Access.{Access}
use Rattle.rv_join.specs.Levels.{Stacked}
use Rattle.rv_join.proofs.OneItem.{first_plans, given_less, none_above}
use Rattle.rv_join.proofs.Calls.{stays_above, stays_at}
use Rattle.rv_join.proofs.Numbers.{innermost_counts}
use Rattle.rv_join.proofs.Lowering.{above_lowers, innermost_lowers, level_lowers}
use Rattle.rv_join.proofs.Opening.{level_keeps}
use Rattle.rv_join.proofs.stack.Stack.give.Goals as goal

pub returns-then-at-len-clause-stays : goal.returns-then-at-len-clause-stays
returns-then-at-len-clause-stays g c = rw (← c.self.view_is) (λ a shown fits. stays_above a shown (record { above = c.self.inside.above.items; at = c.self.inside.at; openings = c.self.inside.openings }) (record { above = c.give_at.new.levels.items; at = c.self.inside.at; openings = c.self.inside.openings }) fits (c.give_at.ensures.stay a shown fits.above) (c.give_at.ensures.led a shown fits.above) refl)

pub returns-else-at-len-clause-stays : goal.returns-else-at-len-clause-stays
returns-else-at-len-clause-stays g c = rw (← c.self.view_is) (λ a shown fits. stays_at a shown (record { above = c.self.inside.above.items; at = c.self.inside.at; openings = c.self.inside.openings }) (record { above = c.self.inside.above.items; at = record c.self.inside.at { here = c.give.new.self }; openings = c.self.inside.openings }) fits (level_keeps a shown c.self.inside.at c.give.new.self fits.at c.give.ensures.keeps c.give.ensures.less c.give.ensures.awaiting c.give.ensures.tells) refl)

pub returns-else-at-len-clause-pieces : goal.returns-else-at-len-clause-pieces
returns-else-at-len-clause-pieces g c = rw (← c.self.view_is) (innermost_counts c.give.result c.self.inside.above.items c.self.inside.at (record c.self.inside.at { here = c.give.new.self }) c.give.ensures.number)

pub returns-then-at-len-clause-plans : goal.returns-then-at-len-clause-plans
returns-then-at-len-clause-plans g c = rw (← c.self.view_is) (c.give_at.ensures.plans c.self.inside.at)

pub returns-then-at-len-clause-less : goal.returns-then-at-len-clause-less
returns-then-at-len-clause-less g c = rw (← c.self.view_is) (λ shown none. none_above c.args.at c.self.inside.above.items (search rules) none)

pub returns-then-at-len-clause-settled : goal.returns-then-at-len-clause-settled
returns-then-at-len-clause-settled g c = rw (← c.self.view_is) (λ none. none_above c.args.at c.self.inside.above.items (search rules) none)

pub returns-else-at-len-clause-plans : goal.returns-else-at-len-clause-plans
returns-else-at-len-clause-plans g c = rw (← c.self.view_is) (first_plans (record { above = c.self.inside.above.items; at = c.self.inside.at; openings = c.self.inside.openings }) (record { above = c.self.inside.above.items; at = record c.self.inside.at { here = c.give.new.self }; openings = c.self.inside.openings }) refl c.give.ensures.plans)

pub returns-else-at-len-clause-less : goal.returns-else-at-len-clause-less
returns-else-at-len-clause-less g c = rw (← c.self.view_is) (λ shown none fits. given_less c.give.result shown c.self.inside.at c.give.new.self (c.give.ensures.spends shown fits))

pub returns-else-at-len-clause-settled : goal.returns-else-at-len-clause-settled
returns-else-at-len-clause-settled g c = rw (← c.self.view_is) (λ none s. (let same : Stacked = record { above = c.self.inside.above.items; at = c.self.inside.at; openings = c.self.inside.openings } in (ap (λ (h : Access). record same { at = record c.self.inside.at { here = h } }) (c.give.ensures.settled s).0, (c.give.ensures.settled s).1)))

pub returns-then-at-len-clause-lowers : goal.returns-then-at-len-clause-lowers
returns-then-at-len-clause-lowers g c = rw (← c.self.view_is) (λ a shown fits. above_lowers c.give_at.result a shown (record { above = c.self.inside.above.items; at = c.self.inside.at; openings = c.self.inside.openings }) (record { above = c.give_at.new.levels.items; at = c.self.inside.at; openings = c.self.inside.openings }) (c.give_at.ensures.lowers a shown fits.above) refl)

pub returns-else-at-len-clause-lowers : goal.returns-else-at-len-clause-lowers
returns-else-at-len-clause-lowers g c = rw (← c.self.view_is) (λ a shown fits. innermost_lowers c.give.result a shown (record { above = c.self.inside.above.items; at = c.self.inside.at; openings = c.self.inside.openings }) (record { above = c.self.inside.above.items; at = record c.self.inside.at { here = c.give.new.self }; openings = c.self.inside.openings }) (level_lowers c.give.result a shown c.self.inside.at c.give.new.self fits.at c.give.ensures.keeps c.give.ensures.spends) refl)

pub returns-then-at-len-clause-obeys : goal.returns-then-at-len-clause-obeys
returns-then-at-len-clause-obeys g c = rw (← c.self.view_is) (c.give_at.ensures.obeys c.self.inside.at)

pub returns-then-at-len-clause-stays_rule : goal.returns-then-at-len-clause-stays_rule
returns-then-at-len-clause-stays_rule g c = c.give_at.ensures.stays_rule

pub returns-then-at-len-clause-quiet : goal.returns-then-at-len-clause-quiet
returns-then-at-len-clause-quiet g c = c.give_at.ensures.quiet

pub returns-then-at-len-clause-reads : goal.returns-then-at-len-clause-reads
returns-then-at-len-clause-reads g c = c.give_at.ensures.reads

pub returns-then-at-len-clause-given : goal.returns-then-at-len-clause-given
returns-then-at-len-clause-given g c = rw (← c.self.view_is) (c.give_at.ensures.given c.self.inside.at)

pub returns-then-at-len-clause-counts : goal.returns-then-at-len-clause-counts
returns-then-at-len-clause-counts g c = rw (← c.self.view_is) (c.give_at.ensures.counts c.self.inside.at)

pub returns-then-at-len-clause-pieces : goal.returns-then-at-len-clause-pieces
returns-then-at-len-clause-pieces g c = rw (← c.self.view_is) (c.give_at.ensures.pieces c.self.inside.at)

pub returns-else-at-len-clause-stays_rule : goal.returns-else-at-len-clause-stays_rule
returns-else-at-len-clause-stays_rule g c = c.give.ensures.stays

pub returns-else-at-len-clause-quiet : goal.returns-else-at-len-clause-quiet
returns-else-at-len-clause-quiet g c = c.give.ensures.quiet

pub returns-else-at-len-clause-reads : goal.returns-else-at-len-clause-reads
returns-else-at-len-clause-reads g c = c.give.ensures.reads
