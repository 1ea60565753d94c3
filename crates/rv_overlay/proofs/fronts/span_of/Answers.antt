use Rattle.std.specs.Option.{option_copied}
use Rattle.rv_overlay.proofs.Runs.{early_parted, span_taken, until_parted}
use Rattle.rv_overlay.proofs.fronts.span_of.Goals as goal

pub count-at-requires : goal.count-at-requires
count-at-requires c = early_parted c.args.range.now (option_copied c.args.from) c.args.entries.now c.requires.ascend c.requires.long

pub count-end-requires : goal.count-end-requires
count-end-requires c = until_parted c.args.range.now (option_copied c.args.next) c.args.entries.now c.requires.ascend c.requires.long

pub returns-clause-span : goal.returns-clause-span
returns-clause-span c = (span_taken c.args.range.now (option_copied c.args.from) (option_copied c.args.next) c.count-at.result c.count-end.result _ c.args.entries.now c.count-at.ensures.front c.count-at.ensures.back c.count-end.ensures.front c.count-end.ensures.back c.saturating_sub.ensures c.count-end.ensures.bound).0

pub returns-clause-count : goal.returns-clause-count
returns-clause-count c = (span_taken c.args.range.now (option_copied c.args.from) (option_copied c.args.next) c.count-at.result c.count-end.result _ c.args.entries.now c.count-at.ensures.front c.count-at.ensures.back c.count-end.ensures.front c.count-end.ensures.back c.saturating_sub.ensures c.count-end.ensures.bound).1
