use Rattle.std.proofs.Common.{ap, arith, false, length, not, true, ◌-◌, ◌<◌, ◌∙◌}
use Rattle.std.proofs.lemmas.Bool.Decides.{nat_tests}
use Rattle.rv_reader.specs.Halves.{is_not_after}
use Rattle.rv_reader.proofs.Halving.{not_after_parted, passes_between, read_says}
use Rattle.rv_reader.proofs.halves.count_front.Goals as goal

pub returns-then-is_after-clause-passes : goal.returns-then-is_after-clause-passes
returns-then-is_after-clause-passes c =
    let test = is_not_after c.args.range.now in
    let es = c.args.entries.now in
    let some : 0 < length es = grind (arith, nat_tests, c.if-count-eq0.false) in
    let first = read_says test es 0 c.index-entries-0.result false some c.index-entries-0.is (c.is_after.ensures ∙ ap not c.if-is_after.true) in
    passes_between test es 0 (not_after_parted c.args.range.now es c.requires.ascend c.requires.long) (omega arith) (λ d l. absurd (omega arith)) (λ d l. first d)

pub returns-then-is_after-2-clause-passes : goal.returns-then-is_after-2-clause-passes
returns-then-is_after-2-clause-passes c =
    let test = is_not_after c.args.range.now in
    let es = c.args.entries.now in
    let two : 1 < length es = grind (arith, nat_tests, c.if-count-eq0.false, c.if-count-eq1.false) in
    let first = read_says test es 0 c.index-entries-0.result true (omega arith) c.index-entries-0.is (c.is_after.ensures ∙ ap not c.if-is_after.false) in
    let second = read_says test es 1 c.index-entries-1.result false two c.index-entries-1.is (c.is_after-2.ensures ∙ ap not c.if-is_after-2.true) in
    passes_between test es 1 (not_after_parted c.args.range.now es c.requires.ascend c.requires.long) (omega arith) (λ d l. first d) (λ d l. second d)

pub returns-clause-passes : goal.returns-clause-passes
returns-clause-passes c =
    let test = is_not_after c.args.range.now in
    let es = c.args.entries.now in
    let some : 0 < length es = grind (arith, nat_tests, c.if-count-eq0.false) in
    let last = read_says test es (length es - 1) c.index-entries-count.result true (omega arith) c.index-entries-count.is (c.is_after-3.ensures ∙ ap not c.if-is_after-3.false) in
    passes_between test es (length es) (not_after_parted c.args.range.now es c.requires.ascend c.requires.long) (omega arith) (λ d l. last d) (λ d l. absurd (omega arith))
