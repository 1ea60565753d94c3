use Rattle.std.proofs.Common.{◌∙◌, ap, sym}
use Rattle.std.specs.Option.{option_copied}
use Rattle.rv_jscan.specs.Joint.{keys_of}
use Rattle.rv_final.specs.Stage.{Staged}
use Rattle.rv_final.proofs.Lists.{first_on, passes_first, passes_more}
use Rattle.rv_final.proofs.stage.Final.+next_left.Goals as goal

pub returns-then-given_before-clause-passed : goal.returns-then-given_before-clause-passed
returns-then-given_before-clause-passed t c =
    let mid = c.pass_key.new.self in
    passes_more (keys_of (option_copied c.args.list)) (option_copied c.args.delivered) c.args.self.now.at mid.at c.next_left.new.self.at c.in-Some.row.0 (ap (λ (x : Staged). x.at) c.pass_key.ensures) (sym c.was_delivered-given_before.ensures ∙ c.if-given_before.true) c.in-Some.ensures c.next_left.ensures.passed

pub returns-then-given_before-clause-first : goal.returns-then-given_before-clause-first
returns-then-given_before-clause-first t c =
    let list = keys_of (option_copied c.args.list) in
    let delivered = option_copied c.args.delivered in
    let mid = c.pass_key.new.self in
    let passed = passes_first list delivered c.args.self.now.at mid.at c.in-Some.row.0 (ap (λ (x : Staged). x.at) c.pass_key.ensures) (sym c.was_delivered-given_before.ensures ∙ c.if-given_before.true) c.in-Some.ensures in
    first_on list delivered c.args.self.now.at mid.at c.next_left.result passed c.next_left.ensures.first
