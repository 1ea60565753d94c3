use Rattle.std.proofs.Common.{◌≡◌, IfSome, Option, length, subst, sym, true}
use Rattle.std.specs.Option.{option_copied}
use Rattle.rv_value.specs.declared.record.Record.{Record}
use Rattle.rv_restrict.specs.Truth.{names_only, row_has}
use Rattle.rv_jscan.specs.Joint.{keys_of}
use Rattle.rv_reader.specs.Tables.{row_at}
use Rattle.rv_scan.proofs.Fetches.{found_columns}
use Rattle.rv_final.specs.Stage.{keys_left}
use Rattle.rv_final.proofs.Lists.{ends_fetches, key_falls, key_fetches, key_marks, key_records, key_tries, list_ended, looked_at, wanting_tries}
use Rattle.rv_final.proofs.stage.Final.list_step.Goals as goal

pub pass_key-requires : goal.pass_key-requires
pass_key-requires g c = c.in-Some.ensures.key.small

pub look-requires : goal.look-requires
look-requires g c =
    let rows = (g.R.Reader.shown c.args.reader.now).rows c.args.table c.args.snap in
    subst (λ (o : Option Record). IfSome o (λ (r : Record). names_only (row_has r.values) c.args.only.now ≡ true)) (sym c.in-Ok.ensures.row) (found_columns c.args.only.now rows c.in-Some.row.0 c.requires.columns)

pub returns-in-None-clause-marks : goal.returns-in-None-clause-marks
returns-in-None-clause-marks g c need = list_ended need c.args.only.now ((g.R.Reader.shown c.args.reader.now).rows c.args.table c.args.snap) (keys_of (option_copied c.args.list)) (option_copied c.args.delivered) c.args.self.now.at c.next_left.new.self.at c.next_left.ensures.passed c.in-None.ensures.key

pub returns-in-None-clause-fetches : goal.returns-in-None-clause-fetches
returns-in-None-clause-fetches g c = ends_fetches (keys_of (option_copied c.args.list)) (option_copied c.args.delivered) c.args.self.now.at c.args.only.now ((g.R.Reader.shown c.args.reader.now).rows c.args.table c.args.snap) c.args.steps.now c.in-None.ensures.first

pub returns-in-Ok-clause-marks : goal.returns-in-Ok-clause-marks
returns-in-Ok-clause-marks g c need =
    let rows = (g.R.Reader.shown c.args.reader.now).rows c.args.table c.args.snap in
    let looks = looked_at c.args.only.now rows c.in-Some.row.0 c.in-Ok.found c.look.result c.in-Ok.ensures.row c.look.ensures in
    key_marks need c.args.only.now rows (keys_of (option_copied c.args.list)) (option_copied c.args.delivered) c.args.self.now.at c.in-Some.row.0 c.next_left.new.self c.pass_key.new.self c.look.result c.requires.ascend c.next_left.ensures.passed c.in-Some.ensures.key c.in-Some.ensures.fresh c.pass_key.ensures looks

pub returns-in-Ok-clause-fetches : goal.returns-in-Ok-clause-fetches
returns-in-Ok-clause-fetches g c =
    let rows = (g.R.Reader.shown c.args.reader.now).rows c.args.table c.args.snap in
    let looks = looked_at c.args.only.now rows c.in-Some.row.0 c.in-Ok.found c.look.result c.in-Ok.ensures.row c.look.ensures in
    key_fetches (keys_of (option_copied c.args.list)) (option_copied c.args.delivered) c.args.self.now.at c.in-Some.row.0 c.args.only.now rows c.args.steps.now c.fetch.new.steps c.look.result c.in-Some.ensures.first c.fetch.ensures.counted looks

pub returns-in-Ok-clause-tries : goal.returns-in-Ok-clause-tries
returns-in-Ok-clause-tries g c = key_tries (keys_of (option_copied c.args.list)) c.args.self.now.at c.in-Some.row.0 c.next_left.new.self c.pass_key.new.self c.args.steps.now c.fetch.new.steps c.in-Some.ensures.key c.next_left.ensures.fewer c.pass_key.ensures c.fetch.ensures.counted

pub returns-in-Ok-clause-falls : goal.returns-in-Ok-clause-falls
returns-in-Ok-clause-falls g c =
    let rows = (g.R.Reader.shown c.args.reader.now).rows c.args.table c.args.snap in
    let looks = looked_at c.args.only.now rows c.in-Some.row.0 c.in-Ok.found c.look.result c.in-Ok.ensures.row c.look.ensures in
    key_falls (keys_of (option_copied c.args.list)) c.args.self.now.at c.in-Some.row.0 c.args.only.now (row_at rows c.in-Some.row.0) c.next_left.new.self c.pass_key.new.self c.args.steps.now c.fetch.new.steps c.look.result c.in-Some.ensures.key c.next_left.ensures.fewer c.pass_key.ensures looks

pub returns-in-Ok-clause-records : goal.returns-in-Ok-clause-records
returns-in-Ok-clause-records g c = key_records (keys_of (option_copied c.args.list)) c.args.self.now.at c.in-Some.row.0 c.next_left.new.self c.pass_key.new.self c.args.steps.now c.fetch.new.steps c.in-Some.ensures.key c.next_left.ensures.fewer c.pass_key.ensures c.fetch.ensures.counted

pub returns-in-Err-clause-marks : goal.returns-in-Err-clause-marks
returns-in-Err-clause-marks g c need = tt

pub returns-in-Err-clause-passed : goal.returns-in-Err-clause-passed
returns-in-Err-clause-passed g c = c.next_left.ensures.passed

pub returns-in-Err-clause-tries : goal.returns-in-Err-clause-tries
returns-in-Err-clause-tries g c = wanting_tries (length (keys_left (keys_of (option_copied c.args.list)) c.args.self.now.at)) (length (keys_left (keys_of (option_copied c.args.list)) c.next_left.new.self.at)) c.args.steps.now c.fetch.new.steps c.next_left.ensures.fewer c.fetch.ensures.counted
