use Rattle.std.proofs.Common.{◌∙◌, ap}
use Rattle.rv_model.specs.Rivals.{key_of}
use Rattle.rv_rivals.proofs.Entries.{put_is}
use Rattle.rv_rivals.proofs.statement.put_entry.Goals as goal

pub returns-in_ok-put-in-Some : goal.returns-in_ok-put-in-Some
returns-in_ok-put-in-Some c = put_is c.args.columns.now c.args.change.now c.in-Some.values c.in_ok-key-in-Some.key c.args.entries.now c.put.new.self c.in-Some.is (c.in_ok-key-in-Some.ensures ∙ ap (key_of c.args.columns.now) c.as_slice.ensures) c.in_ok-put-in-Some.ensures.ok
