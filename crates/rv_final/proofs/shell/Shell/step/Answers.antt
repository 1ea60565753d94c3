use Rattle.std.specs.Option.{option_copied}
use Rattle.rv_jscan.specs.Joint.{keys_of}
use Rattle.rv_final.proofs.shell.Shell.step.Goals as goal

pub returns-in-FinalTable : goal.returns-in-FinalTable
returns-in-FinalTable g c = c.table_step.ensures (keys_of (option_copied c.args.list))
