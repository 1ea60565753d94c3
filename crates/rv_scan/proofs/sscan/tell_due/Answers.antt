use Rattle.rv_scan.proofs.Telling.{told_columns}
use Rattle.rv_scan.proofs.sscan.tell_due.Goals as goal

pub truth-requires : goal.truth-requires
truth-requires c = rw c.in_ok-record.ensures (told_columns c.args.columns.now c.args.entry.now.key c.args.only.now c.requires.names)
