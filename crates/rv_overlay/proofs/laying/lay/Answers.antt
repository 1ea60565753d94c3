use Rattle.std.proofs.Common.{◌∙◌, ap, not, ◌&&◌}
use Rattle.std.specs.Option.{option_copied}
use Rattle.rv_reader.specs.Entries.{comes_before}
use Rattle.rv_rows.proofs.Puts.{rising_filter}
use Rattle.rv_overlay.specs.Laying.{has}
use Rattle.rv_reader.specs.Leaves.{is_below}
use Rattle.rv_overlay.proofs.laying.lay.Goals as goal

pub put_all-requires : goal.put_all-requires
put_all-requires c = rw c.keep_left.ensures (rising_filter comes_before (λ e. is_below (option_copied c.args.next) e && not (has c.args.taken.now e)) c.args.entries.items c.requires.leaf)
