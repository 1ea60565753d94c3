use Rattle.std.proofs.Common.{◌∙◌, ap, sym}
use Rattle.rv_rows.specs.Rising.{put_in}
use Rattle.rv_reader.specs.Entries.{comes_before}
use Rattle.rv_overlay.proofs.Placing.{with_last}
use Rattle.rv_overlay.proofs.laying.put_all.Goals as goal

pub added-preserved : goal.added-preserved
added-preserved c = record {
  ascend = c.in_ok-put.ensures.ascend;
  all = c.in_ok-put.ensures.put ∙ ap (put_in comes_before c.in-Some.entry) c.added.invariant.all ∙ sym (with_last c.added.yielded c.args.entries.now.items c.in-Some.entry);
}
