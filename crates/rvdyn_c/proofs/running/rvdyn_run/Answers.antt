use Rattle.std.proofs.Common.{◌∙◌, ap, refl, subst, sym}
use Rattle.rvdyn_c.specs.Running.{Ends, told_of}
use Rattle.rvdyn_c.proofs.Endings.{holds_front}
use Rattle.rvdyn_c.proofs.running.rvdyn_run.Goals as goal

pub returns : goal.returns
returns c = record {
  status = c.run_bytes-status.result.status;
  told = c.told_text-told.result.now;
  ends = subst (Ends c.run_bytes-status.result.status c.args.script.now) (sym (c.told_text-told.ensures ∙ ap (told_of c.run_bytes-status.result.status) c.as_slice.ensures.value)) c.run_bytes-status.ensures;
  code = c.from.ensures ∙ c.code.ensures;
  holds = holds_front c.args.out.now _ c.told_text-told.result.now c.copy_front.result c.copy_front.ensures.count c.copy_front.ensures.copied;
  size = refl;
}
