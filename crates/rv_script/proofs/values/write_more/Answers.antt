use Rattle.std.proofs.Common.{arith, ◌≡◌, ◌++◌, ◌∷◌, [], take, ◌+◌, List, sym, ap, ◌∙◌}
use Rattle.std.proofs.lemmas.List.{take_more}
use Rattle.rv_value.specs.declared.value.Value.{Value}
use Rattle.rv_io.proofs.Streams.{goes_then}
use Rattle.rv_script.proofs.Pushes.{more_text-push}
use Rattle.rv_script.proofs.values.write_more.Goals as goal

pub loop-value-preserved : goal.loop-value-preserved
loop-value-preserved g c =
    let xs = c.args.values.now in
    let one = take_more xs c.loop-value.value-index c.value-item.result (omega arith) in
    rw (one, ← c.value-item.is, more_text-push) (goes_then c.loop-value.invariant (goes_then c.write_next-comma.ensures c.write_value-written.ensures))
