use Rattle.std.proofs.Common.{◌≤◌, length, rules}
use Rattle.rv_run.proofs.Ends.{hinders, told_script}
use Rattle.rv_run.proofs.Fits.{script_fits}
use Rattle.rv_run.proofs.top.read_input.Goals as goal

pub returns-in-Ok-read_script-clause-fits : goal.returns-in-Ok-read_script-clause-fits
returns-in-Ok-read_script-clause-fits g c = script_fits c.deref.result.now c.in-Ok-read_script.script c.in-Ok-read_script.ensures

pub returns-in-Ok-read_script-clause-script : goal.returns-in-Ok-read_script-clause-script
returns-in-Ok-read_script-clause-script g c =
    let few : length c.deref.result.now ≤ 16777216 = search rules in
    told_script _ _ c.deref.result.now c.in-Ok-read_script.script few (rw (← c.deref.ensures.value) at c.in-Ok.ensures.bytes) c.in-Ok-read_script.ensures

pub returns-clause-fault : goal.returns-clause-fault
returns-clause-fault g c =
    let few : length c.deref.result.now ≤ 16777216 = search rules in
    rw c.after_script.ensures (hinders c.in-Err-read_script.fault _ _ c.deref.result.now _ _ few c.in-Err-read_script.ensures (rw (← c.deref.ensures.value) at c.in-Ok.ensures.bytes))
