use Rattle.std.proofs.Common.{◌≤◌, length, arith}
use Rattle.rv_run.proofs.Fits.{script_fits}
use Rattle.rv_audit.proofs.Concluding.{fault_answers, faulty, judged}
use Rattle.rv_audit.proofs.Marking.{parts, transcript_few}
use Rattle.rv_audit.proofs.auditing.audit.Goals as goal

pub audit_transcript-requires-clause-few : goal.audit_transcript-requires-clause-few
audit_transcript-requires-clause-few c = transcript_few c.args.input.now (parts c.in-Some.script.now c.in-Some.transcript.now) 268435456 c.in-Some.ensures c.requires

pub audit_transcript-requires-clause-fits : goal.audit_transcript-requires-clause-fits
audit_transcript-requires-clause-fits c = script_fits c.in-Some.script.now c.in-Ok.script c.in-Ok.ensures

pub returns-in-Ok-clause-audits : goal.returns-in-Ok-clause-audits
returns-in-Ok-clause-audits c =
    let few : length c.in-Some.script.now ≤ 16777216 = omega (arith, c.if-script-gt-SCRIPT_BYTES.false) in
    judged c.args.input.now (parts c.in-Some.script.now c.in-Some.transcript.now) c.in-Ok.script c.audit_transcript.result c.in-Some.ensures few c.in-Ok.ensures c.audit_transcript.ensures

pub returns-in-Err-clause-audits : goal.returns-in-Err-clause-audits
returns-in-Err-clause-audits c =
    let few : length c.in-Some.script.now ≤ 16777216 = omega (arith, c.if-script-gt-SCRIPT_BYTES.false) in
    faulty c.args.input.now (parts c.in-Some.script.now c.in-Some.transcript.now) c.in-Err.fault c.told_fault.result c.in-Some.ensures few c.in-Err.ensures c.told_fault.ensures

pub returns-in-Err-clause-answer : goal.returns-in-Err-clause-answer
returns-in-Err-clause-answer c = fault_answers c.in-Err.fault c.told_fault.result c.told_fault.ensures
