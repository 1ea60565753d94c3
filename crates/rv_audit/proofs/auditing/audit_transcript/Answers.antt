use Rattle.std.proofs.Common.{subst}
use Rattle.rv_text.specs.Reading.{Tells}
use Rattle.rv_audit.proofs.Concluding.{few_entries}
use Rattle.rv_audit.proofs.auditing.audit_transcript.Goals as goal

pub audit_entries-requires-clause-few : goal.audit_entries-requires-clause-few
audit_entries-requires-clause-few c =
    let t = subst (Tells c.args.transcript.now) c.in-Entries.is c.in_ok-entries.ensures in
    few_entries c.in-Entries.entries.items c.args.transcript.now t.1 c.requires.few
