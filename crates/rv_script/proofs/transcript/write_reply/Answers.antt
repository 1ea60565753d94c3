use Rattle.rv_script.proofs.transcript.write_reply.Goals as goal

pub returns-in-RolledBack : goal.returns-in-RolledBack
returns-in-RolledBack g c = rw c.in-RolledBack.is c.write_next-in-RolledBack.ensures

pub returns-in-Trace : goal.returns-in-Trace
returns-in-Trace g c = rw c.in-Trace.is (rw c.get.ensures at c.write_trace.ensures)

pub returns-in-Refused : goal.returns-in-Refused
returns-in-Refused g c = rw c.in-Refused.is (rw c.get-in-Refused.ensures at c.write_refusal.ensures)
