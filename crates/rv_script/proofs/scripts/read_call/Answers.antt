use Rattle.rv_script.proofs.Boundaries.{behind_space}
use Rattle.rv_script.proofs.scripts.read_call.Goals as goal

pub range_from-requires : goal.range_from-requires
range_from-requires c = λ some. rw (← c.as_bytes.ensures.value) (behind_space c.as_bytes.result.now (rw c.as_bytes.ensures.value c.utf8.line) c.in-len2-up.len_at_least c.if-space-eq32.true)
