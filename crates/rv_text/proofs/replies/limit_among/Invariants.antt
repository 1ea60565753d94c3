use Rattle.std.proofs.Common.{◌≡◌, bytes_eq, find, length}
use Rattle.rv_model.specs.Transcript.{limit_word}
use Rattle.rv_text.proofs.replies.limit_among.Given as goal

abbrev pub invariant-limits : goal.invariant-limits
invariant-limits l = find (λ w. bytes_eq (limit_word w) l.word) l.rest ≡ find (λ w. bytes_eq (limit_word w) l.word) l.limits

abbrev pub decreases-limits : goal.decreases-limits
decreases-limits l = length l.rest
