use Rattle.std.proofs.Common.{◌≡◌, bytes_eq, find, length}
use Rattle.rv_judge.specs.Words.{control_word}
use Rattle.rv_text.proofs.traces.control_among.Given as goal

abbrev pub invariant-controls : goal.invariant-controls
invariant-controls l = find (λ c. bytes_eq (control_word c) l.word) l.rest ≡ find (λ c. bytes_eq (control_word c) l.word) l.controls

abbrev pub decreases-controls : goal.decreases-controls
decreases-controls l = length l.rest
