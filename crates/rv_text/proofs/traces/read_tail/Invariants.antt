use Rattle.std.proofs.Common.{◌≡◌}
use Rattle.std.specs.Option.{option_copied}
use Rattle.rv_text.specs.Parts.{part_by}
use Rattle.rv_text.specs.Traces.{events_before, told, words, words_of, Event}
use Rattle.rv_text.proofs.Passing.{left_over}
use Rattle.rv_text.proofs.traces.read_tail.Given as goal

abbrev pub invariant-words : goal.invariant-words
invariant-words l = events_before l.events (told (part_by l.part) (words_of (option_copied l.left))) ≡ told Event (words l.fn.text)

abbrev pub decreases-words : goal.decreases-words
decreases-words l = left_over (option_copied l.left)
