use Rattle.std.proofs.Common.{◌≡◌, drop}
use Rattle.rv_words.specs.Reading.{fit_from, start}
use Rattle.rv_words.proofs.reading.fit.Given as goal

abbrev pub invariant-words : goal.invariant-words
invariant-words l = fit_from l.sofar (drop l.word-index l.words) ≡ fit_from start l.words
