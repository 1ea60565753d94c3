use Rattle.std.proofs.Common.{◌≡◌, drop}
use Rattle.rv_words.specs.Reading.{number_from}
use Rattle.rv_words.proofs.digits.number.Given as goal

abbrev pub invariant-digits : goal.invariant-digits
invariant-digits l = number_from l.number (drop l.digit-index l.digits) ≡ number_from 0 l.digits
