use Rattle.std.proofs.Common.{◌≡◌, ℕ, length}
use Rattle.std.specs.Char.{is_ascii_digit}
use Rattle.rv_lang.specs.Tokens.{past, value_after}
use Rattle.rv_lang.specs.Lexing.{run}
use Rattle.rv_lang.specs.Lexing.{Tracks}
use Rattle.rv_lang.proofs.lexer.digits.Given as goal

abbrev pub invariant-digits : goal.invariant-digits
invariant-digits l = record {
  value : (v : ℕ) × Tracks l.n v × (value_after v (run is_ascii_digit l.rest) ≡ value_after 0 (run is_ascii_digit l.bytes));
  rest : past is_ascii_digit l.rest ≡ past is_ascii_digit l.bytes;
}

abbrev pub decreases-digits : goal.decreases-digits
decreases-digits l = length l.rest
