use Rattle.std.proofs.Common.{◌≡◌, ◌∷◌, ◌++◌, length, map}
use Rattle.std.specs.Char.{to_ascii_uppercase}
use Rattle.rv_lang.specs.Tokens.{is_word_byte, past}
use Rattle.rv_lang.specs.Lexing.{run}
use Rattle.rv_lang.proofs.lexer.short_word.Given as goal

abbrev pub invariant-letters : goal.invariant-letters
invariant-letters l = record {
  text : l.text.bytes ++ map to_ascii_uppercase (run is_word_byte l.rest) ≡ map to_ascii_uppercase (l.first ∷ run is_word_byte l.bytes);
  rest : past is_word_byte l.rest ≡ past is_word_byte l.bytes;
}

abbrev pub decreases-letters : goal.decreases-letters
decreases-letters l = length l.rest
