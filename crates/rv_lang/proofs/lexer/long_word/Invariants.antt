use Rattle.std.proofs.Common.{◌≡◌, ◌∷◌, ◌++◌, length, string_bytes, map}
use Rattle.std.specs.Char.{to_ascii_uppercase}
use Rattle.rv_lang.specs.Tokens.{is_word_byte, past}
use Rattle.rv_lang.specs.Lexing.{run}
use Rattle.rv_lang.proofs.lexer.long_word.Given as goal

abbrev pub invariant-letters : goal.invariant-letters
invariant-letters l = record {
  text : string_bytes l.text ++ map to_ascii_uppercase (run is_word_byte l.rest) ≡ map to_ascii_uppercase (l.first ∷ run is_word_byte l.bytes);
  rest : past is_word_byte l.rest ≡ past is_word_byte l.bytes;
}

abbrev pub decreases-letters : goal.decreases-letters
decreases-letters l = length l.rest
