use Rattle.std.proofs.Common.{◌≤◌, length, IsUtf8}
use Rattle.rv_lang.specs.Tokens.{Cuts}
use Rattle.rv_lang.proofs.lexer.lex.Given as goal

abbrev pub invariant-tokens : goal.invariant-tokens
invariant-tokens l = record {
  cut : Cuts l.text l.tokens.items l.rest;
  utf8 : IsUtf8 l.rest;
  within : length l.rest ≤ length l.text;
}

abbrev pub decreases-tokens : goal.decreases-tokens
decreases-tokens l = length l.rest
