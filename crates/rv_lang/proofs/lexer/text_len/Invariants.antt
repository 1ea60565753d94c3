use Rattle.std.proofs.Common.{◌≡◌, ◌+◌, None, false, cond, length}
use Rattle.rv_lang.specs.Lexing.{scanned}
use Rattle.rv_lang.proofs.lexer.text_len.Given as goal

abbrev pub invariant-bytes : goal.invariant-bytes
invariant-bytes l = record {
  same : scanned l.best l.at l.quoted l.rest ≡ scanned None 0 false l.bytes;
  place : l.at + cond l.quoted 1 0 + length l.rest ≡ length l.bytes;
}

abbrev pub decreases-bytes : goal.decreases-bytes
decreases-bytes l = length l.rest
