use Rattle.std.proofs.Common.{◌≡◌, ◌++◌, length, false}
use Rattle.rv_lang.specs.Lexing.{kept}
use Rattle.rv_lang.proofs.lexer.undoubled.Given as goal

abbrev pub invariant-bytes : goal.invariant-bytes
invariant-bytes l = l.out.items ++ kept l.quoted l.rest ≡ kept false l.bytes

abbrev pub decreases-bytes : goal.decreases-bytes
decreases-bytes l = length l.rest
