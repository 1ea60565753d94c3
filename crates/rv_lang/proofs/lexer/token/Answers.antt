use Rattle.std.proofs.Common.{arith}
use Rattle.rv_lang.proofs.Utf8.{utf8_rest}
use Rattle.rv_lang.proofs.lexer.token.Goals as goal

pub text-requires : goal.text-requires
text-requires c = utf8_rest c.args.bytes.now c.requires (omega arith) (omega arith)
