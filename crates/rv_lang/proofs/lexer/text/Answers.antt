use Rattle.std.proofs.Common.{sym}
use Rattle.rv_lang.proofs.TextLengths.{text_some, text_none}
use Rattle.rv_lang.proofs.Utf8.{utf8_said}
use Rattle.rv_lang.proofs.lexer.text.Goals as goal

pub said-requires : goal.said-requires
said-requires c = utf8_said c.args.bytes.now c.in-Some.front.now c.in-Some.rest.now c.requires (sym c.in-Some.ensures)

pub returns-in-Ok : goal.returns-in-Ok
returns-in-Ok c = rw c.in-Ok.ensures (text_some c.args.bytes.now c.in-Some.front.now c.in-Some.rest.now (sym c.in-Some.ensures))

pub returns-in-None : goal.returns-in-None
returns-in-None c = text_none c.args.bytes.now (sym c.in-None.ensures)
