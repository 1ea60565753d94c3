use Rattle.rv_lang.proofs.TextLengths.{len_fits}
use Rattle.rv_lang.proofs.lexer.text_end.Goals as goal

pub returns-clause-within : goal.returns-clause-within
returns-clause-within c = rw c.text_len.ensures (len_fits c.args.bytes.now)
