use Rattle.std.proofs.Common.{length, sym, refl, ap, arith, false-eqb}
use Rattle.rv_lang.proofs.Cuts.{all_cut, of_cut_to, cuts_more, cut_to, past_blank_le}
use Rattle.rv_lang.proofs.Longest.{token_shorter}
use Rattle.rv_lang.proofs.Utf8.{token_utf8, utf8_past_blanks}
use Rattle.rv_lang.proofs.lexer.lex.Goals as goal

pub tokens-init : goal.tokens-init
tokens-init c = rw (c.past_blanks-rest.ensures, c.as_bytes-bytes.ensures.value) (record {
  cut = rw c.in_ok-tokens.ensures.items refl;
  utf8 = utf8_past_blanks c.args.text.now c.utf8.text;
  within = past_blank_le c.args.text.now;
})

pub tokens-smaller : goal.tokens-smaller
tokens-smaller c = omega (arith, past_blank_le c.in-Ok.after.now, ap length c.past_blanks-rest-in-Ok.ensures, token_shorter c.tokens.rest.now c.in-Ok.token c.in-Ok.after.now c.in-Ok.ensures)

pub tokens-preserved : goal.tokens-preserved
tokens-preserved c = rw (c.past_blanks-rest-in-Ok.ensures, c.in_ok-push-in-Ok.ensures.items) (record {
  cut = cuts_more c.args.text.now c.tokens.tokens.items c.tokens.rest.now c.in-Ok.token c.in-Ok.after.now c.tokens.invariant.cut c.in-Ok.ensures;
  utf8 = utf8_past_blanks c.in-Ok.after.now (token_utf8 c.tokens.rest.now c.in-Ok.token c.in-Ok.after.now c.tokens.invariant.utf8 c.in-Ok.ensures);
  within = omega (arith, past_blank_le c.in-Ok.after.now, token_shorter c.tokens.rest.now c.in-Ok.token c.in-Ok.after.now c.in-Ok.ensures, c.tokens.invariant.within);
})

pub returns-in-Err-NoToken-clause-fault : goal.returns-in-Err-NoToken-clause-fault
returns-in-Err-NoToken-clause-fault c = cut_to c.args.text.now c.tokens.tokens.items c.tokens.rest.now _ c.tokens.invariant.cut (rw c.in-Err-NoToken.field-0-is at c.in-Err-NoToken.ensures) (omega (arith, false-eqb _ 0 c.tokens-test.ensures)) (omega (arith, ap length c.as_bytes-bytes.ensures.value, c.tokens.invariant.within))

pub returns-in-Err-NoToken-clause-exact : goal.returns-in-Err-NoToken-clause-exact
returns-in-Err-NoToken-clause-exact c = of_cut_to c.args.text.now _ (returns-in-Err-NoToken-clause-fault c)

pub returns-clause-exact : goal.returns-clause-exact
returns-clause-exact c = all_cut c.args.text.now c.tokens.tokens.items c.tokens.rest.now c.tokens.invariant.cut (sym c.tokens-test.ensures)

pub token-requires : goal.token-requires
token-requires c = c.tokens.invariant.utf8
