-- The statement of a list of tokens and of a text, as functions and as the grammar has them.
use Rattle.std.proofs.Common.{◌≡◌, ℕ, List, [], Option, Some, None, refl, ap, ◌∙◌, subst}
use Rattle.rv_lang.specs.declared.token.Token.{Token}
use Rattle.rv_lang.specs.declared.statement.Statement.{Statement}
use Rattle.rv_lang.specs.Grammar.{Derives}
use Rattle.rv_lang.specs.Tokens.{Cuts}
use Rattle.rv_lang.specs.Lexing.{tokens_of}
use Rattle.rv_lang.proofs.Cuts.{cuts_of, of_cuts}
use Rattle.rv_parse.specs.Reading.{◌>>=◌, parse_of, statement_of}
use Rattle.rv_parse.proofs.Takes.{Finds, statement_takes}
use Rattle.rv_parse.proofs.Again.{statement_again}

pub derived : (tokens : List Token) (s : Statement) → parse_of tokens ≡ Some s → Derives tokens s
derived tokens s e = let found : Finds (Some s) (Derives tokens) = subst (λ (o : Option Statement). Finds o (Derives tokens)) e (statement_takes tokens) in found.it

after : (o : Option (List Token)) (s : Statement) → o >>= parse_of ≡ Some s → (ts : List Token) × (o ≡ Some ts) × (parse_of ts ≡ Some s)
after (Some ts) s e = (ts, refl, e)
after None s e = absurd cc

pub statement_derived : (text : List ℕ) (s : Statement) → statement_of text ≡ Some s → (ts : List Token) × Cuts text ts [] × Derives ts s
unfolding statement_of
statement_derived text s e = let a = after (tokens_of text) s e in (a.0, cuts_of text a.0 a.1, derived a.0 s a.2)

pub statement_given : (text : List ℕ) (ts : List Token) (s : Statement) → Cuts text ts [] → Derives ts s → statement_of text ≡ Some s
unfolding statement_of
statement_given text ts s cut is = ap (λ (o : Option (List Token)). o >>= parse_of) (of_cuts text ts cut) ∙ statement_again ts s is
