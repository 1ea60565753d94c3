-- Bridge: what a text says by the grammar is the statement that the parser reads. The law of the parser is a premise.
use Rattle.std.proofs.Common.{◌≡◌, ℕ, List, [], Some}
use Rattle.rv_lang.specs.declared.token.Token.{Token}
use Rattle.rv_lang.specs.declared.statement.Statement.{Statement}
use Rattle.rv_lang.specs.Tokens.{Cuts}
use Rattle.rv_lang.specs.Grammar as today
use Rattle.rv_parse.specs.Reading.{statement_of}
use Rattle.rv_believed.specs.Grammar.{Says}
use Rattle.rv_believed.proofs.Derivations.{derives_to, derives_from}

abbrev pub Derived : Type 0
Derived = (text : List ℕ) (s : Statement) → statement_of text ≡ Some s → (ts : List Token) × Cuts text ts [] × today.Derives ts s

abbrev pub Given : Type 0
Given = (text : List ℕ) (ts : List Token) (s : Statement) → Cuts text ts [] → today.Derives ts s → statement_of text ≡ Some s

abbrev pub SaysIsRead : Type 0
SaysIsRead = (text : List ℕ) (s : Statement) → Says text s → statement_of text ≡ Some s

abbrev pub ReadIsSaid : Type 0
ReadIsSaid = (text : List ℕ) (s : Statement) → statement_of text ≡ Some s → Says text s

pub says_read : Given → SaysIsRead
says_read given text s said = given text said.0 s said.1 (derives_to said.0 s said.2)

pub read_says : Derived → ReadIsSaid
read_says derived text s read = let found = derived text s read in (found.0, found.1, derives_from found.0 s found.2)
