-- What a text derives has the parts that a statement is never without.
use Rattle.std.proofs.Common.{◌≡◌, sym, ℕ, ◌≤◌, List, [], ◌∷◌, Option, Some, None, arith, length, inl, inr}
use Rattle.std.specs.Prelude.{IfSome}
use Rattle.rv_lang.specs.declared.token.Token.{Token}
use Rattle.rv_lang.specs.declared.statement.Statement.{Statement}
use Rattle.rv_lang.specs.declared.statement.Statement.TheVariants.{CreateTable, CreateIndex, Begin, Insert, Update, Delete, Commit, Rollback, Open, Fetch, Show, Close, Step}
use Rattle.rv_lang.specs.Grammar.{AreSome, Derives, IsBody}
use Rattle.rv_parse.specs.Needed.{HasParts}
use Rattle.rv_parse.specs.Reading.{statement_of}
use Rattle.rv_parse.proofs.TextStatements.{statement_derived}

some_long : {X : Type 0} (Is : X → Type 0) (xs : List X) → AreSome Is xs → 1 ≤ length xs
some_long Is [] h = absurd h
some_long Is (x ∷ xs) h = omega arith

body_parts : (s : Statement) (tokens rest : List Token) → IsBody s tokens rest → HasParts s
body_parts (CreateTable table columns) tokens rest h = some_long _ columns h.1
body_parts (CreateIndex unique index table columns) tokens rest h = some_long _ columns h.2
body_parts (Begin read_only) tokens rest h = tt
body_parts (Insert table values) tokens rest h = some_long _ values h.1
body_parts (Update table sets only) tokens rest h = some_long _ sets h.2
body_parts (Delete table only) tokens rest h = tt
body_parts Commit tokens rest h = tt
body_parts Rollback tokens rest h = tt
body_parts (Open cursor columns items only by goal) tokens rest h = some_long _ items h.3
body_parts (Fetch cursor) tokens rest h = tt
body_parts (Show cursor) tokens rest h = tt
body_parts (Close cursor) tokens rest h = tt
body_parts (Step cursor n) tokens rest h = tt

derived_parts : (s : Statement) (tokens : List Token) → Derives tokens s → HasParts s
derived_parts s tokens (inl h) = body_parts s tokens _ h
derived_parts s tokens (inr h) = body_parts s tokens _ h

pub text_parts : (text : List ℕ) (o : Option Statement) → o ≡ statement_of text → IfSome o HasParts
text_parts text None e = tt
text_parts text (Some s) e = let d = statement_derived text s (sym e) in derived_parts s d.0 d.2
