-- What is read is spelled so.
use Rattle.std.proofs.Common.{◌≡◌, ℕ, zero, suc, length, List, [], ◌∷◌, Option, Some, None, Bool, true, false, cond, refl, ap, subst, ◌∙◌, inl, inr, ⊎_elim, arith, bytes_eq, nat_eq}
use Rattle.std.specs.Prelude.{IfSome, codes}
use Rattle.std.proofs.lemmas.Slice.Eq.{bytes_eq-Decides}
use Rattle.std.proofs.lemmas.Bool.Decides.{nat_tests}
use Rattle.rv_lang.specs.declared.token.Token.{Token}
use Rattle.rv_lang.specs.declared.token.Token.TheVariants.{Word, Int, Str, Symbol}
use Rattle.rv_lang.specs.declared.token.Symbol.TheVariants as symbols
use Rattle.rv_lang.specs.declared.statement.RawCol.{RawCol}
use Rattle.rv_lang.specs.declared.statement.RawAtom.{RawAtom}
use Rattle.rv_lang.specs.declared.statement.Statement.{Statement}
use Rattle.rv_lang.specs.Words.{is_keyword, IsName, AND, BEGIN, BETWEEN, BY, CLOSE, CREATE, DELETE, FETCH, IN, INDEX, INSERT, IS, ON, OPEN, OR, ORDER, SHOW, STARTING, STEP, TABLE, UNIQUE, UPDATE, WHERE}
use Rattle.rv_lang.specs.Grammar.{literal, column, compare, operand, atom, closed, others, listed, AnyLiteral, AreAll, AreSome, IsColumn, IsOperand, IsAtom, DOT, COMMA, LPAREN, RPAREN, IsGroup, AreGroups, IsCond, IsWhere, kind, column_def, IsColumnDef, returned, AreReturned, item, IsItem, order, IsGoal, IsBody, Derives, name, set, IsSet, EQUAL, unique_word}
use Rattle.rv_parse.specs.declared.list.Separator.{Separator}
use Rattle.rv_parse.specs.declared.list.Separator.TheVariants as separators
use Rattle.rv_parse.specs.Reading.{◌>>=◌, ◌<|>◌, choose, Read, word_at, name_at, text_at, literal_at, dot_at, open_at, close_at, comma_at, op_at, column_rest, column_at, operand_at, separator_at, list_end, list_at, list_of, enclosed_at, between_at, among_at, is_null_at, starts_at, compare_at, atom_rest, atom_at, closed_at, group_at, groups_at, bare_end, cond_at, where_at, integer_at, star_at, kind_at, column_def_at, create_table_at, insert_at, delete_at, begin_at, returned_at, item_at, order_at, named_goal_at, goal_at, open_cursor_at, create_at, create_index_at, index_at, set_at, update_at, equal_at, fetch_at, show_at, close_cursor_at, step_at, cursor_at, body_at, ended, parse_of}

-- what is found, if anything is, is so
pub record Finds {A : Type 0} (found : Option A) (P : A → Type 0) : Type 0 where
  pub it : IfSome found P

-- one step, and then another
pub then : {A B : Type 0} {o : Option A} {f : A → Option B} {P : A → Type 0} {Q : B → Type 0} → Finds o P → ((a : A) → P a → Finds (f a) Q) → Finds (o >>= f) Q
then {o = Some a} h k = k a h.it
then {o = None} h k = record { it = tt }

pub done : {A : Type 0} {a : A} {P : A → Type 0} → P a → Finds (Some a) P
done h = record { it = h }

-- one thing or else the other
pub either : {A B : Type 0} {o : Option A} {go : A → Option B} {other : Option B} {P : A → Type 0} {Q : B → Type 0} → Finds o P → ((a : A) → P a → Finds (go a) Q) → Finds other Q → Finds (choose o go other) Q
either {o = Some a} h k z = k a h.it
either {o = None} h k z = z

pub or_else : {A : Type 0} {o other : Option A} {P : A → Type 0} → Finds o P → Finds other P → Finds (o <|> other) P
or_else {o = Some a} h z = h
or_else {o = None} h z = z

pub map_finds : {A : Type 0} {o : Option A} {P Q : A → Type 0} → Finds o P → ((a : A) → P a → Q a) → Finds o Q
map_finds {o = Some a} h k = record { it = k a h.it }
map_finds {o = None} h k = record { it = tt }

nothing : {A : Type 0} {P : A → Type 0} → Finds {A = A} None P
nothing = record { it = tt }

-- where a test says so
pub tested : {A : Type 0} {P : A → Type 0} (b : Bool) (a : A) → (b ≡ true → P a) → Finds (cond b (Some a) None) P
tested true a h = record { it = h refl }
tested false a h = record { it = tt }

pub refused : {A : Type 0} {P : A → Type 0} (b : Bool) (a : A) → (b ≡ false → P a) → Finds (cond b None (Some a)) P
refused true a h = record { it = tt }
refused false a h = record { it = h refl }

pub word_takes : (word : List ℕ) (tokens : List Token) → Finds (word_at word tokens) (λ rest. tokens ≡ Word word ∷ rest)
word_takes word [] = nothing
word_takes word ((Int n) ∷ rest) = nothing
word_takes word ((Str n) ∷ rest) = nothing
word_takes word ((Symbol n) ∷ rest) = nothing
word_takes word ((Word text) ∷ rest) = tested (bytes_eq text word) _ (λ h. ap (λ (t : List ℕ). Word t ∷ rest) ((bytes_eq-Decides text word).0 h))

pub literal_takes : (tokens : List Token) → Finds (literal_at tokens) (λ x. AnyLiteral x.0 × (tokens ≡ literal x.0 x.1))
literal_takes [] = nothing
literal_takes ((Int n) ∷ rest) = done (tt, refl)
literal_takes ((Str n) ∷ rest) = done (tt, refl)
literal_takes ((Symbol n) ∷ rest) = nothing
literal_takes ((Word text) ∷ rest) = tested (bytes_eq text (codes "NULL")) _ (λ h. (tt, ap (λ (t : List ℕ). Word t ∷ rest) ((bytes_eq-Decides text (codes "NULL")).0 h)))

pub name_takes : (tokens : List Token) → Finds (name_at tokens) (λ x. IsName x.0 × (tokens ≡ Word x.0 ∷ x.1))
name_takes [] = nothing
name_takes ((Int n) ∷ rest) = nothing
name_takes ((Str n) ∷ rest) = nothing
name_takes ((Symbol n) ∷ rest) = nothing
name_takes ((Word text) ∷ rest) = refused (is_keyword text) _ (λ h. (h, refl))

pub text_takes : (tokens : List Token) → Finds (text_at tokens) (λ x. tokens ≡ Str x.0 ∷ x.1)
text_takes [] = nothing
text_takes ((Int n) ∷ rest) = nothing
text_takes ((Str n) ∷ rest) = done refl
text_takes ((Symbol n) ∷ rest) = nothing
text_takes ((Word text) ∷ rest) = nothing

pub dot_takes : (tokens : List Token) → Finds (dot_at tokens) (λ rest. tokens ≡ Symbol symbols.Dot ∷ rest)
dot_takes ((Symbol symbols.Dot) ∷ rest) = done refl
dot_takes _ = nothing

pub open_takes : (tokens : List Token) → Finds (open_at tokens) (λ rest. tokens ≡ Symbol symbols.LeftParen ∷ rest)
open_takes ((Symbol symbols.LeftParen) ∷ rest) = done refl
open_takes _ = nothing

pub close_takes : (tokens : List Token) → Finds (close_at tokens) (λ rest. tokens ≡ Symbol symbols.RightParen ∷ rest)
close_takes ((Symbol symbols.RightParen) ∷ rest) = done refl
close_takes _ = nothing

pub comma_takes : (tokens : List Token) → Finds (comma_at tokens) (λ rest. tokens ≡ Symbol symbols.Comma ∷ rest)
comma_takes ((Symbol symbols.Comma) ∷ rest) = done refl
comma_takes _ = nothing

pub op_takes : (tokens : List Token) → Finds (op_at tokens) (λ x. tokens ≡ compare x.0 ∷ x.1)
op_takes ((Symbol symbols.Equal) ∷ rest) = done refl
op_takes ((Symbol symbols.NotEqual) ∷ rest) = done refl
op_takes ((Symbol symbols.Less) ∷ rest) = done refl
op_takes ((Symbol symbols.AtMost) ∷ rest) = done refl
op_takes ((Symbol symbols.Greater) ∷ rest) = done refl
op_takes ((Symbol symbols.AtLeast) ∷ rest) = done refl
op_takes _ = nothing

column_rest_takes : (first : List ℕ) (tokens : List Token) (found : Option (List Token)) → IsName first → Finds found (λ rest. tokens ≡ DOT ∷ rest) → Finds (column_rest first tokens found) (λ x. IsColumn x.0 × (Word first ∷ tokens ≡ column x.0 x.1))
column_rest_takes first tokens None named h = done ((tt, named), refl)
column_rest_takes first tokens (Some rest) named h = then (name_takes rest) (λ second n. done ((named, n.0), let e = h.it in cc))

pub column_takes : (tokens : List Token) → Finds (column_at tokens) (λ x. IsColumn x.0 × (tokens ≡ column x.0 x.1))
column_takes tokens = then (name_takes tokens) (λ first n. rw n.1 (column_rest_takes first.0 first.1 (dot_at first.1) n.0 (dot_takes first.1)))

pub operand_takes : (tokens : List Token) → Finds (operand_at tokens) (λ x. IsOperand x.0 × (tokens ≡ operand x.0 x.1))
operand_takes tokens = or_else (then (literal_takes tokens) (λ v l. done l)) (then (column_takes tokens) (λ c l. done l))

-- ---- lists

abbrev pub mark : Separator → Token
mark separators.Comma = COMMA
mark separators.Or = OR
mark separators.And = AND

pub separator_takes : (s : Separator) (tokens : List Token) → Finds (separator_at s tokens) (λ rest. tokens ≡ mark s ∷ rest)
separator_takes separators.Comma tokens = comma_takes tokens
separator_takes separators.Or tokens = word_takes (codes "OR") tokens
separator_takes separators.And tokens = word_takes (codes "AND") tokens

module _ {X : Type 0} (part : List Token → Read X) (spell : X → List Token → List Token) (Is : X → Type 0) (s : Separator) (takes : (tokens : List Token) → Finds (part tokens) (λ x. Is x.0 × (tokens ≡ spell x.0 x.1))) where
  all_of_some : (xs : List X) → AreSome Is xs → AreAll Is xs
  all_of_some [] h = tt
  all_of_some (x ∷ xs) h = h

  listed_is : (xs : List X) (rest : List Token) → AreSome Is xs → mark s ∷ listed (mark s) spell xs rest ≡ others (mark s) spell xs rest
  listed_is [] rest h = absurd h
  listed_is (x ∷ xs) rest h = refl

  end_takes : (x : X) (rest tokens : List Token) (found : Option (List Token)) (more : List Token → Read (List X)) → Is x → tokens ≡ spell x rest → Finds found (λ after. rest ≡ mark s ∷ after) → ((after : List Token) → Finds (more after) (λ y. AreSome Is y.0 × (after ≡ listed (mark s) spell y.0 y.1))) → Finds (list_end x rest found more) (λ y. AreSome Is y.0 × (tokens ≡ listed (mark s) spell y.0 y.1))
  end_takes x rest tokens None more is e h m = done ((is, tt), e)
  end_takes x rest tokens (Some after) more is e h m = then (m after) (λ y l. done ((is, all_of_some y.0 l.0), e ∙ ap (spell x) (h.it ∙ ap (λ (ts : List Token). mark s ∷ ts) l.1 ∙ listed_is y.0 y.1 l.0)))

  pub list_takes : (n : ℕ) (tokens : List Token) → Finds (list_at part s n tokens) (λ y. AreSome Is y.0 × (tokens ≡ listed (mark s) spell y.0 y.1))
  list_takes zero tokens = nothing
  list_takes (suc n) tokens = then (takes tokens) (λ x l. end_takes x.0 x.1 tokens (separator_at s x.1) (λ after. list_at part s n after) l.0 l.1 (separator_takes s x.1) (λ after. list_takes n after))

  pub list_of_takes : (tokens : List Token) → Finds (list_of part s tokens) (λ y. AreSome Is y.0 × (tokens ≡ listed (mark s) spell y.0 y.1))
  unfolding list_of
  list_of_takes tokens = list_takes (length tokens) tokens

pub enclosed_takes : {X : Type 0} (part : List Token → Read X) (spell : X → List Token → List Token) (Is : X → Type 0) → ((tokens : List Token) → Finds (part tokens) (λ x. Is x.0 × (tokens ≡ spell x.0 x.1))) → (tokens : List Token) → Finds (enclosed_at part tokens) (λ y. AreSome Is y.0 × (tokens ≡ LPAREN ∷ listed COMMA spell y.0 (RPAREN ∷ y.1)))
unfolding enclosed_at
enclosed_takes part spell Is takes tokens =
    then (open_takes tokens) (λ rest o. then (list_of_takes part spell Is separators.Comma takes rest) (λ list l. then (close_takes list.1) (λ after w. done (l.0, let a = l.1 in cc))))

-- ---- atoms

-- an atom behind its column
abbrev Behind : RawCol → List Token → RawAtom × List Token → Type 0
Behind c tokens x = IsAtom x.0 × (column c tokens ≡ atom x.0 x.1)

between_takes : (c : RawCol) (tokens : List Token) → IsColumn c → Finds (between_at c tokens) (Behind c (BETWEEN ∷ tokens))
unfolding between_at
between_takes c tokens named =
    then (literal_takes tokens) (λ low l. then (word_takes (codes "AND") low.1) (λ rest w. then (literal_takes rest) (λ high h. done (named, let a = l.1 in let b = h.1 in cc))))

among_takes : (c : RawCol) (tokens : List Token) → IsColumn c → Finds (among_at c tokens) (Behind c (IN ∷ tokens))
unfolding among_at
among_takes c tokens named =
    then (enclosed_takes literal_at literal AnyLiteral literal_takes tokens) (λ list l. done ((named, l.0), let a = l.1 in cc))

is_null_takes : (c : RawCol) (tokens : List Token) → IsColumn c → Finds (is_null_at c tokens) (Behind c (IS ∷ tokens))
unfolding is_null_at
is_null_takes c tokens named =
    either (word_takes (codes "NOT") tokens) (λ rest w. then (word_takes (codes "NULL") rest) (λ rest z. done (named, cc))) (then (word_takes (codes "NULL") tokens) (λ rest z. done (named, cc)))

starts_takes : (c : RawCol) (tokens : List Token) → IsColumn c → Finds (starts_at c tokens) (Behind c (STARTING ∷ tokens))
unfolding starts_at
starts_takes c tokens named =
    then (word_takes (codes "WITH") tokens) (λ rest w. then (text_takes rest) (λ text z. done (named, cc)))

compare_takes : (c : RawCol) (tokens : List Token) → IsColumn c → Finds (compare_at c tokens) (Behind c tokens)
unfolding compare_at
compare_takes c tokens named =
    then (op_takes tokens) (λ op w. then (operand_takes op.1) (λ right z. done ((named, z.0), let a = z.1 in cc)))

atom_rest_takes : (c : RawCol) (tokens : List Token) → IsColumn c → Finds (atom_rest c tokens) (Behind c tokens)
unfolding atom_rest
atom_rest_takes c tokens named =
    either (word_takes (codes "BETWEEN") tokens) (λ rest w. rw w (between_takes c rest named))
    (either (word_takes (codes "IN") tokens) (λ rest w. rw w (among_takes c rest named))
    (either (word_takes (codes "IS") tokens) (λ rest w. rw w (is_null_takes c rest named))
    (either (word_takes (codes "STARTING") tokens) (λ rest w. rw w (starts_takes c rest named))
    (compare_takes c tokens named))))

pub atom_takes : (tokens : List Token) → Finds (atom_at tokens) (λ x. IsAtom x.0 × (tokens ≡ atom x.0 x.1))
unfolding atom_at
atom_takes tokens = then (column_takes tokens) (λ c l. rw l.1 (atom_rest_takes c.0 c.1 l.0))

pub closed_takes : (tokens : List Token) → Finds (closed_at tokens) (λ x. AreSome IsAtom x.0 × (LPAREN ∷ tokens ≡ closed x.0 x.1))
unfolding closed_at
closed_takes tokens = then (list_of_takes atom_at atom IsAtom separators.Or atom_takes tokens) (λ list l. then (close_takes list.1) (λ rest w. done (l.0, let a = l.1 in cc)))

-- ---- conditions

group_bare : (a : RawAtom) (tokens rest : List Token) → IsAtom a → tokens ≡ atom a rest → IsGroup (a ∷ []) tokens rest
group_bare a tokens rest is e = inl (is, e)

pub several : (a b : RawAtom) (atoms : List RawAtom) → nat_eq (length (a ∷ b ∷ atoms)) 1 ≡ false
several a b atoms = grind (arith, nat_tests)

pub group_takes : (tokens : List Token) → Finds (group_at tokens) (λ x. IsGroup x.0 tokens x.1)
unfolding group_at
group_takes tokens = either (open_takes tokens) (λ rest o. rw o (map_finds (closed_takes rest) (λ x l. inr l))) (then (atom_takes tokens) (λ a l. done (inl l)))

groups_join : (g : List RawAtom) (gs : List (List RawAtom)) (tokens after rest : List Token) → IsGroup g tokens (AND ∷ after) → AreGroups gs after rest → AreGroups (g ∷ gs) tokens rest
groups_join g [] tokens after rest h k = absurd k
groups_join g (a ∷ gs) tokens after rest h k = (after, h, k)

groups_end : (g : List RawAtom) (rest tokens : List Token) (found : Option (List Token)) (more : List Token → Read (List (List RawAtom))) → IsGroup g tokens rest → Finds found (λ after. rest ≡ AND ∷ after) → ((after : List Token) → Finds (more after) (λ y. AreGroups y.0 after y.1)) → Finds (list_end g rest found more) (λ y. AreGroups y.0 tokens y.1)
groups_end g rest tokens None more is h m = done is
groups_end g rest tokens (Some after) more is h m = then (m after) (λ y l. done (groups_join g y.0 tokens after y.1 (subst (IsGroup g tokens) h.it is) l))

pub groups_takes_n : (n : ℕ) (tokens : List Token) → Finds (list_at group_at separators.And n tokens) (λ x. AreGroups x.0 tokens x.1)
groups_takes_n zero tokens = nothing
groups_takes_n (suc n) tokens = then (group_takes tokens) (λ g l. groups_end g.0 g.1 tokens (separator_at separators.And g.1) (λ after. list_at group_at separators.And n after) l (separator_takes separators.And g.1) (λ after. groups_takes_n n after))

pub groups_takes : (tokens : List Token) → Finds (groups_at tokens) (λ x. AreGroups x.0 tokens x.1)
unfolding groups_at list_of
groups_takes tokens = groups_takes_n (length tokens) tokens

bare_end_takes : (atoms : List RawAtom) (tokens rest : List Token) → AreSome IsAtom atoms → tokens ≡ listed OR atom atoms rest → Finds (bare_end atoms rest) (λ x. IsCond x.0 tokens x.1)
unfolding bare_end
bare_end_takes [] tokens rest is e = absurd is
bare_end_takes (a ∷ []) tokens rest is e =
    either (word_takes (codes "AND") rest) (λ after w. then (groups_takes after) (λ gs l. done (inr (groups_join (a ∷ []) gs.0 tokens after gs.1 (inl (is.0, rw w at e)) l)))) (done (inr (inl (is.0, e))))
bare_end_takes (a ∷ b ∷ atoms) tokens rest is e = rw (several a b atoms) (done (inl (omega arith, is, e)))

pub cond_takes : (tokens : List Token) → Finds (cond_at tokens) (λ x. IsCond x.0 tokens x.1)
unfolding cond_at
cond_takes tokens = either (open_takes tokens) (λ rest o. map_finds (groups_takes tokens) (λ x l. inr l)) (then (list_of_takes atom_at atom IsAtom separators.Or atom_takes tokens) (λ first l. bare_end_takes first.0 tokens first.1 l.0 l.1))

where_some : (gs : List (List RawAtom)) (tokens after rest : List Token) → tokens ≡ WHERE ∷ after → IsCond gs after rest → IsWhere gs tokens rest
where_some [] tokens after rest e h = ⊎_elim (λ k. absurd k) (λ k. absurd k) h
where_some (g ∷ gs) tokens after rest e h = (after, e, h)

pub where_takes : (tokens : List Token) → Finds (where_at tokens) (λ x. IsWhere x.0 tokens x.1)
unfolding where_at
where_takes tokens = either (word_takes (codes "WHERE") tokens) (λ after w. map_finds (cond_takes after) (λ x l. where_some x.0 tokens after x.1 w l)) (done refl)

-- ---- statements

pub integer_takes : (tokens : List Token) → Finds (integer_at tokens) (λ x. tokens ≡ Int x.0 ∷ x.1)
integer_takes [] = nothing
integer_takes ((Int n) ∷ rest) = done refl
integer_takes ((Str n) ∷ rest) = nothing
integer_takes ((Symbol n) ∷ rest) = nothing
integer_takes ((Word text) ∷ rest) = nothing

pub star_takes : (tokens : List Token) → Finds (star_at tokens) (λ rest. tokens ≡ Symbol symbols.Star ∷ rest)
star_takes ((Symbol symbols.Star) ∷ rest) = done refl
star_takes _ = nothing

pub equal_takes : (tokens : List Token) → Finds (equal_at tokens) (λ rest. tokens ≡ EQUAL ∷ rest)
equal_takes ((Symbol symbols.Equal) ∷ rest) = done refl
equal_takes _ = nothing

kind_takes : (tokens : List Token) → Finds (kind_at tokens) (λ x. tokens ≡ kind x.0 x.1)
unfolding kind_at
kind_takes tokens = either (word_takes (codes "BIGINT") tokens) (λ rest w. done w)
    (then (word_takes (codes "VARCHAR") tokens) (λ a u. then (open_takes a) (λ b v. then (integer_takes b) (λ n w. then (close_takes n.1) (λ d x. done (let e = w in cc))))))

column_def_takes : (tokens : List Token) → Finds (column_def_at tokens) (λ x. IsColumnDef x.0 × (tokens ≡ column_def x.0 x.1))
unfolding column_def_at
column_def_takes tokens = then (name_takes tokens) (λ n u. then (kind_takes n.1) (λ k v. done (u.0, let e = u.1 in cc)))

create_table_takes : (tokens : List Token) → Finds (create_table_at tokens) (λ x. IsBody x.0 (CREATE ∷ TABLE ∷ tokens) x.1)
unfolding create_table_at
create_table_takes tokens =
    then (name_takes tokens) (λ n u. then (enclosed_takes column_def_at column_def IsColumnDef column_def_takes n.1) (λ l w. done (u.0, w.0, let e = u.1 in let f = w.1 in cc)))

create_index_takes : (unique : Bool) (tokens : List Token) → Finds (create_index_at unique tokens) (λ x. IsBody x.0 (CREATE ∷ unique_word unique tokens) x.1)
unfolding create_index_at
create_index_takes unique tokens =
    then (word_takes (codes "INDEX") tokens) (λ n s. then (name_takes n) (λ i u. then (word_takes (codes "ON") i.1) (λ a v. then (name_takes a) (λ t w. then (enclosed_takes name_at name IsName name_takes t.1) (λ l y.
    done (
      u.0,
      w.0,
      y.0,
      let e = u.1 in let f = w.1 in let g = y.1 in
          let behind : tokens ≡ INDEX ∷ Word i.0 ∷ ON ∷ Word t.0 ∷ LPAREN ∷ listed COMMA name l.0 (RPAREN ∷ l.1) = cc in
          ap (λ ts. CREATE ∷ unique_word unique ts) behind,
    ))))))

index_takes : (tokens : List Token) → Finds (index_at tokens) (λ x. IsBody x.0 (CREATE ∷ tokens) x.1)
unfolding index_at
index_takes tokens = either (word_takes (codes "UNIQUE") tokens) (λ a t. rw t (create_index_takes true a)) (create_index_takes false tokens)

create_takes : (tokens : List Token) → Finds (create_at tokens) (λ x. IsBody x.0 (CREATE ∷ tokens) x.1)
unfolding create_at
create_takes tokens = either (word_takes (codes "TABLE") tokens) (λ a t. rw t (create_table_takes a)) (index_takes tokens)

insert_takes : (tokens : List Token) → Finds (insert_at tokens) (λ x. IsBody x.0 (INSERT ∷ tokens) x.1)
unfolding insert_at
insert_takes tokens =
    then (word_takes (codes "INTO") tokens) (λ a t. then (name_takes a) (λ n u. then (word_takes (codes "VALUES") n.1) (λ b v. then (enclosed_takes literal_at literal AnyLiteral literal_takes b) (λ l x. done (u.0, x.0, let e = u.1 in let f = x.1 in cc)))))

set_takes : (tokens : List Token) → Finds (set_at tokens) (λ x. IsSet x.0 × (tokens ≡ set x.0 x.1))
unfolding set_at
set_takes tokens = then (name_takes tokens) (λ n u. then (equal_takes n.1) (λ a v. then (literal_takes a) (λ l w. done (u.0, let e = u.1 in let f = w.1 in cc))))

update_takes : (tokens : List Token) → Finds (update_at tokens) (λ x. IsBody x.0 (UPDATE ∷ tokens) x.1)
unfolding update_at
update_takes tokens =
    then (name_takes tokens) (λ n u. then (word_takes (codes "SET") n.1) (λ a t. then (list_of_takes set_at set IsSet separators.Comma set_takes a) (λ l w. then (where_takes l.1) (λ o v.
    done (l.1, u.0, w.0, (let e = u.1 in let f = w.1 in cc), v)))))

delete_takes : (tokens : List Token) → Finds (delete_at tokens) (λ x. IsBody x.0 (DELETE ∷ tokens) x.1)
unfolding delete_at
delete_takes tokens =
    then (word_takes (codes "FROM") tokens) (λ a t. then (name_takes a) (λ n u. then (where_takes n.1) (λ o v. done (n.1, u.0, (let e = u.1 in cc), v))))

begin_takes : (tokens : List Token) → Finds (begin_at tokens) (λ x. IsBody x.0 (BEGIN ∷ tokens) x.1)
unfolding begin_at
begin_takes tokens = either (word_takes (codes "READ") tokens) (λ a t. then (word_takes (codes "ONLY") a) (λ b u. done cc)) (done refl)

returned_takes : (tokens : List Token) → Finds (returned_at tokens) (λ x. AreReturned x.0 × (tokens ≡ returned x.0 x.1))
unfolding returned_at
returned_takes tokens = either (star_takes tokens) (λ a t. done (tt, t)) (then (list_of_takes column_at column IsColumn separators.Comma column_takes tokens) (λ l u. done u))

item_takes : (tokens : List Token) → Finds (item_at tokens) (λ x. IsItem x.0 × (tokens ≡ item x.0 x.1))
unfolding item_at
item_takes tokens = then (name_takes tokens) (λ n u. either (name_takes n.1) (λ m v. done ((u.0, v.0), let e = u.1 in let f = v.1 in cc)) (done ((u.0, tt), u.1)))

order_some : (cs : List RawCol) (tokens a b rest : List Token) → tokens ≡ ORDER ∷ a → a ≡ BY ∷ b → AreSome IsColumn cs → b ≡ listed COMMA column cs rest → AreAll IsColumn cs × (tokens ≡ order cs rest)
order_some [] tokens a b rest e f is g = absurd is
order_some (c ∷ cs) tokens a b rest e f is g = (is, cc)

order_takes : (tokens : List Token) → Finds (order_at tokens) (λ x. AreAll IsColumn x.0 × (tokens ≡ order x.0 x.1))
unfolding order_at
order_takes tokens = either (word_takes (codes "ORDER") tokens) (λ a t. then (word_takes (codes "BY") a) (λ b u. map_finds (list_of_takes column_at column IsColumn separators.Comma column_takes b) (λ x l. order_some x.0 tokens a b x.1 t u l.0 l.1))) (done (tt, refl))

goal_takes : (tokens : List Token) → Finds (goal_at tokens) (λ x. IsGoal x.0 tokens x.1)
unfolding goal_at named_goal_at
goal_takes tokens = either (word_takes (codes "OPTIMIZE") tokens) (λ a t. then (word_takes (codes "FOR") a) (λ b u.
    either (word_takes (codes "FAST") b) (λ c v. then (word_takes (codes "FIRST") c) (λ d w. done cc)) (then (word_takes (codes "TOTAL") b) (λ c v. then (word_takes (codes "TIME") c) (λ d w. done (inr cc)))))) (done (inl refl))

open_cursor_takes : (tokens : List Token) → Finds (open_cursor_at tokens) (λ x. IsBody x.0 (OPEN ∷ tokens) x.1)
unfolding open_cursor_at
open_cursor_takes tokens =
    then (name_takes tokens) (λ n u. then (word_takes (codes "SELECT") n.1) (λ a v. then (returned_takes a) (λ r w. then (word_takes (codes "FROM") r.1) (λ b x. then (list_of_takes item_at item IsItem separators.Comma item_takes b) (λ i y.
    then (where_takes i.1) (λ o z. then (order_takes o.1) (λ by p. then (goal_takes by.1) (λ g q. done (i.1, u.0, w.0, y.0, (let e = u.1 in let f = w.1 in let h = y.1 in cc), record { after_where = o.1; after_order = by.1; where_is = z; order_names = p.0; order_is = p.1; goal_is = q })))))))))

fetch_takes : (tokens : List Token) → Finds (fetch_at tokens) (λ x. IsBody x.0 (FETCH ∷ tokens) x.1)
unfolding fetch_at
fetch_takes tokens = then (name_takes tokens) (λ n u. done (u.0, let e = u.1 in cc))

show_takes : (tokens : List Token) → Finds (show_at tokens) (λ x. IsBody x.0 (SHOW ∷ tokens) x.1)
unfolding show_at
show_takes tokens = then (name_takes tokens) (λ n u. done (u.0, let e = u.1 in cc))

close_cursor_takes : (tokens : List Token) → Finds (close_cursor_at tokens) (λ x. IsBody x.0 (CLOSE ∷ tokens) x.1)
unfolding close_cursor_at
close_cursor_takes tokens = then (name_takes tokens) (λ n u. done (u.0, let e = u.1 in cc))

step_takes : (tokens : List Token) → Finds (step_at tokens) (λ x. IsBody x.0 (STEP ∷ tokens) x.1)
unfolding step_at
step_takes tokens = then (name_takes tokens) (λ c u. then (integer_takes c.1) (λ n v. done (u.0, let e = u.1 in let f = v in cc)))

cursor_takes : (tokens : List Token) → Finds (cursor_at tokens) (λ x. IsBody x.0 tokens x.1)
unfolding cursor_at
cursor_takes tokens =
    either (word_takes (codes "OPEN") tokens) (λ a t. rw t (open_cursor_takes a))
    (either (word_takes (codes "FETCH") tokens) (λ a t. rw t (fetch_takes a))
    (either (word_takes (codes "SHOW") tokens) (λ a t. rw t (show_takes a))
    (either (word_takes (codes "CLOSE") tokens) (λ a t. rw t (close_cursor_takes a))
    (then (word_takes (codes "STEP") tokens) (λ a t. rw t (step_takes a))))))

body_takes : (tokens : List Token) → Finds (body_at tokens) (λ x. IsBody x.0 tokens x.1)
unfolding body_at
body_takes tokens =
    either (word_takes (codes "CREATE") tokens) (λ a t. rw t (create_takes a))
    (either (word_takes (codes "INSERT") tokens) (λ a t. rw t (insert_takes a))
    (either (word_takes (codes "UPDATE") tokens) (λ a t. rw t (update_takes a))
    (either (word_takes (codes "DELETE") tokens) (λ a t. rw t (delete_takes a))
    (either (word_takes (codes "BEGIN") tokens) (λ a t. rw t (begin_takes a))
    (either (word_takes (codes "COMMIT") tokens) (λ a t. done t)
    (either (word_takes (codes "ROLLBACK") tokens) (λ a t. done t)
    (cursor_takes tokens)))))))

ended_takes : (s : Statement) (tokens rest : List Token) → IsBody s tokens rest → ended rest ≡ true → Derives tokens s
ended_takes s tokens [] is h = inl is
ended_takes s tokens ((Symbol symbols.Semicolon) ∷ []) is h = inr is
ended_takes s tokens _ is h = absurd cc

pub statement_takes : (tokens : List Token) → Finds (parse_of tokens) (λ s. Derives tokens s)
unfolding parse_of
statement_takes tokens = then (body_takes tokens) (λ b l. tested (ended b.1) _ (λ h. ended_takes b.0 tokens b.1 l h))
