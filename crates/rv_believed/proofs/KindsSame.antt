-- Bridge: kinds are tested on the condition as it stands in the text, and in the working definition on the resolved one.
use Rattle.std.proofs.Common.{◌≡◌, refl, sym, ap, ◌∙◌, arith, append_assoc}
use Rattle.std.proofs.Math.Seq.{get_or-append_seam}
use Rattle.std.specs.Prelude.{ℕ, List, [], ◌∷◌, ◌++◌, ◌+◌, Bool, true, false, not, ◌&&◌, ◌||◌, Option, None, Result, Ok, length, filter}
use Rattle.std.specs.List.{list_any, list_all, slice_index_or, AllByRecursion}
use Rattle.std.specs.Option.{option_to_list}
use Rattle.std.proofs.Math.Bool.{or-false}
use Rattle.rv_value.proofs.Lists.{all_append, all_filter}
use Rattle.rv_value.specs.declared.value.Kind.{Kind}
use Rattle.rv_value.specs.declared.value.Kind.TheVariants.{Big, Chars}
use Rattle.rv_value.specs.declared.value.Value.{Value}
use Rattle.rv_value.specs.declared.value.Value.TheVariants.{Null, Int, Str}
use Rattle.rv_restrict.specs.declared.atom.ColRef.{ColRef}
use Rattle.rv_restrict.specs.declared.atom.Operand.TheVariants.{Literal, Column}
use Rattle.rv_restrict.specs.declared.atom.Atom.{Atom}
use Rattle.rv_restrict.specs.declared.atom.Atom.TheVariants.{Compare, Between, Among, IsNull, Starts}
use Rattle.rv_lang.specs.declared.statement.RawCol.{RawCol}
use Rattle.rv_lang.specs.declared.statement.RawOp.{RawOp}
use Rattle.rv_lang.specs.declared.statement.RawOperand.TheVariants as raw_operands
use Rattle.rv_lang.specs.declared.statement.RawAtom.{RawAtom}
use Rattle.rv_lang.specs.declared.statement.RawAtom.TheVariants as raw
use Rattle.rv_lang.specs.declared.reply.Refusal.{Refusal}
use Rattle.rv_lang.specs.declared.reply.Refusal.TheVariants.{Kind as WrongKind}
use Rattle.rv_catalog.specs.declared.columns.Item.{Item}
use Rattle.rv_catalog.specs.declared.def.TableDef.{TableDef}
use Rattle.rv_catalog.specs.Answers.{◌>>=◌, all_pass, refuse_if}
use Rattle.rv_catalog.specs.Kinds as today
use Rattle.rv_catalog.specs.Kinds.{column_at, no_column, no_item}
use Rattle.rv_catalog.specs.Schema.{columns_of}
use Rattle.rv_believed.specs.Answers.{Test, answers}
use Rattle.rv_believed.specs.Limits.{left, right, literals}
use Rattle.rv_believed.specs.Names.{InReach, reach_from, reach_of, fits, only_one, reference, is_of_kind, same_kind, atom_kinds, kinds, op_of, atom_of, condition_of}
use Rattle.rv_believed.proofs.Chains.{test_end, in_a_row, same_after}

-- ---- a column that is found is at its place

abbrev IsAt : List TableDef → List Item → InReach → Type 0
IsAt tables items c = column_at tables items c.at ≡ (c.name, c.kind)

pub one_longer : {X : Type 0} (xs : List X) (x : X) (n : ℕ) → length xs ≡ n → length (xs ++ x ∷ []) ≡ n + 1
one_longer [] x n p = omega arith
one_longer (y ∷ xs) x n p = let q : length (xs ++ x ∷ []) ≡ length xs + 1 = one_longer xs x (length xs) refl in omega arith

columns_at : (tables : List TableDef) (items : List Item) (name : List ℕ) (place table : ℕ)
    → (slice_index_or items place no_item).table ≡ table → (rest front : List (List ℕ × Kind)) (n : ℕ)
    → columns_of tables table ≡ front ++ rest → length front ≡ n
    → AllByRecursion (IsAt tables items) (reach_from name place n rest)
columns_at tables items name place table p [] front n q r = tt
columns_at tables items name place table p (c ∷ cs) front n q r = (
  (λ k. slice_index_or (columns_of tables (p k)) n no_column) ∙ (λ k. slice_index_or (q k) n no_column)
      ∙ (λ k. slice_index_or (front ++ c ∷ cs) (sym r k) no_column) ∙ get_or-append_seam front c cs no_column,
  columns_at tables items name place table p cs (front ++ c ∷ []) (n + 1)
      (q ∙ sym (append_assoc front (c ∷ []) cs)) (one_longer front c n r),
)

items_at : (tables : List TableDef) (items rest front : List Item) (place : ℕ)
    → items ≡ front ++ rest → length front ≡ place
    → AllByRecursion (IsAt tables items) (reach_of tables place rest)
items_at tables items [] front place q r = tt
items_at tables items (i ∷ more) front place q r =
    all_append (IsAt tables items) (reach_from i.name place 0 (columns_of tables i.table)) (reach_of tables (place + 1) more)
    (columns_at tables items i.name place i.table
    ((λ k. (slice_index_or (q k) place no_item).table) ∙ (λ k. (slice_index_or (front ++ i ∷ more) (sym r k) no_item).table)
    ∙ ap (λ (j : Item). j.table) (get_or-append_seam front i more no_item))
    (columns_of tables i.table) [] 0 refl refl)
    (items_at tables items more (front ++ i ∷ []) (place + 1) (q ∙ sym (append_assoc front (i ∷ []) more))
    (one_longer front i place r))

-- what a reference finds is at its place
pub only_at : {B : Type 0} (P : InReach → Type 0) (name : List ℕ) (xs : List InReach) → AllByRecursion P xs
    → (f g : InReach → Result B Refusal) → ((c : InReach) → P c → only_one name xs ≡ Ok c → f c ≡ g c)
    → (only_one name xs >>= f) ≡ (only_one name xs >>= g)
only_at P name [] a f g same = refl
only_at P name (c ∷ []) a f g same = same c a.0 refl
only_at P name (c ∷ d ∷ cs) a f g same = refl

pub reference_at : {B : Type 0} (tables : List TableDef) (items : List Item) (r : RawCol)
    → (f g : InReach → Result B Refusal)
    → ((c : InReach) → IsAt tables items c → reference (reach_of tables 0 items) r ≡ Ok c → f c ≡ g c)
    → (reference (reach_of tables 0 items) r >>= f) ≡ (reference (reach_of tables 0 items) r >>= g)
reference_at tables items r f g same = only_at (IsAt tables items) r.column (filter (fits r) (reach_of tables 0 items))
    (all_filter (IsAt tables items) (fits r) (reach_of tables 0 items) (items_at tables items items [] 0 refl refl)) f g same

-- ---- kinds of values

other_kind : (k : Kind) (v : Value) → today.is_other_kind k v ≡ not (is_of_kind k v)
other_kind Big Null = refl
other_kind Big (Int n) = refl
other_kind Big (Str t) = refl
other_kind (Chars n) Null = refl
other_kind (Chars n) (Int m) = refl
other_kind (Chars n) (Str t) = refl

differ_kinds : (a b : Kind) → today.differ a b ≡ not (same_kind a b)
differ_kinds Big Big = refl
differ_kinds Big (Chars n) = refl
differ_kinds (Chars n) Big = refl
differ_kinds (Chars n) (Chars m) = refl

not_all : (a b : Bool) → (not a || not b) ≡ not (a && b)
not_all true b = refl
not_all false b = refl

other_any : (k : Kind) (vs : List Value) → list_any (today.is_other_kind k) vs ≡ not (list_all (is_of_kind k) vs)
other_any k [] = refl
other_any k (v ∷ vs) = (λ i. other_kind k v i || other_any k vs i) ∙ not_all (is_of_kind k v) (list_all (is_of_kind k) vs)

-- ---- atoms

-- whatever is done with an atom and the test of its kinds, both tests serve alike
abbrev Agrees : Type 0 → List TableDef → List Item → RawAtom → Type 0
Agrees B tables items a = (L : Atom → Test → Result B Refusal)
    → (atom_of (reach_of tables 0 items) a >>= (λ b. L b (today.atom_kind tables items b)))
    ≡ (atom_of (reach_of tables 0 items) a >>= (λ b. L b (atom_kinds (reach_of tables 0 items) a)))

-- what the draft tests once the left column is found
abbrev rest_of : List InReach → List Value → Option RawCol → InReach → Test
rest_of reach vs other c = do
  literal ← refuse_if (not (list_all (is_of_kind c.kind) vs)) (WrongKind c.name)
  found ← answers (reference reach) (option_to_list other)
  refuse_if (not (list_all (λ (d : InReach). same_kind c.kind d.kind) found)) (WrongKind c.name)

found_left : (reach : List InReach) (a : RawAtom) (c : InReach) → reference reach (left a) ≡ Ok c
    → atom_kinds reach a ≡ rest_of reach (literals a) (right a) c
found_left reach a c e = ap (λ r. r >>= rest_of reach (literals a) (right a)) e

simple : {B : Type 0} (tables : List TableDef) (items : List Item) (a : RawAtom) (mk : ColRef → Atom)
    → (atom_of (reach_of tables 0 items) a ≡ (reference (reach_of tables 0 items) (left a) >>= (λ c. Ok (mk c.at))))
    → right a ≡ None
    → ((d : ColRef) → today.atom_kind tables items (mk d)
    ≡ today.refuse_column (list_any (today.is_other_kind (column_at tables items d).1) (literals a)) (column_at tables items d))
    → Agrees B tables items a
simple tables items a mk made none test L =
    let reach : List InReach = reach_of tables 0 items in
    ap (λ r. r >>= (λ b. L b (today.atom_kind tables items b))) made
    ∙ in_a_row (reference reach (left a)) (λ c. Ok (mk c.at)) (λ b. L b (today.atom_kind tables items b))
    ∙ reference_at tables items (left a) (λ c. L (mk c.at) (today.atom_kind tables items (mk c.at)))
    (λ c. L (mk c.at) (atom_kinds reach a))
    (λ c p e. ap (L (mk c.at)) (test c.at
    ∙ ap (λ (x : List ℕ × Kind). today.refuse_column (list_any (today.is_other_kind x.1) (literals a)) x) p
    ∙ ap (λ b. refuse_if b (WrongKind c.name)) (other_any c.kind (literals a))
    ∙ sym (test_end (refuse_if (not (list_all (is_of_kind c.kind) (literals a))) (WrongKind c.name)))
    ∙ sym (ap (λ o. rest_of reach (literals a) o c) none)
    ∙ sym (found_left reach a c e)))
    ∙ sym (in_a_row (reference reach (left a)) (λ c. Ok (mk c.at)) (λ b. L b (atom_kinds reach a)))
    ∙ sym (ap (λ r. r >>= (λ b. L b (atom_kinds reach a))) made)

big_kind : (k : Kind) (text : List ℕ) → today.is_big k ≡ list_any (today.is_other_kind k) (Str text ∷ [])
big_kind Big text = refl
big_kind (Chars n) text = refl

and_true : (b : Bool) → b && true ≡ b
and_true true = refl
and_true false = refl

regroup : {B : Type 0} (reach : List InReach) (c : RawCol) (op : RawOp) (d : RawCol) (M : Atom → Result B Refusal)
    → (atom_of reach (raw.Compare c op (raw_operands.Column d)) >>= M)
    ≡ (reference reach c >>= (λ x. reference reach d >>= (λ y. M (Compare x.at (op_of op) (Column y.at)))))
regroup reach c op d M =
    in_a_row (reference reach c) (λ x. (reference reach d >>= (λ y. Ok (Column y.at))) >>= (λ o. Ok (Compare x.at (op_of op) o))) M
    ∙ same_after (reference reach c)
    (λ x. ((reference reach d >>= (λ y. Ok (Column y.at))) >>= (λ o. Ok (Compare x.at (op_of op) o))) >>= M)
    (λ x. reference reach d >>= (λ y. M (Compare x.at (op_of op) (Column y.at))))
    (λ x. in_a_row (reference reach d >>= (λ y. Ok (Column y.at))) (λ o. Ok (Compare x.at (op_of op) o)) M
    ∙ in_a_row (reference reach d) (λ y. Ok (Column y.at)) (λ o. M (Compare x.at (op_of op) o)))

two_columns : {B : Type 0} (tables : List TableDef) (items : List Item) (c : RawCol) (op : RawOp) (d : RawCol)
    → Agrees B tables items (raw.Compare c op (raw_operands.Column d))
two_columns tables items c op d L =
    let reach : List InReach = reach_of tables 0 items in
    let a : RawAtom = raw.Compare c op (raw_operands.Column d) in
    regroup reach c op d (λ b. L b (today.atom_kind tables items b))
    ∙ reference_at tables items c
    (λ x. reference reach d >>= (λ y. L (Compare x.at (op_of op) (Column y.at)) (today.atom_kind tables items (Compare x.at (op_of op) (Column y.at)))))
    (λ x. reference reach d >>= (λ y. L (Compare x.at (op_of op) (Column y.at)) (atom_kinds reach a)))
    (λ x p e. reference_at tables items d
    (λ y. L (Compare x.at (op_of op) (Column y.at)) (today.atom_kind tables items (Compare x.at (op_of op) (Column y.at))))
    (λ y. L (Compare x.at (op_of op) (Column y.at)) (atom_kinds reach a))
    (λ y q f. ap (L (Compare x.at (op_of op) (Column y.at)))
    ((λ k. today.refuse_column (today.differ (p k).1 (q k).1) (p k))
    ∙ ap (λ b. refuse_if b (WrongKind x.name)) (differ_kinds x.kind y.kind ∙ ap not (sym (and_true (same_kind x.kind y.kind))))
    ∙ sym (ap (λ r. (r >>= (λ z. Ok (z ∷ []))) >>= (λ found.
    refuse_if (not (list_all (λ (z : InReach). same_kind x.kind z.kind) found)) (WrongKind x.name))) f)
    ∙ sym (found_left reach a x e))))
    ∙ sym (regroup reach c op d (λ b. L b (atom_kinds reach a)))

atom_agrees : {B : Type 0} (tables : List TableDef) (items : List Item) (a : RawAtom) → Agrees B tables items a
atom_agrees tables items (raw.Compare c op (raw_operands.Literal v)) =
    simple tables items (raw.Compare c op (raw_operands.Literal v)) (λ d. Compare d (op_of op) (Literal v)) refl refl
    (λ d. ap (λ b. today.refuse_column b (column_at tables items d)) (sym (or-false (today.is_other_kind (column_at tables items d).1 v))))
atom_agrees tables items (raw.Compare c op (raw_operands.Column d)) = two_columns tables items c op d
atom_agrees tables items (raw.Between c low high) =
    simple tables items (raw.Between c low high) (λ d. Between d low high) refl refl
    (λ d. ap (λ b. today.refuse_column (today.is_other_kind (column_at tables items d).1 low || b) (column_at tables items d))
    (sym (or-false (today.is_other_kind (column_at tables items d).1 high))))
atom_agrees tables items (raw.Among c list) =
    simple tables items (raw.Among c list) (λ d. Among d list) refl refl (λ d. refl)
atom_agrees tables items (raw.IsNull c negated) =
    simple tables items (raw.IsNull c negated) (λ d. IsNull d negated) refl refl (λ d. refl)
atom_agrees tables items (raw.Starts c text) =
    simple tables items (raw.Starts c text) (λ d. Starts d text) refl refl
    (λ d. ap (λ b. today.refuse_column b (column_at tables items d)) (big_kind (column_at tables items d).1 text))

-- ---- lists of them

abbrev pub ListAgrees : {X Y : Type 0} → Type 0 → (X → Result Y Refusal) → (Y → Test) → (X → Test) → List X → Type 0
ListAgrees {X = X} {Y = Y} B f g h xs = (L : List Y → Test → Result B Refusal)
    → (answers f xs >>= (λ ys. L ys (all_pass g ys))) ≡ (answers f xs >>= (λ ys. L ys (all_pass h xs)))

abbrev pub OneAgrees : {X Y : Type 0} → Type 0 → (X → Result Y Refusal) → (Y → Test) → (X → Test) → X → Type 0
OneAgrees {X = X} {Y = Y} B f g h x = (L : Y → Test → Result B Refusal)
    → (f x >>= (λ y. L y (g y))) ≡ (f x >>= (λ y. L y (h x)))

open_list : {X Y B : Type 0} (f : X → Result Y Refusal) (x : X) (xs : List X) (M : List Y → Result B Refusal)
    → (answers f (x ∷ xs) >>= M) ≡ (f x >>= (λ y. answers f xs >>= (λ ys. M (y ∷ ys))))
open_list f x xs M = in_a_row (f x) (λ y. answers f xs >>= (λ ys. Ok (y ∷ ys))) M
    ∙ same_after (f x) (λ y. (answers f xs >>= (λ ys. Ok (y ∷ ys))) >>= M) (λ y. answers f xs >>= (λ ys. M (y ∷ ys)))
    (λ y. in_a_row (answers f xs) (λ ys. Ok (y ∷ ys)) M)

pub list_agrees : {X Y B : Type 0} (f : X → Result Y Refusal) (g : Y → Test) (h : X → Test)
    → ((x : X) → OneAgrees B f g h x) → (xs : List X) → ListAgrees B f g h xs
list_agrees f g h one [] L = refl
list_agrees f g h one (x ∷ xs) L =
    open_list f x xs (λ ys. L ys (all_pass g ys))
    ∙ same_after (f x) (λ y. answers f xs >>= (λ ys. L (y ∷ ys) (g y >>= (λ u. all_pass g ys))))
    (λ y. answers f xs >>= (λ ys. L (y ∷ ys) (g y >>= (λ u. all_pass h xs))))
    (λ y. list_agrees f g h one xs (λ ys t. L (y ∷ ys) (g y >>= (λ u. t))))
    ∙ one x (λ y t. answers f xs >>= (λ ys. L (y ∷ ys) (t >>= (λ u. all_pass h xs))))
    ∙ sym (open_list f x xs (λ ys. L ys (all_pass h (x ∷ xs))))

-- THE BRIDGE: whatever follows, the kinds of the condition may be tested either way
pub kinds_agree : {B : Type 0} (tables : List TableDef) (items : List Item) (only : List (List RawAtom))
    (L : List (List Atom) → Test → Result B Refusal)
    → (condition_of (reach_of tables 0 items) only >>= (λ w. L w (today.kinds tables items w)))
    ≡ (condition_of (reach_of tables 0 items) only >>= (λ w. L w (kinds (reach_of tables 0 items) only)))
kinds_agree tables items only L = list_agrees (answers (atom_of (reach_of tables 0 items))) (today.group_kinds tables items)
    (all_pass (atom_kinds (reach_of tables 0 items)))
    (λ g. list_agrees (atom_of (reach_of tables 0 items)) (today.atom_kind tables items) (atom_kinds (reach_of tables 0 items))
    (atom_agrees tables items) g) only L
