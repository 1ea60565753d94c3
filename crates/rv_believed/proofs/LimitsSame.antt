-- Bridge: the limits, statement by statement, are those of the working definition, test by test.
use Rattle.std.proofs.Common.{◌≡◌, refl, sym, ap, ◌∙◌, arith}
use Rattle.std.specs.Prelude.{ℕ, ℤ, pos, negsuc, List, [], ◌∷◌, ◌++◌, Bool, true, false, ◌||◌, Option, Some, None, Ok, Err, map, nat_lt, length}
use Rattle.std.specs.List.{list_any, flat_map}
use Rattle.std.specs.Option.{unwrap_or, option_to_list}
use Rattle.std.proofs.lemmas.List.Folds.{list_any-append}
use Rattle.std.proofs.Math.Bool.{or-false, or_assoc}
use Rattle.std.proofs.lemmas.Bool.{le-ltb}
use Rattle.rv_value.specs.declared.value.Value.{Value}
use Rattle.rv_value.specs.declared.value.Value.TheVariants.{Null, Int, Str}
use Rattle.rv_lang.specs.declared.statement.RawKind.{RawKind}
use Rattle.rv_lang.specs.declared.statement.RawKind.TheVariants.{Big, Chars}
use Rattle.rv_lang.specs.declared.statement.RawCol.{RawCol}
use Rattle.rv_lang.specs.declared.statement.RawOperand.TheVariants.{Literal, Column}
use Rattle.rv_lang.specs.declared.statement.RawAtom.{RawAtom}
use Rattle.rv_lang.specs.declared.statement.RawAtom.TheVariants.{Compare, Between, Among, IsNull, Starts}
use Rattle.rv_lang.specs.declared.statement.Statement.{Statement}
use Rattle.rv_lang.specs.declared.statement.Statement.TheVariants.{CreateTable, CreateIndex, Begin, Insert, Update, Delete, Commit, Rollback, Open, Fetch, Show, Close, Step}
use Rattle.rv_lang.specs.declared.reply.Refusal.{Refusal}
use Rattle.rv_lang.specs.declared.reply.Refusal.TheVariants.{Limit}
use Rattle.rv_lang.specs.declared.reply.Which.TheVariants as which
use Rattle.rv_catalog.specs.Answers.{◌>>=◌, refuse_if, all_pass}
use Rattle.rv_catalog.proofs.Steps.{pass_same}
use Rattle.rv_catalog.specs.Limits as today
use Rattle.rv_believed.specs.Answers.{Test}
use Rattle.rv_believed.specs.Limits.{literals, column_names, atom_names, names_in, values_in, item_names, at_most, names_fit, value_fits, texts_fit, kind_fits, list_fits, where_fits, is_outside, within_limits}
use Rattle.rv_believed.proofs.Chains.{all_pass_refuse, test_end}

-- ---- Bools and lists

or_two : {a b c d : Bool} → a ≡ b → c ≡ d → (a || c) ≡ (b || d)
or_two p q = λ i. p i || q i

any_map : {X Y : Type 0} (p : Y → Bool) (f : X → Y) (xs : List X) → list_any p (map f xs) ≡ list_any (λ x. p (f x)) xs
any_map p f [] = refl
any_map p f (x ∷ xs) = ap (λ b. p (f x) || b) (any_map p f xs)

any_flat : {X Y : Type 0} (p : Y → Bool) (q : X → Bool) (f : X → List Y) → ((x : X) → list_any p (f x) ≡ q x)
    → (xs : List X) → list_any p (flat_map f xs) ≡ list_any q xs
any_flat p q f same [] = refl
any_flat p q f same (x ∷ xs) = list_any-append p (f x) (flat_map f xs) ∙ or_two (same x) (any_flat p q f same xs)

-- ---- tests

both_tests : {a b c d : Test} → a ≡ b → c ≡ d → (a >>= (λ u. c)) ≡ (b >>= (λ u. d))
both_tests p q = λ i. p i >>= (λ u. q i)

all_by : {A : Type 0} (f : A → Test) (p : A → Bool) (r : Refusal) → ((x : A) → f x ≡ refuse_if (p x) r)
    → (xs : List A) → all_pass f xs ≡ refuse_if (list_any p xs) r
all_by f p r same xs = pass_same f (λ x. refuse_if (p x) r) same xs ∙ all_pass_refuse p r xs

-- ---- names

ref_parts : (t : Option (List ℕ)) (n : List ℕ)
    → list_any today.is_long (option_to_list t ++ n ∷ []) ≡ (today.is_long_option t || today.is_long n)
ref_parts None n = or-false (today.is_long n)
ref_parts (Some m) n = ap (λ b. today.is_long m || b) (or-false (today.is_long n))

any_ref : (c : RawCol) → list_any today.is_long (column_names c) ≡ today.is_long_ref c
any_ref c = ref_parts c.table c.column

alone : (c : RawCol) → list_any today.is_long (column_names c ++ []) ≡ today.is_long_ref c
alone c = list_any-append today.is_long (column_names c) [] ∙ or-false (list_any today.is_long (column_names c)) ∙ any_ref c

any_atom : (a : RawAtom) → list_any today.is_long (atom_names a) ≡ today.is_long_atom a
any_atom (Compare c op (Literal v)) = alone c ∙ sym (or-false (today.is_long_ref c))
any_atom (Compare c op (Column d)) = list_any-append today.is_long (column_names c) (column_names d ++ []) ∙ or_two (any_ref c) (alone d)
any_atom (Between c low high) = alone c
any_atom (Among c list) = alone c
any_atom (IsNull c negated) = alone c
any_atom (Starts c text) = alone c

any_group : (g : List RawAtom) → list_any today.is_long (flat_map atom_names g) ≡ list_any today.is_long_atom g
any_group g = any_flat today.is_long today.is_long_atom atom_names any_atom g

any_names : (only : List (List RawAtom)) → list_any today.is_long (names_in only) ≡ today.has_long_names only
any_names only = any_flat today.is_long (λ g. list_any today.is_long_atom g) (flat_map atom_names) any_group only

item_parts : (n : List ℕ) (second : Option (List ℕ))
    → list_any today.is_long (n ∷ option_to_list second) ≡ (today.is_long n || today.is_long_option second)
item_parts n None = refl
item_parts n (Some m) = ap (λ b. today.is_long n || b) (or-false (today.is_long m))

any_items : (items : List (List ℕ × Option (List ℕ))) → list_any today.is_long (flat_map item_names items)
    ≡ list_any (λ (i : List ℕ × Option (List ℕ)). today.is_long i.0 || today.is_long_option i.1) items
any_items items = any_flat today.is_long (λ (i : List ℕ × Option (List ℕ)). today.is_long i.0 || today.is_long_option i.1)
    item_names (λ i. item_parts i.0 i.1) items

any_refs : (refs : List RawCol) → list_any today.is_long (flat_map column_names refs) ≡ list_any today.is_long_ref refs
any_refs refs = any_flat today.is_long today.is_long_ref column_names any_ref refs

any_returned : (refs : Option (List RawCol))
    → list_any today.is_long (flat_map column_names (unwrap_or refs [])) ≡ today.has_long_refs refs
any_returned None = refl
any_returned (Some refs) = any_refs refs

names_test : (xs : List (List ℕ)) (b : Bool) → list_any today.is_long xs ≡ b
    → names_fit xs ≡ refuse_if b (Limit which.Name 31)
names_test xs b same = all_pass_refuse today.is_long (Limit which.Name 31) xs ∙ ap (λ b. refuse_if b (Limit which.Name 31)) same

-- ---- texts

value_test : (v : Value) → value_fits v ≡ refuse_if (today.is_wide v) (Limit which.Text 255)
value_test Null = refl
value_test (Int n) = refl
value_test (Str text) = refl

any_values : (a : RawAtom) → list_any today.is_wide (literals a) ≡ today.is_wide_atom a
any_values (Compare c op (Literal v)) = or-false (today.is_wide v)
any_values (Compare c op (Column d)) = refl
any_values (Between c low high) = ap (λ b. today.is_wide low || b) (or-false (today.is_wide high))
any_values (Among c list) = refl
any_values (IsNull c negated) = refl
any_values (Starts c text) = or-false (today.is_wide (Str text))

any_texts : (only : List (List RawAtom)) → list_any today.is_wide (values_in only) ≡ today.has_wide_texts only
any_texts only = any_flat today.is_wide (λ g. list_any today.is_wide_atom g) (flat_map literals)
    (any_flat today.is_wide today.is_wide_atom literals any_values) only

texts_test : (vs : List Value) (b : Bool) → list_any today.is_wide vs ≡ b
    → texts_fit vs ≡ refuse_if b (Limit which.Text 255)
texts_test vs b same = all_by value_fits today.is_wide (Limit which.Text 255) value_test vs
    ∙ ap (λ b. refuse_if b (Limit which.Text 255)) same

width_test : (name : List ℕ) (n : ℤ) → kind_fits (name, Chars n) ≡ refuse_if (today.is_no_width n) (Limit which.Text 255)
width_test name (pos n) = refl
width_test name (negsuc n) = refl

kind_test : (c : List ℕ × RawKind) → kind_fits c ≡ refuse_if (today.is_no_kind c.1) (Limit which.Text 255)
kind_test (name, Big) = refl
kind_test (name, Chars n) = width_test name n

-- ---- WHERE

list_test : (a : RawAtom) → list_fits a ≡ refuse_if (today.is_long_list a) (Limit which.List 32)
list_test (Compare c op operand) = refl
list_test (Between c low high) = refl
list_test (Among c list) = refl
list_test (IsNull c negated) = refl
list_test (Starts c text) = refl

lists_test : (only : List (List RawAtom))
    → all_pass (all_pass list_fits) only ≡ refuse_if (today.has_long_list only) (Limit which.List 32)
lists_test only = all_by (all_pass list_fits) (λ g. list_any today.is_long_list g) (Limit which.List 32)
    (all_by list_fits today.is_long_list (Limit which.List 32) list_test) only

-- ---- statements

set_names : (sets : List (List ℕ × Value)) (only : List (List RawAtom))
    → list_any today.is_long (map (λ (s : List ℕ × Value). s.0) sets ++ names_in only)
    ≡ (list_any (λ (s : List ℕ × Value). today.is_long s.0) sets || today.has_long_names only)
set_names sets only = list_any-append today.is_long (map (λ (s : List ℕ × Value). s.0) sets) (names_in only)
    ∙ or_two (any_map today.is_long (λ (s : List ℕ × Value). s.0) sets) (any_names only)

set_texts : (sets : List (List ℕ × Value)) (only : List (List RawAtom))
    → list_any today.is_wide (map (λ (s : List ℕ × Value). s.1) sets ++ values_in only)
    ≡ (list_any (λ (s : List ℕ × Value). today.is_wide s.1) sets || today.has_wide_texts only)
set_texts sets only = list_any-append today.is_wide (map (λ (s : List ℕ × Value). s.1) sets) (values_in only)
    ∙ or_two (any_map today.is_wide (λ (s : List ℕ × Value). s.1) sets) (any_texts only)

five : (a b c d e : Bool) → a || (((b || c) || d) || e) ≡ (((a || b) || c) || d) || e
five true b c d e = refl
five false b c d e = refl

open_names : (cursor : List ℕ) (returned : Option (List RawCol)) (items : List (List ℕ × Option (List ℕ)))
    (only : List (List RawAtom)) (order : List RawCol)
    → list_any today.is_long (cursor ∷ flat_map column_names (unwrap_or returned [])
    ++ flat_map item_names items ++ names_in only ++ flat_map column_names order)
    ≡ (((today.is_long cursor || today.has_long_refs returned)
    || list_any (λ (i : List ℕ × Option (List ℕ)). today.is_long i.0 || today.is_long_option i.1) items)
    || today.has_long_names only) || list_any today.is_long_ref order
open_names cursor returned items only order =
    ap (λ b. today.is_long cursor || b)
    (list_any-append today.is_long (flat_map column_names (unwrap_or returned []) ++ flat_map item_names items
    ++ names_in only) (flat_map column_names order)
    ∙ or_two (list_any-append today.is_long (flat_map column_names (unwrap_or returned []) ++ flat_map item_names items)
    (names_in only)
    ∙ or_two (list_any-append today.is_long (flat_map column_names (unwrap_or returned [])) (flat_map item_names items)
    ∙ or_two (any_returned returned) (any_items items)) (any_names only)) (any_refs order))
    ∙ five (today.is_long cursor) (today.has_long_refs returned)
    (list_any (λ (i : List ℕ × Option (List ℕ)). today.is_long i.0 || today.is_long_option i.1) items)
    (today.has_long_names only) (list_any today.is_long_ref order)

where_test : (only : List (List RawAtom)) → where_fits only
    ≡ (refuse_if (today.has_long_list only) (Limit which.List 32)
    >>= (λ u. refuse_if (today.has_long_group only) (Limit which.Atoms 32)
    >>= (λ v. refuse_if (nat_lt 32 (length only)) (Limit which.Groups 32) >>= (λ w. Ok tt))))
where_test only = both_tests (lists_test only)
    (both_tests (all_pass_refuse (λ (g : List RawAtom). nat_lt 32 (length g)) (Limit which.Atoms 32) only)
    (sym (test_end (at_most 32 which.Groups only))))

in_a_row : (a b c : Test) → ((a >>= (λ u. b)) >>= (λ v. c)) ≡ (a >>= (λ u. b >>= (λ v. c)))
in_a_row (Ok u) b c = refl
in_a_row (Err e) b c = refl

where_rest : (only : List (List RawAtom)) (rest : Test) → (where_fits only >>= (λ u. rest))
    ≡ (refuse_if (today.has_long_list only) (Limit which.List 32)
    >>= (λ u. refuse_if (today.has_long_group only) (Limit which.Atoms 32)
    >>= (λ v. refuse_if (nat_lt 32 (length only)) (Limit which.Groups 32) >>= (λ w. rest))))
where_rest only rest =
    in_a_row (all_pass (all_pass list_fits) only)
    (all_pass (at_most 32 which.Atoms) only >>= (λ u. at_most 32 which.Groups only)) rest
    ∙ both_tests (lists_test only)
    (in_a_row (all_pass (at_most 32 which.Atoms) only) (at_most 32 which.Groups only) rest
    ∙ both_tests (all_pass_refuse (λ (g : List RawAtom). nat_lt 32 (length g)) (Limit which.Atoms 32) only) refl)

returned_test : (returned : Option (List RawCol)) → at_most 64 which.Returned (unwrap_or returned [])
    ≡ refuse_if (nat_lt 64 (today.count_option returned)) (Limit which.Returned 64)
returned_test None = refl
returned_test (Some refs) = refl

steps_test : (n : ℤ) → refuse_if (is_outside 0 10000 n) (Limit which.Steps 10000)
    ≡ refuse_if (today.is_no_steps n) (Limit which.Steps 10000)
steps_test (pos n) = ap (λ b. refuse_if (b || nat_lt 10000 n) (Limit which.Steps 10000)) (le-ltb n 0 (omega arith))
steps_test (negsuc n) = refl

one_name : (cursor : List ℕ)
    → names_fit (cursor ∷ []) ≡ (refuse_if (today.is_long cursor) (Limit which.Name 31) >>= (λ u. Ok tt))
one_name cursor = names_test (cursor ∷ []) (today.is_long cursor) (or-false (today.is_long cursor))
    ∙ sym (test_end (refuse_if (today.is_long cursor) (Limit which.Name 31)))

-- THE BRIDGE
pub limits_same : (s : Statement) → within_limits s ≡ today.limits s
limits_same (CreateTable name columns) = both_tests
    (names_test (name ∷ map (λ (c : List ℕ × RawKind). c.0) columns) (today.has_long_name (CreateTable name columns))
    (ap (λ b. today.is_long name || b) (any_map today.is_long (λ (c : List ℕ × RawKind). c.0) columns)))
    (both_tests (all_by kind_fits (λ (c : List ℕ × RawKind). today.is_no_kind c.1) (Limit which.Text 255) kind_test columns)
    (sym (test_end (at_most 16 which.Columns columns))))
limits_same (CreateIndex unique name table columns) = both_tests
    (names_test (name ∷ table ∷ columns) (today.has_long_name (CreateIndex unique name table columns))
    (sym (or_assoc (today.is_long name) (today.is_long table) (list_any today.is_long columns))))
    (sym (test_end (at_most 4 which.Key columns)))
limits_same (Begin read_only) = refl
limits_same (Insert table values) = both_tests
    (names_test (table ∷ []) (today.is_long table) (or-false (today.is_long table)))
    (both_tests (texts_test values (list_any today.is_wide values) refl)
    (sym (test_end (at_most 16 which.Columns values))))
limits_same (Update table sets only) = both_tests
    (names_test (table ∷ map (λ (s : List ℕ × Value). s.0) sets ++ names_in only)
    (today.has_long_name (Update table sets only))
    (ap (λ b. today.is_long table || b) (set_names sets only)
    ∙ sym (or_assoc (today.is_long table) (list_any (λ (s : List ℕ × Value). today.is_long s.0) sets)
    (today.has_long_names only))))
    (both_tests (texts_test (map (λ (s : List ℕ × Value). s.1) sets ++ values_in only)
    (today.has_wide_text (Update table sets only)) (set_texts sets only))
    (both_tests refl (where_test only)))
limits_same (Delete table only) = both_tests
    (names_test (table ∷ names_in only) (today.has_long_name (Delete table only))
    (ap (λ b. today.is_long table || b) (any_names only)))
    (both_tests (texts_test (values_in only) (today.has_wide_texts only) (any_texts only)) (where_test only))
limits_same Commit = refl
limits_same Rollback = refl
limits_same (Open cursor returned items only order goal) = both_tests
    (names_test (cursor ∷ flat_map column_names (unwrap_or returned []) ++ flat_map item_names items
    ++ names_in only ++ flat_map column_names order)
    (today.has_long_name (Open cursor returned items only order goal))
    (open_names cursor returned items only order))
    (both_tests (texts_test (values_in only) (today.has_wide_texts only) (any_texts only))
    (where_rest only (at_most 4 which.Joined items >>= (λ u. at_most 64 which.Returned (unwrap_or returned [])
    >>= (λ v. at_most 4 which.Order order)))
    ∙ ap (λ rest. refuse_if (today.has_long_list only) (Limit which.List 32)
    >>= (λ u. refuse_if (today.has_long_group only) (Limit which.Atoms 32)
    >>= (λ v. refuse_if (nat_lt 32 (length only)) (Limit which.Groups 32) >>= (λ w. rest))))
    (both_tests {a = at_most 4 which.Joined items} refl
    (both_tests (returned_test returned) (sym (test_end (at_most 4 which.Order order)))))))
limits_same (Fetch cursor) = one_name cursor
limits_same (Show cursor) = one_name cursor
limits_same (Close cursor) = one_name cursor
limits_same (Step cursor n) = both_tests
    (names_test (cursor ∷ []) (today.is_long cursor) (or-false (today.is_long cursor))) (steps_test n)
