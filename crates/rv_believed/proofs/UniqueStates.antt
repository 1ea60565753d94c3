-- After every history no two rows are equal in a unique index.
use Rattle.std.proofs.Common.{◌≡◌, ℕ, List, [], ◌∷◌, ◌++◌, Option, Some, None, Result, Ok, Err, Bool, true, false, not, ◌&&◌, ◌||◌, ◌==◌, cond, ◌⊎◌, inl, inr, refl, sym, ap, ◌∙◌, subst, find, filter, map, length, nat_lt, arith}
use Rattle.std.proofs.lemmas.Bool.{cases_Bool}
use Rattle.std.proofs.lemmas.Bool.Decides.{nat_tests}
use Rattle.std.specs.Prelude.{slice_get}
use Rattle.std.specs.List.{AllByRecursion, flat_map, list_any}
use Rattle.std.specs.Ordering.{is_eq, ordering_then}
use Rattle.std.specs.declared.cmp.Ordering.{Ordering}
use Rattle.std.specs.declared.cmp.Ordering.TheVariants.{Less, Equal, Greater}
use Rattle.std.proofs.Math.Bool.{and-false}
use Rattle.rv_value.proofs.Lists.{all_filter, all_last}
use Rattle.rv_value.specs.declared.value.Value.{Value}
use Rattle.rv_value.specs.declared.value.Value.TheVariants.{Null, Int, Str}
use Rattle.rv_value.specs.declared.record.Record.{Record}
use Rattle.rv_value.specs.Order.{value_cmp, values_cmp}
use Rattle.rv_value.proofs.Same.{values_turned}
use Rattle.rv_restrict.specs.declared.atom.Atom.{Atom}
use Rattle.rv_rows.specs.declared.changes.Change.{Change}
use Rattle.rv_rows.specs.Changes.{Rise, has_change, rows_with_changes, with_changes}
use Rattle.rv_lang.specs.declared.reply.Refusal.{Refusal}
use Rattle.rv_lang.specs.declared.reply.Refusal.TheVariants as refusals
use Rattle.rv_lang.specs.declared.reply.Reply.{Reply}
use Rattle.rv_lang.specs.declared.reply.Rival.{Rival}
use Rattle.rv_lang.specs.declared.reply.Rival.TheVariants as rivals
use Rattle.rv_lang.specs.declared.reply.Which.TheVariants as which
use Rattle.rv_parse.specs.Reading.{statement_of}
use Rattle.rv_catalog.specs.declared.def.IndexDef.{IndexDef}
use Rattle.rv_catalog.specs.declared.def.Resolved.{Resolved}
use Rattle.rv_catalog.specs.declared.def.Resolved.TheVariants as asked
use Rattle.rv_catalog.specs.declared.def.Select.{Select}
use Rattle.rv_catalog.specs.declared.def.TableDef.{TableDef}
use Rattle.rv_catalog.specs.Answers.{◌>>=◌, all_pass, ok_or, refuse_if}
use Rattle.rv_model.specs.declared.entry.Entry.{Entry}
use Rattle.rv_model.specs.declared.state.State.{State}
use Rattle.rv_model.specs.declared.transactions.Transaction.{Transaction as Working}
use Rattle.rv_model.specs.Database.{cursor_named, empty as empty_state}
use Rattle.rv_model.specs.History.{after_from, stepped}
use Rattle.rv_model.specs.Offers.{same_values}
use Rattle.rv_model.specs.Rivals.{Neighbour, alone, are_equal, equals_lower, first_equal, is_null, is_rival, key_of, placed, rows_left, rows_written, unique_over, written_by_other}
use Rattle.rv_model.specs.Step as step
use Rattle.rv_model.specs.Transactions.{refuse_at}
use Rattle.rv_believed.specs.Answers.{Test}
use Rattle.rv_believed.specs.Changing.{change, change_of, changes_by, few_changes, insert, neighbours_of, no_holder, no_later_commit, no_rivals, writer}
use Rattle.rv_believed.specs.Database.{Database, Transaction, others, transaction_of, view}
use Rattle.rv_believed.specs.Orderly.{BeginsBefore, EachTwo}
use Rattle.rv_believed.specs.Standing.{IsSound, database, first, outcome_of, rest, transaction_with, with_bases}
use Rattle.rv_believed.specs.Transactions.{Outcome, begin, commit, commit_of, create_index, create_table, new_transaction, rollback}
use Rattle.rv_believed.specs.Unique.{KeepsApart, NoRivals, StaysUnique}
use Rattle.rv_believed.proofs.OrderlyStates.{Gives, then_gives, then_any}
use Rattle.rv_believed.proofs.Pairs.{two_filter, two_last}
use Rattle.rv_believed.proofs.StatementsStand.{begin_stands, change_stands, commit_stands, index_stands, insert_stands, rollback_stands, table_stands}
use Rattle.rv_believed.proofs.TablesThere.{empty_sound, stepped_sound}
use Rattle.rv_believed.proofs.UniqueRows.{In, commit_in, in_back, in_filter, in_front, in_kept, left_further, none_elsewhere, rise_further, view_further, written_further, written_there}

-- ---- lists

each_in : {X : Type 0} (P Q : X → Type 0) (xs : List X) → AllByRecursion P xs → ((x : X) → In x xs → P x → Q x) → AllByRecursion Q xs
each_in P Q [] all more = tt
each_in P Q (x ∷ xs) all more = (more x (inl refl) all.0, each_in P Q xs all.1 (λ y h. more y (inr h)))

each_map : {X Y : Type 0} (P : X → Type 0) (Q : Y → Type 0) (f : X → Y) (xs : List X) → AllByRecursion P xs → ((x : X) → In x xs → P x → Q (f x)) → AllByRecursion Q (map f xs)
each_map P Q f [] all more = tt
each_map P Q f (x ∷ xs) all more = (more x (inl refl) all.0, each_map P Q f xs all.1 (λ y h. more y (inr h)))

of_each : {X : Type 0} (P : X → Type 0) (xs : List X) (x : X) → AllByRecursion P xs → In x xs → P x
of_each P [] x all h = absurd h
of_each P (y ∷ ys) x all (inl here) = subst P (sym here) all.0
of_each P (y ∷ ys) x all (inr more) = of_each P ys x all.1 more

both_each : {X : Type 0} (P Q : X → Type 0) (xs : List X) → AllByRecursion P xs → AllByRecursion Q xs → AllByRecursion (λ x. P x × Q x) xs
both_each P Q [] p q = tt
both_each P Q (x ∷ xs) p q = ((p.0, q.0), both_each P Q xs p.1 q.1)

two_map : {X : Type 0} (R D : X → X → Type 0) (f : X → X) (xs : List X) → EachTwo R xs → EachTwo D xs → ((u v : X) → In u xs → In v xs → D u v → R u v → R (f u) (f v)) → EachTwo R (map f xs)
two_map R D f [] r d more = tt
two_map R D f (x ∷ xs) r d more = (
  each_map (λ v. R x v × D x v) (R (f x)) f xs (both_each (R x) (D x) xs r.0 d.0) (λ v h k. more x v (inl refl) (inr h) k.1 k.0),
  two_map R D f xs r.1 d.1 (λ u v h k. more u v (inr h) (inr k)),
)

two_more : {X : Type 0} (R S : X → X → Type 0) (xs : List X) → EachTwo R xs → ((u v : X) → R u v → S u v) → EachTwo S xs
two_more R S [] r more = tt
two_more R S (x ∷ xs) r more = (each_in (R x) (S x) xs r.0 (λ v h k. more x v k), two_more R S xs r.1 more)

-- of two members one stands in front, or they are one
two_pick : {X : Type 0} (R : X → X → Type 0) (xs : List X) (u v : X) → EachTwo R xs → In u xs → In v xs → (u ≡ v) ⊎ (R u v ⊎ R v u)
two_pick R [] u v r h k = absurd h
two_pick R (x ∷ xs) u v r (inl here) (inl there) = inl (here ∙ sym there)
two_pick R (x ∷ xs) u v r (inl here) (inr more) = inr (inl (subst (λ y. R y v) (sym here) (of_each (R x) xs v r.0 more)))
two_pick R (x ∷ xs) u v r (inr more) (inl there) = inr (inr (subst (λ y. R y u) (sym there) (of_each (R x) xs u r.0 more)))
two_pick R (x ∷ xs) u v r (inr h) (inr k) = two_pick R xs u v r.1 h k

found_in : {X : Type 0} (p : X → Bool) (xs : List X) (x : X) → find p xs ≡ Some x → In x xs × (p x ≡ true)
found_in p [] x is = cc
found_in p (y ∷ ys) x is = elim (cases_Bool (p y)) [
  | inl t ↦ (let same : Some y ≡ Some x = sym (ap (λ b. cond b (Some y) (find p ys)) t) ∙ is in let own : y ≡ x = cc in (inl (sym own), ap p (sym own) ∙ t))
  | inr f ↦ (let k = found_in p ys x (sym (ap (λ b. cond b (Some y) (find p ys)) f) ∙ is) in (inr k.0, k.1))
]

none_of : {X : Type 0} (p : X → Bool) (xs : List X) (x : X) → find p xs ≡ None → In x xs → p x ≡ false
none_of p [] x is h = absurd h
none_of p (y ∷ ys) x is h = elim (cases_Bool (p y)) [
  | inl t ↦ (let no : Some y ≡ None = sym (ap (λ b. cond b (Some y) (find p ys)) t) ∙ is in cc)
  | inr f ↦ by f (none_of p ys x (sym (ap (λ b. cond b (Some y) (find p ys)) f) ∙ is)) h
]
  where
    by : p y ≡ false → (In x ys → p x ≡ false) → In x (y ∷ ys) → p x ≡ false
    by f left (inl here) = ap p here ∙ f
    by f left (inr more) = left more

none_any : {X : Type 0} (p : X → Bool) (xs : List X) → ((x : X) → In x xs → p x ≡ false) → list_any p xs ≡ false
none_any p [] none = refl
none_any p (x ∷ xs) none = ap (λ b. b || list_any p xs) (none x (inl refl)) ∙ none_any p xs (λ y h. none y (inr h))

any_none : {X : Type 0} (p : X → Bool) (xs : List X) (x : X) → list_any p xs ≡ false → In x xs → p x ≡ false
any_none p [] x none h = absurd h
any_none p (y ∷ ys) x none h = elim (cases_Bool (p y)) [
  | inl t ↦ (let no : true ≡ false = sym (ap (λ b. b || list_any p ys) t) ∙ none in cc)
  | inr f ↦ by f (any_none p ys x (sym (ap (λ b. b || list_any p ys) f) ∙ none)) h
]
  where
    by : p y ≡ false → (In x ys → p x ≡ false) → In x (y ∷ ys) → p x ≡ false
    by f left (inl here) = ap p here ∙ f
    by f left (inr more) = left more

-- ---- rivals are rivals of each other

eq_both : (a b : Ordering) → is_eq (ordering_then a b) ≡ true → (is_eq a ≡ true) × (is_eq b ≡ true)
eq_both Less b h = cc
eq_both Equal b h = (refl, h)
eq_both Greater b h = cc

null_value : (x y : Value) → is_eq (value_cmp x y) ≡ true → is_null x ≡ is_null y
null_value Null Null h = refl
null_value Null (Int b) h = cc
null_value Null (Str t) h = cc
null_value (Int a) Null h = cc
null_value (Int a) (Int b) h = refl
null_value (Int a) (Str t) h = refl
null_value (Str s) Null h = cc
null_value (Str s) (Int b) h = refl
null_value (Str s) (Str t) h = refl

null_same : (xs ys : List Value) → same_values xs ys ≡ true → list_any is_null xs ≡ list_any is_null ys
null_same [] [] h = refl
null_same [] (y ∷ ys) h = cc
null_same (x ∷ xs) [] h = cc
null_same (x ∷ xs) (y ∷ ys) h =
    let k = eq_both (value_cmp x y) (values_cmp xs ys) h in
    λ i. null_value x y k.0 i || null_same xs ys k.1 i

equal_turned : (columns : List ℕ) (r s : Record) → are_equal columns r s ≡ are_equal columns s r
equal_turned columns r s = elim (cases_Bool (same_values (key_of columns s.values) (key_of columns r.values))) [
  | inl t ↦
      let null = null_same (key_of columns s.values) (key_of columns r.values) t in
      let back : same_values (key_of columns r.values) (key_of columns s.values) ≡ true = values_turned (key_of columns r.values) (key_of columns s.values) ∙ t in
      (λ i. not (sym null i) && t i) ∙ sym (ap (λ b. not (list_any is_null (key_of columns s.values)) && b) back)
  | inr f ↦
      let back : same_values (key_of columns r.values) (key_of columns s.values) ≡ false = values_turned (key_of columns r.values) (key_of columns s.values) ∙ f in
      ap (λ b. not (list_any is_null (key_of columns r.values)) && b) f ∙ and-false (not (list_any is_null (key_of columns r.values)))
      ∙ sym (ap (λ b. not (list_any is_null (key_of columns s.values)) && b) back ∙ and-false (not (list_any is_null (key_of columns s.values))))
]

numbers_turned : (m n : ℕ) → (m == n) ≡ (n == m)
numbers_turned m n = elim (cases_Bool (m == n)) [
  | inl t ↦ (let back : (n == m) ≡ true = grind (arith, nat_tests) in t ∙ sym back)
  | inr f ↦ (let back : (n == m) ≡ false = grind (arith, nat_tests) in f ∙ sym back)
]

rival_turned : (columns : List ℕ) (r s : Record) → is_rival columns r s ≡ is_rival columns s r
rival_turned columns r s = λ i. not (numbers_turned s.row.0 r.row.0 i) && equal_turned columns r s i

-- no row of these has a rival among those, by membership
abbrev AreApart : List ℕ → List Record → List Record → Type 0
AreApart columns rows those = (r s : Record) → In r rows → In s those → is_rival columns r s ≡ false

turned_apart : (columns : List ℕ) (rows those : List Record) → AreApart columns rows those → AreApart columns those rows
turned_apart columns rows those apart r s h k = rival_turned columns r s ∙ apart s r k h

apart_tells : (columns : List ℕ) (rows those : List Record) → AreApart columns rows those → NoRivals columns rows those
apart_tells columns rows those apart = none_any (λ (r : Record). list_any (is_rival columns r) those) rows (λ r h. none_any (is_rival columns r) those (λ s k. apart r s h k))

-- ---- what is kept

-- in what a transaction sees; of what it has written, in the last commit that it leaves, and in what another one has written
abbrev Sees : IndexDef → Transaction → Type 0
Sees i t = AreApart i.columns (view t i.table) (view t i.table)

abbrev Leaves : IndexDef → (ℕ → List Record) → Transaction → Type 0
Leaves i rows t = AreApart i.columns (rows_written i.table t.changes) (rows_left i.table t.changes (rows i.table))

abbrev Wrote : IndexDef → Transaction → Transaction → Type 0
Wrote i t u = AreApart i.columns (rows_written i.table t.changes) (rows_written i.table u.changes)

record ApartIn (i : IndexDef) (rows : ℕ → List Record) (active : List Transaction) : Type 0 where
  last : AreApart i.columns (rows i.table) (rows i.table)
  views : AllByRecursion (Sees i) active
  commits : AllByRecursion (Leaves i rows) active
  others : EachTwo (Wrote i) active

abbrev IfUnique : (ℕ → List Record) → List Transaction → IndexDef → Type 0
IfUnique rows active i = i.unique ≡ true → ApartIn i rows active

abbrev RiseAll : List Transaction → Type 0
RiseAll = AllByRecursion (λ (t : Transaction). Rise t.changes)

record GoodOf (indexes : List IndexDef) (rows : ℕ → List Record) (active : List Transaction) : Type 0 where
  unique : AllByRecursion (IfUnique rows active) indexes
  rises : RiseAll active

abbrev Good : Database → Type 0
Good d = GoodOf d.indexes d.rows d.active

abbrev Done : Reply × Database → Type 0
Done done = Good done.1

abbrev Differ : Transaction → Transaction → Type 0
Differ t u = t.session ≡ u.session → ⊥

tells : (d : Database) (i : IndexDef) → ApartIn i d.rows d.active → KeepsApart d i
tells d i h = record {
  last = apart_tells i.columns (d.rows i.table) (d.rows i.table) h.last;
  views = each_in (Sees i) (λ (t : Transaction). NoRivals i.columns (view t i.table) (view t i.table)) d.active h.views (λ t k apart. apart_tells i.columns (view t i.table) (view t i.table) apart);
  commits = each_in (Leaves i d.rows) (λ (t : Transaction). NoRivals i.columns (rows_written i.table t.changes) (rows_left i.table t.changes (d.rows i.table))) d.active h.commits (λ t k apart. apart_tells i.columns (rows_written i.table t.changes) (rows_left i.table t.changes (d.rows i.table)) apart);
  others = two_more (Wrote i) (λ (t u : Transaction). NoRivals i.columns (rows_written i.table t.changes) (rows_written i.table u.changes)) d.active h.others (λ t u apart. apart_tells i.columns (rows_written i.table t.changes) (rows_written i.table u.changes) apart);
}

-- ---- what a test tells

first_passes : (r a : Result (Unit {0}) Refusal) → (r >>= (λ u. a)) ≡ Ok tt → (r ≡ Ok tt) × (a ≡ Ok tt)
first_passes (Ok u) a h = (refl, h)
first_passes (Err e) a h = cc

each_passes : {X : Type 0} (f : X → Result (Unit {0}) Refusal) (xs : List X) (x : X) → all_pass f xs ≡ Ok tt → In x xs → f x ≡ Ok tt
each_passes f [] x h k = absurd k
each_passes f (y ∷ ys) x h (inl here) = ap f here ∙ (first_passes (f y) (all_pass f ys) h).0
each_passes f (y ∷ ys) x h (inr more) = each_passes f ys x (first_passes (f y) (all_pass f ys) h).1 more

none_at : {A : Type 0} (o : Option A) (f : A → Refusal) → refuse_at o f ≡ Ok tt → o ≡ None
none_at None f h = refl
none_at (Some a) f h = cc

in_placed : (at : Record → Rival) (rows : List Record) (s : Record) → In s rows → In (record { row = s; at = at s }) (placed at rows)
in_placed at [] s h = absurd h
in_placed at (r ∷ rows) s (inl here) = inl (ap (λ (x : Record). record { row = x; at = at x }) here)
in_placed at (r ∷ rows) s (inr more) = inr (in_placed at rows s more)

in_theirs : (table : ℕ) (us : List Transaction) (u : Transaction) (s : Record) → In u us → In s (rows_written table u.changes)
    → In (record { row = s; at = rivals.Txn u.number }) (flat_map (written_by_other table) (map {B = ℕ × List Change} (λ (v : Transaction). (v.number, v.changes)) us))
in_theirs table [] u s h k = absurd h
in_theirs table (v ∷ us) u s (inl here) k =
    in_front _ (placed (λ (r : Record). rivals.Txn v.number) (rows_written table v.changes)) _
    (subst (λ (w : Transaction). In (record { row = s; at = rivals.Txn u.number }) (placed (λ (r : Record). rivals.Txn w.number) (rows_written table w.changes))) here (in_placed (λ (r : Record). rivals.Txn u.number) (rows_written table u.changes) s k))
in_theirs table (v ∷ us) u s (inr more) k = in_back _ (placed (λ (r : Record). rivals.Txn v.number) (rows_written table v.changes)) _ (in_theirs table us u s more k)

-- what is tested of an index, where a transaction makes further changes
record Tested (columns : List ℕ) (table : ℕ) (new : List Change) (t : Transaction) (last : List Record) (theirs : List Transaction) : Type 0 where
  sees : AreApart columns (rows_written table new) (rows_with_changes table (with_changes new t.changes) (t.rows table))
  left : AreApart columns (rows_written table new) (rows_left table (with_changes new t.changes) last)
  beside : (u : Transaction) → In u theirs → AreApart columns (rows_written table new) (rows_written table u.changes)

no_rival : (d : Database) (t : Transaction) (table : ℕ) (new : List Change) (i : IndexDef) (r : Record) (n : Neighbour) → no_rivals d t table new ≡ Ok tt → In i (unique_over table d.indexes) → In r (rows_written table new)
    → In n (neighbours_of d t table new) → is_rival i.columns r n.row ≡ false
no_rival d t table new i r n passed h k m =
    let near = neighbours_of d t table new in
    let row = each_passes (λ (x : Record). all_pass (alone near x) (unique_over table d.indexes)) (rows_written table new) r passed k in
    let index = each_passes (alone near r) (unique_over table d.indexes) i row h in
    none_of (λ (x : Neighbour). is_rival i.columns r x.row) near n (none_at (find (λ (x : Neighbour). is_rival i.columns r x.row) near) _ index) m

tested_here : (d : Database) (t : Transaction) (table : ℕ) (new : List Change) (i : IndexDef) → no_rivals d t table new ≡ Ok tt → In i (unique_over table d.indexes) → Tested i.columns table new t (d.rows table) (others d t.session)
tested_here d t table new i passed h =
    let changes = with_changes new t.changes in
    let seen = placed (λ (r : Record). rivals.View) (rows_with_changes table changes (t.rows table)) in
    let at : Record → Rival = λ r. rivals.Commit (d.written_by table r.row.0) in
    let committed = placed at (rows_left table changes (d.rows table)) in
    let theirs = flat_map (written_by_other table) (map {B = ℕ × List Change} (λ (u : Transaction). (u.number, u.changes)) (others d t.session)) in
    record {
      sees = λ r s w v. no_rival d t table new i r (record { row = s; at = rivals.View }) passed h w
          (in_front _ (seen ++ committed) theirs (in_front _ seen committed (in_placed (λ (x : Record). rivals.View) (rows_with_changes table changes (t.rows table)) s v)));
      left = λ r s w v. no_rival d t table new i r (record { row = s; at = at s }) passed h w
          (in_front _ (seen ++ committed) theirs (in_back _ seen committed (in_placed at (rows_left table changes (d.rows table)) s v)));
      beside = λ u own r s w v. no_rival d t table new i r (record { row = s; at = rivals.Txn u.number }) passed h w
          (in_back _ (seen ++ committed) theirs (in_theirs table (others d t.session) u s own v));
    }

other_tables : (table other : ℕ) (new : List Change) → (other == table) ≡ false → AllByRecursion (λ (c : Change). c.table ≡ table) new → AllByRecursion (λ (c : Change). (c.table == other) ≡ false) new
other_tables table other [] apart of = tt
other_tables table other (c ∷ cs) apart of = ((let is = of.0 in grind (arith, nat_tests, is, apart)), other_tables table other cs apart of.1)

-- in every unique index: of the table by the test, of another one since nothing is written there
tested : (d : Database) (t : Transaction) (table : ℕ) (new : List Change) (i : IndexDef) → no_rivals d t table new ≡ Ok tt → AllByRecursion (λ (c : Change). c.table ≡ table) new → In i d.indexes → i.unique ≡ true
    → Tested i.columns i.table new t (d.rows i.table) (others d t.session)
tested d t table new i passed of h unique = elim (cases_Bool (i.table == table)) [
  | inl here ↦
      let same : i.table ≡ table = grind (arith, nat_tests) in
      let test : (i.unique && (i.table == table)) ≡ true = (λ k. unique k && here k) in
      subst (λ n. Tested i.columns n new t (d.rows n) (others d t.session)) (sym same)
      (tested_here d t table new i passed (in_kept (λ (x : IndexDef). x.unique && (x.table == table)) i d.indexes h test))
  | inr elsewhere ↦
      let none : (r : Record) → In r (rows_written i.table new) → ⊥ = λ r w. none_elsewhere i.table new r (other_tables table i.table new elsewhere of) w in
      record { sees = λ r s w v. absurd (none r w); left = λ r s w v. absurd (none r w); beside = λ u own r s w v. absurd (none r w) }
]

-- ---- further changes of a transaction

sees_put : (columns : List ℕ) (table : ℕ) (new : List Change) (t : Transaction) (last : List Record) (theirs : List Transaction) → Rise t.changes → Tested columns table new t last theirs → AreApart columns (view t table) (view t table)
    → AreApart columns (rows_with_changes table (with_changes new t.changes) (t.rows table)) (rows_with_changes table (with_changes new t.changes) (t.rows table))
sees_put columns table new t last theirs rise test old r s h k = by (view_further table new t.changes (t.rows table) r rise h) (view_further table new t.changes (t.rows table) s rise k)
  where
    by : In r (rows_written table new) ⊎ In r (view t table) → In s (rows_written table new) ⊎ In s (view t table) → is_rival columns r s ≡ false
    by (inl w) any = test.sees r s w k
    by (inr v) (inl w) = rival_turned columns r s ∙ test.sees s r w h
    by (inr v) (inr x) = old r s v x

left_put : (columns : List ℕ) (table : ℕ) (new : List Change) (t : Transaction) (last : List Record) (theirs : List Transaction) → Rise t.changes → Tested columns table new t last theirs
    → AreApart columns (rows_written table t.changes) (rows_left table t.changes last) → AreApart columns (rows_written table (with_changes new t.changes)) (rows_left table (with_changes new t.changes) last)
left_put columns table new t last theirs rise test old r s h k = by (written_further table new t.changes r rise h)
  where
    by : In r (rows_written table new) ⊎ (In r (rows_written table t.changes) × (has_change table r.row.0 new ≡ false)) → is_rival columns r s ≡ false
    by (inl w) = test.left r s w k
    by (inr before) = old r s before.0 (left_further table new t.changes last s k)

beside_put : (columns : List ℕ) (table : ℕ) (new : List Change) (t u : Transaction) (last : List Record) (theirs : List Transaction) → Rise t.changes → Tested columns table new t last theirs → In u theirs
    → AreApart columns (rows_written table t.changes) (rows_written table u.changes) → AreApart columns (rows_written table (with_changes new t.changes)) (rows_written table u.changes)
beside_put columns table new t u last theirs rise test own old r s h k = by (written_further table new t.changes r rise h)
  where
    by : In r (rows_written table new) ⊎ (In r (rows_written table t.changes) × (has_change table r.row.0 new ≡ false)) → is_rival columns r s ≡ false
    by (inl w) = test.beside u own r s w k
    by (inr before) = old r s before.0 k

abbrev is_own : ℕ → Transaction → Bool
is_own session u = u.session == session

-- the session's transaction, and it alone
own_found : (session : ℕ) (ts : List Transaction) (t u : Transaction) → EachTwo Differ ts → find (is_own session) ts ≡ Some t → In u ts → (u.session == session) ≡ true → u ≡ t
own_found session ts t u differ found h is =
    let k = found_in (is_own session) ts t found in
    by k.0 k.1 (two_pick Differ ts u t differ h k.0)
  where
    by : In t ts → (t.session == session) ≡ true → (u ≡ t) ⊎ (Differ u t ⊎ Differ t u) → u ≡ t
    by there own (inl same) = same
    by there own (inr (inl apart)) = (let same : u.session ≡ t.session = grind (arith, nat_tests, is, own) in absurd (apart same))
    by there own (inr (inr apart)) = (let same : t.session ≡ u.session = grind (arith, nat_tests, is, own) in absurd (apart same))

abbrev put_one : ℕ → List Change → Transaction → Transaction
put_one session cs u = cond (u.session == session) (record u { changes = cs }) u

-- a fact of each transaction, where the own one gets other changes
put_each : (P : Transaction → Type 0) (session : ℕ) (cs : List Change) (ts : List Transaction) (t : Transaction) → EachTwo Differ ts → find (is_own session) ts ≡ Some t → AllByRecursion P ts
    → (P t → P (record t { changes = cs })) → AllByRecursion P (map (put_one session cs) ts)
put_each P session cs ts t differ found all more = each_map P P (put_one session cs) ts all (λ u h k. elim (cases_Bool (u.session == session)) [
  | inl own ↦
      let same : u ≡ t = own_found session ts t u differ found h own in
      subst (λ b. P (cond b (record u { changes = cs }) u)) (sym own) (subst (λ (x : Transaction). P (record x { changes = cs })) (sym same) (more (subst P same k)))
  | inr other ↦ subst (λ b. P (cond b (record u { changes = cs }) u)) (sym other) k
])

put_two : (i : IndexDef) (session : ℕ) (new : List Change) (ts : List Transaction) (t : Transaction) (last : List Record) → EachTwo Differ ts → find (is_own session) ts ≡ Some t → Rise t.changes
    → Tested i.columns i.table new t last (filter (λ (u : Transaction). not (u.session == t.session)) ts) → EachTwo (Wrote i) ts → EachTwo (Wrote i) (map (put_one session (with_changes new t.changes)) ts)
put_two i session new ts t last differ found rise test each = two_map (Wrote i) Differ (put_one session cs) ts each differ (λ u v h k apart old. by u v h k apart old (cases_Bool (u.session == session)) (cases_Bool (v.session == session)))
  where
    cs : List Change
    cs = with_changes new t.changes

    own : (t.session == session) ≡ true
    own = (found_in (is_own session) ts t found).1

    theirs : (v : Transaction) → In v ts → (v.session == session) ≡ false → In v (filter (λ (u : Transaction). not (u.session == t.session)) ts)
    theirs v h other = in_kept (λ (u : Transaction). not (u.session == t.session)) v ts h (let its : (v.session == t.session) ≡ false = (let o = own in grind (arith, nat_tests, o, other)) in ap not its)

    beside : (u v : Transaction) → u ≡ t → In v ts → (v.session == session) ≡ false → Wrote i u v → AreApart i.columns (rows_written i.table cs) (rows_written i.table v.changes)
    beside u v same h other old = beside_put i.columns i.table new t v last _ rise test (theirs v h other) (subst (λ (x : Transaction). Wrote i x v) same old)

    by : (u v : Transaction) → In u ts → In v ts → Differ u v → Wrote i u v → ((u.session == session) ≡ true) ⊎ ((u.session == session) ≡ false) → ((v.session == session) ≡ true) ⊎ ((v.session == session) ≡ false) → Wrote i (put_one session cs u) (put_one session cs v)
    by u v h k apart old (inl a) (inl b) = (let same : u.session ≡ v.session = grind (arith, nat_tests, a, b) in absurd (apart same))
    by u v h k apart old (inl a) (inr b) =
        subst (λ x. Wrote i (cond x (record u { changes = cs }) u) (put_one session cs v)) (sym a)
        (subst (λ x. AreApart i.columns (rows_written i.table cs) (rows_written i.table (cond x (record v { changes = cs }) v).changes)) (sym b) (beside u v (own_found session ts t u differ found h a) k b old))
    by u v h k apart old (inr a) (inl b) =
        let back = turned_apart i.columns (rows_written i.table u.changes) (rows_written i.table v.changes) old in
        subst (λ x. Wrote i (cond x (record u { changes = cs }) u) (put_one session cs v)) (sym a)
        (subst (λ x. AreApart i.columns (rows_written i.table u.changes) (rows_written i.table (cond x (record v { changes = cs }) v).changes)) (sym b)
        (turned_apart i.columns (rows_written i.table cs) (rows_written i.table u.changes) (beside v u (own_found session ts t v differ found k b) h a back)))
    by u v h k apart old (inr a) (inr b) =
        subst (λ x. Wrote i (cond x (record u { changes = cs }) u) (put_one session cs v)) (sym a)
        (subst (λ x. AreApart i.columns (rows_written i.table u.changes) (rows_written i.table (cond x (record v { changes = cs }) v).changes)) (sym b) old)

put_good : (d : Database) (session table : ℕ) (t : Transaction) (new : List Change) → EachTwo Differ d.active → transaction_of d session ≡ Some t → no_rivals d t table new ≡ Ok tt → AllByRecursion (λ (c : Change). c.table ≡ table) new → Good d
    → GoodOf d.indexes d.rows (map (put_one session (with_changes new t.changes)) d.active)
put_good d session table t new differ found passed of good =
    let cs = with_changes new t.changes in
    let rise = of_each (λ (u : Transaction). Rise u.changes) d.active t good.rises (found_in (is_own session) d.active t found).0 in
    record {
      unique = each_in (IfUnique d.rows d.active) (IfUnique d.rows (map (put_one session cs) d.active)) d.indexes good.unique (λ i h old unique.
          let test = tested d t table new i passed of h unique in
          let before = old unique in
          record {
            last = before.last;
            views = put_each (Sees i) session cs d.active t differ found before.views (λ k. sees_put i.columns i.table new t (d.rows i.table) _ rise test k);
            commits = put_each (Leaves i d.rows) session cs d.active t differ found before.commits
                (λ k. left_put i.columns i.table new t (d.rows i.table) _ rise test k);
            others = put_two i session new d.active t (d.rows i.table) differ found rise test before.others;
          });
      rises = put_each (λ (u : Transaction). Rise u.changes) session cs d.active t differ found good.rises (λ k. rise_further new t.changes k);
    }

-- ---- the end of a transaction

without_apart : (i : IndexDef) (rows : ℕ → List Record) (session : ℕ) (ts : List Transaction) → ApartIn i rows ts → ApartIn i rows (filter (λ (u : Transaction). not (u.session == session)) ts)
without_apart i rows session ts old = record {
  last = old.last;
  views = all_filter (Sees i) (λ (u : Transaction). not (u.session == session)) ts old.views;
  commits = all_filter (Leaves i rows) (λ (u : Transaction). not (u.session == session)) ts old.commits;
  others = two_filter (Wrote i) (λ (u : Transaction). not (u.session == session)) ts old.others;
}

without_good : (d : Database) (session : ℕ) → Good d → GoodOf d.indexes d.rows (others d session)
without_good d session good = record {
  unique = each_in (IfUnique d.rows d.active) (IfUnique d.rows (others d session)) d.indexes good.unique (λ i h old unique. without_apart i d.rows session d.active (old unique));
  rises = all_filter (λ (u : Transaction). Rise u.changes) (λ (u : Transaction). not (u.session == session)) d.active good.rises;
}

last_apart : (i : IndexDef) (rows : ℕ → List Record) (ts : List Transaction) (t : Transaction) → ApartIn i rows ts → In t ts → AreApart i.columns (rows_with_changes i.table t.changes (rows i.table)) (rows_with_changes i.table t.changes (rows i.table))
last_apart i rows ts t old h r s a b = by (commit_in i.table t.changes (rows i.table) r a) (commit_in i.table t.changes (rows i.table) s b)
  where
    left : (x : Record) → In x (rows_left i.table t.changes (rows i.table)) → In x (rows i.table)
    left x k = (in_filter (λ (y : Record). not (has_change i.table y.row.0 t.changes)) x (rows i.table) k).0

    by : In r (rows_written i.table t.changes) ⊎ In r (rows_left i.table t.changes (rows i.table)) → In s (rows_written i.table t.changes) ⊎ In s (rows_left i.table t.changes (rows i.table)) → is_rival i.columns r s ≡ false
    by (inl w) (inl x) = of_each (Sees i) ts t old.views h r s (written_there i.table t.changes (t.rows i.table) r w) (written_there i.table t.changes (t.rows i.table) s x)
    by (inl w) (inr x) = of_each (Leaves i rows) ts t old.commits h r s w x
    by (inr w) (inl x) = rival_turned i.columns r s ∙ of_each (Leaves i rows) ts t old.commits h s r x w
    by (inr w) (inr x) = old.last r s (left r w) (left s x)

-- what another transaction has written has no rival in a commit
beside_commit : (i : IndexDef) (rows : ℕ → List Record) (ts : List Transaction) (t u : Transaction) → ApartIn i rows ts → In t ts → In u ts → (u ≡ t → ⊥)
    → AreApart i.columns (rows_written i.table u.changes) (rows_left i.table u.changes (rows_with_changes i.table t.changes (rows i.table)))
beside_commit i rows ts t u old h k apart r s a b =
    let left = in_filter (λ (y : Record). not (has_change i.table y.row.0 u.changes)) s (rows_with_changes i.table t.changes (rows i.table)) b in
    by left.1 (commit_in i.table t.changes (rows i.table) s left.0) (two_pick (Wrote i) ts u t old.others k h)
  where
    by : not (has_change i.table s.row.0 u.changes) ≡ true → In s (rows_written i.table t.changes) ⊎ In s (rows_left i.table t.changes (rows i.table)) → (u ≡ t) ⊎ (Wrote i u t ⊎ Wrote i t u) → is_rival i.columns r s ≡ false
    by free (inr x) pick =
        let there = (in_filter (λ (y : Record). not (has_change i.table y.row.0 t.changes)) s (rows i.table) x).0 in
        of_each (Leaves i rows) ts u old.commits k r s a (in_kept (λ (y : Record). not (has_change i.table y.row.0 u.changes)) s (rows i.table) there free)
    by free (inl w) (inl same) = absurd (apart same)
    by free (inl w) (inr (inl before)) = before r s a w
    by free (inl w) (inr (inr behind)) = rival_turned i.columns r s ∙ behind s r w a

commit_apart : (i : IndexDef) (rows : ℕ → List Record) (session : ℕ) (ts : List Transaction) (t : Transaction) → ApartIn i rows ts → find (is_own session) ts ≡ Some t
    → ApartIn i (λ table. rows_with_changes table t.changes (rows table)) (filter (λ (u : Transaction). not (u.session == session)) ts)
commit_apart i rows session ts t old found =
    let own = found_in (is_own session) ts t found in
    let less = without_apart i rows session ts old in
    record {
      last = last_apart i rows ts t old own.0;
      views = less.views;
      commits = each_in (Leaves i rows) (Leaves i (λ table. rows_with_changes table t.changes (rows table))) (filter (λ (u : Transaction). not (u.session == session)) ts) less.commits (λ u h k.
          let there = in_filter (λ (x : Transaction). not (x.session == session)) u ts h in
          beside_commit i rows ts t u old own.0 there.0 (λ same. (let no : false ≡ true = sym (ap (λ (x : Transaction). not (x.session == session)) same ∙ ap not own.1) ∙ there.1 in cc)));
      others = less.others;
    }

commit_good : (d : Database) (session base : ℕ) (t : Transaction) (cs : List Change) → t.changes ≡ cs → transaction_of d session ≡ Some t → Good d → Done (commit_of d session base cs)
commit_good d session base t [] is found good = without_good d session good
commit_good d session base t (c ∷ cs) is found good =
    let after : GoodOf d.indexes (λ table. rows_with_changes table t.changes (d.rows table)) (others d session) = record {
      unique = each_in (IfUnique d.rows d.active) (IfUnique (λ table. rows_with_changes table t.changes (d.rows table)) (others d session)) d.indexes good.unique (λ i h old unique. commit_apart i d.rows session d.active t (old unique) found);
      rises = all_filter (λ (u : Transaction). Rise u.changes) (λ (u : Transaction). not (u.session == session)) d.active good.rises;
    } in
    subst (λ (xs : List Change). GoodOf d.indexes (λ table. rows_with_changes table xs (d.rows table)) (others d session)) is after

-- ---- the statements

itself_gives : (r : Test) → Gives (λ u. r ≡ Ok tt) r
itself_gives (Ok u) = refl
itself_gives (Err e) = tt

some_gives : {A : Type 0} (o : Option A) (r : Refusal) → Gives (λ a. o ≡ Some a) (ok_or o r)
some_gives None r = tt
some_gives (Some a) r = refl

writer_gives : (d : Database) (session : ℕ) → Gives (λ t. transaction_of d session ≡ Some t) (writer d session)
writer_gives d session = then_gives (λ t. transaction_of d session ≡ Some t) (λ t. transaction_of d session ≡ Some t) (ok_or (transaction_of d session) refusals.NoTransaction) _ (some_gives (transaction_of d session) refusals.NoTransaction)
    (λ t is. then_any (λ u. transaction_of d session ≡ Some u) (refuse_if t.read_only refusals.ReadOnly) _ (λ u. is))

insert_good : (d : Database) (session table : ℕ) (vs : List Value) → EachTwo Differ d.active → Good d → Gives Done (insert d session table vs)
insert_good d session table vs differ good = then_gives (λ t. transaction_of d session ≡ Some t) Done (writer d session) _ (writer_gives d session)
    (λ t found. then_any Done (refuse_if (nat_lt 999999 (d.next_row table)) (refusals.Limit which.Rows 1000000)) _
    (λ u. then_any Done (refuse_if (nat_lt 99999 (length t.changes)) (refusals.Limit which.Pending 100000)) _
    (λ v.
    let new : Change = record { table = table; row = record { 0 = d.next_row table }; values = Some vs } in
    then_gives (λ w. no_rivals d t table (new ∷ []) ≡ Ok tt) Done (no_rivals d t table (new ∷ [])) _ (itself_gives (no_rivals d t table (new ∷ [])))
    (λ w passed. put_good d session table t (new ∷ []) differ found passed (refl, tt) good))))

mapped_of : (table : ℕ) (sets : Option (List (ℕ × Value))) (rows : List Record) → AllByRecursion (λ (c : Change). c.table ≡ table) (map (change_of table sets) rows)
mapped_of table sets [] = tt
mapped_of table sets (r ∷ rows) = (refl, mapped_of table sets rows)

change_good : (d : Database) (session table : ℕ) (sets : Option (List (ℕ × Value))) (only : List (List Atom)) → EachTwo Differ d.active → Good d → Gives Done (change d session table sets only)
change_good d session table sets only differ good = then_gives (λ t. transaction_of d session ≡ Some t) Done (writer d session) _ (writer_gives d session)
    (λ t found.
    let new = changes_by t table sets only in
    then_any Done (few_changes t.changes new) _
    (λ u. then_any Done (all_pass (no_later_commit d t.base) new) _
    (λ v. then_any Done (all_pass (no_holder d session) new) _
    (λ x. then_gives (λ w. no_rivals d t table new ≡ Ok tt) Done (no_rivals d t table new) _ (itself_gives (no_rivals d t table new))
    (λ w passed. put_good d session table t new differ found passed (mapped_of table sets _) good)))))

commit_gives : (d : Database) (session : ℕ) → Good d → Gives Done (commit d session)
commit_gives d session good = then_gives (λ t. transaction_of d session ≡ Some t) Done (ok_or (transaction_of d session) refusals.NoTransaction) _ (some_gives (transaction_of d session) refusals.NoTransaction)
    (λ t found. commit_good d session t.base t t.changes refl found good)

rollback_gives : (d : Database) (session : ℕ) → Good d → Gives Done (rollback d session)
rollback_gives d session good = then_any Done (ok_or (transaction_of d session) refusals.NoTransaction) _ (λ t. without_good d session good)

begin_apart : (i : IndexDef) (rows : ℕ → List Record) (ts : List Transaction) (new : Transaction) → new.changes ≡ [] → ((table : ℕ) → new.rows table ≡ rows table) → ApartIn i rows ts → ApartIn i rows (ts ++ new ∷ [])
begin_apart i rows ts new none base old =
    let sees : view new i.table ≡ rows i.table = ap (λ (cs : List Change). rows_with_changes i.table cs (new.rows i.table)) none ∙ base i.table in
    let wrote : (r : Record) → In r (rows_written i.table new.changes) → ⊥ = λ r h. subst (λ (cs : List Change). In r (rows_written i.table cs)) none h in
    record {
      last = old.last;
      views = all_last (Sees i) ts new old.views (subst (λ (rs : List Record). AreApart i.columns rs rs) (sym sees) old.last);
      commits = all_last (Leaves i rows) ts new old.commits (λ r s h k. absurd (wrote r h));
      others = two_last (Wrote i) ts new old.others (each_in (Sees i) (λ (t : Transaction). Wrote i t new) ts old.views (λ t h k r s a b. absurd (wrote s b)));
    }

begin_good : (d : Database) (session : ℕ) (read_only : Bool) → Good d → Gives Done (begin d session read_only)
begin_good d session read_only good =
    let new = new_transaction d session read_only in
    then_any Done (refuse_at (transaction_of d session) (λ (t : Transaction). refusals.Active t.number)) _ (λ u. record {
      unique = each_in (IfUnique d.rows d.active) (IfUnique d.rows (d.active ++ new ∷ [])) d.indexes good.unique (λ i h old unique. begin_apart i d.rows d.active new refl (λ table. refl) (old unique));
      rises = all_last (λ (t : Transaction). Rise t.changes) d.active new good.rises tt;
    })

table_good : (d : Database) (def : TableDef) → Good d → Gives Done (create_table d def)
table_good d def good = then_any Done (refuse_at (slice_get d.active 0) (λ (t : Transaction). refusals.Busy t.number)) _
    (λ u. then_any Done (refuse_if (nat_lt 63 (length d.tables)) (refusals.Limit which.Tables 64)) _ (λ v. good))

none_active : (ts : List Transaction) → slice_get ts 0 ≡ None → ts ≡ []
none_active [] h = refl
none_active (t ∷ ts) h = cc

-- no two rows are equal where none equals a lower one
lower_none : (i : IndexDef) (rows : List Record) → i.unique ≡ true → first_equal i rows ≡ None → AreApart i.columns rows rows
lower_none i rows unique none r s h k = elim (cases_Bool (s.row.0 == r.row.0)) [
  | inl same ↦ ap (λ b. not b && are_equal i.columns r s) same
  | inr apart ↦ elim (cases_Bool (nat_lt r.row.0 s.row.0)) [
    | inl below ↦ ap (λ b. not b && are_equal i.columns r s) apart ∙ sym (ap (λ b. b && are_equal i.columns r s) below) ∙ not_lower r s h k
    | inr not_below ↦
        let above : nat_lt s.row.0 r.row.0 ≡ true = grind (arith, nat_tests) in
        ap (λ b. not b && are_equal i.columns r s) apart ∙ equal_turned i.columns r s ∙ sym (ap (λ b. b && are_equal i.columns s r) above) ∙ not_lower s r k h
  ]
]
  where
    not_lower : (a b : Record) → In a rows → In b rows → (nat_lt a.row.0 b.row.0 && are_equal i.columns a b) ≡ false
    not_lower a b x y =
        let no : (i.unique && equals_lower i.columns rows b) ≡ false = none_of (λ (z : Record). i.unique && equals_lower i.columns rows z) rows b none y in
        any_none (λ (z : Record). nat_lt z.row.0 b.row.0 && are_equal i.columns z b) rows a (sym (ap (λ c. c && equals_lower i.columns rows b) unique) ∙ no) x

index_good : (d : Database) (def : IndexDef) → Good d → Gives Done (create_index d def)
index_good d def good = then_gives (λ u. slice_get d.active 0 ≡ None) Done (refuse_at (slice_get d.active 0) (λ (t : Transaction). refusals.Busy t.number)) _ (free_gives (slice_get d.active 0) (λ (t : Transaction). refusals.Busy t.number))
    (λ u idle. then_any Done (refuse_if (nat_lt 7 (length (filter (λ (i : IndexDef). i.table == def.table) d.indexes))) (refusals.Limit which.Indexes 8)) _
    (λ v. then_gives (λ w. first_equal def (d.rows def.table) ≡ None) Done (refuse_at (first_equal def (d.rows def.table)) (λ (r : Record). refusals.Duplicate r.row rivals.View)) _ (free_gives (first_equal def (d.rows def.table)) (λ (r : Record). refusals.Duplicate r.row rivals.View))
    (λ w none. record {
      unique = all_last (IfUnique d.rows d.active) d.indexes def good.unique (λ unique.
          let empty = none_active d.active idle in
          subst (ApartIn def d.rows) (sym empty) (record { last = lower_none def (d.rows def.table) unique none; views = tt; commits = tt; others = tt }));
      rises = good.rises;
    })))
  where
    free_gives : {A : Type 0} (o : Option A) (f : A → Refusal) → Gives (λ u. o ≡ None) (refuse_at o f)
    free_gives None f = refl
    free_gives (Some a) f = tt

-- ---- states

-- transactions of different sessions
sessions_apart : (w : Working) (ws : List Working) (b : List (List Record)) (bs : List (List (List Record))) → AllByRecursion (BeginsBefore w) ws → AllByRecursion (Differ (transaction_with w b)) (with_bases ws bs)
sessions_apart w [] b bs all = tt
sessions_apart w (v ∷ ws) b bs all = (all.0.session, sessions_apart w ws b (rest bs) all.1)

differ_in : (ws : List Working) (bs : List (List (List Record))) → EachTwo BeginsBefore ws → EachTwo Differ (with_bases ws bs)
differ_in [] bs each = tt
differ_in (w ∷ ws) bs each = (sessions_apart w ws (first bs) (rest bs) each.0, differ_in ws (rest bs) each.1)

sessions_differ : (s : State) → IsSound s → EachTwo Differ (database s).active
sessions_differ s sound = differ_in s.transactions.active s.bases sound.orderly.active

stands_good : (o : step.Outcome) (b : Outcome) (s : State) → b ≡ outcome_of o → Good (database s) → Gives Done b → Good (database (step.state_of o s))
stands_good (Ok done) b s is good gives = subst (Gives Done) is gives
stands_good (Err refusal) b s is good gives = good

abbrev DoneState : Reply × State → Type 0
DoneState done = Good (database done.1)

state_good : (o : step.Outcome) (s : State) → Good (database s) → Gives DoneState o → Good (database (step.state_of o s))
state_good (Ok done) s good gives = gives
state_good (Err refusal) s good gives = good

opened_good : (s : State) (session : ℕ) (name : List ℕ) (q : Select) → Good (database s) → Gives DoneState (step.opened s session name q)
opened_good s session name q good = then_any DoneState (step.opening s.transactions.active s.cursors session name) _ (λ own. good)

closed_good : (s : State) (session : ℕ) (name : List ℕ) → Good (database s) → Gives DoneState (step.closed s session name)
closed_good s session name good = then_any DoneState (ok_or (cursor_named s.cursors session name) (refusals.NoCursor name)) _ (λ place. good)

fetched_good : (o : Option ℕ) (s : State) (reply : Reply) → Good (database s) → Good (database (step.fetched o s reply))
fetched_good None s reply good = good
fetched_good (Some place) s reply good = good

next_good : (r : Result Resolved Refusal) (s : State) (session : ℕ) (reply : Reply) → IsSound s → Good (database s) → Good (database (step.next_asked r s session reply))
next_good (Err refusal) s session reply sound good = good
next_good (Ok (asked.Fetch name)) s session reply sound good = fetched_good (cursor_named s.cursors session name) s reply good
next_good (Ok (asked.Step name n)) s session reply sound good = good
next_good (Ok (asked.Show name)) s session reply sound good = good
next_good (Ok (asked.CreateTable def)) s session reply sound good = stands_good (step.created s def) (create_table (database s) def) s (table_stands s def sound) good (table_good (database s) def good)
next_good (Ok (asked.CreateIndex def)) s session reply sound good = stands_good (step.indexed s def) (create_index (database s) def) s (index_stands s def sound) good (index_good (database s) def good)
next_good (Ok (asked.Begin read_only)) s session reply sound good = stands_good (step.began s session read_only) (begin (database s) session read_only) s (begin_stands s session read_only sound) good (begin_good (database s) session read_only good)
next_good (Ok (asked.Insert table vs)) s session reply sound good =
    stands_good (step.inserted s session table vs) (insert (database s) session table vs) s (insert_stands s session table vs sound) good (insert_good (database s) session table vs (sessions_differ s sound) good)
next_good (Ok (asked.Update table sets only)) s session reply sound good =
    stands_good (step.changed s session table (Some sets) only) (change (database s) session table (Some sets) only) s (change_stands s session table (Some sets) only sound) good (change_good (database s) session table (Some sets) only (sessions_differ s sound) good)
next_good (Ok (asked.Delete table only)) s session reply sound good =
    stands_good (step.changed s session table None only) (change (database s) session table None only) s (change_stands s session table None only sound) good (change_good (database s) session table None only (sessions_differ s sound) good)
next_good (Ok asked.Commit) s session reply sound good = stands_good (step.committed s session) (commit (database s) session) s (commit_stands s session sound) good (commit_gives (database s) session good)
next_good (Ok asked.Rollback) s session reply sound good = stands_good (step.rolled_back s session) (rollback (database s) session) s (rollback_stands s session sound) good (rollback_gives (database s) session good)
next_good (Ok (asked.Open cursor q)) s session reply sound good = state_good (step.opened s session cursor q) s good (opened_good s session cursor q good)
next_good (Ok (asked.Close cursor)) s session reply sound good = state_good (step.closed s session cursor) s good (closed_good s session cursor good)

after_good : (s : State) (es : List Entry) → IsSound s → Good (database s) → Good (database (after_from s es))
after_good s [] sound good = good
after_good s (e ∷ es) sound good = after_good (stepped s e) es (stepped_sound s e sound) (next_good (step.understood s.schema (statement_of e.text)) s e.session e.reply sound good)

empty_good : Good (database empty_state)
empty_good = record { unique = tt; rises = tt }

pub stays_unique : StaysUnique
stays_unique history =
    let s = after_from empty_state history in
    let good = after_good empty_state history empty_sound empty_good in
    each_in (IfUnique (database s).rows (database s).active) (λ (i : IndexDef). i.unique ≡ true → KeepsApart (database s) i) (database s).indexes good.unique
    (λ i h old unique. tells (database s) i (old unique))
