-- The first rival of a row is found by look-ups in the three places.
use Rattle.std.proofs.Common.{◌≡◌, ℕ, List, [], ◌∷◌, ◌++◌, Bool, true, false, not, ◌&&◌, ◌==◌, cond, Option, Some, None, Result, Ok, inl, inr, refl, ap, sym, ◌∙◌, find, filter, map}
use Rattle.std.proofs.lemmas.Bool.{cases_Bool}
use Rattle.std.specs.List.{flat_map, list_any}
use Rattle.std.specs.Option.{option_map}
use Rattle.std.proofs.Math.Bool.{and-false, and_comm}
use Rattle.rv_value.specs.declared.value.Value.{Value}
use Rattle.rv_value.specs.declared.record.Record.{Record}
use Rattle.rv_value.specs.declared.record.RowNo.{RowNo}
use Rattle.rv_rows.specs.declared.changes.Change.{Change}
use Rattle.rv_rows.specs.Changes.{rows_with_changes, touches, with_changes}
use Rattle.rv_lang.specs.declared.reply.Refusal.{Refusal}
use Rattle.rv_lang.specs.declared.reply.Refusal.TheVariants.{Duplicate}
use Rattle.rv_lang.specs.declared.reply.Rival.{Rival}
use Rattle.rv_lang.specs.declared.reply.Rival.TheVariants.{Commit, Txn, View}
use Rattle.rv_catalog.specs.declared.def.IndexDef.{IndexDef}
use Rattle.rv_catalog.specs.Answers.{◌>>=◌, all_pass}
use Rattle.rv_catalog.proofs.Steps.{pass_same}
use Rattle.rv_reader.specs.Shown.{Shown}
use Rattle.rv_model.specs.declared.transactions.Transaction.{Transaction}
use Rattle.rv_model.specs.declared.transactions.Transactions.{Transactions}
use Rattle.rv_model.specs.Rivals.{Neighbour, all_alone, alone, has_key, is_null, is_rival, key_of, placed, rows_left, rows_written, unique_over, written_by_other}
use Rattle.rv_model.specs.Step.{others}
use Rattle.rv_model.specs.Transactions.{refuse_at, touched_by}
use Rattle.rv_rivals.specs.Lookups.{all_none, first_equal_to, first_rival, first_some, first_with, neighbours_in, other_than, shown_at, touching, written_first}
use Rattle.rv_rivals.specs.Points.{lowest_with}
use Rattle.rv_rivals.proofs.Finding.{find_same}
use Rattle.rv_rivals.proofs.Numbers.{none_written}

-- A row with NULL in its key has no rival.

not_rival : (columns : List ℕ) (r : Record) (n : Record) → list_any is_null (key_of columns r.values) ≡ true → is_rival columns r n ≡ false
not_rival columns r n null = rw null (and-false (not (n.row.0 == r.row.0)))

none_found : (p : Neighbour → Bool) (near : List Neighbour) → ((n : Neighbour) → p n ≡ false) → find p near ≡ None
none_found p [] h = refl
none_found p (n ∷ near) h = rw (h n) (none_found p near h)

pub null_alone : (columns : List ℕ) (r : Record) (near : List Neighbour) → list_any is_null (key_of columns r.values) ≡ true → first_rival columns r near ≡ None
null_alone columns r near null = ap (option_map (λ (n : Neighbour). Duplicate n.row.row n.at)) (none_found (λ (n : Neighbour). is_rival columns r n.row) near (λ n. not_rival columns r n.row null))

-- Of a row without NULL.

abbrev shown : Neighbour → Refusal
shown n = Duplicate n.row.row n.at

rival_is : (columns : List ℕ) (r n : Record) → list_any is_null (key_of columns r.values) ≡ false → is_rival columns r n ≡ (has_key columns (key_of columns r.values) n && other_than r.row.0 n.row.0)
rival_is columns r n whole = rw whole (and_comm (not (n.row.0 == r.row.0)) (has_key columns (key_of columns r.values) n))

-- rows that stand somewhere
found_placed : (at : RowNo → Rival) (p : Record → Bool) (rows : List Record) → option_map shown (find (λ (n : Neighbour). p n.row) (placed (λ (r : Record). at r.row) rows)) ≡ shown_at at (option_map (λ (r : Record). r.row) (find p rows))
found_placed at p [] = refl
found_placed at p (r ∷ rows) = elim (cases_Bool (p r)) [ inl t ↦ rw t refl | inr f ↦ rw f (found_placed at p rows) ]

in_place : (columns : List ℕ) (r : Record) (at : RowNo → Rival) (rows : List Record) → list_any is_null (key_of columns r.values) ≡ false
    → option_map shown (find (λ (n : Neighbour). is_rival columns r n.row) (placed (λ (s : Record). at s.row) rows)) ≡ shown_at at (lowest_with columns (key_of columns r.values) (other_than r.row.0) rows)
in_place columns r at rows whole =
    found_placed at (is_rival columns r) rows
    ∙ ap (λ o. shown_at at (option_map (λ (s : Record). s.row) o)) (find_same (is_rival columns r) (λ n. has_key columns (key_of columns r.values) n && other_than r.row.0 n.row.0) rows (λ n. rival_is columns r n whole))

-- one place behind another
found_joined : (p : Neighbour → Bool) (xs ys : List Neighbour) → option_map shown (find p (xs ++ ys)) ≡ first_some (option_map shown (find p xs)) (option_map shown (find p ys))
found_joined p [] ys = refl
found_joined p (x ∷ xs) ys = elim (cases_Bool (p x)) [ inl t ↦ rw t refl | inr f ↦ rw f (found_joined p xs ys) ]

-- the other transactions, and those of them that have changed rows of the table
in_others : (columns : List ℕ) (r : Record) (table : ℕ) (ts : List Transaction) → list_any is_null (key_of columns r.values) ≡ false
    → option_map shown (find (λ (n : Neighbour). is_rival columns r n.row) (flat_map (written_by_other table) (map {B = ℕ × List Change} (λ (t : Transaction). (t.number, t.changes)) ts))) ≡ written_first columns (key_of columns r.values) r.row.0 table ts
in_others columns r table [] whole = refl
in_others columns r table (t ∷ ts) whole =
    found_joined (λ (n : Neighbour). is_rival columns r n.row) (placed (λ (s : Record). Txn t.number) (rows_written table t.changes)) (flat_map (written_by_other table) (map {B = ℕ × List Change} (λ (u : Transaction). (u.number, u.changes)) ts))
    ∙ ap (λ o. first_some o (option_map shown (find (λ (n : Neighbour). is_rival columns r n.row) (flat_map (written_by_other table) (map {B = ℕ × List Change} (λ (u : Transaction). (u.number, u.changes)) ts))))) (in_place columns r (λ row. Txn t.number) (rows_written table t.changes) whole)
    ∙ ap (first_some (shown_at (λ row. Txn t.number) (lowest_with columns (key_of columns r.values) (other_than r.row.0) (rows_written table t.changes)))) (in_others columns r table ts whole)

those_touching : (columns : List ℕ) (key : List Value) (row table session : ℕ) (active : List Transaction)
    → written_first columns key row table (filter (λ (t : Transaction). not (t.session == session)) active) ≡ written_first columns key row table (touching table session active)
those_touching columns key row table session [] = refl
those_touching columns key row table session (t ∷ ts) =
    let rest = those_touching columns key row table session ts in
    elim (cases_Bool (not (t.session == session))) [
      | inl other ↦ elim (cases_Bool (touches table t.changes)) [
        | inl some ↦ rw (other, some) (ap (first_some (shown_at (λ n. Txn t.number) (lowest_with columns key (other_than row) (rows_written table t.changes)))) rest)
        | inr none ↦ rw (other, none) (ap (λ o. first_some (shown_at (λ n. Txn t.number) o) (written_first columns key row table (filter (λ (u : Transaction). not (u.session == session)) ts))) (none_written columns key table row t.changes none) ∙ rest)
      ]
      | inr own ↦ rw own rest
    ]

-- THE FIRST RIVAL, in the order of the places
pub first_found : (columns : List ℕ) (r : Record) (table session : ℕ) (seen left : List Record) (written_by : ℕ → ℕ) (active : List Transaction) → list_any is_null (key_of columns r.values) ≡ false
    → first_rival columns r (placed (λ (s : Record). View) seen ++ placed (λ (s : Record). Commit (written_by s.row.0)) left ++ flat_map (written_by_other table) (others active session))
    ≡ first_some (shown_at (λ row. View) (lowest_with columns (key_of columns r.values) (other_than r.row.0) seen))
    (first_some (shown_at (λ row. Commit (written_by row.0)) (lowest_with columns (key_of columns r.values) (other_than r.row.0) left))
    (written_first columns (key_of columns r.values) r.row.0 table (touching table session active)))
first_found columns r table session seen left written_by active whole =
    let p : Neighbour → Bool = λ n. is_rival columns r n.row in
    let theirs = flat_map (written_by_other table) (others active session) in
    let viewed = placed (λ (s : Record). View) seen in
    let committed = placed (λ (s : Record). Commit (written_by s.row.0)) left in
    found_joined p (viewed ++ committed) theirs
    ∙ ap (λ o. first_some o (option_map shown (find p theirs))) (found_joined p viewed committed)
    ∙ three (option_map shown (find p viewed)) (option_map shown (find p committed)) (option_map shown (find p theirs))
    ∙ ap (λ o. first_some o (first_some (option_map shown (find p committed)) (option_map shown (find p theirs)))) (in_place columns r (λ row. View) seen whole)
    ∙ ap (λ o. first_some (shown_at (λ row. View) (lowest_with columns (key_of columns r.values) (other_than r.row.0) seen)) (first_some o (option_map shown (find p theirs)))) (in_place columns r (λ row. Commit (written_by row.0)) left whole)
    ∙ ap (λ o. first_some (shown_at (λ row. View) (lowest_with columns (key_of columns r.values) (other_than r.row.0) seen)) (first_some (shown_at (λ row. Commit (written_by row.0)) (lowest_with columns (key_of columns r.values) (other_than r.row.0) left)) o))
    (in_others columns r table (filter (λ (t : Transaction). not (t.session == session)) active) whole ∙ those_touching columns (key_of columns r.values) r.row.0 table session active)
  where
    three : (a b c : Option Refusal) → first_some (first_some a b) c ≡ first_some a (first_some b c)
    three None b c = refl
    three (Some x) b c = refl

-- What is found by look-ups is what the definition shows, for each row and index.

pub found_is : (shown : Shown) (txns : Transactions) (own : Transaction) (table : ℕ) (new : List Change) (columns : List ℕ) (r : Record)
    → first_equal_to shown (touched_by txns.touched table) columns (key_of columns r.values) r.row.0 table own new (touching table own.session txns.active) ≡ first_rival columns r (neighbours_in shown txns own table new)
found_is shown txns own table new columns r =
    let found = first_with shown (touched_by txns.touched table) columns (key_of columns r.values) r.row.0 table own new (touching table own.session txns.active) in
    elim (cases_Bool (list_any is_null (key_of columns r.values))) [
      | inl null ↦ ap (λ b. cond b None found) null ∙ sym (null_alone columns r (neighbours_in shown txns own table new) null)
      | inr whole ↦ ap (λ b. cond b None found) whole ∙ sym (first_found columns r table own.session (rows_with_changes table (with_changes new own.changes) (shown.rows table own.base)) (rows_left table (with_changes new own.changes) (shown.rows table shown.newest)) (touched_by txns.touched table) txns.active whole)
    ]

refused_same : {A : Type 0} (o : Option A) (f : A → Refusal) → refuse_at (option_map f o) (λ (refusal : Refusal). refusal) ≡ refuse_at o f
refused_same None f = refl
refused_same (Some x) f = refl

all_passing : {A B : Type 0} (f : B → Result (Unit {0}) Refusal) (h : A → Result (Unit {0}) Refusal) (g : A → B) (xs : List A) → ((x : A) → f (g x) ≡ h x) → all_pass f (map g xs) ≡ all_pass h xs
all_passing f h g [] same = refl
all_passing f h g (x ∷ xs) same = λ i. same x i >>= (λ passed. all_passing f h g xs same i)

-- THE TEST OF ALL ROWS
pub all_are : (shown : Shown) (txns : Transactions) (own : Transaction) (table : ℕ) (new : List Change) (indexes : List IndexDef) (rows : List Record)
    → all_none (λ (r : Record) (columns : List ℕ). first_equal_to shown (touched_by txns.touched table) columns (key_of columns r.values) r.row.0 table own new (touching table own.session txns.active)) (map (λ (d : IndexDef). d.columns) indexes) rows
    ≡ all_alone indexes (neighbours_in shown txns own table new) rows
all_are shown txns own table new indexes rows = pass_same _ _ (λ (r : Record).
    all_passing _ (alone (neighbours_in shown txns own table new) r) (λ (d : IndexDef). d.columns) indexes (λ d.
    ap (λ o. refuse_at o (λ (refusal : Refusal). refusal)) (found_is shown txns own table new d.columns r)
    ∙ refused_same (find (λ (n : Neighbour). is_rival d.columns r n.row) (neighbours_in shown txns own table new)) (λ (n : Neighbour). Duplicate n.row.row n.at))) rows

-- without a unique index all pass
pub none_unique : (near : List Neighbour) (rows : List Record) → all_alone [] near rows ≡ Ok tt
none_unique near [] = refl
none_unique near (r ∷ rows) = none_unique near rows

pub none_over : (table : ℕ) (indexes : List IndexDef) → list_any (λ (d : IndexDef). d.unique && (d.table == table)) indexes ≡ false → unique_over table indexes ≡ []
none_over table [] none = refl
none_over table (d ∷ ds) none = elim (cases_Bool (d.unique && (d.table == table))) [
  | inl t ↦ (let no = rw t at none in cc)
  | inr f ↦ (let rest = rw f at none in rw f (none_over table ds rest))
]

-- what was tested beside a transaction is what the definition tests
pub assembled : (shown : Shown) (txns : Transactions) (own near_own : Transaction) (table near_table : ℕ) (new : List Change) (indexes : List IndexDef) (theirs : List Transaction) (columns : List (List ℕ)) → near_table ≡ table → near_own ≡ own
    → theirs ≡ touching table own.session txns.active → columns ≡ map (λ (d : IndexDef). d.columns) (unique_over table indexes)
    → all_none (λ (r : Record) (cs : List ℕ). first_equal_to shown (touched_by txns.touched near_table) cs (key_of cs r.values) r.row.0 near_table near_own new theirs) columns (rows_written near_table new)
    ≡ all_alone (unique_over table indexes) (neighbours_in shown txns own table new) (rows_written table new)
assembled shown txns own near_own table near_table new indexes theirs columns tables owns others_are are =
    (λ i. all_none (λ (r : Record) (cs : List ℕ). first_equal_to shown (touched_by txns.touched (tables i)) cs (key_of cs r.values) r.row.0 (tables i) (owns i) new (others_are i)) (are i) (rows_written (tables i) new))
    ∙ all_are shown txns own table new (unique_over table indexes) (rows_written table new)
