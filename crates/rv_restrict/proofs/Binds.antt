-- A bound restriction has the truth of the groups that it takes, and names only their columns.
use Rattle.std.proofs.Common.{◌≡◌, ℕ, List, [], ◌∷◌, ◌++◌, Bool, true, false, cond, not, ◌&&◌, ◌||◌, ◌==◌, length, map, ◌≤◌, ◌<◌, refl, sym, ap, arith}
use Rattle.std.specs.List.{slice_index_or}
use Rattle.std.proofs.lemmas.Bool.Decides.{nat_tests}
use Rattle.std.specs.Ordering.{ordering_reverse}
use Rattle.std.specs.declared.cmp.Ordering.{Ordering}
use Rattle.std.specs.declared.cmp.Ordering.TheVariants.{Less, Equal, Greater}
use Rattle.std.proofs.lemmas.List.{get_or_append_left}
use Rattle.std.proofs.Math.Seq.{get_or-append_seam}
use Rattle.std.proofs.lemmas.Bool.{and_from}
use Rattle.std.specs.Cmp.{first_so, second_so}
use Rattle.std.proofs.Math.Bool.{or_comm}
use Rattle.rv_value.specs.declared.value.Value.{Value}
use Rattle.rv_value.specs.declared.value.Value.TheVariants.{Null}
use Rattle.rv_value.specs.Order.{value_cmp}
use Rattle.rv_value.specs.Orders.{value_cmp_total}
use Rattle.rv_restrict.specs.declared.atom.ColRef.{ColRef}
use Rattle.rv_restrict.specs.declared.atom.Op.{Op}
use Rattle.rv_restrict.specs.declared.atom.Op.TheVariants.{Eq, Ne, Lt, Le, Gt, Ge}
use Rattle.rv_restrict.specs.declared.atom.Operand.{Operand}
use Rattle.rv_restrict.specs.declared.atom.Operand.TheVariants.{Literal, Column}
use Rattle.rv_restrict.specs.declared.atom.Atom.{Atom}
use Rattle.rv_restrict.specs.declared.atom.Atom.TheVariants.{Compare, Between, Among, IsNull, Starts, Const}
use Rattle.rv_restrict.specs.Truth.{answers, compared, is_null, atom_truth, group_truth, truth_by, truth, operand_names_only, atom_names_only, group_names_only, names_only, row_reads}
use Rattle.rv_restrict.specs.Bind.{rows_reads, rows_has, truth_over, is_below, outer_fits, bound, taken, home, turned, bound_columns, bound_atom, moved, atom_place, group_place, passes_at, passes_home}
use Rattle.rv_restrict.proofs.Tests.{and_true}
use Rattle.rv_restrict.proofs.Names.{atom_same}

below_length : (place : ℕ) (outer : List (List Value)) (c : ColRef) → length outer ≡ place → is_below place c ≡ true → c.place < length outer
below_length place outer c n b = grind (arith, nat_tests)

-- a column of a lower place that is there wherever its place is lower is there
fits_below : (place : ℕ) (outer : List (List Value)) (c : ColRef) → outer_fits place outer c ≡ true → is_below place c ≡ true → rows_has outer c ≡ true
fits_below place outer c f b = grind (arith)

operand_both : (place : ℕ) (outer : List (List Value)) (o : Operand) → operand_names_only (outer_fits place outer) o ≡ true → operand_names_only (is_below place) o ≡ true → operand_names_only (rows_has outer) o ≡ true
operand_both place outer (Literal v) f b = refl
operand_both place outer (Column c) f b = fits_below place outer c f b

pub names_both : (place : ℕ) (outer : List (List Value)) (a : Atom) → atom_names_only (outer_fits place outer) a ≡ true → atom_names_only (is_below place) a ≡ true → atom_names_only (rows_has outer) a ≡ true
names_both place outer (Compare c op o) f b = grind (arith, fits_below place outer c, operand_both place outer o)
names_both place outer (Between c low high) f b = fits_below place outer c f b
names_both place outer (Among c list) f b = fits_below place outer c f b
names_both place outer (IsNull c n) f b = fits_below place outer c f b
names_both place outer (Starts c text) f b = fits_below place outer c f b
names_both place outer (Const t) f b = refl

-- A comparison turned round.
answers_turned : (op : Op) (o : Ordering) → answers op (ordering_reverse o) ≡ answers (turned op) o
answers_turned Eq Less = refl
answers_turned Eq Equal = refl
answers_turned Eq Greater = refl
answers_turned Ne Less = refl
answers_turned Ne Equal = refl
answers_turned Ne Greater = refl
answers_turned Lt Less = refl
answers_turned Lt Equal = refl
answers_turned Lt Greater = refl
answers_turned Le Less = refl
answers_turned Le Equal = refl
answers_turned Le Greater = refl
answers_turned Gt Less = refl
answers_turned Gt Equal = refl
answers_turned Gt Greater = refl
answers_turned Ge Less = refl
answers_turned Ge Equal = refl
answers_turned Ge Greater = refl

pub compared_turned : (x : Value) (op : Op) (y : Value) → compared x op y ≡ compared y (turned op) x
compared_turned x op y = rw ((value_cmp_total).antisymm x y, answers_turned op (value_cmp y x), or_comm (is_null x) (is_null y)) refl

-- Over the outer rows and the row of the place, a column is read in the outer rows where it is below, else in the row.
placed : (place : ℕ) (outer : List (List Value)) (row : List Value) (c : ColRef) (b : Bool) → length outer ≡ place → c.place ≤ place → is_below place c ≡ b → rows_reads (outer ++ row ∷ []) c ≡ cond b (rows_reads outer c) (row_reads row (home c))
placed place outer row c true n h e = let k : c.place < length outer = grind (arith, nat_tests) in ap (λ r. slice_index_or r c.column Null) (get_or_append_left outer (row ∷ []) [] c.place k)
placed place outer row c false n h e = let k : c.place ≡ length outer = grind (arith, nat_tests) in rw k (ap (λ r. slice_index_or r c.column Null) (get_or-append_seam outer row [] []))

columns_truth : (place : ℕ) (outer : List (List Value)) (row : List Value) (c : ColRef) (op : Op) (d : ColRef) (b e : Bool) → length outer ≡ place → c.place ≤ place → d.place ≤ place → is_below place c ≡ b → is_below place d ≡ e → (b && e) ≡ false → atom_truth (row_reads row) (bound_columns place outer c op d) ≡ compared (rows_reads (outer ++ row ∷ []) c) op (rows_reads (outer ++ row ∷ []) d)
columns_truth place outer row c op d true true n hc hd p q not_both = absurd (cc)
columns_truth place outer row c op d true false n hc hd p q not_both = rw (p, placed place outer row c true n hc p, placed place outer row d false n hd q) (sym (compared_turned (rows_reads outer c) op (row_reads row (home d))))
columns_truth place outer row c op d false true n hc hd p q not_both = rw (p, q, placed place outer row c false n hc p, placed place outer row d true n hd q) refl
columns_truth place outer row c op d false false n hc hd p q not_both = rw (p, q, placed place outer row c false n hc p, placed place outer row d false n hd q) refl

moved_truth : (place : ℕ) (outer : List (List Value)) (row : List Value) (a : Atom) → length outer ≡ place → atom_place a ≤ place → atom_names_only (is_below place) a ≡ false → atom_truth (row_reads row) (moved place outer a) ≡ atom_truth (rows_reads (outer ++ row ∷ [])) a
moved_truth place outer row (Compare c op (Literal v)) n h f = let f' : is_below place c ≡ false = and_true (is_below place c) f in rw (placed place outer row c false n (omega arith) f') refl
moved_truth place outer row (Compare c op (Column d)) n h f = columns_truth place outer row c op d (is_below place c) (is_below place d) n (omega arith) (omega arith) refl refl f
moved_truth place outer row (Between c low high) n h f = rw (placed place outer row c false n h f) refl
moved_truth place outer row (Among c list) n h f = rw (placed place outer row c false n h f) refl
moved_truth place outer row (IsNull c negated) n h f = rw (placed place outer row c false n h f) refl
moved_truth place outer row (Starts c text) n h f = rw (placed place outer row c false n h f) refl
moved_truth place outer row (Const t) n h f = refl

atom_bound : (place : ℕ) (outer : List (List Value)) (row : List Value) (a : Atom) → length outer ≡ place → atom_place a ≤ place → atom_truth (row_reads row) (bound_atom place outer a) ≡ atom_truth (rows_reads (outer ++ row ∷ [])) a
atom_bound place outer row a n h = elim (atom_names_only (is_below place) a) as (λ b. atom_names_only (is_below place) a ≡ b → atom_truth (row_reads row) (cond b (Const (atom_truth (rows_reads outer) a)) (moved place outer a)) ≡ atom_truth (rows_reads (outer ++ row ∷ [])) a) [
  | true ↦ λ e. atom_same (rows_reads outer) (rows_reads (outer ++ row ∷ [])) (is_below place) (λ c below. sym (ap (λ r. slice_index_or r c.column Null) (get_or_append_left outer (row ∷ []) [] c.place (below_length place outer c n below)))) a e
  | false ↦ λ e. moved_truth place outer row a n h e
] refl

group_bound : (place : ℕ) (outer : List (List Value)) (row : List Value) (g : List Atom) → length outer ≡ place → group_place g ≤ place → group_truth (row_reads row) (map (bound_atom place outer) g) ≡ group_truth (rows_reads (outer ++ row ∷ [])) g
group_bound place outer row [] n h = refl
group_bound place outer row (a ∷ more) n h = rw (atom_bound place outer row a n (omega arith), group_bound place outer row more n (omega arith)) refl

at_most : (a b : ℕ) → a == b ≡ true → a ≤ b
at_most a b h = grind (arith, nat_tests)

pub bound_truth : (place : ℕ) (outer : List (List Value)) (only : List (List Atom)) (row : List Value) → length outer ≡ place → truth (bound place outer only) row ≡ truth_over (taken place only) (outer ++ row ∷ [])
bound_truth place outer [] row n = refl
bound_truth place outer (g ∷ more) row n = elim (group_place g == place) as (λ b. group_place g == place ≡ b → truth_by (row_reads row) (map (map (bound_atom place outer)) (cond b (g ∷ taken place more) (taken place more))) ≡ truth_by (rows_reads (outer ++ row ∷ [])) (cond b (g ∷ taken place more) (taken place more))) [
  | true ↦ λ e. rw (group_bound place outer row g n (at_most (group_place g) place e), bound_truth place outer more row n) refl
  | false ↦ λ e. bound_truth place outer more row n
] refl

-- The columns of a bound restriction are those of the groups taken that are of the place.
at_place : (place : ℕ) (p : ℕ → Bool) (c : ColRef) → c.place ≤ place → is_below place c ≡ false → passes_at place p c ≡ true → p c.column ≡ true
at_place place p c n b h = let e : (c.place == place) ≡ true = grind (arith, nat_tests) in let k : (not true || p c.column) ≡ true = rw e at h in k

columns_names : (place : ℕ) (outer : List (List Value)) (p : ℕ → Bool) (c : ColRef) (op : Op) (d : ColRef) (b e : Bool) → c.place ≤ place → d.place ≤ place → is_below place c ≡ b → is_below place d ≡ e → (b && e) ≡ false → passes_at place p c ≡ true → passes_at place p d ≡ true → atom_names_only (passes_home p) (bound_columns place outer c op d) ≡ true
columns_names place outer p c op d true true hc hd bc bd not_both pc pd = absurd (cc)
columns_names place outer p c op d true false hc hd bc bd not_both pc pd = rw bc (and_from (p d.column) true (at_place place p d hd bd pd) refl)
columns_names place outer p c op d false true hc hd bc bd not_both pc pd = rw (bc, bd) (and_from (p c.column) true (at_place place p c hc bc pc) refl)
columns_names place outer p c op d false false hc hd bc bd not_both pc pd = rw (bc, bd) (and_from (p c.column) (p d.column) (at_place place p c hc bc pc) (at_place place p d hd bd pd))

moved_names : (place : ℕ) (outer : List (List Value)) (p : ℕ → Bool) (a : Atom) → atom_place a ≤ place → atom_names_only (is_below place) a ≡ false → atom_names_only (passes_at place p) a ≡ true → atom_names_only (passes_home p) (moved place outer a) ≡ true
moved_names place outer p (Compare c op (Literal v)) h f k = and_from (p c.column) true (at_place place p c (omega arith) (and_true (is_below place c) f) (first_so (passes_at place p c) true k)) refl
moved_names place outer p (Compare c op (Column d)) h f k = columns_names place outer p c op d (is_below place c) (is_below place d) (omega arith) (omega arith) refl refl f (first_so (passes_at place p c) (passes_at place p d) k) (second_so (passes_at place p c) (passes_at place p d) k)
moved_names place outer p (Between c low high) h f k = at_place place p c h f k
moved_names place outer p (Among c list) h f k = at_place place p c h f k
moved_names place outer p (IsNull c negated) h f k = at_place place p c h f k
moved_names place outer p (Starts c text) h f k = at_place place p c h f k
moved_names place outer p (Const t) h f k = refl

atom_names : (place : ℕ) (outer : List (List Value)) (p : ℕ → Bool) (a : Atom) → atom_place a ≤ place → atom_names_only (passes_at place p) a ≡ true → atom_names_only (passes_home p) (bound_atom place outer a) ≡ true
atom_names place outer p a h k = elim (atom_names_only (is_below place) a) as (λ b. atom_names_only (is_below place) a ≡ b → atom_names_only (passes_home p) (cond b (Const (atom_truth (rows_reads outer) a)) (moved place outer a)) ≡ true) [
  | true ↦ λ e. refl
  | false ↦ λ e. moved_names place outer p a h e k
] refl

group_names : (place : ℕ) (outer : List (List Value)) (p : ℕ → Bool) (g : List Atom) → group_place g ≤ place → group_names_only (passes_at place p) g ≡ true → group_names_only (passes_home p) (map (bound_atom place outer) g) ≡ true
group_names place outer p [] h k = refl
group_names place outer p (a ∷ more) h k = and_from (atom_names_only (passes_home p) (bound_atom place outer a)) (group_names_only (passes_home p) (map (bound_atom place outer) more)) (atom_names place outer p a (omega arith) (first_so (atom_names_only (passes_at place p) a) (group_names_only (passes_at place p) more) k)) (group_names place outer p more (omega arith) (second_so (atom_names_only (passes_at place p) a) (group_names_only (passes_at place p) more) k))

pub bound_names : (place : ℕ) (outer : List (List Value)) (p : ℕ → Bool) (only : List (List Atom)) → names_only (passes_at place p) (taken place only) ≡ true → names_only (passes_home p) (bound place outer only) ≡ true
bound_names place outer p [] k = refl
bound_names place outer p (g ∷ more) k = elim (group_place g == place) as (λ b. group_place g == place ≡ b → names_only (passes_at place p) (cond b (g ∷ taken place more) (taken place more)) ≡ true → names_only (passes_home p) (map (map (bound_atom place outer)) (cond b (g ∷ taken place more) (taken place more))) ≡ true) [
  | true ↦ λ e t. and_from (group_names_only (passes_home p) (map (bound_atom place outer) g)) (names_only (passes_home p) (bound place outer more)) (group_names place outer p g (at_most (group_place g) place e) (first_so (group_names_only (passes_at place p) g) (names_only (passes_at place p) (taken place more)) t)) (bound_names place outer p more (second_so (group_names_only (passes_at place p) g) (names_only (passes_at place p) (taken place more)) t))
  | false ↦ λ e t. bound_names place outer p more t
] refl k
