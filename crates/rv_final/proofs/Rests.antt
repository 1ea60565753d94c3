-- A rest that is a filter by a test on row numbers.
use Rattle.std.proofs.Common.{◌≡◌, ℕ, ◌≤◌, List, [], ◌∷◌, Bool, true, false, not, cond, ◌&&◌, ◌||◌, refl, ap, sym, ◌∙◌, arith, subst, Some, None, Option, nat_eq, nat_lt, inl, inr, ◌==◌}
use Rattle.std.specs.List.{list_all, AllByRecursion}
use Rattle.std.proofs.lemmas.Bool.{cases_Bool, and_parts, or_right, and_from, and_right, eqb-true}
use Rattle.std.proofs.lemmas.Bool.Decides.{nat_tests}
use Rattle.rv_value.proofs.Tests.{same_number}
use Rattle.rv_reader.proofs.Rows.{found_row}
use Rattle.rv_value.specs.declared.record.Record.{Record}
use Rattle.rv_rows.specs.Rows.{Ascend, comes_below}
use Rattle.rv_restrict.specs.declared.atom.Atom.{Atom}
use Rattle.rv_restrict.specs.Truth.{qualifies}
use Rattle.rv_reader.specs.Tables.{row_at}
use Rattle.rv_final.specs.Rest.{rest_by, qualifies_at, Agree, AgreesIn, IsWide, TakesOut, Marks, has_row}

here_qualifies : (only : List (List Atom)) (r : Record) (rows : List Record) → qualifies only r.values ≡ true → qualifies_at only (r ∷ rows) r.row.0 ≡ true
here_qualifies only r rows p = first _ _ _ (same_number r.row.0) p
  where
    first : (a b c : Bool) → a ≡ true → b ≡ true → ((a && b) || c) ≡ true
    first a b c h i = grind arith

pub later_qualifies : (only : List (List Atom)) (r : Record) (rows : List Record) (n : ℕ) → qualifies_at only rows n ≡ true → qualifies_at only (r ∷ rows) n ≡ true
later_qualifies only r rows n q = or_right _ _ q

-- tests that agree on the rows that qualify leave the same rest
pub same_rest : (only : List (List Atom)) (rows : List Record) (old new : ℕ → Bool) → Agree only rows old new → rest_by new only rows ≡ rest_by old only rows
same_rest only [] old new a = refl
same_rest only (r ∷ rows) old new a =
    let tail = same_rest only rows old new (λ n q. a n (later_qualifies only r rows n q)) in
    elim (qualifies only r.values) as (λ b. qualifies only r.values ≡ b → cond (b && new r.row.0) (r ∷ rest_by new only rows) (rest_by new only rows) ≡ cond (b && old r.row.0) (r ∷ rest_by old only rows) (rest_by old only rows)) [
      | true ↦ λ p. ap (λ (v : Bool). cond v (r ∷ rest_by new only rows) (rest_by new only rows)) (a r.row.0 (here_qualifies only r rows p)) ∙ ap (λ (x : List Record). cond (old r.row.0) (r ∷ x) x) tail
      | false ↦ λ p. tail
    ] refl

-- none is left
pub no_rest : (only : List (List Atom)) (rows : List Record) (left : ℕ → Bool) → Agree only rows (λ n. false) left → rest_by left only rows ≡ []
no_rest only rows left a = same_rest only rows (λ n. false) left a ∙ none only rows
  where
    none : (only : List (List Atom)) (rows : List Record) → rest_by (λ n. false) only rows ≡ []
    none only [] = refl
    none only (r ∷ rows) = elim (qualifies only r.values) as (λ b. cond (b && false) (r ∷ rest_by (λ n. false) only rows) (rest_by (λ n. false) only rows) ≡ []) [ true ↦ none only rows | false ↦ none only rows ]

-- Rows ascend, each number once.

pub below_all : (r : Record) (rows : List Record) (n : ℕ) → n ≤ r.row.0 → list_all (comes_below r) rows ≡ true → has_row n rows ≡ false
below_all r [] n h a = refl
below_all r (x ∷ rows) n h a =
    let parts = and_parts (comes_below r x) (list_all (comes_below r) rows) a in
    let first : nat_lt r.row.0 x.row.0 ≡ true = parts.0 in
    let rest = below_all r rows n h parts.1 in
    grind (arith, nat_tests)

no_row : (only : List (List Atom)) (rows : List Record) (n : ℕ) → has_row n rows ≡ false → qualifies_at only rows n ≡ false
no_row only [] n h = refl
no_row only (r ∷ rows) n h =
    let here : nat_eq n r.row.0 ≡ false = grind arith in
    let tail : has_row n rows ≡ false = grind arith in
    let rest = no_row only rows n tail in
    out _ _ _ here rest
  where
    out : (a b c : Bool) → a ≡ false → c ≡ false → ((a && b) || c) ≡ false
    out a b c h i = grind arith

-- whether a row qualifies is told by the record that a look-up finds
pub told_by : (only : List (List Atom)) (rows : List Record) (k : ℕ) (x : Record) → Ascend rows → row_at rows k ≡ Some x → qualifies_at only rows k ≡ qualifies only x.values
told_by only [] k x a f = absurd (cc)
told_by only (r ∷ rows) k x a f =
    elim (r.row.0 == k) as (λ b. (r.row.0 == k) ≡ b → cond b (Some r) (row_at rows k) ≡ Some x → qualifies_at only (r ∷ rows) k ≡ qualifies only x.values) [
      | true ↦ λ e f.
          let same : r ≡ x = cc in
          let is : nat_eq k r.row.0 ≡ true = grind (arith, nat_tests) in
          let low : k ≤ r.row.0 = grind (arith, nat_tests) in
          let none = no_row only rows k (below_all r rows k low a.0) in
          first _ _ _ is none ∙ ap (λ (y : Record). qualifies only y.values) same
      | false ↦ λ e f.
          let other : nat_eq k r.row.0 ≡ false = grind (arith, nat_tests) in
          later _ _ _ other ∙ told_by only rows k x a.1 f
    ] refl f
  where
    first : (a b c : Bool) → a ≡ true → c ≡ false → ((a && b) || c) ≡ b
    first a b c h i = grind arith

    later : (a b c : Bool) → a ≡ false → ((a && b) || c) ≡ c
    later a b c h = grind arith

pub not_there : (only : List (List Atom)) (rows : List Record) (k : ℕ) → row_at rows k ≡ None → qualifies_at only rows k ≡ false
not_there only [] k f = refl
not_there only (r ∷ rows) k f =
    elim (r.row.0 == k) as (λ b. (r.row.0 == k) ≡ b → cond b (Some r) (row_at rows k) ≡ None → qualifies_at only (r ∷ rows) k ≡ false) [
      | true ↦ λ e f. absurd (cc)
      | false ↦ λ e f.
          let other : nat_eq k r.row.0 ≡ false = grind (arith, nat_tests) in
          out _ _ _ other (not_there only rows k f)
    ] refl f
  where
    out : (a b c : Bool) → a ≡ false → c ≡ false → ((a && b) || c) ≡ false
    out a b c h i = grind arith

-- a row that qualifies is found
pub some_row : (only : List (List Atom)) (rows : List Record) (n : ℕ) → qualifies_at only rows n ≡ true → (x : Record) × (row_at rows n ≡ Some x)
some_row only rows n q = by (row_at rows n) refl
  where
    by : (o : Option Record) → row_at rows n ≡ o → (x : Record) × (row_at rows n ≡ Some x)
    by None e = absurd (let bad : true ≡ false = sym q ∙ not_there only rows n e in cc)
    by (Some x) e = (x, e)

-- each row is found by its number
behind_found : (r : Record) (rows more : List Record) → list_all (comes_below r) rows ≡ true → AllByRecursion (λ (x : Record). row_at more x.row.0 ≡ Some x) rows → AllByRecursion (λ (x : Record). row_at (r ∷ more) x.row.0 ≡ Some x) rows
behind_found r [] more h a = tt
behind_found r (x ∷ rows) more h a =
    let parts = and_parts (comes_below r x) (list_all (comes_below r) rows) h in
    let other : (r.row.0 == x.row.0) ≡ false = apart r.row.0 x.row.0 parts.0 in
    (ap (λ (b : Bool). cond b (Some r) (row_at more x.row.0)) other ∙ a.0, behind_found r rows more parts.1 a.1)
  where
    apart : (a b : ℕ) → nat_lt a b ≡ true → (a == b) ≡ false
    apart a b h = grind (arith, nat_tests)

pub rows_found : (rows : List Record) → Ascend rows → AllByRecursion (λ (x : Record). row_at rows x.row.0 ≡ Some x) rows
rows_found [] a = tt
rows_found (r ∷ rows) a = (ap (λ (b : Bool). cond b (Some r) (row_at rows r.row.0)) (same_number r.row.0), behind_found r rows rows a.0 (rows_found rows a.1))

-- One record is taken out of the rest.

without_agree : (only : List (List Atom)) (rows : List Record) (old new : ℕ → Bool) (k : ℕ) → has_row k rows ≡ false → Agree only rows (λ n. old n && not (nat_eq n k)) new → Agree only rows old new
without_agree only rows old new k none a n q =
    elim (cases_Bool (nat_eq n k)) [
      | inl here ↦ absurd (let same : n ≡ k = grind (arith, nat_tests) in let no = no_row only rows k none in let bad : true ≡ false = sym q ∙ ap (qualifies_at only rows) same ∙ no in cc)
      | inr other ↦ a n q ∙ keeps (old n) (nat_eq n k) other
    ]
  where
    keeps : (b c : Bool) → c ≡ false → (b && not c) ≡ b
    keeps b c h = grind arith

pub takes_out : (need : List ℕ) (only : List (List Atom)) (rows : List Record) (old new : ℕ → Bool) (r taken : Record) (k : ℕ) → Ascend rows → row_at rows k ≡ Some taken → r.row.0 ≡ taken.row.0 → qualifies only taken.values ≡ true → old k ≡ true → AgreesIn need r taken → IsWide need r taken → Agree only rows (λ n. old n && not (nat_eq n k)) new → TakesOut need r (rest_by old only rows) (rest_by new only rows)
takes_out need only [] old new r taken k asc f row p l ag w a = absurd (cc)
takes_out need only (x ∷ rows) old new r taken k asc f row p l ag w a =
    elim (x.row.0 == k) as (λ b. (x.row.0 == k) ≡ b → cond b (Some x) (row_at rows k) ≡ Some taken → TakesOut need r (rest_by old only (x ∷ rows)) (rest_by new only (x ∷ rows))) [
      | true ↦ λ e f.
          let same : x ≡ taken = cc in
          let is : x.row.0 ≡ k = eqb-true _ _ e in
          let yes : (qualifies only x.values && old x.row.0) ≡ true = and_from _ _ (ap (λ (y : Record). qualifies only y.values) same ∙ p) (ap old is ∙ l) in
          let out : new x.row.0 ≡ false = a x.row.0 (here_qualifies only x rows (ap (λ (y : Record). qualifies only y.values) same ∙ p)) ∙ is_out _ _ (ap (λ (m : ℕ). nat_eq m k) is ∙ same_number k) in
          let no : (qualifies only x.values && new x.row.0) ≡ false = and_right _ _ out in
          let low : k ≤ x.row.0 = omega (arith, is) in
          let tail = same_rest only rows old new (without_agree only rows old new k (below_all x rows k low asc.0) (λ n q. a n (later_qualifies only x rows n q))) in
          record {
            front = [];
            taken = taken;
            behind = rest_by old only rows;
            before = ap (λ (v : Bool). cond v (x ∷ rest_by old only rows) (rest_by old only rows)) yes ∙ ap (λ (y : Record). y ∷ rest_by old only rows) same;
            after = ap (λ (v : Bool). cond v (x ∷ rest_by new only rows) (rest_by new only rows)) no ∙ tail;
            row = row;
            agrees = ag;
            wide = w;
          }
      | false ↦ λ e f.
          let deeper = takes_out need only rows old new r taken k asc.1 f row p l ag w (λ n q. a n (later_qualifies only x rows n q)) in
          elim (qualifies only x.values) as (λ b. qualifies only x.values ≡ b → TakesOut need r (cond (b && old x.row.0) (x ∷ rest_by old only rows) (rest_by old only rows)) (cond (b && new x.row.0) (x ∷ rest_by new only rows) (rest_by new only rows))) [
            | true ↦ λ q.
                let same : new x.row.0 ≡ old x.row.0 = a x.row.0 (here_qualifies only x rows q) ∙ keeps _ _ (unequal _ _ e) in
                subst (λ (v : Bool). TakesOut need r (cond (old x.row.0) (x ∷ rest_by old only rows) (rest_by old only rows)) (cond v (x ∷ rest_by new only rows) (rest_by new only rows))) (sym same)
                (elim (old x.row.0) as (λ v. TakesOut need r (cond v (x ∷ rest_by old only rows) (rest_by old only rows)) (cond v (x ∷ rest_by new only rows) (rest_by new only rows))) [
                  | true ↦ record {
                    front = x ∷ deeper.front;
                    taken = deeper.taken;
                    behind = deeper.behind;
                    before = ap (λ (l : List Record). x ∷ l) deeper.before;
                    after = ap (λ (l : List Record). x ∷ l) deeper.after;
                    row = deeper.row;
                    agrees = deeper.agrees;
                    wide = deeper.wide;
                  }
                  | false ↦ deeper
                ])
            | false ↦ λ q. deeper
          ] refl
    ] refl f
  where
    unequal : (a b : ℕ) → (a == b) ≡ false → nat_eq a b ≡ false
    unequal a b e = grind (arith, nat_tests)

    is_out : (a b : Bool) → b ≡ true → (a && not b) ≡ false
    is_out a b h = grind arith

    keeps : (b c : Bool) → c ≡ false → (b && not c) ≡ b
    keeps b c h = grind arith

pub marks_out : (need : List ℕ) (only : List (List Atom)) (rows : List Record) (r : Record) (old new : ℕ → Bool) → Ascend rows → Marks need only rows r old new → TakesOut need r (rest_by old only rows) (rest_by new only rows)
marks_out need only rows r old new asc m = takes_out need only rows old new r m.taken r.row.0 asc m.there (sym (found_row rows r.row.0 m.taken m.there)) m.qualifies m.left m.agrees m.wide m.others
