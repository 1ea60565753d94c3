-- Rows that agree in what a plan uses have the same offers under them.
use Rattle.std.proofs.Common.{◌≡◌, ℕ, ◌+◌, ◌-◌, ◌≤◌, List, [], ◌∷◌, ◌++◌, filter, length, map, Bool, true, false, cond, refl, ap, sym, ◌∙◌, arith, subst, zero, suc, slice_index_or, replicate}
use Rattle.std.specs.List.{list_any, flat_map}
use Rattle.std.proofs.lemmas.List.{append_assoc, append-nil, replicate_more}
use Rattle.std.proofs.lemmas.Grind.{common_steps}
use Rattle.std.proofs.lemmas.Bool.{or_left, or_right}
use Rattle.rv_value.specs.declared.value.Value.{Value}
use Rattle.rv_value.specs.declared.value.Value.TheVariants.{Null}
use Rattle.rv_value.specs.declared.record.Record.{Record}
use Rattle.rv_restrict.specs.declared.atom.ColRef.{ColRef}
use Rattle.rv_restrict.specs.Bind.{rows_reads, taken}
use Rattle.rv_restrict.specs.Truth.{is_true}
use Rattle.rv_restrict.proofs.Names.{truth_same}
use Rattle.rv_reader.specs.Entries.{column_of}
use Rattle.rv_reader.specs.Shown.{Shown}
use Rattle.rv_join.specs.declared.places.Asked.{Asked}
use Rattle.rv_join.specs.Asking.{asked_uses, col_at, holds, only_names, same_column}
use Rattle.rv_join.specs.Levels.{under, widened}
use Rattle.rv_model.specs.Offering.{picked_over}
use Rattle.rv_join.proofs.Naming.{same_itself, uses_taken}

pub record Alike (a : Asked) (x y : List (List Value)) : Type 0 where
  pub long : length x ≡ length y
  pub same : (c : ColRef) → asked_uses a c ≡ true → rows_reads x c ≡ rows_reads y c

pub alike_turned : (a : Asked) (x y : List (List Value)) → Alike a x y → Alike a y x
alike_turned a x y h = record { long = sym h.long; same = λ c u. sym (h.same c u) }

map_same : (cs : List ColRef) (f g : ColRef → Value) → ((c : ColRef) → list_any (same_column c) cs ≡ true → f c ≡ g c) → map f cs ≡ map g cs
map_same [] f g h = refl
map_same (d ∷ cs) f g h = rw (h d (or_left (same_column d d) (list_any (same_column d) cs) (same_itself d)), map_same cs f g (λ c q. h c (or_right (same_column c d) (list_any (same_column c) cs) q))) refl

pub holds_same : (a : Asked) (place : ℕ) (x y : List (List Value)) → Alike a x y → holds a.only place x ≡ holds a.only place y
holds_same a place x y h = ap is_true (truth_same (rows_reads x) (rows_reads y) (asked_uses a) h.same (taken place a.only) (uses_taken a place))

pub flat_filter_same : {B : Type 0} (xs : List Record) (p q : Record → Bool) (f g : Record → List B) → ((x : Record) → p x ≡ q x) → ((x : Record) → f x ≡ g x) → flat_map f (filter p xs) ≡ flat_map g (filter q xs)
flat_filter_same [] p q f g h i = refl
flat_filter_same {B} (x ∷ xs) p q f g h i =
    let tail = flat_filter_same xs p q f g h i in
    rw (h x) (elim (q x) as (λ b. flat_map f (cond b (x ∷ filter p xs) (filter p xs)) ≡ flat_map g (cond b (x ∷ filter q xs) (filter q xs))) [
      | true ↦ rw (i x, tail) refl
      | false ↦ tail
    ])

reads_more : (a b : List (List Value)) (v : List Value) (n m : ℕ) → length a ≡ length b → slice_index_or (slice_index_or a n []) m Null ≡ slice_index_or (slice_index_or b n []) m Null → slice_index_or (slice_index_or (a ++ v ∷ []) n []) m Null ≡ slice_index_or (slice_index_or (b ++ v ∷ []) n []) m Null
reads_more [] [] v n m e h = refl
reads_more [] (y ∷ b) v n m e h = absurd (omega (arith, e))
reads_more (x ∷ a) [] v n m e h = absurd (omega (arith, e))
reads_more (x ∷ a) (y ∷ b) v zero m e h = h
reads_more (x ∷ a) (y ∷ b) v (suc n) m e h = reads_more a b v n m (omega (arith, e)) h

reads_last : (outer : List (List Value)) (x r : List Value) (n m : ℕ) → (n ≡ length outer → slice_index_or x m Null ≡ slice_index_or r m Null) → slice_index_or (slice_index_or (outer ++ x ∷ []) n []) m Null ≡ slice_index_or (slice_index_or (outer ++ r ∷ []) n []) m Null
reads_last [] x r zero m h = h refl
reads_last [] x r (suc n) m h = refl
reads_last (y ∷ outer) x r zero m h = refl
reads_last (y ∷ outer) x r (suc n) m h = reads_last outer x r n m (λ e. h (ap suc e))

pub alike_more : (a : Asked) (x y : List (List Value)) (v : List Value) → Alike a x y → Alike a (x ++ v ∷ []) (y ++ v ∷ [])
alike_more a x y v h = record {
  long = grind (arith, common_steps, h.long);
  same = λ c u. reads_more x y v c.place c.column h.long (h.same c u);
}

-- the same rows, and a last one that agrees in what is used of its place
pub alike_last : (a : Asked) (outer : List (List Value)) (x r : List Value) → ((n : ℕ) → asked_uses a (col_at (length outer) n) ≡ true → column_of x n ≡ column_of r n) → Alike a (outer ++ x ∷ []) (outer ++ r ∷ [])
alike_last a outer x r agrees = record {
  long = grind (arith, common_steps);
  same = λ c u. reads_last outer x r c.place c.column (λ e. agrees c.column (subst (λ p. asked_uses a (col_at p c.column) ≡ true) e u));
}

column_none : (n c : ℕ) → column_of (replicate n Null) c ≡ Null
column_none zero c = refl
column_none (suc n) zero = refl
column_none (suc n) (suc c) = column_none n c

column_padded : (row : List Value) (n c : ℕ) → column_of (row ++ replicate n Null) c ≡ column_of row c
column_padded [] n c = column_none n c
column_padded (v ∷ row) n zero = refl
column_padded (v ∷ row) n (suc c) = column_padded row n c

pub alike_wide : (a : Asked) (outer : List (List Value)) (width : ℕ) (row : List Value) → Alike a (outer ++ widened width row ∷ []) (outer ++ row ∷ [])
alike_wide a outer width row = alike_last a outer (widened width row) row (λ n u. column_padded row (width - length row) n)

pub under_same : (a : Asked) (shown : Shown) (ts : List ℕ) (x y : List (List Value)) → Alike a x y → under a shown ts x ≡ under a shown ts y
under_same a shown [] x y h =
    let order : picked_over a.order x ≡ picked_over a.order y = map_same a.order (rows_reads x) (rows_reads y) (λ c q. h.same c (or_right (list_any (same_column c) a.returns) _ (or_left (list_any (same_column c) a.order) (only_names c a.only) q))) in
    let values : picked_over a.returns x ≡ picked_over a.returns y = map_same a.returns (rows_reads x) (rows_reads y) (λ c q. h.same c (or_left (list_any (same_column c) a.returns) _ q)) in
    rw (order, values) refl
under_same a shown (t ∷ ts) x y h = rw h.long (flat_filter_same (shown.rows t a.snap) _ _ _ _
    (λ r. holds_same a (length y) _ _ (alike_more a x y r.values h))
    (λ r. under_same a shown ts _ _ (alike_more a x y r.values h)))

-- a row that is wide enough has no NULL behind it
pub wide_itself : (width : ℕ) (row : List Value) → width ≤ length row → widened width row ≡ row
wide_itself width row wide =
    let none : width - length row ≡ 0 = omega (arith, wide) in
    ap (λ n. row ++ replicate n Null) none ∙ append-nil row

-- one more NULL behind a row
pub padded_more : (row values : List Value) (n : ℕ) → values ≡ row ++ replicate n Null → values ++ Null ∷ [] ≡ row ++ replicate (n + 1) Null
padded_more row values n is = rw is (append_assoc row (replicate n Null) (Null ∷ []) ∙ ap (λ l. row ++ l) (replicate_more n Null))
