-- References that read all values of a row.
use Rattle.std.proofs.Common.{◌≡◌, ℕ, zero, suc, ◌+◌, ◌<◌, ◌≤◌, List, [], ◌∷◌, ◌++◌, ◌&&◌, true, length, drop, map, nat_eq, slice_index_or, ap, sym, ◌∙◌, refl, arith, subst}
use Rattle.std.proofs.lemmas.Bool.{and_parts, eqb-true}
use Rattle.rv_value.specs.declared.value.Value.{Value}
use Rattle.rv_value.specs.declared.value.Value.TheVariants.{Null}
use Rattle.rv_restrict.specs.declared.atom.ColRef.{ColRef}
use Rattle.rv_restrict.specs.Bind.{rows_reads}
use Rattle.rv_model.specs.Offering.{picked_over}
use Rattle.rv_join.specs.Levels.{reads_on, reads_whole}

last_row : (outer : List (List Value)) (row : List Value) → slice_index_or (outer ++ row ∷ []) (length outer) [] ≡ row
last_row [] row = refl
last_row (r ∷ outer) row = last_row outer row

drop_end : (row : List Value) (k : ℕ) → length row ≤ k → drop k row ≡ []
drop_end [] zero long = refl
drop_end [] (suc k) long = refl
drop_end (v ∷ vs) zero long = absurd (omega (arith, long))
drop_end (v ∷ vs) (suc k) long = drop_end vs k (omega (arith, long))

drop_at : (row : List Value) (k : ℕ) → k < length row → drop k row ≡ slice_index_or row k Null ∷ drop (suc k) row
drop_at [] k within = absurd (omega (arith, within))
drop_at (v ∷ vs) zero within = refl
drop_at (v ∷ vs) (suc k) within = drop_at vs k (omega (arith, within))

reads_from : (columns : List ColRef) (outer : List (List Value)) (row : List Value) (k : ℕ) → reads_on (length outer) k columns ≡ true → k + length columns ≡ length row → drop k row ≡ map (rows_reads (outer ++ row ∷ [])) columns
reads_from [] outer row k on long = drop_end row k (omega (arith, long))
reads_from (c ∷ cs) outer row k on long =
    let parts = and_parts (nat_eq c.place (length outer) && nat_eq c.column k) (reads_on (length outer) (k + 1) cs) on in
    let here_first = and_parts (nat_eq c.place (length outer)) (nat_eq c.column k) parts.0 in
    let place : c.place ≡ length outer = eqb-true c.place (length outer) here_first.0 in
    let column : c.column ≡ k = eqb-true c.column k here_first.1 in
    let next : k + 1 ≡ suc k = omega arith in
    let rest = reads_from cs outer row (suc k) (subst (λ (n : ℕ). reads_on (length outer) n cs ≡ true) next parts.1) (omega (arith, long)) in
    let here : rows_reads (outer ++ row ∷ []) c ≡ slice_index_or row k Null =
    ap (λ (p : ℕ). slice_index_or (slice_index_or (outer ++ row ∷ []) p []) c.column Null) place
    ∙ ap (λ (r : List Value). slice_index_or r c.column Null) (last_row outer row)
    ∙ ap (λ (n : ℕ). slice_index_or row n Null) column in
    drop_at row k (omega (arith, long)) ∙ (λ i. sym here i ∷ rest i)

-- the row itself
pub whole_row : (columns : List ColRef) (outer : List (List Value)) (row : List Value) → reads_whole (length outer) row columns ≡ true → row ≡ picked_over columns (outer ++ row ∷ [])
whole_row columns outer row whole =
    let parts = and_parts (nat_eq (length columns) (length row)) (reads_on (length outer) 0 columns) whole in
    let long = eqb-true (length columns) (length row) parts.0 in
    reads_from columns outer row 0 parts.1 (omega (arith, long))
