-- What a step says of each row number, where the rest is told of: without order columns each row is a least one, and one
-- fetch of a row takes it out, whatever comes back.
use Rattle.std.proofs.Common.{◌≡◌, ℕ, List, [], ◌∷◌, Bool, true, false, not, ◌&&◌, refl, ap, sym, ◌∙◌, arith, subst, Some, None, Option, nat_eq, inl, inr}
use Rattle.std.specs.Prelude.{if◌then◌else◌}
use Rattle.std.proofs.lemmas.Bool.{cases_Bool, eqb-true}
use Rattle.rv_reader.proofs.Rows.{found_row}
use Rattle.rv_value.specs.declared.record.Record.{Record}
use Rattle.rv_rows.specs.Rows.{Ascend}
use Rattle.rv_restrict.specs.declared.atom.Atom.{Atom}
use Rattle.rv_restrict.specs.Truth.{qualifies}
use Rattle.rv_reader.specs.Tables.{row_at}
use Rattle.rv_reader.specs.declared.step.Step.{Step}
use Rattle.rv_reader.specs.declared.step.Step.TheVariants.{Row, Working, End}
use Rattle.rv_scan.specs.Alongs.{looked}
use Rattle.rv_final.specs.Rest.{Agree, IsLeast, StepMarks, Steps, qualifies_at, rest_by}
use Rattle.rv_final.proofs.Rests.{marks_out, no_rest, not_there, same_rest, told_by}

no_order : (r : Record) (records : List Record) → IsLeast [] r records
no_order r [] = refl
no_order r (x ∷ records) = no_order r records

pub unordered : (order : List ℕ) (r : Record) (records : List Record) → order ≡ [] → IsLeast order r records
unordered order r records e = subst (λ (o : List ℕ). IsLeast o r records) (sym e) (no_order r records)

pub marks_steps : (need order : List ℕ) (only : List (List Atom)) (rows : List Record) (s : Step Record) (old new : ℕ → Bool) → Ascend rows → order ≡ [] → StepMarks need only rows s old new → Steps need order s (rest_by old only rows) (rest_by new only rows)
marks_steps need order only rows (Row r) old new asc e m = (marks_out need only rows r old new asc m, unordered order r (rest_by old only rows) e)
marks_steps need order only rows Working old new asc e m = same_rest only rows old new m
marks_steps need order only rows End old new asc e m = (no_rest only rows old m.0, no_rest only rows new m.1)

-- One fetch of a row, whatever comes back.
pub fetched_marks : (need : List ℕ) (only : List (List Atom)) (rows : List Record) (old new : ℕ → Bool) (k : ℕ) (found : Option Record) → Ascend rows → row_at rows k ≡ found → old k ≡ true → Agree only rows (λ n. old n && not (nat_eq n k)) new → StepMarks need only rows (looked only found) old new
fetched_marks need only rows old new k None asc f l a = without k (not_there only rows k f) a
  where
    keeps : (b c : Bool) → c ≡ false → (b && not c) ≡ b
    keeps b c h = grind arith

    without : (k : ℕ) → qualifies_at only rows k ≡ false → Agree only rows (λ n. old n && not (nat_eq n k)) new → Agree only rows old new
    without k none a n q =
        elim (cases_Bool (nat_eq n k)) [
          | inl here ↦ absurd (let bad : true ≡ false = sym q ∙ ap (qualifies_at only rows) (eqb-true n k here) ∙ none in cc)
          | inr other ↦ a n q ∙ keeps (old n) (nat_eq n k) other
        ]
fetched_marks need only rows old new k (Some r) asc f l a =
    elim (qualifies only r.values) as (λ b. qualifies only r.values ≡ b → StepMarks need only rows (if b then Row r else Working) old new) [
      | true ↦ λ p. let is : r.row.0 ≡ k = found_row rows k r f in record {
        taken = r;
        there = ap (row_at rows) is ∙ f;
        qualifies = p;
        left = ap old is ∙ l;
        agrees = λ c h. refl;
        wide = λ c h l. l;
        others = subst (λ (m : ℕ). Agree only rows (λ n. old n && not (nat_eq n m)) new) (sym is) a;
      }
      | false ↦ λ p. λ n q.
          elim (cases_Bool (nat_eq n k)) [
            | inl here ↦ absurd (let bad : true ≡ false = sym q ∙ ap (qualifies_at only rows) (eqb-true n k here) ∙ told_by only rows k r asc f ∙ p in cc)
            | inr other ↦ a n q ∙ keeps (old n) (nat_eq n k) other
          ]
    ] refl
  where
    keeps : (b c : Bool) → c ≡ false → (b && not c) ≡ b
    keeps b c h = grind arith
