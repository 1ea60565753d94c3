-- The trace of a plan is one that SHOW may answer.
use Rattle.std.proofs.Common.{◌≡◌, ℕ, ◌+◌, List, [], ◌∷◌, refl, ap, ◌∙◌, subst, inl, inr}
use Rattle.std.proofs.lemmas.Bool.Decides.{eqb_tells}
use Rattle.rv_judge.specs.declared.events.Trace.{Trace}
use Rattle.rv_judge.specs.Runs.{Allowed}
use Rattle.rv_catalog.specs.declared.def.IndexDef.{IndexDef}
use Rattle.rv_model.specs.Showing.{ShowsTrace, numbers_over, shown_trace}
use Rattle.rv_join.specs.Asking.{indexes_from}
use Rattle.rv_join.specs.Plans.{numbers_of}

numbers_same : (table number : ℕ) (indexes : List IndexDef) → numbers_of (indexes_from table number indexes) ≡ numbers_over table number indexes
numbers_same table number [] = refl
numbers_same table number (d ∷ ds) =
    let rest = numbers_same table (number + 1) ds in
    elim (eqb_tells d.table table) [
      | inl here ↦ rw (here.0, rest) refl
      | inr other ↦ rw (other.0, rest) refl
    ]

pub shows_trace : (indexes : List IndexDef) (table : ℕ) (t : Trace) (known : List (ℕ × List ℕ)) → known ≡ indexes_from table 0 indexes → Allowed t (numbers_of known) → ShowsTrace indexes table (shown_trace indexes t)
shows_trace indexes table t known is allowed = record {
  trace = t;
  allowed = subst (λ (ns : List ℕ). Allowed t ns) (ap (λ (k : List (ℕ × List ℕ)). numbers_of k) is ∙ numbers_same table 0 indexes) allowed;
  names = refl;
}
