-- A drive gives what was due.
use Rattle.std.proofs.Common.{◌≡◌, ◌∙◌, List, [], ◌∷◌, ◌++◌, sym, subst}
use Rattle.std.specs.List.Sorted.{IsPermutation}
use Rattle.std.proofs.lemmas.List.{append_assoc, append-nil}
use Rattle.std.proofs.lemmas.List.Sorted.{IsPermutation-append_right, IsPermutation-refl, IsPermutation-trans}
use Rattle.rv_model.specs.declared.state.Offer.{Offer}
use Rattle.rv_reader.specs.Shown.{Shown}
use Rattle.rv_reader.specs.declared.step.Step.TheVariants.{Row, Working, End}
use Rattle.rv_join.specs.Plans.{PlanFits, PlanMoves, Planned, plan_rest}
use Rattle.try_retrievals.specs.Planning.{Gives, Stays}

pub gives_none : (shown : Shown) (p : Planned) → PlanFits shown p → Gives shown (plan_rest shown p) [] p
gives_none shown p fits = record { fits = fits; whole = IsPermutation-refl _ }

pub gives_row : (shown : Shown) (due given : List Offer) (old new : Planned) (o : Offer) → Gives shown due given old → PlanFits shown new → PlanMoves shown (Row o) old new → Gives shown due (given ++ o ∷ []) new
gives_row shown due given old new o gives fits moves = record {
  fits = fits;
  whole = IsPermutation-trans _ _ _ gives.whole (subst (IsPermutation (given ++ plan_rest shown old)) (sym (append_assoc given (o ∷ []) (plan_rest shown new))) (IsPermutation-append_right given (plan_rest shown old) (o ∷ plan_rest shown new) moves.step.out));
}

pub gives_working : (shown : Shown) (due given : List Offer) (old new : Planned) → Gives shown due given old → PlanFits shown new → PlanMoves shown Working old new → Gives shown due given new
gives_working shown due given old new gives fits moves = record {
  fits = fits;
  whole = IsPermutation-trans _ _ _ gives.whole (IsPermutation-append_right given (plan_rest shown old) (plan_rest shown new) moves.step);
}

pub gives_end : (shown : Shown) (due given : List Offer) (old new : Planned) → Gives shown due given old → PlanFits shown new → PlanMoves shown End old new → Gives shown due given new
gives_end shown due given old new gives fits moves = record {
  fits = fits;
  whole = subst (λ l. IsPermutation due (given ++ l)) (moves.step.0 ∙ sym moves.step.1) gives.whole;
}

pub gives_stays : (shown : Shown) (due given : List Offer) (old new : Planned) → Gives shown due given old → Stays shown old new → Gives shown due given new
gives_stays shown due given old new gives stays = record { fits = stays.fits; whole = subst (λ l. IsPermutation due (given ++ l)) (sym stays.left) gives.whole }

pub given_all : (shown : Shown) (due given : List Offer) (p : Planned) → Gives shown due given p → plan_rest shown p ≡ [] → IsPermutation due given
given_all shown due given p gives none = subst (IsPermutation due) (append-nil given) (subst (λ l. IsPermutation due (given ++ l)) none gives.whole)
