use Rattle.std.proofs.Common.{◌∙◌, ℕ, List, subst, sym}
use Rattle.rv_choice.specs.declared.choosing.Candidate.{Candidate}
use Rattle.rv_choice.specs.Choice.{IsChosen}
use Rattle.rv_retrieval.proofs.retrieval.Retrieval.open.Goals as goal

pub open_chosen-opened-requires-clause-choice : goal.open_chosen-opened-requires-clause-choice
open_chosen-opened-requires-clause-choice g c =
    let chosen = subst (λ (order : List ℕ). IsChosen order c.args.query.goal c.as_slice.result.now c.choose-choice.result) c.as_slice-2.ensures c.choose-choice.ensures in
    subst (λ (cs : List Candidate). IsChosen c.args.query.order c.args.query.goal cs c.choose-choice.result) (c.as_slice.ensures.value ∙ sym c.as_slice-3.ensures.value) chosen
