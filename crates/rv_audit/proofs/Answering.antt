-- What `follow` answers, from its invariant.
use Rattle.std.proofs.Common.{◌≡◌, ℕ, List, [], ◌∷◌, ◌++◌, Some, None, sym, subst}
use Rattle.rv_script.specs.declared.scripts.Phase.{Phase}
use Rattle.rv_model.specs.declared.entry.Entry.{Entry}
use Rattle.rv_model.specs.Transcript.{SameButPhase}
use Rattle.rv_audit.specs.declared.calls.Call.{Call}
use Rattle.rv_audit.specs.declared.following.End.{End}
use Rattle.rv_audit.specs.declared.following.End.TheVariants as ends
use Rattle.rv_audit.specs.Calls.{calls_from}
use Rattle.rv_audit.specs.Places.{left_at, AreNoLonger, ArePhasesOf, AreSessions, EndsAt, EndsSo, FrontsFollow, Makes, Refuses, Stands, StartsAt, Takes}
use Rattle.rv_audit.proofs.Placing.{all_made_at, all_same, first_going, fronts_follow, missing_going, only_phases, step_going, stuck_going, Going}
use Rattle.rv_audit.proofs.Short.{no_longer}

pub going_short : (phases : List Phase) (all done : List Entry) (places : List ℕ) (left : List Entry) → Going phases all done places left → AreNoLonger phases done
going_short phases all done places left g = no_longer phases done g.phase (left_at (calls_from 1 phases) places) g.sessions g.made

ends_so : (phases : List Phase) (all done : List Entry) (places : List ℕ) → Going phases all done places [] → (end : End) → EndsAt (calls_from 1 phases) places end → EndsSo phases all done end
ends_so phases all done places g ends.Whole e = (all_same phases all done places g, all_made_at phases all done places g e)
ends_so phases all done places g (ends.Missing session phase) e = (all_same phases all done places g, missing_going phases all done places session phase g e)
ends_so phases all done places g ends.Bad e = absurd e

-- what is said of the entries that follow
pub record Ends (phases : List Phase) (all done : List Entry) (how : End) : Type 0 where
  pub fronts : FrontsFollow phases done
  pub only : ArePhasesOf phases done
  pub no_longer : AreNoLonger phases done
  pub end : EndsSo phases all done how

said : (phases : List Phase) (all done : List Entry) (places : List ℕ) (left : List Entry) (end : End) → Going phases all done places left → EndsSo phases all done end → Ends phases all done end
said phases all done places left end g so = record { fronts = fronts_follow phases all done places left g; only = only_phases phases all done places left g; no_longer = going_short phases all done places left g; end = so }

-- The loop, where the code has the calls in a list of its own.

pub begins : (phases : List Phase) (all done : List Entry) (places : List ℕ) (left : List Entry) (calls : List Call) → done ≡ [] → left ≡ all → AreSessions all → calls ≡ calls_from 1 phases → Stands calls places → StartsAt calls places → Going phases all done places left
begins phases all done places left calls none whole sessions is stands starts =
    subst (λ es. Going phases all es places left) (sym none) (
    subst (λ es. Going phases all [] places es) (sym whole) (
    first_going phases all places sessions (subst (λ cs. Stands cs places) is stands) (subst (λ cs. StartsAt cs places) is starts)))

pub goes_more : (phases : List Phase) (all done more : List Entry) (places new : List ℕ) (e d : Entry) (rest left : List Entry) (calls : List Call) (text : List ℕ) (phase : ℕ) → Going phases all done places rest → rest ≡ e ∷ left → calls ≡ calls_from 1 phases → text ≡ e.text → SameButPhase e d → d.phase ≡ phase → Takes calls places e.session text (Some phase) new → more ≡ done ++ d ∷ [] → Going phases all more new left
goes_more phases all done more places new e d rest left calls text phase g next is same but at makes grown =
    subst (λ es. Going phases all es new left) (sym grown) (
    step_going phases all done places new e d left (subst (Going phases all done places) next g) but (
    subst (λ q. Makes (calls_from 1 phases) places e.session e.text q new) (sym at) (
    subst (λ t. Makes (calls_from 1 phases) places e.session t phase new) same (
    subst (λ cs. Makes cs places e.session text phase new) is makes))))

pub ends_stuck : (phases : List Phase) (all done : List Entry) (places new : List ℕ) (e : Entry) (rest left : List Entry) (calls : List Call) (text : List ℕ) → Going phases all done places rest → rest ≡ e ∷ left → calls ≡ calls_from 1 phases → text ≡ e.text → Takes calls places e.session text None new → Ends phases all done ends.Bad
ends_stuck phases all done places new e rest left calls text g next is same refuses =
    let here = subst (Going phases all done places) next g in
    said phases all done places (e ∷ left) ends.Bad here (stuck_going phases all done places e left here (
    subst (λ t. Refuses (calls_from 1 phases) places e.session t) same (
    subst (λ cs. Refuses cs places e.session text) is refuses.0)))

pub ends_all : (phases : List Phase) (all done : List Entry) (places : List ℕ) (rest : List Entry) (calls : List Call) (end : End) → Going phases all done places rest → rest ≡ [] → calls ≡ calls_from 1 phases → EndsAt calls places end → Ends phases all done end
ends_all phases all done places rest calls end g none is at =
    let here = subst (Going phases all done places) none g in
    said phases all done places [] end here (ends_so phases all done places here end (subst (λ cs. EndsAt cs places end) is at))
