-- What is said of a retrieval that was begun.
use Rattle.std.proofs.Common.{◌≡◌, ℕ, List, ap, sym, ◌∙◌, subst}
use Rattle.rv_judge.specs.declared.events.Strategy.{Strategy}
use Rattle.rv_judge.specs.Runs.{start_events}
use Rattle.rv_reader.specs.Shown.{Shown}
use Rattle.rv_scan.specs.Fronts.{Front}
use Rattle.rv_jscan.specs.declared.jscan.ScanPlan.{ScanPlan}
use Rattle.rv_jscan.specs.Joint.{Joint}
use Rattle.rv_jscan.specs.Planned.{indexes_of}
use Rattle.rv_jscan.specs.Steps.{begun}
use Rattle.rv_choice.specs.declared.query.Query.{Query}
use Rattle.rv_choice.specs.declared.choosing.Candidate.{Candidate}
use Rattle.rv_choice.specs.declared.choosing.Choice.{Choice}
use Rattle.rv_choice.specs.Choice.{AreScans, candidates_of}
use Rattle.rv_choice.specs.Leading.{front_begun, front_candidate}
use Rattle.rv_retrieval.specs.Opened.{Begun, IsMade, Starts, has_scans}
use Rattle.rv_retrieval.specs.Opens.{first_of}
use Rattle.rv_retrieval.specs.Shape.{Shape}

-- it is made of what was chosen
pub begun_made : (query : Query) (shown : Shown) (choice : Choice) (cs : List Candidate) (scans : List ScanPlan) (front : Front) (guaranteed cursor opening : ℕ) (v : Shape) → cs ≡ candidates_of query shown → AreScans query.only cs choice.background scans → front ≡ front_begun query (front_candidate cs choice.front) → Begun query choice.strategy scans front guaranteed cursor opening v → IsMade query shown choice cursor opening v
begun_made query shown choice cs scans front guaranteed cursor opening v e s is b = record {
  asked = b.asked;
  strategy = b.chosen;
  scans = subst (λ (j : Joint). AreScans query.only (candidates_of query shown) choice.background j.plans) (sym b.joint) (subst (λ (xs : List Candidate). AreScans query.only xs choice.background scans) e s);
  front = b.front ∙ is ∙ ap (λ (xs : List Candidate). front_begun query (front_candidate xs choice.front)) e;
  fresh = b.fresh;
  unbegun = b.unbegun;
  cursor_number = ap (λ (j : Joint). j.cursor) b.joint;
  opening_number = ap (λ (j : Joint). j.opening) b.joint;
}

-- it stands before its first step
pub begun_starts : (query : Query) (strategy : Strategy) (plans : List ScanPlan) (front : Front) (guaranteed cursor opening : ℕ) (v : Shape) → Begun query strategy plans front guaranteed cursor opening v → v.trace.events.items ≡ start_events v.strategy (indexes_of v.joint.plans) → Starts cursor opening v
begun_starts query strategy plans front guaranteed cursor opening v b told = record {
  control = b.started ∙ sym (ap (λ (s : Strategy). first_of s (has_scans v.joint.plans)) b.chosen ∙ ap (λ (j : Joint). first_of strategy (has_scans j.plans)) b.joint);
  joint = b.joint ∙ sym (ap (λ (q : Query). begun q.table q.snap v.joint.plans cursor opening) b.asked ∙ ap (λ (j : Joint). begun query.table query.snap j.plans cursor opening) b.joint);
  borrowed = b.borrowed;
  told = told;
}
