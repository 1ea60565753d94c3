-- What follows of a retrieval that has begun with what was chosen.
use Rattle.std.proofs.Common.{◌<◌, ◌≤◌, true, ◌≡◌, ◌∙◌, ℕ, ◌+◌, Bool, List, ◌&&◌, length, ap, subst, sym}
use Rattle.std.specs.List.{AllByRecursion}
use Rattle.rv_value.specs.declared.record.Record.{Record}
use Rattle.rv_judge.specs.Tracing.{new_trace}
use Rattle.rv_reader.specs.Shown.{Shown}
use Rattle.rv_reader.specs.Tables.{IsTable}
use Rattle.rv_scan.specs.Fronts.{Front}
use Rattle.rv_scan.specs.Places.{work as pages_work}
use Rattle.rv_jscan.specs.declared.jscan.ScanPlan.{ScanPlan}
use Rattle.rv_jscan.specs.Joint.{Joint, under_way}
use Rattle.rv_choice.specs.declared.query.Query.{Query}
use Rattle.rv_choice.specs.declared.choosing.Candidate.{Candidate}
use Rattle.rv_choice.specs.declared.choosing.Choice.{Choice}
use Rattle.rv_choice.specs.Asked.{CanAsk}
use Rattle.rv_choice.specs.Choice.{AreScans, IsChosen, IsRight, candidates_of}
use Rattle.rv_choice.specs.Leading.{front_begun, front_candidate, guarantee_of}
use Rattle.rv_final.specs.Rest.{qualifying}
use Rattle.rv_retrieval.specs.Began.{Began}
use Rattle.rv_retrieval.specs.Effort.{effort, life_of}
use Rattle.rv_retrieval.specs.Opened.{Begun, start_told}
use Rattle.rv_retrieval.specs.Opens.{Opens}
use Rattle.rv_retrieval.specs.Shape.{RetrievalFits, Shape, is_background, rest}
use Rattle.rv_retrieval.proofs.Chosen.{chosen_opens, few_scans, one_background, one_found}
use Rattle.rv_retrieval.proofs.Lives.{begun_awaits, begun_life}
use Rattle.rv_retrieval.proofs.Made.{begun_made, begun_starts}
use Rattle.rv_retrieval.proofs.Shorts.{short_keys}
use Rattle.rv_retrieval.proofs.Starting.{begun_tells, begun_told, chosen_has, one_scan, planned_known, planned_once}

-- what a life has, over the candidates by their name
lives : (query : Query) (shown : Shown) (choice : Choice) (scans : List ScanPlan) (front : Front) (cs : List Candidate) (guaranteed cursor opening : ℕ) (v : Shape) → candidates_of query shown ≡ cs → CanAsk query shown → IsTable (shown.rows query.table query.snap) (shown.pages query.table query.snap) → IsChosen query.order query.goal cs choice → AreScans query.only cs choice.background scans → front ≡ front_begun query (front_candidate cs choice.front) → Begun query choice.strategy scans front guaranteed cursor opening v → pages_work v.last (shown.rows query.table query.snap) (shown.pages query.table query.snap) ≡ length (shown.rows query.table query.snap) + shown.pages query.table query.snap → effort v shown < life_of query shown
lives query shown choice scans front cs guaranteed cursor opening v e can table chosen s is b last = begun_life query shown choice scans front guaranteed cursor opening v can table (subst (λ (xs : List Candidate). IsChosen query.order query.goal xs choice) (sym e) chosen) (subst (λ (xs : List Candidate). AreScans query.only xs choice.background scans) (sym e) s) (subst (λ (xs : List Candidate). front ≡ front_begun query (front_candidate xs choice.front)) (sym e) is) b last

-- the query and the foreground stand where the retrieval stands
pub has_begun :
    (query asked : Query) (shown : Shown) (choice : Choice) (cs : List Candidate) (scans : List ScanPlan) (front : Front)
    (guaranteed cursor opening : ℕ) (v : Shape)
    → asked ≡ query → front ≡ front_begun query (front_candidate cs choice.front)
    → cs ≡ candidates_of query shown → CanAsk query shown
    → IsTable (shown.rows query.table query.snap) (shown.pages query.table query.snap)
    → IsChosen query.order query.goal cs choice → AllByRecursion (IsRight shown query.snap) cs
    → AreScans query.only cs choice.background scans → guaranteed ≡ guarantee_of query shown cs choice
    → Begun asked choice.strategy scans front guaranteed cursor opening v
    → v.trace ≡ start_told (record v { trace = new_trace choice.strategy })
    → ((shown : Shown) → Opens asked choice.strategy scans front shown → RetrievalFits v shown)
    → ((shown : Shown) → Opens asked choice.strategy scans front shown
    → rest v shown ≡ qualifying asked.only (shown.rows asked.table asked.snap))
    → ((rows : List Record) (pages : ℕ) → pages_work v.last rows pages ≡ length rows + pages)
    → Began query shown cs choice cursor opening v
has_begun query asked shown choice cs scans front guaranteed cursor opening v a is e can table chosen right s g b told fits due last =
    let begun = subst (λ (q : Query). Begun q choice.strategy scans front guaranteed cursor opening v) a b in
    let opens = subst (λ (q : Query). Opens q choice.strategy scans front shown) (sym a) (chosen_opens query shown choice scans front cs e can chosen s is) in
    let has = chosen_has query.only query.order query.goal cs choice scans chosen s in
    record {
      made = begun_made query shown choice cs scans front guaranteed cursor opening v e s is begun;
      started = begun_starts query choice.strategy scans front guaranteed cursor opening v begun (begun_told v query choice.strategy scans front guaranteed cursor opening begun told has);
      bound = begun.bound ∙ g;
      counts = begun.counts;
      back = λ one. let found = one_found choice.background one in ap is_background begun.started ∙ (one_background query.only query.order query.goal cs choice scans found.0 chosen s found.1).1;
      way = λ one. let found = one_found choice.background one in ap under_way begun.joint ∙ ap (λ (x : Bool). x && true) (one_background query.only query.order query.goal cs choice scans found.0 chosen s found.1).0;
      tells = begun_tells v query choice.strategy scans front guaranteed cursor opening begun told (few_scans query shown choice.background scans cs e can s) has (planned_once query shown choice.background cs scans e can s) (planned_known query shown choice.background cs scans e s);
      short = λ one. subst (λ (j : Joint). length j.plans ≤ 1) (sym begun.joint) (one_scan query shown choice.background cs scans e can s one);
      fits = fits shown opens;
      rest = subst (λ (q : Query). rest v shown ≡ qualifying q.only (shown.rows q.table q.snap)) a (due shown opens);
      unborrowed = begun.borrowed;
      life = lives query shown choice scans front cs guaranteed cursor opening v (sym e) can table chosen s is begun (last (shown.rows query.table query.snap) (shown.pages query.table query.snap));
      awaiting = begun_awaits query choice cs scans front guaranteed cursor opening v chosen s begun;
      unlisted = ap (λ (j : Joint). j.list) begun.joint;
      few = λ some. short_keys query shown choice scans front guaranteed cursor opening v can (subst (λ (xs : List Candidate). IsChosen query.order query.goal xs choice) e chosen) (subst (λ (xs : List Candidate). AreScans query.only xs choice.background scans) e s) (subst (AllByRecursion (IsRight shown query.snap)) e right) begun some;
    }
