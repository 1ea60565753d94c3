-- A retrieval that has begun with what was chosen.
use Rattle.std.specs.Prelude.{◌≡◌, ℕ, ◌<◌, ◌≤◌, true, List, length, None}
use Rattle.rv_judge.specs.Tracing.{NothingCounted}
use Rattle.rv_reader.specs.Shown.{Shown}
use Rattle.rv_jscan.specs.Joint.{under_way}
use Rattle.rv_choice.specs.declared.query.Query.{Query}
use Rattle.rv_choice.specs.declared.choosing.Candidate.{Candidate}
use Rattle.rv_choice.specs.declared.choosing.Choice.{Choice}
use Rattle.rv_choice.specs.Leading.{guarantee_of}
use Rattle.rv_final.specs.Rest.{qualifying}
use Rattle.rv_retrieval.specs.Effort.{Awaiting, effort, life_of}
use Rattle.rv_retrieval.specs.Opened.{IsMade, Starts, is_one}
use Rattle.rv_retrieval.specs.Runs.{Tells}
use Rattle.rv_retrieval.specs.Shape.{RetrievalFits, Shape, is_background, rest}
use Rattle.rv_retrieval.specs.Short.{has_short, keys_most}

-- made of what was chosen, before its first step: it has read nothing, all that qualifies is still to be given, and what
-- that takes is less than a retrieval's life. A single index is under way alone, and where it is short it has few keys.
pub record Began (query : Query) (shown : Shown) (cs : List Candidate) (choice : Choice) (cursor opening : ℕ)
    (v : Shape) : Type 0 where
  pub made : IsMade query shown choice cursor opening v
  pub started : Starts cursor opening v
  pub bound : v.guaranteed ≡ guarantee_of query shown cs choice
  pub counts : NothingCounted v.trace
  pub back : is_one choice.background ≡ true → is_background v.control ≡ true
  pub way : is_one choice.background ≡ true → under_way v.joint ≡ true
  pub tells : Tells v
  pub short : is_one choice.background ≡ true → length v.joint.plans ≤ 1
  pub fits : RetrievalFits v shown
  pub rest : rest v shown ≡ qualifying query.only (shown.rows query.table query.snap)
  pub unborrowed : v.borrowed ≡ 0
  pub life : effort v shown < life_of query shown
  pub awaiting : Awaiting v
  pub unlisted : v.joint.list ≡ None
  pub few : has_short query shown ≡ true → keys_most v.joint shown ≤ 20
