-- The foreground that was chosen, and what the retrieval is guaranteed to cost.
use Rattle.std.specs.Prelude.{ℕ, List, [], Option, Some, None}
use Rattle.rv_judge.specs.Account.{first_guarantee}
use Rattle.rv_reader.specs.Shown.{Shown}
use Rattle.rv_scan.specs.Alongs.{Along}
use Rattle.rv_scan.specs.Fronts.{Front}
use Rattle.rv_scan.specs.declared.along.Ahead.TheVariants.{First}
use Rattle.rv_choice.specs.declared.query.Query.{Query}
use Rattle.rv_choice.specs.declared.choosing.Candidate.{Candidate}
use Rattle.rv_choice.specs.declared.choosing.Choice.{Choice}
use Rattle.rv_choice.specs.Choice.{candidate_at, no_candidate}

-- a walk along the whole range of an index
abbrev pub walk_begun : Query → Candidate → Along
walk_begun query c = record { index = c.index; snap = query.snap; range = c.range; ahead = First; held = [] }

-- the foreground's scan of an index: by the index alone where it has every column needed
abbrev pub front_begun : Query → Candidate → Front
front_begun query c =
    record {
      alone = c.sufficient;
      columns = c.columns;
      telling = walk_begun query c;
      fetching = record { table = query.table; walk = walk_begun query c };
    }

-- the index of the foreground's scan
abbrev pub front_candidate : List Candidate → Option ℕ → Candidate
front_candidate cs None = no_candidate
front_candidate cs (Some at) = candidate_at cs at

-- the guarantee at opening
abbrev pub guarantee_of : Query → Shown → List Candidate → Choice → ℕ
guarantee_of query shown cs choice =
    first_guarantee choice.strategy (shown.pages query.table query.snap)
    (front_candidate cs choice.front).estimate.value
