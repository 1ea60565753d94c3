use Rattle.std.proofs.Common.{◌≡◌}
use Rattle.rv_retrieval.specs.Effort.{effort}
use Rattle.rv_retrieval.specs.Short.{Settled}
use Rattle.rv_retrieval.specs.Runs.{Tells}
use Rattle.rv_search.specs.Searching.{Gathers, Goes}
use Rattle.rv_search.proofs.search.gather.Given as goal

-- the rows found so far and those that are still owed are those that were owed
abbrev pub invariant-turns : goal.invariant-turns
invariant-turns g l = record {
  gathers : Gathers (g.R.Reader.shown l.reader) l.initial.steps l.steps l.initial.found.items l.found.items l.initial.retrieval l.retrieval;
  tells : Tells l.retrieval;
  goes : Goes ((goal.Judge-dyn g (l.initial.judge.vtable, l.initial.judge.value)).would l.initial.judge.value) ((goal.Judge-dyn g (l.initial.judge.vtable, l.initial.judge.value)).state l.initial.judge.value) ((goal.Judge-dyn g (l.judge.vtable, l.judge.value)).state l.judge.value) (g.R.Reader.shown l.reader) l.initial.steps l.steps l.initial.retrieval l.retrieval;
  rule : (goal.Judge-dyn g (l.judge.vtable, l.judge.value)).would l.judge.value ≡ (goal.Judge-dyn g (l.initial.judge.vtable, l.initial.judge.value)).would l.initial.judge.value;
  unasked : Settled l.initial.retrieval → ((goal.Judge-dyn g (l.judge.vtable, l.judge.value)).state l.judge.value ≡ (goal.Judge-dyn g (l.initial.judge.vtable, l.initial.judge.value)).state l.initial.judge.value);
}

abbrev pub decreases-turns : goal.decreases-turns
decreases-turns g l = effort l.retrieval (g.R.Reader.shown l.reader)
