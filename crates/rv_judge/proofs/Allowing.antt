-- Which traces are allowed, whatever their strategy.
use Rattle.std.proofs.Common.{◌≡◌, ◌++◌, ◌∙◌, ℕ, List, ap, refl, subst, sym}
use Rattle.rv_judge.specs.declared.events.Strategy.{Strategy}
use Rattle.rv_judge.specs.declared.events.Strategy.TheVariants.{Table, BackgroundOnly, FastFirst, Sorted, IndexOnly, Union}
use Rattle.rv_judge.specs.declared.events.Trace.{Trace}
use Rattle.rv_judge.specs.Runs.{Allowed, AllowedBy, AllowedRun, HasScans, IsRun, run_events, start, start_events}

-- a run has planned scans, so its strategy is no union
pub run_allowed : (trace : Trace) (indexes : List ℕ) → AllowedRun trace indexes → Allowed trace indexes
run_allowed trace indexes r = by trace.strategy refl
  where
    by : (st : Strategy) → trace.strategy ≡ st → AllowedBy st trace indexes
    by Table e = r
    by BackgroundOnly e = r
    by FastFirst e = r
    by Sorted e = r
    by IndexOnly e = r
    by Union e = absurd (subst (λ (st : Strategy). HasScans st r.planned) e r.scanned)

-- what was counted does not matter

run_retold : (t u : Trace) (indexes : List ℕ) → u.strategy ≡ t.strategy → u.events.items ≡ t.events.items → AllowedRun t indexes → AllowedRun u indexes
run_retold t u indexes s e a = record {
  planned = a.planned;
  known = a.known;
  once = a.once;
  scanned = subst (λ (st : Strategy). HasScans st a.planned) (sym s) a.scanned;
  turns = a.turns;
  run = subst (λ (st : Strategy). IsRun st (start st a.planned) a.turns) (sym s) a.run;
  told = e ∙ a.told ∙ ap (λ (st : Strategy). start_events st a.planned ++ run_events st (start st a.planned) a.turns) (sym s);
}

pub retold : (t u : Trace) (indexes : List ℕ) → u.strategy ≡ t.strategy → u.events.items ≡ t.events.items → Allowed t indexes → Allowed u indexes
retold t u indexes s e a = subst (λ (st : Strategy). AllowedBy st u indexes) (sym s) (by t.strategy a)
  where
    by : (st : Strategy) → AllowedBy st t indexes → AllowedBy st u indexes
    by Table a = run_retold t u indexes s e a
    by BackgroundOnly a = run_retold t u indexes s e a
    by FastFirst a = run_retold t u indexes s e a
    by Sorted a = run_retold t u indexes s e a
    by IndexOnly a = run_retold t u indexes s e a
    by Union a = record { begun = a.begun; some = a.some; known = a.known; once = a.once; tail = a.tail; among = a.among; told = e ∙ a.told }
