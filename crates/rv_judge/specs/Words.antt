-- The words of strategies and controls in a trace.
use Rattle.std.specs.Prelude.{ℕ, List, codes}
use Rattle.rv_judge.specs.declared.events.Strategy.{Strategy}
use Rattle.rv_judge.specs.declared.events.Strategy.TheVariants as strategies
use Rattle.rv_judge.specs.declared.events.Control.{Control}
use Rattle.rv_judge.specs.declared.events.Control.TheVariants as controls

-- the word for a strategy
abbrev pub strategy_word : Strategy → List ℕ
strategy_word strategies.Table = codes "table"
strategy_word strategies.BackgroundOnly = codes "background-only"
strategy_word strategies.FastFirst = codes "fast-first"
strategy_word strategies.Sorted = codes "sorted"
strategy_word strategies.IndexOnly = codes "index-only"
strategy_word strategies.Union = codes "union"

-- the word for a control
abbrev pub control_word : Control → List ℕ
control_word controls.Building = codes "building"
control_word controls.ForegroundAlone = codes "foreground"
control_word controls.BackgroundAlone = codes "background"
control_word controls.FinalList = codes "final-list"
control_word controls.FinalTable = codes "final-table"
control_word controls.Done = codes "done"
