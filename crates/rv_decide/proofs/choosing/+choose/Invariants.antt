use Rattle.std.proofs.Common.{◌≡◌, ◌++◌, ◌∷◌, [], take, length}
use Rattle.std.specs.List.{flat_map}
use Rattle.rv_value.specs.declared.record.Record.{Record}
use Rattle.rv_decide.specs.Choosing.{offers_from}
use Rattle.rv_decide.proofs.choosing.+choose.Given as goal

abbrev pub decreases-choose : goal.decreases-choose
decreases-choose l = length l.lists.now

abbrev pub invariant-rows : goal.invariant-rows
invariant-rows l = record { chosen : l.chosen.items ≡ l.initial.chosen.items; found : l.found.items ≡ l.initial.found.items ++ flat_map (λ (r : Record). offers_from l.select l.more (l.initial.chosen.items ++ r.values ∷ [])) (take l.row-index l.row-items) }
