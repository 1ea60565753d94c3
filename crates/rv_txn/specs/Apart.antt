-- The active transactions are those of different sessions.
use Rattle.std.specs.Prelude.{List, [], ◌∷◌, Bool, true, not, ◌&&◌, ◌==◌}
use Rattle.std.specs.List.{list_any}
use Rattle.rv_model.specs.declared.transactions.Transaction.{Transaction}

-- no two transactions are of one session
abbrev pub are_apart : List Transaction → Bool
are_apart [] = true
are_apart (t ∷ ts) = not (list_any (λ (u : Transaction). u.session == t.session) ts) && are_apart ts
