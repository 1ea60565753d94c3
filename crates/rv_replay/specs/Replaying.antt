-- What a replay tells of a list of entries.
use Rattle.std.specs.Prelude.{ℕ, ◌-◌, ◌≤◌, List, length, take}
use Rattle.rv_model.specs.declared.entry.Entry.{Entry}
use Rattle.rv_model.specs.History.{IsLegal}
use Rattle.rv_replay.specs.declared.following.Replayed.{Replayed}
use Rattle.rv_replay.specs.declared.following.Replayed.TheVariants.{Legal, Broken}

-- Entry n, from 1, is the first up to which the entries are no legal history.
pub record BreaksAt (entries : List Entry) (n : ℕ) : Type 0 where
  pub from : 1 ≤ n
  pub to : n ≤ length entries
  pub before : IsLegal (take (n - 1) entries)
  pub breaks : ¬ (IsLegal (take n entries))

-- Legal exactly where the entries are a legal history; else the first entry up to which they are none.
abbrev pub Tells : List Entry → Replayed → Type 0
Tells entries Legal = IsLegal entries
Tells entries (Broken n) = BreaksAt entries n × (¬ (IsLegal entries))
