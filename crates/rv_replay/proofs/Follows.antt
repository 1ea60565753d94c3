-- An entry whose session or phase is wrong, or whose reply is judged.
use Rattle.std.proofs.Common.{◌≡◌, ℕ, ◌≤◌, Bool, true, false}
use Rattle.rv_parse.specs.Reading.{statement_of}
use Rattle.rv_model.specs.declared.entry.Entry.{Entry}
use Rattle.rv_model.specs.declared.state.State.{State}
use Rattle.rv_model.specs.History.{IsNext, stepped}
use Rattle.rv_replay.specs.Judging.{JudgesEntry, JudgesStatement}

pub entry_judged : (b : Bool) (s new : State) (phase : ℕ) (e : Entry) → 1 ≤ e.session → e.session ≤ 8 → phase ≤ e.phase → JudgesStatement b s e.session (statement_of e.text) e.reply new → JudgesEntry b s phase e new
entry_judged true s new phase e from to later judges = (record { from = from; to = to; phase = later; allowed = judges.0 }, judges.1)
entry_judged false s new phase e from to later judges = λ next. judges next.allowed

pub is_next : (b : Bool) (s new : State) (phase : ℕ) (e : Entry) → b ≡ true → JudgesEntry b s phase e new → IsNext s phase e × (new ≡ stepped s e)
is_next true s new phase e is judges = judges
is_next false s new phase e is judges = cc

pub not_next : (b : Bool) (s new : State) (phase : ℕ) (e : Entry) → b ≡ false → JudgesEntry b s phase e new → ¬ (IsNext s phase e)
not_next true s new phase e is judges = cc
not_next false s new phase e is judges = judges
