-- Believed: the histories of a one-thread database.
use Rattle.std.specs.Prelude.{◌≡◌, ℕ, ◌≤◌, List, [], ◌∷◌}
use Rattle.rv_lang.specs.declared.reply.Refusal.TheVariants.{Syntax}
use Rattle.rv_lang.specs.declared.reply.Reply.TheVariants.{Refused}
use Rattle.rv_lang.specs.declared.statement.Statement.{Statement}
use Rattle.rv_model.specs.declared.entry.Entry.{Entry}
use Rattle.rv_believed.specs.Database.{Database, empty}
use Rattle.rv_believed.specs.Grammar.{Says}
use Rattle.rv_believed.specs.Names.{resolution}
use Rattle.rv_believed.specs.Step.{DoesAsked}

-- ONE CALL: its text says a statement, which does what it does; or it says none, which is refused.
pub data Answers (d : Database) (e : Entry) (new : Database) : Type 0 where
  says : (statement : Statement) → Says e.text statement
      → DoesAsked d e.session (resolution d.tables d.indexes statement) e.reply new
      → Answers d e new
  says_none : ((statement : Statement) → Says e.text statement → ⊥)
      → e.reply ≡ Refused Syntax → new ≡ d → Answers d e new

-- an entry that may come next, and the database after it
pub record IsNext (d : Database) (last_phase : ℕ) (e : Entry) (new : Database) : Type 0 where
  pub from : 1 ≤ e.session
  pub to : e.session ≤ 8
  pub phase : last_phase ≤ e.phase
  pub answer : Answers d e new

-- from a database and a phase on, the entries lead to a database
abbrev pub Leads : Database → ℕ → List Entry → Database → Type 0
Leads d phase [] last = last ≡ d
Leads d phase (e ∷ es) last = (t : Database) × IsNext d phase e t × Leads t e.phase es last

-- A LEGAL HISTORY: sessions are 1 to 8, phases never fall, and from the empty database on each
-- reply is one that its call may have.
abbrev pub IsLegal : List Entry → Type 0
IsLegal entries = (last : Database) × Leads empty 0 entries last
