-- What a core does at the turns of threads, while it is lent to them.
use Rattle.std.specs.Prelude.{◌≡◌, ℕ, List, Option, Some, None, Result, IfOk, OnErr}
use Rattle.rv_value.specs.declared.duplicate.NoMemory.{NoMemory}
use Rattle.rv_judge.specs.declared.counting.Counts.{Counts}
use Rattle.rv_judge.specs.declared.judging.Facts.{Facts}
use Rattle.rv_judge.specs.Counting.{no_counts}
use Rattle.rv_judge.specs.Verdicts.{Ruling}
use Rattle.rv_lang.specs.declared.reply.Reply.{Reply}
use Rattle.rv_reader.specs.Shown.{Shown as StoreShown}
use Rattle.rv_jscan.specs.declared.jscan.Given.{Given}
use Rattle.rv_jscan.specs.declared.jscan.Taken.{Taken}
use Rattle.rv_jscan.specs.Pieces.{Pieced}
use Rattle.rv_cursor.specs.declared.cursor.Open.{Open}
use Rattle.rv_core.specs.Core.{Answers, AnswersPart, Shown, Unanswered, horizon_of}
use Rattle.rv_core.specs.declared.engine.PartOf.{PartOf}
use Rattle.rv_core.specs.declared.engine.PartOf.TheVariants.{Answered, Working}
use Rattle.rv_core.specs.declared.settings.Settings.{Settings}
use Rattle.rv_core.specs.Obeying.{SeesSame, under}
use Rattle.rv_core.specs.Pieces.{GivesTo, TakesNext, TriesNext, next_waiting, numbered}
use Rattle.rv_shared.specs.Leads.{Event}
use Rattle.rv_shared.specs.Served.{Shown as SharedShown}

-- what threads see of a core
abbrev pub shared : {S : Type 0} → Shown S → SharedShown
shared core = record { history = core.history; phase = core.phase }

-- A TAKE of the next awaited piece after that of the cursor of a number: it is that of `take_piece` of the core, with a
-- counter of its own. Nothing but the plan of its cursor is changed.
pub record TakesPiece {S : Type 0} (shows : StoreShown) (after : ℕ) (old new : Shown S)
    (result : Result Taken NoMemory) : Type 0 where
  pub read : Counts
  pub taken : IfOk result (λ (taken : Taken). TakesNext shows (next_waiting after old.opens) no_counts read old.opens
      new.opens taken)
  pub tried : OnErr result (TriesNext shows (next_waiting after old.opens) no_counts read old.opens new.opens)
  pub same : new ≡ record old { opens = new.opens }

-- A GIVE, under a judge that stood and now stands there: it is that of `give_piece` of the core.
pub record GivesPiece {S : Type 0} (would : ℕ → Facts → Ruling) (stood stands : ℕ) (piece : Pieced) (old new : Shown S)
    (result : Result Given NoMemory) : Type 0 where
  pub given : IfOk result (λ (given : Given). GivesTo (numbered piece.id.cursor old.opens) would stood stands old.opens
      piece given new.opens)
  pub err : OnErr result ((new.opens ≡ old.opens) × (stands ≡ stood))
  pub same : new ≡ record old { opens = new.opens }

-- A SWEEP: the store keeps what the transactions need
pub record Sweeps {S : Type 0} (old new : Shown S) : Type 0 where
  pub swept : new ≡ record old { store = new.store; horizon = horizon_of old.db }

-- WHERE A LENT CORE STANDS between two events: what it shows, what its judge would rule, where the judge stands, and
-- what is set of the work of cursors
pub record Point (S : Type 0) : Type 0 where
  pub core : Shown S
  pub would : ℕ → Facts → Ruling
  pub state : ℕ
  pub settings : Settings

abbrev pub point : {S : Type 0} → Shown S → (ℕ → Facts → Ruling) → ℕ → Settings → Point S
point core would state settings = record { core = core; would = would; state = state; settings = settings }

-- The same judge rules behind an event as before it, and the same is set of the work of cursors.
pub record KeepsRules {S : Type 0} (old new : Point S) : Type 0 where
  pub would : new.would ≡ old.would
  pub settings : new.settings ≡ old.settings

-- A CALL of a session is made under the judge that rules, from where he stands, and what is set of the work of cursors.
-- What the cursors that are open behind it see is what they saw before it.
pub record CalledOn {S : Type 0} (shows : S → StoreShown) (old : Point S) (session : ℕ) (text : List ℕ)
    (result : Result Reply NoMemory) (new : Point S) : Type 0 where
  pub ok : IfOk result (λ (reply : Reply). Answers (under (shows old.core.store) old.would old.settings) old.state
      new.state old.core new.core session text reply)
  pub err : OnErr result (Unanswered (under (shows old.core.store) old.would old.settings) old.state new.state
      old.core new.core session text)
  pub sees : SeesSame (shows old.core.store) (shows new.core.store) new.core.opens
  pub rules : KeepsRules old new

abbrev pub part_of : Option Reply → PartOf
part_of (Some reply) = Answered reply
part_of None = Working

-- ONE TURN'S PART of a call is made in the same way.
pub record PartOn {S : Type 0} (shows : S → StoreShown) (old : Point S) (session : ℕ) (text : List ℕ)
    (result : Result (Option Reply) NoMemory) (new : Point S) : Type 0 where
  pub ok : IfOk result (λ (part : Option Reply). AnswersPart (under (shows old.core.store) old.would old.settings)
      old.state new.state old.core new.core session text (part_of part))
  pub err : OnErr result (Unanswered (under (shows old.core.store) old.would old.settings) old.state new.state
      old.core new.core session text)
  pub sees : SeesSame (shows old.core.store) (shows new.core.store) new.core.opens
  pub rules : KeepsRules old new

-- A TAKE asks no judge.
pub record TakenOn {S : Type 0} (shows : S → StoreShown) (old : Point S) (after : ℕ) (result : Result Taken NoMemory)
    (new : Point S) : Type 0 where
  pub takes : TakesPiece (shows old.core.store) after old.core new.core result
  pub stands : new.state ≡ old.state
  pub rules : KeepsRules old new

-- A GIVE is judged by the judge that rules.
pub record GivenOn {S : Type 0} (old : Point S) (piece : Pieced) (result : Result Given NoMemory) (new : Point S)
    : Type 0 where
  pub gives : GivesPiece old.would old.state new.state piece old.core new.core result
  pub rules : KeepsRules old new

-- A SWEEP asks no judge, and open cursors see what they saw.
pub record SweptOn {S : Type 0} (shows : S → StoreShown) (old new : Point S) : Type 0 where
  pub sweeps : Sweeps old.core new.core
  pub sees : SeesSame (shows old.core.store) (shows new.core.store) new.core.opens
  pub stands : new.state ≡ old.state
  pub rules : KeepsRules old new

-- AN EVENT of a lent core: a session's call, one turn's part of one, a take, a give or a sweep
abbrev pub CoreEvent : {S : Type 0} → (S → StoreShown) → Point S → Point S → Type 0
CoreEvent shows = Event (CalledOn shows) (PartOn shows) (TakenOn shows) GivenOn (SweptOn shows)
