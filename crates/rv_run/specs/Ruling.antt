-- WHICH JUDGE RULES: the calls of a run, one after another, each answered under the judge of its phase.
use Rattle.std.specs.Prelude.{◌≡◌, ◌+◌, ℕ, List, [], ◌∷◌, ◌++◌, Some, map, slice_get, slice_set, unwrap_or}
use Rattle.rv_judge.specs.declared.judging.Facts.{Facts}
use Rattle.rv_judge.specs.Verdicts.{Ruling}
use Rattle.rv_lang.specs.declared.reply.Reply.{Reply}
use Rattle.rv_reader.specs.Shown.{Shown as StoreShown}
use Rattle.rv_script.specs.declared.scripts.Phase.{Phase}
use Rattle.rv_script.specs.declared.scripts.Script.{Script}
use Rattle.rv_model.specs.Database.{empty}
use Rattle.rv_model.specs.declared.entry.Entry.{Entry}
use Rattle.rv_words.specs.declared.choices.Asked.{Asked}
use Rattle.rv_core.specs.declared.settings.Settings.{Settings}
use Rattle.rv_core.specs.Core.{Answers, Shown}
use Rattle.rv_core.specs.Obeying.{SeesSame, under}
use Rattle.rv_run.specs.Script.{Call, calls_in}

-- a judge: what it would rule, and where it stands
pub record Judging : Type 0 where
  pub would : ℕ → Facts → Ruling
  pub state : ℕ

abbrev pub judging : (ℕ → Facts → Ruling) → ℕ → Judging
judging would state = record { would = would; state = state }

-- a run between two calls: its core, and all judges by number
pub record Between (S : Type 0) : Type 0 where
  pub core : Shown S
  pub judges : List Judging

abbrev pub between : {S : Type 0} → Shown S → List Judging → Between S
between core judges = record { core = core; judges = judges }

abbrev pub in_phase : {S : Type 0} → ℕ → Between S → Between S
in_phase phase b = record b { core = record b.core { phase = phase } }

-- what the words ask of the work of cursors
abbrev pub settings_of : Asked → Settings
settings_of asked = record { steps = asked.steps; race = asked.race }

-- a call, and the number of the judge under which it is made
pub record RuledCall : Type 0 where
  pub call : Call
  pub judge : ℕ

abbrev pub ruled_by : ℕ → Call → RuledCall
ruled_by judge c = record { call = c; judge = judge }

-- The calls of phases numbered from one on, each under the judge that its phase names; where it names none, under the
-- one before.
abbrev pub ruled_from : ℕ → ℕ → List Phase → List RuledCall
ruled_from judge phase [] = []
ruled_from judge phase (p ∷ ps) =
    map (ruled_by (unwrap_or p.judge judge)) (calls_in phase p.lines)
    ++ ruled_from (unwrap_or p.judge judge) (phase + 1) ps

-- A CALL IS ANSWERED UNDER ITS JUDGE, who rules from where he stands; no other judge moves. What the cursors that are
-- open behind it see is what they saw before it.
pub record AnswersUnder {S : Type 0} (shows : S → StoreShown) (settings : Settings) (c : RuledCall)
    (old new : Between S) : Type 0 where
  pub judge : Judging
  pub seated : slice_get old.judges c.judge ≡ Some judge
  pub reply : Reply
  pub stands : ℕ
  pub answers : Answers (under (shows old.core.store) judge.would settings) judge.state stands
      (in_phase c.call.phase old).core new.core c.call.session c.call.text reply
  pub others : new.judges ≡ slice_set old.judges c.judge (judging judge.would stands)
  pub sees : SeesSame (shows old.core.store) (shows new.core.store) new.core.opens

-- these calls, one after another; behind the last one other phases may have begun
abbrev pub AnswersAll : {S : Type 0} → (S → StoreShown) → Settings → List RuledCall → Between S → Between S → Type 0
AnswersAll shows settings [] old new = new ≡ in_phase new.core.phase old
AnswersAll {S = S} shows settings (c ∷ cs) old new =
    (mid : Between S) × AnswersUnder shows settings c old mid × AnswersAll shows settings cs mid new

-- The first of these calls, of which this history tells: all of them, or those before one that found no memory.
pub record AnswersFirst {S : Type 0} (shows : S → StoreShown) (settings : Settings) (all : List RuledCall)
    (old : Between S) (history : List Entry) : Type 0 where
  pub made : List RuledCall
  pub rest : List RuledCall
  pub whole : all ≡ made ++ rest
  pub end : Between S
  pub answers : AnswersAll shows settings made old end
  pub told : history ≡ end.core.history

-- a core with no call made, over a store without tables and commits
abbrev pub fresh : {S : Type 0} → S → Shown S
fresh store = record { history = []; phase = 1; store = store; db = empty; horizon = 0; opens = []; opened = 1 }

-- ALL CALLS OF A SCRIPT, from a fresh core over this store on, among these judges, of which the one of this number
-- rules first
pub record CallsUnder {S : Type 0} (shows : S → StoreShown) (settings : Settings) (store : S) (judges : List Judging)
    (first : ℕ) (core : Shown S) (script : Script) : Type 0 where
  pub stand : List Judging
  pub answers : AnswersAll shows settings (ruled_from first 1 script.phases) (between (fresh store) judges)
      (between core stand)

-- the same of its first calls
abbrev pub FirstCallsUnder : {S : Type 0} → (S → StoreShown) → Settings → S → List Judging → ℕ → Shown S → Script
    → Type 0
FirstCallsUnder shows settings store judges first core script =
    AnswersFirst shows settings (ruled_from first 1 script.phases) (between (fresh store) judges) core.history
