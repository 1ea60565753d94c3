-- Believed: plain entries, and the law that every entry of a legal history whose text is a line is
-- one.
--
-- A plain entry has bounds on no number: a legal history may have any number of entries, and SHOW
-- may count any number of reads.
use Rattle.std.specs.Prelude.{◌≡◌, ℕ, ◌≤◌, List, true, nat_le, IsUtf8}
use Rattle.std.specs.List.{list_all, AllByRecursion}
use Rattle.rv_value.specs.declared.value.Value.{Value}
use Rattle.rv_value.specs.declared.value.Value.TheVariants.{Str}
use Rattle.rv_lang.specs.declared.reply.Refusal.{Refusal}
use Rattle.rv_lang.specs.declared.reply.Refusal.TheVariants as refusals
use Rattle.rv_lang.specs.declared.reply.ShownEvent.{ShownEvent}
use Rattle.rv_lang.specs.declared.reply.ShownEvent.TheVariants as events
use Rattle.rv_lang.specs.declared.reply.Reply.{Reply}
use Rattle.rv_lang.specs.declared.reply.Reply.TheVariants as replies
use Rattle.rv_model.specs.declared.entry.Entry.{Entry}
use Rattle.rv_model.specs.Transcript.{IsLine, IsName as IsPlainName}
use Rattle.rv_believed.specs.History.{IsLegal}

-- no text holds a character below U+0020
abbrev pub IsPlainValue : Value → Type 0
IsPlainValue (Str t) = list_all (nat_le 32) t ≡ true
IsPlainValue v = Unit {0}

-- a name that is shown is a capital letter, and then capital letters, digits and `_`
abbrev pub IsPlainRefusal : Refusal → Type 0
IsPlainRefusal (refusals.Unknown name) = IsPlainName name
IsPlainRefusal (refusals.Exists name) = IsPlainName name
IsPlainRefusal (refusals.Kind name) = IsPlainName name
IsPlainRefusal (refusals.NoCursor name) = IsPlainName name
IsPlainRefusal (refusals.CursorOpen name) = IsPlainName name
IsPlainRefusal refusal = Unit {0}

-- so are the names of indexes
abbrev pub IsPlainEvent : ShownEvent → Type 0
IsPlainEvent (events.Scan name) = IsPlainName name
IsPlainEvent (events.List name keys) = IsPlainName name
IsPlainEvent (events.Drop name) = IsPlainName name
IsPlainEvent event = Unit {0}

-- what a reply shows of texts and names is plain
abbrev pub IsPlainReply : Reply → Type 0
IsPlainReply (replies.Row values) = AllByRecursion IsPlainValue values
IsPlainReply (replies.Trace shown) = AllByRecursion IsPlainEvent shown.events
IsPlainReply (replies.Refused refusal) = IsPlainRefusal refusal
IsPlainReply reply = Unit {0}

-- a text that a script's line may hold: no line feed, and UTF-8
pub record IsLineOfText (text : List ℕ) : Type 0 where
  pub line : IsLine text
  pub utf8 : IsUtf8 text

-- a session from 1 to 8, a text of one line, and a plain reply
pub record IsPlain (e : Entry) : Type 0 where
  pub from : 1 ≤ e.session
  pub to : e.session ≤ 8
  pub asked : IsLineOfText e.text
  pub answered : IsPlainReply e.reply

-- LAW: the entries of a legal history are plain where their texts are lines.
abbrev pub LegalIsPlain : Type 0
LegalIsPlain = (entries : List Entry) → IsLegal entries
    → AllByRecursion (λ (e : Entry). IsLineOfText e.text) entries → AllByRecursion IsPlain entries
