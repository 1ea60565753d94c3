-- The transcript of a history.
use Rattle.std.specs.Prelude.{◌≡◌, ℕ, ℤ, ◌+◌, ◌-◌, ◌^◌, ◌<◌, ◌≤◌, List, [], ◌∷◌, ◌++◌, Bool, true, false, not, nat_le, ◌&&◌, ◌||◌, ◌==◌, if◌then◌else◌, codes, decimal, map, flat_map}
use Rattle.std.specs.Int.Signed.{mag}
use Rattle.std.specs.List.{list_all, AllByRecursion}
use Rattle.std.specs.Fmt.{signed_decimal}
use Rattle.rv_value.specs.declared.value.Value.{Value}
use Rattle.rv_value.specs.declared.value.Value.TheVariants.{Null, Int, Str}
use Rattle.rv_judge.specs.Words.{control_word, strategy_word}
use Rattle.rv_lang.specs.Tokens.{quotes_twice}
use Rattle.rv_lang.specs.declared.reply.Which.{Which}
use Rattle.rv_lang.specs.declared.reply.Which.TheVariants as limits
use Rattle.rv_lang.specs.declared.reply.Rival.{Rival}
use Rattle.rv_lang.specs.declared.reply.Rival.TheVariants as rivals
use Rattle.rv_lang.specs.declared.reply.Refusal.{Refusal}
use Rattle.rv_lang.specs.declared.reply.Refusal.TheVariants as refusals
use Rattle.rv_lang.specs.declared.reply.ShownEvent.{ShownEvent}
use Rattle.rv_lang.specs.declared.reply.ShownEvent.TheVariants as events
use Rattle.rv_lang.specs.declared.reply.Shown.{Shown}
use Rattle.rv_lang.specs.declared.reply.Reply.{Reply}
use Rattle.rv_lang.specs.declared.reply.Reply.TheVariants as replies
use Rattle.rv_model.specs.declared.entry.Entry.{Entry}

-- NULL, decimal digits with a sign where negative, or a text in quotes
abbrev pub value_text : Value → List ℕ
value_text Null = codes "NULL"
value_text (Int z) = signed_decimal z
value_text (Str t) = 39 ∷ quotes_twice t ++ 39 ∷ []

-- the values after the first
abbrev pub more_text : List Value → List ℕ
more_text [] = []
more_text (v ∷ vs) = codes ", " ++ value_text v ++ more_text vs

-- values, joined by ", "
abbrev pub values_text : List Value → List ℕ
values_text [] = []
values_text (v ∷ vs) = value_text v ++ more_text vs

-- the word for a limit
abbrev pub limit_word : Which → List ℕ
limit_word limits.Name = codes "name"
limit_word limits.Text = codes "text"
limit_word limits.Columns = codes "columns"
limit_word limits.Key = codes "key"
limit_word limits.List = codes "list"
limit_word limits.Atoms = codes "atoms"
limit_word limits.Groups = codes "groups"
limit_word limits.Joined = codes "joined"
limit_word limits.Returned = codes "returned"
limit_word limits.Order = codes "order"
limit_word limits.Steps = codes "steps"
limit_word limits.Tables = codes "tables"
limit_word limits.Indexes = codes "indexes"
limit_word limits.Cursors = codes "cursors"
limit_word limits.Rows = codes "rows"
limit_word limits.Pending = codes "pending"

-- where a rival is: nothing for one that the transaction sees, else its commit or transaction
abbrev pub rival_text : Rival → List ℕ
rival_text rivals.View = []
rival_text (rivals.Commit commit) = codes " by commit " ++ decimal commit
rival_text (rivals.Txn txn) = codes " by txn " ++ decimal txn

-- how a refusal is written
abbrev pub refusal_text : Refusal → List ℕ
refusal_text refusals.Syntax = codes "syntax"
refusal_text (refusals.Unknown name) = codes "unknown " ++ name
refusal_text (refusals.Exists name) = codes "exists " ++ name
refusal_text (refusals.Kind name) = codes "kind " ++ name
refusal_text (refusals.Active txn) = codes "active " ++ decimal txn
refusal_text refusals.NoTransaction = codes "no transaction"
refusal_text (refusals.Busy txn) = codes "busy " ++ decimal txn
refusal_text refusals.ReadOnly = codes "read only"
refusal_text (refusals.Changed row commit) =
    codes "changed " ++ decimal row.0 ++ codes " by " ++ decimal commit
refusal_text (refusals.Held row txn) = codes "held " ++ decimal row.0 ++ codes " by " ++ decimal txn
refusal_text (refusals.NoCursor name) = codes "no cursor " ++ name
refusal_text (refusals.CursorOpen name) = codes "cursor open " ++ name
refusal_text (refusals.Limit which n) = codes "limit " ++ limit_word which ++ 32 ∷ decimal n
refusal_text (refusals.Duplicate row by) = codes "duplicate " ++ decimal row.0 ++ rival_text by

-- the words for an event
abbrev pub event_words : ShownEvent → List (List ℕ)
event_words (events.At control) = control_word control ∷ []
event_words (events.Scan name) = codes "scan" ∷ name ∷ []
event_words (events.List name keys) = codes "list" ∷ name ∷ decimal keys ∷ []
event_words (events.Drop name) = codes "drop" ∷ name ∷ []
event_words events.Full = codes "full" ∷ []
event_words events.Stop = codes "stop" ∷ []

-- the counts, each behind its word
abbrev pub count_words : Shown → List (List ℕ)
count_words shown = codes "pages" ∷ decimal shown.pages
    ∷ codes "leaves" ∷ decimal shown.leaves ∷ codes "fetches" ∷ decimal shown.fetches ∷ []

-- the strategy, the events and the counts
abbrev pub trace_words : Shown → List (List ℕ)
trace_words shown =
    strategy_word shown.strategy ∷ (flat_map event_words shown.events ++ count_words shown)

-- each word behind a space
abbrev pub words_text : List (List ℕ) → List ℕ
words_text words = flat_map (λ (word : List ℕ). 32 ∷ word) words

-- how a reply is written
abbrev pub reply_text : Reply → List ℕ
reply_text replies.Created = codes "created"
reply_text (replies.Began n) = codes "began " ++ decimal n
reply_text (replies.Inserted row) = codes "inserted " ++ decimal row.0
reply_text (replies.Touched n) = codes "touched " ++ decimal n
reply_text (replies.Committed n) = codes "committed " ++ decimal n
reply_text replies.RolledBack = codes "rolled back"
reply_text replies.Opened = codes "opened"
reply_text (replies.Row values) = codes "row " ++ values_text values
reply_text replies.End = codes "end"
reply_text replies.Closed = codes "closed"
reply_text (replies.Stepped n) = codes "stepped " ++ decimal n
reply_text (replies.Trace shown) = codes "trace" ++ words_text (trace_words shown)
reply_text (replies.Refused refusal) = refusal_text refusal

-- a line with the session and the text as given, and a line with "= " and the reply
abbrev pub entry_text : Entry → List ℕ
entry_text e = decimal e.session ++ 32 ∷ e.text ++ codes "\n= " ++ reply_text e.reply ++ 10 ∷ []

-- THE TRANSCRIPT: the entries, one after another
abbrev pub text : List Entry → List ℕ
text entries = flat_map entry_text entries

-- No byte is a line feed.
abbrev pub IsLine : List ℕ → Type 0
IsLine bytes = list_all (λ c. not (c == 10)) bytes ≡ true

abbrev pub is_capital : ℕ → Bool
is_capital c = nat_le 65 c && nat_le c 90

abbrev pub is_name_byte : ℕ → Bool
is_name_byte c = is_capital c || ((nat_le 48 c && nat_le c 57) || (c == 95))

-- a capital letter, and then capital letters, digits and `_`
abbrev pub IsName : List ℕ → Type 0
IsName [] = ⊥
IsName (c ∷ cs) = (is_capital c ≡ true) × (list_all is_name_byte cs ≡ true)

-- An integer is an i64 (the magnitude of `negsuc n`, which is -(n + 1), is n); no text holds a character below U+0020.
abbrev pub IsPlainValue : Value → Type 0
IsPlainValue Null = Unit {0}
IsPlainValue (Int z) = mag z < 2 ^ 63
IsPlainValue (Str t) = list_all (nat_le 32) t ≡ true

abbrev pub IsPlainRival : Rival → Type 0
IsPlainRival rivals.View = Unit {0}
IsPlainRival (rivals.Commit commit) = commit < 2 ^ 64
IsPlainRival (rivals.Txn txn) = txn < 2 ^ 64

abbrev pub IsPlainRefusal : Refusal → Type 0
IsPlainRefusal refusals.Syntax = Unit {0}
IsPlainRefusal (refusals.Unknown name) = IsName name
IsPlainRefusal (refusals.Exists name) = IsName name
IsPlainRefusal (refusals.Kind name) = IsName name
IsPlainRefusal (refusals.Active txn) = txn < 2 ^ 64
IsPlainRefusal refusals.NoTransaction = Unit {0}
IsPlainRefusal (refusals.Busy txn) = txn < 2 ^ 64
IsPlainRefusal refusals.ReadOnly = Unit {0}
IsPlainRefusal (refusals.Changed row commit) = (row.0 < 2 ^ 64) × (commit < 2 ^ 64)
IsPlainRefusal (refusals.Held row txn) = (row.0 < 2 ^ 64) × (txn < 2 ^ 64)
IsPlainRefusal (refusals.NoCursor name) = IsName name
IsPlainRefusal (refusals.CursorOpen name) = IsName name
IsPlainRefusal (refusals.Limit which number) = number < 2 ^ 64
IsPlainRefusal (refusals.Duplicate row by) = (row.0 < 2 ^ 64) × IsPlainRival by

abbrev pub IsPlainEvent : ShownEvent → Type 0
IsPlainEvent (events.At control) = Unit {0}
IsPlainEvent (events.Scan name) = IsName name
IsPlainEvent (events.List name keys) = IsName name × (keys < 2 ^ 64)
IsPlainEvent (events.Drop name) = IsName name
IsPlainEvent events.Full = Unit {0}
IsPlainEvent events.Stop = Unit {0}

pub record IsPlainTrace (shown : Shown) : Type 0 where
  pub events : AllByRecursion IsPlainEvent shown.events
  pub pages : shown.pages < 2 ^ 64
  pub leaves : shown.leaves < 2 ^ 64
  pub fetches : shown.fetches < 2 ^ 64

abbrev pub IsPlainReply : Reply → Type 0
IsPlainReply replies.Created = Unit {0}
IsPlainReply (replies.Began n) = n < 2 ^ 64
IsPlainReply (replies.Inserted row) = row.0 < 2 ^ 64
IsPlainReply (replies.Touched n) = n < 2 ^ 64
IsPlainReply (replies.Committed n) = n < 2 ^ 64
IsPlainReply replies.RolledBack = Unit {0}
IsPlainReply replies.Opened = Unit {0}
IsPlainReply (replies.Row values) = AllByRecursion IsPlainValue values
IsPlainReply replies.End = Unit {0}
IsPlainReply replies.Closed = Unit {0}
IsPlainReply (replies.Stepped n) = n < 2 ^ 64
IsPlainReply (replies.Trace shown) = IsPlainTrace shown
IsPlainReply (replies.Refused refusal) = IsPlainRefusal refusal

-- An entry whose session is 1 to 8, whose text is one line, and whose reply is plain.
pub record IsPlain (e : Entry) : Type 0 where
  pub from : 1 ≤ e.session
  pub to : e.session ≤ 8
  pub asked : IsLine e.text
  pub answered : IsPlainReply e.reply

-- Equal in all but the phase.
pub record SameButPhase (a b : Entry) : Type 0 where
  pub session : a.session ≡ b.session
  pub text : a.text ≡ b.text
  pub reply : a.reply ≡ b.reply

abbrev pub AllSameButPhase : List Entry → List Entry → Type 0
AllSameButPhase [] [] = Unit {0}
AllSameButPhase [] (b ∷ bs) = ⊥
AllSameButPhase (a ∷ rest) [] = ⊥
AllSameButPhase (a ∷ rest) (b ∷ bs) = SameButPhase a b × AllSameButPhase rest bs

-- Two lists of plain entries with the same transcript are equal in all but phases.
abbrev pub TextTells : Type 0
TextTells =
    (old new : List Entry) → AllByRecursion IsPlain old → AllByRecursion IsPlain new → text old ≡ text new
    → AllSameButPhase old new
