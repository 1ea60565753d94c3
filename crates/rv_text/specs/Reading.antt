-- What a reader of transcripts tells: the entries of which the bytes are the transcript, or the first line at which
-- they are none.
use Rattle.std.specs.Prelude.{◌≡◌, ℕ, zero, suc, ◌+◌, ◌-◌, ◌≤◌, List, [], ◌∷◌, ◌++◌, ◌==◌, if◌then◌else◌, IsUtf8}
use Rattle.std.specs.List.{AllByRecursion}
use Rattle.rv_value.specs.declared.value.Value.{Value}
use Rattle.rv_value.specs.declared.value.Value.TheVariants.{Str}
use Rattle.rv_lang.specs.declared.reply.Reply.{Reply}
use Rattle.rv_lang.specs.declared.reply.Reply.TheVariants as replies
use Rattle.rv_model.specs.declared.entry.Entry.{Entry}
use Rattle.rv_model.specs.Transcript.{text, IsPlain}
use Rattle.rv_text.specs.declared.reading.TextRead.{TextRead}
use Rattle.rv_text.specs.declared.reading.TextRead.TheVariants.{Entries, Bad}

-- A text can be held where it is UTF-8.
abbrev pub CanHoldValue : Value → Type 0
CanHoldValue (Str t) = IsUtf8 t
CanHoldValue v = Unit {0}

-- The values of a row are the only texts of a reply that are not plain names.
abbrev pub CanHoldReply : Reply → Type 0
CanHoldReply (replies.Row values) = AllByRecursion CanHoldValue values
CanHoldReply r = Unit {0}

-- A plain entry whose texts can be held.
pub record IsReadable (e : Entry) : Type 0 where
  pub plain : IsPlain e
  pub call : IsUtf8 e.text
  pub reply : CanHoldReply e.reply

abbrev pub AreReadable : List Entry → Type 0
AreReadable = AllByRecursion IsReadable

-- the first so many lines, each with its end; the last one may have none
abbrev pub front : ℕ → List ℕ → List ℕ
front zero bytes = []
front (suc k) [] = []
front (suc k) (c ∷ cs) = if c == 10 then c ∷ front k cs else c ∷ front (suc k) cs

-- how many line feeds there are
abbrev pub ends : List ℕ → ℕ
ends [] = 0
ends (c ∷ cs) = if c == 10 then suc (ends cs) else ends cs

-- A transcript of readable entries begins so.
pub record GoesOn (bytes : List ℕ) : Type 0 where
  pub entries : List Entry
  pub readable : AreReadable entries
  pub more : List ℕ
  pub is : text entries ≡ bytes ++ more

-- The bytes are a transcript of readable entries.
pub record IsTranscript (bytes : List ℕ) : Type 0 where
  pub entries : List Entry
  pub readable : AreReadable entries
  pub is : text entries ≡ bytes

-- The bytes are no transcript, and this is the first line, from 1, with which none begins: the lines before it begin
-- one. It is the line behind the last line feed where all complete lines begin one.
pub record StopsAt (line : ℕ) (bytes : List ℕ) : Type 0 where
  pub first : 1 ≤ line
  pub last : line ≤ ends bytes + 1
  pub before : GoesOn (front (line - 1) bytes)
  pub with_it : line ≤ ends bytes → ¬ (GoesOn (front line bytes))
  pub none : ¬ (IsTranscript bytes)

-- A transcript does not tell phases; they are 1.
abbrev pub InFirstPhase : Entry → Type 0
InFirstPhase e = e.phase ≡ 1

-- The entries are readable and the bytes are their transcript, or they stop being one at a line.
abbrev pub Tells : List ℕ → TextRead → Type 0
Tells bytes (Entries read) = AreReadable read.items × (text read.items ≡ bytes) × AllByRecursion InFirstPhase read.items
Tells bytes (Bad line) = StopsAt line bytes
