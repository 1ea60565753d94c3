-- Replies, as they are read.
use Rattle.std.specs.Prelude.{ℕ, List, [], ◌∷◌, ◌==◌, Option, Some, None, bytes_eq, codes, find, if◌then◌else◌}
use Rattle.rv_value.specs.declared.value.Value.{Value}
use Rattle.rv_lang.specs.declared.reply.Which.{Which}
use Rattle.rv_lang.specs.declared.reply.Which.TheVariants as limits
use Rattle.rv_lang.specs.declared.reply.Rival.{Rival}
use Rattle.rv_lang.specs.declared.reply.Rival.TheVariants as rivals
use Rattle.rv_lang.specs.declared.reply.Refusal.TheVariants as refusals
use Rattle.rv_lang.specs.declared.reply.Shown.{Shown}
use Rattle.rv_lang.specs.declared.reply.Reply.{Reply}
use Rattle.rv_lang.specs.declared.reply.Reply.TheVariants as replies
use Rattle.rv_model.specs.Transcript.{limit_word}
use Rattle.rv_text.specs.Lines.{cut}
use Rattle.rv_text.specs.Values.{number_at, values_at}
use Rattle.rv_text.specs.Traces.{is_name, trace_at}

-- what follows a word
abbrev pub after : List ℕ → List ℕ → Option (List ℕ)
after [] text = Some text
after (c ∷ cs) [] = None
after (c ∷ cs) (d ∷ ds) = if c == d then after cs ds else None

-- what is read behind a word
abbrev pub read_behind : {A : Type 0} → Option (List ℕ) → (List ℕ → Option A) → Option A
read_behind None go = None
read_behind (Some rest) go = go rest

abbrev pub number_behind : List ℕ → List ℕ → Option ℕ
number_behind word text = read_behind (after word text) (λ rest. number_at rest)

abbrev pub name_at : List ℕ → Option (List ℕ)
name_at word = if is_name word then Some word else None

abbrev pub name_behind : List ℕ → List ℕ → Option (List ℕ)
name_behind word text = read_behind (after word text) (λ rest. name_at rest)

abbrev pub made : {A : Type 0} → (A → Reply) → Option A → Option Reply
made make None = None
made make (Some x) = Some (make x)

-- the first that is there
abbrev pub first_of : List (Option Reply) → Option Reply
first_of [] = None
first_of (None ∷ more) = first_of more
first_of ((Some r) ∷ more) = Some r

abbrev pub word_is : List ℕ → Reply → List ℕ → Option Reply
word_is word reply text = if bytes_eq text word then Some reply else None

-- replies that are always the same words
abbrev pub lone_at : List ℕ → Option Reply
lone_at text = first_of (
    word_is (codes "created") replies.Created text
    ∷ word_is (codes "rolled back") replies.RolledBack text
    ∷ word_is (codes "opened") replies.Opened text
    ∷ word_is (codes "end") replies.End text
    ∷ word_is (codes "closed") replies.Closed text
    ∷ word_is (codes "syntax") (replies.Refused refusals.Syntax) text
    ∷ word_is (codes "no transaction") (replies.Refused refusals.NoTransaction) text
    ∷ word_is (codes "read only") (replies.Refused refusals.ReadOnly) text
    ∷ [])

-- replies of a word and a number
abbrev pub numbered_at : List ℕ → Option Reply
numbered_at text = first_of (
    made (λ n. replies.Began n) (number_behind (codes "began ") text)
    ∷ made (λ n. replies.Inserted (record { 0 = n })) (number_behind (codes "inserted ") text)
    ∷ made (λ n. replies.Touched n) (number_behind (codes "touched ") text)
    ∷ made (λ n. replies.Committed n) (number_behind (codes "committed ") text)
    ∷ made (λ n. replies.Stepped n) (number_behind (codes "stepped ") text)
    ∷ made (λ n. replies.Refused (refusals.Active n)) (number_behind (codes "active ") text)
    ∷ made (λ n. replies.Refused (refusals.Busy n)) (number_behind (codes "busy ") text)
    ∷ [])

-- refusals of words and a name
abbrev pub named_at : List ℕ → Option Reply
named_at text = first_of (
    made (λ name. replies.Refused (refusals.Unknown name)) (name_behind (codes "unknown ") text)
    ∷ made (λ name. replies.Refused (refusals.Exists name)) (name_behind (codes "exists ") text)
    ∷ made (λ name. replies.Refused (refusals.Kind name)) (name_behind (codes "kind ") text)
    ∷ made (λ name. replies.Refused (refusals.NoCursor name)) (name_behind (codes "no cursor ") text)
    ∷ made (λ name. replies.Refused (refusals.CursorOpen name)) (name_behind (codes "cursor open ") text)
    ∷ [])

pub record Pair (A B : Type 0) : Type 0 where
  pub first : A
  pub second : B

abbrev pub both_of : {A B : Type 0} → Option A → Option B → Option (Pair A B)
both_of None b = None
both_of (Some a) None = None
both_of (Some a) (Some b) = Some (record { first = a; second = b })

-- a number, ` by ` and a number
abbrev pub pair_at : List ℕ → Option (Pair ℕ ℕ)
pair_at text =
    both_of (number_at (cut 32 text).word) (read_behind (cut 32 text).more (λ rest. number_behind (codes "by ") rest))

abbrev pub limits_all : List Which
limits_all =
    limits.Name ∷ limits.Text ∷ limits.Columns ∷ limits.Key ∷ limits.List ∷ limits.Atoms ∷ limits.Groups
    ∷ limits.Joined ∷ limits.Returned ∷ limits.Order ∷ limits.Steps ∷ limits.Tables ∷ limits.Indexes ∷ limits.Cursors
    ∷ limits.Rows ∷ limits.Pending ∷ []

abbrev pub which_at : List ℕ → Option Which
which_at word = find (λ w. bytes_eq (limit_word w) word) limits_all

-- the word of a limit, a space and a number
abbrev pub limit_at : List ℕ → Option (Pair Which ℕ)
limit_at text = both_of (which_at (cut 32 text).word) (read_behind (cut 32 text).more (λ rest. number_at rest))

-- the commit or else the transaction of a rival
abbrev pub rival_of : Option ℕ → Option ℕ → Option Rival
rival_of (Some commit) txn = Some (rivals.Commit commit)
rival_of None (Some txn) = Some (rivals.Txn txn)
rival_of None None = None

-- what stands behind a rival's row and a space; nothing behind one in the transaction's own view
abbrev pub rival_at : Option (List ℕ) → Option Rival
rival_at None = Some rivals.View
rival_at (Some rest) = rival_of (number_behind (codes "by commit ") rest) (number_behind (codes "by txn ") rest)

-- a number, and where the rival of this row is
abbrev pub duplicate_at : List ℕ → Option (Pair ℕ Rival)
duplicate_at text = both_of (number_at (cut 32 text).word) (rival_at (cut 32 text).more)

-- refusals of a word and two things
abbrev pub paired_at : List ℕ → Option Reply
paired_at text = first_of (
    made (λ (p : Pair ℕ ℕ). replies.Refused (refusals.Changed (record { 0 = p.first }) p.second))
    (read_behind (after (codes "changed ") text) (λ rest. pair_at rest))
    ∷ made (λ (p : Pair ℕ ℕ). replies.Refused (refusals.Held (record { 0 = p.first }) p.second))
    (read_behind (after (codes "held ") text) (λ rest. pair_at rest))
    ∷ made (λ (p : Pair Which ℕ). replies.Refused (refusals.Limit p.first p.second))
    (read_behind (after (codes "limit ") text) (λ rest. limit_at rest))
    ∷ made (λ (p : Pair ℕ Rival). replies.Refused (refusals.Duplicate (record { 0 = p.first }) p.second))
    (read_behind (after (codes "duplicate ") text) (λ rest. duplicate_at rest))
    ∷ [])

abbrev pub row_at : List ℕ → Option Reply
row_at text =
    made (λ (vs : List Value). replies.Row vs) (read_behind (after (codes "row ") text) (λ rest. values_at rest))

abbrev pub shown_at : List ℕ → Option Reply
shown_at text =
    made (λ (shown : Shown). replies.Trace shown) (read_behind (after (codes "trace ") text) (λ rest. trace_at rest))

abbrev pub reply_at : List ℕ → Option Reply
reply_at text =
    first_of (lone_at text ∷ numbered_at text ∷ row_at text ∷ named_at text ∷ paired_at text ∷ shown_at text ∷ [])
