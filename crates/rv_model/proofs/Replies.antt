-- Equal texts are of equal replies.
use Rattle.std.proofs.Common.{◌≡◌, ℕ, ◌<◌, ◌^◌, ◌+◌, List, [], ◌∷◌, ◌++◌, refl, sym, ap, ◌∙◌, subst, Bool, true, false, cond, codes, eqb, not, Option, Some, None, append_assoc, bytes_eq, if◌then◌else◌, flat_map, arith}
use Rattle.std.specs.List.{list_all, AllByRecursion}
use Rattle.std.specs.Fmt.{decimal}
use Rattle.std.specs.Str.Parse.{digits_value}
use Rattle.std.proofs.lemmas.Fmt.{decimal_injective}
use Rattle.rv_value.specs.declared.value.Value.{Value}
use Rattle.rv_value.specs.declared.record.RowNo.{RowNo}
use Rattle.rv_lang.specs.declared.reply.Which.{Which}
use Rattle.rv_lang.specs.declared.reply.Which.TheVariants as limits
use Rattle.rv_lang.specs.declared.reply.Rival.{Rival}
use Rattle.rv_lang.specs.declared.reply.Rival.TheVariants as rivals
use Rattle.rv_lang.specs.declared.reply.Refusal.{Refusal}
use Rattle.rv_lang.specs.declared.reply.Refusal.TheVariants as refusals
use Rattle.rv_lang.specs.declared.reply.Shown.{Shown}
use Rattle.rv_lang.specs.declared.reply.Reply.{Reply}
use Rattle.rv_lang.specs.declared.reply.Reply.TheVariants as replies
use Rattle.rv_model.specs.Transcript.{values_text, reply_text, refusal_text, rival_text, limit_word, words_text, trace_words, IsPlainValue, IsPlainReply, IsPlainRefusal, IsPlainRival, IsPlainTrace}
use Rattle.rv_model.proofs.Cuts.{Stops, cut}
use Rattle.rv_model.proofs.Values.{values_same, numeric, decimal_pass, value_back}
use Rattle.rv_model.proofs.Traces.{trace_same, no_space}

-- what follows a word
abbrev after : List ℕ → List ℕ → Option (List ℕ)
after [] text = Some text
after (c ∷ cs) [] = None
after (c ∷ cs) (d ∷ ds) = cond (eqb c d) (after cs ds) None

abbrev or_else : {A : Type 0} → Option (List ℕ) → (List ℕ → A) → A → A
or_else (Some rest) f other = f rest
or_else None f other = other

-- the reply of a text, without the parts of a row, of a trace and of a refusal that shows two things
abbrev read : List ℕ → Reply
read t =
    (or_else (after (codes "created") t) (λ _. replies.Created)
    (or_else (after (codes "began ") t) (λ d. replies.Began (digits_value 10 d))
    (or_else (after (codes "inserted ") t) (λ d. replies.Inserted (record { 0 = digits_value 10 d }))
    (or_else (after (codes "touched ") t) (λ d. replies.Touched (digits_value 10 d))
    (or_else (after (codes "committed ") t) (λ d. replies.Committed (digits_value 10 d))
    (or_else (after (codes "rolled back") t) (λ _. replies.RolledBack)
    (or_else (after (codes "opened") t) (λ _. replies.Opened)
    (or_else (after (codes "row ") t) (λ _. replies.Row [])
    (or_else (after (codes "end") t) (λ _. replies.End)
    (or_else (after (codes "closed") t) (λ _. replies.Closed)
    (or_else (after (codes "stepped ") t) (λ d. replies.Stepped (digits_value 10 d))
    (or_else (after (codes "trace") t) (λ _. replies.End)
    (or_else (after (codes "syntax") t) (λ _. replies.Refused refusals.Syntax)
    (or_else (after (codes "unknown ") t) (λ d. replies.Refused (refusals.Unknown d))
    (or_else (after (codes "exists ") t) (λ d. replies.Refused (refusals.Exists d))
    (or_else (after (codes "kind ") t) (λ d. replies.Refused (refusals.Kind d))
    (or_else (after (codes "active ") t) (λ d. replies.Refused (refusals.Active (digits_value 10 d)))
    (or_else (after (codes "no transaction") t) (λ _. replies.Refused refusals.NoTransaction)
    (or_else (after (codes "busy ") t) (λ d. replies.Refused (refusals.Busy (digits_value 10 d)))
    (or_else (after (codes "read only") t) (λ _. replies.Refused refusals.ReadOnly)
    (or_else (after (codes "changed ") t) (λ _. replies.Refused (refusals.Changed (record { 0 = 0 }) 0))
    (or_else (after (codes "held ") t) (λ _. replies.Refused (refusals.Held (record { 0 = 0 }) 0))
    (or_else (after (codes "no cursor ") t) (λ d. replies.Refused (refusals.NoCursor d))
    (or_else (after (codes "cursor open ") t) (λ d. replies.Refused (refusals.CursorOpen d))
    (or_else (after (codes "limit ") t) (λ _. replies.Refused (refusals.Limit limits.Name 0))
    (or_else (after (codes "duplicate ") t) (λ _. replies.Refused (refusals.Duplicate (record { 0 = 0 }) rivals.View))
    replies.End))))))))))))))))))))))))))

-- a reply without those parts
abbrev shape : Reply → Reply
shape (replies.Row vs) = replies.Row []
shape (replies.Trace shown) = replies.End
shape (replies.Refused (refusals.Changed row commit)) = replies.Refused (refusals.Changed (record { 0 = 0 }) 0)
shape (replies.Refused (refusals.Held row txn)) = replies.Refused (refusals.Held (record { 0 = 0 }) 0)
shape (replies.Refused (refusals.Limit which number)) = replies.Refused (refusals.Limit limits.Name 0)
shape (replies.Refused (refusals.Duplicate row by)) = replies.Refused (refusals.Duplicate (record { 0 = 0 }) rivals.View)
shape reply = reply

read_is : (r : Reply) → IsPlainReply r → read (reply_text r) ≡ shape r
read_is replies.Created p = refl
read_is (replies.Began n) p = ap (λ (m : ℕ). replies.Began m) (value_back n p)
read_is (replies.Inserted row) p = ap (λ (m : ℕ). replies.Inserted (record { 0 = m })) (value_back row.0 p)
read_is (replies.Touched n) p = ap (λ (m : ℕ). replies.Touched m) (value_back n p)
read_is (replies.Committed n) p = ap (λ (m : ℕ). replies.Committed m) (value_back n p)
read_is replies.RolledBack p = refl
read_is replies.Opened p = refl
read_is (replies.Row vs) p = refl
read_is replies.End p = refl
read_is replies.Closed p = refl
read_is (replies.Stepped n) p = ap (λ (m : ℕ). replies.Stepped m) (value_back n p)
read_is (replies.Trace shown) p = refl
read_is (replies.Refused refusals.Syntax) p = refl
read_is (replies.Refused (refusals.Unknown name)) p = refl
read_is (replies.Refused (refusals.Exists name)) p = refl
read_is (replies.Refused (refusals.Kind name)) p = refl
read_is (replies.Refused (refusals.Active txn)) p = ap (λ (m : ℕ). replies.Refused (refusals.Active m)) (value_back txn p)
read_is (replies.Refused refusals.NoTransaction) p = refl
read_is (replies.Refused (refusals.Busy txn)) p = ap (λ (m : ℕ). replies.Refused (refusals.Busy m)) (value_back txn p)
read_is (replies.Refused refusals.ReadOnly) p = refl
read_is (replies.Refused (refusals.Changed row commit)) p = refl
read_is (replies.Refused (refusals.Held row txn)) p = refl
read_is (replies.Refused (refusals.NoCursor name)) p = refl
read_is (replies.Refused (refusals.CursorOpen name)) p = refl
read_is (replies.Refused (refusals.Limit which number)) p = refl
read_is (replies.Refused (refusals.Duplicate row by)) p = refl

abbrev row_of : Reply → List Value
row_of (replies.Row vs) = vs
row_of reply = []

abbrev pair_of : Reply → Option (ℕ × ℕ)
pair_of (replies.Refused (refusals.Changed row commit)) = Some (row.0, commit)
pair_of (replies.Refused (refusals.Held row txn)) = Some (row.0, txn)
pair_of reply = None

abbrev limit_of : Reply → Option (Which × ℕ)
limit_of (replies.Refused (refusals.Limit which number)) = Some (which, number)
limit_of reply = None

abbrev trace_of : Reply → Option Shown
trace_of (replies.Trace shown) = Some shown
trace_of reply = None

abbrev duplicate_of : Reply → Option (ℕ × Rival)
duplicate_of (replies.Refused (refusals.Duplicate row by)) = Some (row.0, by)
duplicate_of reply = None

abbrev pair_text : Option (ℕ × ℕ) → List ℕ
pair_text None = []
pair_text (Some p) = decimal p.0 ++ codes " by " ++ decimal p.1

abbrev limit_text : Option (Which × ℕ) → List ℕ
limit_text None = []
limit_text (Some p) = limit_word p.0 ++ 32 ∷ decimal p.1

abbrev trace_text : Option Shown → List ℕ
trace_text None = []
trace_text (Some shown) = words_text (trace_words shown)

-- (behind a space, so that it is no empty text)
abbrev duplicate_text : Option (ℕ × Rival) → List ℕ
duplicate_text None = []
duplicate_text (Some p) = 32 ∷ decimal p.0 ++ rival_text p.1

-- the bytes of the part that a reply has
abbrev row_part : List ℕ → List ℕ
row_part t = or_else (after (codes "row ") t) (λ d. d) []

abbrev pair_part : List ℕ → List ℕ
pair_part t = or_else (after (codes "changed ") t) (λ d. d) (or_else (after (codes "held ") t) (λ d. d) [])

abbrev limit_part : List ℕ → List ℕ
limit_part t = or_else (after (codes "limit ") t) (λ d. d) []

abbrev trace_part : List ℕ → List ℕ
trace_part t = or_else (after (codes "trace") t) (λ d. d) []

abbrev duplicate_part : List ℕ → List ℕ
duplicate_part t = or_else (after (codes "duplicate ") t) (λ d. 32 ∷ d) []

row_part_is : (r : Reply) → row_part (reply_text r) ≡ values_text (row_of r)
row_part_is replies.Created = refl
row_part_is (replies.Began n) = refl
row_part_is (replies.Inserted row) = refl
row_part_is (replies.Touched n) = refl
row_part_is (replies.Committed n) = refl
row_part_is replies.RolledBack = refl
row_part_is replies.Opened = refl
row_part_is (replies.Row vs) = refl
row_part_is replies.End = refl
row_part_is replies.Closed = refl
row_part_is (replies.Stepped n) = refl
row_part_is (replies.Trace shown) = refl
row_part_is (replies.Refused refusals.Syntax) = refl
row_part_is (replies.Refused (refusals.Unknown name)) = refl
row_part_is (replies.Refused (refusals.Exists name)) = refl
row_part_is (replies.Refused (refusals.Kind name)) = refl
row_part_is (replies.Refused (refusals.Active txn)) = refl
row_part_is (replies.Refused refusals.NoTransaction) = refl
row_part_is (replies.Refused (refusals.Busy txn)) = refl
row_part_is (replies.Refused refusals.ReadOnly) = refl
row_part_is (replies.Refused (refusals.Changed row commit)) = refl
row_part_is (replies.Refused (refusals.Held row txn)) = refl
row_part_is (replies.Refused (refusals.NoCursor name)) = refl
row_part_is (replies.Refused (refusals.CursorOpen name)) = refl
row_part_is (replies.Refused (refusals.Limit which number)) = refl
row_part_is (replies.Refused (refusals.Duplicate row by)) = refl

pair_part_is : (r : Reply) → pair_part (reply_text r) ≡ pair_text (pair_of r)
pair_part_is replies.Created = refl
pair_part_is (replies.Began n) = refl
pair_part_is (replies.Inserted row) = refl
pair_part_is (replies.Touched n) = refl
pair_part_is (replies.Committed n) = refl
pair_part_is replies.RolledBack = refl
pair_part_is replies.Opened = refl
pair_part_is (replies.Row vs) = refl
pair_part_is replies.End = refl
pair_part_is replies.Closed = refl
pair_part_is (replies.Stepped n) = refl
pair_part_is (replies.Trace shown) = refl
pair_part_is (replies.Refused refusals.Syntax) = refl
pair_part_is (replies.Refused (refusals.Unknown name)) = refl
pair_part_is (replies.Refused (refusals.Exists name)) = refl
pair_part_is (replies.Refused (refusals.Kind name)) = refl
pair_part_is (replies.Refused (refusals.Active txn)) = refl
pair_part_is (replies.Refused refusals.NoTransaction) = refl
pair_part_is (replies.Refused (refusals.Busy txn)) = refl
pair_part_is (replies.Refused refusals.ReadOnly) = refl
pair_part_is (replies.Refused (refusals.Changed row commit)) = refl
pair_part_is (replies.Refused (refusals.Held row txn)) = refl
pair_part_is (replies.Refused (refusals.NoCursor name)) = refl
pair_part_is (replies.Refused (refusals.CursorOpen name)) = refl
pair_part_is (replies.Refused (refusals.Limit which number)) = refl
pair_part_is (replies.Refused (refusals.Duplicate row by)) = refl

limit_part_is : (r : Reply) → limit_part (reply_text r) ≡ limit_text (limit_of r)
limit_part_is replies.Created = refl
limit_part_is (replies.Began n) = refl
limit_part_is (replies.Inserted row) = refl
limit_part_is (replies.Touched n) = refl
limit_part_is (replies.Committed n) = refl
limit_part_is replies.RolledBack = refl
limit_part_is replies.Opened = refl
limit_part_is (replies.Row vs) = refl
limit_part_is replies.End = refl
limit_part_is replies.Closed = refl
limit_part_is (replies.Stepped n) = refl
limit_part_is (replies.Trace shown) = refl
limit_part_is (replies.Refused refusals.Syntax) = refl
limit_part_is (replies.Refused (refusals.Unknown name)) = refl
limit_part_is (replies.Refused (refusals.Exists name)) = refl
limit_part_is (replies.Refused (refusals.Kind name)) = refl
limit_part_is (replies.Refused (refusals.Active txn)) = refl
limit_part_is (replies.Refused refusals.NoTransaction) = refl
limit_part_is (replies.Refused (refusals.Busy txn)) = refl
limit_part_is (replies.Refused refusals.ReadOnly) = refl
limit_part_is (replies.Refused (refusals.Changed row commit)) = refl
limit_part_is (replies.Refused (refusals.Held row txn)) = refl
limit_part_is (replies.Refused (refusals.NoCursor name)) = refl
limit_part_is (replies.Refused (refusals.CursorOpen name)) = refl
limit_part_is (replies.Refused (refusals.Limit which number)) = refl
limit_part_is (replies.Refused (refusals.Duplicate row by)) = refl

trace_part_is : (r : Reply) → trace_part (reply_text r) ≡ trace_text (trace_of r)
trace_part_is replies.Created = refl
trace_part_is (replies.Began n) = refl
trace_part_is (replies.Inserted row) = refl
trace_part_is (replies.Touched n) = refl
trace_part_is (replies.Committed n) = refl
trace_part_is replies.RolledBack = refl
trace_part_is replies.Opened = refl
trace_part_is (replies.Row vs) = refl
trace_part_is replies.End = refl
trace_part_is replies.Closed = refl
trace_part_is (replies.Stepped n) = refl
trace_part_is (replies.Trace shown) = refl
trace_part_is (replies.Refused refusals.Syntax) = refl
trace_part_is (replies.Refused (refusals.Unknown name)) = refl
trace_part_is (replies.Refused (refusals.Exists name)) = refl
trace_part_is (replies.Refused (refusals.Kind name)) = refl
trace_part_is (replies.Refused (refusals.Active txn)) = refl
trace_part_is (replies.Refused refusals.NoTransaction) = refl
trace_part_is (replies.Refused (refusals.Busy txn)) = refl
trace_part_is (replies.Refused refusals.ReadOnly) = refl
trace_part_is (replies.Refused (refusals.Changed row commit)) = refl
trace_part_is (replies.Refused (refusals.Held row txn)) = refl
trace_part_is (replies.Refused (refusals.NoCursor name)) = refl
trace_part_is (replies.Refused (refusals.CursorOpen name)) = refl
trace_part_is (replies.Refused (refusals.Limit which number)) = refl
trace_part_is (replies.Refused (refusals.Duplicate row by)) = refl

duplicate_part_is : (r : Reply) → duplicate_part (reply_text r) ≡ duplicate_text (duplicate_of r)
duplicate_part_is replies.Created = refl
duplicate_part_is (replies.Began n) = refl
duplicate_part_is (replies.Inserted row) = refl
duplicate_part_is (replies.Touched n) = refl
duplicate_part_is (replies.Committed n) = refl
duplicate_part_is replies.RolledBack = refl
duplicate_part_is replies.Opened = refl
duplicate_part_is (replies.Row vs) = refl
duplicate_part_is replies.End = refl
duplicate_part_is replies.Closed = refl
duplicate_part_is (replies.Stepped n) = refl
duplicate_part_is (replies.Trace shown) = refl
duplicate_part_is (replies.Refused refusals.Syntax) = refl
duplicate_part_is (replies.Refused (refusals.Unknown name)) = refl
duplicate_part_is (replies.Refused (refusals.Exists name)) = refl
duplicate_part_is (replies.Refused (refusals.Kind name)) = refl
duplicate_part_is (replies.Refused (refusals.Active txn)) = refl
duplicate_part_is (replies.Refused refusals.NoTransaction) = refl
duplicate_part_is (replies.Refused (refusals.Busy txn)) = refl
duplicate_part_is (replies.Refused refusals.ReadOnly) = refl
duplicate_part_is (replies.Refused (refusals.Changed row commit)) = refl
duplicate_part_is (replies.Refused (refusals.Held row txn)) = refl
duplicate_part_is (replies.Refused (refusals.NoCursor name)) = refl
duplicate_part_is (replies.Refused (refusals.CursorOpen name)) = refl
duplicate_part_is (replies.Refused (refusals.Limit which number)) = refl
duplicate_part_is (replies.Refused (refusals.Duplicate row by)) = refl

-- the plainness of the parts
plain_row : (r : Reply) → IsPlainReply r → AllByRecursion IsPlainValue (row_of r)
plain_row replies.Created p = tt
plain_row (replies.Began n) p = tt
plain_row (replies.Inserted row) p = tt
plain_row (replies.Touched n) p = tt
plain_row (replies.Committed n) p = tt
plain_row replies.RolledBack p = tt
plain_row replies.Opened p = tt
plain_row (replies.Row vs) p = p
plain_row replies.End p = tt
plain_row replies.Closed p = tt
plain_row (replies.Stepped n) p = tt
plain_row (replies.Trace shown) p = tt
plain_row (replies.Refused refusals.Syntax) p = tt
plain_row (replies.Refused (refusals.Unknown name)) p = tt
plain_row (replies.Refused (refusals.Exists name)) p = tt
plain_row (replies.Refused (refusals.Kind name)) p = tt
plain_row (replies.Refused (refusals.Active txn)) p = tt
plain_row (replies.Refused refusals.NoTransaction) p = tt
plain_row (replies.Refused (refusals.Busy txn)) p = tt
plain_row (replies.Refused refusals.ReadOnly) p = tt
plain_row (replies.Refused (refusals.Changed row commit)) p = tt
plain_row (replies.Refused (refusals.Held row txn)) p = tt
plain_row (replies.Refused (refusals.NoCursor name)) p = tt
plain_row (replies.Refused (refusals.CursorOpen name)) p = tt
plain_row (replies.Refused (refusals.Limit which number)) p = tt
plain_row (replies.Refused (refusals.Duplicate row by)) p = tt

abbrev FitsPair : Option (ℕ × ℕ) → Type 0
FitsPair None = Unit {0}
FitsPair (Some p) = (p.0 < 2 ^ 64) × (p.1 < 2 ^ 64)

abbrev FitsLimit : Option (Which × ℕ) → Type 0
FitsLimit None = Unit {0}
FitsLimit (Some p) = p.1 < 2 ^ 64

abbrev FitsTrace : Option Shown → Type 0
FitsTrace None = Unit {0}
FitsTrace (Some shown) = IsPlainTrace shown

plain_pair : (r : Reply) → IsPlainReply r → FitsPair (pair_of r)
plain_pair replies.Created p = tt
plain_pair (replies.Began n) p = tt
plain_pair (replies.Inserted row) p = tt
plain_pair (replies.Touched n) p = tt
plain_pair (replies.Committed n) p = tt
plain_pair replies.RolledBack p = tt
plain_pair replies.Opened p = tt
plain_pair (replies.Row vs) p = tt
plain_pair replies.End p = tt
plain_pair replies.Closed p = tt
plain_pair (replies.Stepped n) p = tt
plain_pair (replies.Trace shown) p = tt
plain_pair (replies.Refused refusals.Syntax) p = tt
plain_pair (replies.Refused (refusals.Unknown name)) p = tt
plain_pair (replies.Refused (refusals.Exists name)) p = tt
plain_pair (replies.Refused (refusals.Kind name)) p = tt
plain_pair (replies.Refused (refusals.Active txn)) p = tt
plain_pair (replies.Refused refusals.NoTransaction) p = tt
plain_pair (replies.Refused (refusals.Busy txn)) p = tt
plain_pair (replies.Refused refusals.ReadOnly) p = tt
plain_pair (replies.Refused (refusals.Changed row commit)) p = p
plain_pair (replies.Refused (refusals.Held row txn)) p = p
plain_pair (replies.Refused (refusals.NoCursor name)) p = tt
plain_pair (replies.Refused (refusals.CursorOpen name)) p = tt
plain_pair (replies.Refused (refusals.Limit which number)) p = tt
plain_pair (replies.Refused (refusals.Duplicate row by)) p = tt

plain_limit : (r : Reply) → IsPlainReply r → FitsLimit (limit_of r)
plain_limit replies.Created p = tt
plain_limit (replies.Began n) p = tt
plain_limit (replies.Inserted row) p = tt
plain_limit (replies.Touched n) p = tt
plain_limit (replies.Committed n) p = tt
plain_limit replies.RolledBack p = tt
plain_limit replies.Opened p = tt
plain_limit (replies.Row vs) p = tt
plain_limit replies.End p = tt
plain_limit replies.Closed p = tt
plain_limit (replies.Stepped n) p = tt
plain_limit (replies.Trace shown) p = tt
plain_limit (replies.Refused refusals.Syntax) p = tt
plain_limit (replies.Refused (refusals.Unknown name)) p = tt
plain_limit (replies.Refused (refusals.Exists name)) p = tt
plain_limit (replies.Refused (refusals.Kind name)) p = tt
plain_limit (replies.Refused (refusals.Active txn)) p = tt
plain_limit (replies.Refused refusals.NoTransaction) p = tt
plain_limit (replies.Refused (refusals.Busy txn)) p = tt
plain_limit (replies.Refused refusals.ReadOnly) p = tt
plain_limit (replies.Refused (refusals.Changed row commit)) p = tt
plain_limit (replies.Refused (refusals.Held row txn)) p = tt
plain_limit (replies.Refused (refusals.NoCursor name)) p = tt
plain_limit (replies.Refused (refusals.CursorOpen name)) p = tt
plain_limit (replies.Refused (refusals.Limit which number)) p = p
plain_limit (replies.Refused (refusals.Duplicate row by)) p = tt

plain_trace : (r : Reply) → IsPlainReply r → FitsTrace (trace_of r)
plain_trace replies.Created p = tt
plain_trace (replies.Began n) p = tt
plain_trace (replies.Inserted row) p = tt
plain_trace (replies.Touched n) p = tt
plain_trace (replies.Committed n) p = tt
plain_trace replies.RolledBack p = tt
plain_trace replies.Opened p = tt
plain_trace (replies.Row vs) p = tt
plain_trace replies.End p = tt
plain_trace replies.Closed p = tt
plain_trace (replies.Stepped n) p = tt
plain_trace (replies.Trace shown) p = p
plain_trace (replies.Refused refusals.Syntax) p = tt
plain_trace (replies.Refused (refusals.Unknown name)) p = tt
plain_trace (replies.Refused (refusals.Exists name)) p = tt
plain_trace (replies.Refused (refusals.Kind name)) p = tt
plain_trace (replies.Refused (refusals.Active txn)) p = tt
plain_trace (replies.Refused refusals.NoTransaction) p = tt
plain_trace (replies.Refused (refusals.Busy txn)) p = tt
plain_trace (replies.Refused refusals.ReadOnly) p = tt
plain_trace (replies.Refused (refusals.Changed row commit)) p = tt
plain_trace (replies.Refused (refusals.Held row txn)) p = tt
plain_trace (replies.Refused (refusals.NoCursor name)) p = tt
plain_trace (replies.Refused (refusals.CursorOpen name)) p = tt
plain_trace (replies.Refused (refusals.Limit which number)) p = tt
plain_trace (replies.Refused (refusals.Duplicate row by)) p = tt

abbrev FitsDuplicate : Option (ℕ × Rival) → Type 0
FitsDuplicate None = Unit {0}
FitsDuplicate (Some p) = (p.0 < 2 ^ 64) × IsPlainRival p.1

plain_duplicate : (r : Reply) → IsPlainReply r → FitsDuplicate (duplicate_of r)
plain_duplicate replies.Created p = tt
plain_duplicate (replies.Began n) p = tt
plain_duplicate (replies.Inserted row) p = tt
plain_duplicate (replies.Touched n) p = tt
plain_duplicate (replies.Committed n) p = tt
plain_duplicate replies.RolledBack p = tt
plain_duplicate replies.Opened p = tt
plain_duplicate (replies.Row vs) p = tt
plain_duplicate replies.End p = tt
plain_duplicate replies.Closed p = tt
plain_duplicate (replies.Stepped n) p = tt
plain_duplicate (replies.Trace shown) p = tt
plain_duplicate (replies.Refused refusals.Syntax) p = tt
plain_duplicate (replies.Refused (refusals.Unknown name)) p = tt
plain_duplicate (replies.Refused (refusals.Exists name)) p = tt
plain_duplicate (replies.Refused (refusals.Kind name)) p = tt
plain_duplicate (replies.Refused (refusals.Active txn)) p = tt
plain_duplicate (replies.Refused refusals.NoTransaction) p = tt
plain_duplicate (replies.Refused (refusals.Busy txn)) p = tt
plain_duplicate (replies.Refused refusals.ReadOnly) p = tt
plain_duplicate (replies.Refused (refusals.Changed row commit)) p = tt
plain_duplicate (replies.Refused (refusals.Held row txn)) p = tt
plain_duplicate (replies.Refused (refusals.NoCursor name)) p = tt
plain_duplicate (replies.Refused (refusals.CursorOpen name)) p = tt
plain_duplicate (replies.Refused (refusals.Limit which number)) p = tt
plain_duplicate (replies.Refused (refusals.Duplicate row by)) p = p

-- the limit of a word
abbrev which_of : List ℕ → Which
which_of word = (if bytes_eq word (codes "name") then limits.Name else (if bytes_eq word (codes "text") then limits.Text else (if bytes_eq word (codes "columns") then limits.Columns else (if bytes_eq word (codes "key") then limits.Key else (if bytes_eq word (codes "list") then limits.List else (if bytes_eq word (codes "atoms") then limits.Atoms else (if bytes_eq word (codes "groups") then limits.Groups else (if bytes_eq word (codes "joined") then limits.Joined else (if bytes_eq word (codes "returned") then limits.Returned else (if bytes_eq word (codes "order") then limits.Order else (if bytes_eq word (codes "steps") then limits.Steps else (if bytes_eq word (codes "tables") then limits.Tables else (if bytes_eq word (codes "indexes") then limits.Indexes else (if bytes_eq word (codes "cursors") then limits.Cursors else (if bytes_eq word (codes "rows") then limits.Rows else limits.Pending)))))))))))))))

limit_back : (w : Which) → which_of (limit_word w) ≡ w
limit_back limits.Name = refl
limit_back limits.Text = refl
limit_back limits.Columns = refl
limit_back limits.Key = refl
limit_back limits.List = refl
limit_back limits.Atoms = refl
limit_back limits.Groups = refl
limit_back limits.Joined = refl
limit_back limits.Returned = refl
limit_back limits.Order = refl
limit_back limits.Steps = refl
limit_back limits.Tables = refl
limit_back limits.Indexes = refl
limit_back limits.Cursors = refl
limit_back limits.Rows = refl
limit_back limits.Pending = refl

limit_unspaced : (w : Which) → list_all no_space (limit_word w) ≡ true
limit_unspaced limits.Name = refl
limit_unspaced limits.Text = refl
limit_unspaced limits.Columns = refl
limit_unspaced limits.Key = refl
limit_unspaced limits.List = refl
limit_unspaced limits.Atoms = refl
limit_unspaced limits.Groups = refl
limit_unspaced limits.Joined = refl
limit_unspaced limits.Returned = refl
limit_unspaced limits.Order = refl
limit_unspaced limits.Steps = refl
limit_unspaced limits.Tables = refl
limit_unspaced limits.Indexes = refl
limit_unspaced limits.Cursors = refl
limit_unspaced limits.Rows = refl
limit_unspaced limits.Pending = refl

not_nothing : (a b : List ℕ) (c : ℕ) → [] ≡ a ++ c ∷ b → ⊥
not_nothing [] b c e = cc
not_nothing (x ∷ a) b c e = cc

pair_parts : (n m : ℕ) → decimal n ++ codes " by " ++ decimal m ≡ decimal n ++ 32 ∷ 98 ∷ 121 ∷ 32 ∷ decimal m
pair_parts n m = append_assoc (decimal n) (codes " by ") (decimal m)

two_same : (n m k l : ℕ) → n < 2 ^ 64 → m < 2 ^ 64 → k < 2 ^ 64 → l < 2 ^ 64 → decimal n ++ codes " by " ++ decimal m ≡ decimal k ++ codes " by " ++ decimal l → (n ≡ k) × (m ≡ l)
two_same n m k l fn fm fk fl e =
    let f : decimal n ++ 32 ∷ 98 ∷ 121 ∷ 32 ∷ decimal m ≡ decimal k ++ 32 ∷ 98 ∷ 121 ∷ 32 ∷ decimal l = sym (pair_parts n m) ∙ e ∙ pair_parts k l in
    let r = cut numeric (decimal n) (decimal k) (32 ∷ 98 ∷ 121 ∷ 32 ∷ decimal m) (32 ∷ 98 ∷ 121 ∷ 32 ∷ decimal l) (decimal_pass n fn) (decimal_pass k fk) refl refl f in
    let rest : decimal m ≡ decimal l = cc r.1 in
    (decimal_injective n k fn fk r.0, decimal_injective m l fm fl rest)

pair_same : (p q : Option (ℕ × ℕ)) → FitsPair p → FitsPair q → pair_text p ≡ pair_text q → p ≡ q
pair_same None None fp fq e = refl
pair_same None (Some q) fp fq e = absurd (not_nothing (decimal q.0) (98 ∷ 121 ∷ 32 ∷ decimal q.1) 32 (e ∙ pair_parts q.0 q.1))
pair_same (Some p) None fp fq e = absurd (not_nothing (decimal p.0) (98 ∷ 121 ∷ 32 ∷ decimal p.1) 32 (sym e ∙ pair_parts p.0 p.1))
pair_same (Some p) (Some q) fp fq e =
    let r = two_same p.0 p.1 q.0 q.1 fp.0 fp.1 fq.0 fq.1 e in
    λ i. Some (r.0 i, r.1 i)

limit_same : (p q : Option (Which × ℕ)) → FitsLimit p → FitsLimit q → limit_text p ≡ limit_text q → p ≡ q
limit_same None None fp fq e = refl
limit_same None (Some q) fp fq e = absurd (not_nothing (limit_word q.0) (decimal q.1) 32 e)
limit_same (Some p) None fp fq e = absurd (not_nothing (limit_word p.0) (decimal p.1) 32 (sym e))
limit_same (Some p) (Some q) fp fq e =
    let r = cut no_space (limit_word p.0) (limit_word q.0) (32 ∷ decimal p.1) (32 ∷ decimal q.1) (limit_unspaced p.0) (limit_unspaced q.0) refl refl e in
    let which : p.0 ≡ q.0 = sym (limit_back p.0) ∙ ap which_of r.0 ∙ limit_back q.0 in
    let digits : decimal p.1 ≡ decimal q.1 = cc r.1 in
    let number = decimal_injective p.1 q.1 fp fq digits in
    λ i. Some (which i, number i)

-- where a rival is, read back
abbrev rival_read : List ℕ → Rival
rival_read t =
    or_else (after (codes " by commit ") t) (λ d. rivals.Commit (digits_value 10 d))
    (or_else (after (codes " by txn ") t) (λ d. rivals.Txn (digits_value 10 d)) rivals.View)

rival_back : (by : Rival) → IsPlainRival by → rival_read (rival_text by) ≡ by
rival_back rivals.View p = refl
rival_back (rivals.Commit commit) p = ap (λ (m : ℕ). rivals.Commit m) (value_back commit p)
rival_back (rivals.Txn txn) p = ap (λ (m : ℕ). rivals.Txn m) (value_back txn p)

rival_stops : (by : Rival) → Stops numeric (rival_text by)
rival_stops rivals.View = tt
rival_stops (rivals.Commit commit) = refl
rival_stops (rivals.Txn txn) = refl

duplicate_same : (p q : Option (ℕ × Rival)) → FitsDuplicate p → FitsDuplicate q → duplicate_text p ≡ duplicate_text q → p ≡ q
duplicate_same None None fp fq e = refl
duplicate_same None (Some q) fp fq e = cc
duplicate_same (Some p) None fp fq e = cc
duplicate_same (Some p) (Some q) fp fq e =
    let behind : decimal p.0 ++ rival_text p.1 ≡ decimal q.0 ++ rival_text q.1 = cc e in
    let r = cut numeric (decimal p.0) (decimal q.0) (rival_text p.1) (rival_text q.1) (decimal_pass p.0 fp.0) (decimal_pass q.0 fq.0) (rival_stops p.1) (rival_stops q.1) behind in
    let row = decimal_injective p.0 q.0 fp.0 fq.0 r.0 in
    let by : p.1 ≡ q.1 = sym (rival_back p.1 fp.1) ∙ ap rival_read r.1 ∙ rival_back q.1 fq.1 in
    λ i. Some (row i, by i)

trace_part_same : (p q : Option Shown) → FitsTrace p → FitsTrace q → trace_text p ≡ trace_text q → p ≡ q
trace_part_same None None fp fq e = refl
trace_part_same None (Some q) fp fq e = cc
trace_part_same (Some p) None fp fq e = cc
trace_part_same (Some p) (Some q) fp fq e = ap (λ (shown : Shown). Some shown) (trace_same p q fp fq e)

abbrev or_shape : {A : Type 0} → Option A → (A → Reply) → Reply → Reply
or_shape None f r = r
or_shape (Some x) f r = f x

-- a reply from its shape and its parts
abbrev with_pair : Reply → Option (ℕ × ℕ) → Reply
with_pair (replies.Refused (refusals.Changed row commit)) (Some p) = replies.Refused (refusals.Changed (record { 0 = p.0 }) p.1)
with_pair (replies.Refused (refusals.Held row txn)) (Some p) = replies.Refused (refusals.Held (record { 0 = p.0 }) p.1)
with_pair r p = r

abbrev with_row : Reply → List Value → Reply
with_row (replies.Row _) vs = replies.Row vs
with_row r vs = r

abbrev rebuilt : Reply → List Value → Option (ℕ × ℕ) → Option (Which × ℕ) → Option (ℕ × Rival) → Option Shown → Reply
rebuilt shape vs pair limit duplicate trace =
    or_shape trace (λ shown. replies.Trace shown) (or_shape duplicate (λ p. replies.Refused (refusals.Duplicate (record { 0 = p.0 }) p.1)) (or_shape limit (λ p. replies.Refused (refusals.Limit p.0 p.1)) (with_pair (with_row shape vs) pair)))

rebuilt_is : (r : Reply) → rebuilt (shape r) (row_of r) (pair_of r) (limit_of r) (duplicate_of r) (trace_of r) ≡ r
rebuilt_is replies.Created = refl
rebuilt_is (replies.Began n) = refl
rebuilt_is (replies.Inserted row) = refl
rebuilt_is (replies.Touched n) = refl
rebuilt_is (replies.Committed n) = refl
rebuilt_is replies.RolledBack = refl
rebuilt_is replies.Opened = refl
rebuilt_is (replies.Row vs) = refl
rebuilt_is replies.End = refl
rebuilt_is replies.Closed = refl
rebuilt_is (replies.Stepped n) = refl
rebuilt_is (replies.Trace shown) = refl
rebuilt_is (replies.Refused refusals.Syntax) = refl
rebuilt_is (replies.Refused (refusals.Unknown name)) = refl
rebuilt_is (replies.Refused (refusals.Exists name)) = refl
rebuilt_is (replies.Refused (refusals.Kind name)) = refl
rebuilt_is (replies.Refused (refusals.Active txn)) = refl
rebuilt_is (replies.Refused refusals.NoTransaction) = refl
rebuilt_is (replies.Refused (refusals.Busy txn)) = refl
rebuilt_is (replies.Refused refusals.ReadOnly) = refl
rebuilt_is (replies.Refused (refusals.Changed row commit)) = refl
rebuilt_is (replies.Refused (refusals.Held row txn)) = refl
rebuilt_is (replies.Refused (refusals.NoCursor name)) = refl
rebuilt_is (replies.Refused (refusals.CursorOpen name)) = refl
rebuilt_is (replies.Refused (refusals.Limit which number)) = refl
rebuilt_is (replies.Refused (refusals.Duplicate row by)) = refl

pub reply_same : (r q : Reply) → IsPlainReply r → IsPlainReply q → reply_text r ≡ reply_text q → r ≡ q
reply_same r q pr pq e =
    let shapes : shape r ≡ shape q = sym (read_is r pr) ∙ ap read e ∙ read_is q pq in
    let rows : row_of r ≡ row_of q = values_same (row_of r) (row_of q) (plain_row r pr) (plain_row q pq) (sym (row_part_is r) ∙ ap row_part e ∙ row_part_is q) in
    let pairs : pair_of r ≡ pair_of q = pair_same (pair_of r) (pair_of q) (plain_pair r pr) (plain_pair q pq) (sym (pair_part_is r) ∙ ap pair_part e ∙ pair_part_is q) in
    let limit_parts : limit_of r ≡ limit_of q = limit_same (limit_of r) (limit_of q) (plain_limit r pr) (plain_limit q pq) (sym (limit_part_is r) ∙ ap limit_part e ∙ limit_part_is q) in
    let duplicates : duplicate_of r ≡ duplicate_of q = duplicate_same (duplicate_of r) (duplicate_of q) (plain_duplicate r pr) (plain_duplicate q pq) (sym (duplicate_part_is r) ∙ ap duplicate_part e ∙ duplicate_part_is q) in
    let traces : trace_of r ≡ trace_of q = trace_part_same (trace_of r) (trace_of q) (plain_trace r pr) (plain_trace q pq) (sym (trace_part_is r) ∙ ap trace_part e ∙ trace_part_is q) in
    sym (rebuilt_is r) ∙ (λ i. rebuilt (shapes i) (rows i) (pairs i) (limit_parts i) (duplicates i) (traces i)) ∙ rebuilt_is q
