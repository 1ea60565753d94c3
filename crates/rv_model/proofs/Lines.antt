-- Equal transcripts are of equal entries, but for their phases.
use Rattle.std.proofs.Common.{◌≡◌, ℕ, ◌+◌, ◌<◌, ◌^◌, List, [], ◌∷◌, ◌++◌, refl, sym, ◌∙◌, arith, Bool, true, false, not, codes, eqb, append_assoc, nat_le, flat_map, cond}
use Rattle.std.specs.List.{list_all, AllByRecursion}
use Rattle.std.specs.Fmt.{decimal, signed_decimal}
use Rattle.std.proofs.lemmas.Fmt.{decimal_digit}
use Rattle.std.proofs.lemmas.List.Folds.{list_all-append}
use Rattle.std.proofs.lemmas.Bool.Decides.{nat_tests}
use Rattle.std.proofs.lemmas.Bool.{and_from, and_parts}
use Rattle.rv_value.proofs.Lists.{passes_more}
use Rattle.rv_value.specs.declared.value.Value.{Value}
use Rattle.rv_value.specs.declared.value.Value.TheVariants.{Null, Int, Str}
use Rattle.rv_model.specs.declared.entry.Entry.{Entry}
use Rattle.rv_lang.specs.declared.reply.Which.{Which}
use Rattle.rv_lang.specs.declared.reply.Which.TheVariants as limits
use Rattle.rv_lang.specs.declared.reply.Rival.{Rival}
use Rattle.rv_lang.specs.declared.reply.Rival.TheVariants as rivals
use Rattle.rv_lang.specs.declared.reply.Refusal.{Refusal}
use Rattle.rv_lang.specs.declared.reply.Refusal.TheVariants as refusals
use Rattle.rv_lang.specs.declared.reply.ShownEvent.{ShownEvent}
use Rattle.rv_lang.specs.declared.reply.ShownEvent.TheVariants as events
use Rattle.rv_lang.specs.declared.reply.Shown.{Shown}
use Rattle.rv_lang.specs.declared.reply.Reply.{Reply}
use Rattle.rv_lang.specs.declared.reply.Reply.TheVariants as replies
use Rattle.rv_judge.specs.declared.events.Strategy.{Strategy}
use Rattle.rv_judge.specs.declared.events.Strategy.TheVariants as strategies
use Rattle.rv_judge.specs.declared.events.Control.{Control}
use Rattle.rv_judge.specs.declared.events.Control.TheVariants as controls
use Rattle.rv_lang.specs.Tokens.{quotes_twice}
use Rattle.rv_judge.specs.Words.{control_word, strategy_word}
use Rattle.rv_model.specs.Transcript.{limit_word, event_words, count_words, trace_words, words_text, IsName, is_name_byte, is_capital, IsPlainEvent, IsPlainTrace, value_text, more_text, values_text, reply_text, refusal_text, rival_text, entry_text, text, IsPlainValue, IsPlainReply, IsPlainRefusal, IsPlainRival, IsPlain, SameButPhase, AllSameButPhase}
use Rattle.rv_model.proofs.Cuts.{cut}
use Rattle.rv_model.proofs.Values.{numeric, decimal_pass, signed_pass}
use Rattle.rv_model.proofs.Replies.{reply_same}

-- no line feed
abbrev no_lf : ℕ → Bool
no_lf c = not (eqb c 10)

joined : (xs ys : List ℕ) → list_all no_lf xs ≡ true → list_all no_lf ys ≡ true → list_all no_lf (xs ++ ys) ≡ true
joined xs ys hx hy = list_all-append no_lf xs ys ∙ and_from (list_all no_lf xs) (list_all no_lf ys) hx hy

numeric_line : (c : ℕ) → numeric c ≡ true → no_lf c ≡ true
numeric_line c h = grind (arith, nat_tests)

decimal_line : (n : ℕ) → n < 2 ^ 64 → list_all no_lf (decimal n) ≡ true
decimal_line n small = passes_more numeric no_lf numeric_line (decimal n) (decimal_pass n small)

above_line : (c : ℕ) → nat_le 32 c ≡ true → no_lf c ≡ true
above_line c h = grind (arith, nat_tests)

doubled_line : (t : List ℕ) → list_all no_lf t ≡ true → list_all no_lf (quotes_twice t) ≡ true
doubled_line [] h = refl
doubled_line (c ∷ cs) h =
    let parts = and_parts (no_lf c) (list_all no_lf cs) h in
    let tail : list_all no_lf (quotes_twice cs) ≡ true = doubled_line cs parts.1 in
    elim (eqb c 39) as (λ b. list_all no_lf (cond b (39 ∷ 39 ∷ quotes_twice cs) (c ∷ quotes_twice cs)) ≡ true) [
      | true ↦ tail
      | false ↦ and_from (no_lf c) (list_all no_lf (quotes_twice cs)) parts.0 tail
    ]

value_line : (v : Value) → IsPlainValue v → list_all no_lf (value_text v) ≡ true
value_line Null p = refl
value_line (Int z) p = passes_more numeric no_lf numeric_line (signed_decimal z) (signed_pass z p)
value_line (Str t) p = joined (quotes_twice t) (39 ∷ []) (doubled_line t (passes_more (nat_le 32) no_lf above_line t p)) refl

more_line : (vs : List Value) → AllByRecursion IsPlainValue vs → list_all no_lf (more_text vs) ≡ true
more_line [] p = refl
more_line (v ∷ vs) p = joined (value_text v) (more_text vs) (value_line v p.0) (more_line vs p.1)

values_line : (vs : List Value) → AllByRecursion IsPlainValue vs → list_all no_lf (values_text vs) ≡ true
values_line [] p = refl
values_line (v ∷ vs) p = joined (value_text v) (more_text vs) (value_line v p.0) (more_line vs p.1)

capital_line : (c : ℕ) → is_capital c ≡ true → no_lf c ≡ true
capital_line c h = grind (arith, nat_tests)

byte_line : (c : ℕ) → is_name_byte c ≡ true → no_lf c ≡ true
byte_line c h = grind (arith, nat_tests)

name_line : (n : List ℕ) → IsName n → list_all no_lf n ≡ true
name_line [] h = absurd h
name_line (c ∷ cs) h = and_from (no_lf c) (list_all no_lf cs) (capital_line c h.0) (passes_more is_name_byte no_lf byte_line cs h.1)

limit_line : (w : Which) → list_all no_lf (limit_word w) ≡ true
limit_line limits.Name = refl
limit_line limits.Text = refl
limit_line limits.Columns = refl
limit_line limits.Key = refl
limit_line limits.List = refl
limit_line limits.Atoms = refl
limit_line limits.Groups = refl
limit_line limits.Joined = refl
limit_line limits.Returned = refl
limit_line limits.Order = refl
limit_line limits.Steps = refl
limit_line limits.Tables = refl
limit_line limits.Indexes = refl
limit_line limits.Cursors = refl
limit_line limits.Rows = refl
limit_line limits.Pending = refl

two_line : (n m : ℕ) → n < 2 ^ 64 → m < 2 ^ 64 → list_all no_lf (decimal n ++ codes " by " ++ decimal m) ≡ true
two_line n m fn fm = joined (decimal n ++ codes " by ") (decimal m) (joined (decimal n) (codes " by ") (decimal_line n fn) refl) (decimal_line m fm)

rival_line : (by : Rival) → IsPlainRival by → list_all no_lf (rival_text by) ≡ true
rival_line rivals.View p = refl
rival_line (rivals.Commit commit) p = decimal_line commit p
rival_line (rivals.Txn txn) p = decimal_line txn p

refusal_line : (r : Refusal) → IsPlainRefusal r → list_all no_lf (refusal_text r) ≡ true
refusal_line refusals.Syntax p = refl
refusal_line (refusals.Unknown name) p = name_line name p
refusal_line (refusals.Exists name) p = name_line name p
refusal_line (refusals.Kind name) p = name_line name p
refusal_line (refusals.Active txn) p = decimal_line txn p
refusal_line refusals.NoTransaction p = refl
refusal_line (refusals.Busy txn) p = decimal_line txn p
refusal_line refusals.ReadOnly p = refl
refusal_line (refusals.Changed row commit) p = two_line row.0 commit p.0 p.1
refusal_line (refusals.Held row txn) p = two_line row.0 txn p.0 p.1
refusal_line (refusals.NoCursor name) p = name_line name p
refusal_line (refusals.CursorOpen name) p = name_line name p
refusal_line (refusals.Limit which number) p = joined (limit_word which) (32 ∷ decimal number) (limit_line which) (decimal_line number p)
refusal_line (refusals.Duplicate row by) p = joined (decimal row.0) (rival_text by) (decimal_line row.0 p.0) (rival_line by p.1)

-- words that are lines
abbrev AreLines : List (List ℕ) → Type 0
AreLines = AllByRecursion (λ (w : List ℕ). list_all no_lf w ≡ true)

join_lines : (ws vs : List (List ℕ)) → AreLines ws → AreLines vs → AreLines (ws ++ vs)
join_lines [] vs a b = b
join_lines (w ∷ ws) vs a b = (a.0, join_lines ws vs a.1 b)

control_line : (c : Control) → list_all no_lf (control_word c) ≡ true
control_line controls.Building = refl
control_line controls.ForegroundAlone = refl
control_line controls.BackgroundAlone = refl
control_line controls.FinalList = refl
control_line controls.FinalTable = refl
control_line controls.Done = refl

strategy_line : (s : Strategy) → list_all no_lf (strategy_word s) ≡ true
strategy_line strategies.Table = refl
strategy_line strategies.BackgroundOnly = refl
strategy_line strategies.FastFirst = refl
strategy_line strategies.Sorted = refl
strategy_line strategies.IndexOnly = refl
strategy_line strategies.Union = refl

event_lines : (e : ShownEvent) → IsPlainEvent e → AreLines (event_words e)
event_lines (events.At control) p = (control_line control, tt)
event_lines (events.Scan name) p = (refl, (name_line name p, tt))
event_lines (events.List name keys) p = (refl, (name_line name p.0, (decimal_line keys p.1, tt)))
event_lines (events.Drop name) p = (refl, (name_line name p, tt))
event_lines events.Full p = (refl, tt)
event_lines events.Stop p = (refl, tt)

all_event_lines : (es : List ShownEvent) → AllByRecursion IsPlainEvent es → AreLines (flat_map event_words es)
all_event_lines [] p = tt
all_event_lines (e ∷ es) p = join_lines (event_words e) (flat_map event_words es) (event_lines e p.0) (all_event_lines es p.1)

trace_lines : (shown : Shown) → IsPlainTrace shown → AreLines (trace_words shown)
trace_lines shown p =
    (strategy_line shown.strategy, join_lines (flat_map event_words shown.events) (count_words shown) (all_event_lines shown.events p.events) (refl, (decimal_line shown.pages p.pages, (refl, (decimal_line shown.leaves p.leaves, (refl, (decimal_line shown.fetches p.fetches, tt)))))))

spaced_line : (ws : List (List ℕ)) → AreLines ws → list_all no_lf (words_text ws) ≡ true
spaced_line [] p = refl
spaced_line (w ∷ ws) p = joined w (words_text ws) p.0 (spaced_line ws p.1)

reply_line : (r : Reply) → IsPlainReply r → list_all no_lf (reply_text r) ≡ true
reply_line replies.Created p = refl
reply_line (replies.Began n) p = decimal_line n p
reply_line (replies.Inserted row) p = decimal_line row.0 p
reply_line (replies.Touched n) p = decimal_line n p
reply_line (replies.Committed n) p = decimal_line n p
reply_line replies.RolledBack p = refl
reply_line replies.Opened p = refl
reply_line (replies.Row vs) p = values_line vs p
reply_line replies.End p = refl
reply_line replies.Closed p = refl
reply_line (replies.Stepped n) p = decimal_line n p
reply_line (replies.Trace shown) p = spaced_line (trace_words shown) (trace_lines shown p)
reply_line (replies.Refused r) p = refusal_line r p

-- an entry and what follows, by its two ends of lines
entry_parts : (e : Entry) (x : List ℕ) → IsPlain e → entry_text e ++ x ≡ (48 + e.session) ∷ 32 ∷ (e.text ++ 10 ∷ 61 ∷ 32 ∷ (reply_text e.reply ++ 10 ∷ x))
entry_parts e x p = let digit = decimal_digit e.session (let to = p.to in omega (arith, to)) in rw digit (simp append_assoc)

entry_cut : (a b : Entry) (x y : List ℕ) → IsPlain a → IsPlain b → entry_text a ++ x ≡ entry_text b ++ y → SameButPhase a b × (x ≡ y)
entry_cut a b x y pa pb e =
    let f : (48 + a.session) ∷ 32 ∷ (a.text ++ 10 ∷ 61 ∷ 32 ∷ (reply_text a.reply ++ 10 ∷ x)) ≡ (48 + b.session) ∷ 32 ∷ (b.text ++ 10 ∷ 61 ∷ 32 ∷ (reply_text b.reply ++ 10 ∷ y)) = sym (entry_parts a x pa) ∙ e ∙ entry_parts b y pb in
    let digits : 48 + a.session ≡ 48 + b.session = cc in
    let lines : a.text ++ 10 ∷ 61 ∷ 32 ∷ (reply_text a.reply ++ 10 ∷ x) ≡ b.text ++ 10 ∷ 61 ∷ 32 ∷ (reply_text b.reply ++ 10 ∷ y) = cc in
    let first = cut no_lf a.text b.text (10 ∷ 61 ∷ 32 ∷ (reply_text a.reply ++ 10 ∷ x)) (10 ∷ 61 ∷ 32 ∷ (reply_text b.reply ++ 10 ∷ y)) pa.asked pb.asked refl refl lines in
    let replies : reply_text a.reply ++ 10 ∷ x ≡ reply_text b.reply ++ 10 ∷ y = cc first.1 in
    let second = cut no_lf (reply_text a.reply) (reply_text b.reply) (10 ∷ x) (10 ∷ y) (reply_line a.reply pa.answered) (reply_line b.reply pb.answered) refl refl replies in
    (record { session = omega (arith, digits); text = first.0; reply = reply_same a.reply b.reply pa.answered pb.answered second.0 }, cc second.1)

no_text : (e : Entry) (x : List ℕ) (X : Type 0) → IsPlain e → [] ≡ entry_text e ++ x → X
no_text e x X p none = let wrong : [] ≡ (48 + e.session) ∷ 32 ∷ (e.text ++ 10 ∷ 61 ∷ 32 ∷ (reply_text e.reply ++ 10 ∷ x)) = none ∙ entry_parts e x p in cc

pub text_same : (es bs : List Entry) → AllByRecursion IsPlain es → AllByRecursion IsPlain bs → text es ≡ text bs → AllSameButPhase es bs
text_same [] [] pa pb e = tt
text_same [] (b ∷ bs) pa pb e = no_text b (text bs) (AllSameButPhase [] (b ∷ bs)) pb.0 e
text_same (a ∷ es) [] pa pb e = no_text a (text es) (AllSameButPhase (a ∷ es) []) pa.0 (sym e)
text_same (a ∷ es) (b ∷ bs) pa pb e =
    let r = entry_cut a b (text es) (text bs) pa.0 pb.0 e in
    (r.0, text_same es bs pa.1 pb.1 r.1)
