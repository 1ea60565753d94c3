-- Replies are read as they are written, both ways.
use Rattle.std.proofs.Common.{◌≡◌, ℕ, ◌<◌, ◌^◌, List, [], ◌∷◌, ◌++◌, Option, Some, None, Bool, true, not, codes, inl, inr, refl, ap, sym, ◌∙◌, arith, bytes_eq, nat_le, eqb, append_assoc, append-nil}
use Rattle.std.proofs.lemmas.Bool.{cases_Bool, and_from, and_parts}
use Rattle.std.proofs.lemmas.Bool.Decides.{nat_tests}
use Rattle.std.proofs.lemmas.List.Folds.{list_all-append}
use Rattle.std.specs.List.{list_all, AllByRecursion}
use Rattle.std.specs.Fmt.{decimal, signed_decimal}
use Rattle.std.proofs.lemmas.Option.{cond_some, same_Some}
use Rattle.rv_value.proofs.Lists.{passes_more}
use Rattle.rv_value.specs.declared.value.Value.{Value}
use Rattle.rv_value.specs.declared.value.Value.TheVariants.{Null, Int, Str}
use Rattle.rv_lang.specs.declared.reply.Which.{Which}
use Rattle.rv_lang.specs.declared.reply.Which.TheVariants as limits
use Rattle.rv_lang.specs.declared.reply.Rival.{Rival}
use Rattle.rv_lang.specs.declared.reply.Rival.TheVariants as rivals
use Rattle.rv_lang.specs.declared.reply.Refusal.{Refusal}
use Rattle.rv_lang.specs.declared.reply.Refusal.TheVariants as refusals
use Rattle.rv_lang.specs.declared.reply.Shown.{Shown}
use Rattle.rv_lang.specs.declared.reply.Reply.{Reply}
use Rattle.rv_lang.specs.declared.reply.Reply.TheVariants as replies
use Rattle.rv_lang.specs.Tokens.{quotes_twice}
use Rattle.rv_model.specs.Transcript.{limit_word, more_text, refusal_text, reply_text, rival_text, words_text, trace_words, value_text, values_text, IsLine, IsName, IsPlainRefusal, IsPlainReply, IsPlainRival, IsPlainValue}
use Rattle.rv_model.proofs.Values.{numeric, decimal_pass, signed_pass}
use Rattle.rv_text.specs.Lines.{cut}
use Rattle.rv_text.specs.Reading.{CanHoldReply}
use Rattle.rv_text.specs.Values.{number_at, values_at}
use Rattle.rv_text.specs.Traces.{is_name, trace_at}
use Rattle.rv_text.specs.Replies.{after, both_of, duplicate_at, first_of, limits_all, limit_at, lone_at, made, named_at, name_at, name_behind, numbered_at, number_behind, paired_at, pair_at, read_behind, reply_at, rival_at, rival_of, row_at, shown_at, which_at, word_is, Pair}
use Rattle.rv_text.proofs.Leaves.{is_a_name, name_is, number_again, number_takes, same_bytes}
use Rattle.rv_text.proofs.Cutting.{behind, cut_all, cut_whole, cut_word}
use Rattle.rv_text.proofs.Rowing.{values_again, values_takes}
use Rattle.rv_text.proofs.Tracing.{decimal_wordy, find_passes, name_wordy, trace_again, trace_takes, trace_wordy, unspaced, wordy, AreWordy}

-- A reply is one line.

abbrev printed : ℕ → Bool
printed c = nat_le 32 c

wordy_printed : (c : ℕ) → wordy c ≡ true → printed c ≡ true
wordy_printed c h = grind (arith, nat_tests)

numeric_printed : (c : ℕ) → numeric c ≡ true → printed c ≡ true
numeric_printed c h = grind (arith, nat_tests)

printed_line : (c : ℕ) → printed c ≡ true → not (eqb c 10) ≡ true
printed_line c h = grind (arith, nat_tests)

all_printed : (xs ys : List ℕ) → list_all printed xs ≡ true → list_all printed ys ≡ true → list_all printed (xs ++ ys) ≡ true
all_printed xs ys hx hy = list_all-append printed xs ys ∙ and_from (list_all printed xs) (list_all printed ys) hx hy

decimal_printed : (n : ℕ) → n < 2 ^ 64 → list_all printed (decimal n) ≡ true
decimal_printed n small = passes_more numeric printed numeric_printed (decimal n) (decimal_pass n small)

name_printed : (name : List ℕ) → IsName name → list_all printed name ≡ true
name_printed name h = passes_more wordy printed wordy_printed name (name_wordy name h)

doubled_printed : (t : List ℕ) → list_all printed t ≡ true → list_all printed (quotes_twice t) ≡ true
doubled_printed [] h = refl
doubled_printed (c ∷ cs) h =
    let parts = and_parts (printed c) (list_all printed cs) h in
    elim (cases_Bool (eqb c 39)) [
      | inl t ↦ rw t (doubled_printed cs parts.1)
      | inr f ↦ rw f (and_from (printed c) (list_all printed (quotes_twice cs)) parts.0 (doubled_printed cs parts.1))
    ]

value_printed : (v : Value) → IsPlainValue v → list_all printed (value_text v) ≡ true
value_printed Null p = refl
value_printed (Int z) p = passes_more numeric printed numeric_printed (signed_decimal z) (signed_pass z p)
value_printed (Str t) p = all_printed (quotes_twice t) (39 ∷ []) (doubled_printed t p) refl

more_printed : (vs : List Value) → AllByRecursion IsPlainValue vs → list_all printed (more_text vs) ≡ true
more_printed [] p = refl
more_printed (v ∷ vs) p = all_printed (value_text v) (more_text vs) (value_printed v p.0) (more_printed vs p.1)

values_printed : (vs : List Value) → AllByRecursion IsPlainValue vs → list_all printed (values_text vs) ≡ true
values_printed [] p = refl
values_printed (v ∷ vs) p = all_printed (value_text v) (more_text vs) (value_printed v p.0) (more_printed vs p.1)

limit_wordy : (w : Which) → list_all wordy (limit_word w) ≡ true
limit_wordy limits.Name = refl
limit_wordy limits.Text = refl
limit_wordy limits.Columns = refl
limit_wordy limits.Key = refl
limit_wordy limits.List = refl
limit_wordy limits.Atoms = refl
limit_wordy limits.Groups = refl
limit_wordy limits.Joined = refl
limit_wordy limits.Returned = refl
limit_wordy limits.Order = refl
limit_wordy limits.Steps = refl
limit_wordy limits.Tables = refl
limit_wordy limits.Indexes = refl
limit_wordy limits.Cursors = refl
limit_wordy limits.Rows = refl
limit_wordy limits.Pending = refl

pair_printed : (n m : ℕ) → n < 2 ^ 64 → m < 2 ^ 64 → list_all printed (decimal n ++ codes " by " ++ decimal m) ≡ true
pair_printed n m fn fm = all_printed (decimal n ++ codes " by ") (decimal m) (all_printed (decimal n) (codes " by ") (decimal_printed n fn) refl) (decimal_printed m fm)

limit_printed : (w : Which) (n : ℕ) → n < 2 ^ 64 → list_all printed (limit_word w ++ 32 ∷ decimal n) ≡ true
limit_printed w n small = all_printed (limit_word w) (32 ∷ decimal n) (passes_more wordy printed wordy_printed (limit_word w) (limit_wordy w)) (decimal_printed n small)

spaced_printed : (ws : List (List ℕ)) → AreWordy ws → list_all printed (words_text ws) ≡ true
spaced_printed [] p = refl
spaced_printed (w ∷ ws) p = all_printed w (words_text ws) (passes_more wordy printed wordy_printed w p.0) (spaced_printed ws p.1)

rival_printed : (by : Rival) → IsPlainRival by → list_all printed (rival_text by) ≡ true
rival_printed rivals.View p = refl
rival_printed (rivals.Commit commit) p = decimal_printed commit p
rival_printed (rivals.Txn txn) p = decimal_printed txn p

refusal_printed : (r : Refusal) → IsPlainRefusal r → list_all printed (refusal_text r) ≡ true
refusal_printed refusals.Syntax p = refl
refusal_printed (refusals.Unknown name) p = name_printed name p
refusal_printed (refusals.Exists name) p = name_printed name p
refusal_printed (refusals.Kind name) p = name_printed name p
refusal_printed (refusals.Active txn) p = decimal_printed txn p
refusal_printed refusals.NoTransaction p = refl
refusal_printed (refusals.Busy txn) p = decimal_printed txn p
refusal_printed refusals.ReadOnly p = refl
refusal_printed (refusals.Changed row commit) p = pair_printed row.0 commit p.0 p.1
refusal_printed (refusals.Held row txn) p = pair_printed row.0 txn p.0 p.1
refusal_printed (refusals.NoCursor name) p = name_printed name p
refusal_printed (refusals.CursorOpen name) p = name_printed name p
refusal_printed (refusals.Limit which number) p = limit_printed which number p
refusal_printed (refusals.Duplicate row by) p = all_printed (decimal row.0) (rival_text by) (decimal_printed row.0 p.0) (rival_printed by p.1)

reply_printed : (r : Reply) → IsPlainReply r → list_all printed (reply_text r) ≡ true
reply_printed replies.Created p = refl
reply_printed (replies.Began n) p = decimal_printed n p
reply_printed (replies.Inserted row) p = decimal_printed row.0 p
reply_printed (replies.Touched n) p = decimal_printed n p
reply_printed (replies.Committed n) p = decimal_printed n p
reply_printed replies.RolledBack p = refl
reply_printed replies.Opened p = refl
reply_printed (replies.Row vs) p = values_printed vs p
reply_printed replies.End p = refl
reply_printed replies.Closed p = refl
reply_printed (replies.Stepped n) p = decimal_printed n p
reply_printed (replies.Trace shown) p = spaced_printed (trace_words shown) (trace_wordy shown p)
reply_printed (replies.Refused r) p = refusal_printed r p

pub reply_line : (r : Reply) → IsPlainReply r → IsLine (reply_text r)
reply_line r p = passes_more printed (λ c. not (eqb c 10)) printed_line (reply_text r) (reply_printed r p)

-- What is written is read.

pair_again : (n m : ℕ) → n < 2 ^ 64 → m < 2 ^ 64 → pair_at (decimal n ++ codes " by " ++ decimal m) ≡ Some (record { first = n; second = m })
pair_again n m fn fm =
    ap pair_at (append_assoc (decimal n) (codes " by ") (decimal m))
    ∙ rw (cut_word 32 (decimal n) (codes "by " ++ decimal m) (unspaced (decimal n) (decimal_wordy n fn))) (rw (number_again n fn, number_again m fm) refl)

which_again : (w : Which) → which_at (limit_word w) ≡ Some w
which_again limits.Name = refl
which_again limits.Text = refl
which_again limits.Columns = refl
which_again limits.Key = refl
which_again limits.List = refl
which_again limits.Atoms = refl
which_again limits.Groups = refl
which_again limits.Joined = refl
which_again limits.Returned = refl
which_again limits.Order = refl
which_again limits.Steps = refl
which_again limits.Tables = refl
which_again limits.Indexes = refl
which_again limits.Cursors = refl
which_again limits.Rows = refl
which_again limits.Pending = refl

limit_again : (w : Which) (n : ℕ) → n < 2 ^ 64 → limit_at (limit_word w ++ 32 ∷ decimal n) ≡ Some (record { first = w; second = n })
limit_again w n small =
    rw (cut_word 32 (limit_word w) (decimal n) (unspaced (limit_word w) (limit_wordy w))) (rw (which_again w, number_again n small) refl)

duplicate_again : (n : ℕ) (by : Rival) → n < 2 ^ 64 → IsPlainRival by → duplicate_at (decimal n ++ rival_text by) ≡ Some (record { first = n; second = by })
duplicate_again n rivals.View fn p =
    ap duplicate_at (append-nil (decimal n))
    ∙ rw (cut_all 32 (decimal n) (unspaced (decimal n) (decimal_wordy n fn))) (rw (number_again n fn) refl)
duplicate_again n (rivals.Commit commit) fn p =
    rw (cut_word 32 (decimal n) (codes "by commit " ++ decimal commit) (unspaced (decimal n) (decimal_wordy n fn))) (rw (number_again n fn, number_again commit p) refl)
duplicate_again n (rivals.Txn txn) fn p =
    rw (cut_word 32 (decimal n) (codes "by txn " ++ decimal txn) (unspaced (decimal n) (decimal_wordy n fn))) (rw (number_again n fn, number_again txn p) refl)

pub reply_again : (r : Reply) → IsPlainReply r → CanHoldReply r → reply_at (reply_text r) ≡ Some r
reply_again replies.Created p h = refl
reply_again (replies.Began n) p h = rw (number_again n p) refl
reply_again (replies.Inserted row) p h = rw (number_again row.0 p) refl
reply_again (replies.Touched n) p h = rw (number_again n p) refl
reply_again (replies.Committed n) p h = rw (number_again n p) refl
reply_again replies.RolledBack p h = refl
reply_again replies.Opened p h = refl
reply_again (replies.Row vs) p h = rw (values_again vs p h) refl
reply_again replies.End p h = refl
reply_again replies.Closed p h = refl
reply_again (replies.Stepped n) p h = rw (number_again n p) refl
reply_again (replies.Trace shown) p h = rw (trace_again shown p) refl
reply_again (replies.Refused refusals.Syntax) p h = refl
reply_again (replies.Refused (refusals.Unknown name)) p h = rw (is_a_name name p) refl
reply_again (replies.Refused (refusals.Exists name)) p h = rw (is_a_name name p) refl
reply_again (replies.Refused (refusals.Kind name)) p h = rw (is_a_name name p) refl
reply_again (replies.Refused (refusals.Active txn)) p h = rw (number_again txn p) refl
reply_again (replies.Refused refusals.NoTransaction) p h = refl
reply_again (replies.Refused (refusals.Busy txn)) p h = rw (number_again txn p) refl
reply_again (replies.Refused refusals.ReadOnly) p h = refl
reply_again (replies.Refused (refusals.Changed row commit)) p h = rw (pair_again row.0 commit p.0 p.1) refl
reply_again (replies.Refused (refusals.Held row txn)) p h = rw (pair_again row.0 txn p.0 p.1) refl
reply_again (replies.Refused (refusals.NoCursor name)) p h = rw (is_a_name name p) refl
reply_again (replies.Refused (refusals.CursorOpen name)) p h = rw (is_a_name name p) refl
reply_again (replies.Refused (refusals.Limit which number)) p h = rw (limit_again which number p) refl
reply_again (replies.Refused (refusals.Duplicate row by)) p h = rw (duplicate_again row.0 by p.0 p.1) refl

-- What is read was written.

pub record Takes (text : List ℕ) (r : Reply) : Type 0 where
  pub plain : IsPlainReply r
  pub held : CanHoldReply r
  pub is : reply_text r ≡ text

-- whichever reply of a choice it is, it was written so
abbrev Taken : List ℕ → Option Reply → Type 0
Taken text o = (r : Reply) → o ≡ Some r → Takes text r

first_takes : (text : List ℕ) (os : List (Option Reply)) → AllByRecursion (Taken text) os → Taken text (first_of os)
first_takes text [] h = λ r e. cc
first_takes text (None ∷ os) h = first_takes text os h.1
first_takes text ((Some q) ∷ os) h = λ r e. h.0 r e

-- what is found behind a word
after_takes : (word text rest : List ℕ) → after word text ≡ Some rest → text ≡ word ++ rest
after_takes [] text rest e = same_Some text rest e
after_takes (c ∷ cs) [] rest e = cc
after_takes (c ∷ cs) (d ∷ ds) rest e = elim (cases_Bool (eqb c d)) [
  | inl t ↦ let same : c ≡ d = grind (arith, nat_tests) in let more = after_takes cs ds rest (rw t at e) in λ i. sym same i ∷ more i
  | inr f ↦ let no : None ≡ Some rest = rw f at e in cc
]

-- a reply that is made of what is read behind a word
behind_takes : {A : Type 0} (word text : List ℕ) (go : List ℕ → Option A) (make : A → Reply) → ((rest : List ℕ) (x : A) → go rest ≡ Some x → Takes (word ++ rest) (make x)) → Taken text (made make (read_behind (after word text) go))
behind_takes {A} word text go make takes = λ r e. by (after word text) refl r e
  where
    made_is : (rest : List ℕ) (o : Option A) → go rest ≡ o → text ≡ word ++ rest → (r : Reply) → made make o ≡ Some r → Takes text r
    made_is rest None at is r e = cc
    made_is rest (Some x) at is r e = rw (sym (same_Some (make x) r e)) (rw is (takes rest x at))

    by : (o : Option (List ℕ)) → after word text ≡ o → (r : Reply) → made make (read_behind o go) ≡ Some r → Takes text r
    by None at r e = cc
    by (Some rest) at r e = made_is rest (go rest) refl (after_takes word text rest at) r e

word_takes : (word : List ℕ) (reply : Reply) (text : List ℕ) → Takes word reply → Taken text (word_is word reply text)
word_takes word reply text takes = λ r e. (
    let found = cond_some (bytes_eq text word) reply r e in
    rw (sym found.1) (rw (same_bytes text word found.0) takes))

lone_takes : (text : List ℕ) → Taken text (lone_at text)
lone_takes text = first_takes text (
    word_is (codes "created") replies.Created text
    ∷ word_is (codes "rolled back") replies.RolledBack text
    ∷ word_is (codes "opened") replies.Opened text
    ∷ word_is (codes "end") replies.End text
    ∷ word_is (codes "closed") replies.Closed text
    ∷ word_is (codes "syntax") (replies.Refused refusals.Syntax) text
    ∷ word_is (codes "no transaction") (replies.Refused refusals.NoTransaction) text
    ∷ word_is (codes "read only") (replies.Refused refusals.ReadOnly) text
    ∷ []) (
      word_takes (codes "created") replies.Created text (record { plain = tt; held = tt; is = refl }),
      (
        word_takes (codes "rolled back") replies.RolledBack text (record { plain = tt; held = tt; is = refl }),
        (
          word_takes (codes "opened") replies.Opened text (record { plain = tt; held = tt; is = refl }),
          (
            word_takes (codes "end") replies.End text (record { plain = tt; held = tt; is = refl }),
            (
              word_takes (codes "closed") replies.Closed text (record { plain = tt; held = tt; is = refl }),
              (
                word_takes (codes "syntax") (replies.Refused refusals.Syntax) text (record { plain = tt; held = tt; is = refl }),
                (
                  word_takes (codes "no transaction") (replies.Refused refusals.NoTransaction) text (record { plain = tt; held = tt; is = refl }),
                  (
                    word_takes (codes "read only") (replies.Refused refusals.ReadOnly) text (record { plain = tt; held = tt; is = refl }),
                    tt,
                  ),
                ),
              ),
            ),
          ),
        ),
      ),
    )

number_reply : (word text : List ℕ) (make : ℕ → Reply) → ((rest : List ℕ) (n : ℕ) → decimal n ≡ rest → n < 2 ^ 64 → Takes (word ++ rest) (make n)) → Taken text (made make (number_behind word text))
number_reply word text make takes = behind_takes word text (λ rest. number_at rest) make (λ rest n e. (let number = number_takes rest n e in takes rest n number.0 number.1))

numbered_takes : (text : List ℕ) → Taken text (numbered_at text)
numbered_takes text = first_takes text (
    made (λ n. replies.Began n) (number_behind (codes "began ") text)
    ∷ made (λ n. replies.Inserted (record { 0 = n })) (number_behind (codes "inserted ") text)
    ∷ made (λ n. replies.Touched n) (number_behind (codes "touched ") text)
    ∷ made (λ n. replies.Committed n) (number_behind (codes "committed ") text)
    ∷ made (λ n. replies.Stepped n) (number_behind (codes "stepped ") text)
    ∷ made (λ n. replies.Refused (refusals.Active n)) (number_behind (codes "active ") text)
    ∷ made (λ n. replies.Refused (refusals.Busy n)) (number_behind (codes "busy ") text)
    ∷ []) (
      number_reply (codes "began ") text (λ n. replies.Began n) (λ rest n is small. record { plain = small; held = tt; is = λ i. codes "began " ++ is i }),
      (
        number_reply (codes "inserted ") text (λ n. replies.Inserted (record { 0 = n })) (λ rest n is small. record { plain = small; held = tt; is = λ i. codes "inserted " ++ is i }),
        (
          number_reply (codes "touched ") text (λ n. replies.Touched n) (λ rest n is small. record { plain = small; held = tt; is = λ i. codes "touched " ++ is i }),
          (
            number_reply (codes "committed ") text (λ n. replies.Committed n) (λ rest n is small. record { plain = small; held = tt; is = λ i. codes "committed " ++ is i }),
            (
              number_reply (codes "stepped ") text (λ n. replies.Stepped n) (λ rest n is small. record { plain = small; held = tt; is = λ i. codes "stepped " ++ is i }),
              (
                number_reply (codes "active ") text (λ n. replies.Refused (refusals.Active n)) (λ rest n is small. record { plain = small; held = tt; is = λ i. codes "active " ++ is i }),
                (
                  number_reply (codes "busy ") text (λ n. replies.Refused (refusals.Busy n)) (λ rest n is small. record { plain = small; held = tt; is = λ i. codes "busy " ++ is i }),
                  tt,
                ),
              ),
            ),
          ),
        ),
      ),
    )

name_reply : (word text : List ℕ) (make : List ℕ → Reply) → ((name : List ℕ) → IsName name → Takes (word ++ name) (make name)) → Taken text (made make (name_behind word text))
name_reply word text make takes = behind_takes word text (λ rest. name_at rest) make (λ rest name e. (
    let found = cond_some (is_name rest) rest name e in
    rw (sym found.1) (takes rest (name_is rest found.0))))

named_takes : (text : List ℕ) → Taken text (named_at text)
named_takes text = first_takes text (
    made (λ name. replies.Refused (refusals.Unknown name)) (name_behind (codes "unknown ") text)
    ∷ made (λ name. replies.Refused (refusals.Exists name)) (name_behind (codes "exists ") text)
    ∷ made (λ name. replies.Refused (refusals.Kind name)) (name_behind (codes "kind ") text)
    ∷ made (λ name. replies.Refused (refusals.NoCursor name)) (name_behind (codes "no cursor ") text)
    ∷ made (λ name. replies.Refused (refusals.CursorOpen name)) (name_behind (codes "cursor open ") text)
    ∷ []) (
      name_reply (codes "unknown ") text (λ name. replies.Refused (refusals.Unknown name)) (λ name h. record { plain = h; held = tt; is = refl }),
      (
        name_reply (codes "exists ") text (λ name. replies.Refused (refusals.Exists name)) (λ name h. record { plain = h; held = tt; is = refl }),
        (
          name_reply (codes "kind ") text (λ name. replies.Refused (refusals.Kind name)) (λ name h. record { plain = h; held = tt; is = refl }),
          (
            name_reply (codes "no cursor ") text (λ name. replies.Refused (refusals.NoCursor name)) (λ name h. record { plain = h; held = tt; is = refl }),
            (
              name_reply (codes "cursor open ") text (λ name. replies.Refused (refusals.CursorOpen name)) (λ name h. record { plain = h; held = tt; is = refl }),
              tt,
            ),
          ),
        ),
      ),
    )

record Both {A B : Type 0} (a : Option A) (b : Option B) (p : Pair A B) : Type 0 where
  first_is : a ≡ Some p.first
  second_is : b ≡ Some p.second

both_parts : {A B : Type 0} (a : Option A) (b : Option B) (p : Pair A B) → both_of a b ≡ Some p → Both a b p
both_parts None b p e = cc
both_parts (Some x) None p e = cc
both_parts (Some x) (Some y) p e = rw (sym (same_Some (record { first = x; second = y }) p e)) (record { first_is = refl; second_is = refl })

record SecondNumber (more : Option (List ℕ)) (word : List ℕ) (n : ℕ) : Type 0 where
  is : behind 32 more ≡ 32 ∷ word ++ decimal n
  small : n < 2 ^ 64

second_number : (more : Option (List ℕ)) (n : ℕ) → read_behind more (λ rest. number_at rest) ≡ Some n → SecondNumber more [] n
second_number None n e = cc
second_number (Some rest) n e = let number = number_takes rest n e in record { is = λ i. 32 ∷ sym number.0 i; small = number.1 }

by_number : (more : Option (List ℕ)) (n : ℕ) → read_behind more (λ rest. number_behind (codes "by ") rest) ≡ Some n → SecondNumber more (codes "by ") n
by_number None n e = cc
by_number (Some rest) n e = by (after (codes "by ") rest) refl e
  where
    by : (o : Option (List ℕ)) → after (codes "by ") rest ≡ o → read_behind o (λ digits. number_at digits) ≡ Some n → SecondNumber (Some rest) (codes "by ") n
    by None at e = cc
    by (Some digits) at e =
        let number = number_takes digits n e in
        let word = after_takes (codes "by ") rest digits at in
        record { is = (λ i. 32 ∷ word i) ∙ (λ i. 32 ∷ codes "by " ++ sym number.0 i); small = number.1 }

record PairIs (text : List ℕ) (p : Pair ℕ ℕ) : Type 0 where
  is : decimal p.first ++ codes " by " ++ decimal p.second ≡ text
  first : p.first < 2 ^ 64
  second : p.second < 2 ^ 64

pair_takes : (text : List ℕ) (p : Pair ℕ ℕ) → pair_at text ≡ Some p → PairIs text p
pair_takes text p e =
    let parts = both_parts (number_at (cut 32 text).word) (read_behind (cut 32 text).more (λ rest. number_behind (codes "by ") rest)) p e in
    let first = number_takes (cut 32 text).word p.first parts.first_is in
    let second = by_number (cut 32 text).more p.second parts.second_is in
    record {
      is = append_assoc (decimal p.first) (codes " by ") (decimal p.second) ∙ (λ i. first.0 i ++ sym second.is i) ∙ cut_whole 32 text;
      first = first.1;
      second = second.small;
    }

record LimitIs (text : List ℕ) (p : Pair Which ℕ) : Type 0 where
  is : limit_word p.first ++ 32 ∷ decimal p.second ≡ text
  second : p.second < 2 ^ 64

limit_takes : (text : List ℕ) (p : Pair Which ℕ) → limit_at text ≡ Some p → LimitIs text p
limit_takes text p e =
    let parts = both_parts (which_at (cut 32 text).word) (read_behind (cut 32 text).more (λ rest. number_at rest)) p e in
    let first = same_bytes (limit_word p.first) (cut 32 text).word (find_passes (λ w. bytes_eq (limit_word w) (cut 32 text).word) limits_all p.first parts.first_is) in
    let second = second_number (cut 32 text).more p.second parts.second_is in
    record { is = (λ i. first i ++ sym second.is i) ∙ cut_whole 32 text; second = second.small }

-- a number behind a word
record NumberIs (word rest : List ℕ) (n : ℕ) : Type 0 where
  is : word ++ decimal n ≡ rest
  small : n < 2 ^ 64

number_is : (word rest : List ℕ) (n : ℕ) → number_behind word rest ≡ Some n → NumberIs word rest n
number_is word rest n e = by (after word rest) refl e
  where
    by : (o : Option (List ℕ)) → after word rest ≡ o → read_behind o (λ digits. number_at digits) ≡ Some n → NumberIs word rest n
    by None at e = cc
    by (Some digits) at e =
        let number = number_takes digits n e in
        let behind_it = after_takes word rest digits at in
        record { is = (λ i. word ++ number.0 i) ∙ sym behind_it; small = number.1 }

record RivalIs (more : Option (List ℕ)) (by : Rival) : Type 0 where
  is : rival_text by ≡ behind 32 more
  plain : IsPlainRival by

rival_takes : (more : Option (List ℕ)) (by : Rival) → rival_at more ≡ Some by → RivalIs more by
rival_takes None by e = rw (sym (same_Some rivals.View by e)) (record { is = refl; plain = tt })
rival_takes (Some rest) by e = which (number_behind (codes "by commit ") rest) (number_behind (codes "by txn ") rest) refl refl e
  where
    which : (commit txn : Option ℕ) → number_behind (codes "by commit ") rest ≡ commit → number_behind (codes "by txn ") rest ≡ txn → rival_of commit txn ≡ Some by → RivalIs (Some rest) by
    which (Some commit) txn c t e =
        let found = number_is (codes "by commit ") rest commit c in
        rw (sym (same_Some (rivals.Commit commit) by e)) (record { is = λ i. 32 ∷ found.is i; plain = found.small })
    which None (Some txn) c t e =
        let found = number_is (codes "by txn ") rest txn t in
        rw (sym (same_Some (rivals.Txn txn) by e)) (record { is = λ i. 32 ∷ found.is i; plain = found.small })
    which None None c t e = cc

record DuplicateIs (text : List ℕ) (p : Pair ℕ Rival) : Type 0 where
  is : decimal p.first ++ rival_text p.second ≡ text
  first : p.first < 2 ^ 64
  second : IsPlainRival p.second

duplicate_takes : (text : List ℕ) (p : Pair ℕ Rival) → duplicate_at text ≡ Some p → DuplicateIs text p
duplicate_takes text p e =
    let parts = both_parts (number_at (cut 32 text).word) (rival_at (cut 32 text).more) p e in
    let first = number_takes (cut 32 text).word p.first parts.first_is in
    let second = rival_takes (cut 32 text).more p.second parts.second_is in
    record { is = (λ i. first.0 i ++ second.is i) ∙ cut_whole 32 text; first = first.1; second = second.plain }

paired_takes : (text : List ℕ) → Taken text (paired_at text)
paired_takes text = first_takes text (
    made (λ (p : Pair ℕ ℕ). replies.Refused (refusals.Changed (record { 0 = p.first }) p.second)) (read_behind (after (codes "changed ") text) (λ rest. pair_at rest))
    ∷ made (λ (p : Pair ℕ ℕ). replies.Refused (refusals.Held (record { 0 = p.first }) p.second)) (read_behind (after (codes "held ") text) (λ rest. pair_at rest))
    ∷ made (λ (p : Pair Which ℕ). replies.Refused (refusals.Limit p.first p.second)) (read_behind (after (codes "limit ") text) (λ rest. limit_at rest))
    ∷ made (λ (p : Pair ℕ Rival). replies.Refused (refusals.Duplicate (record { 0 = p.first }) p.second)) (read_behind (after (codes "duplicate ") text) (λ rest. duplicate_at rest))
    ∷ []) (
      behind_takes (codes "changed ") text (λ rest. pair_at rest) (λ (p : Pair ℕ ℕ). replies.Refused (refusals.Changed (record { 0 = p.first }) p.second)) (λ rest p e. (let found = pair_takes rest p e in record { plain = (found.first, found.second); held = tt; is = λ i. codes "changed " ++ found.is i })),
      (
        behind_takes (codes "held ") text (λ rest. pair_at rest) (λ (p : Pair ℕ ℕ). replies.Refused (refusals.Held (record { 0 = p.first }) p.second)) (λ rest p e. (let found = pair_takes rest p e in record { plain = (found.first, found.second); held = tt; is = λ i. codes "held " ++ found.is i })),
        (
          behind_takes (codes "limit ") text (λ rest. limit_at rest) (λ (p : Pair Which ℕ). replies.Refused (refusals.Limit p.first p.second)) (λ rest p e. (let found = limit_takes rest p e in record { plain = found.second; held = tt; is = λ i. codes "limit " ++ found.is i })),
          (
            behind_takes (codes "duplicate ") text (λ rest. duplicate_at rest) (λ (p : Pair ℕ Rival). replies.Refused (refusals.Duplicate (record { 0 = p.first }) p.second)) (λ rest p e. (let found = duplicate_takes rest p e in record { plain = (found.first, found.second); held = tt; is = λ i. codes "duplicate " ++ found.is i })),
            tt,
          ),
        ),
      ),
    )

row_takes : (text : List ℕ) → Taken text (row_at text)
row_takes text = behind_takes (codes "row ") text (λ rest. values_at rest) (λ (vs : List Value). replies.Row vs) (λ rest vs e. (let found = values_takes rest vs e in record { plain = found.plain; held = found.held; is = λ i. codes "row " ++ found.is i }))

shown_takes : (text : List ℕ) → Taken text (shown_at text)
shown_takes text = behind_takes (codes "trace ") text (λ rest. trace_at rest) (λ (shown : Shown). replies.Trace shown) (λ rest shown e. (let found = trace_takes rest shown e in record { plain = found.plain; held = tt; is = λ i. codes "trace" ++ found.is i }))

pub reply_takes : (text : List ℕ) (r : Reply) → reply_at text ≡ Some r → Takes text r
reply_takes text = first_takes text (lone_at text ∷ numbered_at text ∷ row_at text ∷ named_at text ∷ paired_at text ∷ shown_at text ∷ []) (lone_takes text, (numbered_takes text, (row_takes text, (named_takes text, (paired_takes text, (shown_takes text, tt))))))
