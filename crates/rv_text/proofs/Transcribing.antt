-- What is read of bytes: their entries, or the first line with which no transcript begins.
use Rattle.std.proofs.Common.{◌≡◌, ℕ, zero, suc, ◌+◌, ◌-◌, ◌≤◌, ◌<◌, List, [], ◌∷◌, ◌++◌, Option, Some, None, Result, Ok, Err, Bool, true, false, not, ◌&&◌, cond, refl, ap, sym, subst, ◌∙◌, length, take, map, arith, eqb, nat_le, append_assoc, append-nil, IsUtf8}
use Rattle.std.proofs.lemmas.Bool.Decides.{nat_tests}
use Rattle.std.proofs.lemmas.Fmt.{decimal_digit}
use Rattle.std.proofs.lemmas.Str.{IsUtf8-from_is_utf8, is_utf8-from_IsUtf8}
use Rattle.std.specs.List.{list_all, AllByRecursion}
use Rattle.std.specs.Str.{is_utf8}
use Rattle.std.proofs.lemmas.Bool.{and_parts}
use Rattle.std.proofs.lemmas.Option.{same_Some}
use Rattle.rv_lang.specs.declared.reply.Reply.{Reply}
use Rattle.rv_lang.specs.declared.reply.Reply.TheVariants as replies
use Rattle.rv_model.specs.declared.entry.Entry.{Entry}
use Rattle.rv_model.specs.Transcript.{entry_text, reply_text, text, IsLine, IsPlainReply}
use Rattle.rv_text.specs.Lines.{split, Split}
use Rattle.rv_text.specs.Reading.{front, AreReadable, CanHoldReply, GoesOn, InFirstPhase, IsReadable, StopsAt}
use Rattle.rv_text.specs.Replies.{reply_at}
use Rattle.rv_text.specs.Texts.{answer_at, calls_of, call_at, entry_of, lone, paired, read_from, Call}
use Rattle.rv_text.proofs.Cutting.{ends_is, front_is, lines_of, split_line, split_unsplit, split_whole, unsplit, AreLines}
use Rattle.rv_text.proofs.Replying.{reply_again, reply_line, reply_takes}

-- Calls and answers.

abbrev call_text : ℕ → List ℕ → List ℕ
call_text session text = (48 + session) ∷ 32 ∷ text

abbrev answer_text : Reply → List ℕ
answer_text reply = 61 ∷ 32 ∷ reply_text reply

record CallTakes (line : List ℕ) (call : Call) : Type 0 where
  from : 1 ≤ call.session
  to : call.session ≤ 8
  held : IsUtf8 call.text
  asked : IsLine line → IsLine call.text
  is : call_text call.session call.text ≡ line

call_takes : (line : List ℕ) (call : Call) → call_at line ≡ Some call → CallTakes line call
call_takes [] call e = cc
call_takes (s ∷ []) call e = cc
call_takes (s ∷ b ∷ ws) call e = by ((nat_le 49 s && nat_le s 56) && (eqb b 32 && is_utf8 ws)) refl e
  where
    by : (t : Bool) → ((nat_le 49 s && nat_le s 56) && (eqb b 32 && is_utf8 ws)) ≡ t → cond t (Some (record { session = s - 48; text = ws })) None ≡ Some call → CallTakes (s ∷ b ∷ ws) call
    by false test e = cc
    by true test e =
        let parts = and_parts (nat_le 49 s && nat_le s 56) (eqb b 32 && is_utf8 ws) test in
        let digits = and_parts (nat_le 49 s) (nat_le s 56) parts.0 in
        let others = and_parts (eqb b 32) (is_utf8 ws) parts.1 in
        let low : 49 ≤ s = (let h = digits.0 in grind (arith, nat_tests)) in
        let high : s ≤ 56 = (let h = digits.1 in grind (arith, nat_tests)) in
        let space : b ≡ 32 = (let h = others.0 in grind (arith, nat_tests)) in
        let back : 48 + (s - 48) ≡ s = omega (arith, low) in
        let same : record { session = s - 48; text = ws } ≡ call = same_Some (record { session = s - 48; text = ws }) call e in
        subst (CallTakes (s ∷ b ∷ ws)) same (record {
          from = omega (arith, low);
          to = omega (arith, high);
          held = IsUtf8-from_is_utf8 ws others.1;
          asked = λ h. (and_parts (not (eqb b 10)) (list_all (λ c. not (eqb c 10)) ws) (and_parts (not (eqb s 10)) (not (eqb b 10) && list_all (λ c. not (eqb c 10)) ws) h).1).1;
          is = λ i. back i ∷ sym space i ∷ ws;
        })

call_again : (session : ℕ) (ws : List ℕ) → 1 ≤ session → session ≤ 8 → is_utf8 ws ≡ true → call_at (call_text session ws) ≡ Some (record { session = session; text = ws })
call_again session ws from to held =
    let low : nat_le 49 (48 + session) ≡ true = grind (arith, nat_tests) in
    let high : nat_le (48 + session) 56 ≡ true = grind (arith, nat_tests) in
    let back : 48 + session - 48 ≡ session = omega arith in
    rw (low, high, held, back) refl

record AnswerTakes (line : List ℕ) (r : Reply) : Type 0 where
  plain : IsPlainReply r
  held : CanHoldReply r
  is : answer_text r ≡ line

answer_takes : (line : List ℕ) (r : Reply) → answer_at line ≡ Some r → AnswerTakes line r
answer_takes [] r e = cc
answer_takes (a ∷ []) r e = cc
answer_takes (a ∷ b ∷ ws) r e = by (eqb a 61 && eqb b 32) refl e
  where
    by : (t : Bool) → (eqb a 61 && eqb b 32) ≡ t → cond t (reply_at ws) None ≡ Some r → AnswerTakes (a ∷ b ∷ ws) r
    by false test e = cc
    by true test e =
        let parts = and_parts (eqb a 61) (eqb b 32) test in
        let sign : a ≡ 61 = (let h = parts.0 in grind (arith, nat_tests)) in
        let space : b ≡ 32 = (let h = parts.1 in grind (arith, nat_tests)) in
        let found = reply_takes ws r e in
        record { plain = found.plain; held = found.held; is = λ i. sym sign i ∷ sym space i ∷ found.is i }

call_line : (e : Entry) → IsReadable e → IsLine (call_text e.session e.text)
call_line e p =
    let digit : not (eqb (48 + e.session) 10) ≡ true = (let low = p.plain.from in grind (arith, nat_tests)) in
    rw digit p.plain.asked

answer_line : (r : Reply) → IsPlainReply r → IsLine (answer_text r)
answer_line r p = reply_line r p

-- an entry's two lines, and what follows
entry_parts : (e : Entry) (more : List ℕ) → e.session ≤ 8 → entry_text e ++ more ≡ call_text e.session e.text ++ 10 ∷ (answer_text e.reply ++ 10 ∷ more)
entry_parts e more to = let digit = decimal_digit e.session (omega (arith, to)) in rw digit (simp append_assoc)

split_entry : (e : Entry) (more : List ℕ) → IsReadable e → split (entry_text e ++ more) ≡ record { lines = call_text e.session e.text ∷ answer_text e.reply ∷ (split more).lines; rest = (split more).rest }
split_entry e more p =
    ap split (entry_parts e more p.plain.to)
    ∙ split_line (call_text e.session e.text) (answer_text e.reply ++ 10 ∷ more) (call_line e p)
    ∙ ap (λ (s : Split). record { lines = call_text e.session e.text ∷ s.lines; rest = s.rest }) (split_line (answer_text e.reply) more (answer_line e.reply p.plain.answered))

-- What is written is read.

abbrev in_first : Entry → Entry
in_first e = record { session = e.session; phase = 1; text = e.text; reply = e.reply }

complete : (n : ℕ) (es : List Entry) → AreReadable es → calls_of n (split (text es)).lines (split (text es)).rest ≡ Ok (map in_first es)
complete n [] p = refl
complete n (e ∷ es) p =
    ap (λ (s : Split). calls_of n s.lines s.rest) (split_entry e (text es) p.0)
    ∙ rw (call_again e.session e.text p.0.plain.from p.0.plain.to (is_utf8-from_IsUtf8 e.text p.0.call), reply_again e.reply p.0.plain.answered p.0.reply, complete (n + 2) es p.1) refl

-- What is read was written.

pub record Sound (ls : List (List ℕ)) (rest : List ℕ) (es : List Entry) : Type 0 where
  pub readable : AreReadable es
  pub first_phase : AllByRecursion InFirstPhase es
  pub none : rest ≡ []
  pub is : text es ≡ unsplit ls

ok_is : (a b : List Entry) → ◌≡◌ {A = Result (List Entry) ℕ} (Ok a) (Ok b) → a ≡ b
ok_is a b e = ap ok_or_nil e
  where
    ok_or_nil : Result (List Entry) ℕ → List Entry
    ok_or_nil (Ok es) = es
    ok_or_nil (Err k) = []

err_is : (j k : ℕ) → ◌≡◌ {A = Result (List Entry) ℕ} (Err j) (Err k) → j ≡ k
err_is j k e = ap err_or_nil e
  where
    err_or_nil : Result (List Entry) ℕ → ℕ
    err_or_nil (Ok es) = 0
    err_or_nil (Err k) = k

-- an entry that was read of two lines
read_entry : (l m : List ℕ) (call : Call) (reply : Reply) → IsLine l → CallTakes l call → AnswerTakes m reply → IsReadable (entry_of call reply)
read_entry l m call reply line c a = record {
  plain = record { from = c.from; to = c.to; asked = c.asked line; answered = a.plain };
  call = c.held;
  reply = a.held;
}

sound : (n : ℕ) (ls : List (List ℕ)) (rest : List ℕ) (es : List Entry) → AreLines ls → calls_of n ls rest ≡ Ok es → Sound ls rest es
sound n [] [] es lines e = rw (sym (ok_is [] es e)) (record { readable = tt; first_phase = tt; none = refl; is = refl })
sound n [] (c ∷ rest) es lines e = cc
sound n (l ∷ []) rest es lines e = none (call_at l) e
  where
    none : (o : Option Call) → lone n o ≡ Ok es → Sound (l ∷ []) rest es
    none None e = cc
    none (Some call) e = cc
sound n (l ∷ m ∷ ls) rest es lines e = by (call_at l) (answer_at m) (calls_of (n + 2) ls rest) refl refl refl e (λ fs. sound (n + 2) ls rest fs lines.1.1)
  where
    by : (call : Option Call) (answer : Option Reply) (more : Result (List Entry) ℕ) → call_at l ≡ call → answer_at m ≡ answer → calls_of (n + 2) ls rest ≡ more → paired n call answer more ≡ Ok es → ((fs : List Entry) → calls_of (n + 2) ls rest ≡ Ok fs → Sound ls rest fs) → Sound (l ∷ m ∷ ls) rest es
    by None answer more ce ae me e ih = cc
    by (Some call) None more ce ae me e ih = cc
    by (Some call) (Some reply) (Err k) ce ae me e ih = cc
    by (Some call) (Some reply) (Ok fs) ce ae me e ih =
        let first : Entry = entry_of call reply in
        let c = call_takes l call ce in
        let a = answer_takes m reply ae in
        let s = ih fs me in
        rw (sym (ok_is (first ∷ fs) es e)) (record {
          readable = (read_entry l m call reply lines.0 c a, s.readable);
          first_phase = (refl, s.first_phase);
          none = s.none;
          is = entry_parts first (text fs) c.to ∙ (λ i. c.is i ++ 10 ∷ (a.is i ++ 10 ∷ s.is i));
        })

-- The line at which no text goes on.

record Bad (n : ℕ) (ls : List (List ℕ)) (rest : List ℕ) (k : ℕ) : Type 0 where
  j : ℕ
  at : k ≡ n + j
  within : j ≤ length ls
  before : GoesOn (unsplit (take j ls))
  stays : j < length ls → (xs : List (List ℕ)) (other : List ℕ) → calls_of n (take (suc j) ls ++ xs) other ≡ Err k

nothing : GoesOn []
nothing = record { entries = []; readable = tt; more = []; is = refl }

created : AnswerTakes (answer_text replies.Created) replies.Created
created = record { plain = tt; held = tt; is = refl }

-- after a call, an answer goes on
one_call : (l : List ℕ) (call : Call) → IsLine l → call_at l ≡ Some call → GoesOn (l ++ 10 ∷ [])
one_call l call line e =
    let c = call_takes l call e in
    let first : Entry = entry_of call replies.Created in
    record {
      entries = first ∷ [];
      readable = (read_entry l (answer_text replies.Created) call replies.Created line c created, tt);
      more = answer_text replies.Created ++ 10 ∷ [];
      is = entry_parts first [] c.to ∙ (λ i. c.is i ++ 10 ∷ (answer_text replies.Created ++ 10 ∷ [])) ∙ sym (append_assoc l (10 ∷ []) (answer_text replies.Created ++ 10 ∷ []));
    }

no_call : (n k : ℕ) (l : List ℕ) (xs : List (List ℕ)) (other : List ℕ) → call_at l ≡ None → n ≡ k → calls_of n (l ∷ xs) other ≡ Err k
no_call n k l [] other e at = rw (e, at) refl
no_call n k l (m ∷ xs) other e at = rw (e, at) refl

two_lines : (x y us ws : List ℕ) → (x ++ 10 ∷ (y ++ 10 ∷ us)) ++ ws ≡ x ++ 10 ∷ (y ++ 10 ∷ (us ++ ws))
two_lines x y us ws = simp append_assoc

bad : (n : ℕ) (ls : List (List ℕ)) (rest : List ℕ) (k : ℕ) → AreLines ls → calls_of n ls rest ≡ Err k → Bad n ls rest k
bad n [] [] k lines e = cc
bad n [] (c ∷ rest) k lines e = record { j = 0; at = sym (err_is n k e) ∙ (omega arith); within = omega arith; before = nothing; stays = λ h. absurd (omega arith) }
bad n (l ∷ []) rest k lines e = by (call_at l) refl e
  where
    by : (o : Option Call) → call_at l ≡ o → lone n o ≡ Err k → Bad n (l ∷ []) rest k
    by None ce e = record { j = 0; at = sym (err_is n k e) ∙ (omega arith); within = omega arith; before = nothing; stays = λ h xs other. no_call n k l xs other ce (err_is n k e) }
    by (Some call) ce e = record { j = 1; at = sym (err_is (n + 1) k e); within = omega arith; before = one_call l call lines.0 ce; stays = λ h. absurd (omega arith) }
bad n (l ∷ m ∷ ls) rest k lines e = by (call_at l) (answer_at m) (calls_of (n + 2) ls rest) refl refl refl e (λ line. bad (n + 2) ls rest line lines.1.1)
  where
    by : (call : Option Call) (answer : Option Reply) (more : Result (List Entry) ℕ) → call_at l ≡ call → answer_at m ≡ answer → calls_of (n + 2) ls rest ≡ more → paired n call answer more ≡ Err k → ((line : ℕ) → calls_of (n + 2) ls rest ≡ Err line → Bad (n + 2) ls rest line) → Bad n (l ∷ m ∷ ls) rest k
    by None answer more ce ae me e ih = record { j = 0; at = sym (err_is n k e) ∙ (omega arith); within = omega arith; before = nothing; stays = λ h xs other. no_call n k l xs other ce (err_is n k e) }
    by (Some call) None more ce ae me e ih = record { j = 1; at = sym (err_is (n + 1) k e); within = omega arith; before = one_call l call lines.0 ce; stays = λ h xs other. rw (ce, ae) (ap (λ x. Err x) (err_is (n + 1) k e)) }
    by (Some call) (Some reply) (Ok fs) ce ae me e ih = cc
    by (Some call) (Some reply) (Err line) ce ae me e ih =
        let first : Entry = entry_of call reply in
        let c = call_takes l call ce in
        let a = answer_takes m reply ae in
        let is_line : line ≡ k = err_is line k e in
        let b = ih k (me ∙ ap (λ x. Err x) is_line) in
        let b_at = b.at in
        record {
          j = suc (suc b.j);
          at = omega (arith, b_at);
          within = (let w = b.within in omega (arith, w));
          before = record {
            entries = first ∷ b.before.entries;
            readable = (read_entry l m call reply lines.0 c a, b.before.readable);
            more = b.before.more;
            is = entry_parts first (text b.before.entries) c.to ∙ (λ i. c.is i ++ 10 ∷ (a.is i ++ 10 ∷ b.before.is i)) ∙ sym (two_lines l m (unsplit (take b.j ls)) b.before.more);
          };
          stays = λ h xs other. rw (ce, ae, b.stays (omega (arith, h)) xs other) refl;
        }

take_lines : (k : ℕ) (ls : List (List ℕ)) → AreLines ls → AreLines (take k ls)
take_lines zero ls h = tt
take_lines (suc k) [] h = tt
take_lines (suc k) (l ∷ ls) h = (h.0, take_lines k ls h.1)

-- where a transcript begins with lines, these are its first lines
begins : (n : ℕ) (es : List Entry) (ls : List (List ℕ)) (more : List ℕ) → AreReadable es → AreLines ls → text es ≡ unsplit ls ++ more → calls_of n (ls ++ (split more).lines) (split more).rest ≡ Ok (map in_first es)
begins n es ls more readable lines is = sym (ap (λ (s : Split). calls_of n s.lines s.rest) (ap split is ∙ split_unsplit ls more lines)) ∙ complete n es readable

-- what is told, where the functions of these files read it
abbrev pub Reads : List ℕ → Result (List Entry) ℕ → Type 0
Reads bytes (Ok read) = AreReadable read × (text read ≡ bytes) × AllByRecursion InFirstPhase read
Reads bytes (Err line) = StopsAt line bytes

pub reads : (bytes : List ℕ) → Reads bytes (read_from 1 bytes)
reads bytes = by (read_from 1 bytes) refl
  where
    by : (o : Result (List Entry) ℕ) → read_from 1 bytes ≡ o → Reads bytes o
    by (Ok es) e =
        let s = sound 1 (split bytes).lines (split bytes).rest es (lines_of bytes) e in
        (s.readable, s.is ∙ sym (append-nil (unsplit (split bytes).lines)) ∙ ap (λ r. unsplit (split bytes).lines ++ r) (sym s.none) ∙ split_whole bytes, s.first_phase)
    by (Err k) e =
        let ls = (split bytes).lines in
        let b = bad 1 ls (split bytes).rest k (lines_of bytes) e in
        let at = b.at in
        let within = b.within in
        let count = ends_is bytes in
        let less : k - 1 ≡ b.j = omega (arith, at) in
        let more : k ≡ suc b.j = omega (arith, at) in
        record {
          first = omega (arith, at);
          last = omega (arith, at, within, count);
          before = subst GoesOn (sym (ap (λ n. front n bytes) less ∙ front_is b.j bytes within)) b.before;
          with_it = λ h goes. (
              let short : b.j < length ls = omega (arith, at, h, count) in
              let is : text goes.entries ≡ unsplit (take (suc b.j) ls) ++ goes.more = goes.is ∙ ap (λ f. f ++ goes.more) (ap (λ n. front n bytes) more ∙ front_is (suc b.j) bytes (omega (arith, short))) in
              let ok = begins 1 goes.entries (take (suc b.j) ls) goes.more goes.readable (take_lines (suc b.j) ls (lines_of bytes)) is in
              let err = b.stays short (split goes.more).lines (split goes.more).rest in
              let no : ◌≡◌ {A = Result (List Entry) ℕ} (Ok (map in_first goes.entries)) (Err k) = sym ok ∙ err in
              cc);
          none = λ whole. (
              let ok : read_from 1 bytes ≡ Ok (map in_first whole.entries) = ap (λ bs. read_from 1 bs) (sym whole.is) ∙ complete 1 whole.entries whole.readable in
              let no : ◌≡◌ {A = Result (List Entry) ℕ} (Ok (map in_first whole.entries)) (Err k) = sym ok ∙ e in
              cc);
        }
