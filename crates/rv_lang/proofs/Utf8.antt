-- UTF-8: a text of a UTF-8 text is UTF-8, and so is what follows a token, since each token ends in ASCII.
use Rattle.std.proofs.Common.{◌≡◌, ℕ, ◌+◌, ◌-◌, ◌<◌, List, [], ◌∷◌, ◌++◌, Option, Some, None, Bool, true, false, nat_eq, length, refl, sym, ap, ◌∙◌, arith, length-append, take, drop, IsUtf8, get_or, append_assoc, ⊎_elim, subst, ℤ}
use Rattle.std.specs.Prelude.{IfSome}
use Rattle.std.specs.List.{list_all}
use Rattle.std.specs.Char.{is_ascii_alphabetic, is_ascii_digit}
use Rattle.std.proofs.lemmas.List.{take_at, drop_at, append-nil}
use Rattle.std.proofs.lemmas.Bool.{eqb-true, and_parts}
use Rattle.std.proofs.lemmas.Bool.Decides.{nat_tests}
use Rattle.std.proofs.lemmas.Str.{IsUtf8-append, IsUtf8-take, IsUtf8-drop, IsCharBoundary-after_ascii, IsCharBoundary-before_ascii}
use Rattle.std.proofs.Math.Seq.{get_or-append_seam}
use Rattle.rv_lang.specs.declared.token.Token.{Token}
use Rattle.rv_lang.specs.declared.token.Token.TheVariants.{Word, Int, Str, Symbol}
use Rattle.rv_lang.specs.declared.token.Symbol.{Symbol as OneSymbol}
use Rattle.rv_lang.specs.declared.token.Symbol.TheVariants as symbols
use Rattle.rv_lang.specs.Tokens.{is_word_byte, is_blank, quotes_twice, past, symbol_text, IsToken, IsWord, IsNumber, IsDigits}
use Rattle.rv_lang.specs.Lexing.{text_body, token_at, scanned, kept, text_cut}
use Rattle.rv_lang.proofs.Runs.{by}
use Rattle.rv_lang.proofs.Texts.{IsText, text_is}
use Rattle.rv_lang.proofs.TextLengths.{body_scanned, cut_some_of}
use Rattle.rv_lang.proofs.Longest.{longest_of}

utf8_front : (front bs : List ℕ) → IsUtf8 (front ++ 39 ∷ bs) → IsUtf8 (front ++ 39 ∷ []) × IsUtf8 bs
utf8_front front bs u =
    let at : get_or (front ++ 39 ∷ bs) (length front) 0 ≡ 39 = get_or-append_seam front 39 bs 0 in
    let long : length front < length (front ++ 39 ∷ bs) = omega (arith, length-append front (39 ∷ bs)) in
    let edge = IsCharBoundary-after_ascii (front ++ 39 ∷ bs) (length front) u long (omega arith) in
    let e : front ++ 39 ∷ bs ≡ (front ++ 39 ∷ []) ++ bs = sym (append_assoc front (39 ∷ []) bs) in
    let n : length (front ++ 39 ∷ []) ≡ length front + 1 = length-append front (39 ∷ []) in (
      subst IsUtf8 (ap (take (length front + 1)) e ∙ take_at (front ++ 39 ∷ []) bs (length front + 1) n) (IsUtf8-take (front ++ 39 ∷ bs) (length front + 1) u edge),
      subst IsUtf8 (ap (drop (length front + 1)) e ∙ drop_at (front ++ 39 ∷ []) bs (length front + 1) n) (IsUtf8-drop (front ++ 39 ∷ bs) (length front + 1) u edge),
    )

utf8_doubled : (front text : List ℕ) → IsUtf8 (front ++ quotes_twice text) → IsUtf8 (front ++ text)
utf8_doubled front [] u = u
utf8_doubled front (b ∷ text) u = by (nat_eq b 39)
    (λ e. let v : IsUtf8 (front ++ 39 ∷ 39 ∷ quotes_twice text) = rw e at u in let w = utf8_front front (39 ∷ quotes_twice text) v in let x = utf8_front [] (quotes_twice text) w.1 in
    let y : IsUtf8 text = utf8_doubled [] text x.1 in
    rw (eqb-true b 39 e) (subst IsUtf8 (append_assoc front (39 ∷ []) text) (IsUtf8-append (front ++ 39 ∷ []) text w.0 y)))
    (λ e. let v : IsUtf8 (front ++ b ∷ quotes_twice text) = rw e at u in subst IsUtf8 (append_assoc front (b ∷ []) text) (utf8_doubled (front ++ b ∷ []) text (subst IsUtf8 (sym (append_assoc front (b ∷ []) (quotes_twice text))) v)))

utf8_before : (front bs : List ℕ) → IsUtf8 (front ++ 39 ∷ bs) → IsUtf8 front
utf8_before front bs u =
    let at : get_or (front ++ 39 ∷ bs) (length front) 0 ≡ 39 = get_or-append_seam front 39 bs 0 in
    let long : length front < length (front ++ 39 ∷ bs) = omega (arith, length-append front (39 ∷ bs)) in
    subst IsUtf8 (take_at front (39 ∷ bs) (length front) refl) (IsUtf8-take (front ++ 39 ∷ bs) (length front) u (IsCharBoundary-before_ascii (front ++ 39 ∷ bs) (length front) long (omega arith)))

pub utf8_said : (bs front rest : List ℕ) → IsUtf8 bs → text_cut bs ≡ Some (front, rest) → IsUtf8 (kept false front)
utf8_said bs front rest u e =
    let h : text_body bs ≡ Some (kept false front, rest) = body_scanned bs ∙ cut_some_of bs (scanned None 0 false bs) front rest e in
    let t : IsText bs (kept false front, rest) = subst (λ (o : Option (List ℕ × List ℕ)). IfSome o (IsText bs)) h (text_is bs) in
    let v : IsUtf8 (quotes_twice (kept false front) ++ 39 ∷ rest) = subst IsUtf8 t.spelled u in
    utf8_doubled [] (kept false front) (utf8_before (quotes_twice (kept false front)) rest v)

-- a blank, and what follows it
utf8_tail : (b : ℕ) (bs : List ℕ) → b < 128 → IsUtf8 (b ∷ bs) → IsUtf8 bs
utf8_tail b bs lt u = IsUtf8-drop (b ∷ bs) 1 u (IsCharBoundary-after_ascii (b ∷ bs) 0 u (omega arith) lt)

blank_ascii : (b : ℕ) → is_blank b ≡ true → b < 128
blank_ascii b e = grind (arith, nat_tests)

pub utf8_past_blanks : (bs : List ℕ) → IsUtf8 bs → IsUtf8 (past is_blank bs)
utf8_past_blanks [] u = u
utf8_past_blanks (b ∷ bs) u = by (is_blank b) (λ e. rw e (utf8_past_blanks bs (utf8_tail b bs (blank_ascii b e) u))) (λ e. rw e u)

pub utf8_rest : (bs : List ℕ) → IsUtf8 bs → get_or bs 0 0 < 128 → 0 < length bs → IsUtf8 (take (length bs - 1) (drop 1 bs))
utf8_rest [] u lt some = absurd (omega arith)
utf8_rest (b ∷ bs) u lt some =
    let n : length bs ≡ length (b ∷ bs) - 1 = omega arith in
    let e : take (length (b ∷ bs) - 1) bs ≡ bs = ap (take (length (b ∷ bs) - 1)) (sym (append-nil bs)) ∙ take_at bs [] (length (b ∷ bs) - 1) n in
    subst IsUtf8 (sym e) (utf8_tail b bs lt u)

-- ---- each token ends in ASCII

pub record EndsAscii (front : List ℕ) : Type 0 where
  pub init : List ℕ
  pub last : ℕ
  pub whole : front ≡ init ++ last ∷ []
  pub ascii : last < 128

ends_more : (b : ℕ) (bs : List ℕ) → EndsAscii bs → EndsAscii (b ∷ bs)
ends_more b bs h = record { init = b ∷ h.init; last = h.last; whole = ap (λ (xs : List ℕ). b ∷ xs) h.whole; ascii = h.ascii }

ends_all : (p : ℕ → Bool) → ((b : ℕ) → p b ≡ true → b < 128) → (b : ℕ) (bs : List ℕ) → b < 128 → list_all p bs ≡ true → EndsAscii (b ∷ bs)
ends_all p small b [] lt h = record { init = []; last = b; whole = refl; ascii = lt }
ends_all p small b (c ∷ bs) lt h = let k = and_parts (p c) (list_all p bs) h in ends_more b (c ∷ bs) (ends_all p small c bs (small c k.0) k.1)

word_ascii : (b : ℕ) → is_word_byte b ≡ true → b < 128
word_ascii b e = grind (arith, nat_tests)

letter_ascii : (b : ℕ) → is_ascii_alphabetic b ≡ true → b < 128
letter_ascii b e = grind (arith, nat_tests)

digit_ascii : (b : ℕ) → is_ascii_digit b ≡ true → b < 128
digit_ascii b e = grind (arith, nat_tests)

digits_end : (bs : List ℕ) → IsDigits bs → EndsAscii bs
digits_end [] h = absurd h
digits_end (b ∷ bs) h = let k = and_parts (is_ascii_digit b) (list_all is_ascii_digit bs) h in ends_all is_ascii_digit digit_ascii b bs (digit_ascii b k.0) k.1

word_ends : (front : List ℕ) → IsWord front → EndsAscii front
word_ends [] h = absurd h
word_ends (b ∷ bs) h = ends_all is_word_byte word_ascii b bs (letter_ascii b h.0) h.1

number_ends : (front : List ℕ) (n : ℤ) → IsNumber front n → EndsAscii front
number_ends [] n h = absurd h
number_ends (b ∷ bs) n h = ⊎_elim (λ m. ends_more b bs (digits_end bs m.1)) (λ m. digits_end (b ∷ bs) m.0) h

symbol_ends : (s : OneSymbol) → EndsAscii (symbol_text s)
symbol_ends symbols.LeftParen = record { init = []; last = _; whole = refl; ascii = omega arith }
symbol_ends symbols.RightParen = record { init = []; last = _; whole = refl; ascii = omega arith }
symbol_ends symbols.Comma = record { init = []; last = _; whole = refl; ascii = omega arith }
symbol_ends symbols.Dot = record { init = []; last = _; whole = refl; ascii = omega arith }
symbol_ends symbols.Star = record { init = []; last = _; whole = refl; ascii = omega arith }
symbol_ends symbols.Semicolon = record { init = []; last = _; whole = refl; ascii = omega arith }
symbol_ends symbols.Equal = record { init = []; last = _; whole = refl; ascii = omega arith }
symbol_ends symbols.NotEqual = record { init = 60 ∷ []; last = 62; whole = refl; ascii = omega arith }
symbol_ends symbols.Less = record { init = []; last = _; whole = refl; ascii = omega arith }
symbol_ends symbols.AtMost = record { init = 60 ∷ []; last = 61; whole = refl; ascii = omega arith }
symbol_ends symbols.Greater = record { init = []; last = _; whole = refl; ascii = omega arith }
symbol_ends symbols.AtLeast = record { init = 62 ∷ []; last = 61; whole = refl; ascii = omega arith }

token_ends : (front : List ℕ) (t : Token) (rest : List ℕ) → IsToken front t rest → EndsAscii front
token_ends front (Word name) rest h = word_ends front h.0
token_ends front (Int n) rest h = number_ends front n h.0
token_ends front (Str text) rest h = record { init = 39 ∷ quotes_twice text; last = 39; whole = h.1; ascii = omega arith }
token_ends front (Symbol s) rest h = subst EndsAscii (sym h) (symbol_ends s)

utf8_after : (init : List ℕ) (b : ℕ) (bs : List ℕ) → b < 128 → IsUtf8 (init ++ b ∷ bs) → IsUtf8 bs
utf8_after init b bs lt u =
    let at : get_or (init ++ b ∷ bs) (length init) 0 ≡ b = get_or-append_seam init b bs 0 in
    let long : length init < length (init ++ b ∷ bs) = omega (arith, length-append init (b ∷ bs)) in
    let edge = IsCharBoundary-after_ascii (init ++ b ∷ bs) (length init) u long (omega arith) in
    let e : init ++ b ∷ bs ≡ (init ++ b ∷ []) ++ bs = sym (append_assoc init (b ∷ []) bs) in
    let n : length (init ++ b ∷ []) ≡ length init + 1 = length-append init (b ∷ []) in
    subst IsUtf8 (ap (drop (length init + 1)) e ∙ drop_at (init ++ b ∷ []) bs (length init + 1) n) (IsUtf8-drop (init ++ b ∷ bs) (length init + 1) u edge)

pub token_utf8 : (bytes : List ℕ) (t : Token) (rest : List ℕ) → IsUtf8 bytes → token_at bytes ≡ Some (t, rest) → IsUtf8 rest
token_utf8 bytes t rest u e =
    let l = longest_of bytes t rest e in
    let z = token_ends l.front t rest l.is in
    utf8_after z.init z.last rest z.ascii (subst IsUtf8 (l.whole ∙ ap (λ (f : List ℕ). f ++ rest) z.whole ∙ append_assoc z.init (z.last ∷ []) rest) u)
