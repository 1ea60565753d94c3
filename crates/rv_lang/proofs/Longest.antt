-- The token that is read is the longest one, and the longest one is read.
use Rattle.std.proofs.Common.{◌≡◌, ℕ, ◌<◌, ◌≤◌, ◌^◌, List, [], ◌∷◌, ◌++◌, Option, Some, None, true, false, nat_eq, nat_lt, nat_le, length, refl, sym, ap, ◌∙◌, arith, append_assoc, length-append, drop, map, inl, inr, ⊎_elim, subst, ℤ, pos, neg_ℤ}
use Rattle.std.specs.Prelude.{IfSome}
use Rattle.std.specs.List.{list_all}
use Rattle.std.specs.Char.{is_ascii_alphabetic, is_ascii_digit, to_ascii_uppercase}
use Rattle.std.proofs.lemmas.List.{drop_at}
use Rattle.std.proofs.lemmas.Bool.{eqb-true, and_parts}
use Rattle.std.proofs.lemmas.Bool.Decides.{nat_tests}
use Rattle.rv_lang.specs.declared.token.Token.{Token}
use Rattle.rv_lang.specs.declared.token.Token.TheVariants.{Word, Int, Str, Symbol}
use Rattle.rv_lang.specs.declared.token.Symbol.{Symbol as OneSymbol}
use Rattle.rv_lang.specs.declared.token.Symbol.TheVariants as symbols
use Rattle.rv_lang.specs.Tokens.{is_word_byte, is_text_byte, quotes_twice, past, value_after, symbol_text, IsToken, IsLongest, IsWord, IsNumber, IsDigits, NoWordByte}
use Rattle.rv_lang.specs.Lexing.{run, begins_word, number_of, negative_at, text_body, second, symbol_at, token_at}
use Rattle.rv_lang.proofs.Runs.{by, run_past, run_all, run_same, past_shorter, past_exact, run_exact, Stops, stops_nil, stops_at}
use Rattle.rv_lang.proofs.Texts.{IsText, text_is, Reaches, text_reaches}

-- a token at the front of the bytes
abbrev pub Begins : List ℕ → Token × List ℕ → Type 0
Begins bytes x = (front : List ℕ) × (bytes ≡ front ++ x.1) × IsToken front x.0 x.1

-- a token that stands in front of `rest` is read, or a longer one; of this length it is that token
abbrev pub Seen : Option (Token × List ℕ) → Token → List ℕ → Type 0
Seen None t rest = ⊥
Seen (Some x) t rest = (length x.1 ≤ length rest) × (length x.1 ≡ length rest → x.0 ≡ t)

-- ---- words

word_is : (b : ℕ) (bs : List ℕ) → is_ascii_alphabetic b ≡ true → Begins (b ∷ bs) (Word (map to_ascii_uppercase (b ∷ run is_word_byte bs)), past is_word_byte bs)
word_is b bs e = (b ∷ run is_word_byte bs, ap (λ (xs : List ℕ). b ∷ xs) (sym (run_past is_word_byte bs)), ((e, run_all is_word_byte bs), refl))

word_seen : (front rest : List ℕ) → IsWord front → Seen (token_at (front ++ rest)) (Word (map to_ascii_uppercase front)) rest
unfolding token_at
word_seen [] rest h = absurd h
word_seen (b ∷ bs) rest h = rw h.0 (past_shorter is_word_byte bs rest h.1, λ e. ap (λ (xs : List ℕ). Word (map to_ascii_uppercase (b ∷ xs))) (run_same is_word_byte bs rest h.1 e))

-- ---- texts

text_token_is : (bs : List ℕ) (o : Option (List ℕ × List ℕ)) → IfSome o (IsText bs) → IfSome (elim o [ Some x ↦ Some (Str x.0, x.1) | None ↦ None ]) (Begins (39 ∷ bs))
text_token_is bs (Some x) h = (39 ∷ quotes_twice x.0 ++ 39 ∷ [], ap (λ (xs : List ℕ). 39 ∷ xs) (h.spelled ∙ sym (append_assoc (quotes_twice x.0) (39 ∷ []) x.1)), (h.plain, refl))
text_token_is bs None h = tt

text_seen_of : (o : Option (List ℕ × List ℕ)) (text rest : List ℕ) → Reaches o text rest → Seen (elim o [ Some x ↦ Some (Str x.0, x.1) | None ↦ None ]) (Str text) rest
text_seen_of (Some x) text rest h = (h.0, λ e. ap (λ (t : List ℕ). Str t) (h.1 e))
text_seen_of None text rest h = absurd h

text_seen : (text rest : List ℕ) → list_all is_text_byte text ≡ true → Seen (token_at (39 ∷ (quotes_twice text ++ 39 ∷ rest))) (Str text) rest
unfolding token_at
text_seen text rest h = text_seen_of (text_body (quotes_twice text ++ 39 ∷ rest)) text rest (text_reaches text rest h)

-- ---- symbols

symbol_second_is : (b c : ℕ) (s : OneSymbol) (bs : List ℕ) (other : Option (Token × List ℕ)) → b ∷ c ∷ [] ≡ symbol_text s → IfSome other (Begins (b ∷ bs)) → IfSome (second c s bs other) (Begins (b ∷ bs))
symbol_second_is b c s [] other e h = h
symbol_second_is b c s (d ∷ bs) other e h = by (nat_eq d c) (λ f. rw (f, eqb-true d c f) (b ∷ c ∷ [], refl, e)) (λ f. rw f h)

symbol_is : (b : ℕ) (bs : List ℕ) → IfSome (symbol_at b bs) (Begins (b ∷ bs))
unfolding symbol_at
symbol_is b bs =
    by (nat_eq b 40) (λ e. rw e (b ∷ [], refl, ap (λ (n : ℕ). n ∷ []) (eqb-true b 40 e))) (λ e0. by (nat_eq b 41) (λ e. rw (e0, e) (b ∷ [], refl, ap (λ (n : ℕ). n ∷ []) (eqb-true b 41 e)))
    (λ e1. by (nat_eq b 44) (λ e. rw (e0, e1, e) (b ∷ [], refl, ap (λ (n : ℕ). n ∷ []) (eqb-true b 44 e)))
    (λ e2. by (nat_eq b 46) (λ e. rw (e0, e1, e2, e) (b ∷ [], refl, ap (λ (n : ℕ). n ∷ []) (eqb-true b 46 e)))
    (λ e3. by (nat_eq b 42) (λ e. rw (e0, e1, e2, e3, e) (b ∷ [], refl, ap (λ (n : ℕ). n ∷ []) (eqb-true b 42 e)))
    (λ e4. by (nat_eq b 59) (λ e. rw (e0, e1, e2, e3, e4, e) (b ∷ [], refl, ap (λ (n : ℕ). n ∷ []) (eqb-true b 59 e)))
    (λ e5. by (nat_eq b 61) (λ e. rw (e0, e1, e2, e3, e4, e5, e) (b ∷ [], refl, ap (λ (n : ℕ). n ∷ []) (eqb-true b 61 e)))
    (λ e6. by (nat_eq b 60) (λ e. rw (e0, e1, e2, e3, e4, e5, e6, e) (let h : b ≡ 60 = eqb-true b 60 e in symbol_second_is b 62 symbols.NotEqual bs _ (ap (λ (n : ℕ). n ∷ 62 ∷ []) h) (symbol_second_is b 61 symbols.AtMost bs _ (ap (λ (n : ℕ). n ∷ 61 ∷ []) h) (b ∷ [], refl, ap (λ (n : ℕ). n ∷ []) h))))
    (λ e7. by (nat_eq b 62) (λ e. rw (e0, e1, e2, e3, e4, e5, e6, e7, e) (let h : b ≡ 62 = eqb-true b 62 e in symbol_second_is b 61 symbols.AtLeast bs _ (ap (λ (n : ℕ). n ∷ 61 ∷ []) h) (b ∷ [], refl, ap (λ (n : ℕ). n ∷ []) h)))
    (λ e8. rw (e0, e1, e2, e3, e4, e5, e6, e7, e8) tt)))))))))

second_seen : (c : ℕ) (s : OneSymbol) (t : Token) (rest : List ℕ) (other : Option (Token × List ℕ)) → Seen other t rest → Seen (second c s rest other) t rest
second_seen c s t [] other h = h
second_seen c s t (b ∷ bs) other h = by (nat_eq b c) (λ e. rw e (omega arith, λ k. absurd (omega (arith, k)))) (λ e. rw e h)

symbol_seen : (s : OneSymbol) (rest : List ℕ) → Seen (token_at (symbol_text s ++ rest)) (Symbol s) rest
unfolding token_at symbol_at
symbol_seen symbols.LeftParen rest = (omega arith, λ e. refl)
symbol_seen symbols.RightParen rest = (omega arith, λ e. refl)
symbol_seen symbols.Comma rest = (omega arith, λ e. refl)
symbol_seen symbols.Dot rest = (omega arith, λ e. refl)
symbol_seen symbols.Star rest = (omega arith, λ e. refl)
symbol_seen symbols.Semicolon rest = (omega arith, λ e. refl)
symbol_seen symbols.Equal rest = (omega arith, λ e. refl)
symbol_seen symbols.NotEqual rest = (omega arith, λ e. refl)
symbol_seen symbols.Less rest = second_seen 62 symbols.NotEqual (Symbol symbols.Less) rest _ (second_seen 61 symbols.AtMost (Symbol symbols.Less) rest _ (omega arith, λ e. refl))
symbol_seen symbols.AtMost rest = (omega arith, λ e. refl)
symbol_seen symbols.Greater rest = second_seen 61 symbols.AtLeast (Symbol symbols.Greater) rest _ (omega arith, λ e. refl)
symbol_seen symbols.AtLeast rest = (omega arith, λ e. refl)

-- ---- numbers

digit_is_word : (b : ℕ) → is_word_byte b ≡ false → is_ascii_digit b ≡ false
digit_is_word b h = grind (arith, nat_tests)

digit_no_letter : (b : ℕ) → is_ascii_digit b ≡ true → is_ascii_alphabetic b ≡ false
digit_no_letter b h = grind (arith, nat_tests)

no_digit : (rest : List ℕ) → NoWordByte rest → Stops is_ascii_digit rest
no_digit [] h = stops_nil is_ascii_digit
no_digit (b ∷ bs) h = stops_at is_ascii_digit b bs (digit_is_word b h)

no_word_is : (rest : List ℕ) → NoWordByte rest → begins_word rest ≡ false
no_word_is [] h = refl
no_word_is (b ∷ bs) h = h

is_no_word : (rest : List ℕ) → begins_word rest ≡ false → NoWordByte rest
is_no_word [] h = tt
is_no_word (b ∷ bs) h = h

positive_seen : (b : ℕ) (bs rest : List ℕ) → IsDigits (b ∷ bs) → value_after 0 (b ∷ bs) < 2 ^ 63 → NoWordByte rest → Seen (token_at (b ∷ (bs ++ rest))) (Int (pos (value_after 0 (b ∷ bs)))) rest
unfolding token_at
positive_seen b bs rest ds lt free =
    let k = and_parts (is_ascii_digit b) (list_all is_ascii_digit bs) ds in
    let fits : nat_lt (value_after 0 (b ∷ bs)) (2 ^ 63) ≡ true = grind (arith, nat_tests, lt) in
    rw (digit_no_letter b k.0, k.0, run_exact is_ascii_digit bs rest k.1 (no_digit rest free), past_exact is_ascii_digit bs rest k.1 (no_digit rest free), no_word_is rest free, fits) (omega arith, λ e. refl)

negative_seen : (bs rest : List ℕ) → IsDigits bs → value_after 0 bs ≤ 2 ^ 63 → NoWordByte rest → Seen (token_at (45 ∷ (bs ++ rest))) (Int (neg_ℤ (pos (value_after 0 bs)))) rest
unfolding token_at
negative_seen [] rest ds le free = absurd ds
negative_seen (b ∷ bs) rest ds le free =
    let k = and_parts (is_ascii_digit b) (list_all is_ascii_digit bs) ds in
    let fits : nat_le (value_after 0 (b ∷ bs)) (2 ^ 63) ≡ true = grind (arith, nat_tests, le) in
    rw (k.0, run_exact is_ascii_digit bs rest k.1 (no_digit rest free), past_exact is_ascii_digit bs rest k.1 (no_digit rest free), no_word_is rest free, fits) (omega arith, λ e. refl)

number_seen : (front : List ℕ) (n : ℤ) (rest : List ℕ) → IsNumber front n → NoWordByte rest → Seen (token_at (front ++ rest)) (Int n) rest
number_seen [] n rest h free = absurd h
number_seen (b ∷ bs) n rest h free = ⊎_elim
    (λ m. rw (m.0, m.2) (negative_seen bs rest m.1 m.3 free))
    (λ m. rw m.1 (positive_seen b bs rest m.0 m.2 free)) h

number_is : (b : ℕ) (bs : List ℕ) → is_ascii_digit b ≡ true → IfSome (number_of (b ∷ run is_ascii_digit bs) (past is_ascii_digit bs)) (Begins (b ∷ bs))
number_is b bs e = by (begins_word (past is_ascii_digit bs)) (λ f. rw f tt) (λ f. by (nat_lt (value_after 0 (b ∷ run is_ascii_digit bs)) (2 ^ 63))
    (λ g. rw (f, g) (b ∷ run is_ascii_digit bs, ap (λ (xs : List ℕ). b ∷ xs) (sym (run_past is_ascii_digit bs)), (inr (rw e (run_all is_ascii_digit bs), refl, grind (arith, nat_tests, g)), is_no_word _ f)))
    (λ g. rw (f, g) tt))

negative_is : (bs : List ℕ) → IfSome (negative_at bs) (Begins (45 ∷ bs))
negative_is [] = tt
negative_is (b ∷ bs) = by (is_ascii_digit b) (λ e. by (begins_word (past is_ascii_digit bs)) (λ f. rw (e, f) tt) (λ f. by (nat_le (value_after 0 (b ∷ run is_ascii_digit bs)) (2 ^ 63))
    (λ g. rw (e, f, g) (45 ∷ b ∷ run is_ascii_digit bs, ap (λ (xs : List ℕ). 45 ∷ b ∷ xs) (sym (run_past is_ascii_digit bs)), (inl (refl, rw e (run_all is_ascii_digit bs), refl, grind (arith, nat_tests, g)), is_no_word _ f)))
    (λ g. rw (e, f, g) tt))) (λ e. rw e tt)

-- ---- all kinds

pub token_is : (bytes : List ℕ) → IfSome (token_at bytes) (Begins bytes)
unfolding token_at
token_is [] = tt
token_is (b ∷ bs) =
    by (is_ascii_alphabetic b) (λ e. rw e (word_is b bs e))
    (λ e0. by (is_ascii_digit b) (λ e. rw (e0, e) (number_is b bs e))
    (λ e1. by (nat_eq b 45) (λ e. rw (e0, e1, e, eqb-true b 45 e) (negative_is bs))
    (λ e2. by (nat_eq b 39) (λ e. rw (e0, e1, e2, e, eqb-true b 39 e) (text_token_is bs (text_body bs) (text_is bs)))
    (λ e3. rw (e0, e1, e2, e3) (symbol_is b bs)))))

pub token_seen : (front : List ℕ) (t : Token) (rest : List ℕ) → IsToken front t rest → Seen (token_at (front ++ rest)) t rest
token_seen front (Word name) rest h = rw h.1 (word_seen front rest h.0)
token_seen front (Int n) rest h = number_seen front n rest h.0 h.1
token_seen front (Str text) rest h = subst (λ (f : List ℕ). Seen (token_at f) (Str text) rest) (sym (ap (λ (f : List ℕ). f ++ rest) h.1 ∙ ap (λ (xs : List ℕ). 39 ∷ xs) (append_assoc (quotes_twice text) (39 ∷ []) rest))) (text_seen text rest h.0)
token_seen front (Symbol s) rest h = rw h (symbol_seen s rest)

-- the token that is read is the longest
pub longest_of : (bytes : List ℕ) (t : Token) (rest : List ℕ) → token_at bytes ≡ Some (t, rest) → IsLongest bytes t rest
longest_of bytes t rest e =
    let b : Begins bytes (t, rest) = subst (λ (o : Option (Token × List ℕ)). IfSome o (Begins bytes)) e (token_is bytes) in
    record { front = b.0; whole = b.1; is = b.2; longest = λ other u after w h. let s : Seen (Some (t, rest)) u after = subst (λ (o : Option (Token × List ℕ)). Seen o u after) (sym (ap token_at w) ∙ e) (token_seen other u after h) in s.0 }

-- where none is read, none begins
pub none_of : (bytes : List ℕ) → token_at bytes ≡ None → (front : List ℕ) (t : Token) (after : List ℕ) → bytes ≡ front ++ after → IsToken front t after → ⊥
none_of bytes e front t after w h = subst (λ (o : Option (Token × List ℕ)). Seen o t after) (sym (ap token_at w) ∙ e) (token_seen front t after h)

-- two ends of one list that are as long as each other are the same
pub same_end : (f g r s : List ℕ) → f ++ r ≡ g ++ s → length r ≡ length s → r ≡ s
same_end f g r s e n =
    let m : length f ≡ length g = omega (arith, ap length e, length-append f r, length-append g s, n) in
    sym (drop_at f r (length f) refl) ∙ ap (drop (length f)) e ∙ drop_at g s (length f) (sym m)

longest_read : (bytes : List ℕ) (t : Token) (rest : List ℕ) (o : Option (Token × List ℕ)) → IfSome o (Begins bytes) → Seen o t rest → IsLongest bytes t rest → o ≡ Some (t, rest)
longest_read bytes t rest None b s l = absurd s
longest_read bytes t rest (Some (u, after)) b s l =
    let n : length after ≡ length rest = omega (arith, s.0, l.longest b.0 u after b.1 b.2) in
    let e : after ≡ rest = same_end b.0 l.front after rest (sym b.1 ∙ l.whole) n in
    let f : u ≡ t = s.1 n in
    rw (e, f) refl

-- the longest token is read
pub read_longest : (bytes : List ℕ) (t : Token) (rest : List ℕ) → IsLongest bytes t rest → token_at bytes ≡ Some (t, rest)
read_longest bytes t rest l =
    longest_read bytes t rest (token_at bytes) (token_is bytes) (subst (λ (bs : List ℕ). Seen (token_at bs) t rest) (sym l.whole) (token_seen l.front t rest l.is)) l

symbol_some : (s : OneSymbol) → 0 < length (symbol_text s)
symbol_some symbols.LeftParen = omega arith
symbol_some symbols.RightParen = omega arith
symbol_some symbols.Comma = omega arith
symbol_some symbols.Dot = omega arith
symbol_some symbols.Star = omega arith
symbol_some symbols.Semicolon = omega arith
symbol_some symbols.Equal = omega arith
symbol_some symbols.NotEqual = omega arith
symbol_some symbols.Less = omega arith
symbol_some symbols.AtMost = omega arith
symbol_some symbols.Greater = omega arith
symbol_some symbols.AtLeast = omega arith

front_some : (front : List ℕ) (t : Token) (rest : List ℕ) → IsToken front t rest → 0 < length front
front_some [] (Word name) rest h = absurd h.0
front_some [] (Int n) rest h = absurd h.0
front_some [] (Str text) rest h = absurd cc
front_some [] (Symbol s) rest h = subst (λ (f : List ℕ). 0 < length f) (sym h) (symbol_some s)
front_some (b ∷ bs) t rest h = omega arith

pub token_shorter : (bytes : List ℕ) (t : Token) (rest : List ℕ) → token_at bytes ≡ Some (t, rest) → length rest < length bytes
token_shorter bytes t rest e = let l = longest_of bytes t rest e in omega (arith, front_some l.front t rest l.is, ap length l.whole, length-append l.front rest)
