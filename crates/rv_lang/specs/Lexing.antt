-- What the lexer reads: the token at the front of some bytes, and the tokens of a text. The laws of proofs/ say that
-- this is what Tokens defines.
use Rattle.std.specs.Prelude.{◌≡◌, ◌≤◌, ℕ, pos, neg_ℤ, zero, suc, ◌+◌, ◌^◌, List, [], ◌∷◌, Option, Some, None, Bool, true, false, nat_eq, nat_lt, nat_le, if◌then◌else◌, length, take, drop, map, Result, Ok, Err}
use Rattle.std.specs.Char.{is_ascii_alphabetic, is_ascii_digit, to_ascii_uppercase}
use Rattle.rv_lang.specs.declared.token.Token.{Token}
use Rattle.rv_lang.specs.declared.token.Token.TheVariants.{Word, Int, Str, Symbol}
use Rattle.rv_lang.specs.declared.token.Symbol.{Symbol as OneSymbol}
use Rattle.rv_lang.specs.declared.token.Symbol.TheVariants as symbols
use Rattle.rv_lang.specs.declared.token.LexFault.{LexFault}
use Rattle.rv_lang.specs.declared.token.LexFault.TheVariants as faults
use Rattle.rv_lang.specs.declared.lexer.Stop.{Stop}
use Rattle.rv_lang.specs.declared.lexer.Stop.TheVariants as stops
use Rattle.rv_lang.specs.Tokens.{is_word_byte, is_text_byte, is_blank, value_after, past, IsCutTo}

-- ---- the token in front

-- the bytes in front that pass
abbrev pub run : (ℕ → Bool) → List ℕ → List ℕ
run p [] = []
run p (b ∷ bs) = if p b then b ∷ run p bs else []

-- a text after its first quote: what it says, and the bytes after its last quote
abbrev pub push_front : ℕ → Option (List ℕ × List ℕ) → Option (List ℕ × List ℕ)
push_front b (Some x) = Some (b ∷ x.0, x.1)
push_front b None = None

abbrev pub or_here : Option (List ℕ × List ℕ) → List ℕ → Option (List ℕ × List ℕ)
or_here (Some x) rest = Some (39 ∷ x.0, x.1)
or_here None rest = Some ([], rest)

abbrev pub text_body : List ℕ → Option (List ℕ × List ℕ)
text_body [] = None
text_body (b ∷ []) = if nat_eq b 39 then Some ([], []) else None
text_body (b ∷ c ∷ bs) =
    if nat_eq b 39 then (if nat_eq c 39 then or_here (text_body bs) (c ∷ bs) else Some ([], c ∷ bs))
    else (if is_text_byte b then push_front b (text_body (c ∷ bs)) else None)

abbrev pub begins_word : List ℕ → Bool
begins_word [] = false
begins_word (b ∷ bs) = is_word_byte b

-- digits and what follows them, as a number
abbrev pub number_of : List ℕ → List ℕ → Option (Token × List ℕ)
number_of digits rest =
    if begins_word rest then None
    else (if nat_lt (value_after 0 digits) (2 ^ 63) then Some (Int (pos (value_after 0 digits)), rest) else None)

abbrev pub negative_of : List ℕ → List ℕ → Option (Token × List ℕ)
negative_of digits rest =
    if begins_word rest then None
    else (if nat_le (value_after 0 digits) (2 ^ 63) then Some (Int (neg_ℤ (pos (value_after 0 digits))), rest)
    else None)

abbrev pub negative_at : List ℕ → Option (Token × List ℕ)
negative_at [] = None
negative_at (b ∷ bs) =
    if is_ascii_digit b then negative_of (b ∷ run is_ascii_digit bs) (past is_ascii_digit bs) else None

abbrev pub text_at : List ℕ → Option (Token × List ℕ)
text_at bs = elim (text_body bs) [ Some x ↦ Some (Str x.0, x.1) | None ↦ None ]

-- a second byte of a symbol, where it is there
abbrev pub second : ℕ → OneSymbol → List ℕ → Option (Token × List ℕ) → Option (Token × List ℕ)
second c s [] other = other
second c s (b ∷ bs) other = if nat_eq b c then Some (Symbol s, bs) else other

abbrev pub one : OneSymbol → List ℕ → Option (Token × List ℕ)
one s bs = Some (Symbol s, bs)

unfoldable pub symbol_at : ℕ → List ℕ → Option (Token × List ℕ)
symbol_at b bs =
    if nat_eq b 40 then one symbols.LeftParen bs
    else (if nat_eq b 41 then one symbols.RightParen bs
    else (if nat_eq b 44 then one symbols.Comma bs
    else (if nat_eq b 46 then one symbols.Dot bs
    else (if nat_eq b 42 then one symbols.Star bs
    else (if nat_eq b 59 then one symbols.Semicolon bs
    else (if nat_eq b 61 then one symbols.Equal bs
    else (if nat_eq b 60 then second 62 symbols.NotEqual bs (second 61 symbols.AtMost bs (one symbols.Less bs))
    else (if nat_eq b 62 then second 61 symbols.AtLeast bs (one symbols.Greater bs)
    else None))))))))

abbrev pub word_of : ℕ → List ℕ → Option (Token × List ℕ)
word_of b bs = Some (Word (map to_ascii_uppercase (b ∷ run is_word_byte bs)), past is_word_byte bs)

unfoldable pub token_at : List ℕ → Option (Token × List ℕ)
token_at [] = None
token_at (b ∷ bs) =
    if is_ascii_alphabetic b then word_of b bs
    else (if is_ascii_digit b then number_of (b ∷ run is_ascii_digit bs) (past is_ascii_digit bs)
    else (if nat_eq b 45 then negative_at bs
    else (if nat_eq b 39 then text_at bs
    else symbol_at b bs)))

-- ---- all tokens

abbrev pub with_first : Token → Option (List Token) → Option (List Token)
with_first t (Some ts) = Some (t ∷ ts)
with_first t None = None

-- the first token, and those of what follows it
abbrev pub tokens_then : Option (Token × List ℕ) → (List ℕ → Option (List Token)) → Option (List Token)
tokens_then (Some x) more = with_first x.0 (more (past is_blank x.1))
tokens_then None more = None

-- the tokens of bytes that begin with no blank, n at most
abbrev pub tokens_within : ℕ → List ℕ → Option (List Token)
tokens_within n [] = Some []
tokens_within zero (b ∷ bs) = None
tokens_within (suc n) (b ∷ bs) = tokens_then (token_at (b ∷ bs)) (λ rest. tokens_within n rest)

-- the tokens of a text, or nothing where it is no sequence of tokens
unfoldable pub tokens_of : List ℕ → Option (List Token)
tokens_of text = tokens_within (length text) (past is_blank text)

-- ---- how the code reads a text: where it ends, and then its characters

-- the place of the last quote of the longest text, a byte at a time: the best place so far, the place now, and whether
-- a quote was just seen
abbrev pub scanned : Option ℕ → ℕ → Bool → List ℕ → Option ℕ
scanned best at quoted [] = if quoted then Some at else best
scanned best at quoted (b ∷ bs) = if quoted then (if nat_eq b 39 then scanned (Some at) (at + 2) false bs else Some at)
    else (if nat_eq b 39 then scanned best at true bs
    else (if is_text_byte b then scanned best (at + 1) false bs else best))

-- one quote of two; the flag tells that the first was just kept
abbrev pub kept : Bool → List ℕ → List ℕ
kept quoted [] = []
kept quoted (b ∷ bs) = if quoted then kept false bs else b ∷ kept (nat_eq b 39) bs

-- what stands between the quotes, and what follows them
abbrev pub parts_of : List ℕ → Option ℕ → Option (List ℕ × List ℕ)
parts_of bs (Some n) = Some (take n bs, drop (n + 1) bs)
parts_of bs None = None

abbrev pub text_cut : List ℕ → Option (List ℕ × List ℕ)
text_cut bs = parts_of bs (scanned None 0 false bs)

-- ---- what the functions answer

abbrev pub Fails : {Y : Type 0} → Stop → Option Y → Type 0
Fails stops.NoToken read = read ≡ None
Fails stops.NoMemory read = Unit {0}

-- what is answered is what is read, unless memory ran out
abbrev pub Gives : {X Y : Type 0} → (X → Y) → Result X Stop → Option Y → Type 0
Gives view (Ok x) read = read ≡ Some (view x)
Gives view (Err e) read = Fails e read

-- a number as far as 64 bits hold it
abbrev pub Tracks : Option ℕ → ℕ → Type 0
Tracks None v = 2 ^ 64 ≤ v
Tracks (Some n) v = n ≡ v

-- the fault is right: the text is no sequence of tokens, and the offset is the first at which none begins
abbrev pub IsFault : List ℕ → LexFault → Type 0
IsFault text (faults.NotToken offset) = IsCutTo text offset
IsFault text faults.NoMemory = Unit {0}

abbrev pub FaultOf : {Y : Type 0} → LexFault → Option Y → Type 0
FaultOf (faults.NotToken offset) tokens = tokens ≡ None
FaultOf faults.NoMemory tokens = Unit {0}

-- what is answered are the tokens, unless memory ran out
abbrev pub Lexes : {X Y : Type 0} → (X → Y) → Result X LexFault → Option Y → Type 0
Lexes view (Ok x) tokens = tokens ≡ Some (view x)
Lexes view (Err e) tokens = FaultOf e tokens
