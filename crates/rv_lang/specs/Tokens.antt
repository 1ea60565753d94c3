-- The tokens of a text: it is cut from the left, each time by the longest token.
use Rattle.std.specs.Prelude.{◌≡◌, ℕ, ℤ, pos, neg_ℤ, ◌+◌, ◌-◌, ◌*◌, ◌^◌, ◌<◌, ◌≤◌, List, [], ◌∷◌, ◌++◌, Bool, true, false, ◌||◌, ◌&&◌, not, nat_eq, nat_le, if◌then◌else◌, length, map, codes, ◌⊎◌}
use Rattle.std.specs.List.{list_all}
use Rattle.std.specs.Char.{is_ascii_alphabetic, is_ascii_alphanumeric, is_ascii_digit, to_ascii_uppercase}
use Rattle.rv_lang.specs.declared.token.Token.{Token}
use Rattle.rv_lang.specs.declared.token.Token.TheVariants.{Word, Int, Str, Symbol}
use Rattle.rv_lang.specs.declared.token.Symbol.{Symbol as OneSymbol}
use Rattle.rv_lang.specs.declared.token.Symbol.TheVariants as symbols

-- ---- bytes

-- an ASCII letter, a digit or _
abbrev pub is_word_byte : ℕ → Bool
is_word_byte b = is_ascii_alphanumeric b || nat_eq b 95

-- space and tab
abbrev pub is_blank : ℕ → Bool
is_blank b = nat_eq b 32 || nat_eq b 9

-- what may stand in a text: no control character; one past ASCII has bytes from 128 on alone
abbrev pub is_text_byte : ℕ → Bool
is_text_byte b = nat_le 32 b && not (nat_eq b 127)

-- ---- what each kind of token looks like

-- a word: a letter, and then letters, digits and _
abbrev pub IsWord : List ℕ → Type 0
IsWord [] = ⊥
IsWord (b ∷ bs) = (is_ascii_alphabetic b ≡ true) × (list_all is_word_byte bs ≡ true)

-- the characters of a text as they stand between its quotes: each quote twice
abbrev pub quotes_twice : List ℕ → List ℕ
quotes_twice [] = []
quotes_twice (b ∷ bs) = if nat_eq b 39 then 39 ∷ 39 ∷ quotes_twice bs else b ∷ quotes_twice bs

-- the spellings of the symbols
abbrev pub symbol_text : OneSymbol → List ℕ
symbol_text symbols.LeftParen = codes "("
symbol_text symbols.RightParen = codes ")"
symbol_text symbols.Comma = codes ","
symbol_text symbols.Dot = codes "."
symbol_text symbols.Star = codes "*"
symbol_text symbols.Semicolon = codes ";"
symbol_text symbols.Equal = codes "="
symbol_text symbols.NotEqual = codes "<>"
symbol_text symbols.Less = codes "<"
symbol_text symbols.AtMost = codes "<="
symbol_text symbols.Greater = codes ">"
symbol_text symbols.AtLeast = codes ">="

-- the number that digits write, after those of n
abbrev pub value_after : ℕ → List ℕ → ℕ
value_after n [] = n
value_after n (d ∷ ds) = value_after (n * 10 + (d - 48)) ds

-- one or more digits
abbrev pub IsDigits : List ℕ → Type 0
IsDigits [] = ⊥
IsDigits (d ∷ ds) = list_all is_ascii_digit (d ∷ ds) ≡ true

-- the next byte is no letter, digit or _
abbrev pub NoWordByte : List ℕ → Type 0
NoWordByte [] = Unit {0}
NoWordByte (b ∷ bs) = is_word_byte b ≡ false

-- a `-` or none, directly followed by digits; the number is one of 64 bits with a sign
abbrev pub IsNumber : List ℕ → ℤ → Type 0
IsNumber [] n = ⊥
IsNumber (b ∷ bs) n =
    ((b ≡ 45) × IsDigits bs × (n ≡ neg_ℤ (pos (value_after 0 bs))) × (value_after 0 bs ≤ 2 ^ 63))
    ⊎ (IsDigits (b ∷ bs) × (n ≡ pos (value_after 0 (b ∷ bs))) × (value_after 0 (b ∷ bs) < 2 ^ 63))

-- `front`, followed by `rest`, is this token; ASCII letters of a word are folded to upper case
abbrev pub IsToken : List ℕ → Token → List ℕ → Type 0
IsToken front (Word name) rest = IsWord front × (name ≡ map to_ascii_uppercase front)
IsToken front (Int n) rest = IsNumber front n × NoWordByte rest
IsToken front (Str text) rest =
    (list_all is_text_byte text ≡ true) × (front ≡ 39 ∷ quotes_twice text ++ 39 ∷ [])
IsToken front (Symbol s) rest = front ≡ symbol_text s

-- the token in front of `rest`, where no token in front is longer
pub record IsLongest (bytes : List ℕ) (token : Token) (rest : List ℕ) : Type 0 where
  pub front : List ℕ
  pub whole : bytes ≡ front ++ rest
  pub is : IsToken front token rest
  pub longest : (other : List ℕ) (t : Token) (after : List ℕ)
      → bytes ≡ other ++ after → IsToken other t after → length rest ≤ length after

-- ---- the whole text

-- the bytes from the first on that does not pass
abbrev pub past : (ℕ → Bool) → List ℕ → List ℕ
past p [] = []
past p (b ∷ bs) = if p b then past p bs else b ∷ bs

-- A CUT: each time the longest token, blanks before it left out, and the rest behind blanks
abbrev pub Cuts : List ℕ → List Token → List ℕ → Type 0
Cuts bytes [] rest = past is_blank bytes ≡ rest
Cuts bytes (t ∷ ts) rest =
    (after : List ℕ) × IsLongest (past is_blank bytes) t after × Cuts after ts rest

-- there are bytes, and no token begins at the first of them
abbrev pub NoToken : List ℕ → Type 0
NoToken bytes =
    (0 < length bytes) × ((front : List ℕ) (t : Token) (after : List ℕ) → bytes ≡ front ++ after
    → IsToken front t after → ⊥)

-- the text is no sequence of tokens, and this is the first offset at which none begins
abbrev pub IsCutTo : List ℕ → ℕ → Type 0
IsCutTo text offset =
    (ts : List Token) × (rest : List ℕ) × Cuts text ts rest × NoToken rest × (offset + length rest ≡ length text)
