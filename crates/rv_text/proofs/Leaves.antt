-- Numbers and names are read as they are written, both ways.
use Rattle.std.proofs.Common.{◌≡◌, ℕ, ◌<◌, ◌^◌, List, [], ◌∷◌, Some, None, Result, Ok, Err, Bool, true, false, ◌&&◌, cond, refl, ap, sym, ◌∙◌, arith, bytes_eq, nat_lt, IsUtf8}
use Rattle.std.proofs.lemmas.Bool.Decides.{nat_tests}
use Rattle.std.proofs.lemmas.Slice.Eq.{bytes_eq-Decides}
use Rattle.std.proofs.lemmas.Fmt.{decimal_is_IsNumeral, parse-decimal, IsAscii-decimal}
use Rattle.std.proofs.lemmas.Str.{IsUtf8-from_ascii}
use Rattle.std.proofs.lemmas.Str.Ascii.{IsAscii-cons, IsAscii-nil}
use Rattle.std.specs.List.{list_all}
use Rattle.std.specs.Str.{IsAscii}
use Rattle.std.specs.Fmt.{decimal}
use Rattle.std.specs.Str.Parse.{digits_value, ParsesUnsigned}
use Rattle.std.proofs.lemmas.Option.{cond_some}
use Rattle.std.proofs.lemmas.Bool.{and_from, and_parts}
use Rattle.rv_model.specs.Transcript.{is_capital, is_name_byte, IsName}
use Rattle.rv_text.specs.Values.{number_at}
use Rattle.rv_text.specs.Traces.{is_name}

pub same_bytes : (xs ys : List ℕ) → bytes_eq xs ys ≡ true → xs ≡ ys
same_bytes xs ys h = (bytes_eq-Decides xs ys).0 h

pub equal_bytes : (xs : List ℕ) → bytes_eq xs xs ≡ true
equal_bytes xs = (bytes_eq-Decides xs xs).1 refl

-- Numbers.

pub number_takes : (digits : List ℕ) (n : ℕ) → number_at digits ≡ Some n → (decimal n ≡ digits) × (n < 2 ^ 64)
number_takes digits n e =
    let m = digits_value 10 digits in
    let found = cond_some (nat_lt m 18446744073709551616 && bytes_eq (decimal m) digits) m n e in
    let parts = and_parts (nat_lt m 18446744073709551616) (bytes_eq (decimal m) digits) found.0 in
    let small : m < 2 ^ 64 = (let less = parts.0 in grind (arith, nat_tests)) in
    (ap (λ k. decimal k) (sym found.1) ∙ same_bytes (decimal m) digits parts.1, rw (sym found.1) small)

pub number_again : (n : ℕ) → n < 2 ^ 64 → number_at (decimal n) ≡ Some n
number_again n small =
    let back : digits_value 10 (decimal n) ≡ n = (decimal_is_IsNumeral n small).1 in
    let less : nat_lt n 18446744073709551616 ≡ true = grind (arith, nat_tests) in
    let same : bytes_eq (decimal n) (decimal n) ≡ true = equal_bytes (decimal n) in
    rw (back, less, same) refl

pub number_some : (text : List ℕ) (n : ℕ) → n < 2 ^ 64 → decimal n ≡ text → Some n ≡ number_at text
number_some text n small same = sym (number_again n small) ∙ ap number_at same

-- where reading fails, or reads what is written otherwise, the text is no number
pub number_none : (text : List ℕ) → ((m : ℕ) → m < 2 ^ 64 → decimal m ≡ text → ⊥) → None ≡ number_at text
number_none text never = by (nat_lt (digits_value 10 text) 18446744073709551616 && bytes_eq (decimal (digits_value 10 text)) text) refl
  where
    by : (b : Bool) → (nat_lt (digits_value 10 text) 18446744073709551616 && bytes_eq (decimal (digits_value 10 text)) text) ≡ b → None ≡ cond b (Some (digits_value 10 text)) None
    by false test = refl
    by true test =
        let m = digits_value 10 text in
        let parts = and_parts (nat_lt m 18446744073709551616) (bytes_eq (decimal m) text) test in
        let small : m < 2 ^ 64 = (let less = parts.0 in grind (arith, nat_tests)) in
        absurd (never m small (same_bytes (decimal m) text parts.1))

ok_is : {X E : Type 0} (a b : X) → ◌≡◌ {A = Result X E} (Ok a) (Ok b) → a ≡ b
ok_is {X} {E} a b e = ap (ok_or X E a) e
  where
    ok_or : (Y F : Type 0) → Y → Result Y F → Y
    ok_or Y F d (Ok x) = x
    ok_or Y F d (Err f) = d

pub number_fails : (text : List ℕ) → ParsesUnsigned {E = Unit {0}} 64 10 text (Err tt) → None ≡ number_at text
number_fails text parses = number_none text (λ m small same. (let no : ◌≡◌ {A = Result ℕ (Unit {0})} (Err tt) (Ok m) = parse-decimal 64 m text (Err tt) small small (sym same) parses in cc))

pub number_compared : (text : List ℕ) (n : ℕ) → n < 2 ^ 64 → ParsesUnsigned {E = Unit {0}} 64 10 text (Ok n) → cond (bytes_eq (decimal n) text) (Some n) None ≡ number_at text
number_compared text n small parses = by (bytes_eq (decimal n) text) refl
  where
    by : (b : Bool) → bytes_eq (decimal n) text ≡ b → cond b (Some n) None ≡ number_at text
    by true test = number_some text n small (same_bytes (decimal n) text test)
    by false test = number_none text (λ m less same. (
        let is : n ≡ m = ok_is {X = ℕ} {E = Unit {0}} n m (parse-decimal 64 m text (Ok n) less less (sym same) parses) in
        let yes : bytes_eq (decimal n) text ≡ true = (bytes_eq-Decides (decimal n) text).1 (ap (λ k. decimal k) is ∙ same) in
        let no : true ≡ false = sym yes ∙ test in
        cc))

pub no_number : (text : List ℕ) → (IsUtf8 text → ⊥) → None ≡ number_at text
no_number text raw = number_none text (λ m small same. raw (rw (sym same) (IsUtf8-from_ascii (decimal m) (IsAscii-decimal m small))))

-- Names.

pub name_is : (name : List ℕ) → is_name name ≡ true → IsName name
name_is [] h = cc
name_is (c ∷ cs) h = and_parts (is_capital c) (list_all is_name_byte cs) h

pub is_a_name : (name : List ℕ) → IsName name → is_name name ≡ true
is_a_name [] h = absurd h
is_a_name (c ∷ cs) h = and_from (is_capital c) (list_all is_name_byte cs) h.0 h.1

bytes_ascii : (cs : List ℕ) → list_all is_name_byte cs ≡ true → IsAscii cs
bytes_ascii [] h = IsAscii-nil
bytes_ascii (c ∷ cs) h =
    let parts = and_parts (is_name_byte c) (list_all is_name_byte cs) h in
    let here : c < 128 = (let byte = parts.0 in grind (arith, nat_tests)) in
    IsAscii-cons c cs here (bytes_ascii cs parts.1)

pub name_utf8 : (name : List ℕ) → is_name name ≡ true → IsUtf8 name
name_utf8 [] h = cc
name_utf8 (c ∷ cs) h =
    let parts = and_parts (is_capital c) (list_all is_name_byte cs) h in
    let here : c < 128 = (let byte = parts.0 in grind (arith, nat_tests)) in
    IsUtf8-from_ascii (c ∷ cs) (IsAscii-cons c cs here (bytes_ascii cs parts.1))
