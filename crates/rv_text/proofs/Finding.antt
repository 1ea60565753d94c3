-- What is found in bytes is what the functions of the specs give.
use Rattle.std.proofs.Common.{◌≡◌, ℕ, zero, suc, ℤ, ◌+◌, ◌-◌, ◌<◌, ◌≤◌, ◌^◌, List, [], ◌∷◌, Option, Some, None, Result, Ok, Err, Bool, true, false, ◌&&◌, cond, inl, inr, refl, ap, sym, subst, ◌∙◌, length, take, drop, get_or, arith, eqb, nat_eq, nat_le, bytes_eq, find, IsUtf8, MatchOption}
use Rattle.std.proofs.lemmas.Bool.{cases_Bool, and_parts}
use Rattle.std.proofs.lemmas.Bool.Decides.{nat_tests}
use Rattle.std.proofs.lemmas.Int.{to_z-of_z}
use Rattle.std.proofs.lemmas.Fmt.{parse-signed_decimal, IsAscii-signed}
use Rattle.std.proofs.lemmas.Slice.Eq.{bytes_eq-Decides}
use Rattle.std.proofs.lemmas.List.{take_rest}
use Rattle.std.proofs.lemmas.Str.{IsUtf8-from_ascii, IsUtf8-from_is_utf8, is_utf8-from_IsUtf8}
use Rattle.std.specs.Cmp.Lexicographic.{pointwise}
use Rattle.std.specs.Fmt.{signed_decimal}
use Rattle.std.specs.Int.RustNames.{FitsSigned}
use Rattle.std.specs.Int.Signed.{mag}
use Rattle.std.specs.Str.Parse.{ParsesSigned}
use denote.Ref.{Bor}
use mir.Syntax.{w64}
use mir.Val.{of_z, to_z}
use Rattle.std.specs.Option.{option_copied}
use Rattle.std.specs.Str.{is_utf8}
use Rattle.memchr.specs.Find.{NoneBefore, Nowhere, Passes, is_byte}
use Rattle.rv_value.specs.declared.value.Value.TheVariants.{Str}
use Rattle.rv_text.specs.Lines.{cut, extended, Cut}
use Rattle.rv_text.specs.Replies.{after}
use Rattle.rv_text.specs.Texts.{call_at, Call}
use Rattle.rv_text.specs.Values.{integer_at, text_of}
use Rattle.rv_text.proofs.Leaves.{same_bytes}
use Rattle.rv_text.proofs.Rowing.{integer_again, integer_takes}

-- the first such byte
pub cut_found : (byte : ℕ) (text : List ℕ) (k : ℕ) → k < length text → ((j : ℕ) → j < k → eqb (get_or text j 0) byte ≡ true → ⊥) → eqb (get_or text k 0) byte ≡ true → cut byte text ≡ record { word = take k text; more = Some (drop (suc k) text) }
cut_found byte [] k h before at = absurd (omega arith)
cut_found byte (c ∷ cs) zero h before at = rw at refl
cut_found byte (c ∷ cs) (suc k) h before at = elim (cases_Bool (eqb c byte)) [
  | inl t ↦ absurd (before 0 (omega arith) t)
  | inr f ↦ rw f (ap (λ x. extended (c ∷ []) x) (cut_found byte cs k (omega (arith, h)) (λ j l. before (suc j) (omega (arith, l))) at))
]

-- where there is none
pub cut_missing : (byte : ℕ) (text : List ℕ) → ((j : ℕ) → j < length text → eqb (get_or text j 0) byte ≡ true → ⊥) → cut byte text ≡ record { word = text; more = None }
cut_missing byte [] before = refl
cut_missing byte (c ∷ cs) before = elim (cases_Bool (eqb c byte)) [
  | inl t ↦ absurd (before 0 (omega arith) t)
  | inr f ↦ rw f (ap (λ x. extended (c ∷ []) x) (cut_missing byte cs (λ j l. before (suc j) (omega (arith, l)))))
]

abbrev cut_by : ℕ → ℕ → List ℕ → Cut
cut_by at from text = record { word = take at text; more = Some (drop from text) }

abbrev rest_by : ℕ → List ℕ → List ℕ → Cut
rest_by at text more = record { word = take at text; more = Some more }

-- the cut where a search found the byte, and where it found none
pub found_at : (byte : ℕ) (text : List ℕ) (k : ℕ) → NoneBefore (Passes (is_byte byte) text) 0 (length text) k × Passes (is_byte byte) text k → cut byte text ≡ record { word = take k text; more = Some (take (length text - (k + 1)) (drop (k + 1) text)) }
found_at byte text k h =
    let next : suc k ≡ k + 1 = omega arith in
    cut_found byte text k h.0.high (λ j less at. h.0.before j (omega arith) less at) h.1 ∙ ap (λ n. cut_by k n text) next ∙ ap (rest_by k text) (sym (take_rest text (k + 1)))

pub found_nowhere : (byte : ℕ) (text : List ℕ) → Nowhere (Passes (is_byte byte) text) 0 (length text) → cut byte text ≡ record { word = text; more = None }
found_nowhere byte text h = cut_missing byte text (λ j less at. h j (omega arith) less at)

-- what follows a word
pub after_found : (word text : List ℕ) → pointwise nat_eq (take (length word) text) word ≡ true → after word text ≡ Some (drop (length word) text)
after_found [] text h = refl
after_found (c ∷ cs) [] h = cc
after_found (c ∷ cs) (d ∷ ds) h =
    let parts = and_parts (nat_eq d c) (pointwise nat_eq (take (length cs) ds) cs) h in
    let same : eqb c d ≡ true = (let first = parts.0 in grind (arith, nat_tests)) in
    rw same (after_found cs ds parts.1)

pub after_missing : (word text : List ℕ) → pointwise nat_eq (take (length word) text) word ≡ false → after word text ≡ None
after_missing [] text h = cc
after_missing (c ∷ cs) [] h = refl
after_missing (c ∷ cs) (d ∷ ds) h = elim (cases_Bool (eqb c d)) [
  | inl t ↦ let same : nat_eq d c ≡ true = grind (arith, nat_tests) in rw t (after_missing cs ds (rw same at h))
  | inr f ↦ rw f refl
]

-- integers
integer_none : (text : List ℕ) → ((z : ℤ) → mag z < 2 ^ 63 → signed_decimal z ≡ text → ⊥) → None ≡ integer_at text
integer_none text never = by (integer_at text) refl
  where
    by : (o : Option ℤ) → integer_at text ≡ o → None ≡ o
    by None e = refl
    by (Some z) e = let found = integer_takes text z e in absurd (never z found.small found.is)

integer_ok : (a b : ℤ) → ◌≡◌ {A = Result ℤ (Unit {0})} (Ok a) (Ok b) → a ≡ b
integer_ok a b e = ap ok_or e
  where
    ok_or : Result ℤ (Unit {0}) → ℤ
    ok_or (Ok x) = x
    ok_or (Err f) = a

fits : (z : ℤ) → mag z < 2 ^ 63 → FitsSigned w64 z
fits z small = record { sfits = small }

pub integer_fails : (text : List ℕ) → ParsesSigned {E = Unit {0}} w64 10 text (Err tt) → None ≡ integer_at text
integer_fails text parses = integer_none text (λ z small same. (let no : ◌≡◌ {A = Result ℤ (Unit {0})} (Err tt) (Ok z) = parse-signed_decimal w64 z text (Err tt) (fits z small) small (sym same) parses in cc))

-- a signed number is handed on by its bits
pub integer_compared : (text : List ℕ) (n : ℤ) (r : Option ℤ) → FitsSigned w64 n → ParsesSigned {E = Unit {0}} w64 10 text (Ok n) → r ≡ cond (bytes_eq (signed_decimal (to_z w64 (of_z w64 n))) text) (Some (to_z w64 (of_z w64 n))) None → r ≡ integer_at text
integer_compared text n r small parses e = e ∙ ap compared (to_z-of_z w64 n small) ∙ by (bytes_eq (signed_decimal n) text) refl
  where
    compared : ℤ → Option ℤ
    compared m = cond (bytes_eq (signed_decimal m) text) (Some m) None

    by : (b : Bool) → bytes_eq (signed_decimal n) text ≡ b → cond b (Some n) None ≡ integer_at text
    by true test = sym (integer_again n small.sfits) ∙ ap integer_at (same_bytes (signed_decimal n) text test)
    by false test = integer_none text (λ z less same. (
        let is : n ≡ z = integer_ok n z (parse-signed_decimal w64 z text (Ok n) (fits z less) less (sym same) parses) in
        let yes : bytes_eq (signed_decimal n) text ≡ true = (bytes_eq-Decides (signed_decimal n) text).1 (ap (λ k. signed_decimal k) is ∙ same) in
        let no : true ≡ false = sym yes ∙ test in
        cc))

pub no_integer : (text : List ℕ) → (IsUtf8 text → ⊥) → None ≡ integer_at text
no_integer text raw = integer_none text (λ z small same. raw (rw (sym same) (IsUtf8-from_ascii (signed_decimal z) (IsAscii-signed z small))))

-- UTF-8, as a test
pub not_utf8 : (bytes : List ℕ) → (IsUtf8 bytes → ⊥) → is_utf8 bytes ≡ false
not_utf8 bytes raw = elim (cases_Bool (is_utf8 bytes)) [ inl t ↦ absurd (raw (IsUtf8-from_is_utf8 bytes t)) | inr f ↦ f ]

-- what follows a word, by what std says of it
pub after_is : (word text : List ℕ) (r : Option (Bor (List ℕ))) → MatchOption r (pointwise nat_eq (take (length word) text) word ≡ false) (λ x. (pointwise nat_eq (take (length word) text) word ≡ true) × (x.now ≡ drop (length word) text) × (length x.now + length word ≡ length text)) → option_copied r ≡ after word text
after_is word text None h = sym (after_missing word text h)
after_is word text (Some x) h = (λ i. Some (h.1 i)) ∙ sym (after_found word text h.0)

pub find_step : {X : Type 0} (p : X → Bool) (x : X) (xs : List X) (found : Option X) → p x ≡ false → find p (x ∷ xs) ≡ found → find p xs ≡ found
find_step p x xs found fails is = rw fails at is

-- what is found behind the first item, which fails
pub find_rest : {X : Type 0} (p : X → Bool) (xs : List X) (d : X) → 1 ≤ length xs → p (get_or xs 0 d) ≡ false → find p (take (length xs - 1) (drop 1 xs)) ≡ find p xs
find_rest p [] d some fails = absurd (omega (arith, some))
find_rest p (x ∷ xs) d some fails = ap (find p) (take_rest (x ∷ xs) 1) ∙ rw fails refl

-- Calls.

second_false : (a b c : Bool) → c ≡ false → (a && (b && c)) ≡ false
second_false true true c e = e
second_false true false c e = refl
second_false false b c e = refl

abbrev call_of : ℕ → List ℕ → Call
call_of s text = record { session = s - 48; text = text }

-- a session, a space and a text
pub call_read : (line more text : List ℕ) → 2 ≤ length line → 49 ≤ get_or line 0 0 → get_or line 0 0 ≤ 56 → get_or line 1 0 ≡ 32 → more ≡ drop 2 line → text ≡ more → IsUtf8 more → Some (record { session = get_or line 0 0 - 48; text = text }) ≡ call_at line
call_read [] more text long low high space is same held = absurd (omega (arith, long))
call_read (s ∷ []) more text long low high space is same held = absurd (omega (arith, long))
call_read (s ∷ b ∷ ws) more text long low high space is same held =
    let from : nat_le 49 s ≡ true = grind (arith, nat_tests) in
    let to : nat_le s 56 ≡ true = grind (arith, nat_tests) in
    let blank : eqb b 32 ≡ true = grind (arith, nat_tests) in
    let utf8 : is_utf8 ws ≡ true = is_utf8-from_IsUtf8 ws (subst IsUtf8 is held) in
    rw (from, to, blank, utf8) (ap (λ t. Some (call_of s t)) (same ∙ is))

-- a text that is no UTF-8 is of no call
pub call_raw : (line more : List ℕ) → 2 ≤ length line → more ≡ drop 2 line → (IsUtf8 more → ⊥) → None ≡ call_at line
call_raw [] more long is raw = absurd (omega (arith, long))
call_raw (s ∷ []) more long is raw = absurd (omega (arith, long))
call_raw (s ∷ b ∷ ws) more long is raw =
    let no : is_utf8 ws ≡ false = not_utf8 ws (λ held. raw (subst IsUtf8 (sym is) held)) in
    let fails : ((nat_le 49 s && nat_le s 56) && (eqb b 32 && is_utf8 ws)) ≡ false = second_false (nat_le 49 s && nat_le s 56) (eqb b 32) (is_utf8 ws) no in
    rw fails refl

-- Texts in quotes.

pub quoted_read : (o : Option (List ℕ)) (inner text : List ℕ) → Some inner ≡ o → text ≡ inner → IsUtf8 inner → Some (Str text) ≡ text_of o
quoted_read o inner text is same held =
    let utf8 : is_utf8 inner ≡ true = is_utf8-from_IsUtf8 inner held in
    rw (sym is, same, utf8) refl

pub quoted_raw : (o : Option (List ℕ)) (inner : List ℕ) → Some inner ≡ o → (IsUtf8 inner → ⊥) → None ≡ text_of o
quoted_raw o inner is raw = rw (sym is, not_utf8 inner raw) refl
