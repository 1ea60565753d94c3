-- The values of a row are read as they are written, both ways.
use Rattle.std.proofs.Common.{◌≡◌, ℕ, zero, suc, ℤ, pos, negsuc, ◌<◌, ◌^◌, List, [], ◌∷◌, ◌++◌, Option, Some, None, Bool, true, false, not, ◌&&◌, inl, inr, refl, ap, sym, ◌∙◌, length, map, arith, eqb, nat_lt, nat_le, bytes_eq, codes, append_assoc, append-nil}
use Rattle.std.proofs.lemmas.Bool.{cases_Bool, and_from, and_parts}
use Rattle.std.proofs.lemmas.Bool.Decides.{nat_tests}
use Rattle.std.proofs.lemmas.Fmt.{decimal_nonempty, decimal_is_IsNumeral}
use Rattle.std.proofs.lemmas.Str.{IsUtf8-from_is_utf8, is_utf8-from_IsUtf8}
use Rattle.std.specs.Fmt.{decimal, signed_decimal}
use Rattle.std.specs.Int.Signed.{mag}
use Rattle.std.specs.List.{list_all, AllByRecursion}
use Rattle.std.specs.Str.{is_utf8}
use Rattle.std.proofs.lemmas.Option.{cond_some, same_Some}
use Rattle.rv_value.proofs.Lists.{passes_more}
use Rattle.rv_value.specs.declared.value.Value.{Value}
use Rattle.rv_value.specs.declared.value.Value.TheVariants.{Null, Int, Str}
use Rattle.rv_lang.specs.Tokens.{quotes_twice}
use Rattle.rv_model.specs.Transcript.{more_text, value_text, values_text, IsPlainValue}
use Rattle.rv_model.proofs.Values.{numeric, signed_pass, signed_nonempty}
use Rattle.rv_text.specs.Lines.{extended, Cut}
use Rattle.rv_text.specs.Reading.{CanHoldValue}
use Rattle.rv_text.specs.Values.{all_values, before, integer_at, integer_of, more_values, negative, number_at, piece_grown, pieces, pieces_of, positive, spaced_value, text_of, unquoted, value_at, value_before, value_cut, values_at}
use Rattle.rv_text.proofs.Leaves.{number_again, number_takes, same_bytes}
use Rattle.rv_text.proofs.Cutting.{comma_joined, pieces_cut, pieces_whole, unpieced}

-- Integers.

-- the first byte of what is written of an integer: a sign or a digit
pub record Head (bytes : List ℕ) : Type 0 where
  pub first : ℕ
  pub more : List ℕ
  pub is : bytes ≡ first ∷ more
  pub written : numeric first ≡ true

head_of : (bytes : List ℕ) → 0 < length bytes → list_all numeric bytes ≡ true → Head bytes
head_of [] some h = absurd (omega arith)
head_of (c ∷ cs) some h = record { first = c; more = cs; is = refl; written = (and_parts (numeric c) (list_all numeric cs) h).0 }

pub signed_head : (z : ℤ) → mag z < 2 ^ 63 → Head (signed_decimal z)
signed_head z small = head_of (signed_decimal z) (signed_nonempty z small) (signed_pass z small)

-- a digit is no sign
unsigned_head : (ds : List ℕ) → 0 < length ds → (n : ℕ) → n < 2 ^ 64 → ds ≡ decimal n → (c : ℕ) → (cs : List ℕ) → ds ≡ c ∷ cs → eqb c 45 ≡ false
unsigned_head ds some n small is c cs e =
    let digits = (decimal_is_IsNumeral n small).0.1 in
    let all = rw (sym is ∙ e) at digits in
    let here = all.0 in
    grind (arith, nat_tests)

integer_pos : (bytes : List ℕ) (n : ℕ) → n < 2 ^ 63 → bytes ≡ decimal n → integer_at bytes ≡ Some (pos n)
integer_pos [] n small is = let some = decimal_nonempty n (omega (arith, small)) in let e = rw (sym is) at some in absurd (omega (arith, e))
integer_pos (c ∷ cs) n small is =
    let wide : n < 2 ^ 64 = omega (arith, small) in
    let sign = unsigned_head (c ∷ cs) (omega arith) n wide is c cs refl in
    let less : nat_lt n 9223372036854775808 ≡ true = grind (arith, nat_tests) in
    let number : number_at (c ∷ cs) ≡ Some n = ap number_at is ∙ number_again n wide in
    rw (sign, number, less) refl

pub integer_again : (z : ℤ) → mag z < 2 ^ 63 → integer_at (signed_decimal z) ≡ Some z
integer_again (pos n) small = integer_pos (decimal n) n small refl
integer_again (negsuc n) small =
    let wide : suc n < 2 ^ 64 = omega (arith, small) in
    let less : nat_lt n 9223372036854775808 ≡ true = grind (arith, nat_tests) in
    rw (number_again (suc n) wide, less) refl

pub record Integer (bytes : List ℕ) (z : ℤ) : Type 0 where
  pub is : signed_decimal z ≡ bytes
  pub small : mag z < 2 ^ 63

positive_takes : (bytes : List ℕ) (z : ℤ) (o : Option ℕ) → number_at bytes ≡ o → positive o ≡ Some z → Integer bytes z
positive_takes bytes z None at e = cc
positive_takes bytes z (Some n) at e =
    let found = cond_some (nat_lt n 9223372036854775808) (pos n) z e in
    let number = number_takes bytes n at in
    let small : n < 2 ^ 63 = (let less = found.0 in grind (arith, nat_tests)) in
    rw (sym found.1) (record { is = number.0; small = small })

negative_takes : (bytes : List ℕ) (z : ℤ) (o : Option ℕ) → number_at bytes ≡ o → negative o ≡ Some z → Integer (45 ∷ bytes) z
negative_takes bytes z None at e = cc
negative_takes bytes z (Some zero) at e = cc
negative_takes bytes z (Some (suc n)) at e =
    let found = cond_some (nat_lt n 9223372036854775808) (negsuc n) z e in
    let number = number_takes bytes (suc n) at in
    let small : n < 2 ^ 63 = (let less = found.0 in grind (arith, nat_tests)) in
    rw (sym found.1) (record { is = ap (λ ds. 45 ∷ ds) number.0; small = small })

pub integer_takes : (bytes : List ℕ) (z : ℤ) → integer_at bytes ≡ Some z → Integer bytes z
integer_takes [] z e = cc
integer_takes (c ∷ cs) z e = elim (cases_Bool (eqb c 45)) [
  | inl t ↦ let sign : c ≡ 45 = grind (arith, nat_tests) in
      let found = negative_takes cs z (number_at cs) refl (rw t at e) in
      rw sign found
  | inr f ↦ positive_takes (c ∷ cs) z (number_at (c ∷ cs)) refl (rw f at e)
]

-- Texts in quotes.

before_takes : (c : ℕ) (o : Option (List ℕ)) (t : List ℕ) → before c o ≡ Some t → (u : List ℕ) × (o ≡ Some u) × (t ≡ c ∷ u)
before_takes c None t e = cc
before_takes c (Some u) t e = (u, refl, sym (same_Some (c ∷ u) t e))

pub unquoted_again : (t : List ℕ) → list_all (nat_le 32) t ≡ true → unquoted false (quotes_twice t ++ 39 ∷ []) ≡ Some t
unquoted_again [] h = refl
unquoted_again (c ∷ cs) h =
    let parts = and_parts (nat_le 32 c) (list_all (nat_le 32) cs) h in
    elim (cases_Bool (eqb c 39)) [
      | inl t ↦ let e : c ≡ 39 = grind (arith, nat_tests) in rw (t, unquoted_again cs parts.1) (λ i. Some (sym e i ∷ cs))
      | inr f ↦ rw (f, f, parts.0, unquoted_again cs parts.1) refl
    ]

abbrev pub opened : Bool → List ℕ → List ℕ
opened true bytes = 39 ∷ bytes
opened false bytes = bytes

pub record Unquoted (quoted : Bool) (bytes t : List ℕ) : Type 0 where
  pub is : quotes_twice t ++ 39 ∷ [] ≡ opened quoted bytes
  pub plain : list_all (nat_le 32) t ≡ true

pub unquoted_takes : (quoted : Bool) (bytes t : List ℕ) → unquoted quoted bytes ≡ Some t → Unquoted quoted bytes t
unquoted_takes true [] t e = rw (sym (same_Some [] t e)) (record { is = refl; plain = refl })
unquoted_takes false [] t e = cc
unquoted_takes true (c ∷ cs) t e = elim (cases_Bool (eqb c 39)) [
  | inl q ↦
      let same : c ≡ 39 = grind (arith, nat_tests) in
      let parts = before_takes 39 (unquoted false cs) t (rw q at e) in
      let ih = unquoted_takes false cs parts.0 parts.1 in
      rw parts.2 (record { is = λ i. 39 ∷ sym same i ∷ ih.is i; plain = ih.plain })
  | inr f ↦ let no : None ≡ Some t = rw f at e in cc
]
unquoted_takes false (c ∷ cs) t e = elim (cases_Bool (eqb c 39)) [
  | inl q ↦
      let same : c ≡ 39 = grind (arith, nat_tests) in
      let ih = unquoted_takes true cs t (rw q at e) in
      record { is = ih.is ∙ (λ i. sym same i ∷ cs); plain = ih.plain }
  | inr f ↦ elim (cases_Bool (nat_le 32 c)) [
    | inl p ↦
        let parts = before_takes c (unquoted false cs) t (rw (f, p) at e) in
        let ih = unquoted_takes false cs parts.0 parts.1 in
        rw parts.2 (record { is = rw f (λ i. c ∷ ih.is i); plain = and_from (nat_le 32 c) (list_all (nat_le 32) parts.0) p ih.plain })
    | inr p ↦ let no : None ≡ Some t = rw (f, p) at e in cc
  ]
]

-- A value.

pub record IsValue (v : Value) (bytes : List ℕ) : Type 0 where
  pub is : value_text v ≡ bytes
  pub plain : IsPlainValue v
  pub held : CanHoldValue v

text_takes : (bytes : List ℕ) (v : Value) (o : Option (List ℕ)) → unquoted false bytes ≡ o → text_of o ≡ Some v → IsValue v (39 ∷ bytes)
text_takes bytes v None at e = cc
text_takes bytes v (Some t) at e =
    let found = cond_some (is_utf8 t) (Str t) v e in
    let read = unquoted_takes false bytes t at in
    rw (sym found.1) (record { is = λ i. 39 ∷ read.is i; plain = read.plain; held = IsUtf8-from_is_utf8 t found.0 })

integer_value : (bytes : List ℕ) (v : Value) (o : Option ℤ) → integer_at bytes ≡ o → integer_of o ≡ Some v → IsValue v bytes
integer_value bytes v None at e = cc
integer_value bytes v (Some z) at e =
    let read = integer_takes bytes z at in
    rw (sym (same_Some (Int z) v e)) (record { is = read.is; plain = read.small; held = tt })

pub value_takes : (bytes : List ℕ) (v : Value) → value_at bytes ≡ Some v → IsValue v bytes
value_takes [] v e = cc
value_takes (c ∷ cs) v e = elim (cases_Bool (eqb c 39)) [
  | inl q ↦ let same : c ≡ 39 = grind (arith, nat_tests) in
      let found = text_takes cs v (unquoted false cs) refl (rw q at e) in
      rw same found
  | inr f ↦ elim (cases_Bool (bytes_eq (c ∷ cs) (codes "NULL"))) [
    | inl n ↦
        let at : Some Null ≡ Some v = rw (f, n) at e in
        let word = same_bytes (c ∷ cs) (codes "NULL") n in
        rw (sym (same_Some Null v at)) (record { is = sym word; plain = tt; held = tt })
    | inr n ↦ integer_value (c ∷ cs) v (integer_at (c ∷ cs)) refl (rw (f, n) at e)
  ]
]

integer_read : (z : ℤ) (bytes : List ℕ) (c : ℕ) (cs : List ℕ) → bytes ≡ c ∷ cs → numeric c ≡ true → integer_at bytes ≡ Some z → value_at bytes ≡ Some (Int z)
integer_read z bytes c cs is written read =
    let quote : eqb c 39 ≡ false = grind (arith, nat_tests) in
    let null : eqb c 78 ≡ false = grind (arith, nat_tests) in
    let at : integer_at (c ∷ cs) ≡ Some z = ap integer_at (sym is) ∙ read in
    ap value_at is ∙ rw (quote, null) (ap integer_of at)

pub value_again : (v : Value) → IsPlainValue v → CanHoldValue v → value_at (value_text v) ≡ Some v
value_again Null p held = refl
value_again (Int z) p held = let head = signed_head z p in integer_read z (signed_decimal z) head.first head.more head.is head.written (integer_again z p)
value_again (Str t) p held = rw (unquoted_again t p, is_utf8-from_IsUtf8 t held) refl

-- Values and commas.

abbrev unmarked : ℕ → Bool
unmarked c = not (eqb c 44) && not (eqb c 39)

-- bytes without commas and quotes
bare_cut : (bytes rest : List ℕ) → list_all unmarked bytes ≡ true → value_cut false (bytes ++ rest) ≡ extended bytes (value_cut false rest)
bare_cut [] rest h = refl
bare_cut (c ∷ cs) rest h =
    let parts = and_parts (unmarked c) (list_all unmarked cs) h in
    let marks = and_parts (not (eqb c 44)) (not (eqb c 39)) parts.0 in
    let comma : eqb c 44 ≡ false = (let m = marks.0 in grind (arith, nat_tests)) in
    let quote : eqb c 39 ≡ false = (let m = marks.1 in grind (arith, nat_tests)) in
    rw (comma, quote) (ap (λ x. extended (c ∷ []) x) (bare_cut cs rest parts.1))

inside_cut : (t rest : List ℕ) → value_cut true (quotes_twice t ++ 39 ∷ rest) ≡ extended (quotes_twice t ++ 39 ∷ []) (value_cut false rest)
inside_cut [] rest = refl
inside_cut (c ∷ cs) rest = elim (cases_Bool (eqb c 39)) [
  | inl q ↦ rw q (ap (λ x. extended (39 ∷ []) (extended (39 ∷ []) x)) (inside_cut cs rest))
  | inr f ↦ rw (f, f) (ap (λ x. extended (c ∷ []) x) (inside_cut cs rest))
]

numeric_unmarked : (c : ℕ) → numeric c ≡ true → unmarked c ≡ true
numeric_unmarked c h = grind (arith, nat_tests)

-- a value before what follows a comma
value_before_cut : (v : Value) (rest : List ℕ) → IsPlainValue v → value_cut false (value_text v ++ rest) ≡ extended (value_text v) (value_cut false rest)
value_before_cut Null rest p = bare_cut (codes "NULL") rest refl
value_before_cut (Int z) rest p = bare_cut (signed_decimal z) rest (passes_more numeric unmarked numeric_unmarked (signed_decimal z) (signed_pass z p))
value_before_cut (Str t) rest p = ap (λ bs. value_cut false (39 ∷ bs)) (append_assoc (quotes_twice t) (39 ∷ []) rest) ∙ ap (λ x. extended (39 ∷ []) x) (inside_cut t rest)

abbrev spaced_text : Value → List ℕ
spaced_text v = 32 ∷ value_text v

pub pieces_again : (v : Value) (vs : List Value) → IsPlainValue v → AllByRecursion IsPlainValue vs → pieces false (value_text v ++ more_text vs) ≡ value_text v ∷ map spaced_text vs
pieces_again v [] p ps =
    pieces_cut false (value_text v ++ [])
    ∙ ap (λ (c : Cut). c.word ∷ pieces_of c.more) (value_before_cut v [] p)
    ∙ ap (λ w. w ∷ []) (append-nil (value_text v))
pieces_again v (w ∷ ws) p ps =
    pieces_cut false (value_text v ++ more_text (w ∷ ws))
    ∙ ap (λ (c : Cut). c.word ∷ pieces_of c.more) (value_before_cut v (more_text (w ∷ ws)) p)
    ∙ (λ i. append-nil (value_text v) i ∷ piece_grown 32 (pieces_again w ws ps.0 ps.1 i))

more_again : (vs : List Value) → AllByRecursion IsPlainValue vs → AllByRecursion CanHoldValue vs → more_values (map spaced_text vs) ≡ Some vs
more_again [] p h = refl
more_again (v ∷ vs) p h = rw (value_again v p.0 h.0, more_again vs p.1 h.1) refl

some_values : (text : List ℕ) (c : ℕ) (cs : List ℕ) (vs : List Value) → text ≡ c ∷ cs → all_values (pieces false text) ≡ Some vs → values_at text ≡ Some vs
some_values text c cs vs is e = ap values_at is ∙ ap (λ bs. all_values (pieces false bs)) (sym is) ∙ e

-- what is written of a value begins with some byte
pub record Nonempty (bytes : List ℕ) : Type 0 where
  pub first : ℕ
  pub more : List ℕ
  pub is : bytes ≡ first ∷ more

value_head : (v : Value) (rest : List ℕ) → IsPlainValue v → Nonempty (value_text v ++ rest)
value_head Null rest p = record { first = 78; more = 85 ∷ 76 ∷ 76 ∷ rest; is = refl }
value_head (Int z) rest p = let head = signed_head z p in record { first = head.first; more = head.more ++ rest; is = ap (λ bs. bs ++ rest) head.is }
value_head (Str t) rest p = record { first = 39; more = (quotes_twice t ++ 39 ∷ []) ++ rest; is = refl }

pub values_again : (vs : List Value) → AllByRecursion IsPlainValue vs → AllByRecursion CanHoldValue vs → values_at (values_text vs) ≡ Some vs
values_again [] p h = refl
values_again (v ∷ vs) p h =
    let head = value_head v (more_text vs) p.0 in
    some_values (values_text (v ∷ vs)) head.first head.more (v ∷ vs) head.is (
    ap all_values (pieces_again v vs p.0 p.1) ∙ rw (value_again v p.0 h.0, more_again vs p.1 h.1) refl)

pub record AreValues (vs : List Value) (bytes : List ℕ) : Type 0 where
  pub is : values_text vs ≡ bytes
  pub plain : AllByRecursion IsPlainValue vs
  pub held : AllByRecursion CanHoldValue vs

-- the values behind the first
record AreMore (vs : List Value) (bytes : List ℕ) : Type 0 where
  is : more_text vs ≡ bytes
  plain : AllByRecursion IsPlainValue vs
  held : AllByRecursion CanHoldValue vs

record Parts (first : Option Value) (more : Option (List Value)) (vs : List Value) : Type 0 where
  value : Value
  values : List Value
  first_is : first ≡ Some value
  more_is : more ≡ Some values
  is : value ∷ values ≡ vs

value_parts : (first : Option Value) (more : Option (List Value)) (vs : List Value) → value_before first more ≡ Some vs → Parts first more vs
value_parts None more vs e = cc
value_parts (Some v) None vs e = cc
value_parts (Some v) (Some us) vs e = record { value = v; values = us; first_is = refl; more_is = refl; is = same_Some (v ∷ us) vs e }

spaced_takes : (piece : List ℕ) (v : Value) → spaced_value piece ≡ Some v → (rest : List ℕ) × (piece ≡ 32 ∷ rest) × IsValue v rest
spaced_takes [] v e = cc
spaced_takes (c ∷ cs) v e = elim (cases_Bool (eqb c 32)) [
  | inl t ↦ let same : c ≡ 32 = grind (arith, nat_tests) in (cs, (λ i. same i ∷ cs), value_takes cs v (rw t at e))
  | inr f ↦ let no : None ≡ Some v = rw f at e in cc
]

more_takes : (ps : List (List ℕ)) (vs : List Value) → more_values ps ≡ Some vs → AreMore vs (comma_joined ps)
more_takes [] vs e = rw (sym (same_Some [] vs e)) (record { is = refl; plain = tt; held = tt })
more_takes (p ∷ ps) vs e =
    let parts = value_parts (spaced_value p) (more_values ps) vs e in
    let first = spaced_takes p parts.value parts.first_is in
    let value = first.2 in
    let ih = more_takes ps parts.values parts.more_is in
    rw (sym parts.is) (record {
      is = (λ i. 44 ∷ 32 ∷ (value.is i ++ ih.is i)) ∙ (λ i. 44 ∷ (sym first.1 i ++ comma_joined ps));
      plain = (value.plain, ih.plain);
      held = (value.held, ih.held);
    })

all_takes : (ps : List (List ℕ)) (vs : List Value) → all_values ps ≡ Some vs → AreValues vs (unpieced ps)
all_takes [] vs e = cc
all_takes (p ∷ ps) vs e =
    let parts = value_parts (value_at p) (more_values ps) vs e in
    let value = value_takes p parts.value parts.first_is in
    let more = more_takes ps parts.values parts.more_is in
    rw (sym parts.is) (record { is = λ i. value.is i ++ more.is i; plain = (value.plain, more.plain); held = (value.held, more.held) })

pub values_takes : (bytes : List ℕ) (vs : List Value) → values_at bytes ≡ Some vs → AreValues vs bytes
values_takes [] vs e = rw (sym (same_Some [] vs e)) (record { is = refl; plain = tt; held = tt })
values_takes (c ∷ cs) vs e = rw (pieces_whole false (c ∷ cs)) at (all_takes (pieces false (c ∷ cs)) vs e)
