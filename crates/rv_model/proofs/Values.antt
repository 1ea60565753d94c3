-- Equal texts of values are of equal values.
use Rattle.std.proofs.Common.{◌≡◌, ℕ, ℤ, pos, negsuc, ◌+◌, ◌<◌, ◌^◌, List, [], ◌∷◌, ◌++◌, refl, sym, ap, ◌∙◌, arith, Bool, true, false, ◌&&◌, ◌||◌, suc, codes, append_assoc, ◌⊎◌, inl, inr, eqb, length, ◌≢◌}
use Rattle.std.proofs.lemmas.Bool.Decides.{nat_tests, eqb_tells}
use Rattle.std.specs.List.{list_all, AllByRecursion}
use Rattle.std.specs.Fmt.{decimal, signed_decimal}
use Rattle.std.specs.Str.Parse.{AllDigits, digits_value}
use Rattle.std.specs.Char.{digit_value, is_ascii_digit}
use Rattle.std.proofs.lemmas.Fmt.{decimal_nonempty, decimal_is_IsNumeral, signed_decimal_injective}
use Rattle.std.specs.Int.Signed.{mag}
use Rattle.std.proofs.lemmas.Bool.{and_parts}
use Rattle.rv_value.specs.declared.value.Value.{Value}
use Rattle.rv_value.specs.declared.value.Value.TheVariants.{Null, Int, Str}
use Rattle.rv_lang.specs.Tokens.{quotes_twice}
use Rattle.rv_model.specs.Transcript.{value_text, more_text, values_text, IsPlainValue}
use Rattle.rv_model.proofs.Cuts.{Stops, cut}

-- a byte of a number
abbrev pub numeric : ℕ → Bool
numeric c = eqb c 45 || is_ascii_digit c

digit_is : (c : ℕ) → digit_value c < 10 → is_ascii_digit c ≡ true
digit_is c h = grind (arith, nat_tests)

or_true : (b : Bool) → ((b || true) && true) ≡ true
or_true true = refl
or_true false = refl

digits_pass : (ds : List ℕ) → AllDigits 10 ds → list_all numeric ds ≡ true
digits_pass [] h = refl
digits_pass (d ∷ ds) h =
    let here : is_ascii_digit d ≡ true = digit_is d h.0 in
    let tail : list_all numeric ds ≡ true = digits_pass ds h.1 in
    rw (here, tail) (or_true (eqb d 45))

pub decimal_pass : (n : ℕ) → n < 2 ^ 64 → list_all numeric (decimal n) ≡ true
decimal_pass n small = digits_pass (decimal n) (decimal_is_IsNumeral n small).0.1

pub signed_pass : (z : ℤ) → mag z < 2 ^ 63 → list_all numeric (signed_decimal z) ≡ true
signed_pass (pos n) small = decimal_pass n (omega arith)
signed_pass (negsuc n) small = let d : list_all numeric (decimal (suc n)) ≡ true = decimal_pass (suc n) (omega arith) in d

-- the ends of values in a row: nothing, or a comma
abbrev pub Ends : List ℕ → Type 0
Ends [] = Unit {0}
Ends (c ∷ cs) = c ≡ 44

pub ends_stop : (p : ℕ → Bool) → p 44 ≡ false → (x : List ℕ) → Ends x → Stops p x
ends_stop p fails [] h = tt
ends_stop p fails (c ∷ cs) h = rw h fails

pub more_ends : (vs : List Value) → Ends (more_text vs)
more_ends [] = tt
more_ends (v ∷ vs) = refl

ends_not : (x z : List ℕ) → Ends x → x ≡ 39 ∷ z → ⊥
ends_not [] z h e = cc
ends_not (c ∷ cs) z h e = let same : c ≡ 39 = cc in omega (arith, h)

doubled_head : (c : ℕ) (a : List ℕ) → ((c ≡ 39) × (quotes_twice (c ∷ a) ≡ 39 ∷ 39 ∷ quotes_twice a)) ⊎ ((c ≢ 39) × (quotes_twice (c ∷ a) ≡ c ∷ quotes_twice a))
doubled_head c a = elim (eqb_tells c 39) [ inl h ↦ inl (h.1, rw h.0 refl) | inr h ↦ inr (h.1, rw h.0 refl) ]

doubled_cut : (a b x y : List ℕ) → Ends x → Ends y → quotes_twice a ++ 39 ∷ x ≡ quotes_twice b ++ 39 ∷ y → (a ≡ b) × (x ≡ y)
doubled_cut [] [] x y ex ey e = (refl, cc)
doubled_cut [] (d ∷ b) x y ex ey e =
    elim (doubled_head d b) [
      | inl h ↦ let f : 39 ∷ x ≡ 39 ∷ 39 ∷ quotes_twice b ++ 39 ∷ y = rw h.1 at e in absurd (ends_not x (quotes_twice b ++ 39 ∷ y) ex cc)
      | inr h ↦ let f : 39 ∷ x ≡ d ∷ quotes_twice b ++ 39 ∷ y = rw h.1 at e in let same : 39 ≡ d = cc in absurd (h.0 (sym same))
    ]
doubled_cut (c ∷ a) [] x y ex ey e =
    elim (doubled_head c a) [
      | inl h ↦ let f : 39 ∷ 39 ∷ quotes_twice a ++ 39 ∷ x ≡ 39 ∷ y = rw h.1 at e in absurd (ends_not y (quotes_twice a ++ 39 ∷ x) ey cc)
      | inr h ↦ let f : c ∷ quotes_twice a ++ 39 ∷ x ≡ 39 ∷ y = rw h.1 at e in let same : c ≡ 39 = cc in absurd (h.0 same)
    ]
doubled_cut (c ∷ a) (d ∷ b) x y ex ey e =
    elim (doubled_head c a) [
      | inl h ↦ elim (doubled_head d b) [
        | inl k ↦ let f : 39 ∷ 39 ∷ quotes_twice a ++ 39 ∷ x ≡ 39 ∷ 39 ∷ quotes_twice b ++ 39 ∷ y = rw (h.1, k.1) at e in
            let r = doubled_cut a b x y ex ey cc in (cc (h.0, k.0, r.0), r.1)
        | inr k ↦ let f : 39 ∷ 39 ∷ quotes_twice a ++ 39 ∷ x ≡ d ∷ quotes_twice b ++ 39 ∷ y = rw (h.1, k.1) at e in let same : 39 ≡ d = cc in absurd (k.0 (sym same))
      ]
      | inr h ↦ elim (doubled_head d b) [
        | inl k ↦ let f : c ∷ quotes_twice a ++ 39 ∷ x ≡ 39 ∷ 39 ∷ quotes_twice b ++ 39 ∷ y = rw (h.1, k.1) at e in let same : c ≡ 39 = cc in absurd (h.0 same)
        | inr k ↦ let f : c ∷ quotes_twice a ++ 39 ∷ x ≡ d ∷ quotes_twice b ++ 39 ∷ y = rw (h.1, k.1) at e in
            let r = doubled_cut a b x y ex ey cc in let same : c ≡ d = cc in (cc (same, r.0), r.1)
      ]
    ]

regroup : (t x : List ℕ) → (39 ∷ quotes_twice t ++ 39 ∷ []) ++ x ≡ 39 ∷ (quotes_twice t ++ 39 ∷ x)
regroup t x = ap (λ (u : List ℕ). 39 ∷ u) (append_assoc (quotes_twice t) (39 ∷ []) x)

first_passes : (p : ℕ → Bool) (ds x y : List ℕ) (c : ℕ) → list_all p ds ≡ true → p c ≡ false → 0 < length ds → ds ++ x ≡ c ∷ y → ⊥
first_passes p [] x y c all fails some e = omega arith
first_passes p (d ∷ ds) x y c all fails some e =
    let same : d ≡ c = cc in
    let wrong : true ≡ false = sym (and_parts (p d) (list_all p ds) all).0 ∙ ap p same ∙ fails in cc

pub signed_nonempty : (z : ℤ) → mag z < 2 ^ 63 → 0 < length (signed_decimal z)
signed_nonempty (pos n) small = decimal_nonempty n (omega arith)
signed_nonempty (negsuc n) small = omega arith

not_numeric_is : (z : ℤ) (x y : List ℕ) (c : ℕ) → mag z < 2 ^ 63 → numeric c ≡ false → signed_decimal z ++ x ≡ c ∷ y → ⊥
not_numeric_is z x y c small fails e = first_passes numeric (signed_decimal z) x y c (signed_pass z small) fails (signed_nonempty z small) e

int_cut : (z u : ℤ) (x y : List ℕ) → mag z < 2 ^ 63 → mag u < 2 ^ 63 → Ends x → Ends y → signed_decimal z ++ x ≡ signed_decimal u ++ y → (z ≡ u) × (x ≡ y)
int_cut z u x y pv pw ex ey e =
    let r = cut numeric (signed_decimal z) (signed_decimal u) x y (signed_pass z pv) (signed_pass u pw) (ends_stop numeric refl x ex) (ends_stop numeric refl y ey) e in
    (signed_decimal_injective z u pv pw r.0, r.1)

str_cut : (t u x y : List ℕ) → Ends x → Ends y → (39 ∷ quotes_twice t ++ 39 ∷ []) ++ x ≡ (39 ∷ quotes_twice u ++ 39 ∷ []) ++ y → (t ≡ u) × (x ≡ y)
str_cut t u x y ex ey e =
    let f : 39 ∷ (quotes_twice t ++ 39 ∷ x) ≡ 39 ∷ (quotes_twice u ++ 39 ∷ y) = sym (regroup t x) ∙ e ∙ regroup u y in
    doubled_cut t u x y ex ey cc

int_null : (z : ℤ) (x y : List ℕ) → mag z < 2 ^ 63 → signed_decimal z ++ x ≡ codes "NULL" ++ y → ⊥
int_null z x y small e = not_numeric_is z x (85 ∷ 76 ∷ 76 ∷ y) 78 small refl e

int_str : (z : ℤ) (t x y : List ℕ) → mag z < 2 ^ 63 → signed_decimal z ++ x ≡ (39 ∷ quotes_twice t ++ 39 ∷ []) ++ y → ⊥
int_str z t x y small e = not_numeric_is z x ((quotes_twice t ++ 39 ∷ []) ++ y) 39 small refl e

null_str : (t x y : List ℕ) → codes "NULL" ++ x ≡ (39 ∷ quotes_twice t ++ 39 ∷ []) ++ y → ⊥
null_str t x y e = cc

null_null : (x y : List ℕ) → codes "NULL" ++ x ≡ codes "NULL" ++ y → x ≡ y
null_null x y e = cc

pub value_cut : (v w : Value) (x y : List ℕ) → IsPlainValue v → IsPlainValue w → Ends x → Ends y → value_text v ++ x ≡ value_text w ++ y → (v ≡ w) × (x ≡ y)
value_cut Null Null x y pv pw ex ey e = (refl, null_null x y e)
value_cut Null (Int z) x y pv pw ex ey e = absurd (int_null z y x pw (sym e))
value_cut Null (Str t) x y pv pw ex ey e = absurd (null_str t x y e)
value_cut (Int z) Null x y pv pw ex ey e = absurd (int_null z x y pv e)
value_cut (Int z) (Int u) x y pv pw ex ey e = let r = int_cut z u x y pv pw ex ey e in (ap (λ (i : ℤ). Int i) r.0, r.1)
value_cut (Int z) (Str t) x y pv pw ex ey e = absurd (int_str z t x y pv e)
value_cut (Str t) Null x y pv pw ex ey e = absurd (null_str t y x (sym e))
value_cut (Str t) (Int z) x y pv pw ex ey e = absurd (int_str z t y x pw (sym e))
value_cut (Str t) (Str u) x y pv pw ex ey e = let r = str_cut t u x y ex ey e in (ap (λ (b : List ℕ). Str b) r.0, r.1)

value_nonempty : (v : Value) → IsPlainValue v → 0 < length (value_text v)
value_nonempty Null pv = omega arith
value_nonempty (Int z) pv = signed_nonempty z pv
value_nonempty (Str t) pv = omega arith

not_empty : (a x : List ℕ) → 0 < length a → [] ≡ a ++ x → ⊥
not_empty [] x some e = omega arith
not_empty (c ∷ a) x some e = cc

pub more_same : (vs ws : List Value) → AllByRecursion IsPlainValue vs → AllByRecursion IsPlainValue ws → more_text vs ≡ more_text ws → vs ≡ ws
more_same [] [] pv pw e = refl
more_same [] (w ∷ ws) pv pw e = cc
more_same (v ∷ vs) [] pv pw e = cc
more_same (v ∷ vs) (w ∷ ws) pv pw e =
    let f : value_text v ++ more_text vs ≡ value_text w ++ more_text ws = cc in
    let r = value_cut v w (more_text vs) (more_text ws) pv.0 pw.0 (more_ends vs) (more_ends ws) f in
    let first : v ≡ w = r.0 in
    let others : vs ≡ ws = more_same vs ws pv.1 pw.1 r.1 in
    cc

pub values_same : (vs ws : List Value) → AllByRecursion IsPlainValue vs → AllByRecursion IsPlainValue ws → values_text vs ≡ values_text ws → vs ≡ ws
values_same [] [] pv pw e = refl
values_same [] (w ∷ ws) pv pw e = absurd (not_empty (value_text w) (more_text ws) (value_nonempty w pw.0) e)
values_same (v ∷ vs) [] pv pw e = absurd (not_empty (value_text v) (more_text vs) (value_nonempty v pv.0) (sym e))
values_same (v ∷ vs) (w ∷ ws) pv pw e =
    let r = value_cut v w (more_text vs) (more_text ws) pv.0 pw.0 (more_ends vs) (more_ends ws) e in
    let first : v ≡ w = r.0 in
    let others : vs ≡ ws = more_same vs ws pv.1 pw.1 r.1 in
    cc

-- what the digits of a number are worth
pub value_back : (n : ℕ) → n < 2 ^ 64 → digits_value 10 (decimal n) ≡ n
value_back n small = (decimal_is_IsNumeral n small).1
