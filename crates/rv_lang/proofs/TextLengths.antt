-- Where a text ends, as the code finds it, and what it says.
use Rattle.std.proofs.Common.{◌≡◌, ℕ, suc, ◌+◌, ◌<◌, List, [], ◌∷◌, Option, Some, None, false, nat_eq, length, refl, ap, ◌∙◌, arith, take, drop, add-one, if◌then◌else◌}
use Rattle.std.specs.Prelude.{IfSome}
use Rattle.std.proofs.lemmas.Bool.{eqb-true}
use Rattle.std.proofs.lemmas.Option.{same_Some}
use Rattle.rv_lang.specs.declared.token.Token.{Token}
use Rattle.rv_lang.specs.declared.token.Token.TheVariants.{Str}
use Rattle.rv_lang.specs.Tokens.{is_text_byte}
use Rattle.rv_lang.specs.Lexing.{push_front, or_here, text_body, text_at, scanned, kept, parts_of, text_cut}
use Rattle.rv_lang.proofs.Runs.{by}

-- the length of a text with its quotes doubled
abbrev pub after_pair : Option ℕ → ℕ
after_pair (Some n) = suc (suc n)
after_pair None = 0

abbrev pub one_more : Option ℕ → Option ℕ
one_more (Some n) = Some (suc n)
one_more None = None

abbrev pub text_len : List ℕ → Option ℕ
text_len [] = None
text_len (b ∷ []) = if nat_eq b 39 then Some 0 else None
text_len (b ∷ c ∷ bs) = if nat_eq b 39 then (if nat_eq c 39 then Some (after_pair (text_len bs)) else Some 0)
    else (if is_text_byte b then one_more (text_len (c ∷ bs)) else None)

-- what was seen before, and what is still seen
abbrev pub joined : Option ℕ → ℕ → Option ℕ → Option ℕ
joined best at (Some n) = Some (at + n)
joined best at None = best

-- the same from the left: the best place so far, and the place now
abbrev pub text_len_after : Option ℕ → ℕ → List ℕ → Option ℕ
text_len_after best at [] = best
text_len_after best at (b ∷ []) = if nat_eq b 39 then Some at else best
text_len_after best at (b ∷ c ∷ bs) = if nat_eq b 39 then (if nat_eq c 39 then text_len_after (Some at) (at + 2) bs else Some at)
    else (if is_text_byte b then text_len_after best (at + 1) (c ∷ bs) else best)

-- a text of that length
abbrev pub with_len : List ℕ → Option ℕ → Option (List ℕ × List ℕ)
with_len bs (Some n) = Some (kept false (take n bs), drop (suc n) bs)
with_len bs None = None

joined_pair : (best : Option ℕ) (at : ℕ) (o : Option ℕ) → joined (Some at) (at + 2) o ≡ Some (at + after_pair o)
joined_pair best at (Some n) = ap (λ (k : ℕ). Some k) (omega arith)
joined_pair best at None = ap (λ (k : ℕ). Some k) (omega arith)

joined_more : (best : Option ℕ) (at : ℕ) (o : Option ℕ) → joined best (at + 1) o ≡ joined best at (one_more o)
joined_more best at (Some n) = ap (λ (k : ℕ). Some k) (omega arith)
joined_more best at None = refl

at_zero : (at : ℕ) → Some at ≡ Some (at + 0)
at_zero at = ap (λ (k : ℕ). Some k) (omega arith)

pub len_after : (best : Option ℕ) (at : ℕ) (bs : List ℕ) → text_len_after best at bs ≡ joined best at (text_len bs)
len_after best at [] = refl
len_after best at (b ∷ []) = by (nat_eq b 39) (λ e. rw e (at_zero at)) (λ e. rw e refl)
len_after best at (b ∷ c ∷ bs) = by (nat_eq b 39)
    (λ e. by (nat_eq c 39) (λ f. rw (e, f) (len_after (Some at) (at + 2) bs ∙ joined_pair best at (text_len bs))) (λ f. rw (e, f) (at_zero at)))
    (λ e. by (is_text_byte b) (λ f. rw (e, f) (len_after best (at + 1) (c ∷ bs) ∙ joined_more best at (text_len (c ∷ bs)))) (λ f. rw (e, f) refl))

pair_len : (bs : List ℕ) (o : Option ℕ) → or_here (with_len bs o) (39 ∷ bs) ≡ with_len (39 ∷ 39 ∷ bs) (Some (after_pair o))
pair_len bs (Some n) = refl
pair_len bs None = refl

plain_len : (b : ℕ) (bs : List ℕ) (o : Option ℕ) → nat_eq b 39 ≡ false → push_front b (with_len bs o) ≡ with_len (b ∷ bs) (one_more o)
plain_len b bs (Some n) e = rw e refl
plain_len b bs None e = refl

pub body_len : (bs : List ℕ) → text_body bs ≡ with_len bs (text_len bs)
body_len [] = refl
body_len (b ∷ []) = by (nat_eq b 39) (λ e. rw e refl) (λ e. rw e refl)
body_len (b ∷ c ∷ bs) = by (nat_eq b 39)
    (λ e. by (nat_eq c 39) (λ f. rw (e, f, eqb-true b 39 e, eqb-true c 39 f, body_len bs) (pair_len bs (text_len bs))) (λ f. rw (e, f) refl))
    (λ e. by (is_text_byte b) (λ f. rw (e, f, body_len (c ∷ bs)) (plain_len b (c ∷ bs) (text_len (c ∷ bs)) e)) (λ f. rw (e, f) refl))

scanned_is : (best : Option ℕ) (at : ℕ) (bs : List ℕ) → scanned best at false bs ≡ text_len_after best at bs
scanned_is best at [] = refl
scanned_is best at (b ∷ []) = by (nat_eq b 39) (λ e. rw e refl) (λ e. by (is_text_byte b) (λ f. rw (e, f) refl) (λ f. rw (e, f) refl))
scanned_is best at (b ∷ c ∷ bs) = by (nat_eq b 39)
    (λ e. by (nat_eq c 39) (λ f. rw (e, f) (scanned_is (Some at) (at + 2) bs)) (λ f. rw (e, f) refl))
    (λ e. by (is_text_byte b) (λ f. rw (e, f) (scanned_is best (at + 1) (c ∷ bs))) (λ f. rw (e, f) refl))

joined_start : (o : Option ℕ) → joined None 0 o ≡ o
joined_start (Some n) = ap (λ (k : ℕ). Some k) (omega arith)
joined_start None = refl

-- what the code's two loops give is the reading of a text
pub body_scanned : (bs : List ℕ) → text_body bs ≡ with_len bs (scanned None 0 false bs)
body_scanned bs = rw (scanned_is None 0 bs, len_after None 0 bs, joined_start (text_len bs)) (body_len bs)

pair_fits : (bs : List ℕ) (o : Option ℕ) → IfSome o (λ n. n < length bs) → after_pair o < suc (suc (length bs))
pair_fits bs (Some n) h = omega arith
pair_fits bs None h = omega arith

more_fits : (bs : List ℕ) (o : Option ℕ) → IfSome o (λ n. n < length bs) → IfSome (one_more o) (λ n. n < suc (length bs))
more_fits bs (Some n) h = omega arith
more_fits bs None h = tt

text_len_fits : (bs : List ℕ) → IfSome (text_len bs) (λ n. n < length bs)
text_len_fits [] = tt
text_len_fits (b ∷ []) = by (nat_eq b 39) (λ e. rw e (omega arith)) (λ e. rw e tt)
text_len_fits (b ∷ c ∷ bs) = by (nat_eq b 39)
    (λ e. by (nat_eq c 39) (λ f. rw (e, f) (pair_fits bs (text_len bs) (text_len_fits bs))) (λ f. rw (e, f) (omega arith)))
    (λ e. by (is_text_byte b) (λ f. rw (e, f) (more_fits (c ∷ bs) (text_len (c ∷ bs)) (text_len_fits (c ∷ bs)))) (λ f. rw (e, f) tt))

pub len_fits : (bs : List ℕ) → IfSome (scanned None 0 false bs) (λ n. n < length bs)
len_fits bs = rw (scanned_is None 0 bs, len_after None 0 bs, joined_start (text_len bs)) (text_len_fits bs)

-- ---- a text as the code reads it

cut_none_of : (bs : List ℕ) (o : Option ℕ) → parts_of bs o ≡ None → with_len bs o ≡ None
cut_none_of bs (Some n) e = absurd cc
cut_none_of bs None e = refl

pub cut_some_of : (bs : List ℕ) (o : Option ℕ) (front rest : List ℕ) → parts_of bs o ≡ Some (front, rest) → with_len bs o ≡ Some (kept false front, rest)
cut_some_of bs (Some n) front rest e =
    let p = same_Some (take n bs, drop (n + 1) bs) (front, rest) e in
    let a : take n bs ≡ front = ap (λ (x : List ℕ × List ℕ). x.0) p in
    let b : drop (n + 1) bs ≡ rest = ap (λ (x : List ℕ × List ℕ). x.1) p in
    rw (← a, ← b, add-one) refl
cut_some_of bs None front rest e = absurd cc

abbrev as_token : Option (List ℕ × List ℕ) → Option (Token × List ℕ)
as_token o = elim o [ Some x ↦ Some (Str x.0, x.1) | None ↦ None ]

pub text_none : (bs : List ℕ) → text_cut bs ≡ None → text_at bs ≡ None
text_none bs e = let h : text_body bs ≡ None = body_scanned bs ∙ cut_none_of bs (scanned None 0 false bs) e in ap as_token h

pub text_some : (bs front rest : List ℕ) → text_cut bs ≡ Some (front, rest) → text_at bs ≡ Some (Str (kept false front), rest)
text_some bs front rest e = let h : text_body bs ≡ Some (kept false front, rest) = body_scanned bs ∙ cut_some_of bs (scanned None 0 false bs) front rest e in ap as_token h
