-- Texts: what is read is spelled so, and what is spelled is read, or a longer one.
use Rattle.std.proofs.Common.{◌≡◌, ℕ, ◌≤◌, List, [], ◌∷◌, ◌++◌, Option, Some, None, true, false, nat_eq, length, refl, ap, arith, length-append}
use Rattle.std.specs.Prelude.{IfSome}
use Rattle.std.specs.List.{list_all}
use Rattle.std.proofs.lemmas.Bool.{eqb-true, and_parts}
use Rattle.rv_lang.specs.Tokens.{is_text_byte, quotes_twice}
use Rattle.rv_lang.specs.Lexing.{push_front, or_here, text_body}
use Rattle.rv_lang.proofs.Runs.{by}

-- what a text's reading gives is a spelling of it
pub record IsText (bs : List ℕ) (x : List ℕ × List ℕ) : Type 0 where
  pub plain : list_all is_text_byte x.0 ≡ true
  pub spelled : bs ≡ quotes_twice x.0 ++ 39 ∷ x.1

here_is : (o : Option (List ℕ × List ℕ)) (bs : List ℕ) → IfSome o (IsText bs) → IfSome (or_here o (39 ∷ bs)) (IsText (39 ∷ 39 ∷ bs))
here_is (Some x) bs h = record { plain = h.plain; spelled = ap (λ (xs : List ℕ). 39 ∷ 39 ∷ xs) h.spelled }
here_is None bs h = record { plain = refl; spelled = refl }

push_is : (b : ℕ) (o : Option (List ℕ × List ℕ)) (bs : List ℕ) → nat_eq b 39 ≡ false → is_text_byte b ≡ true → IfSome o (IsText bs) → IfSome (push_front b o) (IsText (b ∷ bs))
push_is b (Some x) bs e f h = record { plain = rw f h.plain; spelled = rw e (ap (λ (xs : List ℕ). b ∷ xs) h.spelled) }
push_is b None bs e f h = tt

pub text_is : (bs : List ℕ) → IfSome (text_body bs) (IsText bs)
text_is [] = tt
text_is (b ∷ []) = by (nat_eq b 39) (λ e. rw e (record { plain = refl; spelled = ap (λ (n : ℕ). n ∷ []) (eqb-true b 39 e) })) (λ e. rw e tt)
text_is (b ∷ c ∷ bs) = by (nat_eq b 39)
    (λ e. by (nat_eq c 39)
    (λ f. rw (e, f, eqb-true b 39 e, eqb-true c 39 f) (here_is (text_body bs) bs (text_is bs)))
    (λ f. rw (e, f) (record { plain = refl; spelled = ap (λ (n : ℕ). n ∷ c ∷ bs) (eqb-true b 39 e) })))
    (λ e. by (is_text_byte b) (λ f. rw (e, f) (push_is b (text_body (c ∷ bs)) (c ∷ bs) e f (text_is (c ∷ bs)))) (λ f. rw (e, f) tt))

-- a text that stands there is read, or a longer one; of this length it is that text
abbrev pub Reaches : Option (List ℕ × List ℕ) → List ℕ → List ℕ → Type 0
Reaches None text rest = ⊥
Reaches (Some x) text rest = (length x.1 ≤ length rest) × (length x.1 ≡ length rest → x.0 ≡ text)

reaches_here : (o : Option (List ℕ × List ℕ)) (bs : List ℕ) → IfSome o (IsText bs) → Reaches (or_here o (39 ∷ bs)) [] (39 ∷ bs)
reaches_here (Some x) bs h = let shorter : length x.1 ≤ length bs = omega (arith, ap length h.spelled, length-append (quotes_twice x.0) (39 ∷ x.1)) in (omega (arith, shorter), λ e. absurd (omega (arith, shorter, e)))
reaches_here None bs h = (omega arith, λ e. refl)

reaches_first : (rest : List ℕ) → Reaches (text_body (39 ∷ rest)) [] rest
reaches_first [] = (omega arith, λ e. refl)
reaches_first (c ∷ bs) = by (nat_eq c 39) (λ f. rw (f, eqb-true c 39 f) (reaches_here (text_body bs) bs (text_is bs))) (λ f. rw f (omega arith, λ e. refl))

reaches_more : (o : Option (List ℕ × List ℕ)) (here text rest : List ℕ) → Reaches o text rest → Reaches (or_here o here) (39 ∷ text) rest
reaches_more (Some x) here text rest h = (h.0, λ e. ap (λ (t : List ℕ). 39 ∷ t) (h.1 e))
reaches_more None here text rest h = absurd h

reaches_push : (b : ℕ) (o : Option (List ℕ × List ℕ)) (text rest : List ℕ) → Reaches o text rest → Reaches (push_front b o) (b ∷ text) rest
reaches_push b (Some x) text rest h = (h.0, λ e. ap (λ (t : List ℕ). b ∷ t) (h.1 e))
reaches_push b None text rest h = absurd h

body_step : (b : ℕ) (bs : List ℕ) → nat_eq b 39 ≡ false → is_text_byte b ≡ true → text_body (b ∷ bs) ≡ push_front b (text_body bs)
body_step b [] e f = rw e refl
body_step b (c ∷ bs) e f = rw (e, f) refl

pub text_reaches : (text rest : List ℕ) → list_all is_text_byte text ≡ true → Reaches (text_body (quotes_twice text ++ 39 ∷ rest)) text rest
text_reaches [] rest h = reaches_first rest
text_reaches (b ∷ text) rest h = let k = and_parts (is_text_byte b) (list_all is_text_byte text) h in
    by (nat_eq b 39)
    (λ e. rw (e, eqb-true b 39 e) (reaches_more (text_body (quotes_twice text ++ 39 ∷ rest)) _ text rest (text_reaches text rest k.1)))
    (λ e. rw (e, body_step b (quotes_twice text ++ 39 ∷ rest) e k.0) (reaches_push b (text_body (quotes_twice text ++ 39 ∷ rest)) text rest (text_reaches text rest k.1)))
