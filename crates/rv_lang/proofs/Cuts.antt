-- The tokens of a text: what the lexer's loop has read, that a text has one cut, and the cut as a function.
use Rattle.std.proofs.Common.{◌≡◌, ℕ, zero, suc, ◌+◌, ◌<◌, ◌≤◌, List, [], ◌∷◌, ◌++◌, Option, Some, None, length, refl, sym, ap, ◌∙◌, arith, subst, true, ◌==◌}
use Rattle.std.specs.Prelude.{IfSome}
use Rattle.std.proofs.lemmas.Bool.{eqb-true}
use Rattle.std.proofs.lemmas.Option.{same_Some}
use Rattle.rv_lang.specs.declared.token.Token.{Token}
use Rattle.rv_lang.specs.Tokens.{is_blank, past, IsLongest, Cuts, NoToken, IsCutTo}
use Rattle.rv_lang.specs.Lexing.{token_at, with_first, tokens_then, tokens_within, tokens_of}
use Rattle.rv_lang.proofs.Runs.{past_le}
use Rattle.rv_lang.proofs.Longest.{Begins, token_is, token_shorter, longest_of, none_of, read_longest}

-- one token more
pub cuts_more : (bytes : List ℕ) (ts : List Token) (rest : List ℕ) (t : Token) (after : List ℕ) → Cuts bytes ts rest → token_at rest ≡ Some (t, after) → Cuts bytes (ts ++ t ∷ []) (past is_blank after)
cuts_more bytes [] rest t after h e = (after, longest_of (past is_blank bytes) t after (ap token_at h ∙ e), refl)
cuts_more bytes (u ∷ ts) rest t after h e = (h.0, h.1, cuts_more h.0 ts rest t after h.2 e)

pub past_blank_le : (bs : List ℕ) → length (past is_blank bs) ≤ length bs
past_blank_le bs = past_le is_blank bs

-- where nothing more is cut
pub cut_to : (text : List ℕ) (ts : List Token) (rest : List ℕ) (offset : ℕ) → Cuts text ts rest → token_at rest ≡ None → 0 < length rest → offset + length rest ≡ length text → IsCutTo text offset
cut_to text ts rest offset h e lt sum = (ts, rest, h, (lt, none_of rest e), sum)

-- ---- one cut

-- no longest token stands in front
abbrev pub Ended : List ℕ → Type 0
Ended rest = (t : Token) (after : List ℕ) → IsLongest rest t after → ⊥

pub ended_nil : Ended []
unfolding token_at
ended_nil t after l = let e = read_longest [] t after l in absurd cc

pub ended_here : (rest : List ℕ) → NoToken rest → Ended rest
ended_here rest h t after l = h.1 l.front t after l.whole l.is

one_longest : (bytes : List ℕ) (t u : Token) (r s : List ℕ) → IsLongest bytes t r → IsLongest bytes u s → (t ≡ u) × (r ≡ s)
one_longest bytes t u r s l m =
    let e = same_Some (t, r) (u, s) (sym (read_longest bytes t r l) ∙ read_longest bytes u s m) in
    (ap (λ (x : Token × List ℕ). x.0) e, ap (λ (x : Token × List ℕ). x.1) e)

pub cut_once : (bytes : List ℕ) (ts us : List Token) (r s : List ℕ) → Cuts bytes ts r → Ended r → Cuts bytes us s → Ended s → (ts ≡ us) × (r ≡ s)
cut_once bytes [] [] r s h x k y = (refl, sym h ∙ k)
cut_once bytes [] (u ∷ us) r s h x k y = absurd (x u k.0 (subst (λ (bs : List ℕ). IsLongest bs u k.0) h k.1))
cut_once bytes (t ∷ ts) [] r s h x k y = absurd (y t h.0 (subst (λ (bs : List ℕ). IsLongest bs t h.0) k h.1))
cut_once bytes (t ∷ ts) (u ∷ us) r s h x k y =
    let one = one_longest (past is_blank bytes) t u h.0 k.0 h.1 k.1 in
    let e : h.0 ≡ k.0 = one.1 in
    let more = cut_once k.0 ts us r s (subst (λ (bs : List ℕ). Cuts bs ts r) e h.2) x k.2 y in
    let f : t ≡ u = one.0 in let g : ts ≡ us = more.0 in (rw (f, g) refl, more.1)

-- ---- the cut as a function

with_first_is : (t : Token) (o : Option (List Token)) (ts : List Token) → with_first t o ≡ Some ts → (us : List Token) × (o ≡ Some us) × (t ∷ us ≡ ts)
with_first_is t (Some us) ts e = (us, refl, cc)
with_first_is t None ts e = absurd cc

cuts_then : (bytes : List ℕ) (ts : List Token) (more : List ℕ → Option (List Token)) (o : Option (Token × List ℕ)) → token_at (past is_blank bytes) ≡ o → tokens_then o more ≡ Some ts
    → ((after : List ℕ) (us : List Token) → more (past is_blank after) ≡ Some us → Cuts after us []) → Cuts bytes ts []
cuts_then bytes ts more None p e cut = absurd cc
cuts_then bytes ts more (Some x) p e cut =
    let w = with_first_is x.0 (more (past is_blank x.1)) ts e in
    subst (λ (us : List Token). Cuts bytes us []) w.2 (x.1, longest_of (past is_blank bytes) x.0 x.1 p, cut x.1 w.0 w.1)

cuts_within : (n : ℕ) (bytes front : List ℕ) (ts : List Token) → past is_blank bytes ≡ front → tokens_within n front ≡ Some ts → Cuts bytes ts []
cuts_within zero bytes [] ts p e = let f : [] ≡ ts = cc in subst (λ (us : List Token). Cuts bytes us []) f p
cuts_within (suc n) bytes [] ts p e = let f : [] ≡ ts = cc in subst (λ (us : List Token). Cuts bytes us []) f p
cuts_within zero bytes (b ∷ bs) ts p e = absurd cc
cuts_within (suc n) bytes (b ∷ bs) ts p e = cuts_then bytes ts (λ rest. tokens_within n rest) (token_at (b ∷ bs)) (ap token_at p) e (λ after us h. cuts_within n after (past is_blank after) us refl h)

within_nil : (n : ℕ) → tokens_within n [] ≡ Some []
within_nil zero = refl
within_nil (suc n) = refl

within_more : (n : ℕ) (front : List ℕ) (t : Token) (rest : List ℕ) → token_at front ≡ Some (t, rest) → tokens_within (suc n) front ≡ with_first t (tokens_within n (past is_blank rest))
unfolding token_at
within_more n [] t rest e = absurd cc
within_more n (b ∷ bs) t rest e = ap (λ (o : Option (Token × List ℕ)). tokens_then o (λ (r : List ℕ). tokens_within n r)) e

within_out : (front : List ℕ) (t : Token) (rest : List ℕ) → token_at front ≡ Some (t, rest) → tokens_within zero front ≡ None
unfolding token_at
within_out [] t rest e = absurd cc
within_out (b ∷ bs) t rest e = refl

within_stuck : (n : ℕ) (rest : List ℕ) → token_at rest ≡ None → 0 < length rest → tokens_within n rest ≡ None
within_stuck n [] e lt = absurd (omega arith)
within_stuck zero (b ∷ bs) e lt = refl
within_stuck (suc n) (b ∷ bs) e lt = ap (λ (o : Option (Token × List ℕ)). tokens_then o (λ (r : List ℕ). tokens_within n r)) e

within_cut : (n : ℕ) (bytes : List ℕ) (ts : List Token) → Cuts bytes ts [] → length (past is_blank bytes) ≤ n → tokens_within n (past is_blank bytes) ≡ Some ts
within_cut n bytes [] h le = rw h (within_nil n)
within_cut zero bytes (t ∷ ts) h le = absurd (omega (arith, token_shorter (past is_blank bytes) t h.0 (read_longest (past is_blank bytes) t h.0 h.1)))
within_cut (suc n) bytes (t ∷ ts) h le =
    let e = read_longest (past is_blank bytes) t h.0 h.1 in
    let more : tokens_within n (past is_blank h.0) ≡ Some ts = within_cut n h.0 ts h.2 (omega (arith, past_blank_le h.0, token_shorter (past is_blank bytes) t h.0 e)) in
    within_more n (past is_blank bytes) t h.0 e ∙ ap (with_first t) more

within_none : (n : ℕ) (bytes : List ℕ) (ts : List Token) (rest : List ℕ) → Cuts bytes ts rest → token_at rest ≡ None → 0 < length rest → tokens_within n (past is_blank bytes) ≡ None
within_none n bytes [] rest h e lt = rw h (within_stuck n rest e lt)
within_none zero bytes (t ∷ ts) rest h e lt = within_out (past is_blank bytes) t h.0 (read_longest (past is_blank bytes) t h.0 h.1)
within_none (suc n) bytes (t ∷ ts) rest h e lt = within_more n (past is_blank bytes) t h.0 (read_longest (past is_blank bytes) t h.0 h.1) ∙ ap (with_first t) (within_none n h.0 ts rest h.2 e lt)

-- the function gives what the definition says
pub cuts_of : (text : List ℕ) (ts : List Token) → tokens_of text ≡ Some ts → Cuts text ts []
unfolding tokens_of
cuts_of text ts e = cuts_within (length text) text (past is_blank text) ts refl e

pub of_cuts : (text : List ℕ) (ts : List Token) → Cuts text ts [] → tokens_of text ≡ Some ts
unfolding tokens_of
of_cuts text ts h = within_cut (length text) text ts h (past_blank_le text)

-- where nothing is left, all is read
pub all_cut : (text : List ℕ) (ts : List Token) (rest : List ℕ) → Cuts text ts rest → (length rest == 0) ≡ true → tokens_of text ≡ Some ts
all_cut text ts [] h e = of_cuts text ts h
all_cut text ts (b ∷ bs) h e = absurd (omega (arith, eqb-true (length (b ∷ bs)) 0 e))

none_read : (rest : List ℕ) (o : Option (Token × List ℕ)) → IfSome o (Begins rest) → NoToken rest → o ≡ None
none_read rest (Some x) b h = absurd (h.1 b.0 x.0 x.1 b.1 b.2)
none_read rest None b h = refl

pub of_cut_to : (text : List ℕ) (offset : ℕ) → IsCutTo text offset → tokens_of text ≡ None
unfolding tokens_of
of_cut_to text offset h = within_none (length text) text h.0 h.1 h.2 (none_read h.1 (token_at h.1) (token_is h.1) h.3) h.3.0

pub one_offset : (text : List ℕ) (m n : ℕ) → IsCutTo text m → IsCutTo text n → m ≡ n
one_offset text m n h k =
    let e = cut_once text h.0 k.0 h.1 k.1 h.2 (ended_here h.1 h.3) k.2 (ended_here k.1 k.3) in
    omega (arith, ap length e.1, h.4, k.4)
