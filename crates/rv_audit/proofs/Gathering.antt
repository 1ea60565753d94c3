-- The calls of a script, gathered phase by phase.
use Rattle.std.proofs.Common.{◌≡◌, ℕ, suc, ◌+◌, ◌<◌, List, [], ◌∷◌, ◌++◌, ap, sym, ◌∙◌, length, take, get_or, arith, append_assoc, append-nil}
use Rattle.std.proofs.lemmas.List.{take_more, length-take-le, map-append}
use Rattle.rv_script.specs.declared.scripts.Line.{Line}
use Rattle.rv_script.specs.declared.scripts.Phase.{Phase}
use Rattle.rv_audit.specs.Calls.{call_in, calls_from, calls_in}

lines_append : (n : ℕ) (us bs : List Line) → calls_in n (us ++ bs) ≡ calls_in n us ++ calls_in n bs
lines_append n us bs = map-append (call_in n) us bs

pub lines_more : (n : ℕ) (lines : List Line) (i : ℕ) (x : Line) → i < length lines → x ≡ get_or lines i x → calls_in n (take (i + 1) lines) ≡ calls_in n (take i lines) ++ call_in n x ∷ []
lines_more n lines i x less is = ap (calls_in n) (take_more lines i x less ∙ (λ j. take i lines ++ sym is j ∷ [])) ∙ lines_append n (take i lines) (x ∷ [])

phases_append : (n : ℕ) (ps : List Phase) (p : Phase) → calls_from n (ps ++ p ∷ []) ≡ calls_from n ps ++ calls_in (n + length ps) p.lines
phases_append n [] p = (let here : n ≡ n + 0 = omega arith in append-nil (calls_in n p.lines) ∙ ap (λ k. calls_in k p.lines) here)
phases_append n (q ∷ qs) p =
    let next : n + 1 + length qs ≡ n + suc (length qs) = omega arith in
    ap (λ cs. calls_in n q.lines ++ cs) (phases_append (n + 1) qs p)
    ∙ sym (append_assoc (calls_in n q.lines) (calls_from (n + 1) qs) (calls_in (n + 1 + length qs) p.lines))
    ∙ ap (λ k. (calls_in n q.lines ++ calls_from (n + 1) qs) ++ calls_in k p.lines) next

pub phases_more : (phases : List Phase) (i : ℕ) (x : Phase) → i < length phases → x ≡ get_or phases i x → calls_from 1 (take (i + 1) phases) ≡ calls_from 1 (take i phases) ++ calls_in (i + 1) x.lines
phases_more phases i x less is =
    let long = length-take-le i phases (omega (arith, less)) in
    let place : 1 + length (take i phases) ≡ i + 1 = omega (arith, long) in
    ap (calls_from 1) (take_more phases i x less ∙ (λ j. take i phases ++ sym is j ∷ [])) ∙ phases_append 1 (take i phases) x ∙ ap (λ k. calls_from 1 (take i phases) ++ calls_in k x.lines) place
