-- The texts of entries that follow a script are the script's, so they are as short.
use Rattle.std.proofs.Common.{ℕ, ◌+◌, ◌≤◌, List, [], ◌∷◌, ◌++◌, inl, inr, refl, sym, subst, length, eqb}
use Rattle.std.proofs.lemmas.Bool.{cases_Bool}
use Rattle.std.specs.List.{AllByRecursion}
use Rattle.rv_value.proofs.Lists.{from_all}
use Rattle.rv_script.specs.declared.scripts.Line.{Line}
use Rattle.rv_script.specs.declared.scripts.Phase.{Phase}
use Rattle.rv_script.specs.declared.scripts.Script.{Script}
use Rattle.rv_gen.specs.Workload.{IsCall}
use Rattle.rv_run.specs.Making.{FitsPhase, FitsScript}
use Rattle.rv_model.specs.declared.entry.Entry.{Entry}
use Rattle.rv_audit.specs.declared.calls.Call.{Call}
use Rattle.rv_audit.specs.Calls.{calls_by, calls_from, calls_in}
use Rattle.rv_audit.specs.Places.{AreNoLonger, AreSessions}
use Rattle.rv_audit.proofs.Making.{made, made_here, Made}

abbrev pub AreShort : ℕ → List Call → Type 0
AreShort most calls = AllByRecursion (λ (c : Call). length c.text ≤ most) calls

-- The calls of a script.

short_append : (most : ℕ) (xs ys : List Call) → AreShort most xs → AreShort most ys → AreShort most (xs ++ ys)
short_append most [] ys h k = k
short_append most (x ∷ xs) ys h k = (h.0, short_append most xs ys h.1 k)

lines_short : (n : ℕ) (lines : List Line) → AllByRecursion IsCall lines → AreShort 4096 (calls_in n lines)
lines_short n [] h = tt
lines_short n (l ∷ ls) h = (h.0.short, lines_short n ls h.1)

phases_short : (n : ℕ) (phases : List Phase) → AllByRecursion FitsPhase phases → AreShort 4096 (calls_from n phases)
phases_short n [] h = tt
phases_short n (p ∷ ps) h = short_append 4096 (calls_in n p.lines) (calls_from (n + 1) ps) (lines_short n p.lines (from_all IsCall p.lines h.0.calls)) (phases_short (n + 1) ps h.1)

pub script_short : (script : Script) → FitsScript script → AreShort 4096 (calls_from 1 script.phases)
script_short script fits = phases_short 1 script.phases (from_all FitsPhase script.phases fits.fits)

-- The entries.

short_kept : (most s : ℕ) (xs : List Call) → AreShort most xs → AreShort most (calls_by s xs)
short_kept most s [] h = tt
short_kept most s (x ∷ xs) h = elim (cases_Bool (eqb x.session s)) [
  | inl t ↦ rw t ((h.0, short_kept most s xs h.1))
  | inr f ↦ rw f (short_kept most s xs h.1)
]

short_front : (most : ℕ) (xs ys : List Call) → AreShort most (xs ++ ys) → AreShort most xs
short_front most [] ys h = tt
short_front most (x ∷ xs) ys h = (h.0, short_front most xs ys h.1)

short_tail : (most s : ℕ) (e : Entry) (es : List Entry) → AreShort most (made s (e ∷ es)) → AreShort most (made s es)
short_tail most s e es h = elim (cases_Bool (eqb e.session s)) [
  | inl t ↦ (rw t at h).1
  | inr f ↦ rw f at h
]

entries_short : (most : ℕ) (es : List Entry) → AreSessions es → ((s : ℕ) → 1 ≤ s → s ≤ 8 → AreShort most (made s es)) → AllByRecursion (λ (e : Entry). length e.text ≤ most) es
entries_short most [] sessions h = tt
entries_short most (e ∷ es) sessions h =
    let here = subst (AreShort most) (made_here e.session e es refl) (h e.session sessions.0.0 sessions.0.1) in
    (here.0, entries_short most es sessions.1 (λ s from to. short_tail most s e es (h s from to)))

pub no_longer : (phases : List Phase) (history : List Entry) (p : ℕ) (rest : ℕ → List Call) → AreSessions history → Made phases history p rest → AreNoLonger phases history
no_longer phases history p rest sessions m = λ most short. entries_short most history sessions (λ s from to. short_front most (made s history) (rest s) (subst (AreShort most) (sym (m.whole s from to)) (short_kept most s (calls_from 1 phases) short)))
