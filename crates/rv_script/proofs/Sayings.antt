-- What is read of a script so far, with one line more.
use Rattle.std.proofs.Common.{◌≡◌, ℕ, ◌+◌, ◌≤◌, List, [], ◌∷◌, ◌++◌, Result, Ok, Err, true, false, refl, sym, ap, ◌∙◌, append_assoc, arith, nat_lt, length, Bool, ◌<◌, get_or, drop, subst}
use Rattle.std.proofs.lemmas.List.{append-nil, at_drop_more, at_drop_all}
use Rattle.std.proofs.lemmas.Bool.Decides.{nat_tests}
use Rattle.rv_script.specs.declared.scripts.Draft.{Draft}
use Rattle.rv_script.specs.declared.scripts.Line.{Line}
use Rattle.rv_script.specs.declared.scripts.Phase.{Phase}
use Rattle.rv_script.specs.declared.scripts.Script.{Script}
use Rattle.rv_script.specs.declared.scripts.ScriptFault.{ScriptFault}
use Rattle.rv_script.specs.declared.scripts.ScriptFault.TheVariants as faults
use Rattle.rv_script.specs.Script.{Saying, Nothing, Call, Next, calls_before, phases_of, saying_before, says_at, sayings_from}
use Rattle.rv_script.specs.Drafts.{added, added_if, drafted, FaultIs}

abbrev as_script : List Phase → Result Script ScriptFault
as_script phases = Ok (record { phases = phases })

abbrev phases_with : List Phase → List Phase → Result Script ScriptFault
phases_with over phases = Ok (record { phases = over ++ phases })

calls_twice : (calls : List Line) (line : Line) (phases : List Phase) → calls_before calls (calls_before (line ∷ []) phases) ≡ calls_before (calls ++ line ∷ []) phases
calls_twice calls line [] = refl
calls_twice calls line (p ∷ phases) = ap (λ (lines : List Line). record { judge = p.judge; lines = lines } ∷ phases) (sym (append_assoc calls (line ∷ []) p.lines))

pub calls_none : (phases : List Phase) → calls_before [] phases ≡ phases
calls_none [] = refl
calls_none (p ∷ phases) = refl

pub drafted_more : (draft : Draft) (saying : Saying) (more : Result (List Saying) ScriptFault) → drafted draft (saying_before (Ok saying) more) ≡ drafted (added draft saying) more
drafted_more draft saying (Err fault) = refl
drafted_more draft Nothing (Ok sayings) = refl
drafted_more draft (Call line) (Ok sayings) = ap (phases_with draft.over) (calls_twice draft.calls line (phases_of draft.judge sayings))
drafted_more draft (Next judge) (Ok sayings) =
    let a : draft.calls ++ [] ≡ draft.calls = append-nil draft.calls in
    ap (λ (calls : List Line). phases_with draft.over (record { judge = draft.judge; lines = calls } ∷ phases_of judge sayings)) a
    ∙ ap as_script (sym (append_assoc draft.over (record { judge = draft.judge; lines = draft.calls } ∷ []) (phases_of judge sayings)) ∙ ap (λ (ps : List Phase). (draft.over ++ record { judge = draft.judge; lines = draft.calls } ∷ []) ++ ps) (sym (calls_none (phases_of judge sayings))))

said_more : (draft more : Draft) (said : Result Saying ScriptFault) (rest : Result (List Saying) ScriptFault) → added_if draft said ≡ Ok more → drafted draft (saying_before said rest) ≡ drafted more rest
said_more draft more (Ok saying) rest e = drafted_more draft saying rest ∙ ap (λ (d : Draft). drafted d rest) (let f : added draft saying ≡ more = cc in f)
said_more draft more (Err fault) rest e = absurd cc

said_fault : (draft : Draft) (said : Result Saying ScriptFault) (rest : Result (List Saying) ScriptFault) (fault : ScriptFault) → FaultIs fault (added_if draft said) → FaultIs fault (drafted draft (saying_before said rest))
said_fault draft said rest faults.NoMemory h = tt
said_fault draft (Ok saying) rest (faults.NoSession line) h = absurd cc
said_fault draft (Ok saying) rest (faults.NotText offset) h = absurd cc
said_fault draft (Ok saying) rest (faults.TooLong line) h = absurd cc
said_fault draft (Ok saying) rest (faults.TooMany lines) h = absurd cc
said_fault draft (Err fault) rest (faults.NoSession line) h = let e : fault ≡ faults.NoSession line = cc in ap (λ (f : ScriptFault). Err f) e
said_fault draft (Err fault) rest (faults.NotText offset) h = let e : fault ≡ faults.NotText offset = cc in ap (λ (f : ScriptFault). Err f) e
said_fault draft (Err fault) rest (faults.TooLong line) h = let e : fault ≡ faults.TooLong line = cc in ap (λ (f : ScriptFault). Err f) e
said_fault draft (Err fault) rest (faults.TooMany lines) h = let e : fault ≡ faults.TooMany lines = cc in ap (λ (f : ScriptFault). Err f) e

-- the lines from a place on, where a line stands in that place
module _ (draft : Draft) (n : ℕ) (all : List (List ℕ)) (i : ℕ) (line : List ℕ) (total : Result Script ScriptFault) (there : (i < length all) × (line ≡ get_or all i line)) (so_far : drafted draft (sayings_from n (drop i all)) ≡ total) where
  here : drafted draft (saying_before (says_at n line) (sayings_from (n + 1) (drop (i + 1) all))) ≡ total
  here = ap (λ (l : List ℕ). drafted draft (saying_before (says_at n l) (sayings_from (n + 1) (drop (i + 1) all)))) there.1
      ∙ sym (at_drop_more (λ (ls : List (List ℕ)). drafted draft (sayings_from n ls)) all i line there.0) ∙ so_far

  pub goes_on : (more : Draft) → added_if draft (says_at n line) ≡ Ok more → drafted more (sayings_from (n + 1) (drop (i + 1) all)) ≡ total
  goes_on more e = sym (said_more draft more (says_at n line) (sayings_from (n + 1) (drop (i + 1) all)) e) ∙ here

  pub fails : (fault : ScriptFault) → FaultIs fault (added_if draft (says_at n line)) → FaultIs fault total
  fails fault h = subst (FaultIs fault) here (said_fault draft (says_at n line) (sayings_from (n + 1) (drop (i + 1) all)) fault h)

pub ends : (draft : Draft) (n : ℕ) (all : List (List ℕ)) (i : ℕ) (total : Result Script ScriptFault) → length all ≤ i → drafted draft (sayings_from n (drop i all)) ≡ total → total ≡ as_script (draft.over ++ record { judge = draft.judge; lines = draft.calls } ∷ [])
ends draft n all i total le so_far =
    sym so_far ∙ at_drop_all (λ (ls : List (List ℕ)). drafted draft (sayings_from n ls)) all i le
    ∙ ap (λ (calls : List Line). phases_with draft.over (record { judge = draft.judge; lines = calls } ∷ [])) (append-nil draft.calls)

few_of : (draft more : Draft) (n : ℕ) (line : List ℕ) (b : Bool) → nat_lt 200000 n ≡ b → added_if draft (says_at n line) ≡ Ok more → nat_lt 200000 n ≡ false
few_of draft more n line true e h = absurd (let k : added_if draft (Err (faults.TooMany 200000)) ≡ Ok more = rw e at h in cc)
few_of draft more n line false e h = e

pub few : (draft more : Draft) (n : ℕ) (line : List ℕ) → added_if draft (says_at n line) ≡ Ok more → n ≤ 200000
few draft more n line h = let e = few_of draft more n line (nat_lt 200000 n) refl h in grind (arith, nat_tests)
