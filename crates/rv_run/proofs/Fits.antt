-- A script that was read has few phases, and lines that calls may have.
use Rattle.std.proofs.Common.{◌≡◌, ℕ, ◌+◌, ◌-◌, ◌*◌, ◌++◌, ap, ◌∙◌, codes, flat_map, length-append, ◌<◌, ◌≤◌, ◌==◌, ◌&&◌, List, [], ◌∷◌, refl, sym, subst, arith, true, inl, inr, length, nat_lt, nat_le, nat_eq, Option, Some, None, Result, Ok, Err, IfSome}
use Rattle.std.proofs.lemmas.Bool.{cases_Bool, and_parts, ltb-false}
use Rattle.std.proofs.lemmas.Bool.Decides.{nat_tests}
use Rattle.std.specs.List.{AllByRecursion}
use Rattle.std.specs.Str.Lines.{lines}
use Rattle.std.specs.Str.Lossy.{utf8_valid_len}
use Rattle.std.proofs.lemmas.List.Elements.{All-from_recursion, recursion_from_All}
use Rattle.rv_script.specs.declared.scripts.Line.{Line}
use Rattle.rv_script.specs.declared.scripts.Phase.{Phase}
use Rattle.rv_script.specs.declared.scripts.Script.{Script}
use Rattle.rv_script.specs.declared.scripts.ScriptFault.{ScriptFault}
use Rattle.rv_script.specs.Script.{Saying, Nothing, Call, Next, mark_of, call_of, mark_or_call, says, or_no_session, says_at, saying_before, sayings_from, calls_before, phases_of, without_byte_order_mark, script_said, script_of}
use Rattle.std.specs.List.{range_with_len}
use Rattle.std.proofs.lemmas.List.FromFn.{length-map-range_with_len, length-range_with_len}
use Rattle.rv_gen.specs.Draws.{state_after}
use Rattle.rv_gen.specs.Workload.{HasCalls, IsCall, IsRunnable, inserts, line as line_of, openings_of, readers, round, rounds, tables, workload, workload_of}
use Rattle.rv_run.specs.Making.{FitsPhase, FitsSaying, FitsScript}

at_least : (s : ℕ) → nat_le 49 s ≡ true → 1 ≤ s - 48
at_least s h = grind (arith, nat_tests)

at_most : (s : ℕ) → nat_le s 56 ≡ true → s - 48 ≤ 8
at_most s h = grind (arith, nat_tests)

call_fits : (s b : ℕ) (text : List ℕ) → length (s ∷ b ∷ text) ≤ 4096 → IfSome (call_of (s ∷ b ∷ text)) FitsSaying
call_fits s b text short = elim (cases_Bool (nat_eq b 32 && (nat_le 49 s && nat_le s 56))) [
  | inl t ↦
      let digit = and_parts (nat_le 49 s) (nat_le s 56) (and_parts (nat_eq b 32) (nat_le 49 s && nat_le s 56) t).1 in
      rw t (record { from = at_least s digit.0; to = at_most s digit.1; short = omega arith })
  | inr f ↦ rw f tt
]

known : (j : ℕ) → nat_le 48 j ≡ true → nat_le j 50 ≡ true → j - 48 < 3
known j low high = grind (arith, nat_tests)

mark_fits : (bytes : List ℕ) → IfSome (mark_of bytes) FitsSaying
mark_fits [] = tt
mark_fits (b ∷ []) = tt
mark_fits (b ∷ j ∷ []) = elim (cases_Bool (nat_eq b 32 && (nat_le 48 j && nat_le j 50))) [
  | inl t ↦
      let digit = and_parts (nat_le 48 j) (nat_le j 50) (and_parts (nat_eq b 32) (nat_le 48 j && nat_le j 50) t).1 in
      rw t (known j digit.0 digit.1)
  | inr f ↦ rw f tt
]
mark_fits (b ∷ j ∷ k ∷ more) = tt

two_fits : (bytes : List ℕ) → length bytes ≤ 4096 → IfSome (mark_or_call bytes) FitsSaying
two_fits [] short = tt
two_fits (a ∷ []) short = tt
two_fits (a ∷ b ∷ more) short = elim (cases_Bool (nat_eq a 45 && nat_eq b 45)) [
  | inl t ↦ rw t (mark_fits more)
  | inr f ↦ rw f (call_fits a b more short)
]

says_fits : (bytes : List ℕ) → length bytes ≤ 4096 → IfSome (says bytes) FitsSaying
says_fits [] short = tt
says_fits (b ∷ bs) short = elim (cases_Bool (nat_eq b 35)) [
  | inl t ↦ rw t tt
  | inr f ↦ rw f (two_fits (b ∷ bs) short)
]

listed_fits : (n : ℕ) (o : Option Saying) (saying : Saying) → IfSome o FitsSaying → or_no_session n o ≡ Ok saying → FitsSaying saying
listed_fits n None saying fits e = cc
listed_fits n (Some s) saying fits e = let same : s ≡ saying = cc in subst FitsSaying same fits

pub line_fits : (n : ℕ) (line : List ℕ) (saying : Saying) → says_at n line ≡ Ok saying → FitsSaying saying × (n ≤ 200000)
line_fits n line saying e = elim (cases_Bool (nat_lt 200000 n)) [
  | inl t ↦ let wrong = rw t at e in cc
  | inr f ↦ elim (cases_Bool (nat_lt 4096 (length line))) [
    | inl t ↦ let wrong = rw (f, t) at e in cc
    | inr g ↦ let said = rw (f, g) at e in (listed_fits n (says line) saying (says_fits line (ltb-false 4096 (length line) g)) said, ltb-false 200000 n f)
  ]
]

-- the first saying, and those that follow
record Splits (first : Result Saying ScriptFault) (more : Result (List Saying) ScriptFault) (all : List Saying) : Type 0 where
  saying : Saying
  rest : List Saying
  is_first : first ≡ Ok saying
  is_more : more ≡ Ok rest
  is_all : all ≡ saying ∷ rest

splits : (first : Result Saying ScriptFault) (more : Result (List Saying) ScriptFault) (all : List Saying) → saying_before first more ≡ Ok all → Splits first more all
splits (Err f) more all e = cc
splits (Ok s) (Err f) all e = cc
splits (Ok s) (Ok rest) all e = record { saying = s; rest = rest; is_first = refl; is_more = refl; is_all = cc }

record FitSayings (n : ℕ) (all : List Saying) : Type 0 where
  fits : AllByRecursion FitsSaying all
  few : length all + n ≤ 200001

sayings_fit : (n : ℕ) (ls : List (List ℕ)) (all : List Saying) → n ≤ 200001 → sayings_from n ls ≡ Ok all → FitSayings n all
sayings_fit n [] [] small e = record { fits = tt; few = omega arith }
sayings_fit n [] (s ∷ more) small e = cc
sayings_fit n (line ∷ ls) all small e =
    let parts = splits (says_at n line) (sayings_from (n + 1) ls) all e in
    let one = line_fits n line parts.saying parts.is_first in
    let least : n ≤ 200000 = one.1 in
    let rest = sayings_fit (n + 1) ls parts.rest (omega arith) parts.is_more in
    subst (FitSayings n) (sym parts.is_all) (record { fits = (one.0, rest.fits); few = omega (arith, rest.few) })

-- phases whose lines fit

record FitsParts (phase : Phase) : Type 0 where
  calls : AllByRecursion IsCall phase.lines
  judge : IfSome phase.judge (λ number. number < 3)

call_before : (line : Line) (phases : List Phase) → IsCall line → AllByRecursion FitsParts phases → AllByRecursion FitsParts (calls_before (line ∷ []) phases)
call_before line [] fits a = tt
call_before line (p ∷ ps) fits a = (record { calls = (fits, a.0.calls); judge = a.0.judge }, a.1)

as_many : (line : Line) (phases : List Phase) → length (calls_before (line ∷ []) phases) ≡ length phases
as_many line [] = refl
as_many line (p ∷ ps) = refl

phases_fit : (judge : Option ℕ) (all : List Saying) → IfSome judge (λ number. number < 3) → AllByRecursion FitsSaying all → AllByRecursion FitsParts (phases_of judge all)
phases_fit judge [] known a = (record { calls = tt; judge = known }, tt)
phases_fit judge (Nothing ∷ more) known a = phases_fit judge more known a.1
phases_fit judge ((Call line) ∷ more) known a = call_before line (phases_of judge more) a.0 (phases_fit judge more known a.1)
phases_fit judge ((Next next) ∷ more) known a = (record { calls = tt; judge = known }, phases_fit next more a.0 a.1)

few_phases : (judge : Option ℕ) (all : List Saying) → length (phases_of judge all) ≤ 1 + length all
few_phases judge [] = omega arith
few_phases judge (Nothing ∷ more) = omega (arith, few_phases judge more)
few_phases judge ((Call line) ∷ more) = omega (arith, few_phases judge more, as_many line (phases_of judge more))
few_phases judge ((Next next) ∷ more) = omega (arith, few_phases next more)

-- a phase has no more lines than the script has sayings

abbrev FewLines : ℕ → List Phase → Type 0
FewLines most phases = AllByRecursion (λ (p : Phase). length p.lines ≤ most) phases

few_more : (most more : ℕ) (phases : List Phase) → most ≤ more → FewLines most phases → FewLines more phases
few_more most more [] le few = tt
few_more most more (p ∷ ps) le few = (let here = few.0 in omega (arith, le, here), few_more most more ps le few.1)

few_before : (line : Line) (most more : ℕ) (phases : List Phase) → most < more → FewLines most phases → FewLines more (calls_before (line ∷ []) phases)
few_before line most more [] less few = tt
few_before line most more (p ∷ ps) less few = (let here = few.0 in omega (arith, less, here), few_more most more ps (omega (arith, less)) few.1)

few_lines : (judge : Option ℕ) (all : List Saying) → FewLines (length all) (phases_of judge all)
few_lines judge [] = (omega arith, tt)
few_lines judge (Nothing ∷ more) = few_more (length more) (length (Nothing ∷ more)) (phases_of judge more) (omega arith) (few_lines judge more)
few_lines judge ((Call line) ∷ more) = few_before line (length more) (length (Call line ∷ more)) (phases_of judge more) (omega arith) (few_lines judge more)
few_lines judge ((Next next) ∷ more) = (omega arith, few_more (length more) (length (Next next ∷ more)) (phases_of next more) (omega arith) (few_lines next more))

by_index : (phases : List Phase) → FewLines 200000 phases → AllByRecursion FitsParts phases → AllByRecursion FitsPhase phases
by_index [] few a = tt
by_index (p ∷ ps) few a = (record { few = few.0; calls = All-from_recursion IsCall p.lines a.0.calls; judge = a.0.judge }, by_index ps few.1 a.1)

said_fits : (said : Result (List Saying) ScriptFault) (script : Script) → ((all : List Saying) → said ≡ Ok all → FitSayings 1 all) → script_said said ≡ Ok script → FitsScript script
said_fits (Err f) script fit e = cc
said_fits (Ok all) script fit e =
    let good = fit all refl in
    let is : record { phases = phases_of None all } ≡ script = cc in
    let counted : length (phases_of None all) ≤ 200001 = omega (arith, few_phases None all, good.few) in
    subst FitsScript is (record { few = counted; fits = All-from_recursion FitsPhase (phases_of None all) (by_index (phases_of None all) (few_more (length all) 200000 (phases_of None all) (let few = good.few in omega (arith, few)) (few_lines None all)) (phases_fit None all tt good.fits)) })

pub script_fits : (bytes : List ℕ) (script : Script) → script_of bytes ≡ Ok script → FitsScript script
unfolding script_of
script_fits bytes script e = elim (cases_Bool (utf8_valid_len bytes == length bytes)) [
  | inl t ↦ let said = rw t at e in said_fits (sayings_from 1 (lines (without_byte_order_mark bytes))) script (λ all f. sayings_fit 1 (lines (without_byte_order_mark bytes)) all (omega arith) f) said
  | inr f ↦ let wrong = rw f at e in cc
]

-- ---- the generated script

-- no phase of the workload names a judge
unnamed : (seed rows count : ℕ) → AllByRecursion (λ (p : Phase). p.judge ≡ None) (workload seed rows count).phases
unfolding workload
unnamed seed rows count = (refl, (refl, tt))

-- its phases are short

length_rounds : (f : ℕ → List Line) → ((x : ℕ) → length (f x) ≡ 7) → (xs : List ℕ) → length (flat_map f xs) ≤ 7 * length xs
length_rounds f seven [] = omega arith
length_rounds f seven (x ∷ xs) =
    let here = seven x in
    let more = length_rounds f seven xs in
    let both = length-append (f x) (flat_map f xs) in
    omega (arith, here, more, both)

few_of_workload : (seed rows count : ℕ) → rows ≤ 2000 → count ≤ 250 → FewLines 200000 (workload seed rows count).phases
unfolding workload tables
few_of_workload seed rows count few low =
    let filled : length (inserts seed rows) ≡ rows = length-map-range_with_len _ 0 rows in
    let end = line_of 1 (codes "COMMIT") ∷ [] in
    let closed : length (inserts seed rows ++ end) ≡ rows + 1 = length-append (inserts seed rows) end ∙ ap (λ (n : ℕ). n + 1) filled in
    let first : length (tables ++ (inserts seed rows ++ end)) ≡ 4 + (rows + 1) = length-append tables (inserts seed rows ++ end) ∙ ap (λ (n : ℕ). 4 + n) closed in
    let begun = openings_of readers (state_after seed (3 * rows)) in
    let there = state_after seed (3 * rows + 8) in
    let made : length (rounds there count) ≤ 7 * count = subst (λ (n : ℕ). length (rounds there count) ≤ 7 * n) (length-range_with_len 0 count) (length_rounds (λ (number : ℕ). round (state_after there (2 * number))) (λ number. refl) (range_with_len 0 count)) in
    let second : length (begun ++ rounds there count) ≡ 8 + length (rounds there count) = length-append begun (rounds there count) in
    let one : length (tables ++ (inserts seed rows ++ end)) ≤ 200000 = omega (arith, first, few) in
    let two : length (begun ++ rounds there count) ≤ 200000 = omega (arith, second, made, low) in
    (one, (two, tt))

unnamed_fit : (phases : List Phase) → FewLines 200000 phases → AllByRecursion (λ (p : Phase). p.judge ≡ None) phases → AllByRecursion HasCalls phases → AllByRecursion FitsPhase phases
unnamed_fit [] few none calls = tt
unnamed_fit (p ∷ ps) few none calls = (record { few = few.0; calls = calls.0; judge = rw none.0 tt }, unnamed_fit ps few.1 none.1 calls.1)

pub generated_fits : (script : Script) (seed : ℕ) → script ≡ workload_of seed → IsRunnable script → FitsScript script
generated_fits script seed is runs = record {
  few = omega (arith, runs.phases);
  fits = All-from_recursion FitsPhase script.phases (unnamed_fit script.phases (subst (λ (s : Script). FewLines 200000 s.phases) (sym is) (few_of_workload seed 2000 250 (omega arith) (omega arith))) (subst (λ (s : Script). AllByRecursion (λ (p : Phase). p.judge ≡ None) s.phases) (sym is) (unnamed seed 2000 250)) (recursion_from_All HasCalls script.phases runs.calls));
}
