-- The texts of a script's calls are lines and UTF-8, and so are those of a history that has its calls.
use Rattle.std.proofs.Common.{◌≡◌, ℕ, zero, suc, ◌+◌, ◌-◌, ◌<◌, ◌≤◌, List, [], ◌∷◌, ◌++◌, Bool, true, false, not, ◌&&◌, ◌==◌, cond, if◌then◌else◌, Option, Some, None, Result, Ok, Err, IsUtf8, inl, inr, refl, ap, sym, subst, ◌∙◌, length, length-append, map, take, drop, get_or, arith, eqb, eqb-true, nat_eq, nat_le, nat_lt, append_assoc, take_all, slice_index}
use Rattle.std.specs.List.{list_all, AllByRecursion}
use Rattle.std.specs.Str.{is_utf8}
use Rattle.std.specs.Str.Lines.{strip_carriage_return}
use Rattle.std.specs.Str.Lossy.{utf8_valid_len, valid_len_up_to}
use Rattle.std.proofs.lemmas.Bool.{cases_Bool, and_parts}
use Rattle.std.proofs.lemmas.Bool.Decides.{nat_tests}
use Rattle.std.proofs.lemmas.List.{drop_at, nil_from_length, take_at}
use Rattle.std.proofs.lemmas.Str.{IsCharBoundary-after_ascii, IsCharBoundary-before_ascii, IsUtf8-drop, IsUtf8-from_is_utf8, IsUtf8-nil, IsUtf8-take}
use Rattle.std.proofs.lemmas.Option.{same_Some}
use Rattle.std.proofs.Math.Seq.{get_or-append_seam}
use Rattle.rv_script.specs.declared.scripts.Line.{Line}
use Rattle.rv_script.specs.declared.scripts.Phase.{Phase}
use Rattle.rv_script.specs.declared.scripts.ScriptFault.{ScriptFault}
use Rattle.rv_script.specs.declared.scripts.ScriptFault.TheVariants as faults
use Rattle.rv_script.specs.Script.{Saying, Nothing, Call, Next, call_of, calls_before, mark_of, or_no_session, phases_of, says, says_at, saying_before, sayings_from}
use Rattle.rv_model.specs.declared.entry.Entry.{Entry}
use Rattle.rv_model.specs.Transcript.{IsLine}
use Rattle.rv_run.specs.Script as runs
use Rattle.rv_run.specs.Script.{HasAllCalls}
use Rattle.rv_text.proofs.Cutting.{unsplit, AreLines}

-- ---- UTF-8

valid_up_to : (bytes : List ℕ) (n : ℕ) → valid_len_up_to bytes n ≤ n
valid_up_to bytes zero = omega arith
valid_up_to bytes (suc n) = elim (cases_Bool (is_utf8 (take (suc n) bytes))) [
  | inl t ↦ rw t (omega arith)
  | inr f ↦ let rest = valid_up_to bytes n in rw f (omega (arith, rest))
]

pub utf8_of : (bytes : List ℕ) → (utf8_valid_len bytes == length bytes) ≡ true → IsUtf8 bytes
unfolding utf8_valid_len
utf8_of bytes e = by (length bytes) refl (eqb-true (valid_len_up_to bytes (length bytes)) (length bytes) e)
  where
    by : (n : ℕ) → length bytes ≡ n → valid_len_up_to bytes n ≡ n → IsUtf8 bytes
    by zero long valid = subst IsUtf8 (sym (nil_from_length bytes long)) IsUtf8-nil
    by (suc n) long valid = elim (cases_Bool (is_utf8 (take (suc n) bytes))) [
      | inl t ↦ subst IsUtf8 (take_all (suc n) bytes (omega (arith, long))) (IsUtf8-from_is_utf8 (take (suc n) bytes) t)
      | inr f ↦
          let less = valid_up_to bytes n in
          let same : valid_len_up_to bytes n ≡ suc n = rw f at valid in
          absurd (omega (arith, less, same))
    ]

-- before an ASCII byte and behind it a text may be cut
utf8_cut : (front : List ℕ) (b : ℕ) (rest : List ℕ) → b < 128 → IsUtf8 (front ++ b ∷ rest) → IsUtf8 front × IsUtf8 rest
utf8_cut front b rest low u =
    let at = get_or-append_seam front b rest 0 in
    let long : length front < length (front ++ b ∷ rest) = omega (arith, length-append front (b ∷ rest)) in
    let before = IsCharBoundary-before_ascii (front ++ b ∷ rest) (length front) long (omega (arith, at, low)) in
    let behind = IsCharBoundary-after_ascii (front ++ b ∷ rest) (length front) u long (omega (arith, at, low)) in
    let e : front ++ b ∷ rest ≡ (front ++ b ∷ []) ++ rest = sym (append_assoc front (b ∷ []) rest) in
    let n : length (front ++ b ∷ []) ≡ length front + 1 = length-append front (b ∷ []) in (
      subst IsUtf8 (take_at front (b ∷ rest) (length front) refl) (IsUtf8-take (front ++ b ∷ rest) (length front) u before),
      subst IsUtf8 (ap (drop (length front + 1)) e ∙ drop_at (front ++ b ∷ []) rest (length front + 1) n) (IsUtf8-drop (front ++ b ∷ rest) (length front + 1) u behind),
    )

-- ---- lines

-- a line that is UTF-8
abbrev pub IsText : List ℕ → Type 0
IsText t = IsLine t × IsUtf8 t

abbrev pub AreTexts : List (List ℕ) → Type 0
AreTexts = AllByRecursion IsText

pub lines_text : (ls : List (List ℕ)) → AreLines ls → IsUtf8 (unsplit ls) → AreTexts ls
lines_text [] h u = tt
lines_text (l ∷ ls) h u =
    let cut = utf8_cut l 10 (unsplit ls) (omega arith) u in
    ((h.0, cut.0), lines_text ls h.1 cut.1)

line_take : (k : ℕ) (l : List ℕ) → IsLine l → IsLine (take k l)
line_take zero l h = refl
line_take (suc k) [] h = refl
line_take (suc k) (c ∷ cs) h =
    let parts = and_parts (not (c == 10)) (list_all (λ (b : ℕ). not (b == 10)) cs) h in
    let rest = line_take k cs parts.1 in
    λ i. parts.0 i && rest i

-- without the CR at its end
strip_text : (l : List ℕ) → IsText l → IsText (strip_carriage_return l)
strip_text l h = elim (cases_Bool (slice_index l (length l - 1) == 13)) [
  | inl t ↦
      let last : get_or l (length l - 1) 0 ≡ 13 = eqb-true (slice_index l (length l - 1)) 13 t in
      rw t ((line_take (length l - 1) l h.0, IsUtf8-take l (length l - 1) h.1 (IsCharBoundary-before_ascii l (length l - 1) (some_long l t) (omega (arith, last)))))
  | inr f ↦ rw f h
]
  where
    some_long : (m : List ℕ) → (slice_index m (length m - 1) == 13) ≡ true → length m - 1 < length m
    some_long [] t = absurd (cc)
    some_long (c ∷ cs) t = omega arith

pub strip_texts : (ls : List (List ℕ)) → AreTexts ls → AreTexts (map strip_carriage_return ls)
strip_texts [] h = tt
strip_texts (l ∷ ls) h = (strip_text l h.0, strip_texts ls h.1)

-- ---- what a line says

abbrev pub SaysText : Saying → Type 0
SaysText Nothing = Unit {0}
SaysText (Call line) = IsText line.text
SaysText (Next judge) = Unit {0}

-- a mark is no call
mark_text : (bs : List ℕ) (saying : Saying) → mark_of bs ≡ Some saying → SaysText saying
mark_text [] saying h = subst SaysText (same_Some (Next None) saying h) tt
mark_text (b ∷ []) saying h = absurd (cc)
mark_text (b ∷ j ∷ []) saying h = by (nat_eq b 32 && (nat_le 48 j && nat_le j 50)) h
  where
    by : (t : Bool) → (if t then Some (Next (Some (j - 48))) else None) ≡ Some saying → SaysText saying
    by true e = subst SaysText (same_Some (Next (Some (j - 48))) saying e) tt
    by false e = absurd (cc)
mark_text (b ∷ j ∷ c ∷ cs) saying h = absurd (cc)

-- the text of a call stands behind two bytes
call_text : (a b : ℕ) (bs : List ℕ) (saying : Saying) → IsText (a ∷ b ∷ bs) → call_of (a ∷ b ∷ bs) ≡ Some saying → SaysText saying
call_text a b bs saying text h = by (nat_eq b 32 && (nat_le 49 a && nat_le a 56)) refl h
  where
    by : (t : Bool) → (nat_eq b 32 && (nat_le 49 a && nat_le a 56)) ≡ t → (if t then Some (Call (record { session = a - 48; text = bs })) else None) ≡ Some saying → SaysText saying
    by true is e =
        let space : b ≡ 32 = eqb-true b 32 (and_parts (nat_eq b 32) (nat_le 49 a && nat_le a 56) is).0 in
        let first = and_parts (not (a == 10)) (list_all (λ (c : ℕ). not (c == 10)) (b ∷ bs)) text.0 in
        let second = and_parts (not (b == 10)) (list_all (λ (c : ℕ). not (c == 10)) bs) first.1 in
        let behind = utf8_cut (a ∷ []) b bs (omega (arith, space)) text.1 in
        subst SaysText (same_Some (Call (record { session = a - 48; text = bs })) saying e) ((second.1, behind.1))
    by false is e = absurd (cc)

line_says : (line : List ℕ) (saying : Saying) → IsText line → says line ≡ Some saying → SaysText saying
line_says [] saying text h = subst SaysText (same_Some Nothing saying h) tt
line_says (a ∷ []) saying text h = by (nat_eq a 35) h
  where
    by : (t : Bool) → (if t then Some Nothing else None) ≡ Some saying → SaysText saying
    by true e = subst SaysText (same_Some Nothing saying e) tt
    by false e = absurd (cc)
line_says (a ∷ b ∷ bs) saying text h = by (nat_eq a 35) (nat_eq a 45 && nat_eq b 45) h
  where
    by : (t m : Bool) → (if t then Some Nothing else (if m then mark_of bs else call_of (a ∷ b ∷ bs))) ≡ Some saying → SaysText saying
    by true m e = subst SaysText (same_Some Nothing saying e) tt
    by false true e = mark_text bs saying e
    by false false e = call_text a b bs saying text e

said_text : (n : ℕ) (line : List ℕ) (saying : Saying) → IsText line → says_at n line ≡ Ok saying → SaysText saying
said_text n line saying text h = by (nat_lt 200000 n) (nat_lt 4096 (length line)) (says line) refl h
  where
    by : (t u : Bool) (s : Option Saying) → says line ≡ s → (if t then Err (faults.TooMany 200000) else (if u then Err (faults.TooLong n) else or_no_session n s)) ≡ Ok saying → SaysText saying
    by true u s is e = absurd (cc)
    by false true s is e = absurd (cc)
    by false false None is e = absurd (cc)
    by false false (Some other) is e = let same : other ≡ saying = cc in line_says line saying text (is ∙ ap (λ (x : Saying). Some x) same)

all_said : (n : ℕ) (ls : List (List ℕ)) (all : List Saying) → AreTexts ls → sayings_from n ls ≡ Ok all → AllByRecursion SaysText all
all_said n [] all texts h = let none : [] ≡ all = cc in subst (AllByRecursion SaysText) none tt
all_said n (l ∷ ls) all texts h = by (λ more e. all_said (n + 1) ls more texts.1 e) (says_at n l) (sayings_from (n + 1) ls) refl refl h
  where
    by : ((more : List Saying) → sayings_from (n + 1) ls ≡ Ok more → AllByRecursion SaysText more) → (a : Result Saying ScriptFault) (b : Result (List Saying) ScriptFault) → says_at n l ≡ a → sayings_from (n + 1) ls ≡ b → saying_before a b ≡ Ok all → AllByRecursion SaysText all
    by others (Err fault) b ea eb e = absurd (cc)
    by others (Ok saying) (Err fault) ea eb e = absurd (cc)
    by others (Ok saying) (Ok more) ea eb e =
        let same : saying ∷ more ≡ all = cc in
        subst (AllByRecursion SaysText) same ((said_text n l saying texts.0 ea, others more eb))

-- ---- phases and calls

abbrev HasTexts : Phase → Type 0
HasTexts p = AllByRecursion (λ (l : Line). IsText l.text) p.lines

call_before : (line : Line) (ps : List Phase) → IsText line.text → AllByRecursion HasTexts ps → AllByRecursion HasTexts (calls_before (line ∷ []) ps)
call_before line [] t h = tt
call_before line (p ∷ ps) t h = ((t, h.0), h.1)

phases_texts : (judge : Option ℕ) (all : List Saying) → AllByRecursion SaysText all → AllByRecursion HasTexts (phases_of judge all)
phases_texts judge [] h = (tt, tt)
phases_texts judge (Nothing ∷ more) h = phases_texts judge more h.1
phases_texts judge ((Call line) ∷ more) h = call_before line (phases_of judge more) h.0 (phases_texts judge more h.1)
phases_texts judge ((Next next) ∷ more) h = (tt, phases_texts next more h.1)

abbrev CallsText : List runs.Call → Type 0
CallsText = AllByRecursion (λ (c : runs.Call). IsText c.text)

texts_append : (xs ys : List runs.Call) → CallsText xs → CallsText ys → CallsText (xs ++ ys)
texts_append [] ys h k = k
texts_append (x ∷ xs) ys h k = (h.0, texts_append xs ys h.1 k)

lines_calls : (n : ℕ) (ls : List Line) → AllByRecursion (λ (l : Line). IsText l.text) ls → CallsText (runs.calls_in n ls)
lines_calls n [] h = tt
lines_calls n (l ∷ ls) h = (h.0, lines_calls n ls h.1)

phases_calls : (n : ℕ) (ps : List Phase) → AllByRecursion HasTexts ps → CallsText (runs.calls_from n ps)
phases_calls n [] h = tt
phases_calls n (p ∷ ps) h = texts_append (runs.calls_in n p.lines) (runs.calls_from (n + 1) ps) (lines_calls n p.lines h.0) (phases_calls (n + 1) ps h.1)

by_session : (s : ℕ) (cs : List runs.Call) → CallsText cs → CallsText (runs.of_session s cs)
by_session s [] h = tt
by_session s (c ∷ cs) h = elim (cases_Bool (eqb c.session s)) [
  | inl t ↦ rw t ((h.0, by_session s cs h.1))
  | inr f ↦ rw f (by_session s cs h.1)
]

kept_rest : (b : Bool) (c : runs.Call) (cs : List runs.Call) → CallsText (cond b (c ∷ cs) cs) → CallsText cs
kept_rest true c cs h = h.1
kept_rest false c cs h = h

-- each call is some session's
all_sessions : (cs : List runs.Call) → ((s : ℕ) → CallsText (runs.of_session s cs)) → CallsText cs
all_sessions [] all = tt
all_sessions (c ∷ cs) all = (first, all_sessions cs others)
  where
    first : IsText c.text
    first =
        let same : (c.session == c.session) ≡ true = grind (arith, nat_tests) in
        let here = subst (λ (b : Bool). CallsText (cond b (c ∷ runs.of_session c.session cs) (runs.of_session c.session cs))) same (all c.session) in
        here.0

    others : (s : ℕ) → CallsText (runs.of_session s cs)
    others s = kept_rest (c.session == s) c (runs.of_session s cs) (all s)

entries_texts : (h : List Entry) → CallsText (runs.calls_made h) → AllByRecursion (λ (e : Entry). IsText e.text) h
entries_texts [] c = tt
entries_texts (e ∷ es) c = (c.0, entries_texts es c.1)

-- a history that has all calls of what lines say, which are lines and UTF-8
pub history_texts : (ls : List (List ℕ)) (all : List Saying) (h : List Entry) → AreTexts ls → sayings_from 1 ls ≡ Ok all → HasAllCalls h (record { phases = phases_of None all }) → AllByRecursion (λ (e : Entry). IsText e.text) h
history_texts ls all h texts said calls =
    let asked = phases_calls 1 (phases_of None all) (phases_texts None all (all_said 1 ls all texts said)) in
    entries_texts h (all_sessions (runs.calls_made h) (λ s. subst CallsText (sym (calls s)) (by_session s (runs.calls_from 1 (phases_of None all)) asked)))
