-- What a run writes is judged legal, and tells the run's history.
use Rattle.std.proofs.Common.{◌≡◌, ℕ, ◌+◌, List, [], ◌∷◌, ◌++◌, Bool, true, false, not, ◌&&◌, ◌==◌, cond, if◌then◌else◌, Option, Some, None, Result, Ok, Err, IsOkAnd, IsUtf8, All, inl, inr, refl, ap, sym, subst, ◌∙◌, length, map, bytes_eq, codes, eqb, eqb-true, nat_eq, nat_lt, append-nil, ◌≤◌}
use Rattle.std.specs.List.{list_all, slice_split, AllByRecursion}
use Rattle.std.specs.Str.Lines.{lines, lines_of_parts, strip_carriage_return}
use Rattle.std.specs.Str.Lossy.{utf8_valid_len}
use Rattle.std.proofs.lemmas.Bool.{cases_Bool, and_parts, not-true, or_cases}
use Rattle.std.proofs.lemmas.List.Elements.{All-cons, All-nil}
use Rattle.std.proofs.lemmas.List.Splits.{slice_split_at}
use Rattle.std.proofs.lemmas.Option.{same_Some}
use Rattle.std.proofs.lemmas.Slice.Eq.{bytes_eq-Decides}
use Rattle.std.proofs.lemmas.Str.{IsUtf8-past_char}
use Rattle.rv_script.specs.declared.scripts.Line.{Line}
use Rattle.rv_script.specs.declared.scripts.Phase.{Phase}
use Rattle.rv_script.specs.declared.scripts.Script.{Script}
use Rattle.rv_script.specs.declared.scripts.ScriptFault.{ScriptFault}
use Rattle.rv_script.specs.declared.scripts.ScriptFault.TheVariants as faults
use Rattle.rv_script.specs.Script.{Saying, phases_of, says_at, saying_before, sayings_from, script_of, script_said, without_byte_order_mark}
use Rattle.rv_model.specs.declared.entry.Entry.{Entry}
use Rattle.rv_model.specs.Transcript.{text, AllSameButPhase, IsLine, TextTells}
use Rattle.rv_believed.specs.History.{IsLegal}
use Rattle.rv_run.specs.Script as runs
use Rattle.rv_run.specs.Script.{HasAllCalls, Write}
use Rattle.rv_text.specs.Lines.{grown, split, Split}
use Rattle.rv_text.specs.Reading.{AreReadable}
use Rattle.rv_text.proofs.Cutting.{lines_of, split_line, split_unsplit, split_whole, unsplit, AreLines}
use Rattle.rv_audit.specs.declared.auditing.Audited.TheVariants as audited
use Rattle.rv_audit.specs.declared.calls.Call.{Call}
use Rattle.rv_audit.specs.Auditing.{Says, SaysBehindScript}
use Rattle.rv_audit.specs.Calls.{call_in, calls_by, calls_from, calls_in}
use Rattle.rv_audit.specs.Following.{HasAll, IsWhole}
use Rattle.rv_audit.specs.Marks.{behind_line, is_mark, parted, parted_lines, Parted}
use Rattle.rv_audit.specs.Runs.{AreHeld, AreWholeLines, IsOfRun, RunsAreLegal, RunsAreTold}
use Rattle.rv_audit.proofs.Alone.{ok_once, plain_of}
use Rattle.rv_audit.proofs.Held.{readable}
use Rattle.rv_audit.proofs.Making.{call_by, calls_is, determined, made, sessions_of}
use Rattle.rv_audit.proofs.Marking.{ended_whole, parts}
use Rattle.rv_audit.proofs.Phases.{asked_of, texts}
use Rattle.rv_audit.proofs.Texts.{history_texts, lines_text, strip_texts, utf8_of, AreTexts, IsText}

-- ---- the calls

abbrev call_of : runs.Call → Call
call_of c = record { phase = c.phase; session = c.session; text = c.text }

made_is : (s : ℕ) (h : List Entry) → map call_of (runs.of_session s (runs.calls_made h)) ≡ made s h
made_is s [] = refl
made_is s (e ∷ es) = elim (cases_Bool (eqb e.session s)) [
  | inl t ↦ rw t (ap (λ (cs : List Call). call_by e ∷ cs) (made_is s es))
  | inr f ↦ rw f (made_is s es)
]

lines_are : (s n : ℕ) (ls : List Line) (more : List runs.Call) (rest : List Call) → map call_of (runs.of_session s more) ≡ calls_by s rest → map call_of (runs.of_session s (runs.calls_in n ls ++ more)) ≡ calls_by s (calls_in n ls ++ rest)
lines_are s n [] more rest e = e
lines_are s n (l ∷ ls) more rest e = elim (cases_Bool (eqb l.session s)) [
  | inl t ↦ rw t (ap (λ (cs : List Call). call_in n l ∷ cs) (lines_are s n ls more rest e))
  | inr f ↦ rw f (lines_are s n ls more rest e)
]

asked_is : (s n : ℕ) (phases : List Phase) → map call_of (runs.of_session s (runs.calls_from n phases)) ≡ calls_by s (calls_from n phases)
asked_is s n [] = refl
asked_is s n (p ∷ ps) = lines_are s n p.lines (runs.calls_from (n + 1) ps) (calls_from (n + 1) ps) (asked_is s (n + 1) ps)

has_all : (h : List Entry) (script : Script) → HasAllCalls h script → HasAll script.phases h
has_all h script all s q from to =
    calls_is q s h
    ∙ ap (texts q) (sym (made_is s h) ∙ ap (map call_of) (all s) ∙ asked_is s 1 script.phases)
    ∙ asked_of q s script.phases

same_itself : (h : List Entry) → AllSameButPhase h h
same_itself [] = tt
same_itself (e ∷ es) = (record { session = refl; text = refl; reply = refl }, same_itself es)

-- ---- no line of a script is a mark

abbrev HaveNoMark : List (List ℕ) → Type 0
HaveNoMark ls = list_all (λ (l : List ℕ). not (is_mark l)) ls ≡ true

-- a mark with its CR or without is one line
mark_is : (l : List ℕ) → is_mark l ≡ true → strip_carriage_return l ≡ codes "===="
mark_is l h = elim (or_cases (bytes_eq l (codes "====")) (bytes_eq l (codes "====\r")) h) [
  | inl t ↦ ap strip_carriage_return ((bytes_eq-Decides l (codes "====")).0 t)
  | inr t ↦ ap strip_carriage_return ((bytes_eq-Decides l (codes "====\r")).0 t)
]

record Both (a : Result Saying ScriptFault) (b : Result (List Saying) ScriptFault) : Type 0 where
  saying : Saying
  first : a ≡ Ok saying
  sayings : List Saying
  rest : b ≡ Ok sayings

both_said : (a : Result Saying ScriptFault) (b : Result (List Saying) ScriptFault) (all : List Saying) → saying_before a b ≡ Ok all → Both a b
both_said (Err fault) b all h = absurd (cc)
both_said (Ok saying) (Err fault) all h = absurd (cc)
both_said (Ok saying) (Ok more) all h = record { saying = saying; first = refl; sayings = more; rest = refl }

neither : (b : Bool) (f g : ScriptFault) (saying : Saying) → ◌≡◌ {A = Result Saying ScriptFault} (cond b (Err f) (Err g)) (Ok saying) → ⊥
neither true f g saying h = cc
neither false f g saying h = cc

-- a mark says nothing
not_said : (n : ℕ) (saying : Saying) → says_at n (codes "====") ≡ Ok saying → ⊥
not_said n saying h = neither (nat_lt 200000 n) (faults.TooMany 200000) (faults.NoSession n) saying h

unmarked : (n : ℕ) (l : List ℕ) (saying : Saying) → says_at n (strip_carriage_return l) ≡ Ok saying → is_mark l ≡ false
unmarked n l saying h = elim (cases_Bool (is_mark l)) [
  | inl t ↦ absurd (not_said n saying (subst (λ (w : List ℕ). says_at n w ≡ Ok saying) (mark_is l t) h))
  | inr f ↦ f
]

all_unmarked : (n : ℕ) (ls : List (List ℕ)) (all : List Saying) → sayings_from n (map strip_carriage_return ls) ≡ Ok all → HaveNoMark ls
all_unmarked n [] all h = refl
all_unmarked n (l ∷ ls) all h =
    let said = both_said (says_at n (strip_carriage_return l)) (sayings_from (n + 1) (map strip_carriage_return ls)) all h in
    let first : is_mark l ≡ false = unmarked n l said.saying said.first in
    let rest = all_unmarked (n + 1) ls said.sayings said.rest in
    λ i. not (first i) && rest i

-- the lines of the library are those that stand before line feeds, where nothing stands behind the last

no_feed : (l : List ℕ) → IsLine l → All (λ (c : ℕ). (c == 10) ≡ false) l
no_feed [] h = All-nil (λ (c : ℕ). (c == 10) ≡ false)
no_feed (c ∷ cs) h =
    let parts = and_parts (not (c == 10)) (list_all (λ (b : ℕ). not (b == 10)) cs) h in
    All-cons (λ (b : ℕ). (b == 10) ≡ false) c cs (not-true (c == 10) parts.0) (no_feed cs parts.1)

split_parts : (ls : List (List ℕ)) → AreLines ls → slice_split (λ (c : ℕ). c == 10) (unsplit ls) ≡ ls ++ [] ∷ []
split_parts [] h = refl
split_parts (l ∷ ls) h =
    slice_split_at (λ (c : ℕ). c == 10) l 10 (unsplit ls) (no_feed l h.0) refl ∙ ap (λ (ys : List (List ℕ)). l ∷ ys) (split_parts ls h.1)

stripped : (ls : List (List ℕ)) → lines_of_parts (ls ++ [] ∷ []) ≡ map strip_carriage_return ls
stripped [] = refl
stripped (l ∷ []) = refl
stripped (l ∷ m ∷ ls) = ap (λ (ys : List (List ℕ)). strip_carriage_return l ∷ ys) (stripped (m ∷ ls))

whole_is : (bytes : List ℕ) → AreWholeLines bytes → unsplit (split bytes).lines ≡ bytes
whole_is bytes whole =
    sym (append-nil (unsplit (split bytes).lines)) ∙ ap (λ (rest : List ℕ). unsplit (split bytes).lines ++ rest) (sym whole) ∙ split_whole bytes

lines_are_split : (bytes : List ℕ) → AreWholeLines bytes → lines bytes ≡ map strip_carriage_return (split bytes).lines
lines_are_split bytes whole =
    ap lines (sym (whole_is bytes whole)) ∙ ap lines_of_parts (split_parts (split bytes).lines (lines_of bytes)) ∙ stripped (split bytes).lines

record Said (bytes : List ℕ) : Type 0 where
  sayings : List Saying
  is : sayings_from 1 (lines bytes) ≡ Ok sayings

none_in : (bytes : List ℕ) → AreWholeLines bytes → Said bytes → HaveNoMark (split bytes).lines
none_in bytes whole said = all_unmarked 1 (split bytes).lines said.sayings (ap (sayings_from 1) (sym (lines_are_split bytes whole)) ∙ said.is)

-- with a byte order mark in front

abbrev ordered : List ℕ → List ℕ
ordered bytes = 0xEF ∷ 0xBB ∷ 0xBF ∷ bytes

abbrev once : ℕ → Split → Split
once c s = grown c s.lines s.rest

abbrev behind_order : Split → Split
behind_order s = once 0xEF (once 0xBB (once 0xBF s))

none_behind : (ls : List (List ℕ)) (rest : List ℕ) → (behind_order (record { lines = ls; rest = rest })).rest ≡ [] → (rest ≡ [] → HaveNoMark ls) → HaveNoMark (behind_order (record { lines = ls; rest = rest })).lines
none_behind [] rest whole none = refl
none_behind (l ∷ ls) rest whole none = (and_parts (not (is_mark l)) (list_all (λ (m : List ℕ). not (is_mark m)) ls) (none whole)).1

none_ordered : (bytes : List ℕ) → AreWholeLines (ordered bytes) → Said bytes → HaveNoMark (split (ordered bytes)).lines
none_ordered bytes whole said = none_behind (split bytes).lines (split bytes).rest whole (λ rest. none_in bytes rest said)

three : (a b c : ℕ) → (nat_eq a 0xEF && (nat_eq b 0xBB && nat_eq c 0xBF)) ≡ true → (a ≡ 0xEF) × (b ≡ 0xBB) × (c ≡ 0xBF)
three a b c h =
    let first = and_parts (nat_eq a 0xEF) (nat_eq b 0xBB && nat_eq c 0xBF) h in
    let rest = and_parts (nat_eq b 0xBB) (nat_eq c 0xBF) first.1 in
    (eqb-true a 0xEF first.0, eqb-true b 0xBB rest.0, eqb-true c 0xBF rest.1)

no_marks : (bytes : List ℕ) → AreWholeLines bytes → Said (without_byte_order_mark bytes) → HaveNoMark (split bytes).lines
no_marks [] whole said = none_in [] whole said
no_marks (a ∷ []) whole said = none_in (a ∷ []) whole said
no_marks (a ∷ b ∷ []) whole said = none_in (a ∷ b ∷ []) whole said
no_marks (a ∷ b ∷ c ∷ more) whole said = by (nat_eq a 0xEF && (nat_eq b 0xBB && nat_eq c 0xBF)) refl said
  where
    by : (t : Bool) → (nat_eq a 0xEF && (nat_eq b 0xBB && nat_eq c 0xBF)) ≡ t → Said (if t then more else a ∷ b ∷ c ∷ more) → HaveNoMark (split (a ∷ b ∷ c ∷ more)).lines
    by false is s = none_in (a ∷ b ∷ c ∷ more) whole s
    by true is s =
        let same = three a b c is in
        let e : a ∷ b ∷ c ∷ more ≡ ordered more = λ i. same.0 i ∷ same.1 i ∷ same.2 i ∷ more in
        subst (λ (bs : List ℕ). HaveNoMark (split bs).lines) (sym e) (none_ordered more (subst AreWholeLines e whole) s)

said_of : (bytes : List ℕ) (script : Script) → script_of bytes ≡ Ok script → Said (without_byte_order_mark bytes)
unfolding script_of
said_of bytes script is = by (utf8_valid_len bytes == length bytes) (sayings_from 1 (lines (without_byte_order_mark bytes))) refl is
  where
    by : (b : Bool) (r : Result (List Saying) ScriptFault) → sayings_from 1 (lines (without_byte_order_mark bytes)) ≡ r → (if b then script_said r else Err (faults.NotText (utf8_valid_len bytes))) ≡ Ok script → Said (without_byte_order_mark bytes)
    by true (Ok sayings) e h = record { sayings = sayings; is = e }
    by true (Err fault) e h = absurd (cc)
    by false r e h = absurd (cc)

-- ---- the texts of the history

whole_behind : (ls : List (List ℕ)) (rest : List ℕ) → (behind_order (record { lines = ls; rest = rest })).rest ≡ [] → rest ≡ []
whole_behind [] rest whole = absurd (cc)
whole_behind (l ∷ ls) rest whole = whole

record IsRead (bytes : List ℕ) : Type 0 where
  whole : AreWholeLines bytes
  utf8 : IsUtf8 bytes

-- behind a byte order mark stand whole lines, and UTF-8
read_behind : (bytes : List ℕ) → IsRead bytes → IsRead (without_byte_order_mark bytes)
unfolding lib.Utf8.encode
read_behind [] r = r
read_behind (a ∷ []) r = r
read_behind (a ∷ b ∷ []) r = r
read_behind (a ∷ b ∷ c ∷ more) r = by (nat_eq a 0xEF && (nat_eq b 0xBB && nat_eq c 0xBF)) refl
  where
    by : (t : Bool) → (nat_eq a 0xEF && (nat_eq b 0xBB && nat_eq c 0xBF)) ≡ t → IsRead (if t then more else a ∷ b ∷ c ∷ more)
    by false is = r
    by true is =
        let same = three a b c is in
        let e : a ∷ b ∷ c ∷ more ≡ ordered more = λ i. same.0 i ∷ same.1 i ∷ same.2 i ∷ more in
        record {
          whole = whole_behind (split more).lines (split more).rest (subst AreWholeLines e r.whole);
          utf8 = IsUtf8-past_char (a ∷ b ∷ c ∷ more) more 0xFEFF r.utf8 e;
        }

lines_read : (bytes : List ℕ) → IsRead bytes → AreTexts (lines bytes)
lines_read bytes r = subst AreTexts (sym (lines_are_split bytes r.whole)) (strip_texts (split bytes).lines (lines_text (split bytes).lines (lines_of bytes) (subst IsUtf8 (sym (whole_is bytes r.whole)) r.utf8)))

script_is : (sayings : List Saying) (script : Script) → script_said (Ok sayings) ≡ Ok script → record { phases = phases_of None sayings } ≡ script
script_is sayings script e = cc

read_texts : (bytes : List ℕ) (script : Script) (h : List Entry) → AreWholeLines bytes → script_of bytes ≡ Ok script → HasAllCalls h script → AllByRecursion (λ (e : Entry). IsText e.text) h
unfolding script_of
read_texts bytes script h whole is calls = by (utf8_valid_len bytes == length bytes) refl (sayings_from 1 (lines (without_byte_order_mark bytes))) refl is
  where
    by : (b : Bool) → (utf8_valid_len bytes == length bytes) ≡ b → (r : Result (List Saying) ScriptFault) → sayings_from 1 (lines (without_byte_order_mark bytes)) ≡ r → (if b then script_said r else Err (faults.NotText (utf8_valid_len bytes))) ≡ Ok script → AllByRecursion (λ (e : Entry). IsText e.text) h
    by true u (Ok sayings) said e =
        let read = read_behind bytes (record { whole = whole; utf8 = utf8_of bytes u }) in
        history_texts (lines (without_byte_order_mark bytes)) sayings h (lines_read (without_byte_order_mark bytes) read) said (subst (HasAllCalls h) (sym (script_is sayings script e)) calls)
    by true u (Err fault) said e = absurd (cc)
    by false u r said e = absurd (cc)

-- ---- the input is parted behind the script

lines_parted : (ls : List (List ℕ)) (transcript : List ℕ) → HaveNoMark ls → parted_lines (ls ++ codes "====" ∷ (split transcript).lines) (split transcript).rest ≡ Some (parts (unsplit ls) transcript)
lines_parted [] transcript none = ap (λ (bytes : List ℕ). Some (parts [] bytes)) (ended_whole transcript)
lines_parted (l ∷ ls) transcript none =
    let both_none = and_parts (not (is_mark l)) (list_all (λ (m : List ℕ). not (is_mark m)) ls) none in
    let here : is_mark l ≡ false = not-true (is_mark l) both_none.0 in
    rw here (ap (behind_line l) (lines_parted ls transcript both_none.1))

abbrev behind_lines : List (List ℕ) → Split → Split
behind_lines ls s = record { lines = ls ++ s.lines; rest = s.rest }

marked_parted : (bytes transcript : List ℕ) → AreWholeLines bytes → HaveNoMark (split bytes).lines → parted (bytes ++ (codes "====\n" ++ transcript)) ≡ Some (parts bytes transcript)
marked_parted bytes transcript whole none =
    ap (λ (bs : List ℕ). parted (bs ++ (codes "====\n" ++ transcript))) (sym (whole_is bytes whole))
    ∙ ap (λ (s : Split). parted_lines s.lines s.rest)
    (split_unsplit (split bytes).lines (codes "====\n" ++ transcript) (lines_of bytes)
    ∙ ap (behind_lines (split bytes).lines) (split_line (codes "====") transcript refl))
    ∙ lines_parted (split bytes).lines transcript none
    ∙ ap (λ (bs : List ℕ). Some (parts bs transcript)) (whole_is bytes whole)

-- ---- the law

-- what an input of a run's is
record Shown (history : List Entry) (input : List ℕ) : Type 0 where
  bytes : List ℕ
  few : length bytes ≤ 16777216
  script : Script
  is : script_of bytes ≡ Ok script
  all : HasAllCalls history script
  parted_so : parted input ≡ Some (parts bytes (text history))
  readable : AreReadable history

shown : (history : List Entry) → AreHeld history → (input : List ℕ) → IsOfRun history input → Shown history input
shown history held input run = by (script_of run.script) refl run.wrote.calls.script
  where
    by : (r : Result Script ScriptFault) → script_of run.script ≡ r → IsOkAnd r (HasAllCalls history) → Shown history input
    by (Ok script) is all =
        let asked = read_texts run.script script history run.lines is all in
        let written : run.transcript ≡ text history = run.wrote.written in
        let input_is : input ≡ run.script ++ (codes "====\n" ++ text history) = run.is ∙ ap (λ (t : List ℕ). run.script ++ (codes "====\n" ++ t)) written in
        record {
          bytes = run.script;
          few = run.wrote.calls.few;
          script = script;
          is = is;
          all = all;
          parted_so = ap parted input_is ∙ marked_parted run.script (text history) run.lines (no_marks run.script run.lines (said_of run.script script is));
          readable = readable history run.wrote.legal asked held;
        }
    by (Err fault) is all = absurd all

said_legal : (history : List Entry) (input : List ℕ) → IsLegal history → (s : Shown history input) → SaysBehindScript s.bytes (text history) (audited.Legal (length history))
said_legal history input legal s =
    let whole : IsWhole s.script history = record { history = history; same = same_itself history; legal = legal; all = has_all history s.script s.all } in
    record {
      has = record { few = s.few; script = s.script; is = s.is };
      said = record { entries = history; written = record { readable = s.readable; is = refl }; said = (whole, refl) };
    }

pub runs_are_legal : RunsAreLegal
runs_are_legal history held input run =
    let s = shown history held input run in
    subst (λ (o : Option Parted). Says o (audited.Legal (length history))) (sym s.parted_so) (said_legal history input run.wrote.legal s)

-- ---- one history alone

made_same : (a b : List Entry) (script : Script) → HasAllCalls a script → HasAllCalls b script → (s : ℕ) → made s a ≡ made s b
made_same a b script all_a all_b s = sym (made_is s a) ∙ ap (map call_of) (all_a s ∙ sym (all_b s)) ∙ made_is s b

one_history : TextTells → (a b : List Entry) (input : List ℕ) → IsLegal a → Shown a input → Shown b input → a ≡ b
one_history tells a b input legal x y =
    let cut = same_Some (parts x.bytes (text a)) (parts y.bytes (text b)) (sym x.parted_so ∙ y.parted_so) in
    let same_bytes : x.bytes ≡ y.bytes = ap (λ (p : Parted). p.script) cut in
    let same_text : text a ≡ text b = ap (λ (p : Parted). p.transcript) cut in
    let scripts = ok_once (script_of y.bytes) x.script y.script (subst (λ (bs : List ℕ). script_of bs ≡ Ok x.script) same_bytes x.is) y.is in
    let all = subst (HasAllCalls b) (sym scripts) y.all in
    let same = tells a b (plain_of a x.readable) (plain_of b y.readable) same_text in
    (determined a b (λ s. []) (λ s. []) (sessions_of a legal) same (λ s from to. ap (λ (cs : List Call). cs ++ []) (made_same a b x.script x.all all s))).entries

pub runs_are_told : TextTells → RunsAreTold
runs_are_told tells one other held_one held_other input run_one run_other =
    one_history tells one other input run_one.wrote.legal (shown one held_one input run_one) (shown other held_other input run_other)
