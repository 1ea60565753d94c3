-- One line behind others: what all say is what those said, and then the line.
use Rattle.std.proofs.Common.{◌≡◌, ◌≤◌, ◌<◌, ◌+◌, ◌-◌, ◌++◌, ◌∷◌, ◌==◌, ◌&&◌, ◌⊎◌, ℕ, List, [], Bool, true, false, cond, inl, inr, None, Result, Ok, Err, refl, sym, ap, subst, ◌∙◌, append_assoc, append-nil, length, length-append, map, take, nat_eq, nat_lt, arith, IsUtf8}
use Rattle.std.specs.List.{onto_first, slice_split}
use Rattle.std.specs.Str.{IsCharBoundary, IsValidUpTo}
use Rattle.std.specs.Str.Lines.{lines, lines_of_parts, strip_carriage_return}
use Rattle.std.specs.Str.Lossy.{utf8_valid_len}
use Rattle.std.proofs.Math.Bool.{and-false}
use Rattle.std.proofs.Math.Seq.{drop-append_seam, take-append_seam, take-append-add}
use Rattle.std.proofs.lemmas.Bool.{cases_Bool, eqb-true, ltb-true}
use Rattle.std.proofs.lemmas.Bool.Decides.{nat_tests}
use Rattle.std.proofs.lemmas.List.Elements.{All-from_recursion}
use Rattle.std.proofs.lemmas.List.Splits.{slice_split_none}
use Rattle.std.proofs.lemmas.Str.{IsCharBoundary-from_take, IsUtf8-append, IsUtf8-drop, utf8_valid_len-IsValidUpTo}
use Rattle.rv_io.specs.Lines.{HasNoFeed, IsLine}
use Rattle.rv_script.specs.declared.scripts.Draft.{Draft}
use Rattle.rv_script.specs.declared.scripts.Line.{Line}
use Rattle.rv_script.specs.declared.scripts.Phase.{Phase}
use Rattle.rv_script.specs.declared.scripts.Script.{Script}
use Rattle.rv_script.specs.declared.scripts.ScriptFault.{ScriptFault}
use Rattle.rv_script.specs.declared.scripts.ScriptFault.TheVariants as faults
use Rattle.rv_script.specs.Script.{Saying, Nothing, saying_before, says_at, sayings_from, phases_of, script_of, script_said, without_byte_order_mark}
use Rattle.rv_script.specs.Drafts.{added, drafted}
use Rattle.rv_script.specs.Lines.{LineSays, behind_mark, first_line, first_of, said_at}
use Rattle.rv_script.proofs.Sayings.{calls_none, drafted_more}
use Rattle.rv_script.proofs.Texts.{script_utf8}

abbrev feed : ℕ → Bool
feed = λ (b : ℕ). b == 10

-- ---- lines behind a line feed

record SomeParts (bytes : List ℕ) : Type 0 where
  first : List ℕ
  others : List (List ℕ)
  is : slice_split feed bytes ≡ first ∷ others

onto_some : (b : ℕ) (parts : List (List ℕ)) (first : List ℕ) (others : List (List ℕ)) → parts ≡ first ∷ others → onto_first b parts ≡ (b ∷ first) ∷ others
onto_some b parts first others e = ap (onto_first b) e

some_parts : (bytes : List ℕ) → SomeParts bytes
some_parts [] = record { first = []; others = []; is = refl }
some_parts (b ∷ bs) = elim (cases_Bool (b == 10)) [
  | inl t ↦ record { first = []; others = slice_split feed bs; is = rw t refl }
  | inr f ↦ let more = some_parts bs in record { first = b ∷ more.first; others = more.others; is = rw f (onto_some b (slice_split feed bs) more.first more.others more.is) }
]

onto_append : (b : ℕ) (xs ys : List (List ℕ)) (first : List ℕ) (others : List (List ℕ)) → xs ≡ first ∷ others → onto_first b (xs ++ ys) ≡ onto_first b xs ++ ys
onto_append b xs ys first others e = ap (λ (zs : List (List ℕ)). onto_first b (zs ++ ys)) e ∙ sym (ap (λ (zs : List (List ℕ)). onto_first b zs ++ ys) e)

split_append : (xs ys : List ℕ) → slice_split feed (xs ++ 10 ∷ ys) ≡ slice_split feed xs ++ slice_split feed ys
split_append [] ys = refl
split_append (x ∷ xs) ys = elim (cases_Bool (x == 10)) [
  | inl t ↦ rw t (ap (λ (zs : List (List ℕ)). [] ∷ zs) (split_append xs ys))
  | inr f ↦ let some = some_parts xs in rw f (ap (onto_first x) (split_append xs ys) ∙ onto_append x (slice_split feed xs) (slice_split feed ys) some.first some.others some.is)
]

parts_append : (xs ys : List (List ℕ)) (first : List ℕ) (others : List (List ℕ)) → ys ≡ first ∷ others → lines_of_parts (xs ++ ys) ≡ map strip_carriage_return xs ++ lines_of_parts ys
parts_append [] ys first others e = refl
parts_append (x ∷ []) ys first others e = ap (λ (zs : List (List ℕ)). lines_of_parts (x ∷ zs)) e ∙ sym (ap (λ (zs : List (List ℕ)). strip_carriage_return x ∷ lines_of_parts zs) e)
parts_append (x ∷ y ∷ xs) ys first others e = ap (λ (zs : List (List ℕ)). strip_carriage_return x ∷ zs) (parts_append (y ∷ xs) ys first others e)

lines_append : (xs ys : List ℕ) → lines (xs ++ 10 ∷ ys) ≡ map strip_carriage_return (slice_split feed xs) ++ lines ys
lines_append xs ys = let some = some_parts ys in ap lines_of_parts (split_append xs ys) ∙ parts_append (slice_split feed xs) (slice_split feed ys) some.first some.others some.is

lines_ended : (xs : List ℕ) → lines (xs ++ 10 ∷ []) ≡ map strip_carriage_return (slice_split feed xs)
lines_ended xs = lines_append xs [] ∙ append-nil (map strip_carriage_return (slice_split feed xs))

lines_behind : (xs ys : List ℕ) → lines (xs ++ 10 ∷ ys) ≡ lines (xs ++ 10 ∷ []) ++ lines ys
lines_behind xs ys = lines_append xs ys ∙ ap (λ (zs : List (List ℕ)). zs ++ lines ys) (sym (lines_ended xs))

-- ---- the byte order mark

mark_behind : (xs ys : List ℕ) → without_byte_order_mark (xs ++ 10 ∷ ys) ≡ without_byte_order_mark xs ++ 10 ∷ ys
mark_behind [] [] = refl
mark_behind [] (x ∷ []) = refl
mark_behind [] (x ∷ y ∷ ys) = refl
mark_behind (a ∷ []) [] = refl
mark_behind (a ∷ []) (x ∷ ys) = rw (and-false (nat_eq a 0xEF)) refl
mark_behind (a ∷ b ∷ []) ys = rw (and-false (nat_eq b 0xBB), and-false (nat_eq a 0xEF)) refl
mark_behind (a ∷ b ∷ c ∷ more) ys = elim (cases_Bool (nat_eq a 0xEF && (nat_eq b 0xBB && nat_eq c 0xBF))) [
  | inl t ↦ rw t refl
  | inr f ↦ rw f refl
]

free_mark : (front : List ℕ) → HasNoFeed front → HasNoFeed (without_byte_order_mark front)
free_mark [] free = free
free_mark (a ∷ []) free = free
free_mark (a ∷ b ∷ []) free = free
free_mark (a ∷ b ∷ c ∷ more) free = elim (cases_Bool (nat_eq a 0xEF && (nat_eq b 0xBB && nat_eq c 0xBF))) [
  | inl t ↦ rw t free.1.1.1
  | inr f ↦ rw f free
]

-- ---- one line

free_split : (front : List ℕ) → HasNoFeed front → slice_split feed front ≡ front ∷ []
free_split front free = slice_split_none feed front (All-from_recursion (λ (b : ℕ). feed b ≡ false) front free)

ended_alone : (front : List ℕ) → HasNoFeed front → lines (front ++ 10 ∷ []) ≡ strip_carriage_return front ∷ []
ended_alone front free = lines_ended front ∙ ap (map strip_carriage_return) (free_split front free)

-- a text of one line at most
record AtMostOne (text : List ℕ) : Type 0 where
  either : (lines text ≡ []) ⊎ (lines text ≡ first_line text ∷ [])

last_by : (front : List ℕ) (b : Bool) → lines front ≡ cond b [] (front ∷ []) → AtMostOne front
last_by front true e = record { either = inl e }
last_by front false e = record { either = inr (e ∙ sym (ap (λ (ls : List (List ℕ)). first_of ls ∷ []) e)) }

last_alone : (front : List ℕ) → HasNoFeed front → AtMostOne front
last_alone front free = last_by front (length front == 0) (ap lines_of_parts (free_split front free))

-- the first of one
one_first : (text line : List ℕ) → lines text ≡ line ∷ [] → lines text ≡ first_line text ∷ []
one_first text line e = e ∙ sym (ap (λ (ls : List (List ℕ)). first_of ls ∷ []) e)

ended_line : (n : ℕ) (line : List ℕ) → IsLine line true → lines (behind_mark n line) ≡ first_line (behind_mark n line) ∷ []
ended_line n line one = elim (cases_Bool (n == 1)) [
  | inl t ↦
      let is : behind_mark n line ≡ without_byte_order_mark one.front ++ 10 ∷ [] = rw t (ap without_byte_order_mark one.is ∙ mark_behind one.front []) in
      one_first (behind_mark n line) (strip_carriage_return (without_byte_order_mark one.front)) (ap lines is ∙ ended_alone (without_byte_order_mark one.front) (free_mark one.front one.free))
  | inr f ↦
      let is : behind_mark n line ≡ one.front ++ 10 ∷ [] = rw f one.is in
      one_first (behind_mark n line) (strip_carriage_return one.front) (ap lines is ∙ ended_alone one.front one.free)
]

last_line : (n : ℕ) (line : List ℕ) → IsLine line false → AtMostOne (behind_mark n line)
last_line n line one = elim (cases_Bool (n == 1)) [
  | inl t ↦
      let is : without_byte_order_mark one.front ≡ behind_mark n line = rw t (ap without_byte_order_mark (sym (append-nil one.front) ∙ sym one.is)) in
      subst AtMostOne is (last_alone (without_byte_order_mark one.front) (free_mark one.front one.free))
  | inr f ↦
      let is : one.front ≡ behind_mark n line = rw f (sym (append-nil one.front) ∙ sym one.is) in
      subst AtMostOne is (last_alone one.front one.free)
]

-- ---- what was read so far

-- whole lines
abbrev AreWhole : List ℕ → Type 0
AreWhole bytes = (bytes ≡ []) ⊎ ((front : List ℕ) × (bytes ≡ front ++ 10 ∷ []))

-- SO MANY LINES WERE READ, which gave this draft: whatever lines follow.
pub record ReadSoFar (bytes : List ℕ) (n : ℕ) (draft : Draft) : Type 0 where
  pub utf8 : IsUtf8 bytes
  pub whole : AreWhole bytes
  pub count : length (lines (without_byte_order_mark bytes)) ≡ n
  pub said : (ls : List (List ℕ)) → script_said (sayings_from 1 (lines (without_byte_order_mark bytes) ++ ls)) ≡ drafted draft (sayings_from (n + 1) ls)

abbrev pub no_draft : Draft
no_draft = record { over = []; judge = None; calls = [] }

-- the script of a draft that is over
abbrev pub script_at : Draft → Script
script_at draft = record { phases = draft.over ++ record { judge = draft.judge; lines = draft.calls } ∷ [] }

abbrev script_ok : List Phase → Result Script ScriptFault
script_ok phases = Ok (record { phases = phases })

abbrev not_text : ℕ → Result Script ScriptFault
not_text offset = Err (faults.NotText offset)

from_none : (said : Result (List Saying) ScriptFault) → script_said said ≡ drafted no_draft said
from_none (Ok sayings) = ap script_ok (sym (calls_none (phases_of None sayings)))
from_none (Err fault) = refl

pub read_none : IsUtf8 [] → ReadSoFar [] 0 no_draft
read_none utf8 = record { utf8 = utf8; whole = inl refl; count = refl; said = λ ls. from_none (sayings_from 1 ls) }

-- the lines of all are those of the bytes, and those of the line
lines_with : (bytes : List ℕ) (n : ℕ) (line : List ℕ) → AreWhole bytes → length (lines (without_byte_order_mark bytes)) ≡ n → lines (without_byte_order_mark (bytes ++ line)) ≡ lines (without_byte_order_mark bytes) ++ lines (behind_mark (n + 1) line)
lines_with bytes n line (inl none) count =
    let zero_is : 0 ≡ n = ap (λ (bs : List ℕ). length (lines (without_byte_order_mark bs))) (sym none) ∙ count in
    subst (λ (bs : List ℕ). lines (without_byte_order_mark (bs ++ line)) ≡ lines (without_byte_order_mark bs) ++ lines (behind_mark (n + 1) line)) (sym none) (subst (λ (k : ℕ). lines (without_byte_order_mark line) ≡ lines (behind_mark (k + 1) line)) zero_is refl)
lines_with bytes n line (inr some) count =
    let front = some.0 in
    let joined : bytes ++ line ≡ front ++ 10 ∷ line = ap (λ (bs : List ℕ). bs ++ line) some.1 ∙ append_assoc front (10 ∷ []) line in
    let ended : without_byte_order_mark bytes ≡ without_byte_order_mark front ++ 10 ∷ [] = ap without_byte_order_mark some.1 ∙ mark_behind front [] in
    let more : behind_mark (n + 1) line ≡ line = later_line n line (subst (λ (k : ℕ). 1 ≤ k) (ap (λ (bs : List ℕ). length (lines bs)) (sym ended) ∙ count) (some_lines (without_byte_order_mark front))) in
    ap (λ (bs : List ℕ). lines (without_byte_order_mark bs)) joined
    ∙ ap lines (mark_behind front line)
    ∙ lines_behind (without_byte_order_mark front) line
    ∙ ap (λ (bs : List ℕ). lines bs ++ lines line) (sym ended)
    ∙ ap (λ (bs : List ℕ). lines (without_byte_order_mark bytes) ++ lines bs) (sym more)
  where
    some_lines : (xs : List ℕ) → 1 ≤ length (lines (xs ++ 10 ∷ []))
    some_lines xs = let some = some_parts xs in let is = ap (λ (ls : List (List ℕ)). length ls) (lines_ended xs ∙ ap (map strip_carriage_return) some.is) in omega (arith, is)

    later_line : (n : ℕ) (line : List ℕ) → 1 ≤ n → behind_mark (n + 1) line ≡ line
    later_line n line some = let later : ((n + 1) == 1) ≡ false = grind (arith, nat_tests, some) in rw later refl

-- what is said with one line more
said_with : (bytes : List ℕ) (n : ℕ) (draft : Draft) (line : List ℕ) (ls : List (List ℕ)) → ReadSoFar bytes n draft → script_said (sayings_from 1 (lines (without_byte_order_mark (bytes ++ line)) ++ ls)) ≡ drafted draft (sayings_from (n + 1) (lines (behind_mark (n + 1) line) ++ ls))
said_with bytes n draft line ls sofar =
    ap (λ (all : List (List ℕ)). script_said (sayings_from 1 (all ++ ls))) (lines_with bytes n line sofar.whole sofar.count)
    ∙ ap (λ (all : List (List ℕ)). script_said (sayings_from 1 all)) (append_assoc (lines (without_byte_order_mark bytes)) (lines (behind_mark (n + 1) line)) ls)
    ∙ sofar.said (lines (behind_mark (n + 1) line) ++ ls)

one_more : (draft : Draft) (n : ℕ) (line : List ℕ) (ls : List (List ℕ)) (saying : Saying) → says_at n line ≡ Ok saying → drafted draft (sayings_from n (line ∷ ls)) ≡ drafted (added draft saying) (sayings_from (n + 1) ls)
one_more draft n line ls saying e = ap (λ (said : Result Saying ScriptFault). drafted draft (saying_before said (sayings_from (n + 1) ls))) e ∙ drafted_more draft saying (sayings_from (n + 1) ls)

-- A LINE MORE WAS READ.
pub read_more : (bytes : List ℕ) (n : ℕ) (draft : Draft) (line : List ℕ) (saying : Saying) → ReadSoFar bytes n draft → IsLine line true → LineSays (n + 1) line saying → ReadSoFar (bytes ++ line) (n + 1) (added draft saying)
read_more bytes n draft line saying sofar one says =
    let text = behind_mark (n + 1) line in
    let here : lines text ≡ first_line text ∷ [] = ended_line (n + 1) line one in
    let all = lines_with bytes n line sofar.whole sofar.count in
    record {
      utf8 = IsUtf8-append bytes line sofar.utf8 says.utf8;
      whole = inr (bytes ++ one.front, ap (λ (bs : List ℕ). bytes ++ bs) one.is ∙ sym (append_assoc bytes one.front (10 ∷ [])));
      count = ap (λ (ls : List (List ℕ)). length ls) all ∙ length-append (lines (without_byte_order_mark bytes)) (lines text) ∙ ap (λ (k : ℕ). k + length (lines text)) sofar.count ∙ ap (λ (ls : List (List ℕ)). n + length ls) here;
      said = λ ls. said_with bytes n draft line ls sofar ∙ ap (λ (here_lines : List (List ℕ)). drafted draft (sayings_from (n + 1) (here_lines ++ ls))) here ∙ one_more draft (n + 1) (first_line text) ls saying says.says;
    }

ended_draft : (draft : Draft) → drafted draft (Ok []) ≡ Ok (script_at draft)
ended_draft draft = ap (λ (calls : List Line). script_ok (draft.over ++ record { judge = draft.judge; lines = calls } ∷ [])) (append-nil draft.calls)

-- THE SCRIPT of the lines that were read
pub script_read : (bytes : List ℕ) (n : ℕ) (draft : Draft) → ReadSoFar bytes n draft → script_of bytes ≡ Ok (script_at draft)
script_read bytes n draft sofar =
    script_utf8 bytes sofar.utf8
    ∙ ap (λ (all : List (List ℕ)). script_said (sayings_from 1 all)) (sym (append-nil (lines (without_byte_order_mark bytes))))
    ∙ sofar.said [] ∙ ended_draft draft

nothing_said : (n : ℕ) (saying : Saying) (b : Bool) → nat_lt 200000 n ≡ b → says_at n [] ≡ Ok saying → saying ≡ Nothing
nothing_said n saying true e says = let wrong = rw e at says in absurd (cc)
nothing_said n saying false e says = let said : ◌≡◌ {A = Result Saying ScriptFault} (Ok Nothing) (Ok saying) = rw e at says in cc

last_said : (text : List ℕ) (n : ℕ) (draft : Draft) (saying : Saying) → (lines text ≡ []) ⊎ (lines text ≡ first_line text ∷ []) → says_at n (first_line text) ≡ Ok saying → drafted draft (sayings_from n (lines text)) ≡ Ok (script_at (added draft saying))
last_said text n draft saying (inl none) says =
    let nothing : saying ≡ Nothing = nothing_said n saying (nat_lt 200000 n) refl (subst (λ (ls : List (List ℕ)). says_at n (first_of ls) ≡ Ok saying) none says) in
    ap (λ (all : List (List ℕ)). drafted draft (sayings_from n all)) none ∙ ended_draft draft ∙ ap (λ (s : Saying). script_ok (script_at (added draft s)).phases) (sym nothing)
last_said text n draft saying (inr here) says = ap (λ (all : List (List ℕ)). drafted draft (sayings_from n all)) here ∙ one_more draft n (first_line text) [] saying says ∙ ended_draft (added draft saying)

-- and with a last line, which has no end
pub script_with : (bytes : List ℕ) (n : ℕ) (draft : Draft) (line : List ℕ) (saying : Saying) → ReadSoFar bytes n draft → IsLine line false → LineSays (n + 1) line saying → script_of (bytes ++ line) ≡ Ok (script_at (added draft saying))
script_with bytes n draft line saying sofar one says =
    let text = behind_mark (n + 1) line in
    script_utf8 (bytes ++ line) (IsUtf8-append bytes line sofar.utf8 says.utf8)
    ∙ ap (λ (all : List (List ℕ)). script_said (sayings_from 1 all)) (sym (append-nil (lines (without_byte_order_mark (bytes ++ line)))))
    ∙ said_with bytes n draft line [] sofar
    ∙ ap (λ (all : List (List ℕ)). drafted draft (sayings_from (n + 1) all)) (append-nil (lines text))
    ∙ last_said text (n + 1) draft saying (last_line (n + 1) line one).either says.says

-- ---- faults

-- behind UTF-8 bytes, those that are UTF-8 with them are it alone
utf8_behind : (bytes line : List ℕ) → IsUtf8 bytes → IsUtf8 (bytes ++ line) → IsUtf8 line
utf8_behind bytes line first all =
    let at : IsCharBoundary (bytes ++ line) (length bytes) = IsCharBoundary-from_take (bytes ++ line) (length bytes) all (let size = length-append bytes line in omega (arith, size)) (subst IsUtf8 (sym (take-append_seam bytes line)) first) in
    subst IsUtf8 (drop-append_seam bytes line) (IsUtf8-drop (bytes ++ line) (length bytes) all at)

valid_behind : (bytes line : List ℕ) (k : ℕ) → IsUtf8 bytes → IsValidUpTo line k → IsValidUpTo (bytes ++ line) (length bytes + k)
valid_behind bytes line k first valid = record {
  short = let size = length-append bytes line in omega (arith, size, valid.short);
  front = subst IsUtf8 (sym (take-append-add bytes line k)) (IsUtf8-append bytes (take k line) first valid.front);
  longest = λ m past utf8.
      let is : length bytes + (m - length bytes) ≡ m = omega (arith, past) in
      let cut : take m (bytes ++ line) ≡ bytes ++ take (m - length bytes) line = ap (λ (j : ℕ). take j (bytes ++ line)) (sym is) ∙ take-append-add bytes line (m - length bytes) in
      valid.longest (m - length bytes) (omega (arith, past)) (utf8_behind bytes (take (m - length bytes) line) first (subst IsUtf8 cut utf8));
}

-- THE FIRST FAULT of all bytes is one of UTF-8
pub broken_with : (bytes : List ℕ) (n : ℕ) (draft : Draft) (line : List ℕ) (k : ℕ) → ReadSoFar bytes n draft → IsValidUpTo line k → script_of (bytes ++ line) ≡ Err (faults.NotText (length bytes + k))
unfolding script_of
broken_with bytes n draft line k sofar valid =
    let all = valid_behind bytes line k sofar.utf8 valid in
    let at : utf8_valid_len (bytes ++ line) ≡ length bytes + k = utf8_valid_len-IsValidUpTo (bytes ++ line) (length bytes + k) all in
    let not_all : (utf8_valid_len (bytes ++ line) == length (bytes ++ line)) ≡ false = let short = all.short in grind (arith, nat_tests, at, short) in
    rw not_all (ap not_text at)

-- or the line's
fault_said : (bytes : List ℕ) (n : ℕ) (draft : Draft) (line : List ℕ) (fault : ScriptFault) → ReadSoFar bytes n draft → IsUtf8 line → lines (behind_mark (n + 1) line) ≡ first_line (behind_mark (n + 1) line) ∷ [] → said_at (n + 1) line ≡ Err fault → script_of (bytes ++ line) ≡ Err fault
fault_said bytes n draft line fault sofar utf8 here says =
    let text = behind_mark (n + 1) line in
    script_utf8 (bytes ++ line) (IsUtf8-append bytes line sofar.utf8 utf8)
    ∙ ap (λ (all : List (List ℕ)). script_said (sayings_from 1 all)) (sym (append-nil (lines (without_byte_order_mark (bytes ++ line)))))
    ∙ said_with bytes n draft line [] sofar
    ∙ ap (λ (all : List (List ℕ)). drafted draft (sayings_from (n + 1) all)) (append-nil (lines text) ∙ here)
    ∙ ap (λ (said : Result Saying ScriptFault). drafted draft (saying_before said (sayings_from (n + 1 + 1) []))) says

pub fault_ended : (bytes : List ℕ) (n : ℕ) (draft : Draft) (line : List ℕ) (fault : ScriptFault) → ReadSoFar bytes n draft → IsLine line true → IsUtf8 line → said_at (n + 1) line ≡ Err fault → script_of (bytes ++ line) ≡ Err fault
fault_ended bytes n draft line fault sofar one utf8 says = fault_said bytes n draft line fault sofar utf8 (ended_line (n + 1) line one) says

-- an empty line has no fault but that it is one too many
too_many : (n : ℕ) (fault : ScriptFault) (b : Bool) → nat_lt 200000 n ≡ b → says_at n [] ≡ Err fault → 200000 < n
too_many n fault true e says = ltb-true 200000 n e
too_many n fault false e says = let wrong : ◌≡◌ {A = Result Saying ScriptFault} (Ok Nothing) (Err fault) = rw e at says in absurd (cc)

some_line : (front : List ℕ) (b : Bool) → (length front == 0) ≡ b → 0 < length front → cond b [] (front ∷ []) ≡ [] → ⊥
some_line front true e some none = let empty : length front ≡ 0 = eqb-true (length front) 0 e in absurd (omega (arith, empty, some))
some_line front false e some none = absurd (cc)

pub fault_last : (bytes : List ℕ) (n : ℕ) (draft : Draft) (line : List ℕ) (fault : ScriptFault) → ReadSoFar bytes n draft → IsLine line false → 0 < length line → IsUtf8 line → said_at (n + 1) line ≡ Err fault → script_of (bytes ++ line) ≡ Err fault
fault_last bytes n draft line fault sofar one some utf8 says = elim (last_line (n + 1) line one).either [
  | inl none ↦
      let past = too_many (n + 1) fault (nat_lt 200000 (n + 1)) refl (subst (λ (ls : List (List ℕ)). says_at (n + 1) (first_of ls) ≡ Err fault) none says) in
      let is : line ≡ one.front = one.is ∙ append-nil one.front in
      let later : behind_mark (n + 1) line ≡ line = let not_first : ((n + 1) == 1) ≡ false = grind (arith, nat_tests, past) in rw not_first refl in
      absurd (some_line one.front (length one.front == 0) refl (subst (λ (bs : List ℕ). 0 < length bs) is some) (sym (ap lines_of_parts (free_split one.front one.free)) ∙ ap lines (sym is ∙ sym later) ∙ none))
  | inr here ↦ fault_said bytes n draft line fault sofar utf8 here says
]
