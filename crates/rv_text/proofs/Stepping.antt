-- What is read of bytes, by the cuts at the ends of a call and of its answer.
use Rattle.std.proofs.Common.{◌≡◌, ℕ, ◌+◌, ◌<◌, List, [], ◌∷◌, ◌++◌, Option, Some, None, Result, Ok, Err, refl, ap, sym, subst, ◌∙◌, length, arith, IfOk, append_assoc, append-nil}
use Rattle.rv_model.specs.declared.entry.Entry.{Entry}
use denote.Ref.{Bor}
use Rattle.std.specs.Option.{option_copied}
use Rattle.rv_value.specs.declared.duplicate.NoMemory.{NoMemory}
use Rattle.rv_text.specs.declared.reading.Front.{Front}
use Rattle.rv_text.specs.declared.reading.Front.TheVariants as fronts
use Rattle.rv_text.specs.Lines.{cut, Split}
use Rattle.rv_text.specs.Steps.{answered, Fronts}
use Rattle.rv_text.specs.Texts.{calls_of, call_at, entries_before, read_from, whole, Call}
use Rattle.rv_text.proofs.Cutting.{behind, cut_whole, lines_by, split_cut}
use Rattle.rv_text.proofs.Transcribing.{reads, Reads}

-- what is read behind the line of a call
abbrev pub called : ℕ → Option Call → List ℕ → Option (List ℕ) → Result (List Entry) ℕ
called line None word more = Err line
called line (Some call) word more = answered line call word more

abbrev pub called_at : ℕ → Option Call → List ℕ → Result (List Entry) ℕ
called_at line call bytes = called line call (cut 10 bytes).word (cut 10 bytes).more

whole_bad : (n : ℕ) (bytes : List ℕ) → 0 < length bytes → whole n bytes ≡ Err n
whole_bad n [] some = absurd (omega arith)
whole_bad n (c ∷ cs) some = refl

lines_read : (n : ℕ) (bytes word : List ℕ) (more : Option (List ℕ)) → (cut 10 bytes).word ≡ word → (cut 10 bytes).more ≡ more → read_from n bytes ≡ calls_of n (lines_by word more).lines (lines_by word more).rest
lines_read n bytes word more w m = ap (λ (s : Split). calls_of n s.lines s.rest) (split_cut bytes ∙ (λ i. lines_by (w i) (m i)))

-- where no line ends
pub read_none : (n : ℕ) (bytes : List ℕ) → 0 < length bytes → (cut 10 bytes).more ≡ None → read_from n bytes ≡ Err n
read_none n bytes some none =
    let all : (cut 10 bytes).word ≡ bytes = sym (append-nil (cut 10 bytes).word) ∙ ap (λ m. (cut 10 bytes).word ++ behind 10 m) (sym none) ∙ cut_whole 10 bytes in
    lines_read n bytes bytes None all none ∙ whole_bad n bytes some

two_lines : (n : ℕ) (word next : List ℕ) (call : Option Call) (more : Option (List ℕ)) → call_at word ≡ call → calls_of n (word ∷ (lines_by next more).lines) (lines_by next more).rest ≡ called n call next more
two_lines n word next None None e = rw e refl
two_lines n word next None (Some more) e = rw e refl
two_lines n word next (Some call) None e = rw e refl
two_lines n word next (Some call) (Some more) e = rw e refl

-- where a line ends
pub read_some : (n : ℕ) (bytes more : List ℕ) (call : Option Call) → (cut 10 bytes).more ≡ Some more → call_at (cut 10 bytes).word ≡ call → read_from n bytes ≡ called_at n call more
read_some n bytes more call m e =
    lines_read n bytes (cut 10 bytes).word (Some more) refl m
    ∙ ap (λ (s : Split). calls_of n ((cut 10 bytes).word ∷ s.lines) s.rest) (split_cut more)
    ∙ two_lines n (cut 10 bytes).word (cut 10 more).word call (cut 10 more).more e

pub before_twice : (a b : List Entry) (r : Result (List Entry) ℕ) → entries_before a (entries_before b r) ≡ entries_before (a ++ b) r
before_twice a b (Ok es) = ap (λ xs. Ok xs) (sym (append_assoc a b es))
before_twice a b (Err n) = refl

-- the whole was read
pub told_whole : (bytes : List ℕ) (n : ℕ) (left : List ℕ) (entries : List Entry) → length left ≡ 0 → entries_before entries (read_from n left) ≡ read_from 1 bytes → Reads bytes (Ok entries)
told_whole bytes n [] entries none is = subst (λ (es : List Entry). Reads bytes (Ok es)) (append-nil entries) (subst (Reads bytes) (sym is) (reads bytes))
told_whole bytes n (c ∷ cs) entries none is = absurd (omega (arith, none))

-- a line is bad
pub told_bad : (bytes : List ℕ) (read : Result (List Entry) ℕ) (at : ℕ) (entries : List Entry) → read ≡ Err at → entries_before entries read ≡ read_from 1 bytes → Reads bytes (Err at)
told_bad bytes read at entries bad is = subst (Reads bytes) (sym (ap (λ r. entries_before entries r) (sym bad) ∙ is)) (reads bytes)

-- By what a cut of the code gave.

-- a line with its end, behind which more stands
pub line_read : (line : ℕ) (bytes word : List ℕ) (r : Option (Bor (List ℕ))) (behind : Bor (List ℕ)) (call : Option Call) → word ≡ (cut 10 bytes).word → option_copied r ≡ (cut 10 bytes).more → r ≡ Some behind → call ≡ call_at word → read_from line bytes ≡ called_at line call behind.now
line_read line bytes word r behind call w m is e = read_some line bytes behind.now call (sym m ∙ ap option_copied is) (ap call_at (sym w) ∙ sym e)

-- no end of a line
pub no_line : (line : ℕ) (bytes : List ℕ) (r : Option (Bor (List ℕ))) → 0 < length bytes → option_copied r ≡ (cut 10 bytes).more → r ≡ None → read_from line bytes ≡ Err line
no_line line bytes r some m is = read_none line bytes some (sym m ∙ ap option_copied is)

-- a front of the bytes behind a line is one of all
pub fronts_more : (bytes behind : List ℕ) (line : ℕ) (r s : Result (List Entry) ℕ) (front : Front) → length behind < length bytes → s ≡ r → Fronts behind line r front → Fronts bytes line s front
fronts_more bytes behind line r s (fronts.Entry entry more) less same f = (let shorter = f.0 in omega (arith, less, shorter), same ∙ f.1)
fronts_more bytes behind line r s (fronts.Bad at) less same f = same ∙ f

pub fronts_all : (bytes behind : List ℕ) (line : ℕ) (r s : Result (List Entry) ℕ) (result : Result Front NoMemory) → length behind < length bytes → s ≡ r → IfOk result (λ front. Fronts behind line r front) → IfOk result (λ front. Fronts bytes line s front)
fronts_all bytes behind line r s (Ok front) less same f = fronts_more bytes behind line r s front less same f
fronts_all bytes behind line r s (Err e) less same f = tt

-- one entry more
pub entry_read : (bytes left behind : List ℕ) (line : ℕ) (entries : List Entry) (entry : Entry) → read_from line left ≡ entries_before (entry ∷ []) (read_from (line + 2) behind) → entries_before entries (read_from line left) ≡ read_from 1 bytes → entries_before (entries ++ entry ∷ []) (read_from (line + 2) behind) ≡ read_from 1 bytes
entry_read bytes left behind line entries entry front whole = sym (before_twice entries (entry ∷ []) (read_from (line + 2) behind)) ∙ ap (entries_before entries) (sym front) ∙ whole
