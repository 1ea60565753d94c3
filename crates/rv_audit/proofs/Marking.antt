-- An input is parted at the first cut whose line is the mark.
use Rattle.std.proofs.Common.{◌≡◌, ℕ, ◌+◌, ◌≤◌, List, [], ◌∷◌, ◌++◌, true, false, cond, Option, Some, None, inl, inr, refl, ap, sym, ◌∙◌, length, take, arith, bytes_eq, codes, append_assoc, append-nil, length-append}
use Rattle.std.proofs.lemmas.Bool.{cases_Bool}
use Rattle.std.proofs.lemmas.Option.{same_Some}
use Rattle.rv_value.proofs.Lists.{front_taken}
use Rattle.rv_value.proofs.Tests.{no_some}
use Rattle.rv_text.specs.Lines.{cut, split, Split}
use Rattle.rv_text.proofs.Cutting.{behind, cut_whole, split_cut, split_of, split_whole, unsplit}
use Rattle.rv_audit.specs.Marks.{behind_line, ended, is_mark, parted, parted_lines, Parted}

ended_is : (ls : List (List ℕ)) (rest : List ℕ) → ended ls rest ≡ unsplit ls ++ rest
ended_is [] rest = refl
ended_is (l ∷ ls) rest = ap (λ bs. l ++ 10 ∷ bs) (ended_is ls rest) ∙ sym (append_assoc l (10 ∷ unsplit ls) rest)

pub ended_whole : (bytes : List ℕ) → ended (split bytes).lines (split bytes).rest ≡ bytes
ended_whole bytes = ended_is (split bytes).lines (split bytes).rest ∙ split_whole bytes

abbrev pub parts : List ℕ → List ℕ → Parted
parts script transcript = record { script = script; transcript = transcript }

-- an input by its first cut
abbrev pub cut_parted : List ℕ → Option (List ℕ) → Option Parted
cut_parted word None = cond (bytes_eq word (codes "====")) (Some (parts [] [])) None
cut_parted word (Some more) = cond (is_mark word) (Some (parts [] more)) (behind_line word (parted more))

pub parted_cut : (text : List ℕ) → parted text ≡ cut_parted (cut 10 text).word (cut 10 text).more
parted_cut text = ap (λ (s : Split). parted_lines s.lines s.rest) (split_cut text) ∙ by (cut 10 text).word (cut 10 text).more
  where
    by : (w : List ℕ) (more : Option (List ℕ)) → parted_lines (split_of (record { word = w; more = more })).lines (split_of (record { word = w; more = more })).rest ≡ cut_parted w more
    by w None = refl
    by w (Some more) = ap (λ bs. cond (is_mark w) (Some (parts [] bs)) (behind_line w (parted more))) (ended_whole more)

abbrev pub after_front : List ℕ → Option Parted → Option Parted
after_front front None = None
after_front front (Some p) = Some (parts (front ++ p.script) p.transcript)

-- what was passed of an input, without a mark
pub record PassedSo (input : List ℕ) (passed : ℕ) (left : List ℕ) : Type 0 where
  pub front : List ℕ
  pub whole : front ++ left ≡ input
  pub count : length front ≡ passed
  pub is : parted input ≡ after_front front (parted left)

pub passed_none : (input : List ℕ) → PassedSo input 0 input
passed_none input = record { front = []; whole = refl; count = refl; is = by (parted input) }
  where
    by : (o : Option Parted) → o ≡ after_front [] o
    by None = refl
    by (Some p) = refl

front_line : (front word : List ℕ) (o : Option Parted) → after_front front (behind_line word o) ≡ after_front (front ++ (word ++ 10 ∷ [])) o
front_line front word None = refl
front_line front word (Some p) = ap (λ bs. Some (parts bs p.transcript)) (ap (λ bs. front ++ bs) (sym (append_assoc word (10 ∷ []) p.script)) ∙ sym (append_assoc front (word ++ 10 ∷ []) p.script))

pub passed_line : (input left word more : List ℕ) (passed : ℕ) → PassedSo input passed left → word ≡ (cut 10 left).word → Some more ≡ (cut 10 left).more → is_mark word ≡ false → PassedSo input (passed + (length word + 1)) more
passed_line input left word more passed p w m not_mark = record {
  front = p.front ++ (word ++ 10 ∷ []);
  whole = append_assoc p.front (word ++ 10 ∷ []) more ∙ ap (λ bs. p.front ++ bs) (append_assoc word (10 ∷ []) more ∙ (λ i. w i ++ behind 10 (m i)) ∙ cut_whole 10 left) ∙ p.whole;
  count = (let a = length-append p.front (word ++ 10 ∷ []) in let b = length-append word (10 ∷ []) in let n = p.count in omega (arith, a, b, n));
  is = p.is ∙ ap (after_front p.front) (parted_cut left ∙ (λ i. cut_parted (sym w i) (sym m i)) ∙ (λ i. cond (not_mark i) (Some (parts [] more)) (behind_line word (parted more)))) ∙ front_line p.front word (parted more);
}

pub passed_mark : (input left word more : List ℕ) (passed : ℕ) → PassedSo input passed left → word ≡ (cut 10 left).word → Some more ≡ (cut 10 left).more → is_mark word ≡ true → Some (parts (take passed input) more) ≡ parted input
passed_mark input left word more passed p w m mark = sym (
    p.is ∙ ap (after_front p.front) (parted_cut left ∙ (λ i. cut_parted (sym w i) (sym m i)) ∙ (λ i. cond (mark i) (Some (parts [] more)) (behind_line word (parted more))))
    ∙ ap (λ bs. Some (parts bs more)) (append-nil p.front ∙ sym (front_taken p.front left input passed p.whole p.count)))

last_line : (left word : List ℕ) → word ≡ (cut 10 left).word → None ≡ (cut 10 left).more → parted left ≡ cond (bytes_eq left (codes "====")) (Some (parts [] [])) None
last_line left word w m = parted_cut left ∙ (λ i. cut_parted (sym w i) (sym m i)) ∙ ap (λ bs. cond (bytes_eq bs (codes "====")) (Some (parts [] [])) None) (sym (append-nil word) ∙ (λ i. w i ++ behind 10 (m i)) ∙ cut_whole 10 left)

pub passed_last : (input left word : List ℕ) (passed : ℕ) → PassedSo input passed left → word ≡ (cut 10 left).word → None ≡ (cut 10 left).more → bytes_eq left (codes "====") ≡ true → Some (parts (take passed input) []) ≡ parted input
passed_last input left word passed p w m mark = sym (
    p.is ∙ ap (after_front p.front) (last_line left word w m ∙ (λ i. cond (mark i) (Some (parts [] [])) None))
    ∙ ap (λ bs. Some (parts bs [])) (append-nil p.front ∙ sym (front_taken p.front left input passed p.whole p.count)))

pub passed_all : (input left word : List ℕ) (passed : ℕ) → PassedSo input passed left → word ≡ (cut 10 left).word → None ≡ (cut 10 left).more → bytes_eq left (codes "====") ≡ false → None ≡ parted input
passed_all input left word passed p w m no_mark = sym (p.is ∙ ap (after_front p.front) (last_line left word w m ∙ (λ i. cond (no_mark i) (Some (parts [] [])) None)))

-- so much of the input was passed
pub passed_within : (input left : List ℕ) (passed : ℕ) → PassedSo input passed left → passed + length left ≡ length input
passed_within input left passed p = (let a = length-append p.front left in let b = ap (λ bs. length bs) p.whole in let n = p.count in omega (arith, a, b, n))

-- a line and its end are no longer than what they were cut from
pub line_within : (left word more : List ℕ) → word ≡ (cut 10 left).word → Some more ≡ (cut 10 left).more → length word + 1 + length more ≡ length left
line_within left word more w m = (let whole = (λ i. w i ++ behind 10 (m i)) ∙ cut_whole 10 left in let a = ap (λ bs. length bs) whole in let b = length-append word (10 ∷ more) in omega (arith, a, b))

-- a transcript is no longer than its input

lines_within : (ls : List (List ℕ)) (rest : List ℕ) (p : Parted) → parted_lines ls rest ≡ Some p → length p.transcript ≤ length (ended ls rest)
lines_within [] rest p e = elim (cases_Bool (bytes_eq rest (codes "===="))) [
  | inl t ↦ let n = ap (λ (q : Parted). length q.transcript) (same_Some (parts [] []) p (rw t at e)) in omega (arith, n)
  | inr f ↦ (let none : None ≡ Some p = rw f at e in no_some none)
]
lines_within (l ∷ ls) rest p e = elim (cases_Bool (is_mark l)) [
  | inl t ↦
      let n = ap (λ (q : Parted). length q.transcript) (same_Some (parts [] (ended ls rest)) p (rw t at e)) in
      let m = length-append l (10 ∷ ended ls rest) in
      omega (arith, n, m)
  | inr f ↦ by (λ q is. lines_within ls rest q is) (parted_lines ls rest) refl (rw f at e)
]
  where
    by : ((q : Parted) → parted_lines ls rest ≡ Some q → length q.transcript ≤ length (ended ls rest)) → (o : Option Parted) → parted_lines ls rest ≡ o → behind_line l o ≡ Some p → length p.transcript ≤ length (l ++ 10 ∷ ended ls rest)
    by within None is e = no_some e
    by within (Some q) is e =
        let n = ap (λ (r : Parted). length r.transcript) (same_Some (parts (l ++ 10 ∷ q.script) q.transcript) p e) in
        let m = length-append l (10 ∷ ended ls rest) in
        let ih = within q is in
        omega (arith, n, m, ih)

pub transcript_few : (input : List ℕ) (p : Parted) (most : ℕ) → Some p ≡ parted input → length input ≤ most → length p.transcript ≤ most
transcript_few input p most e few =
    let n = lines_within (split input).lines (split input).rest p (sym e) in
    let m = ap (λ bs. length bs) (ended_whole input) in
    omega (arith, n, m, few)
