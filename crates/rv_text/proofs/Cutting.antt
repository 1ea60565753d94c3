-- Bytes are cut and put together again.
use Rattle.std.proofs.Common.{◌≡◌, ℕ, zero, suc, ◌≤◌, List, [], ◌∷◌, ◌++◌, Option, Some, None, Bool, true, false, not, ◌&&◌, cond, inl, inr, refl, ap, sym, ◌∙◌, length, take, arith, eqb, append_assoc, append-nil}
use Rattle.std.proofs.lemmas.Bool.{cases_Bool, and_parts, not-true}
use Rattle.std.proofs.lemmas.Bool.Decides.{nat_tests}
use Rattle.std.specs.List.{list_all, AllByRecursion}
use Rattle.rv_model.specs.Transcript.{words_text, IsLine}
use Rattle.rv_text.specs.Lines.{cut, extended, grown, split, Cut, Split}
use Rattle.rv_text.specs.Reading.{ends, front}
use Rattle.rv_text.specs.Values.{piece_grown, pieces, pieces_of, value_cut}
use Rattle.rv_text.specs.Traces.{word_grown, words, words_of}

pub extended_twice : (a b : List ℕ) (c : Cut) → extended a (extended b c) ≡ extended (a ++ b) c
extended_twice a b c = ap (λ w. record { word = w; more = c.more }) (sym (append_assoc a b c.word))

-- At one byte.

abbrev pub behind : ℕ → Option (List ℕ) → List ℕ
behind byte None = []
behind byte (Some more) = byte ∷ more

-- what was cut is whole again
pub cut_whole : (byte : ℕ) (text : List ℕ) → (cut byte text).word ++ behind byte (cut byte text).more ≡ text
cut_whole byte [] = refl
cut_whole byte (c ∷ cs) = elim (cases_Bool (eqb c byte)) [
  | inl t ↦ let e : c ≡ byte = grind (arith, nat_tests) in rw t (λ i. sym e i ∷ cs)
  | inr f ↦ rw f (ap (λ bs. c ∷ bs) (cut_whole byte cs))
]

abbrev pub lacks : ℕ → List ℕ → Bool
lacks byte word = list_all (λ c. not (eqb c byte)) word

-- a word without the byte
pub cut_word : (byte : ℕ) (word more : List ℕ) → lacks byte word ≡ true → cut byte (word ++ byte ∷ more) ≡ record { word = word; more = Some more }
cut_word byte [] more h = let same : eqb byte byte ≡ true = grind (arith, nat_tests) in rw same refl
cut_word byte (c ∷ cs) more h =
    let parts = and_parts (not (eqb c byte)) (lacks byte cs) h in
    rw (not-true (eqb c byte) parts.0) (ap (λ x. extended (c ∷ []) x) (cut_word byte cs more parts.1))

pub cut_all : (byte : ℕ) (word : List ℕ) → lacks byte word ≡ true → cut byte word ≡ record { word = word; more = None }
cut_all byte [] h = refl
cut_all byte (c ∷ cs) h =
    let parts = and_parts (not (eqb c byte)) (lacks byte cs) h in
    rw (not-true (eqb c byte) parts.0) (ap (λ x. extended (c ∷ []) x) (cut_all byte cs parts.1))

-- Lines.

abbrev pub AreLines : List (List ℕ) → Type 0
AreLines = AllByRecursion IsLine

abbrev pub lines_by : List ℕ → Option (List ℕ) → Split
lines_by w None = record { lines = []; rest = w }
lines_by w (Some more) = record { lines = w ∷ (split more).lines; rest = (split more).rest }

abbrev pub split_of : Cut → Split
split_of c = lines_by c.word c.more

pub split_cut : (bytes : List ℕ) → split bytes ≡ split_of (cut 10 bytes)
split_cut [] = refl
split_cut (c ∷ cs) = elim (cases_Bool (eqb c 10)) [
  | inl t ↦ rw t refl
  | inr f ↦ rw f (ap (λ (s : Split). grown c s.lines s.rest) (split_cut cs) ∙ by (cut 10 cs).word (cut 10 cs).more)
]
  where
    by : (w : List ℕ) (more : Option (List ℕ)) → grown c (split_of (record { word = w; more = more })).lines (split_of (record { word = w; more = more })).rest ≡ split_of (extended (c ∷ []) (record { word = w; more = more }))
    by w None = refl
    by w (Some more) = refl

-- a line and what stands behind its end
pub split_line : (line more : List ℕ) → IsLine line → split (line ++ 10 ∷ more) ≡ record { lines = line ∷ (split more).lines; rest = (split more).rest }
split_line line more h = split_cut (line ++ 10 ∷ more) ∙ ap split_of (cut_word 10 line more h)

abbrev pub unsplit : List (List ℕ) → List ℕ
unsplit [] = []
unsplit (l ∷ ls) = l ++ 10 ∷ unsplit ls

pub split_unsplit : (ls : List (List ℕ)) (more : List ℕ) → AreLines ls → split (unsplit ls ++ more) ≡ record { lines = ls ++ (split more).lines; rest = (split more).rest }
split_unsplit [] more h = refl
split_unsplit (l ∷ ls) more h =
    ap split (append_assoc l (10 ∷ unsplit ls) more) ∙ split_line l (unsplit ls ++ more) h.0
    ∙ ap (λ (s : Split). record { lines = l ∷ s.lines; rest = s.rest }) (split_unsplit ls more h.1)

pub lines_of : (bytes : List ℕ) → AreLines (split bytes).lines
lines_of [] = tt
lines_of (c ∷ cs) = elim (cases_Bool (eqb c 10)) [
  | inl t ↦ rw t (refl, lines_of cs)
  | inr f ↦ rw f (grown_lines c (split cs).lines (split cs).rest f (lines_of cs))
]
  where
    grown_lines : (c : ℕ) (ls : List (List ℕ)) (rest : List ℕ) → eqb c 10 ≡ false → AreLines ls → AreLines (grown c ls rest).lines
    grown_lines c [] rest f h = tt
    grown_lines c (l ∷ ls) rest f h = (rw f h.0, h.1)

pub split_whole : (bytes : List ℕ) → unsplit (split bytes).lines ++ (split bytes).rest ≡ bytes
split_whole [] = refl
split_whole (c ∷ cs) = elim (cases_Bool (eqb c 10)) [
  | inl t ↦ let e : c ≡ 10 = grind (arith, nat_tests) in rw t (λ i. sym e i ∷ split_whole cs i)
  | inr f ↦ rw f (in_line (split cs).lines (split cs).rest ∙ ap (λ bs. c ∷ bs) (split_whole cs))
]
  where
    in_line : (ls : List (List ℕ)) (rest : List ℕ) → unsplit (grown c ls rest).lines ++ (grown c ls rest).rest ≡ c ∷ (unsplit ls ++ rest)
    in_line [] rest = refl
    in_line (l ∷ ls) rest = refl

-- the first lines are the front, and there are as many as there are line feeds
pub ends_is : (bytes : List ℕ) → ends bytes ≡ length (split bytes).lines
ends_is [] = refl
ends_is (c ∷ cs) = elim (cases_Bool (eqb c 10)) [
  | inl t ↦ rw t (ap (λ n. suc n) (ends_is cs))
  | inr f ↦ rw f (ends_is cs ∙ grown_count c (split cs).lines (split cs).rest)
]
  where
    grown_count : (c : ℕ) (ls : List (List ℕ)) (rest : List ℕ) → length ls ≡ length (grown c ls rest).lines
    grown_count c [] rest = refl
    grown_count c (l ∷ ls) rest = refl

pub front_is : (k : ℕ) (bytes : List ℕ) → k ≤ length (split bytes).lines → front k bytes ≡ unsplit (take k (split bytes).lines)
front_is zero bytes h = refl
front_is (suc k) [] h = absurd (omega arith)
front_is (suc k) (c ∷ cs) h = elim (cases_Bool (eqb c 10)) [
  | inl t ↦ let e : c ≡ 10 = grind (arith, nat_tests) in rw t (let less = rw t at h in (λ i. e i ∷ front_is k cs (omega (arith, less)) i))
  | inr f ↦ rw f (in_line (split cs).lines (split cs).rest refl (rw f at h) (front_is (suc k) cs))
]
  where
    in_line : (ls : List (List ℕ)) (rest : List ℕ) → ls ≡ (split cs).lines → suc k ≤ length (grown c ls rest).lines → (suc k ≤ length (split cs).lines → front (suc k) cs ≡ unsplit (take (suc k) (split cs).lines)) → c ∷ front (suc k) cs ≡ unsplit (take (suc k) (grown c ls rest).lines)
    in_line [] rest at less ih = absurd (omega (arith, less))
    in_line (l ∷ ls) rest at less ih =
        let enough : suc k ≤ length (split cs).lines = rw (sym at) less in
        ap (λ bs. c ∷ bs) (ih enough ∙ ap (λ xs. unsplit (take (suc k) xs)) (sym at))

-- Words.

pub words_cut : (text : List ℕ) → words text ≡ (cut 32 text).word ∷ words_of (cut 32 text).more
words_cut [] = refl
words_cut (c ∷ cs) = elim (cases_Bool (eqb c 32)) [
  | inl t ↦ rw t refl
  | inr f ↦ rw f (ap (λ ws. word_grown c ws) (words_cut cs))
]

abbrev pub unworded : List (List ℕ) → List ℕ
unworded [] = []
unworded (w ∷ ws) = w ++ words_text ws

pub words_whole : (text : List ℕ) → unworded (words text) ≡ text
words_whole [] = refl
words_whole (c ∷ cs) = elim (cases_Bool (eqb c 32)) [
  | inl t ↦ let e : c ≡ 32 = grind (arith, nat_tests) in rw t (spaced_some (words cs) (cut 32 cs).word (words_of (cut 32 cs).more) (words_cut cs) ∙ (λ i. sym e i ∷ words_whole cs i))
  | inr f ↦ rw f (grown_whole (words cs) ∙ ap (λ bs. c ∷ bs) (words_whole cs))
]
  where
    spaced_some : (ws : List (List ℕ)) (w : List ℕ) (us : List (List ℕ)) → ws ≡ w ∷ us → words_text ws ≡ 32 ∷ unworded ws
    spaced_some ws w us e = rw e refl

    grown_whole : (ws : List (List ℕ)) → unworded (word_grown c ws) ≡ c ∷ unworded ws
    grown_whole [] = refl
    grown_whole (w ∷ ws) = refl

abbrev pub AreWords : List (List ℕ) → Type 0
AreWords = AllByRecursion (λ (w : List ℕ). lacks 32 w ≡ true)

pub words_again : (w : List ℕ) (ws : List (List ℕ)) → lacks 32 w ≡ true → AreWords ws → words (w ++ words_text ws) ≡ w ∷ ws
words_again w [] h hs = ap words (append-nil w) ∙ words_cut w ∙ ap (λ (c : Cut). c.word ∷ words_of c.more) (cut_all 32 w h)
words_again w (v ∷ vs) h hs = words_cut (w ++ words_text (v ∷ vs)) ∙ ap (λ (c : Cut). c.word ∷ words_of c.more) (cut_word 32 w (v ++ words_text vs) h) ∙ ap (λ us. w ∷ us) (words_again v vs hs.0 hs.1)

-- Pieces of a row.

pub pieces_cut : (inside : Bool) (text : List ℕ) → pieces inside text ≡ (value_cut inside text).word ∷ pieces_of (value_cut inside text).more
pieces_cut inside [] = refl
pieces_cut inside (c ∷ cs) = elim (cases_Bool (not inside && eqb c 44)) [
  | inl t ↦ rw t refl
  | inr f ↦ rw f (ap (λ ps. piece_grown c ps) (pieces_cut (cond (eqb c 39) (not inside) inside) cs))
]

abbrev pub comma_joined : List (List ℕ) → List ℕ
comma_joined [] = []
comma_joined (p ∷ ps) = 44 ∷ p ++ comma_joined ps

abbrev pub unpieced : List (List ℕ) → List ℕ
unpieced [] = []
unpieced (p ∷ ps) = p ++ comma_joined ps

pub pieces_whole : (inside : Bool) (text : List ℕ) → unpieced (pieces inside text) ≡ text
pieces_whole inside [] = refl
pieces_whole inside (c ∷ cs) = elim (cases_Bool (not inside && eqb c 44)) [
  | inl t ↦ let comma = (and_parts (not inside) (eqb c 44) t).1 in let e : c ≡ 44 = grind (arith, nat_tests) in rw t (comma_some (pieces false cs) (value_cut false cs).word (pieces_of (value_cut false cs).more) (pieces_cut false cs) ∙ (λ i. sym e i ∷ pieces_whole false cs i))
  | inr f ↦ rw f (grown_whole (pieces (cond (eqb c 39) (not inside) inside) cs) ∙ ap (λ bs. c ∷ bs) (pieces_whole (cond (eqb c 39) (not inside) inside) cs))
]
  where
    comma_some : (ps : List (List ℕ)) (w : List ℕ) (us : List (List ℕ)) → ps ≡ w ∷ us → comma_joined ps ≡ 44 ∷ unpieced ps
    comma_some ps w us e = rw e refl

    grown_whole : (ps : List (List ℕ)) → unpieced (piece_grown c ps) ≡ c ∷ unpieced ps
    grown_whole [] = refl
    grown_whole (p ∷ ps) = refl
