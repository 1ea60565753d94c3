-- One row, one reader or one round more.
use Rattle.std.proofs.Common.{◌≡◌, ◌≤◌, ℕ, zero, suc, ◌+◌, ◌-◌, ◌*◌, List, [], ◌∷◌, ◌++◌, sym, ap, ◌∙◌, arith, codes, flat_map, append-nil, append_assoc}
use Rattle.std.specs.List.{range_with_len}
use Rattle.std.proofs.lemmas.Grind.{flat_map-append}
use Rattle.std.proofs.lemmas.List.FromFn.{map-range_with_len_more}
use Rattle.rv_script.specs.declared.scripts.Line.{Line}
use Rattle.rv_script.specs.declared.scripts.Phase.{Phase}
use Rattle.rv_script.specs.declared.scripts.Script.{Script}
use Rattle.rv_gen.specs.Draws.{state_after}
use Rattle.rv_gen.specs.Workload.{fetches_of, insert_text, inserts, line, open_lines, openings_of, phase, readers, round, rounds, tables, workload}
use Rattle.rv_gen.proofs.Goings.{state_on}

last : (a n j : ℕ) → a + n ≡ j → range_with_len a (suc n) ≡ range_with_len a n ++ j ∷ []
last a zero j e = let same : a ≡ j = omega arith in ap (λ (k : ℕ). k ∷ []) same
last a (suc n) j e = ap (λ (ks : List ℕ). a ∷ ks) (last (a + 1) n j (omega arith))

counting : (a n j : ℕ) → a + n ≡ j → range_with_len a (n + 1) ≡ range_with_len a n ++ j ∷ []
counting a n j e = let on : n + 1 ≡ suc n = omega arith in ap (range_with_len a) on ∙ last a n j e

-- the lists of numbers that are counted up, one after another
flat_more : (f : ℕ → List Line) (a n j : ℕ) → a + n ≡ j → flat_map f (range_with_len a (n + 1)) ≡ flat_map f (range_with_len a n) ++ f j
flat_more f a n j e =
    ap (flat_map f) (counting a n j e)
    ∙ flat_map-append f (range_with_len a n) (j ∷ [])
    ∙ ap (λ (ls : List Line). flat_map f (range_with_len a n) ++ ls) (append-nil (f j))

pub inserts_more : (x n : ℕ) → inserts x (n + 1) ≡ inserts x n ++ line 1 (insert_text (state_after x (3 * n))) ∷ []
inserts_more x n = map-range_with_len_more (λ (row : ℕ). line 1 (insert_text (state_after x (3 * row)))) 0 n n (omega arith)

pub rounds_more : (x n : ℕ) → rounds x (n + 1) ≡ rounds x n ++ round (state_after x (2 * n))
rounds_more x n = flat_more (λ (number : ℕ). round (state_after x (2 * number))) 0 n n (omega arith)

pub openings_more : (x session : ℕ) → 2 ≤ session → openings_of (range_with_len 2 (session + 1 - 2)) x ≡ openings_of (range_with_len 2 (session - 2)) x ++ open_lines session (state_after x (2 * (session - 2)))
openings_more x session least =
    let count : session + 1 - 2 ≡ (session - 2) + 1 = omega arith in
    rw count (flat_more (λ (s : ℕ). open_lines s (state_after x (2 * (s - 2)))) 2 (session - 2) session (omega arith))

pub fetches_more : (session : ℕ) → 2 ≤ session → fetches_of (range_with_len 2 (session + 1 - 2)) ≡ fetches_of (range_with_len 2 (session - 2)) ++ line session (codes "FETCH C") ∷ []
fetches_more session least =
    let count : session + 1 - 2 ≡ (session - 2) + 1 = omega arith in
    rw count (map-range_with_len_more (λ (s : ℕ). line s (codes "FETCH C")) 2 (session - 2) session (omega arith))

-- ---- lines that were added

-- a line, and those behind it
pub line_then : (old mid new : List Line) (l : Line) (ls : List Line) → mid ≡ old ++ l ∷ [] → new ≡ mid ++ ls → new ≡ old ++ l ∷ ls
line_then old mid new l ls a b = b ∙ ap (λ (ms : List Line). ms ++ ls) a ∙ append_assoc old (l ∷ []) ls

pub lines_then : (old mid new ks ls : List Line) → mid ≡ old ++ ks → new ≡ mid ++ ls → new ≡ old ++ (ks ++ ls)
lines_then old mid new ks ls a b = b ∙ ap (λ (ms : List Line). ms ++ ls) a ∙ append_assoc old ks ls

pub row_added : (x i s : ℕ) (old now new : List Line) → now ≡ old ++ inserts x i → s ≡ state_after x (3 * i) → new ≡ now ++ line 1 (insert_text s) ∷ [] → new ≡ old ++ inserts x (i + 1)
row_added x i s old now new a b c =
    lines_then old now new (inserts x i) (line 1 (insert_text s) ∷ []) a c
    ∙ ap (λ (y : ℕ). old ++ (inserts x i ++ line 1 (insert_text y) ∷ [])) b
    ∙ ap (λ (ls : List Line). old ++ ls) (sym (inserts_more x i))

pub round_added : (x i s : ℕ) (old now new : List Line) → now ≡ old ++ rounds x i → s ≡ state_after x (2 * i) → new ≡ now ++ round s → new ≡ old ++ rounds x (i + 1)
round_added x i s old now new a b c =
    lines_then old now new (rounds x i) (round s) a c
    ∙ ap (λ (y : ℕ). old ++ (rounds x i ++ round y)) b
    ∙ ap (λ (ls : List Line). old ++ ls) (sym (rounds_more x i))

pub opening_added : (x session s : ℕ) (old now new : List Line) → 2 ≤ session → now ≡ old ++ openings_of (range_with_len 2 (session - 2)) x → s ≡ state_after x (2 * (session - 2)) → new ≡ now ++ open_lines session s → new ≡ old ++ openings_of (range_with_len 2 (session + 1 - 2)) x
opening_added x session s old now new least a b c =
    lines_then old now new (openings_of (range_with_len 2 (session - 2)) x) (open_lines session s) a c
    ∙ ap (λ (y : ℕ). old ++ (openings_of (range_with_len 2 (session - 2)) x ++ open_lines session y)) b
    ∙ ap (λ (ls : List Line). old ++ ls) (sym (openings_more x session least))

pub fetch_added : (session : ℕ) (old now new : List Line) → 2 ≤ session → now ≡ old ++ fetches_of (range_with_len 2 (session - 2)) → new ≡ now ++ line session (codes "FETCH C") ∷ [] → new ≡ old ++ fetches_of (range_with_len 2 (session + 1 - 2))
fetch_added session old now new least a c =
    lines_then old now new (fetches_of (range_with_len 2 (session - 2))) (line session (codes "FETCH C") ∷ []) a c
    ∙ ap (λ (ls : List Line). old ++ ls) (sym (fetches_more session least))

-- after session 5 all readers have come
pub readers_end : (session : ℕ) → session ≡ 6 → range_with_len 2 (session - 2) ≡ readers
readers_end session e = ap (λ (s : ℕ). range_with_len 2 (s - 2)) e

pub two_phases : (seed rows count s : ℕ) (first second : Phase) (none one two : List Phase) → none ≡ [] → one ≡ none ++ first ∷ [] → two ≡ one ++ second ∷ []
    → first ≡ phase (tables ++ inserts seed rows ++ line 1 (codes "COMMIT") ∷ []) → s ≡ state_after seed (3 * rows) → second ≡ phase (openings_of readers s ++ rounds (state_after s 8) count) → record { phases = two } ≡ workload seed rows count
unfolding workload
two_phases seed rows count s first second none one two a b d first_is s_is second_is =
    let both : two ≡ first ∷ second ∷ [] = d ∙ ap (λ (ps : List Phase). ps ++ second ∷ []) (b ∙ ap (λ (ps : List Phase). ps ++ first ∷ []) a) in
    let last_is : second ≡ phase (openings_of readers (state_after seed (3 * rows)) ++ rounds (state_after seed (3 * rows + 8)) count) =
    second_is
    ∙ ap (λ (y : ℕ). phase (openings_of readers y ++ rounds (state_after y 8) count)) s_is
    ∙ ap (λ (y : ℕ). phase (openings_of readers (state_after seed (3 * rows)) ++ rounds y count)) (state_on seed (3 * rows) 8) in
    ap (λ (ps : List Phase). let script : Script = record { phases = ps } in script) (both ∙ ap (λ (p : Phase). p ∷ second ∷ []) first_is ∙ ap (λ (p : Phase). phase (tables ++ inserts seed rows ++ line 1 (codes "COMMIT") ∷ []) ∷ p ∷ []) last_is)
