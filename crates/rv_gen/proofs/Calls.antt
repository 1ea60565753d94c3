-- The calls of the workload may be made.
use Rattle.std.proofs.Common.{ℕ, ◌+◌, ◌-◌, ◌*◌, ◌%◌, ◌^◌, ◌<◌, ◌≤◌, ◌==◌, List, [], ◌∷◌, ◌++◌, refl, arith, true, false, codes, decimal, length, length-append, map, flat_map, if◌then◌else◌}
use Rattle.std.specs.List.{AllByRecursion, range_with_len}
use Rattle.std.proofs.lemmas.Fmt.{length-decimal-le}
use Rattle.std.proofs.lemmas.List.Elements.{All-from_recursion}
use Rattle.rv_value.proofs.Lists.{all_append}
use Rattle.rv_script.specs.declared.scripts.Line.{Line}
use Rattle.rv_script.specs.declared.scripts.Phase.{Phase}
use Rattle.rv_gen.specs.Draws.{draw, state_after}
use Rattle.rv_gen.specs.Workload.{HasCalls, IsCall, IsRunnable, goal, insert_of, insert_text, inserts, line, open_lines, open_of, openings_of, phase, readers, round, rounds, tables, update_of, update_text, workload}

-- ---- texts are short

short_number : (n : ℕ) → n < 10 ^ 9 → length (decimal n) ≤ 9
short_number n small = length-decimal-le 9 n (omega arith) small (omega arith)

insert_short : (a b c : ℕ) → a < 10 ^ 9 → b < 10 ^ 9 → c < 10 ^ 9 → length (insert_of a b c) ≤ 4096
unfolding insert_of
insert_short a b c la lb lc = simp length-append (omega (arith, short_number a la, short_number b lb, short_number c lc))

goal_short : (session : ℕ) → length (goal session) ≤ 10
unfolding goal
goal_short session = elim (session % 2 == 0) as (λ b. length (if b then codes "FAST FIRST" else codes "TOTAL TIME") ≤ 10) [ true ↦ omega arith | false ↦ omega arith ]

open_short : (session low above : ℕ) → low < 1000 → above < 1000 → length (open_of session low above) ≤ 4096
unfolding open_of
open_short session low above l a = simp length-append (omega (arith, short_number low (omega arith), short_number (low + 99) (omega arith), short_number above (omega arith), goal_short session))

update_short : (a b : ℕ) → a < 10 ^ 9 → b < 10 ^ 9 → length (update_of a b) ≤ 4096
unfolding update_of
update_short a b la lb = simp length-append (omega (arith, short_number a la, short_number b lb))

-- ---- lines are calls

insert_call : (x : ℕ) → IsCall (line 1 (insert_text x))
insert_call x = record { from = omega arith; to = omega arith; short = insert_short (draw x 1 1000) (draw x 2 100) (draw x 3 10) (omega arith) (omega arith) (omega arith) }

opening_calls : (session x : ℕ) → 1 ≤ session → session ≤ 8 → AllByRecursion IsCall (open_lines session x)
opening_calls session x from to = (
  record { from = from; to = to; short = omega arith },
  (record { from = from; to = to; short = open_short session (draw x 1 900) (1 + draw x 2 100) (omega arith) (omega arith) }, tt),
)

update_call : (x : ℕ) → IsCall (line 1 (update_text x))
update_call x = record { from = omega arith; to = omega arith; short = update_short (draw x 1 1000) (draw x 2 100) (omega arith) (omega arith) }

short_call : (session : ℕ) (text : List ℕ) → 1 ≤ session → session ≤ 8 → length text ≤ 4096 → IsCall (line session text)
short_call session text from to short = record { from = from; to = to; short = short }

-- ---- lists of them

all_map : (f : ℕ → Line) (ks : List ℕ) → ((k : ℕ) → IsCall (f k)) → AllByRecursion IsCall (map f ks)
all_map f [] all = tt
all_map f (k ∷ ks) all = (all k, all_map f ks all)

all_flat : (f : ℕ → List Line) (ks : List ℕ) → AllByRecursion (λ (k : ℕ). AllByRecursion IsCall (f k)) ks → AllByRecursion IsCall (flat_map f ks)
all_flat f [] all = tt
all_flat f (k ∷ ks) all = all_append IsCall (f k) (flat_map f ks) all.0 (all_flat f ks all.1)

all_of : (f : ℕ → List Line) (ks : List ℕ) → ((k : ℕ) → AllByRecursion IsCall (f k)) → AllByRecursion (λ (k : ℕ). AllByRecursion IsCall (f k)) ks
all_of f [] all = tt
all_of f (k ∷ ks) all = (all k, all_of f ks all)

table_calls : AllByRecursion IsCall tables
unfolding tables
table_calls = (
  short_call 1 _ (omega arith) (omega arith) (omega arith),
  (
    short_call 1 _ (omega arith) (omega arith) (omega arith),
    (
      short_call 1 _ (omega arith) (omega arith) (omega arith),
      (short_call 1 _ (omega arith) (omega arith) (omega arith), tt),
    ),
  ),
)

commit_call : AllByRecursion IsCall (line 1 (codes "COMMIT") ∷ [])
commit_call = (short_call 1 _ (omega arith) (omega arith) (omega arith), tt)

round_calls : (x : ℕ) → AllByRecursion IsCall (round x)
round_calls x =
    let fetch : (session : ℕ) → 1 ≤ session → session ≤ 8 → IsCall (line session (codes "FETCH C")) = λ session from to. short_call session (codes "FETCH C") from to (omega arith) in (
      fetch 2 (omega arith) (omega arith),
      (
        fetch 3 (omega arith) (omega arith),
        (
          fetch 4 (omega arith) (omega arith),
          (
            fetch 5 (omega arith) (omega arith),
            (
              short_call 1 (codes "BEGIN") (omega arith) (omega arith) (omega arith),
              (
                update_call x,
                commit_call,
              ),
            ),
          ),
        ),
      ),
    )

first_calls : (seed rows : ℕ) → AllByRecursion IsCall (tables ++ inserts seed rows ++ line 1 (codes "COMMIT") ∷ [])
first_calls seed rows =
    let filled = all_map (λ (row : ℕ). line 1 (insert_text (state_after seed (3 * row)))) (range_with_len 0 rows) (λ row. insert_call (state_after seed (3 * row))) in
    all_append IsCall (tables ++ inserts seed rows) (line 1 (codes "COMMIT") ∷ []) (all_append IsCall tables (inserts seed rows) table_calls filled) commit_call

second_calls : (x y count : ℕ) → AllByRecursion IsCall (openings_of readers x ++ rounds y count)
second_calls x y count =
    let f : ℕ → List Line = λ session. open_lines session (state_after x (2 * (session - 2))) in
    let opened = all_flat f readers (
      opening_calls 2 (state_after x 0) (omega arith) (omega arith),
      (
        opening_calls 3 (state_after x 2) (omega arith) (omega arith),
        (
          opening_calls 4 (state_after x 4) (omega arith) (omega arith),
          (opening_calls 5 (state_after x 6) (omega arith) (omega arith), tt),
        ),
      ),
    ) in
    let g : ℕ → List Line = λ number. round (state_after y (2 * number)) in
    all_append IsCall (openings_of readers x) (rounds y count) opened (all_flat g (range_with_len 0 count) (all_of g (range_with_len 0 count) (λ number. round_calls (state_after y (2 * number)))))

pub runnable : (seed rows count : ℕ) → IsRunnable (workload seed rows count)
unfolding workload
runnable seed rows count =
    let first : Phase = phase (tables ++ inserts seed rows ++ line 1 (codes "COMMIT") ∷ []) in
    let second : Phase = phase (openings_of readers (state_after seed (3 * rows)) ++ rounds (state_after seed (3 * rows + 8)) count) in
    let one : HasCalls first = All-from_recursion IsCall first.lines (first_calls seed rows) in
    let two : HasCalls second = All-from_recursion IsCall second.lines (second_calls (state_after seed (3 * rows)) (state_after seed (3 * rows + 8)) count) in
    let both : AllByRecursion HasCalls (first ∷ second ∷ []) = (one, (two, tt)) in
    record { phases = refl; calls = All-from_recursion HasCalls (first ∷ second ∷ []) both }
