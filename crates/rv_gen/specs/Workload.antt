-- The generated workload: a table of 2,000 rows with two indexes, then four cursors that are fetched
-- from while their table is updated.
use Rattle.std.specs.Prelude.{◌≡◌, ◌≤◌, ℕ, ◌+◌, ◌-◌, ◌*◌, ◌%◌, ◌==◌, All, List, [], ◌∷◌, ◌++◌, None, codes, decimal, length, map, flat_map, if◌then◌else◌}
use Rattle.std.specs.List.{range_with_len}
use Rattle.rv_script.specs.declared.scripts.Line.{Line}
use Rattle.rv_script.specs.declared.scripts.Phase.{Phase}
use Rattle.rv_script.specs.declared.scripts.Script.{Script}
use Rattle.rv_gen.specs.Draws.{state_after, draw}

-- a session's call
abbrev pub line : ℕ → List ℕ → Line
line session text = record { session = session; text = text }

-- a phase with the judge that rules already
abbrev pub phase : List Line → Phase
phase lines = record { judge = None; lines = lines }

-- ---- phase 1: session 1 fills the table

-- a table with two indexes, and the transaction that fills it
unfoldable pub tables : List Line
tables =
    line 1 (codes "CREATE TABLE T (A BIGINT, B BIGINT, C VARCHAR(8))")
    ∷ line 1 (codes "CREATE INDEX IA ON T (A)")
    ∷ line 1 (codes "CREATE INDEX IB ON T (B)")
    ∷ line 1 (codes "BEGIN")
    ∷ []

-- one row of these numbers
unfoldable pub insert_of : ℕ → ℕ → ℕ → List ℕ
insert_of a b c =
    codes "INSERT INTO T VALUES (" ++ decimal a ++ codes ", " ++ decimal b
    ++ codes ", 'C" ++ decimal c ++ codes "')"

-- values below 1,000, 100 and 10, drawn in this order from a state
abbrev pub insert_text : ℕ → List ℕ
insert_text x = insert_of (draw x 1 1000) (draw x 2 100) (draw x 3 10)

-- so many rows, each by three draws
abbrev pub inserts : ℕ → ℕ → List Line
inserts x rows =
    map (λ (row : ℕ). line 1 (insert_text (state_after x (3 * row)))) (range_with_len 0 rows)

-- ---- phase 2: sessions 2 to 5 read, session 1 writes

-- the sessions that read: 2 to 5
abbrev pub readers : List ℕ
readers = range_with_len 2 4

-- by turns to have a first row soon, or all rows
unfoldable pub goal : ℕ → List ℕ
goal session = if session % 2 == 0 then codes "FAST FIRST" else codes "TOTAL TIME"

-- a hundred values of A, from `low` on, and those of B below `above`
unfoldable pub open_of : ℕ → ℕ → ℕ → List ℕ
open_of session low above =
    codes "OPEN C SELECT A, B FROM T WHERE A BETWEEN " ++ decimal low
    ++ codes " AND " ++ decimal (low + 99) ++ codes " AND B < " ++ decimal above
    ++ codes " OPTIMIZE FOR " ++ goal session

-- `low` below 900, and `above` from 1 to 100
abbrev pub open_text : ℕ → ℕ → List ℕ
open_text session x = open_of session (draw x 1 900) (1 + draw x 2 100)

-- a reader begins, and opens its cursor
abbrev pub open_lines : ℕ → ℕ → List Line
open_lines session x =
    line session (codes "BEGIN READ ONLY") ∷ line session (open_text session x) ∷ []

-- the cursors of sessions from 2 on, each by two draws
abbrev pub openings_of : List ℕ → ℕ → List Line
openings_of sessions x =
    flat_map (λ (session : ℕ). open_lines session (state_after x (2 * (session - 2)))) sessions

-- the rows of this B get this A
unfoldable pub update_of : ℕ → ℕ → List ℕ
update_of a b = codes "UPDATE T SET A = " ++ decimal a ++ codes " WHERE B = " ++ decimal b

-- A below 1,000, and B below 100
abbrev pub update_text : ℕ → List ℕ
update_text x = update_of (draw x 1 1000) (draw x 2 100)

-- each session fetches from its cursor
abbrev pub fetches_of : List ℕ → List Line
fetches_of sessions = map (λ (session : ℕ). line session (codes "FETCH C")) sessions

-- each reader fetches once, then the writer changes some rows
abbrev pub round : ℕ → List Line
round x =
    fetches_of readers
    ++ line 1 (codes "BEGIN") ∷ line 1 (update_text x) ∷ line 1 (codes "COMMIT") ∷ []

-- so many rounds, each by two draws
abbrev pub rounds : ℕ → ℕ → List Line
rounds x count =
    flat_map (λ (number : ℕ). round (state_after x (2 * number))) (range_with_len 0 count)

-- ---- the whole

-- the workload of so many rows and rounds, in which all draws follow one another from the seed
unfoldable pub workload : ℕ → ℕ → ℕ → Script
workload seed rows count = record {
  phases =
      phase (tables ++ inserts seed rows ++ line 1 (codes "COMMIT") ∷ [])
      ∷ phase (openings_of readers (state_after seed (3 * rows))
      ++ rounds (state_after seed (3 * rows + 8)) count)
      ∷ [];
}

-- 2,000 rows and 250 rounds
abbrev pub workload_of : ℕ → Script
workload_of seed = workload seed 2000 250

-- ---- what a run needs of it

-- A call that may be made: the session is 1 to 8, and the text is short enough.
pub record IsCall (l : Line) : Type 0 where
  pub from : 1 ≤ l.session
  pub to : l.session ≤ 8
  pub short : length l.text ≤ 4096

abbrev pub HasCalls : Phase → Type 0
HasCalls p = All IsCall p.lines

pub record IsRunnable (script : Script) : Type 0 where
  pub phases : length script.phases ≡ 2
  pub calls : All HasCalls script.phases
