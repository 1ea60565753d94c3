-- Which rows are written, and how far the pages of a table reach.
use Rattle.std.proofs.Common.{◌≡◌, ℕ, suc, ◌+◌, ◌-◌, ◌/◌, ◌<◌, ◌≤◌, zero, List, [], ◌∷◌, ◌++◌, Bool, true, false, ◌==◌, cond, Some, IfSome, is_some, inl, inr, refl, ap, sym, ◌∙◌, map, filter, length, arith}
use Rattle.std.specs.Prelude.{max, slice_get}
use Rattle.std.proofs.lemmas.Bool.{cases_Bool, and_parts}
use Rattle.std.proofs.lemmas.Bool.Decides.{nat_tests}
use Rattle.std.specs.List.{AllByRecursion, list_all}
use Rattle.rv_value.proofs.Lists.{filter_passes}
use Rattle.rv_rows.specs.declared.changes.Change.{Change}
use Rattle.rv_rows.specs.Changes.{Rise, is_before, with_change}
use Rattle.rv_rows.specs.Rising.{put_in}
use Rattle.rv_rows.proofs.Chains.{by_row}
use Rattle.rv_rows.proofs.Puts.{rising_filter}
use Rattle.rv_blocks.specs.Taking.{take_from}
use Rattle.rv_reader.specs.Storing.{pages_after}
use Rattle.rv_overlay.proofs.Runs.{change_first}
use Rattle.rv_view.specs.Making.{bare, last_of, of_table, pages_up, written_after, written_of}

-- A change more.

written_joined : (xs ys : List Change) → written_of (xs ++ ys) ≡ written_of xs ++ written_of ys
written_joined [] ys = refl
written_joined (x ∷ xs) ys =
    let rest = written_joined xs ys in
    elim (cases_Bool (is_some x.values)) [
      | inl t ↦ rw t (ap (λ zs. bare x ∷ zs) rest)
      | inr f ↦ rw f rest
    ]

-- a test of tables and rows alone
written_kept : (q : Change → Bool) → ((c : Change) → q (bare c) ≡ q c) → (cs : List Change) → written_of (filter q cs) ≡ filter q (written_of cs)
written_kept q same [] = refl
written_kept q same (c ∷ cs) =
    let rest = written_kept q same cs in
    elim (cases_Bool (q c)) [
      | inl k ↦
          let its : q (bare c) ≡ true = same c ∙ k in
          elim (cases_Bool (is_some c.values)) [
            | inl t ↦ rw (k, t, its) (ap (λ zs. bare c ∷ zs) rest)
            | inr f ↦ rw (k, f) rest
          ]
      | inr g ↦
          let its : q (bare c) ≡ false = same c ∙ g in
          elim (cases_Bool (is_some c.values)) [
            | inl t ↦ rw (g, t, its) rest
            | inr f ↦ rw (g, f) rest
          ]
    ]

pub written_with : (c : Change) (cs : List Change) → written_of (with_change c cs) ≡ written_after c (written_of cs)
written_with c cs =
    let w = written_of cs in
    let front = written_kept (λ d. is_before d c) (λ d. refl) cs in
    let back = written_kept (λ d. is_before c d) (λ d. refl) cs in
    let joined = written_joined (filter (λ d. is_before d c) cs) (c ∷ filter (λ d. is_before c d) cs) in
    let here : written_of (filter (λ d. is_before d c) cs) ++ written_of (c ∷ filter (λ d. is_before c d) cs) ≡ cond (is_some c.values) (put_in is_before (bare c) w) (take_from is_before c w) =
    elim (cases_Bool (is_some c.values)) [
      | inl t ↦ rw (t, front, back) refl
      | inr f ↦ rw (f, front, back) refl
    ] in
    joined ∙ here ∙ ap (λ (p : Change → Change → Bool). cond (is_some c.values) (put_in p (bare c) w) (take_from p c w)) (sym change_first)

-- The written rows rise.

all_bare : (c : Change) (cs : List Change) → list_all (is_before c) cs ≡ true → list_all (is_before (bare c)) (map bare cs) ≡ true
all_bare c [] h = refl
all_bare c (d ∷ cs) h =
    let parts = and_parts (is_before c d) (list_all (is_before c) cs) h in
    let here : is_before (bare c) (bare d) ≡ true = parts.0 in
    rw here (all_bare c cs parts.1)

rise_bare : (cs : List Change) → Rise cs → Rise (map bare cs)
rise_bare [] rise = tt
rise_bare (c ∷ cs) rise = (all_bare c cs rise.0, rise_bare cs rise.1)

pub written_rise : (cs : List Change) → Rise cs → Rise (written_of cs)
written_rise cs rise = rise_bare (filter (λ (c : Change). is_some c.values) cs) (rising_filter is_before (λ (c : Change). is_some c.values) cs rise)

pub written_low : (n : ℕ) (cs : List Change) → AllByRecursion (λ (c : Change). c.row.0 < n) cs → AllByRecursion (λ (c : Change). c.row.0 < n) (written_of cs)
written_low n [] all = tt
written_low n (c ∷ cs) all =
    let rest = written_low n cs all.1 in
    elim (cases_Bool (is_some c.values)) [
      | inl t ↦ rw t (all.0, rest)
      | inr f ↦ rw f rest
    ]

table_low : (n table : ℕ) (cs : List Change) → AllByRecursion (λ (c : Change). c.row.0 < n) cs → AllByRecursion (λ (c : Change). c.row.0 < n) (of_table table cs)
table_low n table [] all = tt
table_low n table (c ∷ cs) all =
    let rest = table_low n table cs all.1 in
    elim (cases_Bool (c.table == table)) [
      | inl t ↦ rw t (all.0, rest)
      | inr f ↦ rw f rest
    ]

low_at : (n i : ℕ) (cs : List Change) → AllByRecursion (λ (c : Change). c.row.0 < n) cs → IfSome (slice_get cs i) (λ c. c.row.0 < n)
low_at n i [] all = tt
low_at n zero (c ∷ cs) all = all.0
low_at n (suc i) (c ∷ cs) all = low_at n i cs all.1

pub last_low : (n table : ℕ) (cs : List Change) → AllByRecursion (λ (c : Change). c.row.0 < n) cs → IfSome (last_of table (written_of cs)) (λ c. c.row.0 < n)
last_low n table cs all =
    let own = of_table table (written_of cs) in
    low_at n (length own - 1) own (table_low n table (written_of cs) (written_low n cs all))

-- How far the pages reach.

abbrev pages_over : List Change → ℕ → ℕ
pages_over [] pages = pages
pages_over (c ∷ cs) pages = pages_over cs (max pages (c.row.0 / 32 + 1))

pages_are : (table : ℕ) (cs : List Change) (pages : ℕ) → pages_after table cs pages ≡ pages_over (of_table table (written_of cs)) pages
pages_are table [] pages = refl
pages_are table (c ∷ cs) pages = elim (cases_Bool (is_some c.values)) [
  | inl t ↦ elim (cases_Bool (c.table == table)) [
    | inl u ↦ rw (t, u) (pages_are table cs (max pages (c.row.0 / 32 + 1)))
    | inr v ↦ rw (t, v) (pages_are table cs pages)
  ]
  | inr f ↦ elim (cases_Bool (c.table == table)) [
    | inl u ↦ rw (f, u) (pages_are table cs pages)
    | inr v ↦ rw (f, v) (pages_are table cs pages)
  ]
]

abbrev pub last_or : Change → List Change → Change
last_or c [] = c
last_or c (d ∷ ds) = last_or d ds

pub all_last : (q : Change → Bool) (c : Change) (cs : List Change) → list_all q (c ∷ cs) ≡ true → q (last_or c cs) ≡ true
all_last q c [] h = (and_parts (q c) true h).0
all_last q c (d ∷ ds) h = all_last q d ds (and_parts (q c) (list_all q (d ∷ ds)) h).1

pub last_is : (c : Change) (cs : List Change) → slice_get (c ∷ cs) (length cs) ≡ Some (last_or c cs)
last_is c [] = refl
last_is c (d ∷ ds) = last_is d ds

over_last : (table : ℕ) (c : Change) (cs : List Change) (pages : ℕ) → Rise (c ∷ cs) → list_all (λ (d : Change). d.table == table) (c ∷ cs) ≡ true → pages_over (c ∷ cs) pages ≡ max pages ((last_or c cs).row.0 / 32 + 1)
over_last table c [] pages rise own = refl
over_last table c (d ∷ ds) pages rise own =
    let parts = and_parts (c.table == table) (list_all (λ (e : Change). e.table == table) (d ∷ ds)) own in
    let first = parts.0 in
    let mine : (last_or d ds).table == table ≡ true = all_last (λ (e : Change). e.table == table) d ds parts.1 in
    let behind : is_before c (last_or d ds) ≡ true = all_last (is_before c) d ds rise.0 in
    let less : c.row.0 < (last_or d ds).row.0 = grind (arith, nat_tests) in
    let most : max (max pages (c.row.0 / 32 + 1)) ((last_or d ds).row.0 / 32 + 1) ≡ max pages ((last_or d ds).row.0 / 32 + 1) = omega (arith, less) in
    over_last table d ds (max pages (c.row.0 / 32 + 1)) rise.1 parts.1 ∙ most

up_last : (table : ℕ) (cs : List Change) (pages : ℕ) → Rise cs → list_all (λ (d : Change). d.table == table) cs ≡ true → pages_over cs pages ≡ pages_up (slice_get cs (length cs - 1)) pages
up_last table [] pages rise own = refl
up_last table (c ∷ cs) pages rise own =
    let e : length (c ∷ cs) - 1 ≡ length cs = omega arith in
    over_last table c cs pages rise own ∙ sym (ap (λ n. pages_up (slice_get (c ∷ cs) n) pages) e ∙ ap (λ o. pages_up o pages) (last_is c cs))

pub pages_written : (table : ℕ) (cs : List Change) (pages : ℕ) → Rise cs → pages_after table cs pages ≡ pages_up (last_of table (written_of cs)) pages
pages_written table cs pages rise =
    pages_are table cs pages
    ∙ up_last table (of_table table (written_of cs)) pages (rising_filter is_before (λ (c : Change). c.table == table) (written_of cs) (written_rise cs rise)) (filter_passes (λ (c : Change). c.table == table) (written_of cs))

-- How far they reach after one change more.

own_last : (table : ℕ) (cs : List Change) (pages : ℕ) → Rise cs → pages_over (of_table table cs) pages ≡ pages_up (last_of table cs) pages
own_last table cs pages rise = up_last table (of_table table cs) pages (rising_filter is_before (λ (c : Change). c.table == table) cs rise) (filter_passes (λ (c : Change). c.table == table) cs)

over_max : (cs : List Change) (pages n : ℕ) → pages_over cs (max pages n) ≡ max (pages_over cs pages) n
over_max [] pages n = refl
over_max (c ∷ cs) pages n =
    let up = c.row.0 / 32 + 1 in
    let turned : max (max pages n) up ≡ max (max pages up) n = omega arith in
    ap (pages_over cs) turned ∙ over_max cs (max pages up) n

over_middle : (xs : List Change) (c : Change) (ys : List Change) (pages : ℕ) → pages_over (xs ++ c ∷ ys) pages ≡ max (pages_over (xs ++ ys) pages) (c.row.0 / 32 + 1)
over_middle [] c ys pages = over_max ys pages (c.row.0 / 32 + 1)
over_middle (x ∷ xs) c ys pages = over_middle xs c ys (max pages (x.row.0 / 32 + 1))

own_joined : (table : ℕ) (xs ys : List Change) → of_table table (xs ++ ys) ≡ of_table table xs ++ of_table table ys
own_joined table [] ys = refl
own_joined table (x ∷ xs) ys =
    let rest = own_joined table xs ys in
    elim (x.table == table) as (λ b. cond b (x ∷ of_table table (xs ++ ys)) (of_table table (xs ++ ys)) ≡ cond b (x ∷ of_table table xs) (of_table table xs) ++ of_table table ys) [
      | true ↦ ap (λ zs. x ∷ zs) rest
      | false ↦ rest
    ]

-- one change more in the middle
own_middle : (table : ℕ) (xs : List Change) (c : Change) (ys : List Change) (pages : ℕ) → pages_over (of_table table (xs ++ c ∷ ys)) pages ≡ cond (c.table == table) (max (pages_over (of_table table (xs ++ ys)) pages) (c.row.0 / 32 + 1)) (pages_over (of_table table (xs ++ ys)) pages)
own_middle table xs c ys pages =
    let mine = of_table table xs in
    let rest = of_table table ys in
    let back = sym (own_joined table xs ys) in
    ap (λ zs. pages_over zs pages) (own_joined table xs (c ∷ ys)) ∙ elim (c.table == table) as (λ b. pages_over (mine ++ cond b (c ∷ rest) rest) pages ≡ cond b (max (pages_over (of_table table (xs ++ ys)) pages) (c.row.0 / 32 + 1)) (pages_over (of_table table (xs ++ ys)) pages)) [
      | true ↦ over_middle mine c rest pages ∙ ap (λ zs. max (pages_over zs pages) (c.row.0 / 32 + 1)) back
      | false ↦ ap (λ zs. pages_over zs pages) back
    ]

-- without what stands in the place of a change they reach as far, or as the change reached farther
record Between (less all up : ℕ) : Type 0 where
  low : less ≤ all
  high : all ≤ max less up

raised : (less all up n : ℕ) → Between less all up → Between (max less n) (max all n) up
raised less all up n b = (let low = b.low in let high = b.high in record { low = omega (arith, low); high = omega (arith, high) })

between : (c : Change) (cs : List Change) (pages : ℕ) → Between (pages_over (of_table c.table (take_from is_before c cs)) pages) (pages_over (of_table c.table cs) pages) (c.row.0 / 32 + 1)
between c [] pages = record { low = omega arith; high = omega arith }
between c (d ∷ ds) pages =
    let table = c.table in
    let up = c.row.0 / 32 + 1 in
    let du = d.row.0 / 32 + 1 in
    let front = filter (λ x. is_before x c) ds in
    let back = filter (λ x. is_before c x) ds in
    let less = pages_over (of_table table (front ++ back)) pages in
    let all = pages_over (of_table table ds) pages in
    let was : Between less all up = between c ds pages in
    let whole : pages_over (of_table table (d ∷ ds)) pages ≡ cond (d.table == table) (max all du) all = own_middle table [] d ds pages in
    let more : Between (cond (d.table == table) (max less du) less) (cond (d.table == table) (max all du) all) up =
    elim (d.table == table) as (λ b. Between (cond b (max less du) less) (cond b (max all du) all) up) [ true ↦ raised less all up du was | false ↦ was ] in
    elim (cases_Bool (is_before d c)) [
      | inl t ↦
          let other : is_before c d ≡ false = by_row.one_way d c t in
          let left : pages_over (of_table table (d ∷ front ++ back)) pages ≡ cond (d.table == table) (max less du) less = own_middle table [] d (front ++ back) pages in
          rw (t, other, left, whole) more
      | inr f ↦ elim (cases_Bool (is_before c d)) [
        | inl u ↦
            let left : pages_over (of_table table (front ++ d ∷ back)) pages ≡ cond (d.table == table) (max less du) less = own_middle table front d back pages in
            rw (f, u, left, whole) more
        | inr v ↦
            let own : d.table == table ≡ true = grind (arith, nat_tests) in
            let same : d.row.0 ≡ c.row.0 = grind (arith, nat_tests) in
            let low = was.low in
            let high = was.high in
            let here : Between less (max all du) up = record { low = omega (arith, low); high = (let reach : du ≡ up = ap (λ n. n / 32 + 1) same in omega (arith, high, reach)) } in
            rw (f, v, whole, own) here
      ]
    ]

written_is : (c : Change) (cs : List Change) → written_after c cs ≡ cond (is_some c.values) (put_in is_before (bare c) cs) (take_from is_before c cs)
written_is c cs = ap (λ (p : Change → Change → Bool). cond (is_some c.values) (put_in p (bare c) cs) (take_from p c cs)) change_first

-- a row that is given values
pub pages_put : (c : Change) (cs : List Change) (pages : ℕ) → Rise cs → Rise (written_after c cs) → is_some c.values ≡ true
    → max (pages_up (last_of c.table cs) pages) (c.row.0 / 32 + 1) ≡ pages_up (last_of c.table (written_after c cs)) pages
pages_put c cs pages rise next is =
    let table = c.table in
    let up = c.row.0 / 32 + 1 in
    let front = filter (λ x. is_before x c) cs in
    let back = filter (λ x. is_before c x) cs in
    let less = pages_over (of_table table (front ++ back)) pages in
    let was : Between less (pages_over (of_table table cs) pages) up = between c cs pages in
    let low = was.low in
    let high = was.high in
    let own : c.table == c.table ≡ true = grind (arith, nat_tests) in
    let whole : written_after c cs ≡ front ++ bare c ∷ back = written_is c cs ∙ ap (λ b. cond b (put_in is_before (bare c) cs) (take_from is_before c cs)) is in
    let all : pages_over (of_table table (written_after c cs)) pages ≡ max less up = ap (λ zs. pages_over (of_table table zs) pages) whole ∙ own_middle table front (bare c) back pages ∙ ap (λ b. cond b (max less up) less) own in
    let before = own_last table cs pages rise in
    let after = own_last table (written_after c cs) pages next in
    omega (arith, low, high, all, before, after)

-- a row below the last page that is taken away
pub pages_taken : (c : Change) (cs : List Change) (pages : ℕ) → Rise cs → Rise (written_after c cs) → is_some c.values ≡ false → c.row.0 / 32 + 1 < pages_up (last_of c.table cs) pages
    → pages_up (last_of c.table cs) pages ≡ pages_up (last_of c.table (written_after c cs)) pages
pages_taken c cs pages rise next none reach =
    let table = c.table in
    let up = c.row.0 / 32 + 1 in
    let less = pages_over (of_table table (take_from is_before c cs)) pages in
    let was : Between less (pages_over (of_table table cs) pages) up = between c cs pages in
    let low = was.low in
    let high = was.high in
    let whole : written_after c cs ≡ take_from is_before c cs = written_is c cs ∙ ap (λ b. cond b (put_in is_before (bare c) cs) (take_from is_before c cs)) none in
    let all : pages_over (of_table table (written_after c cs)) pages ≡ less = ap (λ zs. pages_over (of_table table zs) pages) whole in
    let before = own_last table cs pages rise in
    let after = own_last table (written_after c cs) pages next in
    omega (arith, low, high, all, before, after, reach)
