-- Which rows changes write, and which they leave: by membership.
use Rattle.std.proofs.Common.{◌≡◌, ℕ, List, [], ◌∷◌, ◌++◌, Bool, true, false, not, ◌&&◌, ◌||◌, ◌==◌, cond, Option, Some, None, ◌⊎◌, inl, inr, refl, sym, ap, ◌∙◌, subst, filter, arith}
use Rattle.std.proofs.lemmas.Bool.{cases_Bool, and_parts, not-true, or_parts}
use Rattle.std.proofs.lemmas.Bool.Decides.{nat_tests}
use Rattle.std.specs.List.{AllByRecursion, list_all, list_any}
use Rattle.rv_value.specs.declared.value.Value.{Value}
use Rattle.rv_value.specs.declared.record.Record.{Record}
use Rattle.rv_rows.specs.declared.changes.Change.{Change}
use Rattle.rv_rows.specs.Changes.{Rise, has_change, is_before, is_of, rows_with_changes, with_change, with_changes}
use Rattle.rv_rows.specs.Merging.{values_row}
use Rattle.rv_rows.specs.Rows.{comes_below, with_values}
use Rattle.rv_rows.proofs.Chains.{change_rises}
use Rattle.rv_model.specs.Rivals.{rows_left, rows_written}

-- ---- members

abbrev pub In : {X : Type 0} → X → List X → Type 0
In x [] = ⊥
In x (y ∷ ys) = (x ≡ y) ⊎ In x ys

pub in_front : {X : Type 0} (x : X) (xs ys : List X) → In x xs → In x (xs ++ ys)
in_front x [] ys h = absurd h
in_front x (z ∷ zs) ys (inl here) = inl here
in_front x (z ∷ zs) ys (inr more) = inr (in_front x zs ys more)

pub in_back : {X : Type 0} (x : X) (xs ys : List X) → In x ys → In x (xs ++ ys)
in_back x [] ys h = h
in_back x (z ∷ zs) ys h = inr (in_back x zs ys h)

pub in_either : {X : Type 0} (x : X) (xs ys : List X) → In x (xs ++ ys) → In x xs ⊎ In x ys
in_either x [] ys h = inr h
in_either x (z ∷ zs) ys (inl here) = inl (inl here)
in_either x (z ∷ zs) ys (inr more) = behind (in_either x zs ys more)
  where
    behind : In x zs ⊎ In x ys → In x (z ∷ zs) ⊎ In x ys
    behind (inl front) = inl (inr front)
    behind (inr back) = inr back

one_kept : {X : Type 0} (p : X → Bool) (x y : X) (ys : List X) → p y ≡ true → (In x (filter p ys) → In x ys × (p x ≡ true)) → In x (y ∷ filter p ys) → In x (y ∷ ys) × (p x ≡ true)
one_kept p x y ys t rest (inl here) = (inl here, ap p here ∙ t)
one_kept p x y ys t rest (inr more) = (let r = rest more in (inr r.0, r.1))

pub in_filter : {X : Type 0} (p : X → Bool) (x : X) (xs : List X) → In x (filter p xs) → In x xs × (p x ≡ true)
in_filter p x [] h = absurd h
in_filter p x (y ∷ ys) h = elim (cases_Bool (p y)) [
  | inl t ↦ one_kept p x y ys t (in_filter p x ys) (subst (λ b. In x (cond b (y ∷ filter p ys) (filter p ys))) t h)
  | inr f ↦ (let r = in_filter p x ys (subst (λ b. In x (cond b (y ∷ filter p ys) (filter p ys))) f h) in (inr r.0, r.1))
]

pub in_kept : {X : Type 0} (p : X → Bool) (x : X) (xs : List X) → In x xs → p x ≡ true → In x (filter p xs)
in_kept p x [] h t = absurd h
in_kept p x (y ∷ ys) (inl here) t = subst (λ b. In x (cond b (y ∷ filter p ys) (filter p ys))) (sym (ap p (sym here) ∙ t)) (inl here)
in_kept p x (y ∷ ys) (inr more) t =
    let rest = in_kept p x ys more t in
    elim (p y) as (λ b. In x (cond b (y ∷ filter p ys) (filter p ys))) [ true ↦ inr rest | false ↦ rest ]

-- ---- the rows with one change

row_is : (r : Record) (n : ℕ) (values : Option (List Value)) → In r (values_row n values) → r.row.0 ≡ n
row_is r n None h = absurd h
row_is r n (Some vs) (inl here) = ap (λ (x : Record). x.row.0) here
row_is r n (Some vs) (inr none) = absurd none

values_in : (n : ℕ) (values : Option (List Value)) (r : Record) (rows : List Record) → In r (with_values n values rows) → In r (values_row n values) ⊎ (In r rows × ((r.row.0 == n) ≡ false))
values_in n None r rows h = (let k = in_filter (λ (s : Record). not (s.row.0 == n)) r rows h in inr (k.0, not-true (r.row.0 == n) k.1))
values_in n (Some vs) r rows h =
    let new : Record = record { row = record { 0 = n }; values = vs } in
    by new (in_either r (filter (λ (s : Record). comes_below s new) rows) (new ∷ filter (λ (s : Record). comes_below new s) rows) h) refl
  where
    by : (new : Record) → In r (filter (λ (s : Record). comes_below s new) rows) ⊎ In r (new ∷ filter (λ (s : Record). comes_below new s) rows) → new ≡ record { row = record { 0 = n }; values = vs }
        → In r (values_row n (Some vs)) ⊎ (In r rows × ((r.row.0 == n) ≡ false))
    by new (inl low) is =
        let k = in_filter (λ (s : Record). comes_below s new) r rows low in
        let number : new.row.0 ≡ n = ap (λ (x : Record). x.row.0) is in
        let below = k.1 in
        inr (k.0, grind (arith, nat_tests, below, number))
    by new (inr (inl here)) is = inl (inl (here ∙ is))
    by new (inr (inr high)) is =
        let k = in_filter (λ (s : Record). comes_below new s) r rows high in
        let number : new.row.0 ≡ n = ap (λ (x : Record). x.row.0) is in
        let above = k.1 in
        inr (k.0, grind (arith, nat_tests, above, number))

values_new : (n : ℕ) (values : Option (List Value)) (r : Record) (rows : List Record) → In r (values_row n values) → In r (with_values n values rows)
values_new n None r rows h = absurd h
values_new n (Some vs) r rows (inl here) = in_back r (filter (λ (s : Record). comes_below s (record { row = record { 0 = n }; values = vs })) rows) _ (inl here)
values_new n (Some vs) r rows (inr none) = absurd none

values_kept : (n : ℕ) (values : Option (List Value)) (r : Record) (rows : List Record) → In r rows → (r.row.0 == n) ≡ false → In r (with_values n values rows)
values_kept n None r rows h apart = in_kept (λ (s : Record). not (s.row.0 == n)) r rows h (ap not apart)
values_kept n (Some vs) r rows h apart =
    let new : Record = record { row = record { 0 = n }; values = vs } in
    elim (cases_Bool (comes_below r new)) [
      | inl low ↦ in_front r (filter (λ (s : Record). comes_below s new) rows) (new ∷ filter (λ (s : Record). comes_below new s) rows) (in_kept (λ (s : Record). comes_below s new) r rows h low)
      | inr not_low ↦
          let high : comes_below new r ≡ true = grind (arith, nat_tests) in
          in_back r (filter (λ (s : Record). comes_below s new) rows) (new ∷ filter (λ (s : Record). comes_below new s) rows) (inr (in_kept (λ (s : Record). comes_below new s) r rows h high))
    ]

abbrev one : ℕ → Change → List Record → List Record
one table c rows = cond (c.table == table) (with_values c.row.0 c.values rows) rows

-- a change writes the row
abbrev WroteOne : ℕ → Record → Change → Type 0
WroteOne table r c = ((c.table == table) ≡ true) × In r (values_row c.row.0 c.values)

one_in : (table : ℕ) (c : Change) (rows : List Record) (r : Record) → In r (one table c rows) → WroteOne table r c ⊎ (In r rows × (is_of table r.row.0 c ≡ false))
one_in table c rows r h = elim (cases_Bool (c.table == table)) [
  | inl t ↦ by t (values_in c.row.0 c.values r rows (subst (λ b. In r (cond b (with_values c.row.0 c.values rows) rows)) t h))
  | inr f ↦ inr (subst (λ b. In r (cond b (with_values c.row.0 c.values rows) rows)) f h, ap (λ b. b && (c.row.0 == r.row.0)) f)
]
  where
    by : (c.table == table) ≡ true → In r (values_row c.row.0 c.values) ⊎ (In r rows × ((r.row.0 == c.row.0) ≡ false)) → WroteOne table r c ⊎ (In r rows × (is_of table r.row.0 c ≡ false))
    by t (inl new) = inl (t, new)
    by t (inr old) = (let apart = old.1 in inr (old.0, grind (arith, nat_tests, apart)))

one_new : (table : ℕ) (c : Change) (rows : List Record) (r : Record) → WroteOne table r c → In r (one table c rows)
one_new table c rows r wrote = subst (λ b. In r (cond b (with_values c.row.0 c.values rows) rows)) (sym wrote.0) (values_new c.row.0 c.values r rows wrote.1)

one_left : (table : ℕ) (c : Change) (rows : List Record) (r : Record) → In r rows → is_of table r.row.0 c ≡ false → In r (one table c rows)
one_left table c rows r h apart = elim (cases_Bool (c.table == table)) [
  | inl t ↦
      let other : (r.row.0 == c.row.0) ≡ false = grind (arith, nat_tests) in
      subst (λ b. In r (cond b (with_values c.row.0 c.values rows) rows)) (sym t) (values_kept c.row.0 c.values r rows h other)
  | inr f ↦ subst (λ b. In r (cond b (with_values c.row.0 c.values rows) rows)) (sym f) h
]

one_more : (table : ℕ) (c : Change) (xs ys : List Record) (r : Record) → ((x : Record) → In x xs → In x ys) → In r (one table c xs) → In r (one table c ys)
one_more table c xs ys r sub h = by (one_in table c xs r h)
  where
    by : WroteOne table r c ⊎ (In r xs × (is_of table r.row.0 c ≡ false)) → In r (one table c ys)
    by (inl wrote) = one_new table c ys r wrote
    by (inr old) = one_left table c ys r (sub r old.0) old.1

-- ---- the rows with changes

pub applied_more : (table : ℕ) (cs : List Change) (xs ys : List Record) (r : Record) → ((x : Record) → In x xs → In x ys) → In r (rows_with_changes table cs xs) → In r (rows_with_changes table cs ys)
applied_more table [] xs ys r sub h = sub r h
applied_more table (c ∷ cs) xs ys r sub h = applied_more table cs (one table c xs) (one table c ys) r (λ x k. one_more table c xs ys x sub k) h

-- what is written is there, whatever the rows were
pub written_there : (table : ℕ) (cs : List Change) (rows : List Record) (r : Record) → In r (rows_written table cs) → In r (rows_with_changes table cs rows)
written_there table cs rows r h = applied_more table cs [] rows r (λ x k. absurd k) h

-- what is not changed stays
pub unchanged_there : (table : ℕ) (cs : List Change) (rows : List Record) (r : Record) → In r rows → has_change table r.row.0 cs ≡ false → In r (rows_with_changes table cs rows)
unchanged_there table [] rows r h none = h
unchanged_there table (c ∷ cs) rows r h none = elim (cases_Bool (is_of table r.row.0 c)) [
  | inl t ↦ (let no : true ≡ false = sym (ap (λ b. b || has_change table r.row.0 cs) t) ∙ none in cc)
  | inr f ↦ unchanged_there table cs (one table c rows) r (one_left table c rows r h f) (sym (ap (λ b. b || has_change table r.row.0 cs) f) ∙ none)
]

-- A ROW WITH CHANGES is one that they write, or one that was there and that they leave
pub applied_in : (table : ℕ) (cs : List Change) (rows : List Record) (r : Record) → In r (rows_with_changes table cs rows) → In r (rows_written table cs) ⊎ (In r rows × (has_change table r.row.0 cs ≡ false))
applied_in table [] rows r h = inr (h, refl)
applied_in table (c ∷ cs) rows r h = by (applied_in table cs (one table c rows) r h)
  where
    then_in : has_change table r.row.0 cs ≡ false → WroteOne table r c ⊎ (In r rows × (is_of table r.row.0 c ≡ false)) → In r (rows_written table (c ∷ cs)) ⊎ (In r rows × (has_change table r.row.0 (c ∷ cs) ≡ false))
    then_in none (inl wrote) = inl (unchanged_there table cs (one table c []) r (one_new table c [] r wrote) none)
    then_in none (inr old) = inr (old.0, ap (λ b. b || has_change table r.row.0 cs) old.1 ∙ none)

    by : In r (rows_written table cs) ⊎ (In r (one table c rows) × (has_change table r.row.0 cs ≡ false)) → In r (rows_written table (c ∷ cs)) ⊎ (In r rows × (has_change table r.row.0 (c ∷ cs) ≡ false))
    by (inl wrote) = inl (written_there table cs (one table c []) r wrote)
    by (inr k) = then_in k.1 (one_in table c rows r k.0)

-- ---- by which change a row is written

abbrev WroteIn : ℕ → Record → List Change → Type 0
WroteIn table r [] = ⊥
WroteIn table r (c ∷ cs) = WroteOne table r c ⊎ WroteIn table r cs

wrote_in : (table : ℕ) (cs : List Change) (r : Record) → In r (rows_written table cs) → WroteIn table r cs
wrote_in table [] r h = absurd h
wrote_in table (c ∷ cs) r h = by (wrote_in table cs r) (applied_in table cs (one table c []) r h)
  where
    here : WroteOne table r c ⊎ (In r [] × (is_of table r.row.0 c ≡ false)) → WroteIn table r (c ∷ cs)
    here (inl wrote) = inl wrote
    here (inr none) = absurd none.0

    by : (In r (rows_written table cs) → WroteIn table r cs) → In r (rows_written table cs) ⊎ (In r (one table c []) × (has_change table r.row.0 cs ≡ false)) → WroteIn table r (c ∷ cs)
    by rest (inl wrote) = inr (rest wrote)
    by rest (inr k) = here (one_in table c [] r k.0)

later_none : (table number : ℕ) (c : Change) (cs : List Change) → (c.table == table) ≡ true → number ≡ c.row.0 → list_all (is_before c) cs ≡ true → has_change table number cs ≡ false
later_none table number c [] t is all = refl
later_none table number c (d ∷ ds) t is all =
    let parts = and_parts (is_before c d) (list_all (is_before c) ds) all in
    let other : is_of table number d ≡ false = (let first = parts.0 in grind (arith, nat_tests)) in
    ap (λ b. b || has_change table number ds) other ∙ later_none table number c ds t is parts.1

written_of : (table : ℕ) (cs : List Change) (r : Record) → Rise cs → WroteIn table r cs → In r (rows_written table cs)
written_of table [] r rise h = absurd h
written_of table (c ∷ cs) r rise (inl wrote) = unchanged_there table cs (one table c []) r (one_new table c [] r wrote) (later_none table r.row.0 c cs wrote.0 (row_is r c.row.0 c.values wrote.1) rise.0)
written_of table (c ∷ cs) r rise (inr more) = written_there table cs (one table c []) r (written_of table cs r rise.1 more)

wrote_joined : (table : ℕ) (r : Record) (xs ys : List Change) → WroteIn table r (xs ++ ys) → WroteIn table r xs ⊎ WroteIn table r ys
wrote_joined table r [] ys h = inr h
wrote_joined table r (x ∷ xs) ys (inl here) = inl (inl here)
wrote_joined table r (x ∷ xs) ys (inr more) = behind (wrote_joined table r xs ys more)
  where
    behind : WroteIn table r xs ⊎ WroteIn table r ys → WroteIn table r (x ∷ xs) ⊎ WroteIn table r ys
    behind (inl front) = inl (inr front)
    behind (inr back) = inr back

wrote_filtered : (table : ℕ) (r : Record) (c : Change) (p : Change → Bool) (cs : List Change) → ((d : Change) → p d ≡ true → WroteOne table r d → is_of table r.row.0 c ≡ false) → WroteIn table r (filter p cs) → WroteIn table r cs × (is_of table r.row.0 c ≡ false)
wrote_filtered table r c p [] apart h = absurd h
wrote_filtered table r c p (d ∷ ds) apart h = elim (cases_Bool (p d)) [
  | inl t ↦ here (wrote_filtered table r c p ds apart) t (subst (λ b. WroteIn table r (cond b (d ∷ filter p ds) (filter p ds))) t h)
  | inr f ↦ (let k = wrote_filtered table r c p ds apart (subst (λ b. WroteIn table r (cond b (d ∷ filter p ds) (filter p ds))) f h) in (inr k.0, k.1))
]
  where
    here : (WroteIn table r (filter p ds) → WroteIn table r ds × (is_of table r.row.0 c ≡ false)) → p d ≡ true → WroteIn table r (d ∷ filter p ds) → WroteIn table r (d ∷ ds) × (is_of table r.row.0 c ≡ false)
    here rest t (inl wrote) = (inl wrote, apart d t wrote)
    here rest t (inr more) = (let k = rest more in (inr k.0, k.1))

apart_before : (table : ℕ) (r : Record) (c d : Change) → is_before d c ≡ true → WroteOne table r d → is_of table r.row.0 c ≡ false
apart_before table r c d before wrote = (let t = wrote.0 in let is = row_is r d.row.0 d.values wrote.1 in grind (arith, nat_tests, t, is, before))

apart_after : (table : ℕ) (r : Record) (c d : Change) → is_before c d ≡ true → WroteOne table r d → is_of table r.row.0 c ≡ false
apart_after table r c d after wrote = (let t = wrote.0 in let is = row_is r d.row.0 d.values wrote.1 in grind (arith, nat_tests, t, is, after))

wrote_with : (table : ℕ) (r : Record) (c : Change) (cs : List Change) → WroteIn table r (with_change c cs) → WroteOne table r c ⊎ (WroteIn table r cs × (is_of table r.row.0 c ≡ false))
wrote_with table r c cs h = by (wrote_joined table r (filter (λ d. is_before d c) cs) (c ∷ filter (λ d. is_before c d) cs) h)
  where
    by : WroteIn table r (filter (λ d. is_before d c) cs) ⊎ WroteIn table r (c ∷ filter (λ d. is_before c d) cs) → WroteOne table r c ⊎ (WroteIn table r cs × (is_of table r.row.0 c ≡ false))
    by (inl low) = inr (wrote_filtered table r c (λ d. is_before d c) cs (apart_before table r c) low)
    by (inr (inl here)) = inl here
    by (inr (inr high)) = inr (wrote_filtered table r c (λ d. is_before c d) cs (apart_after table r c) high)

-- ---- further changes

any_joined : (p : Change → Bool) (xs ys : List Change) → list_any p (xs ++ ys) ≡ false → (list_any p xs ≡ false) × (list_any p ys ≡ false)
any_joined p [] ys h = (refl, h)
any_joined p (x ∷ xs) ys h =
    let k = or_parts (p x) (list_any p (xs ++ ys)) h in
    let rest = any_joined p xs ys k.1 in
    (ap (λ b. b || list_any p xs) k.0 ∙ rest.0, rest.1)

none_filtered : (p a b : Change → Bool) (cs : List Change) → ((d : Change) → p d ≡ true → (a d || b d) ≡ true) → list_any p (filter a cs) ≡ false → list_any p (filter b cs) ≡ false → list_any p cs ≡ false
none_filtered p a b [] one_of left right = refl
none_filtered p a b (d ∷ ds) one_of left right = elim (cases_Bool (p d)) [
  | inl t ↦ elim (cases_Bool (a d)) [
    | inl k ↦ (let all : (p d || list_any p (filter a ds)) ≡ false = subst (λ x. list_any p (cond x (d ∷ filter a ds) (filter a ds)) ≡ false) k left in let no : true ≡ false = sym (ap (λ x. x || list_any p (filter a ds)) t) ∙ all in cc)
    | inr g ↦
        let other : b d ≡ true = sym (ap (λ x. x || b d) g) ∙ one_of d t in
        let all : (p d || list_any p (filter b ds)) ≡ false = subst (λ x. list_any p (cond x (d ∷ filter b ds) (filter b ds)) ≡ false) other right in
        let no : true ≡ false = sym (ap (λ x. x || list_any p (filter b ds)) t) ∙ all in
        cc
  ]
  | inr f ↦ ap (λ x. x || list_any p ds) f ∙ none_filtered p a b ds one_of (less a left) (less b right)
]
  where
    less : (q : Change → Bool) → list_any p (filter q (d ∷ ds)) ≡ false → list_any p (filter q ds) ≡ false
    less q h = elim (cases_Bool (q d)) [
      | inl k ↦ (or_parts (p d) (list_any p (filter q ds)) (subst (λ x. list_any p (cond x (d ∷ filter q ds) (filter q ds)) ≡ false) k h)).1
      | inr g ↦ subst (λ x. list_any p (cond x (d ∷ filter q ds) (filter q ds)) ≡ false) g h
    ]

none_with : (table n : ℕ) (c : Change) (cs : List Change) → has_change table n (with_change c cs) ≡ false → (is_of table n c ≡ false) × (has_change table n cs ≡ false)
none_with table n c cs h =
    let k = any_joined (is_of table n) (filter (λ d. is_before d c) cs) (c ∷ filter (λ d. is_before c d) cs) h in
    let own = or_parts (is_of table n c) (list_any (is_of table n) (filter (λ d. is_before c d) cs)) k.1 in
    (own.0, none_filtered (is_of table n) (λ d. is_before d c) (λ d. is_before c d) cs (λ d t. (let apart = own.0 in grind (arith, nat_tests, t, apart))) k.0 own.1)

pub none_further : (table n : ℕ) (new cs : List Change) → has_change table n (with_changes new cs) ≡ false → (has_change table n cs ≡ false) × (has_change table n new ≡ false)
none_further table n [] cs h = (h, refl)
none_further table n (c ∷ new) cs h =
    let k = none_further table n new (with_change c cs) h in
    let own = none_with table n c cs k.0 in
    (own.1, ap (λ b. b || has_change table n new) own.0 ∙ k.1)

pub rise_further : (new cs : List Change) → Rise cs → Rise (with_changes new cs)
rise_further [] cs rise = rise
rise_further (c ∷ new) cs rise = rise_further new (with_change c cs) (change_rises c cs rise)

-- WHAT IS WRITTEN WITH FURTHER CHANGES is written by them, or was, and they leave it
pub written_further : (table : ℕ) (new cs : List Change) (r : Record) → Rise cs → In r (rows_written table (with_changes new cs)) → In r (rows_written table new) ⊎ (In r (rows_written table cs) × (has_change table r.row.0 new ≡ false))
written_further table [] cs r rise h = inr (h, refl)
written_further table (c ∷ new) cs r rise h = by (written_further table new (with_change c cs) r (change_rises c cs rise) h)
  where
    here : has_change table r.row.0 new ≡ false → WroteOne table r c ⊎ (WroteIn table r cs × (is_of table r.row.0 c ≡ false)) → In r (rows_written table (c ∷ new)) ⊎ (In r (rows_written table cs) × (has_change table r.row.0 (c ∷ new) ≡ false))
    here none (inl wrote) = inl (unchanged_there table new (one table c []) r (one_new table c [] r wrote) none)
    here none (inr old) = inr (written_of table cs r rise old.0, ap (λ b. b || has_change table r.row.0 new) old.1 ∙ none)

    by : In r (rows_written table new) ⊎ (In r (rows_written table (with_change c cs)) × (has_change table r.row.0 new ≡ false)) → In r (rows_written table (c ∷ new)) ⊎ (In r (rows_written table cs) × (has_change table r.row.0 (c ∷ new) ≡ false))
    by (inl wrote) = inl (written_there table new (one table c []) r wrote)
    by (inr k) = here k.1 (wrote_with table r c cs (wrote_in table (with_change c cs) r k.0))

-- A ROW OF THE VIEW WITH FURTHER CHANGES is written by them, or was in the view
pub view_further : (table : ℕ) (new cs : List Change) (rows : List Record) (r : Record) → Rise cs → In r (rows_with_changes table (with_changes new cs) rows) → In r (rows_written table new) ⊎ In r (rows_with_changes table cs rows)
view_further table new cs rows r rise h = by (applied_in table (with_changes new cs) rows r h)
  where
    here : In r (rows_written table new) ⊎ (In r (rows_written table cs) × (has_change table r.row.0 new ≡ false)) → In r (rows_written table new) ⊎ In r (rows_with_changes table cs rows)
    here (inl wrote) = inl wrote
    here (inr old) = inr (written_there table cs rows r old.0)

    by : In r (rows_written table (with_changes new cs)) ⊎ (In r rows × (has_change table r.row.0 (with_changes new cs) ≡ false)) → In r (rows_written table new) ⊎ In r (rows_with_changes table cs rows)
    by (inl wrote) = here (written_further table new cs r rise wrote)
    by (inr old) = inr (unchanged_there table cs rows r old.0 (none_further table r.row.0 new cs old.1).0)

-- what is left with further changes was left
pub left_further : (table : ℕ) (new cs : List Change) (rows : List Record) (r : Record) → In r (rows_left table (with_changes new cs) rows) → In r (rows_left table cs rows)
left_further table new cs rows r h =
    let k = in_filter (λ (s : Record). not (has_change table s.row.0 (with_changes new cs))) r rows h in
    let none = (none_further table r.row.0 new cs (not-true (has_change table r.row.0 (with_changes new cs)) k.1)).0 in
    in_kept (λ (s : Record). not (has_change table s.row.0 cs)) r rows k.0 (ap not none)

-- changes of another table write nothing here
pub none_elsewhere : (table : ℕ) (cs : List Change) (r : Record) → AllByRecursion (λ (c : Change). (c.table == table) ≡ false) cs → In r (rows_written table cs) → ⊥
none_elsewhere table cs r apart h = by cs apart (wrote_in table cs r h)
  where
    by : (ds : List Change) → AllByRecursion (λ (c : Change). (c.table == table) ≡ false) ds → WroteIn table r ds → ⊥
    by [] a w = w
    by (d ∷ ds) a (inl wrote) = (let no : true ≡ false = sym wrote.0 ∙ a.0 in cc)
    by (d ∷ ds) a (inr more) = by ds a.1 more

-- in rows with a commit's changes: written by it, or left by it
pub commit_in : (table : ℕ) (cs : List Change) (rows : List Record) (r : Record) → In r (rows_with_changes table cs rows) → In r (rows_written table cs) ⊎ In r (rows_left table cs rows)
commit_in table cs rows r h = by (applied_in table cs rows r h)
  where
    by : In r (rows_written table cs) ⊎ (In r rows × (has_change table r.row.0 cs ≡ false)) → In r (rows_written table cs) ⊎ In r (rows_left table cs rows)
    by (inl wrote) = inl wrote
    by (inr old) = inr (in_kept (λ (s : Record). not (has_change table s.row.0 cs)) r rows old.0 (ap not old.1))
