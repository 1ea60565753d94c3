-- A further change of a row, and what it makes of the lists that are kept.
use Rattle.std.proofs.Common.{◌≡◌, ℕ, List, [], ◌∷◌, ◌++◌, Bool, true, false, not, ◌&&◌, ◌||◌, ◌==◌, cond, Option, Some, None, inl, inr, refl, ap, sym, subst, ◌∙◌, filter, find, nat_lt, arith}
use Rattle.std.proofs.lemmas.Bool.{cases_Bool}
use Rattle.std.proofs.lemmas.Bool.Decides.{nat_tests}
use Rattle.std.specs.Ordering.{is_eq}
use Rattle.std.proofs.Math.Bool.{and-true}
use Rattle.rv_value.specs.declared.record.Record.{Record}
use Rattle.rv_value.specs.declared.record.IndexEntry.{IndexEntry}
use Rattle.rv_value.specs.Entries.{entry_cmp}
use Rattle.rv_rows.specs.declared.changes.Change.{Change}
use Rattle.rv_rows.specs.Changes.{is_before, is_of, with_change}
use Rattle.rv_rows.specs.Rising.{put_in}
use Rattle.rv_blocks.specs.Taking.{take_from}
use Rattle.rv_reader.specs.Entries.{comes_before, entry_of, entry_at}
use Rattle.rv_reader.specs.Tables.{row_at}
use Rattle.rv_reader.proofs.Orders.{one_way}
use Rattle.rv_reader.proofs.Sorting.{same, equal_entries}
use Rattle.rv_overlay.specs.declared.frozen.Part.{Part}
use Rattle.rv_overlay.specs.Keeping.{KeepsUp, NothingKept, OthersKeepUp, added_after, are_same, taken_after, with_some, without_some}
use Rattle.rv_overlay.specs.Laying.{has}
use Rattle.rv_overlay.specs.Rows.{change_of, changed_row}
use Rattle.rv_overlay.specs.Views.{Freezes, adds, is_entry, takes}
use Rattle.rv_overlay.proofs.Counted.{itself_true}
use Rattle.rv_overlay.proofs.Members.{has_filter, has_joined, has_put}
use Rattle.rv_overlay.proofs.Viewing.{row_other}

-- The change of a row, once another one is put in.

pub find_kept : {X : Type 0} (p t : X → Bool) → ((x : X) → p x ≡ true → t x ≡ true) → (xs : List X) → find p (filter t xs) ≡ find p xs
find_kept p t keeps [] = refl
find_kept p t keeps (x ∷ xs) =
    let rest = find_kept p t keeps xs in
    elim (cases_Bool (p x)) [
      | inl h ↦ rw (keeps x h, h) refl
      | inr f ↦ elim (cases_Bool (t x)) [ inl k ↦ rw (k, f) rest | inr g ↦ rw (g, f) rest ]
    ]

pub find_left : {X : Type 0} (p t : X → Bool) → ((x : X) → p x ≡ true → t x ≡ false) → (xs : List X) → find p (filter t xs) ≡ None
find_left p t leaves [] = refl
find_left p t leaves (x ∷ xs) =
    let rest = find_left p t leaves xs in
    elim (cases_Bool (p x)) [
      | inl h ↦ rw (leaves x h) rest
      | inr f ↦ elim (cases_Bool (t x)) [ inl k ↦ rw (k, f) rest | inr g ↦ rw g rest ]
    ]

pub find_front : {X : Type 0} (p : X → Bool) (xs ys : List X) → find p ys ≡ None → find p (xs ++ ys) ≡ find p xs
find_front p [] ys none = none
find_front p (x ∷ xs) ys none =
    let rest = find_front p xs ys none in
    elim (p x) as (λ b. cond b (Some x) (find p (xs ++ ys)) ≡ cond b (Some x) (find p xs)) [ true ↦ refl | false ↦ rest ]

pub find_back : {X : Type 0} (p : X → Bool) (xs ys : List X) → find p xs ≡ None → find p (xs ++ ys) ≡ find p ys
find_back p [] ys none = refl
find_back p (x ∷ xs) ys none = elim (cases_Bool (p x)) [
  | inl t ↦ (let no = rw t at none in cc)
  | inr f ↦ (let rest = rw f at none in rw f (find_back p xs ys rest))
]

pub put_own : (table number : ℕ) (c : Change) (cs : List Change) → is_of table number c ≡ true → change_of table number (with_change c cs) ≡ Some c
put_own table number c cs its =
    let none : find (is_of table number) (filter (λ x. is_before x c) cs) ≡ None = find_left (is_of table number) (λ x. is_before x c) (λ x h. grind (arith, nat_tests)) cs in
    find_back (is_of table number) (filter (λ x. is_before x c) cs) (c ∷ filter (λ x. is_before c x) cs) none ∙ rw its refl

pub put_other : (table number : ℕ) (c : Change) (cs : List Change) → is_of table number c ≡ false → change_of table number (with_change c cs) ≡ change_of table number cs
put_other table number c cs other =
    let front = filter (λ x. is_before x c) cs in
    let back = filter (λ x. is_before c x) cs in
    elim (cases_Bool (nat_lt table c.table || ((table == c.table) && nat_lt number c.row.0))) [
      | inl low ↦
          let none : find (is_of table number) back ≡ None = find_left (is_of table number) (λ x. is_before c x) (λ x h. grind (arith, nat_tests)) cs in
          find_front (is_of table number) front (c ∷ back) (rw other none) ∙ find_kept (is_of table number) (λ x. is_before x c) (λ x h. grind (arith, nat_tests)) cs
      | inr high ↦
          let none : find (is_of table number) front ≡ None = find_left (is_of table number) (λ x. is_before x c) (λ x h. grind (arith, nat_tests)) cs in
          find_back (is_of table number) front (c ∷ back) none ∙ rw other (find_kept (is_of table number) (λ x. is_before c x) (λ x h. grind (arith, nat_tests)) cs)
    ]

-- Members.

abbrev here : Option IndexEntry → IndexEntry → Bool
here None e = false
here (Some x) e = is_eq (entry_cmp x e)

has_taken : (x : IndexEntry) (ys : List IndexEntry) (e : IndexEntry) → has (take_from comes_before x ys) e ≡ (has ys e && not (is_eq (entry_cmp x e)))
has_taken x ys e =
    has_joined (filter (λ y. comes_before y x) ys) (filter (λ y. comes_before x y) ys) e
    ∙ rw (has_filter (λ y. comes_before y x) ys e, has_filter (λ y. comes_before x y) ys e) (elim (cases_Bool (comes_before e x)) [
      | inl u ↦ rw (u, one_way e x u, apart e x u) (by_true (has ys e))
      | inr v ↦ elim (cases_Bool (comes_before x e)) [
        | inl w ↦ rw (v, w, apart_back x e w) (by_other (has ys e))
        | inr w ↦
            let is : x ≡ e = same x e w v in
            let equal : is_eq (entry_cmp x e) ≡ true = subst (λ d. is_eq (entry_cmp x d) ≡ true) is (itself_true x) in
            rw (v, w, equal) (by_false (has ys e))
      ]
    ])
  where
    apart : (a b : IndexEntry) → comes_before a b ≡ true → is_eq (entry_cmp b a) ≡ false
    apart a b h = elim (cases_Bool (is_eq (entry_cmp b a))) [
      | inl t ↦ let is : b ≡ a = equal_entries b a t in let no : comes_before a a ≡ true = ap (comes_before a) (sym is) ∙ h in let never = one_way a a no in cc
      | inr f ↦ f
    ]

    apart_back : (a b : IndexEntry) → comes_before a b ≡ true → is_eq (entry_cmp a b) ≡ false
    apart_back a b h = elim (cases_Bool (is_eq (entry_cmp a b))) [
      | inl t ↦ let is : a ≡ b = equal_entries a b t in let no : comes_before b b ≡ true = sym (ap (λ d. comes_before d b) is) ∙ h in let never = one_way b b no in cc
      | inr f ↦ f
    ]

    by_true : (b : Bool) → (b || false) ≡ (b && true)
    by_true true = refl
    by_true false = refl

    by_other : (b : Bool) → (false || b) ≡ (b && true)
    by_other true = refl
    by_other false = refl

    by_false : (b : Bool) → false ≡ (b && false)
    by_false true = refl
    by_false false = refl

has_with_some : (o : Option IndexEntry) (xs : List IndexEntry) (e : IndexEntry) → has (with_some o xs) e ≡ (here o e || has xs e)
has_with_some None xs e = refl
has_with_some (Some x) xs e = has_put x xs e

has_without_some : (o : Option IndexEntry) (xs : List IndexEntry) (e : IndexEntry) → has (without_some o xs) e ≡ (has xs e && not (here o e))
has_without_some None xs e = sym (and-true (has xs e))
has_without_some (Some x) xs e = has_taken x xs e

same_here : (a b : Option IndexEntry) (e : IndexEntry) → are_same a b ≡ true → here a e ≡ here b e
same_here None b e h = cc
same_here (Some x) None e h = cc
same_here (Some x) (Some y) e h = ap (λ d. is_eq (entry_cmp d e)) (equal_entries x y h)

apart_here : (a b : Option IndexEntry) (e : IndexEntry) → are_same a b ≡ false → (here a e && here b e) ≡ false
apart_here None b e h = refl
apart_here (Some x) None e h = elim (is_eq (entry_cmp x e)) as (λ b. (b && false) ≡ false) [ true ↦ refl | false ↦ refl ]
apart_here (Some x) (Some y) e h = elim (cases_Bool (is_eq (entry_cmp x e))) [
  | inl t ↦ elim (cases_Bool (is_eq (entry_cmp y e))) [
    | inl u ↦
        let is : x ≡ y = equal_entries x e t ∙ sym (equal_entries y e u) in
        let no : is_eq (entry_cmp x y) ≡ true = subst (λ d. is_eq (entry_cmp x d) ≡ true) is (itself_true x) in
        let never : true ≡ false = sym no ∙ h in
        cc
    | inr v ↦ rw (t, v) refl
  ]
  | inr f ↦ rw f refl
]

here_is : (columns : List ℕ) (found : Option Record) (e : IndexEntry) → here (entry_at columns found) e ≡ is_entry columns found e
here_is columns None e = refl
here_is columns (Some r) e = refl

-- what a change takes and adds, also where there is none
pub takes_is : (columns : List ℕ) (c : Option Change) (found : Option Record) (e : IndexEntry) → takes columns c found e ≡ (is_entry columns found e && not (is_entry columns (changed_row c found) e))
takes_is columns None found e = never (is_entry columns found e)
  where
    never : (b : Bool) → false ≡ (b && not b)
    never true = refl
    never false = refl
takes_is columns (Some c) found e = refl

pub adds_is : (columns : List ℕ) (c : Option Change) (found : Option Record) (e : IndexEntry) → adds columns c found e ≡ (is_entry columns (changed_row c found) e && not (is_entry columns found e))
adds_is columns None found e = never (is_entry columns found e)
  where
    never : (b : Bool) → false ≡ (b && not b)
    never true = refl
    never false = refl
adds_is columns (Some c) found e = refl

-- Rows of a number.

row_found : (rows : List Record) (number : ℕ) (columns : List ℕ) (e : IndexEntry) → number == e.row.0 ≡ false → is_entry columns (row_at rows number) e ≡ false
row_found [] number columns e other = refl
row_found (r ∷ rows) number columns e other = elim (cases_Bool (r.row.0 == number)) [
  | inl t ↦
      let apart : r.row.0 == e.row.0 ≡ false = grind (arith, nat_tests) in
      rw t (row_other columns r e apart)
  | inr f ↦ rw f (row_found rows number columns e other)
]

change_left : (c : Change) (found : Option Record) (columns : List ℕ) (e : IndexEntry) → c.row.0 == e.row.0 ≡ false → is_entry columns (changed_row (Some c) found) e ≡ false
change_left c found columns e other = by c.values
  where
    by : (values : _) → is_entry columns (changed_row (Some (record c { values = values })) found) e ≡ false
    by None = refl
    by (Some vs) = row_other columns (record { row = c.row; values = vs }) e other

change_found : (table number : ℕ) (cs : List Change) (found : Option Record) (columns : List ℕ) (e : IndexEntry) → number == e.row.0 ≡ false → is_entry columns found e ≡ false → is_entry columns (changed_row (change_of table number cs) found) e ≡ false
change_found table number [] found columns e other none = none
change_found table number (c ∷ cs) found columns e other none = elim (cases_Bool (is_of table number c)) [
  | inl t ↦
      let apart : c.row.0 == e.row.0 ≡ false = grind (arith, nat_tests) in
      ap (λ b. is_entry columns (changed_row (cond b (Some c) (change_of table number cs)) found) e) t ∙ change_left c found columns e apart
  | inr f ↦
      ap (λ b. is_entry columns (changed_row (cond b (Some c) (change_of table number cs)) found) e) f ∙ change_found table number cs found columns e other none
]

-- The lists after a change.

has_taken_after : (base new : Option IndexEntry) (taken : List IndexEntry) (e : IndexEntry) → has (taken_after base new taken) e ≡ cond (are_same base new) (has taken e && not (here base e)) (here base e || has taken e)
has_taken_after base new taken e = elim (are_same base new) as (λ s. has (cond s (without_some base taken) (with_some base taken)) e ≡ cond s (has taken e && not (here base e)) (here base e || has taken e)) [
  | true ↦ has_without_some base taken e
  | false ↦ has_with_some base taken e
]

has_added_after : (base old new : Option IndexEntry) (added : List IndexEntry) (e : IndexEntry) → has (added_after base old new added) e ≡ cond (are_same base new) (has added e && not (here old e)) (here new e || (has added e && not (here old e)))
has_added_after base old new added e = elim (are_same base new) as (λ s. has (cond s (without_some old added) (with_some new (without_some old added))) e ≡ cond s (has added e && not (here old e)) (here new e || (has added e && not (here old e)))) [
  | true ↦ has_without_some old added e
  | false ↦ has_with_some new (without_some old added) e ∙ ap (λ b. here new e || b) (has_without_some old added e)
]

-- of the entry of the row itself
gone_own : (s b p w t : Bool) → (s ≡ true → b ≡ w) → (s ≡ false → (b && w) ≡ false) → t ≡ (b && not p) → cond s (t && not b) (b || t) ≡ (b && not w)
gone_own true true p true t f g h = rw h (by p)
  where
    by : (p : Bool) → ((true && not p) && false) ≡ false
    by true = refl
    by false = refl
gone_own true true p false t f g h = let no : true ≡ false = f refl in cc
gone_own true false p w t f g h = rw h refl
gone_own false true p true t f g h = let no : true ≡ false = g refl in cc
gone_own false true p false t f g h = refl
gone_own false false p w t f g h = h

come_own : (s b p w t : Bool) → (s ≡ true → b ≡ w) → (s ≡ false → (b && w) ≡ false) → t ≡ (p && not b) → cond s (t && not p) (w || (t && not p)) ≡ (w && not b)
come_own true b true w t f g h = rw (h, f refl) (by w)
  where
    by : (w : Bool) → ((true && not w) && false) ≡ (w && not w)
    by true = refl
    by false = refl
come_own true b false w t f g h = rw (h, f refl) (by w)
  where
    by : (w : Bool) → false ≡ (w && not w)
    by true = refl
    by false = refl
come_own false true p true t f g h = let no : true ≡ false = g refl in cc
come_own false false p true t f g h = refl
come_own false b true false t f g h = rw h (by b)
  where
    by : (b : Bool) → ((true && not b) && false) ≡ false
    by true = refl
    by false = refl
come_own false b false false t f g h = rw h refl

-- of an entry of another row
gone_other : (s b t : Bool) → b ≡ false → cond s (t && not b) (b || t) ≡ t
gone_other true b true f = rw f refl
gone_other true b false f = refl
gone_other false b t f = rw f refl

come_other : (s p w t : Bool) → p ≡ false → w ≡ false → cond s (t && not p) (w || (t && not p)) ≡ t
come_other true p w true f g = rw f refl
come_other true p w false f g = refl
come_other false p w true f g = rw (f, g) refl
come_other false p w false f g = rw g refl

pub keeps_up : KeepsUp
keeps_up columns c changes rows part frozen =
    let base = row_at rows c.row.0 in
    let before = changed_row (change_of c.table c.row.0 changes) base in
    let after = changed_row (Some c) None in
    let b = entry_at columns base in
    let p = entry_at columns before in
    let w = entry_at columns after in
    record {
      gone = λ e. has_taken_after b w part.taken e ∙ elim (cases_Bool (c.row.0 == e.row.0)) [
        | inl t ↦
            let is : c.row.0 ≡ e.row.0 = grind (arith, nat_tests) in
            let its : is_of c.table e.row.0 c ≡ true = grind (arith, nat_tests) in
            let old : has part.taken e ≡ (here b e && not (here p e)) =
            frozen.gone e ∙ takes_is columns (change_of c.table e.row.0 changes) (row_at rows e.row.0) e
            ∙ ap (λ n. is_entry columns (row_at rows n) e && not (is_entry columns (changed_row (change_of c.table n changes) (row_at rows n)) e)) (sym is)
            ∙ ap (λ x. x && not (is_entry columns before e)) (sym (here_is columns base e))
            ∙ ap (λ x. here b e && not x) (sym (here_is columns before e)) in
            gone_own (are_same b w) (here b e) (here p e) (here w e) (has part.taken e) (same_here b w e) (apart_here b w e) old
            ∙ ap (λ x. x && not (here w e)) (here_is columns base e) ∙ ap (λ x. is_entry columns base e && not x) (here_is columns after e)
            ∙ ap (λ n. takes columns (Some c) (row_at rows n) e) is
            ∙ ap (λ o. takes columns o (row_at rows e.row.0) e) (sym (put_own c.table e.row.0 c changes its))
        | inr f ↦
            let other : is_of c.table e.row.0 c ≡ false = grind (arith, nat_tests) in
            gone_other (are_same b w) (here b e) (has part.taken e) (here_is columns base e ∙ row_found rows c.row.0 columns e f)
            ∙ frozen.gone e ∙ ap (λ o. takes columns o (row_at rows e.row.0) e) (sym (put_other c.table e.row.0 c changes other))
      ];
      come = λ e. has_added_after b p w part.added e ∙ elim (cases_Bool (c.row.0 == e.row.0)) [
        | inl t ↦
            let is : c.row.0 ≡ e.row.0 = grind (arith, nat_tests) in
            let its : is_of c.table e.row.0 c ≡ true = grind (arith, nat_tests) in
            let old : has part.added e ≡ (here p e && not (here b e)) =
            frozen.come e ∙ adds_is columns (change_of c.table e.row.0 changes) (row_at rows e.row.0) e
            ∙ ap (λ n. is_entry columns (changed_row (change_of c.table n changes) (row_at rows n)) e && not (is_entry columns (row_at rows n) e)) (sym is)
            ∙ ap (λ x. x && not (is_entry columns base e)) (sym (here_is columns before e))
            ∙ ap (λ x. here p e && not x) (sym (here_is columns base e)) in
            come_own (are_same b w) (here b e) (here p e) (here w e) (has part.added e) (same_here b w e) (apart_here b w e) old
            ∙ ap (λ x. x && not (here b e)) (here_is columns after e) ∙ ap (λ x. is_entry columns after e && not x) (here_is columns base e)
            ∙ ap (λ n. adds columns (Some c) (row_at rows n) e) is
            ∙ ap (λ o. adds columns o (row_at rows e.row.0) e) (sym (put_own c.table e.row.0 c changes its))
        | inr f ↦
            let other : is_of c.table e.row.0 c ≡ false = grind (arith, nat_tests) in
            let none = row_found rows c.row.0 columns e f in
            come_other (are_same b w) (here p e) (here w e) (has part.added e)
            (here_is columns before e ∙ change_found c.table c.row.0 changes base columns e f none)
            (here_is columns after e ∙ change_left c None columns e f)
            ∙ frozen.come e ∙ ap (λ o. adds columns o (row_at rows e.row.0) e) (sym (put_other c.table e.row.0 c changes other))
      ];
    }

pub others_keep_up : OthersKeepUp
others_keep_up columns table c changes rows taken added apart frozen = record {
  gone = λ e.
      let other : is_of table e.row.0 c ≡ false = grind (arith, nat_tests) in
      frozen.gone e ∙ ap (λ o. takes columns o (row_at rows e.row.0) e) (sym (put_other table e.row.0 c changes other));
  come = λ e.
      let other : is_of table e.row.0 c ≡ false = grind (arith, nat_tests) in
      frozen.come e ∙ ap (λ o. adds columns o (row_at rows e.row.0) e) (sym (put_other table e.row.0 c changes other));
}

pub nothing_kept : NothingKept
nothing_kept columns table rows = record { gone = λ e. refl; come = λ e. refl }
