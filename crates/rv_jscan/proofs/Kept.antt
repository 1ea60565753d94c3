-- What a list keeps of a leaf, one more entry at a time.
use Rattle.std.proofs.Common.{◌≡◌, ℕ, ◌+◌, ◌<◌, List, [], ◌∷◌, ◌++◌, length, take, drop, slice_index_or, map, filter, Bool, true, false, cond, ◌&&◌, ◌||◌, refl, ap, sym, ◌∙◌, arith, subst, append_assoc, nat_eq, inl, inr, Option, Some, None, IfSome}
use Rattle.std.specs.Prelude.{if◌then◌else◌}
use Rattle.std.proofs.lemmas.Bool.{cases_Bool, and_right, and_left}
use Rattle.std.proofs.lemmas.Bool.Decides.{nat_tests}
use Rattle.std.proofs.lemmas.List.{take_more, drop_more, map-append}
use Rattle.std.proofs.lemmas.List.Elements.{filter-append}
use Rattle.rv_value.proofs.Tests.{other_false}
use Rattle.rv_value.specs.declared.record.IndexEntry.{IndexEntry}
use Rattle.rv_value.specs.declared.record.RowNo.{RowNo}
use Rattle.rv_restrict.specs.Parts.{Parted, passes}
use Rattle.rv_keylist.specs.Keys.{has_key}
use Rattle.rv_keylist.specs.Marks.{may_key}
use Rattle.rv_keylist.proofs.Narrow.{none_stays}
use Rattle.rv_reader.specs.declared.reader.Chunk.{Chunk}
use Rattle.rv_keylist.proofs.Onces.{key_append}
use Rattle.rv_jscan.specs.Entries.{has_entry, Apart, Disjoint}
use Rattle.rv_jscan.specs.Pieces.{kept_by, is_kept}
use Rattle.rv_jscan.specs.Joint.{passing}
use Rattle.rv_jscan.proofs.Parts.{Apart-cross, has_append}

pub kept_append : (admits : ℕ → Bool) (part : Parted) (xs ys : List IndexEntry) → kept_by admits part (xs ++ ys) ≡ kept_by admits part xs ++ kept_by admits part ys
kept_append admits part xs ys = ap (map (λ (e : IndexEntry). e.row.0)) (filter-append (is_kept admits part) xs ys) ∙ map-append (λ (e : IndexEntry). e.row.0) (filter (is_kept admits part) xs) (filter (is_kept admits part) ys)

kept_one : (admits : ℕ → Bool) (part : Parted) (e : IndexEntry) → kept_by admits part (e ∷ []) ≡ (if is_kept admits part e then e.row.0 ∷ [] else [])
kept_one admits part e = elim (is_kept admits part e) as (λ b. map (λ (e : IndexEntry). e.row.0) (cond b (e ∷ []) []) ≡ (if b then e.row.0 ∷ [] else [])) [ true ↦ refl | false ↦ refl ]

pub add_step : (admits : ℕ → Bool) (part : Parted) (entries : List IndexEntry) (i : ℕ) (before keys new : List ℕ) (mark : Bool) (row : RowNo) (d : IndexEntry) → i < length entries → row ≡ (slice_index_or entries i d).row → mark ≡ passes part (slice_index_or entries i d).key → keys ≡ before ++ kept_by admits part (take i entries) → new ≡ keys ++ (if (mark && admits row.0) then row.0 ∷ [] else []) → new ≡ before ++ kept_by admits part (take (i + 1) entries)
add_step admits part entries i before keys new mark row d below is marked k n =
    let e = slice_index_or entries i d in
    let more : kept_by admits part (take (i + 1) entries) ≡ kept_by admits part (take i entries) ++ (if is_kept admits part e then e.row.0 ∷ [] else []) =
    ap (kept_by admits part) (take_more entries i d below) ∙ kept_append admits part (take i entries) (e ∷ []) ∙ ap (λ (x : List ℕ). kept_by admits part (take i entries) ++ x) (kept_one admits part e) in
    n ∙ ap (λ (x : List ℕ). x ++ (if (mark && admits row.0) then row.0 ∷ [] else [])) k ∙ append_assoc before (kept_by admits part (take i entries)) _ ∙ ap (λ (b : Bool). before ++ (kept_by admits part (take i entries) ++ (if (b && admits row.0) then row.0 ∷ [] else []))) marked ∙ ap (λ (r : RowNo). before ++ (kept_by admits part (take i entries) ++ (if (passes part e.key && admits r.0) then r.0 ∷ [] else []))) is ∙ ap (λ (x : List ℕ). before ++ x) (sym more)

one_fresh : (keys : List ℕ) (e : IndexEntry) (rest : List IndexEntry) → Apart (e ∷ rest) → Disjoint keys (e ∷ rest) → Disjoint (keys ++ e.row.0 ∷ []) rest
one_fresh keys e rest a d n = grind (arith, nat_tests, key_append n keys (e.row.0 ∷ []), d n, a.0)

none_fresh : (keys : List ℕ) (e : IndexEntry) (rest : List IndexEntry) → Disjoint keys (e ∷ rest) → Disjoint (keys ++ []) rest
none_fresh keys e rest d n = grind (arith, nat_tests, key_append n keys [], d n)

pub fresh_step : (entries : List IndexEntry) (i : ℕ) (keys new : List ℕ) (b : Bool) (row : RowNo) (d : IndexEntry) → i < length entries → row ≡ (slice_index_or entries i d).row → Apart (drop i entries) → Disjoint keys (drop i entries) → new ≡ keys ++ (if b then row.0 ∷ [] else []) → Disjoint new (drop (i + 1) entries)
fresh_step entries i keys new b row d below is a f n =
    let e = slice_index_or entries i d in
    let cut : drop i entries ≡ e ∷ drop (i + 1) entries = drop_more entries i d below in
    let added : new ≡ keys ++ (if b then e.row.0 ∷ [] else []) = n ∙ ap (λ (r : RowNo). keys ++ (if b then r.0 ∷ [] else [])) is in
    subst (λ (ks : List ℕ). Disjoint ks (drop (i + 1) entries)) (sym added) (elim b as (λ v. Disjoint (keys ++ (if v then e.row.0 ∷ [] else [])) (drop (i + 1) entries)) [
      | true ↦ one_fresh keys e (drop (i + 1) entries) (subst Apart cut a) (subst (Disjoint keys) cut f)
      | false ↦ none_fresh keys e (drop (i + 1) entries) (subst (Disjoint keys) cut f)
    ])

-- the first of the entries that are left is of no row among the keys
pub fresh_here : (entries : List IndexEntry) (i : ℕ) (keys : List ℕ) (row : RowNo) (d : IndexEntry) → i < length entries → row ≡ (slice_index_or entries i d).row → Disjoint keys (drop i entries) → has_key row.0 keys ≡ false
fresh_here entries i keys row d below is f =
    let e = slice_index_or entries i d in
    let here = subst (Disjoint keys) (drop_more entries i d below) f e.row.0 in
    let same : nat_eq e.row.0 e.row.0 ≡ true = grind (arith, nat_tests) in
    let fresh : has_key e.row.0 keys ≡ false = grind (arith, nat_tests, here, same) in
    subst (λ (r : RowNo). has_key r.0 keys ≡ false) (sym is) fresh

kept_yes : (admits : ℕ → Bool) (n row : ℕ) (passed : List IndexEntry) (kept : List ℕ) → admits row ≡ true → has_key n kept ≡ (has_entry n passed && admits n) → (nat_eq n row || has_key n kept) ≡ ((nat_eq n row || has_entry n passed) && admits n)
kept_yes admits n row passed kept h same = grind (arith, nat_tests, h, same)

kept_no : (admits : ℕ → Bool) (n row : ℕ) (passed : List IndexEntry) (kept : List ℕ) → admits row ≡ false → has_key n kept ≡ (has_entry n passed && admits n) → has_key n kept ≡ ((nat_eq n row || has_entry n passed) && admits n)
kept_no admits n row passed kept h same = grind (arith, nat_tests, h, same)

-- a row is kept where an entry of it passes, and the test admits it
pub kept_has : (admits : ℕ → Bool) (part : Parted) (n : ℕ) (entries : List IndexEntry) → has_key n (kept_by admits part entries) ≡ (has_entry n (filter (λ (e : IndexEntry). passes part e.key) entries) && admits n)
kept_has admits part n [] = refl
kept_has admits part n (e ∷ entries) =
    let passed = filter (λ (e : IndexEntry). passes part e.key) entries in
    let kept = filter (is_kept admits part) entries in
    elim (passes part e.key) as (λ b. has_key n (map (λ (e : IndexEntry). e.row.0) (cond (b && admits e.row.0) (e ∷ kept) kept)) ≡ (has_entry n (cond b (e ∷ passed) passed) && admits n)) [
      | true ↦ elim (admits e.row.0) as (λ m. admits e.row.0 ≡ m → has_key n (map (λ (e : IndexEntry). e.row.0) (cond m (e ∷ kept) kept)) ≡ ((nat_eq n e.row.0 || has_entry n passed) && admits n)) [
        | true ↦ λ h. kept_yes admits n e.row.0 passed (map (λ (e : IndexEntry). e.row.0) kept) h (kept_has admits part n entries)
        | false ↦ λ h. kept_no admits n e.row.0 passed (map (λ (e : IndexEntry). e.row.0) kept) h (kept_has admits part n entries)
      ] refl
      | false ↦ kept_has admits part n entries
    ]

pub kept_in : (admits : ℕ → Bool) (part : Parted) (n : ℕ) (entries : List IndexEntry) → has_entry n entries ≡ false → has_key n (kept_by admits part entries) ≡ false
kept_in admits part n [] h = refl
kept_in admits part n (e ∷ entries) h =
    let here : nat_eq n e.row.0 ≡ false = grind arith in
    let tail : has_entry n entries ≡ false = grind arith in
    elim (is_kept admits part e) as (λ b. has_key n (map (λ (e : IndexEntry). e.row.0) (cond b (e ∷ filter (is_kept admits part) entries) (filter (is_kept admits part) entries))) ≡ false) [
      | true ↦ grind (arith, here, kept_in admits part n entries tail)
      | false ↦ kept_in admits part n entries tail
    ]

-- A leaf is taken up.

builds_bool : (b e a ea m k bk : Bool) → (b || ea) ≡ true → ea ≡ (e || a) → k ≡ (e && m) → m ≡ true → bk ≡ (b || k) → (bk || a) ≡ true
builds_bool b e a ea m k bk h1 h2 h3 h4 h5 = grind arith

-- a row that stands in the list or ahead stands in the list with what is kept of the leaf, or behind the leaf
pub found_or_ahead : (building : List ℕ) (admits : ℕ → Bool) (part : Parted) (n : ℕ) (entries after : List IndexEntry) → (has_key n building || has_entry n (passing part (entries ++ after))) ≡ true → admits n ≡ true → (has_key n (building ++ kept_by admits part entries) || has_entry n (passing part after)) ≡ true
found_or_ahead building admits part n entries after b y =
    let s : passing part (entries ++ after) ≡ passing part entries ++ passing part after = filter-append (λ (e : IndexEntry). passes part e.key) entries after in
    let h = has_append n (passing part entries) (passing part after) in
    let k = kept_has admits part n entries in
    let a = key_append n building (kept_by admits part entries) in
    builds_bool (has_key n building) (has_entry n (passing part entries)) (has_entry n (passing part after)) _ (admits n) _ _ (subst (λ (left : List IndexEntry). (has_key n building || has_entry n left) ≡ true) s b) h k y a

fresh_no : (b k bk e a ea : Bool) → (b && ea) ≡ false → ea ≡ (e || a) → bk ≡ (b || k) → k ≡ false → (bk && a) ≡ false
fresh_no b k bk e a ea h1 h2 h3 h4 = grind arith

-- no row of the list with what is kept of the leaf stands behind the leaf
pub fresh_after : (building : List ℕ) (admits : ℕ → Bool) (part : Parted) (entries after : List IndexEntry) → Apart (entries ++ after) → Disjoint building (entries ++ after) → Disjoint (building ++ kept_by admits part entries) after
fresh_after building admits part entries after a d n =
    elim (cases_Bool (has_entry n entries)) [
      | inl here ↦ and_right _ _ (Apart-cross n entries after a here)
      | inr other ↦ fresh_no (has_key n building) (has_key n (kept_by admits part entries)) _ (has_entry n entries) _ _ (d n) (has_append n entries after) (key_append n building (kept_by admits part entries)) (kept_in admits part n entries other)
    ]

-- Some rows of the list stay: none of them stands ahead that stood not.
pub narrowed_fresh : (p : ℕ → Bool) (keys : List ℕ) (entries : List IndexEntry) → Disjoint keys entries → Disjoint (filter p keys) entries
narrowed_fresh p keys entries d n =
    elim (cases_Bool (has_key n keys)) [
      | inl here ↦ and_right _ _ (other_false _ _ here (d n))
      | inr other ↦ and_left _ _ (none_stays p n keys other)
    ]

pub narrowed_held : (list keys new : List ℕ) (held : Option Chunk) → new ≡ filter (λ k. may_key k list) keys → IfSome held (λ h. Disjoint keys h.entries) → IfSome held (λ h. Disjoint new h.entries)
narrowed_held list keys new None e f = tt
narrowed_held list keys new (Some h) e f = subst (λ (ks : List ℕ). Disjoint ks h.entries) (sym e) (narrowed_fresh (λ k. may_key k list) keys h.entries f)
