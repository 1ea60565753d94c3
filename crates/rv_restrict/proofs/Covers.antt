-- The range of a restriction has the key of every row for which it is True.
use Rattle.std.proofs.Common.{◌≡◌, ℕ, List, [], ◌∷◌, ◌++◌, Bool, true, false, cond, not, ◌&&◌, ◌||◌, Option, Some, None, refl, sym, ◌∙◌, append_assoc, nat_eq, take, length}
use Rattle.std.specs.List.{slice_index_or}
use Rattle.std.specs.Ordering.{is_lt, is_le, is_gt, is_ge, ordering_then, nat_cmp}
use Rattle.std.specs.Cmp.{nat_cmp_is, first_so, second_so}
use Rattle.std.specs.Cmp.Lexicographic.{slice_cmp, pointwise}
use Rattle.std.specs.declared.cmp.Ordering.{Ordering}
use Rattle.std.specs.declared.cmp.Ordering.TheVariants.{Less, Equal, Greater}
use Rattle.std.proofs.lemmas.Bool.{or_parts}
use Rattle.rv_value.proofs.Tests.{equal_is}
use Rattle.rv_value.specs.declared.value.Value.{Value}
use Rattle.rv_value.specs.declared.value.Value.TheVariants.{Null, Int, Str}
use Rattle.rv_value.specs.declared.range.Range.{Range}
use Rattle.rv_value.specs.declared.range.Side.TheVariants.{In}
use Rattle.rv_value.specs.Order.{value_cmp, prefix_cmp}
use Rattle.rv_value.specs.Ranges.{place, falls_under, goes_over, is_under, is_over, begins, begins_with, begins_as}
use Rattle.rv_restrict.specs.declared.atom.ColRef.{ColRef}
use Rattle.rv_restrict.specs.declared.atom.Op.{Op}
use Rattle.rv_restrict.specs.declared.atom.Op.TheVariants.{Eq, Ne, Lt, Le, Gt, Ge}
use Rattle.rv_restrict.specs.declared.atom.Operand.{Operand}
use Rattle.rv_restrict.specs.declared.atom.Operand.TheVariants.{Literal, Column}
use Rattle.rv_restrict.specs.declared.atom.Atom.{Atom}
use Rattle.rv_restrict.specs.declared.atom.Atom.TheVariants.{Compare, Between, Among, IsNull, Starts, Const}
use Rattle.rv_restrict.specs.declared.atom.Tri.TheVariants.{True, Unknown}
use Rattle.rv_restrict.specs.Truth.{truth, truth_by, group_truth, atom_truth, truth_of, answers, compared, between, is_null, started, null_test, value_of, row_reads}
use Rattle.rv_restrict.specs.Ranges.{End, open_at, closed_at, Limit, limit, compare_limit, operand_limit, between_limit, null_limit, is_on, group_limit, limits_on, first_equal, first_start, pick, greater_end, lesser_end, greatest_low, least_high, closed_bound, equal_range, starting_range, high_bound, bounded_range, if_some, last_range, range_from, range_for, key_of}
use Rattle.rv_restrict.specs.Ranges.Limit.{Free, Same, Begins, Within}
use Rattle.rv_restrict.proofs.Tests.{same_number, lesser_left, lesser_right, greater_False, truth_of_true}

-- What a value keeps.
abbrev pub AtMost : Value → Option End → Type 0
AtMost x None = Unit {0}
AtMost x (Some e) = goes_over (value_cmp x e.value) e.closed ≡ false

abbrev pub AtLeast : Value → Option End → Type 0
AtLeast x None = Unit {0}
AtLeast x (Some e) = falls_under (value_cmp x e.value) e.closed ≡ false

abbrev pub Keeps : Value → Limit → Type 0
Keeps x Free = Unit {0}
Keeps x (Same v) = value_cmp x v ≡ Equal
Keeps x (Begins t) = begins_with x (Str t) ≡ true
Keeps x (Within low high) = AtLeast x (Some low) × AtMost x high

abbrev pub Kept : Value → List Limit → Type 0
Kept x [] = Unit {0}
Kept x (l ∷ ls) = Keeps x l × Kept x ls

lt_over : (o : Ordering) → is_lt o ≡ true → goes_over o false ≡ false
lt_over Less h = refl
lt_over Equal h = absurd (cc)
lt_over Greater h = absurd (cc)

le_over : (o : Ordering) → is_le o ≡ true → goes_over o true ≡ false
le_over Less h = refl
le_over Equal h = refl
le_over Greater h = absurd (cc)

gt_under : (o : Ordering) → is_gt o ≡ true → falls_under o false ≡ false
gt_under Less h = absurd (cc)
gt_under Equal h = absurd (cc)
gt_under Greater h = refl

ge_under : (o : Ordering) → is_ge o ≡ true → falls_under o true ≡ false
ge_under Less h = absurd (cc)
ge_under Equal h = refl
ge_under Greater h = refl

above_null : (x : Value) → is_null x ≡ false → AtLeast x (Some (open_at Null))
above_null Null h = absurd (cc)
above_null (Int n) h = refl
above_null (Str s) h = refl

-- Where an atom is True, its column's value keeps what the atom says.
keeps_value : (x : Value) (op : Op) (v : Value) → is_null x ≡ false → answers op (value_cmp x v) ≡ true → Keeps x (compare_limit op v)
keeps_value x Eq v n h = equal_is (value_cmp x v) h
keeps_value x Ne v n h = tt
keeps_value x Lt v n h = (above_null x n, lt_over (value_cmp x v) h)
keeps_value x Le v n h = (above_null x n, le_over (value_cmp x v) h)
keeps_value x Gt v n h = (gt_under (value_cmp x v) h, tt)
keeps_value x Ge v n h = (ge_under (value_cmp x v) h, tt)

known_parts : (b c : Bool) → cond b Unknown (truth_of c) ≡ True → (b ≡ false) × (c ≡ true)
known_parts true c h = absurd (cc)
known_parts false true h = (refl, refl)
known_parts false false h = absurd (cc)

compared_parts : (x : Value) (op : Op) (v : Value) → compared x op v ≡ True → (is_null x ≡ false) × (answers op (value_cmp x v) ≡ true)
compared_parts x op v h = let t = known_parts (is_null x || is_null v) (answers op (value_cmp x v)) h in ((or_parts (is_null x) (is_null v) t.0).0, t.1)

keeps_unless : (x : Value) (b : Bool) (l : Limit) → Keeps x l → Keeps x (cond b Free l)
keeps_unless x true l k = tt
keeps_unless x false l k = k

keeps_operand : (read : ColRef → Value) (x : Value) (op : Op) (o : Operand) → compared x op (value_of read o) ≡ True → Keeps x (operand_limit op o)
keeps_operand read x op (Literal v) h = let p = compared_parts x op v h in keeps_unless x (is_null v) (compare_limit op v) (keeps_value x op v p.0 p.1)
keeps_operand read x op (Column c) h = tt

keeps_between : (x low high : Value) → between x low high ≡ True → Keeps x (between_limit low high)
keeps_between x low high h = let p = compared_parts x Ge low (lesser_left (compared x Ge low) (compared x Le high) h) in let q = compared_parts x Le high (lesser_right (compared x Ge low) (compared x Le high) h) in keeps_unless x (is_null low || is_null high) (Within (closed_at low) (Some (closed_at high))) (ge_under (value_cmp x low) p.1, le_over (value_cmp x high) q.1)

keeps_null : (x : Value) (negated : Bool) → null_test negated x ≡ True → Keeps x (null_limit negated)
keeps_null Null true h = absurd (cc)
keeps_null Null false h = refl
keeps_null (Int n) true h = (refl, tt)
keeps_null (Int n) false h = absurd (cc)
keeps_null (Str s) true h = (refl, tt)
keeps_null (Str s) false h = absurd (cc)

keeps_start : (x : Value) (t : List ℕ) → started x t ≡ True → begins_with x (Str t) ≡ true
keeps_start Null t h = absurd (cc)
keeps_start (Int n) t h = absurd (cc)
keeps_start (Str s) t h = truth_of_true (begins_with (Str s) (Str t)) h

keeps_limit : (row : List Value) (column : ℕ) (a : Atom) → is_on column a ≡ true → atom_truth (row_reads row) a ≡ True → Keeps (slice_index_or row column Null) (limit a)
keeps_limit row column (Compare c op o) h t = rw (← same_number c.column column h) (keeps_operand (row_reads row) (row_reads row c) op o t)
keeps_limit row column (Between c low high) h t = rw (← same_number c.column column h) (keeps_between (row_reads row c) low high t)
keeps_limit row column (Among c list) h t = tt
keeps_limit row column (IsNull c negated) h t = rw (← same_number c.column column h) (keeps_null (row_reads row c) negated t)
keeps_limit row column (Starts c text) h t = rw (← same_number c.column column h) (keeps_start (row_reads row c) text t)
keeps_limit row column (Const tri) h t = tt

keeps_group : (row : List Value) (column : ℕ) (g : List Atom) → group_truth (row_reads row) g ≡ True → Keeps (slice_index_or row column Null) (group_limit column g)
keeps_group row column [] h = tt
keeps_group row column (a ∷ []) h = elim (is_on column a) as (λ b. is_on column a ≡ b → Keeps (slice_index_or row column Null) (cond b (limit a) Free)) [
  | true ↦ λ e. keeps_limit row column a e (sym (greater_False (atom_truth (row_reads row) a)) ∙ h)
  | false ↦ λ e. tt
] refl
keeps_group row column (a ∷ b ∷ others) h = tt

kept_limits : (row : List Value) (column : ℕ) (only : List (List Atom)) → truth only row ≡ True → Kept (slice_index_or row column Null) (limits_on column only)
kept_limits row column [] h = tt
kept_limits row column (g ∷ more) h = (keeps_group row column g (lesser_left (group_truth (row_reads row) g) (truth_by (row_reads row) more) h), kept_limits row column more (lesser_right (group_truth (row_reads row) g) (truth_by (row_reads row) more) h))

-- What is chosen of limits that are kept is kept. No law of the order is needed: the choice is one of the limits.
kept_equal : (x : Value) (ls : List Limit) (v : Value) → Kept x ls → first_equal ls ≡ Some v → value_cmp x v ≡ Equal
kept_equal x [] v k e = absurd (cc)
kept_equal x (Free ∷ ls) v k e = kept_equal x ls v k.1 e
kept_equal x (Same w ∷ ls) v k e = let s : w ≡ v = cc in rw (← s) k.0
kept_equal x (Begins t ∷ ls) v k e = kept_equal x ls v k.1 e
kept_equal x (Within low high ∷ ls) v k e = kept_equal x ls v k.1 e

kept_start : (x : Value) (ls : List Limit) (t : List ℕ) → Kept x ls → first_start ls ≡ Some t → begins_with x (Str t) ≡ true
kept_start x [] t k e = absurd (cc)
kept_start x (Free ∷ ls) t k e = kept_start x ls t k.1 e
kept_start x (Same w ∷ ls) t k e = kept_start x ls t k.1 e
kept_start x (Begins u ∷ ls) t k e = let s : u ≡ t = cc in rw (← s) k.0
kept_start x (Within low high ∷ ls) t k e = kept_start x ls t k.1 e

picked : (P : End → Type 0) (o : Ordering) (a b : End) (c : Bool) → P a → P b → P (pick o a b (cond c b a))
picked P Less a b c p q = p
picked P Equal a b true p q = q
picked P Equal a b false p q = p
picked P Greater a b c p q = q

picked_back : (P : End → Type 0) (o : Ordering) (a b : End) (c : Bool) → P a → P b → P (pick o b a (cond c b a))
picked_back P Less a b c p q = q
picked_back P Equal a b true p q = q
picked_back P Equal a b false p q = p
picked_back P Greater a b c p q = p

kept_greater : (x : Value) (a : End) (b : Option End) → AtLeast x (Some a) → AtLeast x b → AtLeast x (Some (greater_end a b))
kept_greater x a None p q = p
kept_greater x a (Some b) p q = picked_back (λ e. AtLeast x (Some e)) (value_cmp a.value b.value) a b a.closed p q

kept_lesser : (x : Value) (a : End) (b : Option End) → AtMost x (Some a) → AtMost x b → AtMost x (Some (lesser_end a b))
kept_lesser x a None p q = p
kept_lesser x a (Some b) p q = picked (λ e. AtMost x (Some e)) (value_cmp a.value b.value) a b a.closed p q

kept_low : (x : Value) (ls : List Limit) → Kept x ls → AtLeast x (greatest_low ls)
kept_low x [] k = tt
kept_low x (Free ∷ ls) k = kept_low x ls k.1
kept_low x (Same w ∷ ls) k = kept_low x ls k.1
kept_low x (Begins u ∷ ls) k = kept_low x ls k.1
kept_low x (Within low high ∷ ls) k = kept_greater x low (greatest_low ls) k.0.0 (kept_low x ls k.1)

kept_high : (x : Value) (ls : List Limit) → Kept x ls → AtMost x (least_high ls)
kept_high x [] k = tt
kept_high x (Free ∷ ls) k = kept_high x ls k.1
kept_high x (Same w ∷ ls) k = kept_high x ls k.1
kept_high x (Begins u ∷ ls) k = kept_high x ls k.1
kept_high x (Within low None ∷ ls) k = kept_high x ls k.1
kept_high x (Within low (Some high) ∷ ls) k = kept_lesser x high (least_high ls) k.0.1 (kept_high x ls k.1)

-- Keys whose first values compare as equal to a prefix.
abbrev pub Alike : List Value → List Value → Type 0
Alike [] [] = Unit {0}
Alike [] (y ∷ ys) = ⊥
Alike (x ∷ xs) [] = ⊥
Alike (x ∷ xs) (y ∷ ys) = (value_cmp x y ≡ Equal) × Alike xs ys

alike_push : (done prefix : List Value) (x v : Value) → Alike done prefix → value_cmp x v ≡ Equal → Alike (done ++ x ∷ []) (prefix ++ v ∷ [])
alike_push [] [] x v a e = (e, tt)
alike_push [] (p ∷ ps) x v a e = absurd a
alike_push (d ∷ ds) [] x v a e = absurd a
alike_push (d ∷ ds) (p ∷ ps) x v a e = (a.0, alike_push ds ps x v a.1 e)

then_Equal : (o : Ordering) → ordering_then o Equal ≡ o
then_Equal Less = refl
then_Equal Equal = refl
then_Equal Greater = refl

cmp_none : (xs : List Value) → prefix_cmp xs [] ≡ Equal
cmp_none [] = refl
cmp_none (x ∷ xs) = refl

cmp_prefix : (done prefix rest : List Value) → Alike done prefix → prefix_cmp (done ++ rest) prefix ≡ Equal
cmp_prefix [] [] rest a = cmp_none rest
cmp_prefix [] (p ∷ ps) rest a = absurd a
cmp_prefix (d ∷ ds) [] rest a = absurd a
cmp_prefix (d ∷ ds) (p ∷ ps) rest a = rw (a.0) (cmp_prefix ds ps rest a.1)

cmp_next : (done prefix rest : List Value) (x v : Value) → Alike done prefix → prefix_cmp (done ++ x ∷ rest) (prefix ++ v ∷ []) ≡ value_cmp x v
cmp_next [] [] rest x v a = rw (cmp_none rest) (then_Equal (value_cmp x v))
cmp_next [] (p ∷ ps) rest x v a = absurd a
cmp_next (d ∷ ds) [] rest x v a = absurd a
cmp_next (d ∷ ds) (p ∷ ps) rest x v a = rw (a.0) (cmp_next ds ps rest x v a.1)

begins_next : (done prefix rest : List Value) (x v : Value) → Alike done prefix → begins_as (done ++ x ∷ rest) (prefix ++ v ∷ []) ≡ begins_with x v
begins_next [] [] rest x v a = refl
begins_next [] (p ∷ ps) rest x v a = absurd a
begins_next (d ∷ ds) [] rest x v a = absurd a
begins_next (d ∷ ds) (p ∷ []) rest x v a = rw (a.0) (begins_next ds [] rest x v a.1)
begins_next (d ∷ ds) (p ∷ q ∷ ps) rest x v a = rw (a.0) (begins_next ds (q ∷ ps) rest x v a.1)

-- The place of a key beside each form of range.
place_In : (range : Range) (key : List Value) → is_under key range.low ≡ false → is_over key range.high ≡ false → (range.starts && not (begins key range.low)) ≡ false → place range key ≡ In
place_In range key u o s = rw (u, o, s) refl

under_prefix : (done prefix rest : List Value) → Alike done prefix → is_under (done ++ rest) (closed_bound prefix) ≡ false
under_prefix done [] rest a = refl
under_prefix done (p ∷ ps) rest a = rw (cmp_prefix done (p ∷ ps) rest a) refl

over_prefix : (done prefix rest : List Value) → Alike done prefix → is_over (done ++ rest) (closed_bound prefix) ≡ false
over_prefix done [] rest a = refl
over_prefix done (p ∷ ps) rest a = rw (cmp_prefix done (p ∷ ps) rest a) refl

covers_equal : (done prefix rest : List Value) → Alike done prefix → place (equal_range prefix) (done ++ rest) ≡ In
covers_equal done prefix rest a = place_In (equal_range prefix) (done ++ rest) (under_prefix done prefix rest a) (over_prefix done prefix rest a) refl

-- a text that begins with a text is not less than it
begins_not_less : (s t : List ℕ) → pointwise nat_eq t (take (length t) s) ≡ true → is_lt (slice_cmp nat_cmp s t) ≡ false
begins_not_less [] [] h = refl
begins_not_less (c ∷ cs) [] h = refl
begins_not_less [] (d ∷ ds) h = absurd (cc)
begins_not_less (c ∷ cs) (d ∷ ds) h = let e : c ≡ d = sym (same_number d c (first_so (nat_eq d c) (pointwise nat_eq ds (take (length ds) cs)) h)) in rw (sym (nat_cmp_is c d Equal e)) (begins_not_less cs ds (second_so (nat_eq d c) (pointwise nat_eq ds (take (length ds) cs)) h))

not_less : (o : Ordering) → is_lt o ≡ false → falls_under o true ≡ false
not_less Less h = absurd (cc)
not_less Equal h = refl
not_less Greater h = refl

start_under : (x : Value) (t : List ℕ) → begins_with x (Str t) ≡ true → falls_under (value_cmp x (Str t)) true ≡ false
start_under Null t h = absurd (cc)
start_under (Int n) t h = absurd (cc)
start_under (Str s) t h = not_less (slice_cmp nat_cmp s t) (begins_not_less s t h)

covers_start : (done prefix rest : List Value) (x : Value) (t : List ℕ) → Alike done prefix → begins_with x (Str t) ≡ true → place (starting_range prefix t) (done ++ x ∷ rest) ≡ In
covers_start done prefix rest x t a b = place_In (starting_range prefix t) (done ++ x ∷ rest) (rw (cmp_next done prefix rest x (Str t) a) (start_under x t b)) refl (rw (begins_next done prefix rest x (Str t) a, b) refl)

over_high : (done prefix rest : List Value) (x : Value) (high : Option End) → Alike done prefix → AtMost x high → is_over (done ++ x ∷ rest) (high_bound prefix high) ≡ false
over_high done prefix rest x None a k = over_prefix done prefix (x ∷ rest) a
over_high done prefix rest x (Some e) a k = rw (cmp_next done prefix rest x e.value a) k

covers_bounded : (done prefix rest : List Value) (x : Value) (low : End) (high : Option End) → Alike done prefix → AtLeast x (Some low) → AtMost x high → place (bounded_range prefix low high) (done ++ x ∷ rest) ≡ In
covers_bounded done prefix rest x low high a l h = place_In (bounded_range prefix low high) (done ++ x ∷ rest) (rw (cmp_next done prefix rest x low.value a) l) (over_high done prefix rest x high a h) refl

covers_last : (done prefix rest : List Value) (x : Value) (ls : List Limit) → Alike done prefix → Kept x ls → place (last_range prefix ls) (done ++ x ∷ rest) ≡ In
covers_last done prefix rest x ls a k = elim (first_start ls) as (λ s. first_start ls ≡ s → place (if_some s (starting_range prefix) (if_some (greatest_low ls) (λ low. bounded_range prefix low (least_high ls)) (equal_range prefix))) (done ++ x ∷ rest) ≡ In) [
  | Some t ↦ λ e. covers_start done prefix rest x t a (kept_start x ls t k e)
  | None ↦ λ e. elim (greatest_low ls) as (λ s. AtLeast x s → place (if_some s (λ low. bounded_range prefix low (least_high ls)) (equal_range prefix)) (done ++ x ∷ rest) ≡ In) [
    | Some low ↦ λ l. covers_bounded done prefix rest x low (least_high ls) a l (kept_high x ls k)
    | None ↦ λ l. covers_equal done prefix (x ∷ rest) a
  ] (kept_low x ls k)
] refl

covers_from : (only : List (List Atom)) (row : List Value) (done prefix : List Value) (columns : List ℕ) → truth only row ≡ True → Alike done prefix → place (range_from only prefix columns) (done ++ key_of row columns) ≡ In
covers_from only row done prefix [] t a = covers_equal done prefix [] a
covers_from only row done prefix (c ∷ more) t a = let k = kept_limits row c only t in elim (first_equal (limits_on c only)) as (λ s. first_equal (limits_on c only) ≡ s → place (if_some s (λ v. range_from only (prefix ++ v ∷ []) more) (last_range prefix (limits_on c only))) (done ++ slice_index_or row c Null ∷ key_of row more) ≡ In) [
  | Some v ↦ λ e. rw (← append_assoc done (slice_index_or row c Null ∷ []) (key_of row more)) (covers_from only row (done ++ slice_index_or row c Null ∷ []) (prefix ++ v ∷ []) more t (alike_push done prefix (slice_index_or row c Null) v a (kept_equal (slice_index_or row c Null) (limits_on c only) v k e)))
  | None ↦ λ e. covers_last done prefix (key_of row more) (slice_index_or row c Null) (limits_on c only) a k
] refl

pub covers : (only : List (List Atom)) (columns : List ℕ) (row : List Value) → truth only row ≡ True → place (range_for only columns) (key_of row columns) ≡ In
covers only columns row t = covers_from only row [] [] columns t tt
