-- The work left: what each change of the open levels does to it.
use Rattle.std.proofs.Common.{◌≡◌, ℕ, ◌+◌, ◌*◌, ◌<◌, ◌≤◌, List, [], ◌∷◌, ◌++◌, length, drop, Some, None, refl, ap, sym, ◌∙◌, arith, subst, slice_index_or, zero, suc, mul-le-mul_right}
use Rattle.std.proofs.lemmas.Grind.{common_steps}
use Rattle.rv_value.proofs.Lists.{filter_length}
use Rattle.rv_value.specs.declared.value.Value.{Value}
use Rattle.rv_value.specs.declared.record.Record.{Record}
use Rattle.rv_reader.specs.Shown.{Shown}
use Rattle.rv_final.specs.Rest.{TakesOut}
use Rattle.rv_access.specs.declared.access.Access.{Access}
use Rattle.rv_access.specs.Accesses.{effort, query_of, rest}
use Rattle.rv_join.specs.declared.places.Asked.{Asked}
use Rattle.rv_join.specs.declared.places.Item.{Item}
use Rattle.rv_join.specs.declared.level.Level.{Level}
use Rattle.rv_join.specs.Asking.{OpensItem, holds, item_at, item_life, lives_of, no_item, rows_at}
use Rattle.rv_join.specs.Work.{held_rows, items_below, level_work, levels_work, row_cost}

-- Of numbers.

sum_le : (e f k : ℕ) → e ≤ f → e + 1 + k ≤ f + 1 + k
sum_le e f k h = omega (arith, h)

sum_less : (e f k : ℕ) → e < f → e + 1 + k < f + 1 + k
sum_less e f k h = omega (arith, h)

taken_out : (e f n m k c : ℕ) → e ≤ f → m ≡ n + 1 → k ≡ 0 → e + 1 + (1 + n) * c ≤ f + 1 + (k + m) * c
taken_out e f n m k c h one none = let same : 1 + n ≡ k + m = omega (arith, one, none) in subst (λ r. e + 1 + r * c ≤ f + 1 + (k + m) * c) (sym same) (sum_le e f ((k + m) * c) h)

fresh_sum : (e l r n c : ℕ) → e ≤ l → r ≤ n → e + 1 + (0 + r) * c < l + 2 + n * c
fresh_sum e l r n c h i = let none : 0 + r ≡ r = omega arith in let less = mul-le-mul_right c i in subst (λ k. e + 1 + k * c < l + 2 + n * c) (sym none) (close e l (r * c) (n * c) h less)
  where
    close : (e l a b : ℕ) → e ≤ l → a ≤ b → e + 1 + a < l + 2 + b
    close e l a b h i = omega (arith, h, i)

one_more : (n c : ℕ) → (1 + n) * c ≡ c + n * c
one_more n c = grind arith

used_sum : (e n k c w : ℕ) → k ≡ 1 → w < c → e + 1 + (0 + n) * c + w < e + 1 + (k + n) * c
used_sum e n k c w one h = let none : 0 + n ≡ n = omega arith in let more : (k + n) * c ≡ c + n * c = ap (λ q. (q + n) * c) one ∙ one_more n c in
    subst (λ q. e + 1 + q * c + w < e + 1 + (k + n) * c) (sym none) (subst (λ q. e + 1 + n * c + w < e + 1 + q) (sym more) (close e (n * c) c w h))
  where
    close : (e a c w : ℕ) → w < c → e + 1 + a + w < e + 1 + (c + a)
    close e a c w h = omega (arith, h)

pub sums_le : (a b c d : ℕ) → a ≤ b → c ≤ d → a + c ≤ b + d
sums_le a b c d h i = omega (arith, h, i)

pub sums_less : (a c d : ℕ) → c < d → a + c < a + d
sums_less a c d h = omega (arith, h)

-- Of levels.

-- a call that leaves the rest
pub stays_work : (a : Asked) (shown : Shown) (old : Level) (new : Access) → effort new shown ≤ effort old.here shown → rest new shown ≡ rest old.here shown → level_work a shown (record old { here = new }) ≤ level_work a shown old
stays_work a shown old new less same = subst (λ (l : List Record). effort new shown + 1 + (held_rows old.row + length l) * row_cost (lives_of a.only) shown a.snap (items_below a old) ≤ level_work a shown old) (sym same) (sum_le (effort new shown) (effort old.here shown) ((held_rows old.row + length (rest old.here shown)) * row_cost (lives_of a.only) shown a.snap (items_below a old)) less)

pub works_less : (a : Asked) (shown : Shown) (old : Level) (new : Access) → effort new shown < effort old.here shown → rest new shown ≡ rest old.here shown → level_work a shown (record old { here = new }) < level_work a shown old
works_less a shown old new less same = subst (λ (l : List Record). effort new shown + 1 + (held_rows old.row + length l) * row_cost (lives_of a.only) shown a.snap (items_below a old) < level_work a shown old) (sym same) (sum_less (effort new shown) (effort old.here shown) ((held_rows old.row + length (rest old.here shown)) * row_cost (lives_of a.only) shown a.snap (items_below a old)) less)

length_middle : {A : Type 0} (front : List A) (x : A) (behind : List A) → length (front ++ x ∷ behind) ≡ length (front ++ behind) + 1
length_middle front x behind = grind (arith, common_steps)

-- a row is taken out of the rest, and held
pub found_work : (a : Asked) (shown : Shown) (old : Level) (new : Access) (r : Record) → old.row ≡ None → effort new shown ≤ effort old.here shown → TakesOut (query_of old.here).need r (rest old.here shown) (rest new shown) → level_work a shown (record { outer = old.outer; row = Some r.values; here = new }) ≤ level_work a shown old
found_work a shown old new r none less out = taken_out (effort new shown) (effort old.here shown) (length (rest new shown)) (length (rest old.here shown)) (held_rows old.row) (row_cost (lives_of a.only) shown a.snap (items_below a old)) less (ap length out.before ∙ length_middle out.front out.taken out.behind ∙ ap (λ (l : List Record). length l + 1) (sym out.after)) (ap held_rows none)

-- the items from a place on
items_at : (items : List Item) (p : ℕ) → p < length items → drop p items ≡ slice_index_or items p no_item ∷ drop (p + 1) items
items_at [] p le = absurd (omega (arith, le))
items_at (i ∷ items) zero le = refl
items_at (i ∷ items) (suc p) le = let next : suc p + 1 ≡ suc (p + 1) = omega arith in rw next (items_at items p (omega (arith, le)))

-- a retrieval that was just opened
pub fresh_work : (a : Asked) (shown : Shown) (outer : List (List Value)) (v : Access) → length outer < length a.items → OpensItem a shown outer v → level_work a shown (record { outer = outer; row = None; here = v }) < row_cost (lives_of a.only) shown a.snap (drop (length outer) a.items)
fresh_work a shown outer v inside opens = subst (λ is. level_work a shown (record { outer = outer; row = None; here = v }) < row_cost (lives_of a.only) shown a.snap is) (sym (items_at a.items (length outer) inside)) (fresh_sum (effort v shown) (item_life (lives_of a.only) shown a.snap (item_at a (length outer))) (length (rest v shown)) (length (rows_at a shown (length outer))) (row_cost (lives_of a.only) shown a.snap (drop (length outer + 1) a.items)) opens.life fewer)
  where
    fewer : length (rest v shown) ≤ length (rows_at a shown (length outer))
    fewer = subst (λ (l : List Record). length l ≤ length (rows_at a shown (length outer))) (sym opens.rest_is) (filter_length (λ (r : Record). holds a.only (length outer) (outer ++ r.values ∷ [])) (rows_at a shown (length outer)))

-- the row that is held is used for less than it may cost
pub used_work : (a : Asked) (shown : Shown) (l : Level) (row : List Value) (w : ℕ) → l.row ≡ Some row → w < row_cost (lives_of a.only) shown a.snap (items_below a l) → level_work a shown (record l { row = None }) + w < level_work a shown l
used_work a shown l row w held less = used_sum (effort l.here shown) (length (rest l.here shown)) (held_rows l.row) (row_cost (lives_of a.only) shown a.snap (items_below a l)) w (ap held_rows held) less

pub cost_some : (lives : ℕ) (shown : Shown) (snap : ℕ) (is : List Item) → 0 < row_cost lives shown snap is
cost_some lives shown snap [] = omega arith
cost_some lives shown snap (i ∷ is) = some (item_life lives shown snap i) (length (shown.rows i.table snap) * row_cost lives shown snap is)
  where
    some : (l k : ℕ) → 0 < l + 2 + k
    some l k = omega arith

pub level_some : (a : Asked) (shown : Shown) (l : Level) → 0 < level_work a shown l
level_some a shown l = some (effort l.here shown) ((held_rows l.row + length (rest l.here shown)) * row_cost (lives_of a.only) shown a.snap (items_below a l))
  where
    some : (e k : ℕ) → 0 < e + 1 + k
    some e k = omega arith

-- one more level
pub levels_more : (a : Asked) (shown : Shown) (ls : List Level) (l : Level) → levels_work a shown (ls ++ l ∷ []) ≡ levels_work a shown ls + level_work a shown l
levels_more a shown [] l = turned (level_work a shown l)
  where
    turned : (n : ℕ) → n + 0 ≡ 0 + n
    turned n = omega arith
levels_more a shown (x ∷ ls) l = ap (λ n. level_work a shown x + n) (levels_more a shown ls l) ∙ turned (level_work a shown x) (levels_work a shown ls) (level_work a shown l)
  where
    turned : (n m k : ℕ) → n + (m + k) ≡ n + m + k
    turned n m k = omega arith

-- an inner level is opened over the row that is held
pub down_work : (a : Asked) (shown : Shown) (above : List Level) (at inner : Level) (row : List Value) → at.row ≡ Some row → level_work a shown inner < row_cost (lives_of a.only) shown a.snap (items_below a at) → levels_work a shown (above ++ (record at { row = None }) ∷ []) + level_work a shown inner < levels_work a shown above + level_work a shown at
down_work a shown above at inner row held less = subst (λ n. n + level_work a shown inner < levels_work a shown above + level_work a shown at) (sym (levels_more a shown above (record at { row = None }))) (put (levels_work a shown above) (level_work a shown (record at { row = None })) (level_work a shown inner) (level_work a shown at) (used_work a shown at row (level_work a shown inner) held less))
  where
    put : (x y z w : ℕ) → y + z < w → x + y + z < x + w
    put x y z w h = omega (arith, h)

-- the innermost level is left
pub up_work : (a : Asked) (shown : Shown) (above : List Level) (l at : Level) → levels_work a shown above + level_work a shown l < levels_work a shown (above ++ l ∷ []) + level_work a shown at
up_work a shown above l at = let more = levels_more a shown above l in let some = level_some a shown at in subst (λ n. levels_work a shown above + level_work a shown l < n + level_work a shown at) (sym more) (put (levels_work a shown above + level_work a shown l) (level_work a shown at) some)
  where
    put : (x y : ℕ) → 0 < y → x < x + y
    put x y h = omega (arith, h)

-- the row that is held is given
pub given_work : (a : Asked) (shown : Shown) (above : List Level) (at : Level) (row : List Value) → at.row ≡ Some row → levels_work a shown above + level_work a shown (record at { row = None }) < levels_work a shown above + level_work a shown at
given_work a shown above at row held = put (levels_work a shown above) (level_work a shown (record at { row = None })) (level_work a shown at) (used_work a shown at row 0 held (cost_some (lives_of a.only) shown a.snap (items_below a at)))
  where
    put : (x y z : ℕ) → y + 0 < z → x + y < x + z
    put x y z h = omega (arith, h)
