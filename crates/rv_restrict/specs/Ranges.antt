-- The range of an index for a restriction: the keys that it may still have where the restriction is True.
use Rattle.std.specs.Prelude.{◌≤◌, length, ℕ, List, [], ◌∷◌, ◌++◌, Bool, true, false, cond, ◌||◌, ◌==◌, map, Option, Some, None}
use Rattle.std.specs.List.{slice_index_or}
use Rattle.std.specs.declared.cmp.Ordering.{Ordering}
use Rattle.std.specs.declared.cmp.Ordering.TheVariants.{Less, Equal, Greater}
use Rattle.rv_value.specs.declared.value.Value.{Value}
use Rattle.rv_value.specs.declared.value.Value.TheVariants.{Null, Str}
use Rattle.rv_value.specs.declared.range.Bound.{Bound}
use Rattle.rv_value.specs.declared.range.Range.{Range}
use Rattle.rv_value.specs.Order.{value_cmp}
use Rattle.rv_restrict.specs.declared.atom.Op.{Op}
use Rattle.rv_restrict.specs.declared.atom.Op.TheVariants.{Eq, Ne, Lt, Le, Gt, Ge}
use Rattle.rv_restrict.specs.declared.atom.Operand.{Operand}
use Rattle.rv_restrict.specs.declared.atom.Operand.TheVariants.{Literal, Column}
use Rattle.rv_restrict.specs.declared.atom.Atom.{Atom}
use Rattle.rv_restrict.specs.declared.atom.Atom.TheVariants.{Compare, Between, Among, IsNull, Starts, Const}
use Rattle.rv_restrict.specs.Truth.{is_null}

-- a value at which a range may end
pub record End : Type 0 where
  pub value : Value
  pub closed : Bool

abbrev pub open_at : Value → End
open_at v = record { value = v; closed = false }

abbrev pub closed_at : Value → End
closed_at v = record { value = v; closed = true }

-- what an atom says of its column alone: nothing, that it has a value, that it begins with a text, or that it lies
-- between two ends
pub data Limit : Type 0 where
  Free : Limit
  Same : Value → Limit
  Begins : List ℕ → Limit
  Within : End → Option End → Limit

-- NULL, not closed, is the low end where an atom gives none
abbrev pub compare_limit : Op → Value → Limit
compare_limit Eq v = Same v
compare_limit Ne v = Free
compare_limit Lt v = Within (open_at Null) (Some (open_at v))
compare_limit Le v = Within (open_at Null) (Some (closed_at v))
compare_limit Gt v = Within (open_at v) None
compare_limit Ge v = Within (closed_at v) None

abbrev pub operand_limit : Op → Operand → Limit
operand_limit op (Literal v) = cond (is_null v) Free (compare_limit op v)
operand_limit op (Column c) = Free

abbrev pub between_limit : Value → Value → Limit
between_limit low high = cond (is_null low || is_null high) Free (Within (closed_at low) (Some (closed_at high)))

abbrev pub null_limit : Bool → Limit
null_limit true = Within (open_at Null) None
null_limit false = Same Null

abbrev pub limit : Atom → Limit
limit (Compare c op operand) = operand_limit op operand
limit (Between c low high) = between_limit low high
limit (Among c list) = Free
limit (IsNull c negated) = null_limit negated
limit (Starts c text) = Begins text
limit (Const t) = Free

abbrev pub is_on : ℕ → Atom → Bool
is_on column (Compare c op operand) = c.column == column
is_on column (Between c low high) = c.column == column
is_on column (Among c list) = c.column == column
is_on column (IsNull c negated) = c.column == column
is_on column (Starts c text) = c.column == column
is_on column (Const t) = false

-- what a group says of a column: only a group of a single atom bounds a range
abbrev pub group_limit : ℕ → List Atom → Limit
group_limit column [] = Free
group_limit column (a ∷ []) = cond (is_on column a) (limit a) Free
group_limit column (a ∷ b ∷ others) = Free

-- what the groups say of a column, in their order
abbrev pub limits_on : ℕ → List (List Atom) → List Limit
limits_on column only = map (group_limit column) only

abbrev pub first_equal : List Limit → Option Value
first_equal [] = None
first_equal (Free ∷ more) = first_equal more
first_equal (Same v ∷ more) = Some v
first_equal (Begins t ∷ more) = first_equal more
first_equal (Within low high ∷ more) = first_equal more

abbrev pub first_start : List Limit → Option (List ℕ)
first_start [] = None
first_start (Free ∷ more) = first_start more
first_start (Same v ∷ more) = first_start more
first_start (Begins t ∷ more) = Some t
first_start (Within low high ∷ more) = first_start more

-- of two ends the one by the order of their values; of equal values the one that is not closed
abbrev pub pick : Ordering → End → End → End → End
pick Less a b same = a
pick Equal a b same = same
pick Greater a b same = b

abbrev pub not_closed : End → End → End
not_closed a b = cond a.closed b a

abbrev pub greater_end : End → Option End → End
greater_end a None = a
greater_end a (Some b) = pick (value_cmp a.value b.value) b a (not_closed a b)

abbrev pub lesser_end : End → Option End → End
lesser_end a None = a
lesser_end a (Some b) = pick (value_cmp a.value b.value) a b (not_closed a b)

abbrev pub greatest_low : List Limit → Option End
greatest_low [] = None
greatest_low (Free ∷ more) = greatest_low more
greatest_low (Same v ∷ more) = greatest_low more
greatest_low (Begins t ∷ more) = greatest_low more
greatest_low (Within low high ∷ more) = Some (greater_end low (greatest_low more))

abbrev pub least_high : List Limit → Option End
least_high [] = None
least_high (Free ∷ more) = least_high more
least_high (Same v ∷ more) = least_high more
least_high (Begins t ∷ more) = least_high more
least_high (Within low None ∷ more) = least_high more
least_high (Within low (Some high) ∷ more) = Some (lesser_end high (least_high more))

-- The range behind a prefix of values that the columns before have.

abbrev pub closed_bound : List Value → Option Bound
closed_bound [] = None
closed_bound (v ∷ vs) = Some (record { key = v ∷ vs; closed = true })

abbrev pub equal_range : List Value → Range
equal_range prefix = record { low = closed_bound prefix; high = closed_bound prefix; starts = false }

abbrev pub starting_range : List Value → List ℕ → Range
starting_range prefix text =
    record { low = Some (record { key = prefix ++ Str text ∷ []; closed = true }); high = None; starts = true }

abbrev pub bound_at : List Value → End → Bound
bound_at prefix e = record { key = prefix ++ e.value ∷ []; closed = e.closed }

abbrev pub high_bound : List Value → Option End → Option Bound
high_bound prefix None = closed_bound prefix
high_bound prefix (Some high) = Some (bound_at prefix high)

abbrev pub bounded_range : List Value → End → Option End → Range
bounded_range prefix low high =
    record { low = Some (bound_at prefix low); high = high_bound prefix high; starts = false }

abbrev pub if_some : {A B : Type 0} → Option A → (A → B) → B → B
if_some None f b = b
if_some (Some a) f b = f a

-- where no atom gives the column its value: the first text that it begins with; else the ends between which it lies;
-- else nothing
abbrev pub last_range : List Value → List Limit → Range
last_range prefix limits =
    if_some (first_start limits) (starting_range prefix)
    (if_some (greatest_low limits) (λ low. bounded_range prefix low (least_high limits))
    (equal_range prefix))

-- through the columns: the first value that an atom gives a column goes to the prefix
abbrev pub range_from : List (List Atom) → List Value → List ℕ → Range
range_from only prefix [] = equal_range prefix
range_from only prefix (c ∷ more) =
    if_some (first_equal (limits_on c only)) (λ v. range_from only (prefix ++ v ∷ []) more)
    (last_range prefix (limits_on c only))

abbrev pub range_for : List (List Atom) → List ℕ → Range
range_for only columns = range_from only [] columns

-- the key of a row in an index
abbrev pub key_of : List Value → List ℕ → List Value
key_of row columns = map (λ (c : ℕ). slice_index_or row c Null) columns

-- no bound of the range is longer than the index
abbrev pub IsShort : ℕ → Option Bound → Type 0
IsShort n None = Unit {0}
IsShort n (Some b) = length b.key ≤ n

pub record AreShort (n : ℕ) (range : Range) : Type 0 where
  pub low_end : IsShort n range.low
  pub high_end : IsShort n range.high
