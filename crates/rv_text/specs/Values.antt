-- The values of a row, as they are read.
use Rattle.std.specs.Prelude.{ℕ, zero, suc, ℤ, pos, negsuc, List, [], ◌∷◌, Bool, true, false, not, ◌&&◌, nat_le, nat_lt, ◌==◌, Option, Some, None, bytes_eq, codes, decimal, if◌then◌else◌}
use Rattle.std.specs.Str.{is_utf8}
use Rattle.std.specs.Str.Parse.{digits_value}
use Rattle.rv_value.specs.declared.value.Value.{Value}
use Rattle.rv_value.specs.declared.value.Value.TheVariants.{Null, Int, Str}
use Rattle.rv_text.specs.Lines.{Cut, extended}

-- the number that is written so: the digits are read, and written again
abbrev pub number_at : List ℕ → Option ℕ
number_at digits =
    if nat_lt (digits_value 10 digits) 18446744073709551616 && bytes_eq (decimal (digits_value 10 digits)) digits
    then Some (digits_value 10 digits) else None

abbrev pub positive : Option ℕ → Option ℤ
positive None = None
positive (Some n) = if nat_lt n 9223372036854775808 then Some (pos n) else None

abbrev pub negative : Option ℕ → Option ℤ
negative None = None
negative (Some zero) = None
negative (Some (suc n)) = if nat_lt n 9223372036854775808 then Some (negsuc n) else None

-- the integer that is written so
abbrev pub integer_at : List ℕ → Option ℤ
integer_at [] = None
integer_at (c ∷ cs) = if c == 45 then negative (number_at cs) else positive (number_at (c ∷ cs))

-- a byte before what is read behind it
abbrev pub before : ℕ → Option (List ℕ) → Option (List ℕ)
before c None = None
before c (Some bytes) = Some (c ∷ bytes)

-- what stands between quotes, from behind the first one on: two quotes are one, and a lone one ends it; `quoted` says
-- that the byte before was a quote
abbrev pub unquoted : Bool → List ℕ → Option (List ℕ)
unquoted quoted [] = if quoted then Some [] else None
unquoted quoted (c ∷ cs) =
    if quoted then (if c == 39 then before 39 (unquoted false cs) else None)
    else (if c == 39 then unquoted true cs else (if nat_le 32 c then before c (unquoted false cs) else None))

abbrev pub text_of : Option (List ℕ) → Option Value
text_of None = None
text_of (Some bytes) = if is_utf8 bytes then Some (Str bytes) else None

abbrev pub integer_of : Option ℤ → Option Value
integer_of None = None
integer_of (Some z) = Some (Int z)

abbrev pub value_at : List ℕ → Option Value
value_at [] = None
value_at (c ∷ cs) =
    if c == 39 then text_of (unquoted false cs)
    else (if bytes_eq (c ∷ cs) (codes "NULL") then Some Null else integer_of (integer_at (c ∷ cs)))

-- what stands before the first comma outside of quotes, and behind it; `inside` says that a quote is open
abbrev pub value_cut : Bool → List ℕ → Cut
value_cut inside [] = record { word = []; more = None }
value_cut inside (c ∷ cs) =
    if not inside && (c == 44) then record { word = []; more = Some cs }
    else extended (c ∷ []) (value_cut (if c == 39 then not inside else inside) cs)

abbrev pub piece_grown : ℕ → List (List ℕ) → List (List ℕ)
piece_grown c [] = (c ∷ []) ∷ []
piece_grown c (p ∷ ps) = (c ∷ p) ∷ ps

-- the pieces between these commas
abbrev pub pieces : Bool → List ℕ → List (List ℕ)
pieces inside [] = [] ∷ []
pieces inside (c ∷ cs) =
    if not inside && (c == 44) then [] ∷ pieces false cs
    else piece_grown c (pieces (if c == 39 then not inside else inside) cs)

abbrev pub pieces_of : Option (List ℕ) → List (List ℕ)
pieces_of None = []
pieces_of (Some text) = pieces false text

-- a value behind a space
abbrev pub spaced_value : List ℕ → Option Value
spaced_value [] = None
spaced_value (c ∷ cs) = if c == 32 then value_at cs else None

abbrev pub value_before : Option Value → Option (List Value) → Option (List Value)
value_before None more = None
value_before (Some v) None = None
value_before (Some v) (Some vs) = Some (v ∷ vs)

-- the values after the first
abbrev pub more_values : List (List ℕ) → Option (List Value)
more_values [] = Some []
more_values (p ∷ ps) = value_before (spaced_value p) (more_values ps)

abbrev pub all_values : List (List ℕ) → Option (List Value)
all_values [] = None
all_values (p ∷ ps) = value_before (value_at p) (more_values ps)

abbrev pub values_at : List ℕ → Option (List Value)
values_at [] = Some []
values_at (c ∷ cs) = all_values (pieces false (c ∷ cs))
