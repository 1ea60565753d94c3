-- The columns that a restriction may name.
use Rattle.std.specs.Prelude.{ℕ, Bool, ◌&&◌, nat_lt}
use Rattle.rv_restrict.specs.declared.atom.ColRef.{ColRef}
use Rattle.rv_restrict.specs.Truth.{is_home}

-- a column below a width, of a place below a number
abbrev pub is_column : ℕ → ℕ → ColRef → Bool
is_column places width c = nat_lt c.place places && nat_lt c.column width

-- a column below a width, of place 0
abbrev pub home_column : ℕ → ColRef → Bool
home_column width c = is_home c && nat_lt c.column width
