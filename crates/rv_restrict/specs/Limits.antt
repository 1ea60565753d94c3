-- What the code has found of a column, without copies, as the definitions of ranges have it.
use Rattle.std.specs.Prelude.{List, Option, Some, None, option_copied}
use Rattle.rv_value.specs.declared.value.Value.{Value}
use Rattle.rv_value.specs.declared.value.Value.TheVariants.{Null}
use Rattle.rv_restrict.specs.declared.range.Given.{Given}
use Rattle.rv_restrict.specs.declared.range.Given.TheVariants.{Nothing, Literal}
use Rattle.rv_restrict.specs.declared.range.Edge.{Edge}
use Rattle.rv_restrict.specs.declared.range.Limits.{Limits}
use Rattle.rv_restrict.specs.declared.range.Said.{Said}
use Rattle.rv_restrict.specs.declared.range.Said.TheVariants.{Free as Unsaid, Equal, Front, Span}
use Rattle.rv_value.specs.declared.range.Range.{Range}
use Rattle.rv_restrict.specs.Ranges.{End, Limit, bounded_range, equal_range, if_some, lesser_end, starting_range}
use Rattle.rv_restrict.specs.Ranges.Limit.{Free, Same, Begins, Within}

abbrev pub given : Given → Value
given Nothing = Null
given (Literal v) = v.now

abbrev pub given_option : Option Given → Option Value
given_option None = None
given_option (Some g) = Some (given g)

abbrev pub end_of : Edge → End
end_of e = record { value = given e.value; closed = e.closed }

abbrev pub end_option : Option Edge → Option End
end_option None = None
end_option (Some e) = Some (end_of e)

abbrev pub limit_of : Said → Limit
limit_of Unsaid = Free
limit_of (Equal g) = Same (given g)
limit_of (Front t) = Begins t.now
limit_of (Span low high) = Within (end_of low) (end_option high)

-- the lesser of two high ends, of which either may be missing
abbrev pub lower : Option End → Option End → Option End
lower None other = other
lower (Some high) other = Some (lesser_end high other)

abbrev pub range_of : List Value → Limits → Range
range_of prefix limits =
    if_some (option_copied limits.front) (starting_range prefix)
    (if_some (end_option limits.low) (λ low. bounded_range prefix low (end_option limits.high))
    (equal_range prefix))
