use Rattle.std.proofs.Common.{◌≡◌, take}
use Rattle.std.specs.Option.{option_copied}
use Rattle.rv_view.specs.Making.{parts_after}
use Rattle.rv_view.proofs.making.keep_parts.Given as goal

abbrev pub invariant-indexes : goal.invariant-indexes
invariant-indexes l = record {
  place : l.place ≡ l.index-index;
  parts : l.parts ≡ parts_after (take l.index-index l.indexes) l.table (option_copied l.base) (option_copied l.old) (option_copied l.new) l.fn.parts;
}
