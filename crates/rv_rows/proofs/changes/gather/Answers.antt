use Rattle.std.proofs.Common.{◌∙◌, sym}
use Rattle.rv_rows.proofs.Forms.{all_listed, gathered_mapped, rise_listed}
use Rattle.rv_rows.proofs.changes.gather.Goals as goal

pub returns-then-is_empty-clause-ok : goal.returns-then-is_empty-clause-ok
returns-then-is_empty-clause-ok c = gathered_mapped c.args.listed.now c.args.mapped.now.entries (sym c.is_empty.ensures ∙ c.if-is_empty.true)

pub map_of-requires : goal.map_of-requires
map_of-requires c = rw c.as_slice.ensures (rise_listed c.args.listed.now c.args.mapped.now.entries c.requires)

pub returns-clause-ok : goal.returns-clause-ok
returns-clause-ok c = record {
  none = c.new.ensures;
  same = c.in_ok-all.ensures ∙ c.as_slice.ensures ∙ all_listed c.args.listed.now c.args.mapped.now.entries c.requires (sym c.is_empty.ensures ∙ c.if-is_empty.false);
}
