use Rattle.std.proofs.Common.{◌∙◌, sym}
use Rattle.rv_rows.proofs.Forms.{rise_listed, rise_mapped, undone_listed, undone_listed_kept, undone_mapped, undone_mapped_kept}
use Rattle.rv_rows.proofs.changes.undo_kept.Goals as goal

pub undo_entry-requires : goal.undo_entry-requires
undo_entry-requires c = rise_mapped c.args.listed.now c.args.mapped.now.entries c.requires (sym c.is_empty.ensures ∙ c.if-is_empty.true)

pub returns-then-is_empty-clause-kept : goal.returns-then-is_empty-clause-kept
returns-then-is_empty-clause-kept c = undone_mapped_kept c.args.undo c.args.listed.now c.args.mapped.now.entries c.undo_entry.new.changes.entries c.requires (sym c.is_empty.ensures ∙ c.if-is_empty.true) c.undo_entry.ensures

pub returns-then-is_empty-clause-undone : goal.returns-then-is_empty-clause-undone
returns-then-is_empty-clause-undone c = undone_mapped c.args.undo c.args.listed.now c.args.mapped.now.entries c.undo_entry.new.changes.entries (sym c.is_empty.ensures ∙ c.if-is_empty.true) c.undo_entry.ensures

pub undo_listed-requires : goal.undo_listed-requires
undo_listed-requires c = rise_listed c.args.listed.now c.args.mapped.now.entries c.requires

pub returns-clause-kept : goal.returns-clause-kept
returns-clause-kept c = undone_listed_kept c.args.undo c.args.listed.now c.undo_listed.new.listed c.args.mapped.now.entries c.requires (sym c.is_empty.ensures ∙ c.if-is_empty.false) c.undo_listed.ensures

pub returns-clause-undone : goal.returns-clause-undone
returns-clause-undone c = undone_listed c.args.undo c.args.listed.now c.undo_listed.new.listed c.args.mapped.now.entries c.requires (sym c.is_empty.ensures ∙ c.if-is_empty.false) c.undo_listed.ensures
