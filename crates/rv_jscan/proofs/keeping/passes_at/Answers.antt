use Rattle.std.proofs.Common.{◌∙◌, ap, length, refl, sym}
use Rattle.std.proofs.lemmas.List.{get_or_read_under}
use Rattle.rv_value.specs.declared.record.IndexEntry.{IndexEntry}
use Rattle.rv_restrict.specs.Parts.{passes}
use Rattle.rv_jscan.proofs.keeping.passes_at.Goals as goal

pub returns : goal.returns
returns c d = c.pass.ensures ∙ ap (λ (e : IndexEntry). passes c.args.part.now e.key) (sym c.index-entries-i.is ∙ get_or_read_under c.args.entries.now c.args.i (length c.args.entries.now) c.index-entries-i.result d c.index-entries-i.is c.requires.within refl)
