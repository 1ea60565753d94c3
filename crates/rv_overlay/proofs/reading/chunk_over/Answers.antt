use Rattle.std.proofs.Common.{sym, ap, ◌∙◌, refl, not}
use Rattle.std.specs.Option.{option_copied}
use Rattle.rv_overlay.proofs.Chunked.{all_long, laid_leaf, leaf_ascends, no_leaf}
use Rattle.rv_overlay.proofs.reading.chunk_over.Goals as goal

pub returns-then-not-fits-clause-chunk : goal.returns-then-not-fits-clause-chunk
returns-then-not-fits-clause-chunk g c = no_leaf _ _ c.args.part.now c.args.range.now (option_copied c.args.from) _ c.requires.lays (sym c.fits.ensures ∙ c.if-not-fits.true) c.requires.entries c.requires.cuts c.new.ensures refl

pub chunk-requires-clause-suits : goal.chunk-requires-clause-suits
chunk-requires-clause-suits g c =
    let fit = sym c.fits.ensures ∙ c.if-not-fits.false in
    record { entries = all_long c.args.part.now.width c.args.range.now _ fit c.requires.lays.keys; cuts = all_long c.args.part.now.width c.args.range.now _ fit c.requires.lays.cut_keys }

pub next_cut-requires-clause-long : goal.next_cut-requires-clause-long
next_cut-requires-clause-long g c = all_long c.args.part.now.width c.args.range.now _ (sym c.fits.ensures ∙ c.if-not-fits.false) c.requires.lays.added_keys

pub lay-requires-clause-leaf : goal.lay-requires-clause-leaf
lay-requires-clause-leaf g c = rw c.into_vec.ensures (leaf_ascends _ _ c.args.part.now c.args.range.now (option_copied c.args.from) _ c.requires.lays (sym c.fits.ensures ∙ c.if-not-fits.false) c.in_ok-leaf.ensures.chunk)

pub lay-requires-clause-long : goal.lay-requires-clause-long
lay-requires-clause-long g c = all_long c.args.part.now.width c.args.range.now _ (sym c.fits.ensures ∙ c.if-not-fits.false) c.requires.lays.added_keys

pub returns-clause-chunk : goal.returns-clause-chunk
returns-clause-chunk g c =
    laid_leaf _ _ c.args.part.now c.args.range.now (option_copied c.args.from) _ _ _ c.requires.lays (sym c.fits.ensures ∙ c.if-not-fits.false) c.in_ok-leaf.ensures.chunk
    c.in_ok-next.ensures
    (rw (c.as_ref.ensures.value, c.into_vec.ensures) at c.in_ok-all.ensures)
    _ c.from_vec.ensures refl
