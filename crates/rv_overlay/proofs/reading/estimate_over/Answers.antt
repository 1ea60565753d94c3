use Rattle.std.proofs.Common.{sym, ◌∙◌, arith, length, inl, inr}
use Rattle.std.proofs.lemmas.Bool.{cases_lt}
use Rattle.rv_value.proofs.Lists.{filter_length}
use Rattle.rv_reader.specs.Entries.{is_in}
use Rattle.rv_overlay.proofs.Chunked.{all_long}
use Rattle.rv_overlay.proofs.Counted.{no_view, view_estimate, view_index, without_count}
use Rattle.rv_overlay.proofs.Keying.{taken_keys}
use Rattle.rv_overlay.proofs.reading.estimate_over.Goals as goal

pub returns-then-not-fits-clause-exact : goal.returns-then-not-fits-clause-exact
returns-then-not-fits-clause-exact g c = no_view _ _ c.args.part.now c.args.range.now c.requires.lays (sym c.fits.ensures ∙ c.if-not-fits.true) c.requires.entries

pub returns-then-not-fits-clause-index : goal.returns-then-not-fits-clause-index
returns-then-not-fits-clause-index g c = view_index _ _ c.args.part.now c.requires.lays

pub estimate-estimate-requires-clause-suits : goal.estimate-estimate-requires-clause-suits
estimate-estimate-requires-clause-suits g c =
    let fit = sym c.fits.ensures ∙ c.if-not-fits.false in
    record { entries = all_long c.args.part.now.width c.args.range.now _ fit c.requires.lays.keys; cuts = all_long c.args.part.now.width c.args.range.now _ fit c.requires.lays.cut_keys }

pub counted-requires-clause-less : goal.counted-requires-clause-less
counted-requires-clause-less g c h =
    let whole = c.estimate-estimate.ensures.exact.exact h in
    let count = without_count (is_in c.args.range.now) c.args.part.now.taken _ c.requires.lays.taken c.requires.lays.index.ascend c.requires.lays.taken_there in
    omega (arith, whole, count)

pub counted-requires-clause-fits : goal.counted-requires-clause-fits
counted-requires-clause-fits g c h =
    let whole = c.estimate-estimate.ensures.exact.exact h in
    let few = filter_length (is_in c.args.range.now) c.args.part.now.added in
    let fewer = filter_length (is_in c.args.range.now) ((g.R.Reader.shown c.args.reader.now).entries c.args.index c.args.snap) in
    elim (cases_lt 0 (length c.args.part.now.added)) [
      | inl some ↦ (let many = c.requires.lays.many some in omega (arith, whole, few, fewer, many))
      | inr none ↦ omega (arith, few, none)
    ]

pub counted-requires-clause-long_taken : goal.counted-requires-clause-long_taken
counted-requires-clause-long_taken g c = all_long c.args.part.now.width c.args.range.now c.args.part.now.taken (sym c.fits.ensures ∙ c.if-not-fits.false) (taken_keys c.args.part.now.width _ c.args.part.now.taken c.requires.lays.keys c.requires.lays.taken_there)

pub counted-requires-clause-long_added : goal.counted-requires-clause-long_added
counted-requires-clause-long_added g c = all_long c.args.part.now.width c.args.range.now c.args.part.now.added (sym c.fits.ensures ∙ c.if-not-fits.false) c.requires.lays.added_keys

pub returns-clause-exact : goal.returns-clause-exact
returns-clause-exact g c = rw c.counted.ensures (view_estimate _ _ c.args.part.now c.args.range.now c.estimate-estimate.result c.requires.lays c.estimate-estimate.ensures.exact)

pub returns-clause-index : goal.returns-clause-index
returns-clause-index g c = view_index _ _ c.args.part.now c.requires.lays
