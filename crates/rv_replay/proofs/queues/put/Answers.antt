use Rattle.std.proofs.Common.{◌∙◌, ap, subst, sym}
use Rattle.rv_rows.specs.Rising.{Rising}
use Rattle.rv_replay.specs.Queues.{all_of, comes_before}
use Rattle.rv_replay.proofs.Putting.{puts_alone, puts_more, there_fits}
use Rattle.rv_replay.proofs.queues.put.Goals as goal

pub one_more-requires : goal.one_more-requires
one_more-requires c = (there_fits c.args.offer c.args.offer.returned c.args.alike.now.items c.place_of-place.result (sym (rw c.as_slice-2.ensures.value at c.fits_at.ensures) ∙ c.if-fits_at.true)).0

pub returns-then-fits_at-clause-all : goal.returns-then-fits_at-clause-all
returns-then-fits_at-clause-all c =
    ap all_of c.in_ok-one_more.ensures
    ∙ (puts_more c.args.offer c.args.alike.now.items c.place_of-place.result c.requires (rw c.as_slice.ensures.value at c.place_of-place.ensures) (sym (rw c.as_slice-2.ensures.value at c.fits_at.ensures) ∙ c.if-fits_at.true)).0

pub returns-then-fits_at-clause-rises : goal.returns-then-fits_at-clause-rises
returns-then-fits_at-clause-rises c =
    subst (Rising comes_before) (sym c.in_ok-one_more.ensures)
    (puts_more c.args.offer c.args.alike.now.items c.place_of-place.result c.requires (rw c.as_slice.ensures.value at c.place_of-place.ensures) (sym (rw c.as_slice-2.ensures.value at c.fits_at.ensures) ∙ c.if-fits_at.true)).1

pub returns-clause-all : goal.returns-clause-all
returns-clause-all c =
    ap all_of c.in_ok-insert.ensures.items
    ∙ (puts_alone c.args.offer c.args.alike.now.items c.place_of-place.result c.requires (rw c.as_slice.ensures.value at c.place_of-place.ensures) (sym (rw c.as_slice-2.ensures.value at c.fits_at.ensures) ∙ c.if-fits_at.false)).0

pub returns-clause-rises : goal.returns-clause-rises
returns-clause-rises c =
    subst (Rising comes_before) (sym c.in_ok-insert.ensures.items)
    (puts_alone c.args.offer c.args.alike.now.items c.place_of-place.result c.requires (rw c.as_slice.ensures.value at c.place_of-place.ensures) (sym (rw c.as_slice-2.ensures.value at c.fits_at.ensures) ∙ c.if-fits_at.false)).1
