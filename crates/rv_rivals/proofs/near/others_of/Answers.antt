use Rattle.std.proofs.Common.{◌≡◌, ◌+◌, ◌∙◌, ◌++◌, ◌∷◌, [], suc, Some, ap, arith, length, refl, take}
use Rattle.std.specs.Prelude.{slice_get}
use Rattle.std.proofs.lemmas.Option.{slice_get_read}
use Rattle.rv_value.proofs.Lists.{all_got}
use Rattle.rv_own.specs.Views.{CanView}
use Rattle.rv_own.proofs.Bases.{are_own}
use Rattle.rv_rivals.specs.Lookups.{touching}
use Rattle.rv_rivals.proofs.Nearing.{placed_at, touching_next}
use Rattle.rv_rivals.proofs.near.others_of.Goals as goal

pub add_other-requires-clause-can : goal.add_other-requires-clause-can
add_other-requires-clause-can g c =
    let active = c.args.active.now in
    let k = c.active.transaction-index in
    let item = c.transaction-item.result in
    let is : slice_get active k ≡ Some item = slice_get_read active (length active) k item refl c.active-test.true c.transaction-item.is in
    all_got (λ t. CanView (g.S.Reader.shown c.args.store.now) c.args.indexes.now t []) active k item c.requires.can is

pub add_other-requires-clause-kept : goal.add_other-requires-clause-kept
add_other-requires-clause-kept g c =
    let active = c.args.active.now in
    let k = c.active.transaction-index in
    let item = c.transaction-item.result in
    let is : slice_get active k ≡ Some item = slice_get_read active (length active) k item refl c.active-test.true c.transaction-item.is in
    let placed = placed_at active k item c.requires.apart is in
    are_own (g.S.Reader.shown c.args.store.now) active placed.place item c.active.views placed.found placed.here c.active.invariant.views

pub active-preserved : goal.active-preserved
active-preserved g c =
    let active = c.args.active.now in
    let k = c.active.transaction-index in
    let item = c.transaction-item.result in
    let is : slice_get active k ≡ Some item = slice_get_read active (length active) k item refl c.active-test.true c.transaction-item.is in
    let more : suc k ≡ k + 1 = omega arith in
    record {
      others = c.in_ok-add_other.ensures.others ∙ ap (λ ts. ts ++ touching c.args.table c.args.session (item ∷ [])) c.active.invariant.others
          ∙ touching_next c.args.table c.args.session active k item is ∙ ap (λ n. touching c.args.table c.args.session (take n active)) more;
      each = c.in_ok-add_other.ensures.each c.active.invariant.each;
      views = c.add_other.ensures.views active (placed_at active k item c.requires.apart is) c.active.invariant.views;
    }

pub returns-in_err-add_other-clause-views : goal.returns-in_err-add_other-clause-views
returns-in_err-add_other-clause-views g c =
    let active = c.args.active.now in
    let k = c.active.transaction-index in
    let item = c.transaction-item.result in
    let is : slice_get active k ≡ Some item = slice_get_read active (length active) k item refl c.active-test.true c.transaction-item.is in
    c.add_other.ensures.views active (placed_at active k item c.requires.apart is) c.active.invariant.views
