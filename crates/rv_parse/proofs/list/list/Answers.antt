use Rattle.std.proofs.Common.{length, sym}
use Rattle.std.proofs.lemmas.Result.{err_from_is_err_and}
use Rattle.rv_parse.specs.Reading.{list_of}
use Rattle.rv_parse.proofs.Lists.{goes_on, stops, fails}
use Rattle.rv_parse.proofs.list.list.Goals as goal

pub returns-in_err-item : goal.returns-in_err-item
unfolding list_of
returns-in_err-item g c =
    let p = err_from_is_err_and c.from_residual.result c.from_residual.ensures.1 in
    rw (p.1, p.2) (fails g.P.Part.reads c.args.between c.parts.items.items (length c.args.tokens.now) c.parts.counter c.parts.rest.now (list_of g.P.Part.reads c.args.between c.args.tokens.now) c.parts-test.true c.parts.invariant c.in_err-item.field-0.0 c.in_err-item.ensures)

pub returns-in-None : goal.returns-in-None
returns-in-None g c =
    rw (c.from_vec.ensures, c.in_ok-push.ensures.items) (stops g.P.Part.reads c.args.between c.parts.items.items (length c.args.tokens.now) c.parts.counter c.parts.rest.now (list_of g.P.Part.reads c.args.between c.args.tokens.now) c.parts-test.true c.parts.invariant c.in_ok-item.item c.in_ok-item.follows.now c.in_ok-item.ensures (sym c.in-None.ensures))

pub parts-preserved : goal.parts-preserved
parts-preserved g c =
    rw c.in_ok-push.ensures.items (goes_on g.P.Part.reads c.args.between c.parts.items.items (length c.args.tokens.now) c.parts.counter c.parts.rest.now (list_of g.P.Part.reads c.args.between c.args.tokens.now) c.parts-test.true c.parts.invariant c.in_ok-item.item c.in_ok-item.follows.now c.in-Some.next.now c.in_ok-item.ensures (sym c.in-Some.ensures))
