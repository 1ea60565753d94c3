use Rattle.std.proofs.Common.{refl, ap, sym, ◌∙◌}
use Rattle.std.specs.Option.{option_copied}
use Rattle.rv_audit.proofs.Taking.{end_refuses, takes, text_refuses, wait_refuses}
use Rattle.rv_audit.proofs.following.take.Goals as goal

pub returns-then-not-is : goal.returns-then-not-is
returns-then-not-is c = (text_refuses c.args.calls.now c.args.places.now c.from-place.result c.args.session c.args.text.now c.in-Some.call.now c.is.result c.requires.stands c.requires.from c.requires.to c.from-place.ensures (sym c.call_at.ensures.is ∙ ap option_copied c.in-Some.is) c.is.ensures c.if-not-is.true, refl)

pub returns-then-not-wait : goal.returns-then-not-wait
returns-then-not-wait c = (wait_refuses c.args.calls.now c.args.places.now c.from-place.result c.args.session c.args.text.now c.in-Some.call.now c.wait.result c.requires.stands c.requires.from c.requires.to c.from-place.ensures (sym c.call_at.ensures.is ∙ ap option_copied c.in-Some.is) c.wait.ensures c.if-not-wait.true, refl)

pub returns-else-not-wait : goal.returns-else-not-wait
returns-else-not-wait c = takes c.args.calls.now c.args.places.now c.from-place.result c.args.session c.args.text.now c.in-Some.call.now c.is.result c.wait.result c.next_of.result c.requires.stands c.requires.from c.requires.to c.from-place.ensures (sym c.call_at.ensures.is ∙ ap option_copied c.in-Some.is) c.is.ensures c.if-not-is.false c.wait.ensures c.if-not-wait.false c.next_of.ensures

pub returns-in-None : goal.returns-in-None
returns-in-None c = (end_refuses c.args.calls.now c.args.places.now c.from-place.result c.args.session c.args.text.now c.from-place.ensures (sym c.call_at.ensures.is ∙ ap option_copied c.in-None.is), refl)
