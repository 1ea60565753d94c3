use Rattle.std.proofs.Common.{◌∙◌, Bool, ap, refl, subst}
use Rattle.rv_retrieval.specs.Opened.{Made, has_scans}
use Rattle.rv_retrieval.specs.Opens.{first_of}
use Rattle.rv_retrieval.specs.Room.{rows_given}
use Rattle.rv_retrieval.specs.Shape.{Shape}
use Rattle.rv_retrieval.proofs.Beginning.{made_of}
use Rattle.rv_retrieval.proofs.retrieval.Retrieval.renew.Goals as goal

pub invariant_of-self : goal.invariant_of-self
invariant_of-self c = c.in-Ok.ensures.room

pub returns : goal.returns
returns c =
    let v : Shape = record { query = c.self.inside.query; strategy = c.args.strategy; control = c.first_control-self-inside.result; joint = c.renew.new.self; front = c.self.inside.front; delivered = rows_given c.in-Ok.delivered; borrowed = 0; at = c.new.result.at; last = c.new.result.last; guaranteed = c.args.guaranteed; trace = c.renew_trace.new.trace } in
    subst (λ (x : Shape). Made x.query c.args.strategy c.args.scans.items x.front c.args.guaranteed c.args.cursor c.args.opening v) c.self.view_is (made_of v c.args.scans.items c.args.cursor c.args.opening c.renew_trace.ensures refl c.new.ensures.unbegun c.new.ensures.work (record {
      joint = c.renew.ensures.begun;
      control = c.first_control-self-inside.ensures ∙ ap (λ (b : Bool). first_of c.args.strategy b) (c.has_scans.ensures ∙ ap has_scans c.as_slice.ensures.value);
      delivered = c.in-Ok.ensures.none;
      at = c.new.ensures.unbegun.keys;
      of_table = c.new.ensures.table;
      at_snap = c.new.ensures.snap;
      drawn = c.new.ensures.drawn;
      pages = c.new.ensures.unbegun.pages;
    }) (λ shown o. c.renew.ensures.fits shown o.apart))
