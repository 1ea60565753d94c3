use Rattle.std.proofs.Common.{◌∙◌, List, subst}
use Rattle.std.specs.Prelude.{IsPermutation}
use Rattle.rv_value.specs.declared.record.Record.{Record}
use Rattle.rv_final.specs.Rest.{qualifying}
use Rattle.try_retrievals.specs.Driving.{numbers_of}
use Rattle.try_retrievals.proofs.case.retrieve.Goals as goal

pub open-requires : goal.open-requires
open-requires g c = c.in_ok-query.ensures.can (g.R.Reader.shown c.args.reader.now) c.requires

pub returns-in-Ok : goal.returns-in-Ok
returns-in-Ok g c = λ ended.
    let query = c.in_ok-query.ensures.query in
    let all = c.in_ok-access.ensures.begins.owes ∙ (λ i. qualifying (query.only i) ((g.R.Reader.shown c.args.reader.now).rows (query.table i) (query.at_snap i))) in
    subst (λ (due : List Record). IsPermutation (numbers_of due) (numbers_of c.in-Ok.driven.rows.items)) all (c.in-Ok.ensures ended)
