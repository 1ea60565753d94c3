use Rattle.rv_union.proofs.Openings.{opened_fits, opened_life, opened_rest, opened_tells}
use Rattle.std.proofs.Common.{subst}
use Rattle.rv_union.specs.Opened.{Opened}
use Rattle.std.proofs.Common.{◌∙◌, ap}
use Rattle.rv_union.specs.Leaves.{leaves_left}
use Rattle.rv_union.specs.Unioned.{Unioned}
use Rattle.rv_union.proofs.Leaves.{opened_leaves}
use Rattle.rv_union.proofs.uniting.Union.open.Goals as goal

pub returns-clause-fits : goal.returns-clause-fits
returns-clause-fits g c = opened_fits c.args.table c.args.snap c.args.only c.args.members.items c.args.cursor c.args.opening _ c.make.result (g.R.Reader.shown c.args.reader.now) c.make.ensures c.requires.can c.requires.some

pub returns-clause-rest : goal.returns-clause-rest
returns-clause-rest g c = opened_rest c.args.table c.args.snap c.args.only c.args.members.items c.args.cursor c.args.opening _ c.make.result (g.R.Reader.shown c.args.reader.now) c.make.ensures

pub returns-clause-tells : goal.returns-clause-tells
returns-clause-tells g c = opened_tells c.args.table c.args.snap c.args.only c.args.members.items c.args.cursor c.args.opening _ c.make.result (g.R.Reader.shown c.args.reader.now) c.make.ensures c.requires.can c.requires.some

pub returns-clause-life : goal.returns-clause-life
returns-clause-life g c =
    let shown = g.R.Reader.shown c.args.reader.now in
    let o = subst (λ (pages : _). Opened c.args.table c.args.snap c.args.only c.args.members.items c.args.cursor c.args.opening pages c.make.result) c.sizes-pages.ensures.pages c.make.ensures in
    opened_life c.args.table c.args.snap c.args.only c.args.members.items c.args.cursor c.args.opening c.make.result shown o c.sizes-pages.ensures.table c.requires.some

pub returns-clause-ahead : goal.returns-clause-ahead
returns-clause-ahead g c =
    let shown = g.R.Reader.shown c.args.reader.now in
    ap (λ (u : Unioned). leaves_left u shown) c.make.ensures.is ∙ opened_leaves c.args.members.items shown c.args.snap c.requires.some
