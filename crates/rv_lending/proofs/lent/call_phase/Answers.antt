use Rattle.rv_shared.specs.Leads.{Leads}
use Rattle.rv_shared.proofs.Leading.{leads_map}
use Rattle.rv_lending.specs.Lending.{CoreEvent, Point, point}
use Rattle.rv_lending.specs.declared.lent.Lent.{Lent}
use Rattle.rv_lending.specs.contracts.lent.call_phase.{dyn-1-ghosts}
use Rattle.rv_lending.proofs.Keeping.{settings_stay, would_stays}
use Rattle.rv_lending.proofs.lent.call_phase.Goals as goal

pub returns : goal.returns
returns g c =
    let at : Lent _ _ _ → Point g.row.S.Denot = λ l. point l.core.engine (((dyn-1-ghosts g.row.S g.row.R g.row.G g.S.Store g.S.Store-dict g.S.Reader g.S.Reader-dict g.R.Threads g.R.Threads-dict g.R.Wait g.R.Wait-dict g.G.Gate g.G.Gate-dict g.S.Destruct-dict g.dyn-1).0.entry l.core.judge.vtable).1.would l.core.judge.value) (((dyn-1-ghosts g.row.S g.row.R g.row.G g.S.Store g.S.Store-dict g.S.Reader g.S.Reader-dict g.R.Threads g.R.Threads-dict g.R.Wait g.R.Wait-dict g.G.Gate g.G.Gate-dict g.S.Destruct-dict g.dyn-1).0.entry l.core.judge.vtable).1.state l.core.judge.value) l.core.settings in
    let e = c.run_phase.ensures in
    let chain : Leads (CoreEvent g.S.Reader.shown) (at c.args.lent) (at c.run_phase.result.core) = leads_map _ (CoreEvent g.S.Reader.shown) at (λ a b h. h) _ _ e.led in
    record {
      done = e.done;
      chain = chain;
      phase = e.phase;
      rules = would_stays g.S.Reader.shown _ _ chain;
      settings = settings_stay g.S.Reader.shown _ _ chain;
    }
