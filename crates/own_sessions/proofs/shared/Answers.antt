use Rattle.std.proofs.Common.{◌∙◌, subst, sym}
use Rattle.rv_shared.specs.Leads.{Leads}
use Rattle.rv_shared.proofs.Leading.{leads_map}
use Rattle.rv_core.specs.declared.judged.Core.{Core}
use Rattle.rv_lending.specs.Lending.{CoreEvent, Point, point}
use Rattle.rv_lending.specs.declared.lent.Lent.{Lent}
use Rattle.rv_lending.proofs.Keeping.{settings_stay}
use Rattle.own_sessions.proofs.shared.Goals as goal

pub returns : goal.returns
returns g c =
    let at : Core _ _ _ → Point g.row.S.Denot = λ k. point k.engine ((goal.Judge-dyn g (k.judge.vtable, k.judge.value)).would k.judge.value) ((goal.Judge-dyn g (k.judge.vtable, k.judge.value)).state k.judge.value) k.settings in
    let led : Leads (CoreEvent g.S.Reader.shown) (at c.lend-lent.result.core) (at c.by_threads-back.result.core) = leads_map _ (CoreEvent g.S.Reader.shown) (λ (l : Lent _ _ _). at l.core) (λ a b h. h) _ _ c.by_threads-back.ensures.led in
    let start = c.lend-lent.ensures.core in
    let back = sym c.give_back.ensures.core in
    record {
      chain = subst (λ (x : Core _ _ _ × Core _ _ _). Leads (CoreEvent g.S.Reader.shown) (at x.0) (at x.1)) (λ i. (start i, back i)) led;
      settings = sym (λ i. (back i).settings) ∙ settings_stay g.S.Reader.shown _ _ led ∙ (λ i. (start i).settings);
      legal = rw c.give_back.ensures.core c.by_threads-back.ensures.legal;
      goes_on = rw (c.give_back.ensures.core, sym start) c.by_threads-back.ensures.goes_on;
    }
