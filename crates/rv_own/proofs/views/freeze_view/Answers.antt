use Rattle.std.proofs.Common.{◌≡◌, arith, length}
use Rattle.std.proofs.lemmas.List.{nil_from_length}
use Rattle.rv_own.proofs.Bases.{kept_frozen}
use Rattle.rv_own.proofs.Steps.{found_freezes}
use Rattle.rv_own.proofs.views.freeze_view.Goals as goal

pub returns-then-len-eq0-clause-freezes : goal.returns-then-len-eq0-clause-freezes
returns-then-len-eq0-clause-freezes g c = nil_from_length c.args.own.now.changes (let none : length c.args.own.now.changes ≡ 0 = omega arith in none)

pub returns-in-Some-clause-freezes : goal.returns-in-Some-clause-freezes
returns-in-Some-clause-freezes g c = found_freezes (g.S.Reader.shown c.args.store.now) c.args.own.now c.args.views.now c.as_slice.result.now c.as_slice-in-Some.result.now c.in-Some.place c.in_ok-shared.shared c.as_slice.ensures c.as_slice-in-Some.ensures c.requires.kept c.in-Some.ensures c.in_ok-shared.ensures

pub returns-clause-keeps : goal.returns-clause-keeps
returns-clause-keeps g c active place at here all = kept_frozen (g.S.Reader.shown c.args.store.now) active place c.args.own.now c.args.views.now c.freeze_anew.new.views c.freeze_anew.ensures.joins at here all

pub returns-in_err-anew-clause-keeps : goal.returns-in_err-anew-clause-keeps
returns-in_err-anew-clause-keeps g c active place at here all = kept_frozen (g.S.Reader.shown c.args.store.now) active place c.args.own.now c.args.views.now c.freeze_anew.new.views c.freeze_anew.ensures.joins at here all
