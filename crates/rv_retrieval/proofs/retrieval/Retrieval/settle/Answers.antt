use Rattle.std.proofs.Common.{◌≡◌, ◌∙◌, ap, false, sym, true}
use Rattle.std.proofs.lemmas.Result.{on_ok_weaker}
use Rattle.rv_retrieval.specs.Opened.{is_one}
use Rattle.rv_retrieval.proofs.retrieval.Retrieval.settle.Goals as goal

pub returns-in-One-clause-scanned : goal.returns-in-One-clause-scanned
returns-in-One-clause-scanned g c = c.scan_at_once.ensures.scanned

pub returns-in-One-clause-fits : goal.returns-in-One-clause-fits
returns-in-One-clause-fits g c = c.scan_at_once.ensures.fits

pub returns-in-One-clause-rest : goal.returns-in-One-clause-rest
returns-in-One-clause-rest g c = c.scan_at_once.ensures.rest

pub returns-in-One-clause-spends : goal.returns-in-One-clause-spends
returns-in-One-clause-spends g c = c.scan_at_once.ensures.spends

pub returns-in-One-clause-less : goal.returns-in-One-clause-less
returns-in-One-clause-less g c = c.scan_at_once.ensures.less

pub returns-in-One-clause-tried : goal.returns-in-One-clause-tried
returns-in-One-clause-tried g c = c.scan_at_once.ensures.tried

pub returns-in-One-clause-awaiting : goal.returns-in-One-clause-awaiting
returns-in-One-clause-awaiting g c = c.scan_at_once.ensures.awaiting

pub returns-in-One-clause-only : goal.returns-in-One-clause-only
returns-in-One-clause-only g c = c.scan_at_once.ensures.only

pub returns-in-One-clause-runs : goal.returns-in-One-clause-runs
returns-in-One-clause-runs g c = on_ok_weaker c.scan_at_once.result (λ runs one. runs) c.scan_at_once.ensures.runs

pub returns-in-One-clause-completes : goal.returns-in-One-clause-completes
returns-in-One-clause-completes g c one = c.scan_at_once.ensures.completes

pub returns-in-One-clause-settled : goal.returns-in-One-clause-settled
returns-in-One-clause-settled g c one = c.scan_at_once.ensures.settled

pub returns-in-One-clause-few : goal.returns-in-One-clause-few
returns-in-One-clause-few g c one = c.scan_at_once.ensures.few

pub returns-in-One-clause-same : goal.returns-in-One-clause-same
returns-in-One-clause-same g c none = absurd (let bad : true ≡ false = sym (ap is_one c.in-One.is) ∙ none in cc)

pub returns-in-One-clause-unread : goal.returns-in-One-clause-unread
returns-in-One-clause-unread g c none = absurd (let bad : true ≡ false = sym (ap is_one c.in-One.is) ∙ none in cc)
