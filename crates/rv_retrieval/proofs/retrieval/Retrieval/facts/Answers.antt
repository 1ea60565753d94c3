use Rattle.std.proofs.Common.{rules, ◌≡◌}
use Rattle.std.specs.List.{slice_index_or}
use Rattle.rv_jscan.proofs.Fits.{way_within}
use Rattle.rv_judge.specs.Account.{no_scan}
use Rattle.rv_jscan.specs.Joint.{counts_at, plan_at}
use Rattle.rv_retrieval.specs.Accounts.{scan_account, scan_accounts}
use Rattle.rv_retrieval.proofs.Accounting.{account_at}
use Rattle.rv_retrieval.proofs.retrieval.Retrieval.facts.Goals as goal

pub returns : goal.returns
returns c =
    let j = c.args.self.now.joint in
    let there : slice_index_or (scan_accounts j.plans j.counts) j.ended no_scan ≡ scan_account (plan_at j.plans j.ended) (counts_at j.counts j.ended) = account_at j.plans j.counts j.ended (way_within j c.requires) in
    rw there (search rules)
