use Rattle.rv_believed.proofs.PlainHistories.{plain_entries}
use Rattle.rv_believed.proofs.laws.legal_is_plain.Goals as goal

pub returns : goal.returns
returns c = plain_entries
