use Rattle.rv_believed.proofs.StatementsStand.{begin_stands, change_stands, close_stands, commit_stands, index_stands, insert_stands, open_stands, rollback_stands, table_stands}
use Rattle.rv_believed.proofs.laws.statements_are_same.Goals as goal

pub returns-clause-tables : goal.returns-clause-tables
returns-clause-tables c = table_stands

pub returns-clause-indexes : goal.returns-clause-indexes
returns-clause-indexes c = index_stands

pub returns-clause-begins : goal.returns-clause-begins
returns-clause-begins c = begin_stands

pub returns-clause-inserts : goal.returns-clause-inserts
returns-clause-inserts c = insert_stands

pub returns-clause-changes : goal.returns-clause-changes
returns-clause-changes c = change_stands

pub returns-clause-commits : goal.returns-clause-commits
returns-clause-commits c = commit_stands

pub returns-clause-rolls_back : goal.returns-clause-rolls_back
returns-clause-rolls_back c = rollback_stands

pub returns-clause-opens : goal.returns-clause-opens
returns-clause-opens c = open_stands

pub returns-clause-closes : goal.returns-clause-closes
returns-clause-closes c = close_stands
