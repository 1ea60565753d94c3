use Rattle.std.proofs.Common.{sym, None, Some, rules}
use Rattle.clap.specs.Matches.{found_of}
use Rattle.rv_words.proofs.Walking.{flag_by}
use Rattle.rv_words.proofs.command.is_flagged.Goals as goal

pub returns-in-Some : goal.returns-in-Some
returns-in-Some c = rw (flag_by (found_of c.args.matches.now) c.args.option c.id.result.now (Some c.in-Some.text.now) c.id.ensures c.in-Some.ensures) (search rules)

pub returns-in-None : goal.returns-in-None
returns-in-None c = sym (flag_by (found_of c.args.matches.now) c.args.option c.id.result.now None c.id.ensures c.in-None.ensures)
