use Rattle.std.proofs.Common.{◌∙◌, sym, ap, None, Some}
use Rattle.clap.specs.Matches.{found_of}
use Rattle.rv_words.specs.Reading.{value}
use Rattle.rv_words.proofs.Walking.{found_by}
use Rattle.rv_words.proofs.command.found.Goals as goal

pub returns-in-Some-clause-same : goal.returns-in-Some-clause-same
returns-in-Some-clause-same c = c.value.ensures.same ∙ ap (value c.args.option) c.as_bytes.ensures.value ∙ sym (found_by (found_of c.args.matches.now) c.args.option c.id.result.now (Some c.in-Some.digits.now) c.id.ensures c.in-Some.ensures)

pub returns-in-None-clause-same : goal.returns-in-None-clause-same
returns-in-None-clause-same c = sym (found_by (found_of c.args.matches.now) c.args.option c.id.result.now None c.id.ensures c.in-None.ensures)
