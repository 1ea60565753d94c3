use Rattle.std.proofs.Common.{◌∙◌, ℕ, None, Option, Some, ap, length}
use Rattle.rv_choice.specs.declared.choosing.Role.TheVariants.{Sufficient, Restricted}
use Rattle.rv_choice.specs.Choice.{choice_of}
use Rattle.rv_choice.proofs.Choices.{least_there}
use Rattle.rv_choice.proofs.choosing.choose.Goals as goal

pub returns-in-Some : goal.returns-in-Some
returns-in-Some c =
    let cs = c.args.candidates.now in
    let sufficient = least_there Sufficient cs (length cs) in
    let restricted = least_there Restricted cs (length cs) in
    record {
      short = c.least-short.result;
      sufficient = sufficient.0;
      restricted = restricted.0;
      least_short = c.least-short.ensures;
      least_sufficient = sufficient.1;
      least_restricted = restricted.1;
      rules = c.ordered_choice.ensures ∙ ap (λ (o : Option ℕ). choice_of cs c.args.goal o c.least-short.result sufficient.0 restricted.0) c.in-Some.ensures;
    }

pub returns-in-Some-short : goal.returns-in-Some-short
returns-in-Some-short c =
    let cs = c.args.candidates.now in
    let sufficient = least_there Sufficient cs (length cs) in
    let restricted = least_there Restricted cs (length cs) in
    record {
      short = Some c.in-Some-short.short;
      sufficient = sufficient.0;
      restricted = restricted.0;
      least_short = c.in-Some-short.ensures;
      least_sufficient = sufficient.1;
      least_restricted = restricted.1;
      rules = c.short_choice.ensures c.args.goal sufficient.0 restricted.0 ∙ ap (λ (o : Option ℕ). choice_of cs c.args.goal o (Some c.in-Some-short.short) sufficient.0 restricted.0) c.in-None.ensures;
    }

pub returns-in-Some-least : goal.returns-in-Some-least
returns-in-Some-least c =
    let cs = c.args.candidates.now in
    let restricted = least_there Restricted cs (length cs) in
    record {
      short = None;
      sufficient = Some c.in-Some-least.front;
      restricted = restricted.0;
      least_short = c.in-None-short.ensures;
      least_sufficient = c.in-Some-least.ensures;
      least_restricted = restricted.1;
      rules = c.sufficient_choice.ensures c.args.goal restricted.0 ∙ ap (λ (o : Option ℕ). choice_of cs c.args.goal o None (Some c.in-Some-least.front) restricted.0) c.in-None.ensures;
    }
