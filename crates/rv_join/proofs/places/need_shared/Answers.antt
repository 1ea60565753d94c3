use Rattle.std.proofs.Common.{◌∙◌, List, ap, ℕ}
use Rattle.rv_restrict.specs.Parts.{stands_among}
use Rattle.rv_join.proofs.places.need_shared.Goals as goal

pub returns : goal.returns
returns c = λ k. ap (λ (xs : List ℕ). stands_among xs k) c.in_ok-shared.ensures ∙ c.in_ok-named.ensures k
