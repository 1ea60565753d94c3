use Rattle.std.proofs.Common.{rules, ◌≡◌}
use Rattle.std.proofs.lemmas.Fn.{always_returns_same}
use Rattle.std.proofs.lemmas.List.Sorted.{IsNonDecreasingBy-from_sort_by_key}
use Rattle.rv_choice.proofs.choosing.scans.Goals as goal

pub returns : goal.returns
returns c = record {
  these = rw c.in_ok-scans.ensures at c.sort_by_key.ensures.permutation;
  ascend = IsNonDecreasingBy-from_sort_by_key (λ p. p.estimate) _ c.in_ok-sort_by_key.ensures.sorted (λ a r q k. search rules);
  ties = rw c.in_ok-scans.ensures at (c.sort_by_key.ensures.stable (λ p. p.estimate) (always_returns_same _ (λ a r. r ≡ a.0.now.estimate) _ (λ a r q k. search rules)));
}
