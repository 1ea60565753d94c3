use Rattle.std.proofs.Common.{◌≡◌, ◌<◌, ◌≤◌, ◌-◌, ℕ, length, slice_index_or}
use Rattle.rv_keylist.proofs.filter.clear_words.Given as goal

abbrev pub invariant-words : goal.invariant-words
invariant-words l = record {
  here : l.i ≤ length l.words.items;
  count : length l.words.items ≡ length l.fn.words.items;
  zero : (at : ℕ) → at < l.i → slice_index_or l.words.items at 0 ≡ 0;
}

abbrev pub decreases-words : goal.decreases-words
decreases-words l = length l.words.items - l.i
