use Rattle.std.proofs.Common.{◌∙◌, arith, length-set, rules}
use Rattle.rv_keylist.proofs.Zeros.{all_zero, one_more_zero}
use Rattle.rv_keylist.proofs.filter.clear_words.Goals as goal

pub words-preserved : goal.words-preserved
words-preserved c = record {
  here = omega (arith, length-set c.words.words.items c.words.i 0);
  count = length-set c.words.words.items c.words.i 0 ∙ c.words.invariant.count;
  zero = one_more_zero c.words.words.items c.words.i c.words.invariant.zero;
}

pub returns-clause-zero : goal.returns-clause-zero
returns-clause-zero c = all_zero c.words.words.items c.words.i c.words.invariant.zero (search rules)
