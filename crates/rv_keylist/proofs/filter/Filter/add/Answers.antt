use Rattle.rv_keylist.proofs.Words.{added, kept_bit, held_bit}
use Rattle.rv_keylist.proofs.filter.Filter.add.Goals as goal

pub returns-clause-set : goal.returns-clause-set
returns-clause-set c =
    added _ _ c.bit_of-bit.result _ _ c.self.view_is c.self.invariant c.bit_of-bit.ensures.bit
    c.bit_of-bit.ensures.fits c.index_mut.ensures.value

pub returns-clause-held : goal.returns-clause-held
returns-clause-held c = held_bit _ _ _ (returns-clause-set c)

pub returns-clause-kept : goal.returns-clause-kept
returns-clause-kept c = λ other held. kept_bit _ _ _ other (returns-clause-set c) held
