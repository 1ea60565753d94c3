use Rattle.std.proofs.Common.{refl}
use Rattle.rv_access.specs.declared.access.Access.TheVariants.{Competing}
use Rattle.rv_access.proofs.Nearing.{none_ahead}
use Rattle.rv_access.proofs.Lives.{one_life, one_whole}
use Rattle.rv_access.proofs.access.Access.open_competing.Goals as goal

pub returns-clause-competes : goal.returns-clause-competes
returns-clause-competes g c = c.in_ok-retrieval.ensures.opened

pub returns-clause-begins : goal.returns-clause-begins
returns-clause-begins g c = record {
  asked = c.in_ok-retrieval.ensures.opened.made.asked;
  fits = c.in_ok-retrieval.ensures.fits;
  owes = c.in_ok-retrieval.ensures.rest;
  tells = c.in_ok-retrieval.ensures.tells;
  awaiting = c.in_ok-retrieval.ensures.awaiting;
  counts = c.in_ok-retrieval.ensures.counts;
  life = one_life _ _ _ c.in_ok-retrieval.ensures.life;
  most = one_whole _ _ c.in_ok-retrieval.ensures.effort;
}

pub returns-clause-short : goal.returns-clause-short
returns-clause-short g c h = record { settled = (c.in_ok-retrieval.ensures.short h).0; few = (c.in_ok-retrieval.ensures.short h).1 }

pub returns-clause-ahead : goal.returns-clause-ahead
returns-clause-ahead g c = none_ahead (g.R.Reader.shown c.args.reader.now) (Competing c.in_ok-retrieval.retrieval) refl
