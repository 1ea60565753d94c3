use Rattle.rv_core.proofs.Databases.{fresh_standing}
use Rattle.rv_core.proofs.database.Database.new.Goals as goal

pub invariant_of-result : goal.invariant_of-result
invariant_of-result g c =
    record {
      standing = rw (c.new.ensures, c.new-2.ensures, c.new-4.ensures) (fresh_standing (g.S.Reader.shown c.args.store) c.requires.tables c.last-last.ensures.stored);
      views_kept = rw c.new-3.ensures tt;
    }
