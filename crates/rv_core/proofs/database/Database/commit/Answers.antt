use Rattle.rv_core.proofs.Calling.{can_commit}
use Rattle.rv_core.proofs.Databases.{commits_all, commits_sees, commits_standing, sees_again, stand_again, standing_same}
use Rattle.std.proofs.Common.{refl}
use Rattle.rv_core.proofs.Owning.{views_committed, views_gone, views_same}
use Rattle.rv_core.proofs.database.Database.commit.Goals as goal

pub commit_own-requires-clause-changes : goal.commit_own-requires-clause-changes
commit_own-requires-clause-changes g c = λ txn base changes did rise. can_commit (g.S.Reader.shown c.self.inside.store) c.self.inside.catalog c.self.inside.txns c.args.session txn base changes c.self.invariant.standing.tied did rise

pub invariant_of-self : goal.invariant_of-self
invariant_of-self g c =
    let standing = standing_same (g.S.Reader.shown c.self.inside.store) (g.S.Reader.shown c.commit_own.new.store) c.self.inside.catalog c.self.inside.catalog c.self.inside.txns c.self.inside.cursors c.self.inside.opened refl c.in-Err-commit_own.ensures.err c.self.invariant.standing in
    record { standing = standing; views_kept = views_same (g.S.Reader.shown c.self.inside.store) (g.S.Reader.shown c.commit_own.new.store) c.self.inside.catalog c.self.inside.catalog c.self.inside.txns c.commit_own.new.views c.last-last.ensures.stored c.in-Err-commit_own.ensures.err c.self.invariant.standing.tied standing.tied (views_gone (g.S.Reader.shown c.self.inside.store) c.self.inside.txns.active c.self.inside.views c.commit_own.new.views c.args.session c.commit_own.ensures.views c.self.invariant.views_kept) }

pub returns-in-Err-commit_own-clause-err : goal.returns-in-Err-commit_own-clause-err
returns-in-Err-commit_own-clause-err g c = rw (← c.self.view_is) (stand_again (g.S.Reader.shown c.self.inside.store) (g.S.Reader.shown c.commit_own.new.store) c.self.inside.catalog c.self.inside.catalog c.self.inside.txns c.self.inside.cursors c.self.inside.opened refl c.in-Err-commit_own.ensures.err c.self.invariant.standing)

pub invariant_of-self-2 : goal.invariant_of-self-2
invariant_of-self-2 g c =
    record {
      standing = commits_standing (g.S.Reader.shown c.self.inside.store) (g.S.Reader.shown c.commit_own.new.store) c.self.inside.catalog c.self.inside.txns c.commit_done.new.self c.self.inside.cursors c.close_all.new.cursors c.self.inside.opened c.args.session c.in-Ok.ensures.ok.txn c.in-Ok.ensures.ok.base c.in-Ok.number c.in-Ok.ensures.ok.changes c.in-Ok.ensures.ok.did c.in-Ok.ensures.ok.told c.commit_done.ensures c.close_all.ensures c.self.invariant.standing;
      views_kept = views_committed (g.S.Reader.shown c.self.inside.store) (g.S.Reader.shown c.commit_own.new.store) c.self.inside.catalog c.self.inside.txns c.commit_done.new.self c.self.inside.views c.commit_own.new.views c.args.session c.in-Ok.ensures.ok.txn c.in-Ok.ensures.ok.base c.in-Ok.number c.in-Ok.ensures.ok.changes c.last-last.ensures.stored c.in-Ok.ensures.ok.did c.in-Ok.ensures.ok.told c.commit_done.ensures c.commit_own.ensures.views c.self.invariant.standing.tied c.self.invariant.views_kept;
    }

pub returns-clause-ok : goal.returns-clause-ok
returns-clause-ok g c = rw (← c.self.view_is) (commits_all (g.S.Reader.shown c.self.inside.store) (g.S.Reader.shown c.commit_own.new.store) c.self.inside.catalog c.self.inside.txns c.commit_done.new.self c.self.inside.cursors c.close_all.new.cursors c.self.inside.opened c.args.session c.in-Ok.ensures.ok.txn c.in-Ok.ensures.ok.base c.in-Ok.number c.in-Ok.ensures.ok.changes c.in-Ok.ensures.ok.did c.in-Ok.ensures.ok.told c.commit_done.ensures c.close_all.ensures c.self.invariant.standing)

pub returns-in-Err-commit_own-clause-sees : goal.returns-in-Err-commit_own-clause-sees
returns-in-Err-commit_own-clause-sees g c = rw (← c.self.view_is) (sees_again (g.S.Reader.shown c.self.inside.store) (g.S.Reader.shown c.commit_own.new.store) c.self.inside.catalog c.self.inside.txns c.self.inside.cursors c.self.inside.opened c.in-Err-commit_own.ensures.err c.self.invariant.standing)

pub returns-clause-sees : goal.returns-clause-sees
returns-clause-sees g c = rw (← c.self.view_is) (commits_sees (g.S.Reader.shown c.self.inside.store) (g.S.Reader.shown c.commit_own.new.store) c.self.inside.catalog c.self.inside.txns c.commit_done.new.self c.self.inside.cursors c.close_all.new.cursors c.self.inside.opened c.args.session c.in-Ok.ensures.ok.txn c.in-Ok.ensures.ok.base c.in-Ok.number c.in-Ok.ensures.ok.changes c.in-Ok.ensures.ok.did c.in-Ok.ensures.ok.told c.commit_done.ensures c.close_all.ensures c.self.invariant.standing)
