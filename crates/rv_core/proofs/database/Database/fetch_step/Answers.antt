use Rattle.std.proofs.Common.{◌∙◌, ap, refl, sym}
use Rattle.std.proofs.lemmas.Result.{IfOk-weaker, on_err_weaker}
use Rattle.rv_value.proofs.Lists.{all_got, on_err}
use Rattle.rv_cursor.specs.Left.{CursorFits}
use Rattle.rv_core.specs.Db.{stand_of}
use Rattle.rv_core.proofs.Facts.{any_ok}
use Rattle.rv_core.proofs.Handling.{parted_err, parted_ok, refused_fetch}
use Rattle.rv_core.proofs.Databases.{opens_fit, standing_set}
use Rattle.rv_core.proofs.Keeping.{sees_itself}
use Rattle.rv_core.proofs.Opens.{same_at}
use Rattle.rv_core.proofs.Turning.{part_given, part_more, part_moves, part_named, part_turns}
use Rattle.rv_core.proofs.database.Database.fetch_step.Goals as goal

pub fetch_step-requires : goal.fetch_step-requires
fetch_step-requires g c =
    let shown = g.S.Reader.shown c.self.inside.store in
    record { fits = all_got (CursorFits shown) c.self.inside.cursors c.in-Some.place c.at_mut.result.now (opens_fit shown c.self.inside.catalog c.self.inside.txns.active c.self.inside.cursors c.self.invariant.standing.opens) c.at_mut.ensures.value }

pub invariant_of-self : goal.invariant_of-self
invariant_of-self g c =
    record {
      standing = standing_set (g.S.Reader.shown c.self.inside.store) c.self.inside.catalog c.self.inside.txns c.self.inside.cursors c.self.inside.opened c.in-Some.place c.at_mut.result.now c.fetch_step.new.cursor c.at_mut.ensures.value c.fetch_step.ensures.fits c.fetch_step.ensures.same c.self.invariant.standing;
      views_kept = c.self.invariant.views_kept;
    }

pub returns-clause-sees : goal.returns-clause-sees
returns-clause-sees g c = rw (← c.self.view_is) (sees_itself _ _)

pub returns-clause-ok : goal.returns-clause-ok
returns-clause-ok g c =
    let shown = g.S.Reader.shown c.self.inside.store in
    let named = sym (c.cursor_named.ensures.seen shown) ∙ c.in-Some.is in
    rw (← c.self.view_is) (IfOk-weaker c.fetch_step.result _ _ (λ part takes. part_named c.self.inside.store shown c.self.inside.catalog c.self.inside.txns c.self.inside.cursors c.self.inside.opened c.args.session c.in-Some.place c.args.name.now c.at_mut.result.now c.fetch_step.new.cursor part named c.at_mut.ensures.value c.fetch_step.ensures.same takes) c.fetch_step.ensures.ok)

pub returns-clause-err : goal.returns-clause-err
returns-clause-err g c =
    let shown = g.S.Reader.shown c.self.inside.store in
    rw (← c.self.view_is) (on_err_weaker c.fetch_step.result (λ kept. ap (stand_of shown c.self.inside.catalog c.self.inside.txns) (same_at shown c.self.inside.cursors c.in-Some.place c.at_mut.result.now c.fetch_step.new.cursor c.at_mut.ensures.value c.fetch_step.ensures.same kept)) c.fetch_step.ensures.err)

pub returns-clause-moves : goal.returns-clause-moves
returns-clause-moves g c =
    let named = sym c.cursor_named.ensures.named ∙ c.in-Some.is in
    rw (← c.self.view_is, named) (IfOk-weaker c.fetch_step.result _ _ (λ part turn. part_more _ _ _ _ part (λ replies moves. (refl, moves)) (λ moves. (refl, (refl, moves))) (part_moves c.args.beside _ (g.S.Reader.shown c.self.inside.store) c.self.inside.cursors c.in-Some.place _ _ c.at_mut.result.now c.fetch_step.new.cursor part c.at_mut.ensures.value c.fetch_step.ensures.same c.fetch_step.ensures.held turn)) c.fetch_step.ensures.turn)

pub returns-clause-turn : goal.returns-clause-turn
returns-clause-turn g c =
    let named = sym c.cursor_named.ensures.named ∙ c.in-Some.is in
    rw (← c.self.view_is, named) (IfOk-weaker c.fetch_step.result _ _ (λ part turn. part_more _ _ _ _ part (λ replies moves. (refl, moves)) (λ works. works) (part_turns c.args.beside _ (g.S.Reader.shown c.self.inside.store) c.self.inside.cursors c.in-Some.place _ _ c.at_mut.result.now c.fetch_step.new.cursor part c.at_mut.ensures.value c.fetch_step.ensures.same turn)) c.fetch_step.ensures.turn)

pub returns-clause-refuses : goal.returns-clause-refuses
returns-clause-refuses g c refusal = IfOk-weaker c.fetch_step.result _ _ (λ part takes. part_more _ _ _ _ part (λ replies none e. absurd (none refusal e)) (λ works. works) (part_given (g.S.Reader.shown c.self.inside.store) c.at_mut.result.now c.fetch_step.new.cursor part takes)) c.fetch_step.ensures.ok

pub returns-clause-lost : goal.returns-clause-lost
returns-clause-lost g c =
    let named = sym c.cursor_named.ensures.named ∙ c.in-Some.is in
    rw (← c.self.view_is, named) (on_err c.fetch_step.result _ (refl, record { before = c.at_mut.result.now; after = c.fetch_step.new.cursor; here = c.at_mut.ensures.value; set = refl; same = c.fetch_step.ensures.same; moved = c.fetch_step.ensures.moves }))

pub returns-in_default-clause-ok : goal.returns-in_default-clause-ok
returns-in_default-clause-ok g c =
    let none = sym (c.cursor_named.ensures.seen (g.S.Reader.shown c.self.inside.store)) ∙ c.in_default.is in
    rw (← c.self.view_is, c.answered.ensures) (parted_ok c.no_cursor.result _ _ (IfOk-weaker c.no_cursor.result _ _ (λ replies k. refused_fetch _ c.args.session c.args.name.now replies none k) c.no_cursor.ensures))

pub returns-in_default-clause-moves : goal.returns-in_default-clause-moves
returns-in_default-clause-moves g c =
    let none = sym c.cursor_named.ensures.named ∙ c.in_default.is in
    rw (← c.self.view_is, c.answered.ensures, none) (parted_ok c.no_cursor.result _ _ (any_ok c.no_cursor.result _ (λ replies. refl)))

pub returns-in_default-clause-refuses : goal.returns-in_default-clause-refuses
returns-in_default-clause-refuses g c refusal = rw c.answered.ensures (parted_ok c.no_cursor.result _ _ (any_ok c.no_cursor.result _ (λ replies same. refl)))

pub returns-in_default-clause-turn : goal.returns-in_default-clause-turn
returns-in_default-clause-turn g c =
    let none = sym c.cursor_named.ensures.named ∙ c.in_default.is in
    rw (← c.self.view_is, c.answered.ensures, none) (parted_ok c.no_cursor.result _ _ (any_ok c.no_cursor.result _ (λ replies. refl)))

pub returns-in_default-clause-lost : goal.returns-in_default-clause-lost
returns-in_default-clause-lost g c =
    let none = sym c.cursor_named.ensures.named ∙ c.in_default.is in
    rw (← c.self.view_is, c.answered.ensures, none) (parted_err c.no_cursor.result _ (on_err c.no_cursor.result _ refl))
