use Rattle.std.proofs.Common.{◌∙◌, ap, refl, sym}
use Rattle.std.proofs.lemmas.Result.{IfOk-weaker, on_err_weaker}
use Rattle.rv_value.proofs.Lists.{all_got, on_err}
use Rattle.rv_cursor.specs.Left.{CursorFits, left}
use Rattle.rv_core.specs.Db.{stand_of}
use Rattle.rv_core.proofs.Facts.{any_ok, on_ok}
use Rattle.rv_core.proofs.Handling.{refused_fetch}
use Rattle.rv_core.proofs.Databases.{opens_fit, standing_set}
use Rattle.rv_core.proofs.Keeping.{sees_itself}
use Rattle.rv_core.proofs.Opens.{same_at, takes_no_refusal}
use Rattle.rv_core.proofs.Turning.{fetches_named}
use Rattle.rv_core.proofs.database.Database.fetch.Goals as goal

pub fetch-requires : goal.fetch-requires
fetch-requires g c =
    let shown = g.S.Reader.shown c.self.inside.store in
    record { fits = all_got (CursorFits shown) c.self.inside.cursors c.in-Some.place c.at_mut.result.now (opens_fit shown c.self.inside.catalog c.self.inside.txns.active c.self.inside.cursors c.self.invariant.standing.opens) c.at_mut.ensures.value }

pub invariant_of-self : goal.invariant_of-self
invariant_of-self g c =
    record {
      standing = standing_set (g.S.Reader.shown c.self.inside.store) c.self.inside.catalog c.self.inside.txns c.self.inside.cursors c.self.inside.opened c.in-Some.place c.at_mut.result.now c.fetch.new.cursor c.at_mut.ensures.value c.fetch.ensures.fits c.fetch.ensures.same c.self.invariant.standing;
      views_kept = c.self.invariant.views_kept;
    }

pub returns-clause-sees : goal.returns-clause-sees
returns-clause-sees g c = rw (← c.self.view_is) (sees_itself _ _)

pub returns-clause-ok : goal.returns-clause-ok
returns-clause-ok g c =
    let shown = g.S.Reader.shown c.self.inside.store in
    let named = sym (c.cursor_named.ensures.seen shown) ∙ c.in-Some.is in
    rw (← c.self.view_is) (IfOk-weaker c.fetch.result _ _ (λ replies takes. fetches_named shown c.self.inside.catalog c.self.inside.txns c.self.inside.cursors c.args.session c.in-Some.place c.args.name.now c.at_mut.result.now c.fetch.new.cursor replies named c.at_mut.ensures.value c.fetch.ensures.same takes) c.fetch.ensures.ok)

pub returns-clause-err : goal.returns-clause-err
returns-clause-err g c =
    let shown = g.S.Reader.shown c.self.inside.store in
    rw (← c.self.view_is) (on_err_weaker c.fetch.result (λ kept. ap (stand_of shown c.self.inside.catalog c.self.inside.txns) (same_at shown c.self.inside.cursors c.in-Some.place c.at_mut.result.now c.fetch.new.cursor c.at_mut.ensures.value c.fetch.ensures.same kept)) c.fetch.ensures.err)

pub returns-clause-moves : goal.returns-clause-moves
returns-clause-moves g c =
    let named = sym c.cursor_named.ensures.named ∙ c.in-Some.is in
    rw (← c.self.view_is, named) (on_ok c.fetch.result _ _ (λ replies turns. (refl, record { before = c.at_mut.result.now; after = c.fetch.new.cursor; here = c.at_mut.ensures.value; set = refl; same = c.fetch.ensures.same; moved = record { turns = turns; held = c.fetch.ensures.held } })) c.fetch.ensures.turns)

pub returns-clause-refuses : goal.returns-clause-refuses
returns-clause-refuses g c refusal =
    let shown = g.S.Reader.shown c.self.inside.store in
    IfOk-weaker c.fetch.result _ _ (λ replies takes e. absurd (takes_no_refusal (left shown c.at_mut.result.now) replies (left shown c.fetch.new.cursor) takes refusal e)) c.fetch.ensures.ok

pub returns-clause-lost : goal.returns-clause-lost
returns-clause-lost g c =
    let named = sym c.cursor_named.ensures.named ∙ c.in-Some.is in
    rw (← c.self.view_is, named) (on_err c.fetch.result _ (refl, record { before = c.at_mut.result.now; after = c.fetch.new.cursor; here = c.at_mut.ensures.value; set = refl; same = c.fetch.ensures.same; moved = c.fetch.ensures.moves }))

pub returns-in_default-clause-ok : goal.returns-in_default-clause-ok
returns-in_default-clause-ok g c =
    let none = sym (c.cursor_named.ensures.seen (g.S.Reader.shown c.self.inside.store)) ∙ c.in_default.is in
    rw (← c.self.view_is) (IfOk-weaker c.no_cursor.result _ _ (λ replies k. refused_fetch _ c.args.session c.args.name.now replies none k) c.no_cursor.ensures)

pub returns-in_default-clause-moves : goal.returns-in_default-clause-moves
returns-in_default-clause-moves g c =
    let none = sym c.cursor_named.ensures.named ∙ c.in_default.is in
    rw (← c.self.view_is, none) (any_ok c.no_cursor.result _ (λ replies. refl))

pub returns-in_default-clause-refuses : goal.returns-in_default-clause-refuses
returns-in_default-clause-refuses g c refusal = any_ok c.no_cursor.result _ (λ replies same. refl)

pub returns-in_default-clause-lost : goal.returns-in_default-clause-lost
returns-in_default-clause-lost g c =
    let none = sym c.cursor_named.ensures.named ∙ c.in_default.is in
    rw (← c.self.view_is, none) (on_err c.no_cursor.result _ refl)
