use Rattle.std.proofs.Common.{◌≡◌, ◌∙◌, ◌+◌, ◌++◌, ◌∷◌, [], Err, List, Option, ℕ, ap, arith, sym, subst}
use Rattle.std.proofs.lemmas.Result.{IfOk-weaker}
use Rattle.rv_join.specs.Plans.{LeadsWith}
use Rattle.rv_model.specs.declared.state.Cursor.{Cursor}
use Rattle.rv_overlay.specs.declared.frozen.Frozen.{Frozen}
use Rattle.rv_cursor.specs.declared.cursor.Open.{Open}
use Rattle.rv_cursor.specs.Left.{seen_at}
use Rattle.rv_core.specs.Db.{base_of, seen}
use Rattle.rv_core.specs.Doing.{opening_base}
use Rattle.rv_core.specs.Obeying.{BeginsWithin}
use Rattle.rv_core.proofs.Calling.{opened_rows, opening_snapshot, opens_does, opens_refused}
use Rattle.rv_core.proofs.Databases.{fresh_open, opened_asked, opens_standing}
use Rattle.rv_core.proofs.Opens.{pushed_seen}
use Rattle.rv_core.proofs.Putting.{opens_viewed}
use Rattle.rv_core.proofs.database.Database.open.Goals as goal

pub returns-in-Err-Refused-clause-ok : goal.returns-in-Err-Refused-clause-ok
returns-in-Err-Refused-clause-ok g c =
    let shown = g.S.Reader.shown c.self.inside.store in
    let why : opening_base c.self.inside.txns.active (seen shown c.self.inside.cursors) c.args.session c.args.name ≡ Err c.in-Err-Refused.refusal = (rw c.in-Err-Refused.field-0-is at (c.in-Err-Refused.ensures.fault shown)) in
    rw (← c.self.view_is) (IfOk-weaker c.refused.result _ _ (λ replies k. opens_refused shown c.self.inside.catalog c.self.inside.txns (seen shown c.self.inside.cursors) c.args.session c.args.name c.args.select.now c.in-Err-Refused.refusal replies why k) c.refused.ensures)

pub plan_cursor-requires-clause-tied : goal.plan_cursor-requires-clause-tied
plan_cursor-requires-clause-tied g c =
    let shown = g.S.Reader.shown c.self.inside.store in (
      c.self.inside.txns,
      c.self.invariant.standing.tied,
      opens_viewed shown c.self.inside.catalog c.self.inside.txns (seen shown c.self.inside.cursors) c.args.session c.in-Ok.base c.args.name c.in-Ok-freeze.frozen c.self.invariant.standing.tied (c.in-Ok.ensures.ok shown) c.in-Ok-freeze.ensures.freezes,
    )

pub plan_cursor-requires-clause-query : goal.plan_cursor-requires-clause-query
plan_cursor-requires-clause-query g c = rw (← c.self.view_is) at c.requires.query

pub plan_cursor-requires-clause-base : goal.plan_cursor-requires-clause-base
plan_cursor-requires-clause-base g c = opening_snapshot (g.S.Reader.shown c.self.inside.store) c.self.inside.catalog c.self.inside.txns (seen (g.S.Reader.shown c.self.inside.store) c.self.inside.cursors) c.args.session c.in-Ok.base c.args.name c.self.invariant.standing.tied (c.in-Ok.ensures.ok (g.S.Reader.shown c.self.inside.store))

pub invariant_of-self-2 : goal.invariant_of-self-2
invariant_of-self-2 g c =
    let shown = g.S.Reader.shown c.self.inside.store in
    let fresh = fresh_open shown c.self.inside.catalog c.self.inside.txns (seen shown c.self.inside.cursors) c.args.session c.in-Ok.base c.args.name c.in-Ok-plan_cursor.cursor (c.in-Ok.ensures.ok shown) c.in-Ok-plan_cursor.ensures.session c.in-Ok-plan_cursor.ensures.snap c.in-Ok-plan_cursor.ensures.fits c.in-Ok-plan_cursor.ensures.over in
    record {
      standing = opens_standing shown c.self.inside.catalog c.self.inside.txns c.self.inside.cursors c.push.new.self c.in-Ok-plan_cursor.cursor c.self.inside.opened c.in-Ok-push.ensures.ok c.in-Ok-plan_cursor.ensures.number (let own = c.in-Ok-plan_cursor.ensures.session in omega (arith, own)) (rw c.in-Ok-plan_cursor.ensures.session c.in-Ok.ensures.room) fresh c.self.invariant.standing;
      views_kept = c.freeze.ensures.views;
    }

pub returns-clause-ok : goal.returns-clause-ok
returns-clause-ok g c =
    let shown = g.S.Reader.shown c.self.inside.store in
    let query = rw (← c.self.view_is) at c.requires.query in
    let pushed = pushed_seen shown c.self.inside.cursors c.push.new.self c.in-Ok-plan_cursor.cursor c.in-Ok-push.ensures.ok ∙ ap (λ (d : Cursor). seen shown c.self.inside.cursors ++ d ∷ []) c.in-Ok-plan_cursor.ensures.seen in
    rw (← c.self.view_is) (opens_does shown c.self.inside.catalog c.self.inside.txns (seen shown c.self.inside.cursors) (seen shown c.push.new.self) c.args.session c.in-Ok.base c.args.name c.args.select.now c.in-Ok-freeze.frozen (c.in-Ok.ensures.ok shown) query.there c.in-Ok-freeze.ensures.freezes pushed)

pub returns-clause-adds : goal.returns-clause-adds
returns-clause-adds g c judge opened =
    let shown = g.S.Reader.shown c.self.inside.store in
    let cursor = c.in-Ok-plan_cursor.cursor in
    let fresh = fresh_open shown c.self.inside.catalog c.self.inside.txns (seen shown c.self.inside.cursors) c.args.session c.in-Ok.base c.args.name cursor (c.in-Ok.ensures.ok shown) c.in-Ok-plan_cursor.ensures.session c.in-Ok-plan_cursor.ensures.snap c.in-Ok-plan_cursor.ensures.fits c.in-Ok-plan_cursor.ensures.over in
    let at = c.in-Ok-plan_cursor.ensures.snap in
    let over = c.in-Ok-plan_cursor.ensures.frozen in
    let query = rw (← c.self.view_is) at c.requires.query in
    rw (← c.self.view_is) record {
      cursor = cursor;
      added = ap (λ (cs : List Open). record { opens = cs; opened = c.self.inside.opened + 1; judge = judge }) c.in-Ok-push.ensures.ok;
      owner = c.in-Ok-plan_cursor.ensures.session;
      called = c.in-Ok-plan_cursor.ensures.name;
      number = c.in-Ok-plan_cursor.ensures.number;
      base = ap (λ (s : ℕ). base_of c.self.inside.txns.active s) (sym c.in-Ok-plan_cursor.ensures.session) ∙ fresh.base;
      asked = opened_asked c.args.select.now c.self.inside.catalog.indexes c.in-Ok.base c.self.inside.opened cursor at c.in-Ok-plan_cursor.ensures.number c.in-Ok-plan_cursor.ensures.asked;
      raced = c.in-Ok-plan_cursor.ensures.race;
      rows = opened_rows shown c.self.inside.catalog c.self.inside.txns (seen shown c.self.inside.cursors) c.args.session c.in-Ok.base c.args.name c.args.select.now.tables c.in-Ok-freeze.frozen cursor c.self.invariant.standing.tied (c.in-Ok.ensures.ok shown) at over c.in-Ok-freeze.ensures.freezes query.there;
      fits = c.in-Ok-plan_cursor.ensures.fits;
      leads = subst (λ (f : Option Frozen). LeadsWith (seen_at shown cursor.snap f) cursor.plan) (sym over) (subst (λ (n : ℕ). LeadsWith (seen_at shown n c.in-Ok-freeze.frozen) cursor.plan) (sym at) c.in-Ok-plan_cursor.ensures.leads);
      stage = c.in-Ok-plan_cursor.ensures.stage;
      bounds = subst (λ (f : Option Frozen). BeginsWithin (seen_at shown cursor.snap f) c.args.select.now c.self.inside.catalog.indexes cursor.snap cursor.plan) (sym over)
          (subst (λ (n : ℕ). BeginsWithin (seen_at shown n c.in-Ok-freeze.frozen) c.args.select.now c.self.inside.catalog.indexes n cursor.plan) (sym at) c.in-Ok-plan_cursor.ensures.bounds);
    }
