use Rattle.std.proofs.Common.{List, IfOk, ◌≡◌, ◌∙◌, inl, refl, subst, sym}
use Rattle.rv_value.specs.declared.record.Record.{Record}
use Rattle.rv_value.proofs.Tests.{no_other, no_way}
use Rattle.rv_core.proofs.Searching.{asks_long, search_met}
use Rattle.rv_core.proofs.storing.found_by.Goals as goal

pub rows_seen-requires-clause-lays : goal.rows_seen-requires-clause-lays
rows_seen-requires-clause-lays g c = (c.requires.search c.if-narrows.true).lays

pub rows_seen-requires-clause-can : goal.rows_seen-requires-clause-can
rows_seen-requires-clause-can g c = (c.requires.search c.if-narrows.true).can

pub returns-then-narrows-clause-rows : goal.returns-then-narrows-clause-rows
returns-then-narrows-clause-rows g c =
    let shown = g.S.Reader.shown c.args.store.now in
    subst (λ (found : List Record). IfOk c.rows_seen.result (λ rows. rows.items ≡ found)) (search_met shown c.args.own.now c.args.view.now c.args.table c.args.only.now c.args.indexes c.requires.change (c.requires.search c.if-narrows.true)) c.rows_seen.ensures.rows

pub returns-then-narrows-clause-asks : goal.returns-then-narrows-clause-asks
returns-then-narrows-clause-asks g c =
    let shown = g.S.Reader.shown c.args.store.now in
    asks_long _ shown c.args.own.now c.args.table c.args.only.now c.args.indexes c.args.view.now _ _ (c.requires.search c.if-narrows.true).frozen c.rows_seen.ensures.ran c.rows_seen.ensures.unasked

pub returns-then-narrows-clause-quiet : goal.returns-then-narrows-clause-quiet
returns-then-narrows-clause-quiet g c = λ none. no_way (sym c.if-narrows.true ∙ none)

pub returns-then-narrows-clause-searched : goal.returns-then-narrows-clause-searched
returns-then-narrows-clause-searched g c = λ narrowed. c.rows_seen.ensures.fetched

pub returns-then-narrows-clause-pages : goal.returns-then-narrows-clause-pages
returns-then-narrows-clause-pages g c = λ none. no_way (sym c.if-narrows.true ∙ none)

pub returns-else-narrows-clause-asks : goal.returns-else-narrows-clause-asks
returns-else-narrows-clause-asks g c = inl refl

pub returns-else-narrows-clause-searched : goal.returns-else-narrows-clause-searched
returns-else-narrows-clause-searched g c = λ narrowed. no_other (sym c.if-narrows.false ∙ narrowed)

pub returns-else-narrows-clause-pages : goal.returns-else-narrows-clause-pages
returns-else-narrows-clause-pages g c = λ none. c.met_rows.ensures.only
