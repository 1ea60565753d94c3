use Rattle.std.proofs.Common.{ℕ, ◌∙◌, ◌≤◌, List, inl, length, refl, subst, sym, ap}
use Rattle.std.specs.List.{AllByRecursion}
use Rattle.rv_catalog.specs.declared.def.IndexDef.{IndexDef}
use Rattle.rv_choice.specs.Asked.{CanAsk}
use Rattle.rv_join.specs.Asking.{indexes_from}
use Rattle.rv_search.specs.Searching.{any_narrows, search_of}
use Rattle.rv_cursor.specs.Left.{seen_at}
use Rattle.rv_core.proofs.Putting.{are_indexes}
use Rattle.rv_core.proofs.Searching.{can_met, can_search, few_columns, finds_by, may_ask, search_freezes, search_viewed}
use Rattle.rv_core.proofs.Viewing.{lays_some}
use Rattle.rv_core.proofs.storing.met_by.Goals as goal

pub any_narrows-requires : goal.any_narrows-requires
any_narrows-requires g c =
    let shown = g.S.Reader.shown c.args.store.now in
    let indexed = are_indexes shown c.args.catalog.now c.args.txns.now c.requires.tied c.last-newest.ensures.stored in
    let few = few_columns c.args.table 0 c.args.catalog.now.indexes indexed.columns in
    let same = c.as_slice.ensures ∙ c.in_ok-indexes.ensures ∙ ap (λ (ds : List IndexDef). indexes_from c.args.table 0 ds) c.indexes.ensures.same in
    subst (AllByRecursion (λ (i : ℕ × List ℕ). length i.1 ≤ 4)) (sym same) few

pub found_by-requires-clause-change : goal.found_by-requires-clause-change
found_by-requires-clause-change g c = can_met (g.S.Reader.shown c.args.store.now) c.args.catalog.now c.args.txns.now c.args.session c.args.table c.args.only.now c.args.own.now c.requires.tied c.requires.there c.requires.over c.requires.writes

pub found_by-requires-clause-search : goal.found_by-requires-clause-search
found_by-requires-clause-search g c = λ narrowed.
    let shown = g.S.Reader.shown c.args.store.now in
    let own = c.args.own.now in
    let freezes = c.in_ok-view.ensures.freezes narrowed in
    let viewed = search_viewed shown c.args.catalog.now c.args.txns.now c.args.session own c.in_ok-view.view c.requires.tied c.requires.writes freezes in
    let met = can_met shown c.args.catalog.now c.args.txns.now c.args.session c.args.table c.args.only.now own c.requires.tied c.requires.there c.requires.over c.requires.writes in
    let same = c.in_ok-indexes.ensures ∙ ap (λ (ds : List IndexDef). indexes_from c.args.table 0 ds) c.indexes.ensures.same in
    record {
      frozen = search_freezes shown c.args.txns.now c.args.session own c.in_ok-view.view c.requires.writes freezes;
      lays = lays_some shown c.args.txns.now.touched own.base c.in_ok-view.view c.last-newest.ensures.stored viewed;
      can = subst (λ (indexes : List (ℕ × List ℕ)). CanAsk (search_of c.args.table own.base c.args.only.now indexes) (seen_at shown own.base c.in_ok-view.view)) (sym same)
          (can_search shown c.args.catalog.now c.args.txns.now c.args.table own.base c.args.only.now c.in_ok-view.view c.requires.tied c.last-newest.ensures.stored met.rows c.requires.there c.requires.over c.indexes.ensures.room viewed);
    }

pub returns-in_err-indexes-clause-asks : goal.returns-in_err-indexes-clause-asks
returns-in_err-indexes-clause-asks g c = inl refl

pub returns-in_err-narrows-clause-asks : goal.returns-in_err-narrows-clause-asks
returns-in_err-narrows-clause-asks g c = inl refl

pub returns-in_err-view-clause-asks : goal.returns-in_err-view-clause-asks
returns-in_err-view-clause-asks g c = inl refl

pub returns-clause-asks : goal.returns-clause-asks
returns-clause-asks g c =
    let shown = g.S.Reader.shown c.args.store.now in
    let same = c.in_ok-indexes.ensures ∙ ap (λ (ds : List IndexDef). indexes_from c.args.table 0 ds) c.indexes.ensures.same in
    may_ask _ _ _ shown c.args.catalog.now.indexes c.args.txns.now.active c.args.session c.args.table c.args.only.now c.args.own.now c.in_ok-indexes.indexes c.in_ok-narrows.narrows c.requires.writes same (c.in_ok-narrows.ensures ∙ ap (λ (ds : List (ℕ × List ℕ)). any_narrows c.args.only.now ds) c.as_slice.ensures) c.found_by.ensures.quiet c.found_by.ensures.asks

pub returns-clause-found : goal.returns-clause-found
returns-clause-found g c =
    let shown = g.S.Reader.shown c.args.store.now in
    let same = c.in_ok-indexes.ensures ∙ ap (λ (ds : List IndexDef). indexes_from c.args.table 0 ds) c.indexes.ensures.same in
    finds_by c.found_by.result (λ rows. length rows.items) _ _ _ shown c.args.catalog.now.indexes c.args.txns.now.active c.args.session c.args.table c.args.only.now c.args.own.now c.in_ok-indexes.indexes c.in_ok-view.view _ _ c.in_ok-narrows.narrows c.requires.writes same (c.in_ok-narrows.ensures ∙ ap (λ (ds : List (ℕ × List ℕ)). any_narrows c.args.only.now ds) c.as_slice.ensures) c.new-steps.ensures (λ narrowed. search_freezes shown c.args.txns.now c.args.session c.args.own.now c.in_ok-view.view c.requires.writes (c.in_ok-view.ensures.freezes narrowed)) c.found_by.ensures.searched
