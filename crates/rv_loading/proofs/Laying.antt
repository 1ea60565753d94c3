-- What the calls of a store leave of its layout.
use Rattle.std.proofs.Common.{ℕ, ◌<◌, ◌≤◌, ◌+◌, List, refl, sym, ap, ◌∙◌, arith, inl, inr, subst}
use Rattle.std.proofs.lemmas.Bool.{cases_eq}
use Rattle.rv_rows.specs.declared.changes.Change.{Change}
use Rattle.rv_reader.specs.Shown.{Shown, CanRead, CanScan}
use Rattle.rv_reader.specs.Storing.{AreColumns, IsSame, Created, Indexed, Committed, Swept}
use Rattle.rv_loading.specs.declared.schema.Layout.{Layout}
use Rattle.rv_loading.specs.declared.schema.Schema.{Schema}
use Rattle.rv_loading.specs.Laid.{Counted, IsEmpty, Laid, over_at}

-- what is left as it is
pub same_itself : (shown : Shown) → IsSame shown shown
same_itself shown = record {
  tables = refl;
  indexes = refl;
  horizon = refl;
  newest = refl;
  stays = record {
    columns = λ table l. refl;
    over = λ index l. refl;
    keys = λ index l. refl;
    rows = λ table snap can is. refl;
    pages = λ table snap can is. refl;
    entries = λ index snap can is. refl;
    cuts = λ index snap can is. refl;
    estimates = λ index snap range can is. refl;
  };
}

pub laid_none : (schema : Schema) (shown : Shown) → IsEmpty shown → Laid schema (record { tables = 0; indexes = 0; horizon = 0; newest = 0 }) shown
laid_none schema shown empty = record {
  counts = record { tables = empty.tables; indexes = empty.indexes; horizon = empty.horizon; newest = empty.newest };
  width = λ table l. absurd (omega (arith, l));
  over = λ index l. absurd (omega (arith, l));
  keys = λ index l. absurd (omega (arith, l));
}

pub laid_same : (schema : Schema) (layout : Layout) (old new : Shown) → IsSame old new → Laid schema layout old → Laid schema layout new
laid_same schema layout old new same laid = record {
  counts = record {
    tables = same.tables ∙ laid.counts.tables;
    indexes = same.indexes ∙ laid.counts.indexes;
    horizon = same.horizon ∙ laid.counts.horizon;
    newest = same.newest ∙ laid.counts.newest;
  };
  width = λ table l. same.stays.columns table (let n = laid.counts.tables in omega arith) ∙ laid.width table l;
  over = λ index l. same.stays.over index (let n = laid.counts.indexes in omega arith) ∙ laid.over index l;
  keys = λ index l. same.stays.keys index (let n = laid.counts.indexes in omega arith) ∙ laid.keys index l;
}

pub laid_created : (schema : Schema) (layout : Layout) (old new : Shown) → Created old new schema.width → Laid schema layout old → Laid schema (record layout { tables = layout.tables + 1 }) new
laid_created schema layout old new created laid = record {
  counts = record {
    tables = created.tables ∙ ap (λ n. n + 1) laid.counts.tables;
    indexes = created.indexes ∙ laid.counts.indexes;
    horizon = created.horizon ∙ laid.counts.horizon;
    newest = created.newest ∙ laid.counts.newest;
  };
  width = λ table l. elim (cases_eq table layout.tables) [
    | inl e ↦ ap new.columns (e ∙ sym laid.counts.tables) ∙ created.width
    | inr other ↦ created.stays.columns table (let n = laid.counts.tables in omega arith) ∙ laid.width table (omega arith)
  ];
  over = λ index l. created.stays.over index (let n = laid.counts.indexes in omega arith) ∙ laid.over index l;
  keys = λ index l. created.stays.keys index (let n = laid.counts.indexes in omega arith) ∙ laid.keys index l;
}

pub laid_indexed : (schema : Schema) (layout : Layout) (old new : Shown) → Indexed old new (over_at schema.indexes layout.indexes).table (over_at schema.indexes layout.indexes).columns → Laid schema layout old → Laid schema (record layout { indexes = layout.indexes + 1 }) new
laid_indexed schema layout old new indexed laid = record {
  counts = record {
    tables = indexed.tables ∙ laid.counts.tables;
    indexes = indexed.indexes ∙ ap (λ n. n + 1) laid.counts.indexes;
    horizon = indexed.horizon ∙ laid.counts.horizon;
    newest = indexed.newest ∙ laid.counts.newest;
  };
  width = λ table l. indexed.stays.columns table (let n = laid.counts.tables in omega arith) ∙ laid.width table l;
  over = λ index l. elim (cases_eq index layout.indexes) [
    | inl e ↦ ap new.over (e ∙ sym laid.counts.indexes) ∙ indexed.over ∙ ap (λ i. (over_at schema.indexes i).table) (sym e)
    | inr other ↦ indexed.stays.over index (let n = laid.counts.indexes in omega arith) ∙ laid.over index (omega arith)
  ];
  keys = λ index l. elim (cases_eq index layout.indexes) [
    | inl e ↦ ap new.keys (e ∙ sym laid.counts.indexes) ∙ indexed.keys ∙ ap (λ i. (over_at schema.indexes i).columns) (sym e)
    | inr other ↦ indexed.stays.keys index (let n = laid.counts.indexes in omega arith) ∙ laid.keys index (omega arith)
  ];
}

pub laid_committed : (schema : Schema) (layout : Layout) (changes : List Change) (old new : Shown) → Committed old new changes → Laid schema layout old → Laid schema (record layout { newest = layout.newest + 1 }) new
laid_committed schema layout changes old new done laid = record {
  counts = record {
    tables = done.tables ∙ laid.counts.tables;
    indexes = done.indexes ∙ laid.counts.indexes;
    horizon = done.horizon ∙ laid.counts.horizon;
    newest = done.newest ∙ ap (λ n. n + 1) laid.counts.newest;
  };
  width = λ table l. done.stays.columns table (let n = laid.counts.tables in omega arith) ∙ laid.width table l;
  over = λ index l. done.stays.over index (let n = laid.counts.indexes in omega arith) ∙ laid.over index l;
  keys = λ index l. done.stays.keys index (let n = laid.counts.indexes in omega arith) ∙ laid.keys index l;
}

pub laid_swept : (schema : Schema) (layout : Layout) (horizon : ℕ) (old new : Shown) → Swept old new horizon → Laid schema layout old → Laid schema (record layout { horizon = horizon }) new
laid_swept schema layout horizon old new swept laid = record {
  counts = record {
    tables = swept.tables ∙ laid.counts.tables;
    indexes = swept.indexes ∙ laid.counts.indexes;
    horizon = swept.moved;
    newest = swept.newest ∙ laid.counts.newest;
  };
  width = λ table l. swept.stays.columns table (let n = laid.counts.tables in omega arith) ∙ laid.width table l;
  over = λ index l. swept.stays.over index (let n = laid.counts.indexes in omega arith) ∙ laid.over index l;
  keys = λ index l. swept.stays.keys index (let n = laid.counts.indexes in omega arith) ∙ laid.keys index l;
}

pub can_read : (layout : Layout) (shown : Shown) (table snap : ℕ) → Counted layout shown → table < layout.tables → layout.horizon ≤ snap → snap ≤ layout.newest → CanRead shown table snap
can_read layout shown table snap laid there kept known = record {
  there = (let n = laid.tables in omega arith);
  snapshot = record { kept = (let h = laid.horizon in omega arith); known = (let n = laid.newest in omega arith) };
}

pub can_scan : (layout : Layout) (shown : Shown) (index snap : ℕ) → Counted layout shown → index < layout.indexes → layout.horizon ≤ snap → snap ≤ layout.newest → CanScan shown index snap
can_scan layout shown index snap laid there kept known = record {
  there = (let n = laid.indexes in omega arith);
  snapshot = record { kept = (let h = laid.horizon in omega arith); known = (let n = laid.newest in omega arith) };
}

pub fits_columns : (schema : Schema) (layout : Layout) (shown : Shown) (table : ℕ) (columns : List ℕ) → Laid schema layout shown → table < layout.tables → AreColumns schema.width columns → AreColumns (shown.columns table) columns
fits_columns schema layout shown table columns laid there are = subst (λ width. AreColumns width columns) (sym (laid.width table there)) are
