use Rattle.std.proofs.Common.{◌≡◌, ◌+◌, ◌∙◌, ◌++◌, ◌∷◌, [], suc, Some, ap, arith, drop, filter, find, length, refl, subst, sym, take}
use Rattle.std.specs.Prelude.{slice_get}
use Rattle.std.specs.Option.{option_map}
use Rattle.std.proofs.lemmas.Option.{slice_get_read}
use Rattle.rv_value.specs.declared.record.Record.{Record}
use Rattle.rv_rows.specs.Rows.{Ascend, comes_below}
use Rattle.rv_rows.proofs.Puts.{rising_filter}
use Rattle.rv_reader.specs.Entries.{entries_of}
use Rattle.rv_model.specs.Rivals.{equals_lower}
use Rattle.rv_rivals.specs.Lookups.{is_whole}
use Rattle.rv_rivals.proofs.Entries.{take_next}
use Rattle.rv_rivals.proofs.Equals.{ascend_taken, find_here, find_next, lower_at}
use Rattle.rv_rivals.proofs.equal.equal_among.Goals as goal

pub meets-requires-clause-rows : goal.meets-requires-clause-rows
meets-requires-clause-rows c =
    let front = take c.rows.row-index c.args.rows.now in
    record {
      rows = filter (is_whole c.args.columns.now) front;
      ascend = rising_filter comes_below (is_whole c.args.columns.now) front (ascend_taken c.rows.row-index c.args.rows.now c.requires.ascend);
      are = c.rows.invariant.seen;
    }

pub returns-then-branch : goal.returns-then-branch
returns-then-branch c =
    let rows = c.args.rows.now in
    let k = c.rows.row-index in
    let item = c.row-item.result in
    let is : slice_get rows k ≡ Some item = slice_get_read rows (length rows) k item refl c.rows-test.true c.row-item.is in
    let next : take (suc k) rows ≡ take k rows ++ item ∷ [] = take_next rows k item is in
    let ascend : Ascend (take k rows ++ item ∷ []) = subst Ascend next (ascend_taken (suc k) rows c.requires.ascend) in
    let met = c.in_ok-meets.ensures.met (take k rows) ascend c.rows.invariant.seen in
    ap (option_map (λ (r : Record). r.row)) (find_here (equals_lower c.args.columns.now rows) rows k item (find (equals_lower c.args.columns.now rows) rows) is
    (lower_at c.args.columns.now rows k item c.requires.ascend is ∙ sym met ∙ c.if-branch.true) c.rows.invariant.left)

pub rows-preserved : goal.rows-preserved
rows-preserved c =
    let rows = c.args.rows.now in
    let k = c.rows.row-index in
    let item = c.row-item.result in
    let is : slice_get rows k ≡ Some item = slice_get_read rows (length rows) k item refl c.rows-test.true c.row-item.is in
    let more : suc k ≡ k + 1 = omega arith in
    let next : take (suc k) rows ≡ take k rows ++ item ∷ [] = take_next rows k item is in
    let ascend : Ascend (take k rows ++ item ∷ []) = subst Ascend next (ascend_taken (suc k) rows c.requires.ascend) in
    let met = c.in_ok-meets.ensures.met (take k rows) ascend c.rows.invariant.seen in
    record {
      seen = c.in_ok-meets.ensures.seen (take k rows) ascend c.rows.invariant.seen c.if-branch.false
          ∙ ap (λ xs. entries_of c.args.columns.now (filter (is_whole c.args.columns.now) xs)) (sym next ∙ ap (λ n. take n rows) more);
      left = ap (λ n. find (equals_lower c.args.columns.now rows) (drop n rows)) (sym more)
          ∙ find_next (equals_lower c.args.columns.now rows) rows k item (find (equals_lower c.args.columns.now rows) rows) is
          (lower_at c.args.columns.now rows k item c.requires.ascend is ∙ sym met ∙ c.if-branch.false) c.rows.invariant.left;
    }
