use Rattle.std.proofs.Common.{◌≡◌, drop, false, true}
use Rattle.rv_rows.specs.Merging.{begins}
use Rattle.rv_rows.proofs.Among.{IsPlace, inserted_among, set_among}
use Rattle.rv_rows.proofs.rows.put_among.Goals as goal

pub returns-then-stands_at-clause-ok : goal.returns-then-stands_at-clause-ok
returns-then-stands_at-clause-ok c =
    let place : IsPlace c.args.new.row.0 c.args.rows.now.items c.rows_below-place.result = record {
      front = rw c.as_slice.ensures.value at c.rows_below-place.ensures.front;
      back = rw c.as_slice.ensures.value at c.rows_below-place.ensures.back;
      ascend = c.requires;
    } in
    let same = c.as_slice-2.ensures.value in
    let is = c.stands_at.ensures in
    let told = c.if-stands_at.true in
    let starts : begins c.args.new.row.0 (drop c.rows_below-place.result c.args.rows.now.items) ≡ true = cc in
    rw c.replace-before.ensures.after (set_among c.args.new c.args.rows.now.items c.rows_below-place.result place starts)

pub returns-clause-ok : goal.returns-clause-ok
returns-clause-ok c =
    let place : IsPlace c.args.new.row.0 c.args.rows.now.items c.rows_below-place.result = record {
      front = rw c.as_slice.ensures.value at c.rows_below-place.ensures.front;
      back = rw c.as_slice.ensures.value at c.rows_below-place.ensures.back;
      ascend = c.requires;
    } in
    let same = c.as_slice-2.ensures.value in
    let is = c.stands_at.ensures in
    let told = c.if-stands_at.false in
    let starts : begins c.args.new.row.0 (drop c.rows_below-place.result c.args.rows.now.items) ≡ false = cc in
    rw c.in_ok-insert.ensures.items (inserted_among c.args.new c.args.rows.now.items c.rows_below-place.result place starts)
