use Rattle.std.proofs.Common.{◌<◌, length, take, drop, arith, sym, subst}
use Rattle.std.proofs.lemmas.List.{take-append-drop}
use Rattle.rv_jscan.specs.Entries.{Apart}
use Rattle.rv_jscan.proofs.Parts.{Apart-right}
use Rattle.rv_jscan.proofs.Marks.{no_entry}
use Rattle.rv_jscan.proofs.Kept.{add_step, fresh_here, fresh_step}
use Rattle.rv_jscan.proofs.keeping.add_passing.Goals as goal

pub entries-preserved : goal.entries-preserved
entries-preserved g c =
    let entries = c.args.entries.now in
    let i = c.entries.i in
    let below : i < length entries = omega arith in
    let d = no_entry in
    let row = c.row_at.ensures d in
    let passed = c.passes_at.ensures d in
    let keys = c.add_one.ensures.keys in
    let apart : Apart (drop i entries) = Apart-right (take i entries) (drop i entries) (subst Apart (sym (take-append-drop i entries)) c.requires.apart) in
    record {
      here = omega arith;
      still_open = c.add_one.ensures.open;
      room = omega (arith, c.add_one.ensures.spare, c.entries.invariant.room);
      keys = add_step (g.T.Admits.admits c.args.test.now) c.args.part.now entries i c.args.building.now.keys c.entries.building.keys c.add_one.new.building.keys c.passes_at.result c.row_at.result d below row passed c.entries.invariant.keys keys;
      fresh = fresh_step entries i c.entries.building.keys c.add_one.new.building.keys _ c.row_at.result d below row apart c.entries.invariant.fresh keys;
    }

pub add_one-requires-clause-fresh : goal.add_one-requires-clause-fresh
add_one-requires-clause-fresh g c =
    let entries = c.args.entries.now in
    let below : c.entries.i < length entries = omega arith in
    fresh_here entries c.entries.i c.entries.building.keys c.row_at.result no_entry below (c.row_at.ensures no_entry) c.entries.invariant.fresh
