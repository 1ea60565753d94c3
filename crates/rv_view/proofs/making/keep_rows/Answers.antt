use Rattle.std.proofs.Common.{◌≡◌, ◌<◌, ◌∙◌, ap, arith, subst, sym}
use Rattle.rv_rows.specs.declared.changes.Change.{Change}
use Rattle.rv_rows.specs.Changes.{Rise}
use Rattle.std.specs.Option.{option_copied}
use Rattle.rv_rows.specs.Rising.{put_in}
use Rattle.rv_overlay.specs.Overlaid.{size_of}
use Rattle.rv_overlay.proofs.Runs.{change_before, change_first}
use Rattle.rv_view.proofs.Changing.{kept_change, next_low, next_rise, pages_before, rows_ready}
use Rattle.rv_view.proofs.Written.{written_rise}
use Rattle.rv_view.proofs.making.keep_rows.Goals as goal

pub keep_size-requires-clause-rise : goal.keep_size-requires-clause-rise
keep_size-requires-clause-rise g c = next_rise c.args.change.now c.args.frozen.now.changes c.args.written.now c.keep_written.new.written c.requires.keeps.rise c.requires.keeps.told c.in_ok-keep_written.ensures

pub keep_size-requires-clause-low : goal.keep_size-requires-clause-low
keep_size-requires-clause-low g c = next_low c.args.change.now c.args.frozen.now.changes c.args.written.now c.keep_written.new.written c.requires.keeps.low c.requires.low c.requires.keeps.told c.in_ok-keep_written.ensures

pub keep_size-requires-clause-rows : goal.keep_size-requires-clause-rows
keep_size-requires-clause-rows g c =
    let shown = g.R.Reader.shown c.args.reader.now in
    let change = c.args.change.now in
    let f = c.args.frozen.now in
    let told = c.sizes_at-size.ensures.pages in
    let fits = c.sizes_at-size.ensures.small in
    let small : shown.pages change.table f.base < 4294967296 = omega (arith, told, fits) in
    let ready = rows_ready (shown.rows change.table f.base) (shown.pages change.table f.base) c.sizes_at-size.result.rows change f.changes (option_copied c.args.base) (option_copied c.args.old) (size_of change.table f.sizes) c.sizes_at-size.ensures.table small c.requires.keeps.rise c.requires.keeps.low
    (c.requires.keeps.sized change.table c.requires.can) (c.requires.keeps.others change.table) c.sizes_at-size.ensures.rows c.requires.base c.requires.before in
    ready.less

pub keep_size-requires-clause-few : goal.keep_size-requires-clause-few
keep_size-requires-clause-few g c =
    let shown = g.R.Reader.shown c.args.reader.now in
    let change = c.args.change.now in
    let f = c.args.frozen.now in
    let told = c.sizes_at-size.ensures.pages in
    let fits = c.sizes_at-size.ensures.small in
    let small : shown.pages change.table f.base < 4294967296 = omega (arith, told, fits) in
    let ready = rows_ready (shown.rows change.table f.base) (shown.pages change.table f.base) c.sizes_at-size.result.rows change f.changes (option_copied c.args.base) (option_copied c.args.old) (size_of change.table f.sizes) c.sizes_at-size.ensures.table small c.requires.keeps.rise c.requires.keeps.low
    (c.requires.keeps.sized change.table c.requires.can) (c.requires.keeps.others change.table) c.sizes_at-size.ensures.rows c.requires.base c.requires.before in
    ready.few

pub returns-clause-keeps : goal.returns-clause-keeps
returns-clause-keeps g c =
    let shown = g.R.Reader.shown c.args.reader.now in
    let change = c.args.change.now in
    let f = c.args.frozen.now in
    let size = c.sizes_at-size.result in
    let rise = subst Rise (sym c.requires.keeps.told) (written_rise f.changes c.requires.keeps.rise) in
    let before = pages_before (shown.rows change.table f.base) (shown.pages change.table f.base) size.pages change f.changes c.args.written.now (size_of change.table f.sizes) c.requires.keeps.rise
    (c.requires.keeps.sized change.table c.requires.can) (c.requires.keeps.others change.table) c.sizes_at-size.ensures.pages c.requires.keeps.told in
    let sizes = c.in_ok-keep_size.ensures c.args.written.now rise c.in_ok-keep_written.ensures before in
    let changes = c.in_ok-put.ensures.ok ∙ ap (λ (x : Change). put_in change_before x f.changes) c.in_ok-copy.ensures in
    kept_change shown c.args.indexes.now change f c.args.written.now c.keep_written.new.written (option_copied c.args.base) (option_copied c.args.old) (option_copied c.args.new) size.rows size.pages c.put.new.self c.keep_size.new.sizes c.keep_parts.new.parts
    c.requires.indexes c.requires.can c.sizes_at-size.ensures.table c.sizes_at-size.ensures.small c.requires.low c.requires.keeps
    c.requires.base c.requires.before c.requires.after c.sizes_at-size.ensures.rows c.sizes_at-size.ensures.pages c.in_ok-keep_parts.ensures c.in_ok-keep_written.ensures sizes changes

pub returns-clause-changes : goal.returns-clause-changes
returns-clause-changes g c = c.in_ok-put.ensures.ok ∙ ap (λ (x : Change). put_in change_before x c.args.frozen.now.changes) c.in_ok-copy.ensures ∙ ap (λ p. put_in p c.args.change.now c.args.frozen.now.changes) change_first
