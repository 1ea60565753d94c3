use Rattle.std.proofs.Common.{◌≡◌, sym, ap, ◌∙◌}
use Rattle.std.specs.Option.{option_copied}
use Rattle.rv_overlay.proofs.Tabling.{size_other}
use Rattle.rv_overlay.proofs.rows.sizes_over.Goals as goal

pub returns-in-None-clause-pages : goal.returns-in-None-clause-pages
returns-in-None-clause-pages g c =
    (size_other _ _ c.args.table c.args.frozen.now c.sizes.result.pages c.sizes.result.rows c.requires.lays (sym c.size_of.ensures ∙ ap option_copied c.in-None.is)
    c.sizes.ensures.pages c.sizes.ensures.rows c.sizes.ensures.table).pages_are

pub returns-in-None-clause-rows : goal.returns-in-None-clause-rows
returns-in-None-clause-rows g c =
    (size_other _ _ c.args.table c.args.frozen.now c.sizes.result.pages c.sizes.result.rows c.requires.lays (sym c.size_of.ensures ∙ ap option_copied c.in-None.is)
    c.sizes.ensures.pages c.sizes.ensures.rows c.sizes.ensures.table).rows_are

pub returns-in-None-clause-table : goal.returns-in-None-clause-table
returns-in-None-clause-table g c =
    (size_other _ _ c.args.table c.args.frozen.now c.sizes.result.pages c.sizes.result.rows c.requires.lays (sym c.size_of.ensures ∙ ap option_copied c.in-None.is)
    c.sizes.ensures.pages c.sizes.ensures.rows c.sizes.ensures.table).stands
