use Rattle.rv_catalog.proofs.Forms.{fits_if, whole_if}
use Rattle.rv_catalog.proofs.names.Catalog.resolve.Goals as goal

pub returns-clause-fits : goal.returns-clause-fits
returns-clause-fits c = fits_if c.args.self.now c.args.statement.now c.resolve_form.result c.in_ok-test_limits.ensures.columns c.in_ok-test_limits.ensures.key c.in_ok-test_limits.ensures.joined c.resolve_form.ensures

pub returns-clause-whole : goal.returns-clause-whole
returns-clause-whole c = whole_if c.args.self.now c.args.statement.now c.resolve_form.result c.in_ok-test_limits.ensures.columns c.in_ok-test_limits.ensures.key c.in_ok-test_limits.ensures.joined c.resolve_form.ensures
