use Rattle.rv_view.proofs.view.share_each.Goals as goal

pub parts-init : goal.parts-init
parts-init c = c.requires
