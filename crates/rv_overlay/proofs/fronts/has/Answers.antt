use Rattle.std.proofs.Common.{◌≡◌, ◌∙◌, ap, refl, is_some, Option, Some, None, option_map}
use Rattle.rv_overlay.proofs.Runs.{has_is}
use Rattle.rv_overlay.proofs.fronts.has.Goals as goal

some_mapped : {A B : Type 0} (f : A → B) (o : Option A) → is_some o ≡ is_some (option_map f o)
some_mapped f None = refl
some_mapped f (Some x) = refl

pub returns : goal.returns
returns c = c.is_some.ensures ∙ some_mapped _ c.find.result ∙ ap is_some c.find.ensures ∙ has_is c.args.entries.now c.args.entry.now
