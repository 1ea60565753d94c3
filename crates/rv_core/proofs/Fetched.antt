-- Of a FETCH only the name of its cursor is looked at.
use Rattle.std.proofs.Common.{◌≡◌, ℕ, List, false, Option, Some, Ok, refl}
use Rattle.rv_lang.specs.declared.statement.Statement.{Statement}
use Rattle.rv_lang.specs.declared.statement.Statement.TheVariants.{Fetch as FetchOf}
use Rattle.rv_catalog.specs.declared.def.Resolved.TheVariants.{Fetch}
use Rattle.rv_catalog.specs.Limits.{is_long}
use Rattle.rv_catalog.specs.Schema.{Schema}
use Rattle.rv_model.specs.Step.{understood}

-- a name that is not too long passes all limits
pub fetch_named : (said : Option Statement) (name : List ℕ) (schema : Schema) → said ≡ Some (FetchOf name) → is_long name ≡ false → understood schema said ≡ Ok (Fetch name)
fetch_named said name schema is short = rw (is, short) refl
