-- A key list as contracts see it.
use Rattle.std.specs.Prelude.{ℕ, List, Bool, nat_le, if◌then◌else◌}
use Rattle.rv_keylist.specs.declared.Stage.{Stage}
use Rattle.rv_keylist.specs.declared.Stage.TheVariants.{Small, Allocated, Spilled}

-- the row numbers in the order of their pushes, ascending once finished; the places made; whether it is finished
pub record Listed : Type 0 where
  pub keys : List ℕ
  pub spare : ℕ
  pub finished : Bool

-- the stage of a list of so many keys
abbrev pub stage_of : ℕ → Stage
stage_of count = if nat_le count 20 then Small else if nat_le count 1024 then Allocated else Spilled
