-- The judges that a script names by number, one of which rules elsewhere.
use Rattle.std.specs.Prelude.{ℕ, List, [], ◌∷◌, Bool, ◌==◌, not, Option, is_some, unwrap_or}
use Rattle.rv_script.specs.declared.scripts.Phase.{Phase}

-- the judges by number, where this one rules: the empty place is its own
abbrev pub by_number : {J : Type 0} → Option J → Option J → Option J → J → List J
by_number zero one two ruling = unwrap_or zero ruling ∷ unwrap_or one ruling ∷ unwrap_or two ruling ∷ []

-- which places have a judge
abbrev pub filled : {J : Type 0} → Option J → Option J → Option J → List Bool
filled zero one two = is_some zero ∷ is_some one ∷ is_some two ∷ []

-- all places but the one of this number
abbrev pub all_but : ℕ → List Bool
all_but number = not (number == 0) ∷ not (number == 1) ∷ not (number == 2) ∷ []

-- the number of the judge that rules after these phases
abbrev pub ruling_after : ℕ → List Phase → ℕ
ruling_after number [] = number
ruling_after number (phase ∷ phases) = ruling_after (unwrap_or phase.judge number) phases
