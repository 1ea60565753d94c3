-- The memory of an access that is over, in which another one is opened.
use Rattle.std.specs.Prelude.{List, [], Option, Some, None, Box}
use Rattle.std.specs.declared.alloc.Global.{Global}
use Rattle.rv_restrict.specs.declared.atom.Atom.{Atom}
use Rattle.rv_retrieval.specs.Shape.{Shape}
use Rattle.rv_access.specs.declared.access.Access.{Access}
use Rattle.rv_access.specs.declared.access.Access.TheVariants.{Competing, Racing, Uniting}

-- THE RETRIEVAL WHOSE MEMORY IS KEPT once an access is over: its own, where it was one, else the one kept before
abbrev pub kept : Access → Option (Box Shape Global) → Option (Box Shape Global)
kept (Competing v) before = Some v
kept (Racing r) before = before
kept (Uniting u) before = before

-- the restriction of a retrieval that is kept
abbrev pub only_of : Option (Box Shape Global) → List (List Atom)
only_of None = []
only_of (Some v) = v.value.query.only
