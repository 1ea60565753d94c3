-- The kinds of a list of literals, once the column is found.
use Rattle.std.proofs.Common.{◌≡◌, ℕ, List, Bool, Result}
use Rattle.std.specs.List.{list_any}
use Rattle.rv_value.specs.declared.value.Kind.{Kind}
use Rattle.rv_value.specs.declared.value.Value.{Value}
use Rattle.rv_lang.specs.declared.reply.Refusal.TheVariants.{Kind as WrongKind}
use Rattle.rv_catalog.specs.declared.def.BindFault.{BindFault}
use Rattle.rv_catalog.specs.Answers.{Gives, refuse_if}
use Rattle.rv_catalog.specs.Kinds.{is_other_kind, refuse_column}

pub list_kind : (r : Result (Unit {0}) BindFault) (name : List ℕ) (kind : Kind) (column : List ℕ × Kind) (list : List Value) (wrong : Bool) → (name, kind) ≡ column → wrong ≡ list_any (is_other_kind kind) list → Gives r (refuse_if wrong (WrongKind name)) → Gives r (refuse_column (list_any (is_other_kind column.1) list) column)
list_kind r name kind column list wrong found is given = rw (← found) (rw (← is) given)
