-- Parts of what the items of a command line are, by names for the proofs.
use Rattle.std.proofs.Common.{◌≡◌, ◌≢◌, List, Bool, false, bytes_eq}
use Rattle.std.specs.List.{AllByRecursion}
use Rattle.rv_words.specs.declared.choices.Choice.{Choice}
use Rattle.rv_words.specs.Words.{IsValue, Item, is_flag, name_of}

-- an option that takes a value has one
abbrev pub IsItem : Item → Type 0
IsItem item = is_flag item.option ≡ false → IsValue item.option item.digits

-- No item is of this option.
abbrev pub Lacks : Choice → List Item → Type 0
Lacks option items = AllByRecursion (λ (item : Item). item.option ≢ option) items

-- whether two options are the same: each has a name of its own
abbrev pub is_option : Choice → Choice → Bool
is_option a b = bytes_eq (name_of a) (name_of b)
