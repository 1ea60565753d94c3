-- What is ahead of the foreground's scan.
use Rattle.std.specs.Prelude.{ℕ, Bool, List}
use Rattle.rv_value.specs.declared.record.IndexEntry.{IndexEntry}
use Rattle.rv_scan.specs.Alongs.{left}
use Rattle.rv_scan.specs.Fronts.{Front, walk_of}
use Rattle.rv_jscan.specs.Entries.{has_entry}

-- whether a row has an entry that was not looked at
abbrev pub front_left : Front → List IndexEntry → ℕ → Bool
front_left f entries n = has_entry n (left (walk_of f) entries)
