-- A piece as contracts see it, and the rows that a list takes up of it.
use Rattle.std.specs.Prelude.{◌≡◌, ℕ, ◌≤◌, List, Bool, true, ◌&&◌, map, filter, length, take, Option, Some, None}
use Rattle.rv_value.specs.declared.record.IndexEntry.{IndexEntry}
use Rattle.rv_restrict.specs.Parts.{Parted, passes}
use Rattle.rv_reader.specs.Storing.{AreKeys}
use Rattle.rv_keylist.specs.Marks.{may_key}
use Rattle.rv_jscan.specs.declared.piece.PieceId.{PieceId}

-- the piece's name, its entries, and the part of the restriction by which they are sieved
pub record Pieced : Type 0 where
  pub id : PieceId
  pub entries : List IndexEntry
  pub part : Parted

-- the entries' marks: whether the part passes the key
abbrev pub marks_of : Parted → List IndexEntry → List Bool
marks_of part entries = map (λ (e : IndexEntry). passes part e.key) entries

-- whether the last complete list may have a row; where there is none, it may
abbrev pub may : Option (List ℕ) → ℕ → Bool
may None row = true
may (Some keys) row = may_key row keys

-- the entries of which a list being built takes the rows: the marked ones whose rows a test admits
abbrev pub is_kept : (ℕ → Bool) → Parted → IndexEntry → Bool
is_kept admits part e = passes part e.key && admits e.row.0

abbrev pub kept_by : (ℕ → Bool) → Parted → List IndexEntry → List ℕ
kept_by admits part entries = map (λ (e : IndexEntry). e.row.0) (filter (is_kept admits part) entries)

-- at most 64 entries, whose keys have one value for each column of the part
pub record IsPiece (entries : List IndexEntry) (part : Parted) : Type 0 where
  pub few : length entries ≤ 64
  pub keys : AreKeys (length part.columns) entries

-- a piece whose marks were set
pub record IsSieved (entries : List IndexEntry) (part : Parted) (marks : List Bool) : Type 0 where
  pub few : length entries ≤ 64
  pub marked : take (length entries) marks ≡ marks_of part entries
