-- The mark between a script and its transcript.
use Rattle.std.specs.Prelude.{ℕ, List, [], ◌∷◌, ◌++◌, Bool, ◌||◌, Option, Some, None, bytes_eq, codes, if◌then◌else◌}
use denote.Ref.{Bor}
use Rattle.rv_text.specs.Lines.{split}

-- what stands before a mark and behind it
pub record Parted : Type 0 where
  pub script : List ℕ
  pub transcript : List ℕ

-- a line without its end LF is the mark, with a CR before it or not
abbrev pub is_mark : List ℕ → Bool
is_mark line = bytes_eq line (codes "====") || bytes_eq line (codes "====\r")

-- lines with their ends
abbrev pub ended : List (List ℕ) → List ℕ → List ℕ
ended [] rest = rest
ended (l ∷ ls) rest = l ++ 10 ∷ ended ls rest

abbrev pub behind_line : List ℕ → Option Parted → Option Parted
behind_line line None = None
behind_line line (Some p) = Some (record { script = line ++ 10 ∷ p.script; transcript = p.transcript })

-- lines and what stands behind the last line feed, parted at the first line that is the mark
abbrev pub parted_lines : List (List ℕ) → List ℕ → Option Parted
parted_lines [] rest = if bytes_eq rest (codes "====") then Some (record { script = []; transcript = [] }) else None
parted_lines (l ∷ ls) rest =
    if is_mark l then Some (record { script = []; transcript = ended ls rest })
    else behind_line l (parted_lines ls rest)

-- two parts of an input, as the code has them
abbrev pub parts_by : Bor (List ℕ) × Bor (List ℕ) → Parted
parts_by p = record { script = p.0.now; transcript = p.1.now }

-- an input, parted at its first line that is exactly ====
abbrev pub parted : List ℕ → Option Parted
parted input = parted_lines (split input).lines (split input).rest
