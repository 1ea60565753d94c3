-- A text may be cut behind a space.
use Rattle.std.proofs.Common.{◌≡◌, ℕ, ◌≤◌, List, length, get_or, IsUtf8, arith}
use Rattle.std.specs.Str.{IsCharBoundary}
use Rattle.std.proofs.lemmas.Str.{IsCharBoundary-after_ascii}

pub behind_space : (bs : List ℕ) → IsUtf8 bs → 2 ≤ length bs → get_or bs 1 0 ≡ 32 → IsCharBoundary bs 2
behind_space bs u long space = IsCharBoundary-after_ascii bs 1 u (omega arith) (omega arith)
