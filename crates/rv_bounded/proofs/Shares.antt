-- What scans may still read by their shares.
use Rattle.std.proofs.Common.{◌≡◌, ℕ, zero, suc, ◌+◌, ◌-◌, ◌*◌, ◌<◌, ◌≤◌, ap, arith}
use Rattle.std.proofs.lemmas.Nat.{le-div}
use Rattle.std.proofs.Math.Nat.{div-le_self, div-mul-le_self}
use Rattle.skew_judges.specs.Guard.{parts, share, shares}
use Rattle.skew_judges.proofs.Guarding.{parts_some}
use Rattle.skew_judges.proofs.Shares.{are_less}
use Rattle.rv_bounded.proofs.Sums.{after}

-- a lower guarantee has no greater shares
pub share_less : (a b scan : ℕ) → a ≤ b → share a scan ≤ share b scan
share_less a b scan h =
    let times = div-mul-le_self a (parts scan) in
    le-div (share a scan) b (parts scan) (parts_some scan) (omega (arith, h, times))

pub share_within : (g scan : ℕ) → share g scan ≤ g
share_within g scan = div-le_self g (parts scan)

-- THE LEAVES THAT SCANS MAY READ, from a position on: two and its share for each
abbrev pub to_read : ℕ → ℕ → ℕ → ℕ
to_read p scan zero = 0
to_read p scan (suc n) = 2 + share p scan + to_read p (scan + 1) n

to_shares : (p scan n : ℕ) → shares p scan + to_read p scan n ≡ shares p (scan + n) + 2 * n
to_shares p scan zero =
    let same : shares p (scan + 0) ≡ shares p scan = ap (shares p) (omega arith) in
    omega (arith, same)
to_shares p scan (suc n) =
    let rest = to_shares p (scan + 1) n in
    let first : shares p (scan + 1) ≡ shares p (suc scan) = ap (shares p) (after scan) in
    let same : shares p (scan + 1 + n) ≡ shares p (scan + suc n) = ap (shares p) (omega arith) in
    omega (arith, rest, first, same)

none_shared : (n : ℕ) → shares 0 n ≤ 0
none_shared zero = omega arith
none_shared (suc n) =
    let rest = none_shared n in
    let last = share_within 0 n in
    omega (arith, rest, last)

all_shares : (p n : ℕ) → shares p n ≤ p
all_shares zero n = none_shared n
all_shares (suc p) n = let less = are_less (suc p) n (omega arith) in omega (arith, less)

-- all scans
pub all_scans : (p n : ℕ) → to_read p 0 n ≤ p + 2 * n
all_scans p n =
    let sum = to_shares p 0 n in
    let less = all_shares p (0 + n) in
    omega (arith, sum, less)

-- the first of the scans that are left
pub first_scan : (p ended planned : ℕ) → ended < planned → to_read p ended (planned - ended) ≡ 2 + share p ended + to_read p (ended + 1) (planned - (ended + 1))
first_scan p ended planned lt =
    let more : planned - ended ≡ suc (planned - (ended + 1)) = omega (arith, lt) in
    ap (to_read p ended) more
