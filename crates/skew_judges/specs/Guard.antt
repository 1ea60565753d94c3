-- A guard around a judge: what it asks of a scan whatever the judge answers, and what a judge keeps to under which a
-- scan that is given up has cost little.
use Rattle.std.specs.Prelude.{◌≡◌, ℕ, zero, suc, ◌+◌, ◌-◌, ◌*◌, ◌/◌, ◌^◌, ◌<◌, ◌≤◌, ◌==◌, ◌&&◌, ◌||◌, Bool, true, false, max, min, nat_le, if◌then◌else◌}
use Rattle.rv_judge.specs.declared.judging.Facts.{Facts}
use Rattle.rv_judge.specs.declared.judging.Verdict.{Verdict}
use Rattle.rv_judge.specs.declared.judging.Verdict.TheVariants.{Continue, AbandonScan, AbandonForeground}
use Rattle.rv_judge.specs.Costs.{projection}
use Rattle.rv_judge.specs.Verdicts.{Ruling}
use Rattle.skew_judges.specs.Rules.{is_building}

-- Into how many parts the guarantee is cut for the scan at a position, which may read one leaf and one part more: an
-- eighth, a half, a fourth, a sixteenth, a 32nd and so on by halves.
abbrev pub parts : ℕ → ℕ
parts scan =
    if scan == 0 then 8 else
    if scan == 1 then 2 else
    if scan == 2 then 4 else 2 * 2 ^ scan

abbrev pub share : ℕ → ℕ → ℕ
share guaranteed scan = guaranteed / parts scan

-- the shares of so many scans
abbrev pub shares : ℕ → ℕ → ℕ
shares guaranteed zero = 0
shares guaranteed (suc scans) = shares guaranteed scans + share guaranteed scans

-- The keys that the members of a union before the present one have put together: what is projected beyond what the
-- scan alone is projected to cost. Elsewhere there are none. A projection that stays at the greatest u64 does not tell
-- them, and counts as so many.
abbrev pub keys_before : Facts → ℕ
keys_before facts =
    if facts.projected == 2 ^ 64 - 1 then 2 ^ 64 - 1 else
    facts.projected - projection (max facts.estimate facts.scanned) facts.scanned facts.kept

-- the keys that are listed so far, by the scan and by members before it
abbrev pub listed : Facts → ℕ
listed facts = facts.kept + keys_before facts

-- THE RULE. A scan is dropped where the leaves that it has read beside one come to its share, or the keys that are
-- listed to the guarantee. Nobody is asked then.
abbrev pub is_sunk : Facts → Bool
is_sunk facts = nat_le facts.guaranteed (parts facts.scan * (facts.spent - 1))

abbrev pub is_long : Facts → Bool
is_long facts = nat_le facts.guaranteed (listed facts)

-- A foreground that fetches what the scan lists is stopped where the scan has kept an eighth of the guarantee, the next
-- one a sixteenth, and so on by halves.
abbrev pub is_lent : Facts → Bool
is_lent facts = nat_le facts.guaranteed (8 * 2 ^ facts.scan * facts.kept)

abbrev pub held_back : Facts → Verdict → Verdict
held_back facts Continue = if is_building facts.control && is_lent facts then AbandonForeground else Continue
held_back facts verdict = verdict

-- what a guarded judge answers, and where it then stands: of each question that is not the guard's, the judge is asked
abbrev pub guarded : (ℕ → Facts → Ruling) → ℕ → Facts → Ruling
guarded would state facts =
    if is_sunk facts || is_long facts then record { verdict = AbandonScan; next = state }
    else record { verdict = held_back facts (would state facts).verdict; next = (would state facts).next }

-- whether a verdict lets the scan go on
abbrev pub goes_on : Verdict → Bool
goes_on Continue = true
goes_on AbandonForeground = true
goes_on verdict = false

-- A scan has read no more than one leaf and its share, and the keys that are listed, or what is projected, are less
-- than the guarantee.
pub record Keeps (facts : Facts) : Type 0 where
  pub sunk : facts.spent ≤ 1 + share facts.guaranteed facts.scan
  pub few : min (listed facts) facts.projected < facts.guaranteed

-- WHICH JUDGES ARE BOUNDED: at whatever question, a scan that may go on keeps to its share and to few keys, and a
-- foreground that goes on beside it has few keys to fetch.
abbrev pub IsBounded : (ℕ → Facts → Ruling) → Type 0
IsBounded would =
    (state : ℕ) (facts : Facts)
    → (goes_on (would state facts).verdict ≡ true → Keeps facts)
    × ((would state facts).verdict ≡ Continue → is_building facts.control ≡ true
    → 8 * 2 ^ facts.scan * facts.kept < facts.guaranteed)

-- LAW: guarded, any judge is bounded
abbrev pub GuardedAreBounded : Type 0
GuardedAreBounded = (would : ℕ → Facts → Ruling) → IsBounded (guarded would)

-- LAW: the shares of any number of scans come to less than what is guaranteed
abbrev pub SharesAreLess : Type 0
SharesAreLess = (guaranteed scans : ℕ) → 1 ≤ guaranteed → shares guaranteed scans < guaranteed
