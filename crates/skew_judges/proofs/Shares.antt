-- The shares come to less than the guarantee.
use Rattle.std.proofs.Common.{◌≡◌, ℕ, zero, suc, ◌+◌, ◌*◌, ◌/◌, ◌^◌, ◌<◌, ◌≤◌, max, ap, sym, ◌∙◌, arith, pow-suc}
use Rattle.std.proofs.Math.Nat.{div-div-eq-div-mul}
use Rattle.skew_judges.proofs.Guarding.{parts_late}
use Rattle.skew_judges.specs.Guard.{SharesAreLess, parts, share, shares}

-- from the fourth scan on a share is half of the one before it
halves : (g n : ℕ) → share g (suc (suc (suc (suc n)))) ≡ share g (suc (suc (suc n))) / 2
halves g n =
    sym (div-div-eq-div-mul g (parts (suc (suc (suc n)))) 2 ∙ ap (λ d. g / d) (doubled n))
  where
    doubled : (n : ℕ) → parts (suc (suc (suc n))) * 2 ≡ parts (suc (suc (suc (suc n))))
    doubled n =
        let twice = pow-suc 2 (suc (suc (suc n))) in
        let this = parts_late n in
        let after = parts_late (suc n) in
        omega (arith, twice, this, after)

-- a share and what stays for those after it: as much again, and one at least
half_fits : (x : ℕ) → x / 2 + max 1 (x / 2) ≤ max 1 x
half_fits x = omega arith

first_three : (g : ℕ) → 1 ≤ g → 0 + g / 8 + g / 2 + g / 4 + max 1 (g / 8) ≤ g
first_three g some = omega arith

-- what stays for the scans behind so many after the third
abbrev rest : ℕ → ℕ → ℕ
rest g zero = g / 8
rest g (suc n) = share g (suc (suc (suc n)))

next : (g n : ℕ) → share g (suc (suc (suc n))) ≡ rest g n / 2
next g zero = sym (div-div-eq-div-mul g 8 2)
next g (suc n) = halves g n

one_more : (shared stays share g : ℕ) → share ≡ stays / 2 → shared + max 1 stays ≤ g → shared + share + max 1 share ≤ g
one_more shared stays share g half fits = let halved = half_fits stays in omega (arith, half, halved, fits)

late : (g n : ℕ) → 1 ≤ g → shares g (suc (suc (suc n))) + max 1 (rest g n) ≤ g
late g zero some = first_three g some
late g (suc n) some = one_more (shares g (suc (suc (suc n)))) (rest g n) (share g (suc (suc (suc n)))) g (next g n) (late g n some)

-- a front of a sum
front : (a b c d whole : ℕ) → 0 + a + b + c + max 1 d ≤ whole → (0 + a < whole) × (0 + a + b < whole)
front a b c d whole fits = (omega (arith, fits), omega (arith, fits))

below : (a b whole : ℕ) → a + max 1 b ≤ whole → a < whole
below a b whole fits = omega (arith, fits)

pub are_less : SharesAreLess
are_less g zero some = some
are_less g (suc zero) some = (front (g / 8) (g / 2) (g / 4) (g / 8) g (first_three g some)).0
are_less g (suc (suc zero)) some = (front (g / 8) (g / 2) (g / 4) (g / 8) g (first_three g some)).1
are_less g (suc (suc (suc n))) some = below (shares g (suc (suc (suc n)))) (rest g n) g (late g n some)
