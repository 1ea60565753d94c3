-- Draws that go on from where others ended.
use Rattle.std.proofs.Common.{◌≡◌, ℕ, zero, suc, ◌+◌, ◌*◌, ◌/◌, ◌%◌, ◌^◌, refl, ap, ◌∙◌, arith}
use Rattle.rv_gen.specs.Draws.{generator_step, state_after, draw}

pub state_on : (x m n : ℕ) → state_after (state_after x m) n ≡ state_after x (m + n)
unfolding state_after
state_on x m zero = ap (state_after x) (let e : m ≡ m + 0 = omega arith in e)
state_on x m (suc n) = ap generator_step (state_on x m n) ∙ ap (state_after x) (let e : suc (m + n) ≡ m + suc n = omega arith in e)

pub draw_on : (x m n limit : ℕ) → draw (state_after x m) n limit ≡ draw x (m + n) limit
draw_on x m n limit = ap (λ (s : ℕ). (s / 2 ^ 33) % limit) (state_on x m n)

pub state_none : (x : ℕ) → x ≡ state_after x 0
unfolding state_after
state_none x = refl

-- as many draws for each of one thing more
pub state_more : (x i s t k : ℕ) → s ≡ state_after x (k * i) → t ≡ state_after s k → t ≡ state_after x (k * (i + 1))
state_more x i s t k a b =
    b ∙ ap (λ (y : ℕ). state_after y k) a ∙ state_on x (k * i) k ∙ ap (state_after x) (let e : k * i + k ≡ k * (i + 1) = grind arith in e)
