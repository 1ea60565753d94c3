-- What no event changes, along a chain of them.
use Rattle.std.proofs.Common.{◌≡◌, ◌∙◌, ℕ, zero, suc, Bool, true, false, refl, sym, ap, inl, inr}
use Rattle.std.proofs.Math.Logic.{∥∥₁_elim}
use Rattle.std.proofs.Math.Nat.{ℕ_set}
use Rattle.rv_judge.specs.declared.judging.Facts.{Facts}
use Rattle.rv_judge.specs.declared.judging.Verdict.{Verdict}
use Rattle.rv_judge.specs.declared.judging.Verdict.TheVariants.{AbandonBackground, AbandonForeground, AbandonScan, Continue}
use Rattle.rv_judge.specs.Verdicts.{Ruling}
use Rattle.rv_core.specs.declared.settings.Settings.{Settings}
use Rattle.rv_reader.specs.Shown.{Shown as StoreShown}
use Rattle.rv_shared.specs.Leads.{Leads, Steps}
use Rattle.rv_lending.specs.Lending.{CoreEvent, KeepsRules, Point}

-- a number that each event leaves
module _ {A : Type 0} (one : A → A → Type 0) (f : A → ℕ) (each : (a b : A) → one a b → f b ≡ f a) where
  steps_keep : (n : ℕ) (a b : A) → Steps one n a b → f b ≡ f a
  steps_keep zero a b h = ap f h
  steps_keep (suc n) a b h = each h.0 b h.2 ∙ steps_keep n a h.0 h.1

  leads_keep : (a b : A) → Leads one a b → f b ≡ f a
  leads_keep a b h = ∥∥₁_elim h (ℕ_set (f b) (f a)) (λ s. steps_keep s.0 a b s.1)

-- verdicts and flags as numbers
number_of : Verdict → ℕ
number_of Continue = 0
number_of AbandonScan = 1
number_of AbandonForeground = 2
number_of AbandonBackground = 3

verdict_of : ℕ → Verdict
verdict_of zero = Continue
verdict_of (suc zero) = AbandonScan
verdict_of (suc (suc zero)) = AbandonForeground
verdict_of (suc (suc (suc n))) = AbandonBackground

verdict_again : (v : Verdict) → verdict_of (number_of v) ≡ v
unfolding verdict_of number_of
verdict_again Continue = refl
verdict_again AbandonScan = refl
verdict_again AbandonForeground = refl
verdict_again AbandonBackground = refl

digit_of : Bool → ℕ
digit_of true = 1
digit_of false = 0

flag_of : ℕ → Bool
flag_of zero = false
flag_of (suc n) = true

flag_again : (b : Bool) → flag_of (digit_of b) ≡ b
unfolding flag_of digit_of
flag_again true = refl
flag_again false = refl

module _ {S : Type 0} (shows : S → StoreShown) where
  rules_stay : (a b : Point S) → CoreEvent shows a b → KeepsRules a b
  rules_stay a b e = elim e [
    | inl call ↦ call.3.rules
    | inr rest ↦ elim rest [
      | inl part ↦ part.3.rules
      | inr rest ↦ elim rest [
        | inl take ↦ take.2.rules
        | inr rest ↦ elim rest [
          | inl give ↦ give.2.rules
          | inr sweep ↦ sweep.rules
        ]
      ]
    ]
  ]

  -- the judge that rules
  pub would_stays : (a b : Point S) → Leads (CoreEvent shows) a b → b.would ≡ a.would
  would_stays a b led =
      let verdict : (n : ℕ) (facts : Facts) → (b.would n facts).verdict ≡ (a.would n facts).verdict = λ n facts.
      sym (verdict_again (b.would n facts).verdict)
      ∙ ap verdict_of (leads_keep (CoreEvent shows) (λ (p : Point S). number_of (p.would n facts).verdict) (λ x y e. ap (λ (w : ℕ → Facts → Ruling). number_of (w n facts).verdict) (rules_stay x y e).would) a b led)
      ∙ verdict_again (a.would n facts).verdict in
      let next : (n : ℕ) (facts : Facts) → (b.would n facts).next ≡ (a.would n facts).next = λ n facts.
      leads_keep (CoreEvent shows) (λ (p : Point S). (p.would n facts).next) (λ x y e. ap (λ (w : ℕ → Facts → Ruling). (w n facts).next) (rules_stay x y e).would) a b led in
      λ i n facts. record { verdict = verdict n facts i; next = next n facts i }

  -- what is set of the work of cursors
  pub settings_stay : (a b : Point S) → Leads (CoreEvent shows) a b → b.settings ≡ a.settings
  settings_stay a b led =
      let steps : b.settings.steps ≡ a.settings.steps = leads_keep (CoreEvent shows) (λ (p : Point S). p.settings.steps) (λ x y e. ap (λ (s : Settings). s.steps) (rules_stay x y e).settings) a b led in
      let race : b.settings.race ≡ a.settings.race =
      sym (flag_again b.settings.race)
      ∙ ap flag_of (leads_keep (CoreEvent shows) (λ (p : Point S). digit_of p.settings.race) (λ x y e. ap (λ (s : Settings). digit_of s.race) (rules_stay x y e).settings) a b led)
      ∙ flag_again a.settings.race in
      λ i. record { steps = steps i; race = race i }
