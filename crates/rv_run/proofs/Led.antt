-- Runs by threads under judges: one more phase.
use Rattle.std.proofs.Common.{◌≡◌, ◌∙◌, ◌+◌, ◌<◌, ◌++◌, ◌∷◌, ℕ, List, [], refl, sym, ap, subst, map, Option, Some, slice_get, slice_set, append_assoc, append-nil, arith, unwrap_or, suc, length, length-append, Bool}
use Rattle.rv_judge.specs.declared.judging.Facts.{Facts}
use Rattle.rv_judge.specs.Verdicts.{Ruling}
use Rattle.rv_reader.specs.Shown.{Shown as StoreShown}
use Rattle.rv_script.specs.declared.scripts.Line.{Line}
use Rattle.rv_script.specs.declared.scripts.Phase.{Phase}
use Rattle.rv_script.specs.declared.scripts.Script.{Script}
use Rattle.rv_core.specs.declared.settings.Settings.{Settings}
use Rattle.rv_core.specs.Core.{Shown}
use Rattle.rv_shared.specs.Leads.{Leads}
use Rattle.rv_phases.specs.Phase.{PhaseDone}
use Rattle.rv_lending.specs.Lending.{CoreEvent, Point, point}
use Rattle.rv_run.specs.Judges.{all_but, by_number, filled, ruling_after}
use Rattle.rv_run.specs.Ruling.{Between, Judging, between, fresh, in_phase, judging}
use Rattle.rv_run.specs.Phases.{ChainUnder, FirstPhasesUnder, LeadsAll, LeadsFirst, LeadsUnder, PhasesUnder}
use Rattle.rv_run.proofs.Rulings.{seat_moved, seated}

-- ---- a phase over a lent core

pub done_moved : {S : Type 0} (lines : List Line) (short : Bool) (a0 a b0 b : Shown S) → a0 ≡ a → b0 ≡ b → PhaseDone lines short a0.phase a0.history b0.history → PhaseDone lines short a.phase a.history b.history
done_moved {S = S} lines short a0 a b0 b ea eb h = subst (λ (x : Shown S × Shown S). PhaseDone lines short x.0.phase x.0.history x.1.history) (λ t. (ea t, eb t)) h

pub chain_moved : {S J : Type 0} (shows : S → StoreShown) (w : J → ℕ → Facts → Ruling) (s : J → ℕ) (a0 a b0 b : Shown S) (i0 i j0 j : J) (m0 m n0 : Settings) → a0 ≡ a → i0 ≡ i → m0 ≡ m → b0 ≡ b → j0 ≡ j → n0 ≡ m
    → Leads (CoreEvent shows) (point a0 (w i0) (s i0) m0) (point b0 (w j0) (s j0) n0) → ChainUnder shows w s m a i b j
chain_moved {S = S} shows w s a0 a b0 b i0 i j0 j m0 m n0 ea ei em eb ej en h =
    subst (λ (x : Point S × Point S). Leads (CoreEvent shows) x.0 x.1) (λ t. (point (ea t) (w (ei t)) (s (ei t)) (em t), point (eb t) (w (ej t)) (s (ej t)) (en t))) h

-- the settings of a phase are those of the run
pub settled : {S J : Type 0} (shows : S → StoreShown) (w : J → ℕ → Facts → Ruling) (s : J → ℕ) (m n : Settings) (a b : Shown S) (i j : J) → m ≡ n → ChainUnder shows w s m a i b j → ChainUnder shows w s n a i b j
settled shows w s m n a b i j e h = subst (λ k. ChainUnder shows w s k a i b j) e h

pub rules_moved : {J : Type 0} (w : J → ℕ → Facts → Ruling) (i0 i j0 j : J) → i0 ≡ i → j0 ≡ j → w j0 ≡ w i0 → w j ≡ w i
rules_moved w i0 i j0 j ei ej h = sym (ap w ej) ∙ h ∙ ap w ei

-- ---- phases

leads_append : {S : Type 0} (shows : S → StoreShown) (settings : Settings) (judge n k : ℕ) (ps : List Phase) (p : Phase) (old mid new : Between S) → k ≡ n + length ps → LeadsAll shows settings judge n ps old mid → LeadsUnder shows settings (unwrap_or p.judge (ruling_after judge ps)) (in_phase k mid) new
    → LeadsAll shows settings judge n (ps ++ p ∷ []) old new
leads_append shows settings judge n k [] p old mid new at h u =
    let none : n + 0 ≡ n = omega arith in
    let same : k ≡ n = at ∙ none in
    (new, subst (λ b. LeadsUnder shows settings (unwrap_or p.judge judge) b new) ((λ i. in_phase (same i) (h i))) u, refl)
leads_append shows settings judge n k (x ∷ xs) p old mid new at h u =
    let step : n + suc (length xs) ≡ (n + 1) + length xs = omega arith in
    let later : k ≡ (n + 1) + length xs = at ∙ step in
    (h.0, h.1, leads_append shows settings (unwrap_or x.judge judge) (n + 1) k xs p h.0 mid new later h.2 u)

ruling_append : (judge : ℕ) (ps : List Phase) (p : Phase) → ruling_after judge (ps ++ p ∷ []) ≡ unwrap_or p.judge (ruling_after judge ps)
ruling_append judge [] p = refl
ruling_append judge (x ∷ xs) p = ruling_append (unwrap_or x.judge judge) xs p

-- of all phases these are left, where this judge rules and so many have begun
pub record LedTo {S : Type 0} (shows : S → StoreShown) (settings : Settings) (first : ℕ) (all left : List Phase) (ruling number : ℕ) (old new : Between S) : Type 0 where
  pub begun : List Phase
  pub whole : begun ++ left ≡ all
  pub rules : ruling_after first begun ≡ ruling
  pub count : length begun ≡ number
  pub leads : LeadsAll shows settings first 1 begun old new

pub led_none : {S : Type 0} (shows : S → StoreShown) (settings : Settings) (first : ℕ) (all : List Phase) (b : Between S) → LedTo shows settings first all all first 0 b b
led_none shows settings first all b = record { begun = []; whole = refl; rules = refl; count = refl; leads = refl }

-- a phase more
pub led_more : {S J : Type 0} (shows : S → StoreShown) (settings : Settings) (w : J → ℕ → Facts → Ruling) (s : J → ℕ) (first : ℕ) (all rest left : List Phase) (p : Phase) (ruling number next : ℕ) (start : Between S) (core entered new : Shown S) (js : List Judging) (j0 j1 j2 : Option J) (before after : J)
    → LedTo shows settings first all rest ruling number start (between core js) → rest ≡ p ∷ left → next ≡ unwrap_or p.judge ruling → entered ≡ record core { phase = number + 1 } → map (λ j. judging (w j) (s j)) (by_number j0 j1 j2 before) ≡ js → next < 3 → filled j0 j1 j2 ≡ all_but next → w after ≡ w before
    → ChainUnder shows w s settings entered before new after
    → LedTo shows settings first all left next (number + 1) start (between new (map (λ j. judging (w j) (s j)) (by_number j0 j1 j2 after)))
led_more {S = S} {J = J} shows settings w s first all rest left p ruling number next start core entered new js j0 j1 j2 before after t split named gone seats known apart rules chain =
    let f : J → Judging = λ j. judging (w j) (s j) in
    let ks = map f (by_number j0 j1 j2 after) in
    let at : slice_get js next ≡ Some (judging (w before) (s before)) = subst (λ ls. slice_get ls next ≡ Some (judging (w before) (s before))) seats (seated f j0 j1 j2 before next known apart) in
    let set : slice_set js next (judging (w before) (s after)) ≡ ks = subst (λ ls. slice_set ls next (judging (w before) (s after)) ≡ ks) seats (seat_moved w s j0 j1 j2 before after next known apart rules) in
    let moved : Leads (CoreEvent shows) (point (record core { phase = number + 1 }) (w before) (s before) settings) (point new (w before) (s after) settings) =
    subst (λ (x : Shown S × (ℕ → Facts → Ruling)). Leads (CoreEvent shows) (point x.0 (w before) (s before) settings) (point new x.1 (s after) settings)) (λ i. (gone i, rules i)) chain in
    let under : LeadsUnder shows settings next (in_phase (number + 1) (between core js)) (between new ks) = record { judge = judging (w before) (s before); seated = at; stands = s after; chain = moved; others = sym set } in
    let by : LeadsUnder shows settings (unwrap_or p.judge (ruling_after first t.begun)) (in_phase (number + 1) (between core js)) (between new ks) = subst (λ k. LeadsUnder shows settings k (in_phase (number + 1) (between core js)) (between new ks)) (named ∙ ap (λ k. unwrap_or p.judge k) (sym t.rules)) under in
    let place : number + 1 ≡ 1 + length t.begun = let count = t.count in omega arith in
    record {
      begun = t.begun ++ p ∷ [];
      whole = append_assoc t.begun (p ∷ []) left ∙ ap (λ ps. t.begun ++ ps) (sym split) ∙ t.whole;
      rules = ruling_append first t.begun p ∙ ap (λ k. unwrap_or p.judge k) t.rules ∙ sym named;
      count = let size = length-append t.begun (p ∷ []) in let count = t.count in omega (arith, size, count);
      leads = leads_append shows settings first 1 (number + 1) t.begun p start (between core js) (between new ks) place t.leads by;
    }

-- all phases
pub led_all : {S : Type 0} (shows : S → StoreShown) (settings : Settings) (first : ℕ) (all left : List Phase) (ruling number : ℕ) (old new : Between S) → left ≡ [] → LedTo shows settings first all left ruling number old new → LeadsAll shows settings first 1 all old new
led_all shows settings first all left ruling number old new none t =
    let begun : t.begun ≡ all = sym (append-nil t.begun) ∙ ap (λ ps. t.begun ++ ps) (sym none) ∙ t.whole in
    subst (λ ps. LeadsAll shows settings first 1 ps old new) begun t.leads

-- the first phases
pub led_front : {S : Type 0} (shows : S → StoreShown) (settings : Settings) (first : ℕ) (all left : List Phase) (ruling number : ℕ) (old new : Between S) → LedTo shows settings first all left ruling number old new → LeadsFirst shows settings first all old new
led_front shows settings first all left ruling number old new t = record { begun = t.begun; rest = left; whole = sym t.whole; leads = t.leads }

-- whole runs

pub phases_under : {S : Type 0} (shows : S → StoreShown) (settings wanted : Settings) (begun : Shown S) (store : S) (js judges : List Judging) (ruling first : ℕ) (phases : List Phase) (script : Script) (core : Shown S) (stand : List Judging) → settings ≡ wanted → begun ≡ fresh store → js ≡ judges → ruling ≡ first → phases ≡ script.phases → LeadsAll shows settings ruling 1 phases (between begun js) (between core stand) → PhasesUnder shows wanted store judges first core script
phases_under shows settings wanted begun store js judges ruling first phases script core stand b s j r p a = record { stand = stand; leads = rw (b, s, j, r, p) at a }

pub first_phases_under : {S : Type 0} (shows : S → StoreShown) (settings wanted : Settings) (begun : Shown S) (store : S) (js judges : List Judging) (ruling first : ℕ) (phases : List Phase) (script : Script) (core : Shown S) (stand : List Judging) → settings ≡ wanted → begun ≡ fresh store → js ≡ judges → ruling ≡ first → phases ≡ script.phases → LeadsFirst shows settings ruling phases (between begun js) (between core stand) → FirstPhasesUnder shows wanted store judges first core script
first_phases_under shows settings wanted begun store js judges ruling first phases script core stand b s j r p a = record { stand = stand; leads = rw (b, s, j, r, p) at a }
