-- What the calls of a plan over one FROM item are to its one access.
use Rattle.std.proofs.Common.{◌≡◌, ◌⊎◌, ℕ, ◌+◌, ◌-◌, ◌≤◌, List, [], ◌∷◌, length, min, Option, Some, None, inl, inr, ap, sym, ◌∙◌, subst, arith}
use Rattle.rv_judge.specs.declared.counting.Counts.{Counts}
use Rattle.rv_judge.specs.declared.events.Trace.{Trace}
use Rattle.rv_judge.specs.declared.judging.Facts.{Facts}
use Rattle.rv_judge.specs.Tracing.{CountsRise, SameCounts}
use Rattle.rv_judge.specs.Verdicts.{Ruling}
use Rattle.rv_reader.specs.Shown.{Shown}
use Rattle.rv_jscan.specs.declared.jscan.Given.{Given}
use Rattle.rv_jscan.specs.declared.jscan.Given.TheVariants.{Accepted, Stale}
use Rattle.rv_jscan.specs.Pieces.{Pieced}
use Rattle.rv_reader.specs.declared.step.Step.{Step}
use Rattle.rv_value.specs.declared.record.Record.{Record}
use Rattle.rv_access.specs.declared.access.Access.{Access}
use Rattle.rv_access.specs.Accesses.{AccessFits, trace_of}
use Rattle.rv_access.specs.Given.{AwaitsPiece, GivesOn, TakesLeaf, piece_read}
use Rattle.rv_join.specs.Alone.{CallsOnce, FgCalls, IsAlone}
use Rattle.rv_join.specs.declared.level.Level.{Level}
use Rattle.rv_join.specs.declared.places.Asked.{Asked}
use Rattle.rv_join.specs.Levels.{first_in}
use Rattle.rv_join.specs.Pieces.{GivesPiece, level_at, waited, waiting, waits}
use Rattle.rv_join.specs.Plans.{AreReads, PlanFits, Planned, plan_trace}
use Rattle.rv_join.proofs.Accounting.{alone_above}
use Rattle.skew_judges.specs.Guard.{IsBounded}
use Rattle.rv_bounded.specs.Bounds.{reads_told}
use Rattle.rv_bounded.specs.Plans.{PlanCall, PlanDoes, PlanLoses, PlanSpendsAll, lost_call, lost_leaf}
use Rattle.rv_bounded.specs.Plans.PlanCall.{Steps, Takes, Gives}
use Rattle.rv_bounded.proofs.Ahead.{greatest}

-- THE ONE ACCESS OF A PLAN over one FROM item

no_above : (shown : Shown) (p : Planned) → PlanFits shown p → IsAlone p → p.stack.above ≡ []
no_above shown p fits one = alone_above p.asked shown p.stack fits.holds.stack one

counted_here : (shown : Shown) (p : Planned) → PlanFits shown p → IsAlone p → AreReads (trace_of p.stack.at.here) p.reads
counted_here shown p fits one =
    subst (λ (ls : List Level). AreReads (trace_of (first_in ls p.stack.at).here) p.reads) (no_above shown p fits one) (fits.counted one)

waiting_here : (p : Planned) → p.stack.above ≡ [] → waiting p ≡ p.stack.at.here
waiting_here p none = ap (λ (ls : List Level). (level_at (record p.stack { above = ls }) (waits (record p.stack { above = ls }))).here) none

waited_here : (p q : Planned) → p.stack.above ≡ [] → q.stack.above ≡ [] → waited p q ≡ q.stack.at.here
waited_here p q none nothing =
    ap (λ (ls : List Level). (level_at q.stack (waits (record p.stack { above = ls }))).here) none ∙ ap (λ (ls : List Level). (level_at (record q.stack { above = ls }) 0).here) nothing

-- what the plan counts the access counts
rises_here : (old new : Planned) (t u : Trace) (c d : Counts) → AreReads t old.reads → AreReads u new.reads → CountsRise (plan_trace old) (plan_trace new) c d → CountsRise t u c d
rises_here old new t u c d was is rise = record {
  pages = subst (λ (n : ℕ). u.pages ≡ min (n + (d.pages - c.pages)) greatest) was.pages (sym is.pages ∙ rise.pages);
  leaves = subst (λ (n : ℕ). u.leaves ≡ min (n + (d.leaves - c.leaves)) greatest) was.leaves (sym is.leaves ∙ rise.leaves);
  fetches = subst (λ (n : ℕ). u.fetches ≡ min (n + (d.records - c.records)) greatest) was.fetches (sym is.fetches ∙ rise.fetches);
}

same_here : (old new : Planned) (t u : Trace) → AreReads t old.reads → AreReads u new.reads → SameCounts (plan_trace old) (plan_trace new) → SameCounts t u
same_here old new t u was is same = record {
  pages = sym is.pages ∙ same.pages ∙ was.pages;
  leaves = sym is.leaves ∙ same.leaves ∙ was.leaves;
  fetches = sym is.fetches ∙ same.fetches ∙ was.fetches;
}

told_same : (a b c d e f : ℕ) → a ≡ d → b ≡ e → c ≡ f → a + b + c ≡ d + e + f
told_same a b c d e f x y z = omega (arith, x, y, z)

pub told_here : (shown : Shown) (plan : Planned) → PlanFits shown plan → IsAlone plan → reads_told (plan_trace plan) ≡ reads_told (trace_of plan.stack.at.here)
told_here shown plan fits one = by (trace_of plan.stack.at.here) (counted_here shown plan fits one)
  where
    by : (t : Trace) → AreReads t plan.reads → reads_told (plan_trace plan) ≡ reads_told t
    by t are = told_same plan.reads.pages plan.reads.leaves plan.reads.records t.pages t.leaves t.fetches are.pages are.leaves are.fetches

-- A CALL OF THE PLAN AS ONE OF ITS ACCESS, which loses at most so many

-- a step, which answers this or finds no memory
pub record StepsHere (fg : Option (Step Record)) (would : ℕ → Facts → Ruling) (shown : Shown) (a b : Access) : Type 0 where
  pub state : ℕ
  pub after : ℕ
  pub before : Counts
  pub behind : Counts
  pub calls : FgCalls fg would state after shown before behind a b
  pub counts : CountsRise (trace_of a) (trace_of b) before behind

pub record TakesHere (a b : Access) : Type 0 where
  pub before : Counts
  pub behind : Counts
  pub leaf : TakesLeaf a b
  pub reads : behind ≡ piece_read a before
  pub counts : CountsRise (trace_of a) (trace_of b) before behind

pub record GivesHere (would : ℕ → Facts → Ruling) (a b : Access) : Type 0 where
  pub state : ℕ
  pub after : ℕ
  pub piece : Pieced
  pub awaits : AwaitsPiece a piece
  pub obeys : GivesOn would state after piece Accepted a b
  pub counts : SameCounts (trace_of a) (trace_of b)

-- what a step loses at most
abbrev pub lost_step : Option (Step Record) → ℕ
lost_step (Some fg) = 0
lost_step None = 1

abbrev pub DoesHere : (ℕ → Facts → Ruling) → Shown → ℕ → Access → Access → Type 0
DoesHere would shown lost a b =
    ((fg : Option (Step Record)) × StepsHere fg would shown a b × (lost_step fg ≤ lost))
    ⊎ ((TakesHere a b × (lost_leaf b ≤ lost)) ⊎ GivesHere would a b)

-- such a call, or none
abbrev pub CallsHere : (ℕ → Facts → Ruling) → Shown → ℕ → Access → Access → Type 0
CallsHere would shown lost a b = (b ≡ a) ⊎ DoesHere would shown lost a b

steps_here : (lost : ℕ) (would : ℕ → Facts → Ruling) (state after : ℕ) (shown : Shown) (c d : Counts) (a b : Access) → CountsRise (trace_of a) (trace_of b) c d → (calls : CallsOnce would state after shown c d a b) → lost_call calls ≤ lost → CallsHere would shown lost a b
steps_here lost would state after shown c d a b rise (inl (Some fg, calls)) within = inr (inl (Some fg, record { state = state; after = after; before = c; behind = d; calls = calls; counts = rise }, within))
steps_here lost would state after shown c d a b rise (inl (None, calls)) within = inr (inl (None, record { state = state; after = after; before = c; behind = d; calls = calls; counts = rise }, within))
steps_here lost would state after shown c d a b rise (inr still) within = inl still.0

takes_here : (lost : ℕ) (would : ℕ → Facts → Ruling) (shown : Shown) (c d : Counts) (a b : Access) → d ≡ piece_read a c → CountsRise (trace_of a) (trace_of b) c d → (b ≡ a) ⊎ TakesLeaf a b → lost_leaf b ≤ lost → CallsHere would shown lost a b
takes_here lost would shown c d a b reads rise (inl same) within = inl same
takes_here lost would shown c d a b reads rise (inr leaf) within = inr (inr (inl (record { before = c; behind = d; leaf = leaf; reads = reads; counts = rise }, within)))

gives_here : (lost : ℕ) (would : ℕ → Facts → Ruling) (shown : Shown) (state after : ℕ) (piece : Pieced) (given : Given) (old new : Planned) → waiting old ≡ old.stack.at.here → waited old new ≡ new.stack.at.here → GivesPiece old piece given new → GivesOn would state after piece given (waiting old) (waited old new) → SameCounts (trace_of old.stack.at.here) (trace_of new.stack.at.here) → CallsHere would shown lost old.stack.at.here new.stack.at.here
gives_here lost would shown state after piece Accepted old new at to answers obeyed counts =
    let awaits : AwaitsPiece old.stack.at.here piece = subst (λ (a : Access). AwaitsPiece a piece) at answers in
    let obeys : GivesOn would state after piece Accepted old.stack.at.here new.stack.at.here = subst (λ (a : Access). GivesOn would state after piece Accepted a new.stack.at.here) at (subst (λ (b : Access). GivesOn would state after piece Accepted (waiting old) b) to obeyed) in
    inr (inr (inr (record { state = state; after = after; piece = piece; awaits = awaits; obeys = obeys; counts = counts })))
gives_here lost would shown state after piece (Stale asked now) old new at to answers obeyed counts = inl (ap (λ (q : Planned). q.stack.at.here) answers.3)

-- a plan over one FROM item, which was drawn from what is seen
pub record StandsAlone (shown : Shown) (p : Planned) : Type 0 where
  pub fits : PlanFits shown p
  pub one : IsAlone p

still_alone : (shown : Shown) (old new : Planned) → StandsAlone shown old → new.asked ≡ old.asked → PlanFits shown new → StandsAlone shown new
still_alone shown old new s same fits = record { fits = fits; one = subst (λ (a : Asked). length a.items ≡ 1) (sym same) s.one }

pub record WentHere (would : ℕ → Facts → Ruling) (shown : Shown) (lost : ℕ) (old new : Planned) : Type 0 where
  pub stands : StandsAlone shown new
  pub calls : CallsHere would shown lost old.stack.at.here new.stack.at.here

went_here : (lost : ℕ) (call : PlanCall) (would : ℕ → Facts → Ruling) (shown : Shown) (old new : Planned) → StandsAlone shown old → (does : PlanDoes call would shown old new) → PlanLoses call would shown old new does lost → WentHere would shown lost old new
went_here lost Steps would shown old new s does loses =
    let stands = still_alone shown old new s does.asked does.fits in
    let rise = rises_here old new (trace_of old.stack.at.here) (trace_of new.stack.at.here) does.before does.behind (counted_here shown old s.fits s.one) (counted_here shown new stands.fits stands.one) does.counts in
    record { stands = stands; calls = steps_here lost would does.state does.after shown does.before does.behind old.stack.at.here new.stack.at.here rise (does.once s.one).calls (loses s.one) }
went_here lost Takes would shown old new s does loses =
    let stands = still_alone shown old new s does.asked does.fits in
    let rise = rises_here old new (trace_of old.stack.at.here) (trace_of new.stack.at.here) does.before does.behind (counted_here shown old s.fits s.one) (counted_here shown new stands.fits stands.one) does.counts in
    let reads : does.behind ≡ piece_read old.stack.at.here does.before = subst (λ (a : Access). does.behind ≡ piece_read a does.before) (waiting_here old (no_above shown old s.fits s.one)) does.reads in
    record { stands = stands; calls = takes_here lost would shown does.before does.behind old.stack.at.here new.stack.at.here reads rise (does.once s.one).leaf loses }
went_here lost Gives would shown old new s does loses =
    let stands = still_alone shown old new s does.asked does.fits in
    let none = no_above shown old s.fits s.one in
    let counts = same_here old new (trace_of old.stack.at.here) (trace_of new.stack.at.here) (counted_here shown old s.fits s.one) (counted_here shown new stands.fits stands.one) does.counts in
    record { stands = stands; calls = gives_here lost would shown does.state does.after does.piece does.given old new (waiting_here old none) (waited_here old new none (no_above shown new stands.fits stands.one)) does.answers does.obeys counts }

-- ALL CALLS: what each of them keeps, of an access that lost so many, holds of the last one

-- a call by some judge that is bounded takes what holds with some lost to what holds with more
abbrev pub KeepsOn : (ℕ → Access → Type 0) → Shown → Type 0
KeepsOn P shown =
    (m k n : ℕ) (would : ℕ → Facts → Ruling) (a b : Access) → IsBounded would → AccessFits a shown → AccessFits b shown → CallsHere would shown k a b → m + k ≤ n → P m a → P n b

pub record Kept (P : ℕ → Access → Type 0) (shown : Shown) (lost : ℕ) (p : Planned) : Type 0 where
  pub stands : StandsAlone shown p
  pub holds : P lost p.stack.at.here

pub all_kept : (P : ℕ → Access → Type 0) (shown : Shown) (calls : List PlanCall) (lost : ℕ) (old new : Planned) → KeepsOn P shown → StandsAlone shown old → ((n : ℕ) → P n old.stack.at.here) → PlanSpendsAll calls shown lost old new → Kept P shown lost new
all_kept P shown [] lost old new keeps s start same = subst (Kept P shown lost) (sym same) (record { stands = s; holds = start lost })
all_kept P shown (call ∷ calls) lost old new keeps s start made =
    let mid = made.0 in
    let spends = made.4 in
    let first = all_kept P shown calls made.1 old mid keeps s start made.3 in
    let went = went_here made.2 call spends.would shown mid new first.stands spends.does spends.loses in
    record {
      stands = went.stands;
      holds = keeps made.1 made.2 lost spends.would mid.stack.at.here new.stack.at.here spends.bounded first.stands.fits.holds.stack.at.here went.stands.fits.holds.stack.at.here went.calls made.5 first.holds;
    }

-- what was lost

pub more_lost : (all one m k n : ℕ) → all ≤ m → one ≤ k → m + k ≤ n → all + one ≤ n
more_lost all one m k n h g l = omega (arith, h, g, l)

pub less_lost : (all m k n : ℕ) → all ≤ m → m + k ≤ n → all ≤ n
less_lost all m k n h l = omega (arith, h, l)
