-- The calls of phases whose sessions are threads, up to a phase.
use Rattle.std.proofs.Common.{◌≡◌, ℕ, ◌+◌, ◌<◌, ◌≤◌, ◌==◌, ◌&&◌, List, [], ◌∷◌, ◌++◌, refl, sym, ap, subst, ◌∙◌, arith, suc, zero, Bool, true, false, map, inl, inr, append_assoc, append-nil, take, length, nat_le, All}
use Rattle.std.proofs.lemmas.Bool.{cases_Bool, eqb-true}
use Rattle.std.proofs.lemmas.List.{length-take-le, map-append, take_all, take_more}
use Rattle.std.proofs.lemmas.Bool.Decides.{nat_tests}
use Rattle.std.proofs.lemmas.List.Elements.{All-weaker, filter-append, recursion_from_All}
use Rattle.std.specs.List.{AllByRecursion, slice_index_or}
use Rattle.rv_script.specs.declared.scripts.Line.{Line}
use Rattle.rv_script.specs.declared.scripts.Phase.{Phase}
use Rattle.rv_script.specs.declared.scripts.Script.{Script}
use Rattle.rv_model.specs.declared.entry.Entry.{Entry}
use Rattle.rv_believed.specs.Database.{Database, empty}
use Rattle.rv_believed.specs.History.{IsLegal, Leads}
use Rattle.rv_gen.specs.Workload.{IsCall}
use Rattle.rv_core.specs.Core.{Shown}
use Rattle.rv_phases.specs.Phase.{Call as OwnCall, PhaseDone, asked, own}
use Rattle.rv_run.specs.Script.{Call, HasAllCalls, HasFirstCalls, call, calls_from, calls_in, calls_made, of_session}
use Rattle.rv_run.specs.Making.{FitsPhase, FitsScript, MadeFirst, no_phase}

-- ---- a session's calls as a phase tells them

abbrev again : ℕ → List OwnCall → List Call
again session cs = map (λ (c : OwnCall). call session c.phase c.text) cs

own_again : (session : ℕ) (h : List Entry) → of_session session (calls_made h) ≡ again session (own session h)
own_again session [] = refl
own_again session (e ∷ es) =
    let rest = own_again session es in
    elim (cases_Bool (e.session == session)) [
      | inl t ↦ rw t (ap (λ (n : ℕ). call n e.phase e.text ∷ of_session session (calls_made es)) (eqb-true e.session session t) ∙ ap (λ (cs : List Call). call session e.phase e.text ∷ cs) rest)
      | inr f ↦ rw f rest
    ]

asked_again : (session phase : ℕ) (lines : List Line) → of_session session (calls_in phase lines) ≡ again session (asked session phase lines)
asked_again session phase [] = refl
asked_again session phase (l ∷ ls) =
    let rest = asked_again session phase ls in
    elim (cases_Bool (l.session == session)) [
      | inl t ↦ rw t (ap (λ (n : ℕ). call n phase l.text ∷ of_session session (calls_in phase ls)) (eqb-true l.session session t) ∙ ap (λ (cs : List Call). call session phase l.text ∷ cs) rest)
      | inr f ↦ rw f rest
    ]

both : (session : ℕ) (cs ds : List Call) → of_session session (cs ++ ds) ≡ of_session session cs ++ of_session session ds
both session cs ds = filter-append (λ (c : Call). c.session == session) cs ds

gained : (session phase : ℕ) (lines : List Line) (old new : List Entry) → own session new ≡ own session old ++ asked session phase lines
    → of_session session (calls_made new) ≡ of_session session (calls_made old) ++ of_session session (calls_in phase lines)
gained session phase lines old new e =
    own_again session new
    ∙ ap (again session) e
    ∙ map-append (λ (c : OwnCall). call session c.phase c.text) (own session old) (asked session phase lines)
    ∙ ap (λ (cs : List Call). cs ++ again session (asked session phase lines)) (sym (own_again session old))
    ∙ ap (λ (cs : List Call). of_session session (calls_made old) ++ cs) (sym (asked_again session phase lines))

-- ---- one phase more

calls_from-append : (first : ℕ) (ps qs : List Phase) → calls_from first (ps ++ qs) ≡ calls_from first ps ++ calls_from (first + length ps) qs
calls_from-append first [] qs = let at : first ≡ first + 0 = omega arith in ap (λ (n : ℕ). calls_from n qs) at
calls_from-append first (p ∷ ps) qs =
    let at : (first + 1) + length ps ≡ first + suc (length ps) = omega arith in
    ap (λ (cs : List Call). calls_in first p.lines ++ cs) (calls_from-append (first + 1) ps qs)
    ∙ ap (λ (n : ℕ). calls_in first p.lines ++ (calls_from (first + 1) ps ++ calls_from n qs)) at
    ∙ sym (append_assoc (calls_in first p.lines) (calls_from (first + 1) ps) (calls_from (first + suc (length ps)) qs))

take_one : (ps : List Phase) (i : ℕ) (p : Phase) → i < length ps → p ≡ slice_index_or ps i p → take (i + 1) ps ≡ take i ps ++ p ∷ []
take_one ps i p within is = take_more ps i p within ∙ ap (λ (q : Phase). take i ps ++ q ∷ []) (sym is)

calls_more : (i : ℕ) (ps : List Phase) (p : Phase) → i < length ps → p ≡ slice_index_or ps i p → calls_from 1 (take (i + 1) ps) ≡ calls_from 1 (take i ps) ++ calls_in (i + 1) p.lines
calls_more i ps p within is =
    let at : 1 + length (take i ps) ≡ i + 1 = let n = length-take-le i ps (omega (arith, within)) in omega (arith, n) in
    ap (calls_from 1) (take_one ps i p within is)
    ∙ calls_from-append 1 (take i ps) (p ∷ [])
    ∙ ap (λ (cs : List Call). calls_from 1 (take i ps) ++ cs) (append-nil (calls_in (1 + length (take i ps)) p.lines))
    ∙ ap (λ (n : ℕ). calls_from 1 (take i ps) ++ calls_in n p.lines) at

-- up to a phase, each of the eight sessions has its calls
abbrev pub UpTo : ℕ → List Entry → List Phase → Type 0
UpTo i h ps = (session : ℕ) → 1 ≤ session → session ≤ 8 → of_session session (calls_made h) ≡ of_session session (calls_from 1 (take i ps))

phase_whole : (i : ℕ) (ps : List Phase) (p : Phase) (lines : List Line) (short : Bool) (old new : List Entry) → i < length ps → p ≡ slice_index_or ps i p → lines ≡ p.lines → short ≡ false → UpTo i old ps → PhaseDone lines short (i + 1) old new → UpTo (i + 1) new ps
phase_whole i ps p lines short old new within is same whole up done = λ session low high.
    let made = done.each session low high in
    let all : take made.count lines ≡ lines = take_all made.count lines (let all = made.all whole in omega (arith, all)) in
    gained session (i + 1) (take made.count lines) old new made.calls
    ∙ ap (λ (cs : List Call). cs ++ of_session session (calls_in (i + 1) (take made.count lines))) (up session low high)
    ∙ ap (λ (ls : List Line). of_session session (calls_from 1 (take i ps)) ++ of_session session (calls_in (i + 1) ls)) (all ∙ same)
    ∙ sym (ap (of_session session) (calls_more i ps p within is) ∙ both session (calls_from 1 (take i ps)) (calls_in (i + 1) p.lines))

-- where a phase was cut short, or not
phase_stops : (i : ℕ) (ps : List Phase) (lines : List Line) (short : Bool) (old new : List Entry) → lines ≡ (slice_index_or ps i no_phase).lines → UpTo i old ps → PhaseDone lines short (i + 1) old new → MadeFirst new ps
phase_stops i ps lines short old new same up done = record {
  phases = i;
  each = λ session low high.
      let made = done.each session low high in (
        made.count,
        gained session (i + 1) (take made.count lines) old new made.calls
            ∙ ap (λ (cs : List Call). cs ++ of_session session (calls_in (i + 1) (take made.count lines))) (up session low high)
            ∙ ap (λ (ls : List Line). of_session session (calls_from 1 (take i ps)) ++ of_session session (calls_in (i + 1) (take made.count ls))) same
            ∙ sym (both session (calls_from 1 (take i ps)) (calls_in (i + 1) (take made.count (slice_index_or ps i no_phase).lines))),
      );
}

-- whole phases are the first ones
pub first_phases : (i : ℕ) (h : List Entry) (ps : List Phase) → UpTo i h ps → MadeFirst h ps
first_phases i h ps up = record {
  phases = i;
  each = λ session low high. (0, up session low high ∙ ap (of_session session) (sym (append-nil (calls_from 1 (take i ps)))));
}

-- up to the end they are all
pub all_phases : (i : ℕ) (h : List Entry) (ps : List Phase) → length ps ≤ i → UpTo i h ps → (session : ℕ) → 1 ≤ session → session ≤ 8 → of_session session (calls_made h) ≡ of_session session (calls_from 1 ps)
all_phases i h ps past up = λ session low high. up session low high ∙ ap (λ (qs : List Phase). of_session session (calls_from 1 qs)) (take_all i ps past)

-- the same, as the code goes over the phases

any_default : (ps : List Phase) (i : ℕ) (p q : Phase) → i < length ps → slice_index_or ps i p ≡ slice_index_or ps i q
any_default [] i p q within = absurd (let none = within in omega (arith, none))
any_default (x ∷ ps) zero p q within = refl
any_default (x ∷ ps) (suc i) p q within = any_default ps i p q (omega (arith, within))

module _ {S : Type 0} (core entered : Shown S) (new : List Entry) (number i : ℕ) (ps : List Phase) (p : Phase) (lines : List Line) (short : Bool) (n : number ≡ i) (within : i < length ps) (is : p ≡ slice_index_or ps i p) (same : lines ≡ p.lines) (gone : entered ≡ record core { phase = number + 1 }) (up : UpTo i core.history ps) (done : PhaseDone lines short entered.phase entered.history new) where
  begun : PhaseDone lines short (i + 1) core.history new
  begun =
      let history : entered.history ≡ core.history = ap (λ (c : Shown S). c.history) gone in
      let phase : entered.phase ≡ i + 1 = ap (λ (c : Shown S). c.phase) gone ∙ ap (λ (k : ℕ). k + 1) n in
      subst (λ (h : List Entry). PhaseDone lines short (i + 1) h new) history (subst (λ (k : ℕ). PhaseDone lines short k entered.history new) phase done)

  pub phase_whole_at : short ≡ false → UpTo (i + 1) new ps
  phase_whole_at whole = phase_whole i ps p lines short core.history new within is same whole up begun

  pub phase_stops_at : MadeFirst new ps
  phase_stops_at = phase_stops i ps lines short core.history new (same ∙ ap (λ (q : Phase). q.lines) (is ∙ any_default ps i p no_phase within)) up begun

-- ---- the other sessions have none

abbrev Is : ℕ → Type 0
Is session = (nat_le 1 session && nat_le session 8) ≡ false

outside : (session other : ℕ) → Is session → 1 ≤ other → other ≤ 8 → (other == session) ≡ false
outside session other out low high = grind (arith, nat_tests)

inside_low : (session : ℕ) → (nat_le 1 session && nat_le session 8) ≡ true → 1 ≤ session
inside_low session t = grind (arith, nat_tests)

inside_high : (session : ℕ) → (nat_le 1 session && nat_le session 8) ≡ true → session ≤ 8
inside_high session t = grind (arith, nat_tests)

made_none : (session : ℕ) → Is session → (d last : Database) (phase : ℕ) (h : List Entry) → Leads d phase h last → of_session session (calls_made h) ≡ []
made_none session out d last phase [] leads = refl
made_none session out d last phase (e ∷ es) leads = rw (outside session e.session out leads.1.from leads.1.to) (made_none session out leads.0 last e.phase es leads.2)

in_none : (session phase : ℕ) → Is session → (lines : List Line) → AllByRecursion IsCall lines → of_session session (calls_in phase lines) ≡ []
in_none session phase out [] all = refl
in_none session phase out (l ∷ ls) all = rw (outside session l.session out all.0.from all.0.to) (in_none session phase out ls all.1)

-- the lines of phases may be called
abbrev pub CallsFit : List Phase → Type 0
CallsFit ps = AllByRecursion (λ (p : Phase). AllByRecursion IsCall p.lines) ps

from_none : (session phase : ℕ) → Is session → (ps : List Phase) → CallsFit ps → of_session session (calls_from phase ps) ≡ []
from_none session phase out [] all = refl
from_none session phase out (p ∷ ps) all =
    both session (calls_in phase p.lines) (calls_from (phase + 1) ps)
    ∙ ap (λ (cs : List Call). cs ++ of_session session (calls_from (phase + 1) ps)) (in_none session phase out p.lines all.0)
    ∙ from_none session (phase + 1) out ps all.1

-- so what holds of the eight sessions holds of all
pub whole_all : (h : List Entry) (script : Script) → IsLegal h → CallsFit script.phases → ((session : ℕ) → 1 ≤ session → session ≤ 8 → of_session session (calls_made h) ≡ of_session session (calls_from 1 script.phases)) → HasAllCalls h script
whole_all h script legal fits eight = λ session. elim (cases_Bool (nat_le 1 session && nat_le session 8)) [
  | inl t ↦ eight session (inside_low session t) (inside_high session t)
  | inr f ↦ made_none session f empty legal.0 0 h legal.1 ∙ sym (from_none session 1 f script.phases fits)
]

first_fit : (ps : List Phase) (k : ℕ) → CallsFit ps → CallsFit (take k ps)
first_fit ps zero all = tt
first_fit [] (suc k) all = tt
first_fit (p ∷ ps) (suc k) all = (all.0, first_fit ps k all.1)

pub first_all : (h : List Entry) (script : Script) → IsLegal h → CallsFit script.phases → MadeFirst h script.phases → HasFirstCalls h script
first_all h script legal fits f = record {
  phases = f.phases;
  each = λ session. elim (cases_Bool (nat_le 1 session && nat_le session 8)) [
    | inl t ↦ f.each session (inside_low session t) (inside_high session t)
    | inr out ↦ (
      0,
      made_none session out empty legal.0 0 h legal.1
          ∙ sym (ap (of_session session) (append-nil (calls_from 1 (take f.phases script.phases))) ∙ from_none session 1 out (take f.phases script.phases) (first_fit script.phases f.phases fits)),
    )
  ];
}

-- ---- what a script that fits says of its lines

all_lines : (ps : List Phase) → AllByRecursion FitsPhase ps → CallsFit ps
all_lines [] fits = tt
all_lines (p ∷ ps) fits = (recursion_from_All IsCall p.lines fits.0.calls, all_lines ps fits.1)

pub calls_fit : (script : Script) → FitsScript script → CallsFit script.phases
calls_fit script fits = all_lines script.phases (recursion_from_All FitsPhase script.phases fits.fits)

pub texts_short : (lines : List Line) (p : Phase) → lines ≡ p.lines → FitsPhase p → All (λ (l : Line). length l.text ≤ 4096) lines
texts_short lines p same fits = All-weaker IsCall _ (λ l call. call.short) lines (subst (All IsCall) (sym same) fits.calls)
