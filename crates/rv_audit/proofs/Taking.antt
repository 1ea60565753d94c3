-- What the code that makes a session's next call finds.
use Rattle.std.proofs.Common.{◌≡◌, ◌↔◌, ℕ, ◌+◌, ◌-◌, ◌<◌, ◌≤◌, List, Bool, true, false, IsTrue, Option, Some, None, ap, sym, subst, ◌∙◌, length, arith}
use Rattle.std.proofs.lemmas.Bool.{both_ways}
use Rattle.std.proofs.lemmas.List.{get_or-set_other, get_or-set_same, length-set}
use Rattle.std.specs.List.{slice_get, slice_index, slice_set}
use Rattle.rv_audit.specs.declared.calls.Call.{Call}
use Rattle.rv_audit.specs.Calls.{IsNextOf}
use Rattle.rv_audit.specs.Places.{all_wait, Makes, Refuses, Stands}
use Rattle.rv_audit.proofs.Placing.{makes, refuse_end, refuse_text, refuse_wait, IsSet}

-- the place of a session, by its number as the code has it
moved : (calls : List Call) (places : List ℕ) (n session : ℕ) (o : Option Call) → n ≡ session → slice_get calls (slice_index places (n - 1)) ≡ o → slice_get calls (slice_index places (session - 1)) ≡ o
moved calls places n session o same e = ap (λ k. slice_get calls (slice_index places (k - 1))) (sym same) ∙ e

pub end_refuses : (calls : List Call) (places : List ℕ) (n session : ℕ) (text : List ℕ) → n ≡ session → slice_get calls (slice_index places (n - 1)) ≡ None → Refuses calls places session text
end_refuses calls places n session text same e = refuse_end calls places session text (moved calls places n session None same e)

pub text_refuses : (calls : List Call) (places : List ℕ) (n session : ℕ) (text : List ℕ) (c : Call) (b : Bool) → Stands calls places → 1 ≤ session → session ≤ 8 → n ≡ session → slice_get calls (slice_index places (n - 1)) ≡ Some c → (IsTrue b ↔ (c.text ≡ text)) → b ≡ false → Refuses calls places session text
text_refuses calls places n session text c b h from to same e is f = refuse_text calls places session text c (h.each session from to) (moved calls places n session (Some c) same e) (λ equal. both_ways b f (is.1 equal))

pub wait_refuses : (calls : List Call) (places : List ℕ) (n session : ℕ) (text : List ℕ) (c : Call) (b : Bool) → Stands calls places → 1 ≤ session → session ≤ 8 → n ≡ session → slice_get calls (slice_index places (n - 1)) ≡ Some c → b ≡ all_wait calls places c.phase → b ≡ false → Refuses calls places session text
wait_refuses calls places n session text c b h from to same e is f = refuse_wait calls places session text c (h.each session from to) (moved calls places n session (Some c) same e) (sym is ∙ f)

set_is : (old : List ℕ) (place at : ℕ) → place < length old → IsSet old place at (slice_set old place at)
set_is old place at less = record { long = length-set old place at; here = get_or-set_same old place at 0 less; others = λ k other. get_or-set_other old place k at 0 other }

pub takes : (calls : List Call) (places : List ℕ) (n session : ℕ) (text : List ℕ) (c : Call) (b w : Bool) (at : ℕ) → Stands calls places → 1 ≤ session → session ≤ 8 → n ≡ session → slice_get calls (slice_index places (n - 1)) ≡ Some c → (IsTrue b ↔ (c.text ≡ text)) → b ≡ true → w ≡ all_wait calls places c.phase → w ≡ true → IsNextOf calls (slice_index places (n - 1) + 1) session at → Makes calls places session text c.phase (slice_set places (n - 1) at)
takes calls places n session text c b w at h from to same e is t waits u next =
    let eight = h.eight in
    let less : session - 1 < length places = omega (arith, eight, from, to) in
    subst (λ k. Makes calls places session text c.phase (slice_set places (k - 1) at)) (sym same) (
    makes calls places (slice_set places (session - 1) at) session text c at h from to (moved calls places n session (Some c) same e) (is.0 t) (sym waits ∙ u) (subst (λ k. IsNextOf calls (slice_index places (k - 1) + 1) session at) same next) (set_is places (session - 1) at less))
