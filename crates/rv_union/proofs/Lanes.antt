-- What the calls on the present member do to the union.
use Rattle.std.proofs.Common.{◌≡◌, ◌↔◌, ℕ, ◌+◌, ◌-◌, ◌<◌, ◌≤◌, ◌++◌, List, length, length-append, Bool, true, false, not, ◌&&◌, ◌||◌, refl, ap, sym, ◌∙◌, arith, subst, Option, Some, None, is_some, IsTrue}
use Rattle.rv_value.specs.declared.record.IndexEntry.{IndexEntry}
use Rattle.rv_judge.specs.declared.judging.Facts.{Facts}
use Rattle.rv_judge.specs.Counting.{one_more}
use Rattle.rv_judge.specs.Verdicts.{Ruling}
use Rattle.rv_keylist.specs.Keys.{has_key}
use Rattle.rv_restrict.specs.Parts.{Parted}
use Rattle.rv_keylist.proofs.Onces.{key_append}
use Rattle.rv_jscan.specs.declared.piece.PieceId.{PieceId}
use Rattle.rv_jscan.specs.Entries.{has_entry}
use Rattle.rv_jscan.specs.Joint.{passing}
use Rattle.rv_jscan.specs.Lanes.{IsOwn, Laned, passed}
use Rattle.rv_jscan.specs.Pieces.{Pieced, kept_by}
use Rattle.rv_jscan.specs.Steps.{piece_counted}
use Rattle.rv_jscan.proofs.Kept.{kept_has}
use Rattle.rv_union.specs.Given.{Awaits, next_id, with_lane}
use Rattle.rv_union.specs.Rulings.{Completes, IsRuled, Obeys, accepted, facts_of, kept_of, lacks}
use Rattle.rv_keyset.specs.Sets.{AreApart}
use Rattle.rv_union.specs.Unioned.{Unioned, present}
use Rattle.rv_final.specs.Shell.{scanning}
use Rattle.rv_final.proofs.LaneWork.{kept_few}

-- The lane.

pub lane_kept : (r : Unioned) (l : Laned) → l ≡ r.lane → with_lane l r ≡ r
lane_kept r l e = ap (λ (x : Laned). with_lane x r) e

pub lane_held : (r : Unioned) (l : Laned) → l ≡ record r.lane { held = l.held } → with_lane l r ≡ with_lane (record r.lane { held = l.held }) r
lane_held r l e = ap (λ (x : Laned). with_lane x r) e

-- what a list lacks stays apart from it
pub kept_apart : (keys built : List ℕ) (part : Parted) (entries : List IndexEntry) → AreApart keys built → AreApart keys (built ++ kept_by (lacks keys) part entries)
kept_apart keys built part entries a = record {
  apart = λ n. ap (λ (b : Bool). has_key n keys && b) (key_append n built (kept_by (lacks keys) part entries) ∙ ap (λ (b : Bool). has_key n built || b) (kept_has (lacks keys) part n entries)) ∙ both_off (has_key n keys) (has_key n built) (has_entry n (passing part entries)) (a.apart n);
}
  where
    both_off : (k b e : Bool) → (k && b) ≡ false → (k && (b || (e && not k))) ≡ false
    both_off true true e h = h
    both_off true false true h = refl
    both_off true false false h = refl
    both_off false b e h = refl

-- The awaited piece.

pub own_awaits : (r : Unioned) (piece : Pieced) (b : Bool) (id : PieceId) → scanning r.control ≡ true → id ≡ next_id r → (IsTrue b ↔ IsOwn (present r) id r.lane piece) → (IsTrue b ↔ Awaits r piece)
own_awaits r piece b id back is own = (forth, hither)
  where
    forth : IsTrue b → Awaits r piece
    forth t = let o = own.0 t in record { under_way = back; own = record { named = o.named ∙ is; part = o.part; entries = o.entries } }

    hither : Awaits r piece → IsTrue b
    hither a = own.1 (record { named = a.own.named ∙ sym is; part = a.own.part; entries = a.own.entries })

-- what is counted of a piece
pub piece_counts : (old mid new : Unioned) (piece : Pieced) (last : Bool) (before built count : ℕ) → mid ≡ with_lane (passed (lacks old.keys) piece old.lane) old → before ≡ length old.lane.building → built ≡ length mid.lane.building → count ≡ length piece.entries → new ≡ record mid { count = piece_counted mid.count count (built - before) last; number = one_more mid.number } → new ≡ accepted piece last old
piece_counts old mid new piece last before built count m b u e n =
    let l = passed (lacks old.keys) piece old.lane in
    let kept : built - before ≡ length (kept_of old piece) = let long : length mid.lane.building ≡ length (old.lane.building ++ kept_of old piece) = ap (λ (x : Unioned). length x.lane.building) m in let sum = length-append old.lane.building (kept_of old piece) in omega arith in
    n
    ∙ ap (λ (x : Unioned). record x { count = piece_counted x.count count (built - before) last; number = one_more x.number }) m
    ∙ ap (λ (k : ℕ). record (with_lane l old) { count = piece_counted old.count count k last; number = one_more old.number }) kept
    ∙ ap (λ (k : ℕ). record (with_lane l old) { count = piece_counted old.count k (length (kept_of old piece)) last; number = one_more old.number }) e

-- room for the keys is room for them once the piece was accepted
pub enough_room : (old mid : Unioned) (piece : Pieced) (last : Bool) (more spare : ℕ) → mid ≡ accepted piece last old → more ≡ length piece.entries → length old.keys + length old.lane.building + more ≤ spare → length mid.keys + length mid.lane.building ≤ spare
enough_room old mid piece last more spare m e room =
    let keys = ap (λ (x : Unioned). length x.keys) m in
    let built = ap (λ (x : Unioned). length x.lane.building) m in
    let sum = length-append old.lane.building (kept_of old piece) in
    let few = kept_few (lacks old.keys) piece in
    omega arith

pub small_room : (old mid : Unioned) (piece : Pieced) (last : Bool) (more most : ℕ) → mid ≡ accepted piece last old → more ≡ length piece.entries → length old.keys + length old.lane.building + more < most → length mid.keys + length mid.lane.building < most
small_room old mid piece last more most m e room =
    let keys = ap (λ (x : Unioned). length x.keys) m in
    let built = ap (λ (x : Unioned). length x.lane.building) m in
    let sum = length-append old.lane.building (kept_of old piece) in
    let few = kept_few (lacks old.keys) piece in
    omega arith

-- What becomes of the member of an accepted piece.

-- where it was the last one its member completed, else the judge is asked
pub obeys_by : (would : ℕ → Facts → Ruling) (state after : ℕ) (piece : Pieced) (old mid new : Unioned) (last : Bool) (next : Option IndexEntry) → is_some next ≡ not last → (last ≡ true → Completes (accepted piece true old) mid) → (last ≡ false → mid ≡ accepted piece false old) → (last ≡ true → new ≡ mid) → (last ≡ true → after ≡ state) → (last ≡ false → IsRuled (would state (facts_of mid)) after mid new) → Obeys would state after piece next old new
obeys_by would state after piece old mid new true None n done more same quiet rules = (subst (Completes (accepted piece true old)) (sym (same refl)) (done refl), quiet refl)
obeys_by would state after piece old mid new true (Some cut) n done more same quiet rules = absurd (cc)
obeys_by would state after piece old mid new false (Some cut) n done more same quiet rules = subst (λ (x : Unioned). IsRuled (would state (facts_of x)) after x new) (more refl) (rules refl)
obeys_by would state after piece old mid new false None n done more same quiet rules = absurd (cc)
