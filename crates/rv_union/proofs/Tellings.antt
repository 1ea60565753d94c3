-- A union's trace goes on telling of it, with each piece, each end of a member and each verdict.
use Rattle.std.proofs.Common.{◌≡◌, ◌∙◌, ℕ, ◌+◌, ◌<◌, ◌≤◌, List, [], ◌∷◌, ◌++◌, Bool, true, false, ◌||◌, Option, Some, None, length, map, nat_eq, refl, ap, sym, subst, arith, append_assoc, append-nil, length-append, inl, inr, Result, Ok, Err, IfOk, OnErr}
use Rattle.std.specs.Prelude.{if◌then◌else◌}
use Rattle.std.specs.List.{list_all, list_any}
use Rattle.std.proofs.lemmas.List.{length-map, map-append}
use Rattle.std.proofs.lemmas.List.Folds.{list_all-append}
use Rattle.std.proofs.lemmas.Bool.{and_from}
use Rattle.rv_jscan.proofs.Planned.{index_known}
use Rattle.rv_judge.proofs.Rooms.{with_room}
use Rattle.rv_value.specs.declared.record.IndexEntry.{IndexEntry}
use Rattle.rv_judge.specs.declared.counting.Counts.{Counts}
use Rattle.rv_judge.specs.declared.events.Control.{Control}
use Rattle.rv_judge.specs.declared.events.Control.TheVariants.{BackgroundAlone, FinalList, FinalTable, Done}
use Rattle.rv_judge.specs.declared.events.Event.{Event}
use Rattle.rv_judge.specs.declared.events.Event.TheVariants.{At, Scan, List as ListOf, Drop}
use Rattle.rv_judge.specs.declared.events.Happening.TheVariants.{ScanEnded, Ruled, FinalEnded}
use Rattle.rv_judge.specs.declared.events.Strategy.{Strategy}
use Rattle.rv_judge.specs.declared.events.Strategy.TheVariants.{Union}
use Rattle.rv_judge.specs.declared.judging.Facts.{Facts}
use Rattle.rv_judge.specs.declared.judging.Verdict.{Verdict}
use Rattle.rv_judge.specs.declared.judging.Verdict.TheVariants.{Continue, AbandonScan, AbandonForeground, AbandonBackground}
use Rattle.rv_judge.specs.Course.{next_control}
use Rattle.rv_judge.specs.Runs.{Allowed, AllowedBy, UnionTail, has_index, tail_among, tail_events, union_events}
use Rattle.rv_judge.specs.Runs.UnionTail.{Scanning, Fetching, Fetched, Reading, Read}
use Rattle.rv_judge.specs.Tracing.{counted, with_events}
use Rattle.rv_judge.specs.Verdicts.{Ruling}
use Rattle.rv_jscan.specs.declared.jscan.Given.{Given}
use Rattle.rv_jscan.specs.declared.jscan.ScanPlan.{ScanPlan}
use Rattle.rv_jscan.specs.declared.jscan.Taken.{Taken}
use Rattle.rv_jscan.specs.declared.jscan.Taken.TheVariants.{Piece, Nothing}
use Rattle.rv_jscan.specs.Joint.{plan_at}
use Rattle.rv_jscan.specs.Pieces.{Pieced}
use Rattle.rv_jscan.specs.Steps.{held_next}
use Rattle.rv_union.specs.Given.{Answers, TakesPiece}
use Rattle.rv_union.specs.Rulings.{GivesOn, Obeys, accepted, dropped, going_on, gone, index_of, joined, listed, next_member, over, ruled, told, was_begun}
use Rattle.rv_jscan.specs.Planned.{indexes_of}
use Rattle.rv_union.specs.Runs.{IsOfUndropped, OfFewIndexes, Tells, is_drop, tail_control}
use Rattle.rv_union.specs.Unioned.{Unioned, present}
use Rattle.rv_final.specs.Shell.{scanning, IsFinal}
use Rattle.rv_final.proofs.Endings.{final_done}
use Rattle.rv_final.proofs.Givings.{given_holds}
use Rattle.rv_union.proofs.Few.{all_among, few, once_push, pushed_there, some_index}
use Rattle.rv_union.proofs.Switches.{dropped_leads, drops, listed_leads, over_as}

-- THE EVENTS

abbrev scans : List ℕ → List Event
scans begun = map (λ (i : ℕ). Scan i) begun

-- events behind those of the tail
behind : (begun : List ℕ) (tail es : List Event) → (At BackgroundAlone ∷ (scans begun ++ tail)) ++ es ≡ At BackgroundAlone ∷ (scans begun ++ (tail ++ es))
behind begun tail es = ap (λ (x : List Event). At BackgroundAlone ∷ x) (append_assoc (scans begun) tail es)

-- two events
two_more : (items : List Event) (a b : Event) → length items + 2 ≤ 32 → with_events (with_events items (a ∷ [])) (b ∷ []) ≡ items ++ a ∷ b ∷ []
two_more items a b h =
    let one = length-append items (a ∷ []) in
    ap (λ (es : List Event). with_events es (b ∷ [])) (with_room items (a ∷ []) (omega arith)) ∙ with_room (items ++ a ∷ []) (b ∷ []) (omega arith) ∙ append_assoc items (a ∷ []) (b ∷ [])

-- a trace of a few scans is short
short : (u : Unioned) (t : Tells u) → length t.begun ≤ 8
short u t =
    let among = all_among t.begun (indexes_of u.plans) t.few.indexes t.known t.few.among in
    let less = few t.begun t.few.indexes t.once among in
    let eight = t.few.few in
    omega arith

tail_short : (tail : UnionTail) → length (tail_events tail) ≤ 3
tail_short Scanning = omega arith
tail_short (Fetching i keys) = omega arith
tail_short (Fetched i keys) = omega arith
tail_short (Reading i) = omega arith
tail_short (Read i) = omega arith

room : (u : Unioned) (t : Tells u) → length u.trace.events.items ≤ 12
room u t =
    let is = ap length t.told in
    let sum = length-append (scans t.begun) (tail_events t.tail) in
    let mapped = length-map t.begun (λ (i : ℕ). Scan i) in
    let begun = short u t in
    let tail = tail_short t.tail in
    omega arith

-- WHILE MEMBERS ARE SCANNED

scanning_tail : (tail : UnionTail) (c : Control) → tail_control tail ≡ c → scanning c ≡ true → tail ≡ Scanning
scanning_tail Scanning c e back = refl
scanning_tail (Fetching i keys) c e back = absurd (let bad : false ≡ true = ap scanning e ∙ back in cc)
scanning_tail (Fetched i keys) c e back = absurd (let bad : false ≡ true = ap scanning e ∙ back in cc)
scanning_tail (Reading i) c e back = absurd (let bad : false ≡ true = ap scanning e ∙ back in cc)
scanning_tail (Read i) c e back = absurd (let bad : false ≡ true = ap scanning e ∙ back in cc)

-- no event stands behind the scans
told_scans : (u : Unioned) → scanning u.control ≡ true → (t : Tells u) → u.trace.events.items ≡ At BackgroundAlone ∷ (scans t.begun ++ [])
told_scans u back t = t.told ∙ ap (union_events t.begun) (scanning_tail t.tail u.control t.at back)

-- the events tell which indexes were scanned
told_begun : (i : ℕ) (begun : List ℕ) → was_begun i (scans begun ++ []) ≡ has_index i begun
told_begun i [] = refl
told_begun i (k ∷ begun) = ap (λ (b : Bool). nat_eq k i || b) (told_begun i begun)

-- another union whose trace has the same events, and which stands where it stood
pub aside_tells : (u new : Unioned) → new.plans ≡ u.plans → new.member ≡ u.member → new.trace.events.items ≡ u.trace.events.items → new.trace.strategy ≡ u.trace.strategy → new.control ≡ u.control → Tells u → Tells new
aside_tells u new plans member items named control t =
    let index : index_of new ≡ index_of u = ap (λ (ps : List ScanPlan). (plan_at ps new.member).index) plans ∙ ap (λ (k : ℕ). (plan_at u.plans k).index) member in
    record {
      named = named ∙ t.named;
      begun = t.begun;
      tail = t.tail;
      told = items ∙ t.told;
      at = t.at ∙ sym control;
      present = ap (λ (i : ℕ). has_index i t.begun) index ∙ t.present;
      among = t.among;
      once = t.once;
      known = subst (λ (ps : List ScanPlan). list_all (λ i. has_index i (indexes_of ps)) t.begun ≡ true) (sym plans) t.known;
      few = subst OfFewIndexes (sym plans) t.few;
    }

-- A MEMBER IS OVER

-- the next member begins
going_tells : (u : Unioned) → scanning u.control ≡ true → u.member + 1 < length u.plans → Tells u → Tells (going_on u)
going_tells u back l t = by (was_begun index u.trace.events.items) refl
  where
    index : ℕ
    index = index_of (next_member u)

    events : u.trace.events.items ≡ At BackgroundAlone ∷ (scans t.begun ++ [])
    events = told_scans u back t

    was : was_begun index u.trace.events.items ≡ has_index index t.begun
    was = ap (was_begun index) events ∙ told_begun index t.begun

    by : (b : Bool) → was_begun index u.trace.events.items ≡ b → Tells (if b then next_member u else told (Scan index) (next_member u))
    by true e = record {
      named = t.named;
      begun = t.begun;
      tail = t.tail;
      told = t.told;
      at = t.at;
      present = sym was ∙ e;
      among = t.among;
      once = t.once;
      known = t.known;
      few = t.few;
    }
    by false e =
        let small = room u t in
        record {
          named = t.named;
          begun = t.begun ++ index ∷ [];
          tail = Scanning;
          told = with_room u.trace.events.items (Scan index ∷ []) (omega arith)
              ∙ ap (λ (es : List Event). es ++ Scan index ∷ []) events
              ∙ ap (λ (es : List Event). (At BackgroundAlone ∷ es) ++ Scan index ∷ []) (append-nil (scans t.begun))
              ∙ ap (λ (es : List Event). At BackgroundAlone ∷ es) (sym (map-append (λ (i : ℕ). Scan i) t.begun (index ∷ [])))
              ∙ ap (λ (es : List Event). At BackgroundAlone ∷ es) (sym (append-nil (scans (t.begun ++ index ∷ []))));
          at = ap tail_control (sym (scanning_tail t.tail u.control t.at back)) ∙ t.at;
          present = pushed_there t.begun index;
          among = refl;
          once = once_push t.begun index t.once (sym was ∙ e);
          known = list_all-append (λ i. has_index i (indexes_of u.plans)) t.begun (index ∷ []) ∙ and_from (list_all (λ i. has_index i (indexes_of u.plans)) t.begun) (list_all (λ i. has_index i (indexes_of u.plans)) (index ∷ [])) t.known (and_from (has_index index (indexes_of u.plans)) true (index_known u.plans (u.member + 1) l) refl);
          few = t.few;
        }

-- the list is fetched
listed_tells : (u : Unioned) → scanning u.control ≡ true → Tells u → Tells (listed u)
listed_tells u back t =
    let i = index_of u in
    let n = length u.keys in
    let leads = listed_leads u back in
    let small = room u t in
    record {
      named = t.named;
      begun = t.begun;
      tail = Fetching i n;
      told = two_more u.trace.events.items (ListOf i n) (At (next_control Union u.control (ScanEnded false true))) (omega arith)
          ∙ ap (λ (c : Control). u.trace.events.items ++ ListOf i n ∷ At c ∷ []) leads
          ∙ ap (λ (es : List Event). es ++ ListOf i n ∷ At FinalList ∷ []) (told_scans u back t)
          ∙ behind t.begun [] (ListOf i n ∷ At FinalList ∷ []);
      at = sym leads;
      present = t.present;
      among = t.present;
      once = t.once;
      known = t.known;
      few = t.few;
    }

pub over_tells : (u : Unioned) → scanning u.control ≡ true → Tells u → Tells (over u)
over_tells u back t = over_as Tells u (λ l. going_tells u back l t) (λ l. listed_tells u back t)

-- A VERDICT

dropped_tells : (u : Unioned) (v : Verdict) → drops v ≡ true → scanning u.control ≡ true → Tells u → Tells (dropped v u)
dropped_tells u v d back t =
    let i = index_of u in
    let leads = dropped_leads u v d back in
    let small = room u t in
    record {
      named = t.named;
      begun = t.begun;
      tail = Reading i;
      told = two_more u.trace.events.items (Drop i) (At (next_control Union u.control (Ruled v false false))) (omega arith)
          ∙ ap (λ (c : Control). u.trace.events.items ++ Drop i ∷ At c ∷ []) leads
          ∙ ap (λ (es : List Event). es ++ Drop i ∷ At FinalTable ∷ []) (told_scans u back t)
          ∙ behind t.begun [] (Drop i ∷ At FinalTable ∷ []);
      at = sym leads;
      present = t.present;
      among = t.present;
      once = t.once;
      known = t.known;
      few = t.few;
    }

accepted_tells : (piece : Pieced) (last : Bool) (u : Unioned) → Tells u → Tells (accepted piece last u)
accepted_tells piece last u t = aside_tells u (accepted piece last u) refl refl refl refl refl t

ruled_tells : (verdict : Verdict) (u : Unioned) → scanning u.control ≡ true → Tells u → Tells (ruled verdict u)
ruled_tells Continue u back t = t
ruled_tells AbandonForeground u back t = t
ruled_tells AbandonScan u back t = dropped_tells u AbandonScan refl back t
ruled_tells AbandonBackground u back t = dropped_tells u AbandonBackground refl back t

obeyed_tells : (would : ℕ → Facts → Ruling) (state after : ℕ) (piece : Pieced) (old new : Unioned) (next : Option IndexEntry) → scanning old.control ≡ true → Obeys would state after piece next old new → Tells old → Tells new
obeyed_tells would state after piece old new (Some cut) back o t = subst Tells (sym o.0) (ruled_tells _ (accepted piece false old) back (accepted_tells piece false old t))
obeyed_tells would state after piece old new None back o t =
    let mid = joined o.0.keys (accepted piece true old) in
    subst Tells (sym o.0.ends) (over_tells mid back (aside_tells old mid refl refl refl refl refl t))

pub gives_tell : {E : Type 0} (r : Result Given E) (would : ℕ → Facts → Ruling) (state after : ℕ) (piece : Pieced) (old new : Unioned) → IfOk r (λ g. Answers old piece g new) → IfOk r (λ g. GivesOn would state after piece g old new) → OnErr r (new ≡ old) → Tells old → Tells new
gives_tell r would state after piece old new a o e t = given_holds r (λ g. Answers old piece g new) (λ g. GivesOn would state after piece g old new) Tells old new (λ a o. obeyed_tells would state after piece old new (held_next old.lane.held) a.under_way o t) (λ asked now o. o.0) a o e t

-- THE FINAL STAGE

-- the source is at its end
abbrev over_tail : UnionTail → UnionTail
over_tail Scanning = Scanning
over_tail (Fetching i keys) = Fetched i keys
over_tail (Fetched i keys) = Fetched i keys
over_tail (Reading i) = Read i
over_tail (Read i) = Read i

-- what one more event makes of a tail
record Ends (tail : UnionTail) (begun : List ℕ) : Type 0 where
  events : tail_events tail ++ At Done ∷ [] ≡ tail_events (over_tail tail)
  at : tail_control (over_tail tail) ≡ Done
  among : tail_among (over_tail tail) begun ≡ tail_among tail begun

final_not : (tail : UnionTail) (c : Control) → tail_control tail ≡ c → IsFinal c → (begun : List ℕ) → Ends tail begun
final_not (Fetching i keys) c e f begun = record { events = refl; at = refl; among = refl }
final_not (Reading i) c e f begun = record { events = refl; at = refl; among = refl }
final_not Scanning c e (inl f) begun = absurd (let bad : BackgroundAlone ≡ FinalList = e ∙ f in cc)
final_not Scanning c e (inr f) begun = absurd (let bad : BackgroundAlone ≡ FinalTable = e ∙ f in cc)
final_not (Fetched i keys) c e (inl f) begun = absurd (let bad : Done ≡ FinalList = e ∙ f in cc)
final_not (Fetched i keys) c e (inr f) begun = absurd (let bad : Done ≡ FinalTable = e ∙ f in cc)
final_not (Read i) c e (inl f) begun = absurd (let bad : Done ≡ FinalList = e ∙ f in cc)
final_not (Read i) c e (inr f) begun = absurd (let bad : Done ≡ FinalTable = e ∙ f in cc)

pub done_tells : (u : Unioned) → IsFinal u.control → Tells u → Tells (gone FinalEnded u)
done_tells u f t =
    let ends = final_not t.tail u.control t.at f t.begun in
    let leads = final_done Union u.control f in
    let small = room u t in
    record {
      named = t.named;
      begun = t.begun;
      tail = over_tail t.tail;
      told = with_room u.trace.events.items (At (next_control Union u.control FinalEnded) ∷ []) (omega arith)
          ∙ ap (λ (c : Control). u.trace.events.items ++ At c ∷ []) leads
          ∙ ap (λ (es : List Event). es ++ At Done ∷ []) t.told
          ∙ behind t.begun (tail_events t.tail) (At Done ∷ [])
          ∙ ap (λ (es : List Event). At BackgroundAlone ∷ (scans t.begun ++ es)) ends.events;
      at = ends.at ∙ sym leads;
      present = t.present;
      among = ends.among ∙ t.among;
      once = t.once;
      known = t.known;
      few = t.few;
    }

-- A TRACE THAT TELLS OF A UNION IS ALLOWED

pub allowed : (u : Unioned) → Tells u → Allowed u.trace (indexes_of u.plans)
allowed u t = subst (λ (st : Strategy). AllowedBy st u.trace (indexes_of u.plans)) (sym t.named) record {
  begun = t.begun;
  some = some_index (index_of u) t.begun t.present;
  known = t.known;
  once = t.once;
  tail = t.tail;
  among = t.among;
  told = t.told;
}

-- A piece that is handed out is of the present member, and none was dropped.

no_drop : (begun : List ℕ) → list_any is_drop (scans begun ++ []) ≡ false
no_drop [] = refl
no_drop (i ∷ begun) = no_drop begun

pub undropped_piece : {E : Type 0} (r : Result Taken E) (mid new : Unioned) (c d : Counts) → IfOk r (TakesPiece mid) → new ≡ record mid { trace = counted mid.trace c d } → Tells new → IfOk r (IsOfUndropped new)
undropped_piece (Ok (Piece piece)) mid new c d a e t =
    let back : scanning new.control ≡ true = ap (λ (x : Unioned). scanning x.control) e ∙ a.under_way in
    (a.own.part ∙ ap (λ (x : Unioned). (present x).part) (sym e), ap (list_any is_drop) (told_scans new back t) ∙ no_drop t.begun)
undropped_piece (Ok Nothing) mid new c d a e t = tt
undropped_piece (Err x) mid new c d a e t = tt
