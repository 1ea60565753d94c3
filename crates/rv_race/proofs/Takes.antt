-- What a take leaves.
use Rattle.std.proofs.Common.{◌≡◌, Bool, true, false, List, refl, ap, sym, ◌∙◌, subst, is_some, Result, Ok, Err, IfOk}
use Rattle.std.specs.Prelude.{if◌then◌else◌}
use Rattle.rv_judge.specs.declared.counting.Counts.{Counts}
use Rattle.rv_judge.specs.declared.events.Trace.{Trace}
use Rattle.rv_judge.specs.Tracing.{counted}
use Rattle.rv_reader.specs.Shown.{Shown}
use Rattle.rv_jscan.specs.declared.piece.PieceId.{PieceId}
use Rattle.rv_jscan.specs.declared.jscan.ScanPlan.{ScanPlan}
use Rattle.rv_jscan.specs.declared.jscan.ScanCounts.{ScanCounts}
use Rattle.rv_jscan.specs.Joint.{CanMake}
use Rattle.rv_jscan.specs.Lanes.{IsOwn, LaneFits, Laned, leaf_once}
use Rattle.rv_jscan.specs.Pieces.{Pieced}
use Rattle.rv_race.specs.Given.{Awaits, TakesLeaf, Took, awaited, counts_read, holding, next_id, one_leaf, piece_read, turn_lane, turn_plan, turn_scan, with_lane}
use Rattle.rv_race.specs.Opened.{Steady}
use Rattle.rv_race.specs.Raced.{RaceFits, Raced, SameRace, rest}
use Rattle.rv_final.specs.Shell.{scanning}
use Rattle.rv_race.specs.Runs.{Tells}
use Rattle.rv_final.proofs.Takings.{held_if, none_read, none_unread, once_read}
use Rattle.rv_race.proofs.Switches.{aside_fits, moved_fits}
use Rattle.rv_race.proofs.Tellings.{aside_tells}

-- The leaf that is still to be read is counted, and then the scan of the turn takes.

abbrev pub read_mid : Raced → Raced
read_mid r = record r { counts = counts_read r }

-- it stands elsewhere in its index
abbrev pub takes : Raced → Raced → Type 0
takes mid new = new ≡ with_lane (record (turn_lane mid) { held = (turn_lane new).held }) mid

pub took_same : (old mid new : Raced) → mid ≡ read_mid old → takes mid new → new ≡ record (holding (turn_lane new).held old) { counts = counts_read old }
took_same old mid new m n = n ∙ ap (λ (x : Raced). with_lane (record (turn_lane x) { held = (turn_lane new).held }) x) m

pub took_trace : (old mid new : Raced) → mid ≡ read_mid old → takes mid new → new.trace ≡ old.trace
took_trace old mid new m n = ap (λ (x : Raced). x.trace) (took_same old mid new m n)

pub took_leaves : (old mid new : Raced) → scanning old.control ≡ true → mid ≡ read_mid old → takes mid new → (is_some (turn_lane mid).held ≡ true → new ≡ mid) → TakesLeaf old new
took_leaves old mid new back m n h = record {
  same = took_same old mid new m n ∙ ap (λ (t : Trace). record (holding (turn_lane new).held old) { counts = counts_read old; trace = t }) (sym (took_trace old mid new m n));
  none = λ unread. ap (λ (x : Raced). x.running) (h (ap (λ (x : Raced). is_some (turn_lane x).held) m ∙ held_if (scanning old.control) (turn_lane old).held back unread) ∙ m);
  named = ap (λ (t : Trace). t.strategy) (took_trace old mid new m n);
  events = ap (λ (t : Trace). t.events) (took_trace old mid new m n);
}

pub took_can : (old mid : Raced) (shown : Shown) → mid ≡ read_mid old → RaceFits old shown → CanMake (turn_plan mid) shown mid.snap
took_can old mid shown m f = subst (λ (x : Raced). CanMake (turn_plan x) shown x.snap) (sym m) (f.plans.each (turn_scan old) f.running.turn.there)

pub took_lane : (old mid : Raced) (shown : Shown) → mid ≡ read_mid old → RaceFits old shown → LaneFits (turn_plan mid) shown mid.snap (turn_lane mid)
took_lane old mid shown m f = subst (λ (x : Raced). LaneFits (turn_plan x) shown x.snap (turn_lane x)) (sym m) f.running.turn.lane

pub took_fits : (old mid new : Raced) (shown : Shown) → scanning old.control ≡ true → mid ≡ read_mid old → takes mid new → LaneFits (turn_plan mid) shown mid.snap (turn_lane new) → RaceFits old shown → RaceFits new shown
took_fits old mid new shown back m n l f =
    let held = (turn_lane new).held in
    let same = took_same old mid new m n in
    let lane : LaneFits (turn_plan old) shown old.snap (record (turn_lane old) { held = held }) = subst (λ (x : Laned). LaneFits (turn_plan old) shown old.snap x) (ap turn_lane same) (subst (λ (x : Raced). LaneFits (turn_plan x) shown x.snap (turn_lane new)) m l) in
    let next = record (holding held old) { counts = counts_read old } in
    let fits : RaceFits next shown = moved_fits old next shown refl back f (record {
      turn = record { there = f.running.turn.there; lane = lane; builds = f.running.turn.builds };
      other = f.running.other;
      unheld = f.running.unheld;
    }) f.covers in
    subst (λ (x : Raced). RaceFits x shown) (sym same) fits

pub took_taken : {E : Type 0} (r : Result Pieced E) (old mid new : Raced) (id : PieceId) → scanning old.control ≡ true → mid ≡ read_mid old → id ≡ next_id mid → takes mid new → IfOk r (IsOwn (turn_plan mid) id (turn_lane new)) → IfOk r (Awaits new)
took_taken (Ok p) old mid new id back m is n own =
    let plan : turn_plan mid ≡ turn_plan new = sym (ap turn_plan n) in
    let name : next_id mid ≡ next_id new = sym (ap next_id n) in
    record {
      under_way = ap (λ (x : Raced). scanning x.control) (took_same old mid new m n) ∙ back;
      own = record { named = own.named ∙ is ∙ name; part = own.part ∙ ap (λ (p : ScanPlan). p.part) plan; entries = own.entries };
    }
took_taken (Err e) old mid new id back m is n own = tt

pub took_reads : (old mid : Raced) (c d : Counts) → scanning old.control ≡ true → mid ≡ read_mid old → d ≡ leaf_once (turn_lane mid) c → d ≡ piece_read old c
took_reads old mid c d back m r = r ∙ ap (λ (x : Raced). leaf_once (turn_lane x) c) m ∙ once_read (scanning old.control) (turn_lane old).held c back

-- No scan is under way.

pub none_counted : (r : Raced) → scanning r.control ≡ false → counts_read r ≡ r.counts
none_counted r off = ap (λ (b : Bool). if b then one_leaf r else r.counts) (none_unread (scanning r.control) (turn_lane r).held off)

none_leaves : (r : Raced) → scanning r.control ≡ false → TakesLeaf r r
none_leaves r off = record {
  same = ap (λ (cs : List ScanCounts). record r { counts = cs }) (sym (none_counted r off));
  none = λ h. refl;
  named = refl;
  events = refl;
}

pub none_took : (r : Raced) (shown : Shown) (c : Counts) → scanning r.control ≡ false → RaceFits r shown → Took shown c c r r
none_took r shown c off fits = record { leaves = none_leaves r off; told = refl; fits = fits; reads = none_read (scanning r.control) (turn_lane r).held c off }

-- What a take keeps.

pub took_parts : (old new : Raced) → TakesLeaf old new → new ≡ record old { counts = new.counts; running = new.running; trace = new.trace }
took_parts old new t = subst (λ (x : Raced). x ≡ record old { counts = x.counts; running = x.running; trace = x.trace }) (sym t.same) refl

pub took_rest : (old new : Raced) (shown : Shown) → TakesLeaf old new → rest new shown ≡ rest old shown
took_rest old new shown t = ap (λ (x : Raced). rest x shown) (took_parts old new t)

pub took_race : (old new : Raced) → TakesLeaf old new → SameRace old new
took_race old new t = subst (SameRace old) (sym (took_parts old new t)) record { table = refl; snap = refl; cursor = refl; opening = refl; only = refl; plans = refl }

pub took_awaits : (old new : Raced) → TakesLeaf old new → awaited new ≡ awaited old
took_awaits old new t = ap awaited (took_parts old new t)

pub took_tells : (old new : Raced) → TakesLeaf old new → Tells old → Tells new
took_tells old new t tells =
    let parts = took_parts old new t in
    aside_tells old new (ap (λ (x : Raced). x.plans) parts) (ap (λ (es : _). es.items) t.events) t.named (ap (λ (x : Raced). x.list) parts) (ap (λ (x : Raced). x.running.other) t.same) (ap (λ (x : Raced). x.running.next) t.same) (ap turn_scan t.same) (ap (λ (x : Raced). x.control) parts) tells

pub took_steady : (old new : Raced) (shown : Shown) (c d : Counts) → Took shown c d old new → Steady old new shown
took_steady old new shown c d t = record {
  same = took_race old new t.leaves;
  counts = record { pages = ap (λ (x : Trace). x.pages) t.told; leaves = ap (λ (x : Trace). x.leaves) t.told; fetches = ap (λ (x : Trace). x.fetches) t.told };
  fits = t.fits;
  tells = took_tells old new t.leaves;
}

-- What was read is counted.

pub counted_fits : (mid new : Raced) (t : Trace) (shown : Shown) → new ≡ record mid { trace = t } → RaceFits mid shown → RaceFits new shown
counted_fits mid new t shown e f = subst (λ (x : Raced). RaceFits x shown) (sym e) (aside_fits mid mid.control mid.at mid.last t shown f.shell.last f.shell.unbegun f.listed f.shell.stands f)

pub counted_tells : (mid new : Raced) (c d : Counts) → new ≡ record mid { trace = counted mid.trace c d } → Tells mid → Tells new
counted_tells mid new c d e t = subst Tells (sym e) (aside_tells mid (record mid { trace = counted mid.trace c d }) refl refl refl refl refl refl refl refl t)

pub counted_leaves : (old mid new : Raced) (c d : Counts) → new ≡ record mid { trace = counted mid.trace c d } → TakesLeaf old mid → TakesLeaf old new
counted_leaves old mid new c d e l = subst (TakesLeaf old) (sym e) (record { same = ap (λ (x : Raced). record x { trace = counted mid.trace c d }) l.same; none = l.none; named = l.named; events = l.events })

pub counted_race : (old mid new : Raced) (t : Trace) → new ≡ record mid { trace = t } → SameRace old mid → SameRace old new
counted_race old mid new t e s = subst (SameRace old) (sym e) record { table = s.table; snap = s.snap; cursor = s.cursor; opening = s.opening; only = s.only; plans = s.plans }
