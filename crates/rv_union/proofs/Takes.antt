-- What a take leaves.
use Rattle.std.proofs.Common.{◌≡◌, Bool, true, false, refl, ap, sym, ◌∙◌, subst, is_some, Result, Ok, Err, IfOk}
use Rattle.std.specs.Prelude.{if◌then◌else◌}
use Rattle.rv_judge.specs.declared.counting.Counts.{Counts}
use Rattle.rv_judge.specs.declared.events.Trace.{Trace}
use Rattle.rv_judge.specs.Tracing.{counted}
use Rattle.rv_reader.specs.Shown.{Shown}
use Rattle.rv_jscan.specs.declared.piece.PieceId.{PieceId}
use Rattle.rv_jscan.specs.declared.jscan.ScanPlan.{ScanPlan}
use Rattle.rv_jscan.specs.declared.jscan.ScanCounts.{ScanCounts}
use Rattle.rv_jscan.specs.Joint.{CanMake}
use Rattle.rv_jscan.specs.Lanes.{IsOwn, LaneFits, Laned, leaf_once}
use Rattle.rv_jscan.specs.Pieces.{Pieced}
use Rattle.rv_jscan.specs.Steps.{leaf_counted}
use Rattle.rv_union.specs.Given.{Awaits, TakesLeaf, Took, awaited, count_read, holding, next_id, piece_read, with_lane}
use Rattle.rv_union.specs.Opened.{Steady}
use Rattle.rv_union.specs.Unioned.{UnionFits, Unioned, SameUnion, present, rest}
use Rattle.rv_final.specs.Shell.{scanning}
use Rattle.rv_union.specs.Runs.{Tells}
use Rattle.rv_final.proofs.Takings.{held_if, none_read, none_unread, once_read}
use Rattle.rv_union.proofs.Switches.{aside_fits, moved_fits}
use Rattle.rv_union.proofs.Tellings.{aside_tells}

-- The leaf that is still to be read is counted, and then the present member takes.

abbrev pub read_mid : Unioned → Unioned
read_mid r = record r { count = count_read r }

-- it stands elsewhere in its index
abbrev pub takes : Unioned → Unioned → Type 0
takes mid new = new ≡ with_lane (record mid.lane { held = new.lane.held }) mid

pub took_same : (old mid new : Unioned) → mid ≡ read_mid old → takes mid new → new ≡ record (holding new.lane.held old) { count = count_read old }
took_same old mid new m n = n ∙ ap (λ (x : Unioned). with_lane (record x.lane { held = new.lane.held }) x) m

pub took_trace : (old mid new : Unioned) → mid ≡ read_mid old → takes mid new → new.trace ≡ old.trace
took_trace old mid new m n = ap (λ (x : Unioned). x.trace) (took_same old mid new m n)

pub took_leaves : (old mid new : Unioned) → scanning old.control ≡ true → mid ≡ read_mid old → takes mid new → (is_some mid.lane.held ≡ true → new ≡ mid) → TakesLeaf old new
took_leaves old mid new back m n h = record {
  same = took_same old mid new m n ∙ ap (λ (t : Trace). record (holding new.lane.held old) { count = count_read old; trace = t }) (sym (took_trace old mid new m n));
  none = λ unread. ap (λ (x : Unioned). x.lane) (h (ap (λ (x : Unioned). is_some x.lane.held) m ∙ held_if (scanning old.control) old.lane.held back unread) ∙ m);
  named = ap (λ (t : Trace). t.strategy) (took_trace old mid new m n);
  events = ap (λ (t : Trace). t.events) (took_trace old mid new m n);
}

pub took_can : (old mid : Unioned) (shown : Shown) → mid ≡ read_mid old → UnionFits old shown → CanMake (present mid) shown mid.snap
took_can old mid shown m f = subst (λ (x : Unioned). CanMake (present x) shown x.snap) (sym m) (f.members.each old.member f.there)

pub took_lane : (old mid : Unioned) (shown : Shown) → mid ≡ read_mid old → UnionFits old shown → LaneFits (present mid) shown mid.snap mid.lane
took_lane old mid shown m f = subst (λ (x : Unioned). LaneFits (present x) shown x.snap x.lane) (sym m) f.lane

pub took_fits : (old mid new : Unioned) (shown : Shown) → scanning old.control ≡ true → mid ≡ read_mid old → takes mid new → LaneFits (present mid) shown mid.snap new.lane → UnionFits old shown → UnionFits new shown
took_fits old mid new shown back m n l f =
    let held = new.lane.held in
    let same = took_same old mid new m n in
    let lane : LaneFits (present old) shown old.snap (record old.lane { held = held }) = subst (λ (x : Laned). LaneFits (present old) shown old.snap x) (ap (λ (x : Unioned). x.lane) same) (subst (λ (x : Unioned). LaneFits (present x) shown x.snap new.lane) m l) in
    let next = record (holding held old) { count = count_read old } in
    let fits : UnionFits next shown = moved_fits old next shown refl back f (record {
      there = f.there;
      lane = lane;
      finds = f.finds back;
      listed = f.listed;
      building = f.building;
    }) in
    subst (λ (x : Unioned). UnionFits x shown) (sym same) fits

pub took_taken : {E : Type 0} (r : Result Pieced E) (old mid new : Unioned) (id : PieceId) → scanning old.control ≡ true → mid ≡ read_mid old → id ≡ next_id mid → takes mid new → IfOk r (IsOwn (present mid) id new.lane) → IfOk r (Awaits new)
took_taken (Ok p) old mid new id back m is n own =
    let plan : present mid ≡ present new = sym (ap present n) in
    let name : next_id mid ≡ next_id new = sym (ap next_id n) in
    record {
      under_way = ap (λ (x : Unioned). scanning x.control) (took_same old mid new m n) ∙ back;
      own = record { named = own.named ∙ is ∙ name; part = own.part ∙ ap (λ (p : ScanPlan). p.part) plan; entries = own.entries };
    }
took_taken (Err e) old mid new id back m is n own = tt

pub took_reads : (old mid : Unioned) (c d : Counts) → scanning old.control ≡ true → mid ≡ read_mid old → d ≡ leaf_once mid.lane c → d ≡ piece_read old c
took_reads old mid c d back m r = r ∙ ap (λ (x : Unioned). leaf_once x.lane c) m ∙ once_read (scanning old.control) old.lane.held c back

-- No member is scanned.

pub none_counted : (r : Unioned) → scanning r.control ≡ false → count_read r ≡ r.count
none_counted r off = ap (λ (b : Bool). if b then leaf_counted r.count else r.count) (none_unread (scanning r.control) r.lane.held off)

none_leaves : (r : Unioned) → scanning r.control ≡ false → TakesLeaf r r
none_leaves r off = record {
  same = ap (λ (c : ScanCounts). record r { count = c }) (sym (none_counted r off));
  none = λ h. refl;
  named = refl;
  events = refl;
}

pub none_took : (r : Unioned) (shown : Shown) (c : Counts) → scanning r.control ≡ false → UnionFits r shown → Took shown c c r r
none_took r shown c off fits = record { leaves = none_leaves r off; told = refl; fits = fits; reads = none_read (scanning r.control) r.lane.held c off }

-- What a take keeps.

pub took_parts : (old new : Unioned) → TakesLeaf old new → new ≡ record old { count = new.count; lane = new.lane; trace = new.trace }
took_parts old new t = subst (λ (x : Unioned). x ≡ record old { count = x.count; lane = x.lane; trace = x.trace }) (sym t.same) refl

pub took_rest : (old new : Unioned) (shown : Shown) → TakesLeaf old new → rest new shown ≡ rest old shown
took_rest old new shown t = ap (λ (x : Unioned). rest x shown) (took_parts old new t)

pub took_union : (old new : Unioned) → TakesLeaf old new → SameUnion old new
took_union old new t = subst (SameUnion old) (sym (took_parts old new t)) record { table = refl; snap = refl; cursor = refl; opening = refl; only = refl; plans = refl }

pub took_awaits : (old new : Unioned) → TakesLeaf old new → awaited new ≡ awaited old
took_awaits old new t = ap awaited (took_parts old new t)

pub took_tells : (old new : Unioned) → TakesLeaf old new → Tells old → Tells new
took_tells old new t tells =
    let parts = took_parts old new t in
    aside_tells old new (ap (λ (x : Unioned). x.plans) parts) (ap (λ (x : Unioned). x.member) parts) (ap (λ (es : _). es.items) t.events) t.named (ap (λ (x : Unioned). x.control) parts) tells

pub took_steady : (old new : Unioned) (shown : Shown) (c d : Counts) → Took shown c d old new → Steady old new shown
took_steady old new shown c d t = record {
  same = took_union old new t.leaves;
  counts = record { pages = ap (λ (x : Trace). x.pages) t.told; leaves = ap (λ (x : Trace). x.leaves) t.told; fetches = ap (λ (x : Trace). x.fetches) t.told };
  fits = t.fits;
  tells = took_tells old new t.leaves;
}

-- What was read is counted.

pub counted_fits : (mid new : Unioned) (t : Trace) (shown : Shown) → new ≡ record mid { trace = t } → UnionFits mid shown → UnionFits new shown
counted_fits mid new t shown e f = subst (λ (x : Unioned). UnionFits x shown) (sym e) (aside_fits mid mid.control mid.at mid.last t shown f.shell.last f.shell.unbegun f.finds f.covers f.shell.stands f)

pub counted_tells : (mid new : Unioned) (c d : Counts) → new ≡ record mid { trace = counted mid.trace c d } → Tells mid → Tells new
counted_tells mid new c d e t = subst Tells (sym e) (aside_tells mid (record mid { trace = counted mid.trace c d }) refl refl refl refl refl t)

pub counted_leaves : (old mid new : Unioned) (c d : Counts) → new ≡ record mid { trace = counted mid.trace c d } → TakesLeaf old mid → TakesLeaf old new
counted_leaves old mid new c d e l = subst (TakesLeaf old) (sym e) (record { same = ap (λ (x : Unioned). record x { trace = counted mid.trace c d }) l.same; none = l.none; named = l.named; events = l.events })

pub counted_union : (old mid new : Unioned) (t : Trace) → new ≡ record mid { trace = t } → SameUnion old mid → SameUnion old new
counted_union old mid new t e s = subst (SameUnion old) (sym e) record { table = s.table; snap = s.snap; cursor = s.cursor; opening = s.opening; only = s.only; plans = s.plans }
