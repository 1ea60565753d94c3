-- The leaves that a union reads, from its opening on.
use Rattle.std.proofs.Common.{◌≡◌, ℕ, ◌+◌, ◌-◌, ◌*◌, ◌^◌, ◌<◌, ◌≤◌, List, [], ◌∷◌, length, min, Bool, true, false, not, Option, Some, None, is_some, nat_lt, refl, ap, sym, ◌∙◌, subst, arith, if◌then◌else◌}
use Rattle.std.specs.Cmp.{first_so}
use Rattle.std.proofs.lemmas.Bool.{ltb-true, ltb-false}
use Rattle.rv_value.proofs.Tests.{no_way}
use Rattle.rv_value.specs.declared.record.IndexEntry.{IndexEntry}
use Rattle.rv_judge.specs.declared.counting.Counts.{Counts}
use Rattle.rv_judge.specs.declared.events.Control.{Control}
use Rattle.rv_judge.specs.declared.events.Control.TheVariants.{Building, ForegroundAlone, BackgroundAlone, FinalList, FinalTable, Done}
use Rattle.rv_judge.specs.declared.events.Event.TheVariants.{Scan}
use Rattle.rv_judge.specs.declared.events.Happening.TheVariants.{FinalEnded, Ruled, ScanEnded}
use Rattle.rv_judge.specs.declared.events.Strategy.TheVariants.{Union}
use Rattle.rv_judge.specs.declared.judging.Facts.{Facts}
use Rattle.rv_judge.specs.declared.judging.Verdict.{Verdict}
use Rattle.rv_judge.specs.declared.judging.Verdict.TheVariants.{Continue, AbandonScan, AbandonForeground, AbandonBackground}
use Rattle.rv_judge.specs.Counting.{leaf_read}
use Rattle.rv_judge.specs.Course.{next_control}
use Rattle.rv_judge.specs.Tracing.{CountsRise, counted}
use Rattle.rv_judge.specs.Verdicts.{Ruling}
use Rattle.rv_restrict.specs.declared.atom.Atom.{Atom}
use Rattle.rv_reader.specs.declared.reader.Chunk.{Chunk}
use Rattle.rv_reader.specs.Shown.{Shown}
use Rattle.rv_reader.specs.declared.step.Step.{Step as Stepped}
use Rattle.rv_value.specs.declared.record.Record.{Record}
use Rattle.rv_reader.specs.declared.step.Step.TheVariants.{Row, Working, End}
use Rattle.rv_final.specs.Stage.{first_key}
use Rattle.rv_jscan.specs.declared.jscan.Given.{Given}
use Rattle.rv_jscan.specs.declared.jscan.Given.TheVariants.{Accepted, Stale}
use Rattle.rv_jscan.specs.declared.jscan.ScanCounts.{ScanCounts}
use Rattle.rv_jscan.specs.declared.jscan.ScanPlan.{ScanPlan}
use Rattle.rv_jscan.specs.declared.jscan.Taken.{Taken}
use Rattle.rv_jscan.specs.declared.jscan.Taken.TheVariants.{Piece, Nothing}
use Rattle.rv_jscan.specs.Joint.{no_counts}
use Rattle.rv_jscan.specs.Lanes.{Laned}
use Rattle.rv_jscan.specs.Pieces.{Pieced}
use Rattle.rv_jscan.specs.Steps.{held_next, leaf_counted}
use Rattle.rv_union.specs.Given.{Answers, TakesLeaf, TakesPiece, count_read, piece_read, reads_leaf}
use Rattle.rv_union.specs.Opened.{DoesAs, MayRead, OnePiece, OnlyTakes, Opened, ended_by}
use Rattle.rv_union.specs.Rulings.{GivesOn, Obeys, accepted, dropped, facts_of, going_on, gone, has_next, index_of, joined, listed, next_member, over, position, ruled, told, was_begun}
use Rattle.rv_union.specs.Unioned.{Unioned, rows_of}
use Rattle.rv_final.specs.Shell.{scanning}
use Rattle.rv_final.proofs.Shells.{only_scanning}
use Rattle.skew_judges.specs.Guard.{IsBounded, Keeps, goes_on, share}
use Rattle.rv_bounded.specs.Calls.{Call, lost_by, lost_of}
use Rattle.rv_bounded.specs.Calls.Call.{Step, StepLost, Take, TakeLost, Give}
use Rattle.rv_bounded.specs.Unions.{UnionDoesAll, UnionDoesCall, UnionGives, UnionSteps, UnionStepsLost, UnionTakes, UnionsReadFewLeaves}
use Rattle.rv_bounded.proofs.Ahead.{greatest, has_held, held_one, one_held, none_held, held_few, small_share}
use Rattle.rv_bounded.proofs.Shares.{all_scans, first_scan, share_less, to_read}
use Rattle.rv_bounded.proofs.Sums.{read_sum, less_by, share_more, both_less, both_more, rise_one, same_one, min_left, sum_read, sum_none, sum_lost, sum_more, great_sum, same_less, zero_most, risen_most, add_lost, from_first, whole_sum, rise_none, quiet_sum, still_sum, lost_sum}
use Rattle.rv_bounded.proofs.Reading.{one_record, one_page, page_none, key_none}

-- WHAT HOLDS FROM OPENING ON: the members are so many, the present one is one of them, and no more is guaranteed than the
-- table's pages
pub record Placed (p members : ℕ) (u : Unioned) : Type 0 where
  pub plans : length u.plans ≡ members
  pub there : u.member < members
  pub less : u.guaranteed ≤ p

-- THE LEAVES AHEAD of the members that have not ended, less those that the present one has read of its own
abbrev pub member_sum : ℕ → ℕ → ℕ → ScanCounts → Option Chunk → ℕ
member_sum p members member count held = to_read p member (members - member) - min count.leaves (1 + share p member + held_one held)

abbrev pub union_sum : ℕ → ℕ → Unioned → ℕ
union_sum p members u = member_sum p members u.member u.count u.lane.held

abbrev pub union_ahead : ℕ → ℕ → Unioned → ℕ
union_ahead p members u = if scanning u.control then union_sum p members u else 0

-- what a call costs
pub record UnionSpends (p members lost : ℕ) (old new : Unioned) : Type 0 where
  pub placed : Placed p members new
  pub fewer : new.trace.leaves + union_ahead p members new ≤ old.trace.leaves + union_ahead p members old + lost

scanning_left : (p members : ℕ) (u : Unioned) → scanning u.control ≡ true → union_ahead p members u ≡ union_sum p members u
scanning_left p members u on = ap (λ (b : Bool). if b then union_sum p members u else 0) on

idle_left : (p members : ℕ) (u : Unioned) → scanning u.control ≡ false → union_ahead p members u ≡ 0
idle_left p members u off = ap (λ (b : Bool). if b then union_sum p members u else 0) off

-- Sums.

next_sum : (new old whole rest share spent taken had : ℕ) → new ≡ rest - taken → old ≡ whole - min spent (1 + share + had) → whole ≡ 2 + share + rest → had ≤ 1 → new ≤ old
next_sum new old whole rest share spent taken had n o w h = omega (arith, n, o, w, h)

stay_sum : (new old whole share after spent held had : ℕ) → new ≡ whole - min after (1 + share + held) → old ≡ whole - min spent (1 + share + had) → after ≡ spent → after ≤ 1 + share → new ≤ old
stay_sum new old whole share after spent held had n o a s = omega (arith, n, o, a, s)

more_sum : (new old whole share spent held had : ℕ) → new ≡ whole - min spent (1 + share + held) → old ≡ whole - min spent (1 + share + had) → had ≤ 1 → new ≤ old + 1
more_sum new old whole share spent held had n o h = omega (arith, n, o, h)

-- What a give leaves ahead.
record Lowers (p members q : ℕ) (new : Unioned) : Type 0 where
  placed : Placed p members new
  fewer : union_ahead p members new ≤ q

-- no member is scanned any more
pub gone_dropped : (verdict : Verdict) (c : Control) → scanning c ≡ true → goes_on verdict ≡ false → scanning (next_control Union c (Ruled verdict false false)) ≡ false
gone_dropped verdict c on off = ap (λ (x : Control). scanning (next_control Union x (Ruled verdict false false))) (only_scanning c on) ∙ by verdict off
  where
    by : (verdict : Verdict) → goes_on verdict ≡ false → scanning (next_control Union BackgroundAlone (Ruled verdict false false)) ≡ false
    by Continue off = absurd (cc)
    by AbandonScan off = refl
    by AbandonForeground off = absurd (cc)
    by AbandonBackground off = refl

pub gone_listed : (c : Control) → scanning c ≡ true → scanning (next_control Union c (ScanEnded false true)) ≡ false
gone_listed c on = ap (λ (x : Control). scanning (next_control Union x (ScanEnded false true))) (only_scanning c on)

dropped_lowers : (p members q : ℕ) (verdict : Verdict) (u : Unioned) → Placed p members u → scanning u.control ≡ true → goes_on verdict ≡ false → Lowers p members q (dropped verdict u)
dropped_lowers p members q verdict u w on off =
    let idle = gone_dropped verdict u.control on off in
    record {
      placed = record { plans = w.plans; there = w.there; less = w.less };
      fewer = zero_most (union_ahead p members (dropped verdict u)) q (idle_left p members (dropped verdict u) idle);
    }

ruled_lowers : (p members q : ℕ) (verdict : Verdict) (u : Unioned) → Placed p members u → scanning u.control ≡ true → (goes_on verdict ≡ true → union_sum p members u ≤ q) → Lowers p members q (ruled verdict u)
ruled_lowers p members q Continue u w on goes = record { placed = w; fewer = less_by (union_ahead p members u) (union_sum p members u) q (scanning_left p members u on) (goes refl) }
ruled_lowers p members q AbandonScan u w on goes = dropped_lowers p members q AbandonScan u w on refl
ruled_lowers p members q AbandonForeground u w on goes = record { placed = w; fewer = less_by (union_ahead p members u) (union_sum p members u) q (scanning_left p members u on) (goes refl) }
ruled_lowers p members q AbandonBackground u w on goes = dropped_lowers p members q AbandonBackground u w on refl

-- the next member begins
going_lowers : (p members q : ℕ) (u : Unioned) → Placed p members u → scanning u.control ≡ true → u.member + 1 < members → union_sum p members (next_member u) ≤ q → Lowers p members q (going_on u)
going_lowers p members q u w on lt left = by (was_begun (index_of (next_member u)) (next_member u).trace.events.items)
  where
    by : (b : Bool) → Lowers p members q (if b then next_member u else told (Scan (index_of (next_member u))) (next_member u))
    by true = record { placed = record { plans = w.plans; there = lt; less = w.less }; fewer = less_by (union_ahead p members (next_member u)) (union_sum p members (next_member u)) q (scanning_left p members (next_member u) on) left }
    by false = record { placed = record { plans = w.plans; there = lt; less = w.less }; fewer = less_by (union_ahead p members (next_member u)) (union_sum p members (next_member u)) q (scanning_left p members (next_member u) on) left }

over_lowers : (p members q : ℕ) (u : Unioned) → Placed p members u → scanning u.control ≡ true → union_sum p members (next_member u) ≤ q → Lowers p members q (over u)
over_lowers p members q u w on left = by (has_next u) refl
  where
    by : (b : Bool) → has_next u ≡ b → Lowers p members q (if b then going_on u else listed u)
    by true more = going_lowers p members q u w on (subst (λ (n : ℕ). u.member + 1 < n) w.plans (ltb-true (u.member + 1) (length u.plans) more)) left
    by false none = record { placed = record { plans = w.plans; there = w.there; less = w.less }; fewer = zero_most (union_ahead p members (listed u)) q (idle_left p members (listed u) (gone_listed u.control on)) }

-- the position of a member is its own where members are not too many
own_position : (member members most : ℕ) → member < members → members ≤ most → min member (most - 1) ≡ member
own_position member members most lt few = omega (arith, lt, few)

accepted_stays : (p members : ℕ) (would : ℕ → Facts → Ruling) (state : ℕ) (piece : Pieced) (old : Unioned) → IsBounded would → members ≤ 2 ^ 32 → Placed p members old → goes_on (would state (facts_of (accepted piece false old))).verdict ≡ true → union_sum p members (accepted piece false old) ≤ union_sum p members old
accepted_stays p members would state piece old rule few w on =
    let keeps : Keeps (facts_of (accepted piece false old)) = (rule state (facts_of (accepted piece false old))).0 on in
    let same : position old ≡ old.member = own_position old.member members (2 ^ 32) w.there few in
    let sunk : old.count.leaves ≤ 1 + share old.guaranteed old.member = subst (λ (n : ℕ). old.count.leaves ≤ 1 + share old.guaranteed n) same keeps.sunk in
    stay_sum (union_sum p members (accepted piece false old)) (union_sum p members old) (to_read p old.member (members - old.member)) (share p old.member) old.count.leaves old.count.leaves (held_one None) (held_one old.lane.held) refl refl refl (share_more old.count.leaves (share old.guaranteed old.member) (share p old.member) sunk (share_less old.guaranteed p old.member w.less))

-- the member after this one
next_lowers : (p members : ℕ) (old : Unioned) (u : Unioned) → u.member ≡ old.member → Placed p members old → union_sum p members (next_member u) ≤ union_sum p members old
next_lowers p members old u same w =
    let moved : union_sum p members (next_member u) ≡ to_read p (old.member + 1) (members - (old.member + 1)) - min 0 (1 + share p (u.member + 1) + held_one u.lane.held) = ap (λ (n : ℕ). to_read p (n + 1) (members - (n + 1)) - min 0 (1 + share p (u.member + 1) + held_one u.lane.held)) same in
    next_sum (union_sum p members (next_member u)) (union_sum p members old) (to_read p old.member (members - old.member)) (to_read p (old.member + 1) (members - (old.member + 1))) (share p old.member) old.count.leaves (min 0 (1 + share p (u.member + 1) + held_one u.lane.held)) (held_one old.lane.held) moved refl (first_scan p old.member members w.there) (held_few old.lane.held)

given_lowers : (p members : ℕ) (would : ℕ → Facts → Ruling) (state after : ℕ) (piece : Pieced) (old new : Unioned) → IsBounded would → members ≤ 2 ^ 32 → Placed p members old → scanning old.control ≡ true → Obeys would state after piece (held_next old.lane.held) old new → Lowers p members (union_sum p members old) new
given_lowers p members would state after piece old new rule few w on obeys = by (held_next old.lane.held) obeys
  where
    placed : (last : Bool) → Placed p members (accepted piece last old)
    placed last = record { plans = w.plans; there = w.there; less = w.less }

    by : (next : Option IndexEntry) → Obeys would state after piece next old new → Lowers p members (union_sum p members old) new
    by (Some cut) asked = subst (Lowers p members (union_sum p members old)) (sym asked.0) (ruled_lowers p members (union_sum p members old) (would state (facts_of (accepted piece false old))).verdict (accepted piece false old) (placed false) on (accepted_stays p members would state piece old rule few w))
    by None done =
        let u = joined done.0.keys (accepted piece true old) in
        subst (Lowers p members (union_sum p members old)) (sym done.0.ends) (over_lowers p members (union_sum p members old) u (record { plans = w.plans; there = w.there; less = w.less }) on (next_lowers p members old u refl w))

same_sum : (now was left q had : ℕ) → now ≡ was → left ≤ q → had ≡ q → now + left ≤ was + had + 0
same_sum now was left q had e h g = omega (arith, e, h, g)

still_spends : (p members : ℕ) (old new : Unioned) → Placed p members old → new ≡ old → UnionSpends p members 0 old new
still_spends p members old new w e = subst (UnionSpends p members 0 old) (sym e) (record { placed = w; fewer = still_sum old.trace.leaves (union_ahead p members old) })

pub give_spends : (p members : ℕ) (would : ℕ → Facts → Ruling) (old new : Unioned) → IsBounded would → members ≤ 2 ^ 32 → Placed p members old → UnionGives would old new → UnionSpends p members 0 old new
give_spends p members would old new rule few w gives = by gives.given gives.answers gives.obeys
  where
    by : (given : Given) → Answers old gives.piece given new → GivesOn would gives.state gives.after gives.piece given old new → UnionSpends p members 0 old new
    by Accepted answers obeys =
        let lowers = given_lowers p members would gives.state gives.after gives.piece old new rule few w answers.under_way obeys in
        record { placed = lowers.placed; fewer = same_sum new.trace.leaves old.trace.leaves (union_ahead p members new) (union_sum p members old) (union_ahead p members old) gives.counts.leaves lowers.fewer (scanning_left p members old answers.under_way) }
    by (Stale asked now) answers obeys = still_spends p members old new w obeys.0

-- A PIECE IS TAKEN.

-- what a leaf that is taken, or not, leaves: it may be held, and is counted
pub record Leafs (old new : Unioned) : Type 0 where
  pub control : new.control ≡ old.control
  pub plans : new.plans ≡ old.plans
  pub member : new.member ≡ old.member
  pub count : new.count ≡ count_read old
  pub guaranteed : new.guaranteed ≡ old.guaranteed

pub leafs_placed : (p members : ℕ) (old new : Unioned) → Placed p members old → Leafs old new → Placed p members new
leafs_placed p members old new w t = record {
  plans = ap length t.plans ∙ w.plans;
  there = subst (λ (n : ℕ). n < members) (sym t.member) w.there;
  less = subst (λ (n : ℕ). n ≤ p) (sym t.guaranteed) w.less;
}

leafs_sum : (p members : ℕ) (old new : Unioned) → Leafs old new → (b : Bool) → reads_leaf old ≡ b → union_sum p members new ≡ member_sum p members old.member (if b then leaf_counted old.count else old.count) new.lane.held
leafs_sum p members old new t b e =
    ap (λ (n : ℕ). member_sum p members n new.count new.lane.held) t.member ∙ ap (λ (c : ScanCounts). member_sum p members old.member c new.lane.held) (t.count ∙ ap (λ (x : Bool). if x then leaf_counted old.count else old.count) e)

both_one : (a b c d : ℕ) → a ≡ c → b ≡ d → c + 1 ≤ d → a + 1 ≤ b
both_one a b c d e f h = omega (arith, e, f, h)

is_scanning : (u : Unioned) → reads_leaf u ≡ true → scanning u.control ≡ true
is_scanning u h = first_so (scanning u.control) (not (is_some u.lane.held)) h

leafs_read : (p members : ℕ) (old new : Unioned) → p + 2 * members < greatest → Placed p members old → Leafs old new → reads_leaf old ≡ true → is_some new.lane.held ≡ true → union_ahead p members new + 1 ≤ union_ahead p members old
leafs_read p members old new small w t reads has =
    let on = is_scanning old reads in
    let sum = read_sum (member_sum p members old.member (leaf_counted old.count) new.lane.held) (union_sum p members old) (to_read p old.member (members - old.member)) (to_read p (old.member + 1) (members - (old.member + 1))) (share p old.member) old.count.leaves (leaf_counted old.count).leaves (held_one new.lane.held) (held_one old.lane.held) greatest refl refl (first_scan p old.member members w.there) refl (one_held new.lane.held has) (none_held (scanning old.control) old.lane.held reads) (small_share p old.member members w.there small) in
    both_one (union_ahead p members new) (union_ahead p members old) (member_sum p members old.member (leaf_counted old.count) new.lane.held) (union_sum p members old) (scanning_left p members new (ap scanning t.control ∙ on) ∙ leafs_sum p members old new t true reads) (scanning_left p members old on) sum

leafs_lost : (p members : ℕ) (old new : Unioned) → p + 2 * members < greatest → Placed p members old → Leafs old new → reads_leaf old ≡ true → union_ahead p members new ≤ union_ahead p members old
leafs_lost p members old new small w t reads =
    let on = is_scanning old reads in
    let sum = lost_sum (member_sum p members old.member (leaf_counted old.count) new.lane.held) (union_sum p members old) (to_read p old.member (members - old.member)) (to_read p (old.member + 1) (members - (old.member + 1))) (share p old.member) old.count.leaves (leaf_counted old.count).leaves (held_one new.lane.held) (held_one old.lane.held) greatest refl refl (first_scan p old.member members w.there) refl (none_held (scanning old.control) old.lane.held reads) (small_share p old.member members w.there small) in
    both_less (union_ahead p members new) (union_ahead p members old) (member_sum p members old.member (leaf_counted old.count) new.lane.held) (union_sum p members old) (scanning_left p members new (ap scanning t.control ∙ on) ∙ leafs_sum p members old new t true reads) (scanning_left p members old on) sum

-- none is read; what is held stays
leafs_none : (p members : ℕ) (old new : Unioned) → Leafs old new → reads_leaf old ≡ false → (scanning old.control ≡ true → new.lane ≡ old.lane) → union_ahead p members new ≤ union_ahead p members old
leafs_none p members old new t none same = by (scanning old.control) refl
  where
    by : (b : Bool) → scanning old.control ≡ b → union_ahead p members new ≤ union_ahead p members old
    by true on = both_less (union_ahead p members new) (union_ahead p members old) (union_sum p members old) (union_sum p members old) (scanning_left p members new (ap scanning t.control ∙ on) ∙ leafs_sum p members old new t false none ∙ ap (λ (l : Laned). member_sum p members old.member old.count l.held) (same on)) (scanning_left p members old on) (same_less (union_sum p members old) (union_sum p members old) refl)
    by false off = zero_most (union_ahead p members new) (union_ahead p members old) (idle_left p members new (ap scanning t.control ∙ off))

-- or may go
leafs_gone : (p members : ℕ) (old new : Unioned) → Leafs old new → reads_leaf old ≡ false → scanning old.control ≡ true → union_ahead p members new ≤ union_ahead p members old + 1
leafs_gone p members old new t none on =
    let sum = more_sum (member_sum p members old.member old.count new.lane.held) (union_sum p members old) (to_read p old.member (members - old.member)) (share p old.member) old.count.leaves (held_one new.lane.held) (held_one old.lane.held) refl refl (held_few old.lane.held) in
    both_more (union_ahead p members new) (union_ahead p members old) (member_sum p members old.member old.count new.lane.held) (union_sum p members old) (scanning_left p members new (ap scanning t.control ∙ on) ∙ leafs_sum p members old new t false none) (scanning_left p members old on) sum

-- Counts.

piece_one : (u : Unioned) (c : Counts) → (piece_read u c).leaves ≤ c.leaves + 1
piece_one u c = by (reads_leaf u)
  where
    by : (b : Bool) → (if b then leaf_read c else c).leaves ≤ c.leaves + 1
    by true = min_left (c.leaves + 1) greatest
    by false = same_one c.leaves c.leaves refl

piece_none : (u : Unioned) (c : Counts) → reads_leaf u ≡ false → piece_read u c ≡ c
piece_none u c none = ap (λ (b : Bool). if b then leaf_read c else c) none

pub takes_leafs : (old new : Unioned) → TakesLeaf old new → Leafs old new
takes_leafs old new t = record {
  control = ap (λ (x : Unioned). x.control) t.same;
  plans = ap (λ (x : Unioned). x.plans) t.same;
  member = ap (λ (x : Unioned). x.member) t.same;
  count = ap (λ (x : Unioned). x.count) t.same;
  guaranteed = ap (λ (x : Unioned). x.guaranteed) t.same;
}

takes_held : (taken : Taken) (new : Unioned) → scanning new.control ≡ true → TakesPiece new taken → is_some new.lane.held ≡ true
takes_held (Piece piece) new on answers = has_held new.lane.held piece.entries answers.own.entries
takes_held Nothing new on answers = no_way (sym on ∙ answers)

pub take_spends : (p members : ℕ) (taken : Taken) (old new : Unioned) → p + 2 * members < greatest → Placed p members old → UnionTakes (Some taken) old new → UnionSpends p members 0 old new
take_spends p members taken old new small w takes = record { placed = leafs_placed p members old new w leafs; fewer = read (reads_leaf old) refl }
  where
    leafs : Leafs old new
    leafs = takes_leafs old new takes.leaves

    read : (b : Bool) → reads_leaf old ≡ b → new.trace.leaves + union_ahead p members new ≤ old.trace.leaves + union_ahead p members old + 0
    read true r =
        let on = ap scanning leafs.control ∙ is_scanning old r in
        sum_read new.trace.leaves old.trace.leaves (union_ahead p members new) (union_ahead p members old) (rise_one new.trace.leaves old.trace.leaves takes.before.leaves takes.behind.leaves greatest takes.counts.leaves (subst (λ (c : Counts). c.leaves ≤ takes.before.leaves + 1) (sym takes.reads) (piece_one old takes.before))) (leafs_read p members old new small w leafs r (takes_held taken new on takes.answers))
    read false r =
        sum_none new.trace.leaves old.trace.leaves (union_ahead p members new) (union_ahead p members old) (rise_none new.trace.leaves old.trace.leaves takes.before.leaves takes.behind.leaves greatest takes.counts.leaves (ap (λ (c : Counts). c.leaves) (takes.reads ∙ piece_none old takes.before r))) (leafs_none p members old new leafs r (λ on. takes.leaves.none r))

pub take_lost : (p members : ℕ) (old new : Unioned) → p + 2 * members < greatest → Placed p members old → UnionTakes None old new → UnionSpends p members 1 old new
take_lost p members old new small w takes = record {
  placed = leafs_placed p members old new w leafs;
  fewer = sum_lost new.trace.leaves old.trace.leaves (union_ahead p members new) (union_ahead p members old) (rise_one new.trace.leaves old.trace.leaves takes.before.leaves takes.behind.leaves greatest takes.counts.leaves (subst (λ (c : Counts). c.leaves ≤ takes.before.leaves + 1) (sym takes.reads) (piece_one old takes.before))) (left (reads_leaf old) refl);
}
  where
    leafs : Leafs old new
    leafs = takes_leafs old new takes.leaves

    left : (b : Bool) → reads_leaf old ≡ b → union_ahead p members new ≤ union_ahead p members old
    left true r = leafs_lost p members old new small w leafs r
    left false r = leafs_none p members old new leafs r (λ on. takes.leaves.none r)

-- A STEP FOR WHICH NO MEMORY IS FOUND.

pub only_leafs : (old new : Unioned) → OnlyTakes old new → Leafs old new
only_leafs old new t = record {
  control = ap (λ (x : Unioned). x.control) t.same;
  plans = ap (λ (x : Unioned). x.plans) t.same;
  member = ap (λ (x : Unioned). x.member) t.same;
  count = ap (λ (x : Unioned). x.count) t.same;
  guaranteed = ap (λ (x : Unioned). x.guaranteed) t.same;
}

may_one : (control : Control) (u : Unioned) (c d : Counts) → MayRead control u c d → d.leaves ≤ c.leaves + 1
may_one Building u c d reads = same_one d.leaves c.leaves (ap (λ (x : Counts). x.leaves) reads)
may_one ForegroundAlone u c d reads = same_one d.leaves c.leaves (ap (λ (x : Counts). x.leaves) reads)
may_one BackgroundAlone u c d reads = subst (λ (x : Counts). x.leaves ≤ c.leaves + 1) (sym reads) (piece_one u c)
may_one FinalList u c d reads = same_one d.leaves c.leaves (one_record c d reads)
may_one FinalTable u c d reads = same_one d.leaves c.leaves (one_page c d reads)
may_one Done u c d reads = same_one d.leaves c.leaves (ap (λ (x : Counts). x.leaves) reads)

-- beside the members no leaf is read
pub idle_spends : (p members : ℕ) (old new : Unioned) (c d : Counts) → Placed p members old → Leafs old new → scanning old.control ≡ false → CountsRise old.trace new.trace c d → d.leaves ≡ c.leaves → UnionSpends p members 0 old new
idle_spends p members old new c d w leafs off rise none = record {
  placed = leafs_placed p members old new w leafs;
  fewer = sum_none new.trace.leaves old.trace.leaves (union_ahead p members new) (union_ahead p members old) (rise_none new.trace.leaves old.trace.leaves c.leaves d.leaves greatest rise.leaves none) (zero_most (union_ahead p members new) (union_ahead p members old) (idle_left p members new (ap scanning leafs.control ∙ off)));
}

pub step_lost : (p members : ℕ) (old new : Unioned) → p + 2 * members < greatest → Placed p members old → UnionStepsLost old new → UnionSpends p members 1 old new
step_lost p members old new small w lost = record {
  placed = leafs_placed p members old new w leafs;
  fewer = by (reads_leaf old) refl;
}
  where
    leafs : Leafs old new
    leafs = only_leafs old new lost.only

    now : new.trace.leaves ≤ old.trace.leaves + 1
    now = rise_one new.trace.leaves old.trace.leaves lost.before.leaves lost.behind.leaves greatest lost.counts.leaves (may_one old.control old lost.before lost.behind lost.may_read)

    unread : reads_leaf old ≡ false → (b : Bool) → scanning old.control ≡ b → new.trace.leaves + union_ahead p members new ≤ old.trace.leaves + union_ahead p members old + 1
    unread r true on =
        let reads : lost.behind ≡ lost.before = subst (λ (c : Control). MayRead c old lost.before lost.behind) (only_scanning old.control on) lost.may_read ∙ piece_none old lost.before r in
        sum_more new.trace.leaves old.trace.leaves (union_ahead p members new) (union_ahead p members old) (rise_none new.trace.leaves old.trace.leaves lost.before.leaves lost.behind.leaves greatest lost.counts.leaves (ap (λ (c : Counts). c.leaves) reads)) (leafs_gone p members old new leafs r on)
    unread r false off = sum_lost new.trace.leaves old.trace.leaves (union_ahead p members new) (union_ahead p members old) now (leafs_none p members old new leafs r (λ on. no_way (sym on ∙ off)))

    by : (b : Bool) → reads_leaf old ≡ b → new.trace.leaves + union_ahead p members new ≤ old.trace.leaves + union_ahead p members old + 1
    by true r = sum_lost new.trace.leaves old.trace.leaves (union_ahead p members new) (union_ahead p members old) now (leafs_lost p members old new small w leafs r)
    by false r = unread r (scanning old.control) refl

-- A STEP

-- what becomes of the leaves ahead beside the scans
stage_lowers : (p members : ℕ) (s : Stepped Record) (old v new : Unioned) → Placed p members old → scanning old.control ≡ false → v.plans ≡ old.plans → v.member ≡ old.member → v.guaranteed ≡ old.guaranteed → v.control ≡ old.control → scanning (next_control Union old.control FinalEnded) ≡ false → new ≡ ended_by s v → Placed p members new × (union_ahead p members new ≡ 0)
stage_lowers p members s old v new w off plans member guaranteed control over e = subst (λ (x : Unioned). Placed p members x × (union_ahead p members x ≡ 0)) (sym e) (by s)
  where
    still : Placed p members v
    still = record {
      plans = ap length plans ∙ w.plans;
      there = subst (λ (n : ℕ). n < members) (sym member) w.there;
      less = subst (λ (n : ℕ). n ≤ p) (sym guaranteed) w.less;
    }

    idle : union_ahead p members v ≡ 0
    idle = idle_left p members v (ap scanning control ∙ off)

    gone_off : scanning (next_control Union v.control FinalEnded) ≡ false
    gone_off = ap (λ (c : Control). scanning (next_control Union c FinalEnded)) control ∙ over

    by : (s : Stepped Record) → Placed p members (ended_by s v) × (union_ahead p members (ended_by s v) ≡ 0)
    by (Row r) = (still, idle)
    by Working = (still, idle)
    by End = (record { plans = still.plans; there = still.there; less = still.less }, idle_left p members (gone FinalEnded v) gone_off)

-- what a step has done is counted behind it
counted_placed : (p members : ℕ) (stepped new : Unioned) (c d : Counts) → new ≡ record stepped { trace = counted stepped.trace c d } → Placed p members stepped → Placed p members new
counted_placed p members stepped new c d e w = subst (Placed p members) (sym e) (record { plans = w.plans; there = w.there; less = w.less })

counted_ahead : (p members : ℕ) (stepped new : Unioned) (c d : Counts) → new ≡ record stepped { trace = counted stepped.trace c d } → union_ahead p members new ≡ union_ahead p members stepped
counted_ahead p members stepped new c d e = ap (union_ahead p members) e

piece_sum : (now was left stepped sum taken had : ℕ) → now ≤ was + 1 → left ≡ stepped → stepped ≤ sum → taken ≡ sum → taken + 1 ≤ had → now + left ≤ was + had + 0
piece_sum now was left stepped sum taken had n e s g t = omega (arith, n, e, s, g, t)

none_sum : (now was left stepped sum taken had : ℕ) → now ≤ was → left ≡ stepped → stepped ≤ sum → taken ≡ sum → taken ≤ had → now + left ≤ was + had + 0
none_sum now was left stepped sum taken had n e s g t = omega (arith, n, e, s, g, t)

does_spends : (p members : ℕ) (would : ℕ → Facts → Ruling) (state after : ℕ) (shown : Shown) (c d : Counts) (s : Stepped Record) (control : Control) (old stepped new : Unioned) → p + 2 * members < greatest → IsBounded would → members ≤ 2 ^ 32 → Placed p members old → old.control ≡ control → DoesAs control would state after shown c d s old stepped → CountsRise old.trace new.trace c d → new ≡ record stepped { trace = counted stepped.trace c d } → UnionSpends p members 0 old new
does_spends p members would state after shown c d s Building old stepped new small rule few w is does rise e = absurd does
does_spends p members would state after shown c d s ForegroundAlone old stepped new small rule few w is does rise e = absurd does
does_spends p members would state after shown c d s BackgroundAlone old stepped new small rule few w is does rise e =
    record { placed = counted_placed p members stepped new c d e given.placed; fewer = read (reads_leaf old) refl }
  where
    one : OnePiece would state after old stepped
    one = does.1

    leafs : Leafs old one.taken
    leafs = takes_leafs old one.taken one.leaves

    given : Lowers p members (union_sum p members one.taken) stepped
    given = given_lowers p members would state after one.piece one.taken stepped rule few (leafs_placed p members old one.taken w leafs) one.awaits.under_way one.obeys

    ahead_same : union_ahead p members new ≡ union_ahead p members stepped
    ahead_same = counted_ahead p members stepped new c d e

    taken_sum : union_ahead p members one.taken ≡ union_sum p members one.taken
    taken_sum = scanning_left p members one.taken one.awaits.under_way

    read : (b : Bool) → reads_leaf old ≡ b → new.trace.leaves + union_ahead p members new ≤ old.trace.leaves + union_ahead p members old + 0
    read true r =
        piece_sum new.trace.leaves old.trace.leaves (union_ahead p members new) (union_ahead p members stepped) (union_sum p members one.taken) (union_ahead p members one.taken) (union_ahead p members old) (rise_one new.trace.leaves old.trace.leaves c.leaves d.leaves greatest rise.leaves (subst (λ (x : Counts). x.leaves ≤ c.leaves + 1) (sym does.2) (piece_one old c))) ahead_same given.fewer taken_sum (leafs_read p members old one.taken small w leafs r (has_held one.taken.lane.held one.piece.entries one.awaits.own.entries))
    read false r =
        none_sum new.trace.leaves old.trace.leaves (union_ahead p members new) (union_ahead p members stepped) (union_sum p members one.taken) (union_ahead p members one.taken) (union_ahead p members old) (rise_none new.trace.leaves old.trace.leaves c.leaves d.leaves greatest rise.leaves (ap (λ (x : Counts). x.leaves) (does.2 ∙ piece_none old c r))) ahead_same given.fewer taken_sum (leafs_none p members old one.taken leafs r (λ on. one.leaves.none r))
does_spends p members would state after shown c d s FinalList old stepped new small rule few w is does rise e =
    let stage = stage_lowers p members s old (record old { at = stepped.at }) stepped w (ap scanning is) refl refl refl refl (ap (λ (x : Control). scanning (next_control Union x FinalEnded)) is) does.2 in
    record {
      placed = counted_placed p members stepped new c d e stage.0;
      fewer = quiet_sum new.trace.leaves old.trace.leaves (union_ahead p members new) (union_ahead p members stepped) (union_ahead p members old) (rise_none new.trace.leaves old.trace.leaves c.leaves d.leaves greatest rise.leaves (key_none (first_key (Some old.keys) None old.at) old.only (rows_of old shown) c d s does.1)) (counted_ahead p members stepped new c d e) (zero_most (union_ahead p members stepped) (union_ahead p members old) stage.1);
    }
does_spends p members would state after shown c d s FinalTable old stepped new small rule few w is does rise e =
    let stage = stage_lowers p members s old (record old { last = stepped.last }) stepped w (ap scanning is) refl refl refl refl (ap (λ (x : Control). scanning (next_control Union x FinalEnded)) is) does.2 in
    record {
      placed = counted_placed p members stepped new c d e stage.0;
      fewer = quiet_sum new.trace.leaves old.trace.leaves (union_ahead p members new) (union_ahead p members stepped) (union_ahead p members old) (rise_none new.trace.leaves old.trace.leaves c.leaves d.leaves greatest rise.leaves (page_none s c d does.1)) (counted_ahead p members stepped new c d e) (zero_most (union_ahead p members stepped) (union_ahead p members old) stage.1);
    }
does_spends p members would state after shown c d s Done old stepped new small rule few w is does rise e =
    record {
      placed = counted_placed p members stepped new c d e (subst (Placed p members) (sym does.3) w);
      fewer = quiet_sum new.trace.leaves old.trace.leaves (union_ahead p members new) (union_ahead p members stepped) (union_ahead p members old) (rise_none new.trace.leaves old.trace.leaves c.leaves d.leaves greatest rise.leaves (ap (λ (x : Counts). x.leaves) does.2)) (counted_ahead p members stepped new c d e) (same_less (union_ahead p members stepped) (union_ahead p members old) (ap (union_ahead p members) does.3));
    }

pub step_spends : (p members : ℕ) (would : ℕ → Facts → Ruling) (old new : Unioned) → p + 2 * members < greatest → IsBounded would → members ≤ 2 ^ 32 → Placed p members old → UnionSteps would old new → UnionSpends p members 0 old new
step_spends p members would old new small rule few w steps = does_spends p members would steps.state steps.after steps.shown steps.before steps.behind steps.scanned old.control old steps.does.stepped new small rule few w refl steps.does.does steps.counts steps.does.counts

-- ALL CALLS

does_call : (p members : ℕ) (call : Call) (would : ℕ → Facts → Ruling) (old new : Unioned) → p + 2 * members < greatest → IsBounded would → members ≤ 2 ^ 32 → Placed p members old → UnionDoesCall call would old new → UnionSpends p members (lost_of call) old new
does_call p members Step would old new small rule few w does = step_spends p members would old new small rule few w does
does_call p members StepLost would old new small rule few w does = step_lost p members old new small w does
does_call p members Take would old new small rule few w does = take_spends p members does.0 old new small w does.1
does_call p members TakeLost would old new small rule few w does = take_lost p members old new small w does
does_call p members Give would old new small rule few w does = give_spends p members would old new rule few w does

all_spend : (p members : ℕ) (calls : List Call) (old new : Unioned) → p + 2 * members < greatest → members ≤ 2 ^ 32 → Placed p members old → UnionDoesAll calls old new → UnionSpends p members (lost_by calls) old new
all_spend p members [] old new small few w does = still_spends p members old new w does
all_spend p members (call ∷ calls) old new small few w does =
    let before = all_spend p members calls old does.0 small few w does.1 in
    let last = does_call p members call does.2.would does.0 new small does.2.bounded few before.placed does.2.does in
    record {
      placed = last.placed;
      fewer = add_lost (new.trace.leaves + union_ahead p members new) (does.0.trace.leaves + union_ahead p members does.0) (old.trace.leaves + union_ahead p members old) (lost_by calls) (lost_of call) before.fewer last.fewer;
    }

-- A count stays at the greatest number.

call_counted : (call : Call) (would : ℕ → Facts → Ruling) (old new : Unioned) → UnionDoesCall call would old new → old.trace.leaves ≤ greatest → new.trace.leaves ≤ greatest
call_counted Step would old new does most = risen_most new.trace.leaves (old.trace.leaves + (does.behind.leaves - does.before.leaves)) greatest does.counts.leaves
call_counted StepLost would old new does most = risen_most new.trace.leaves (old.trace.leaves + (does.behind.leaves - does.before.leaves)) greatest does.counts.leaves
call_counted Take would old new does most = risen_most new.trace.leaves (old.trace.leaves + (does.1.behind.leaves - does.1.before.leaves)) greatest does.1.counts.leaves
call_counted TakeLost would old new does most = risen_most new.trace.leaves (old.trace.leaves + (does.behind.leaves - does.before.leaves)) greatest does.counts.leaves
call_counted Give would old new does most = less_by new.trace.leaves old.trace.leaves greatest does.counts.leaves most

all_counted : (calls : List Call) (old new : Unioned) → UnionDoesAll calls old new → old.trace.leaves ≤ greatest → new.trace.leaves ≤ greatest
all_counted [] old new does most = subst (λ (x : Unioned). x.trace.leaves ≤ greatest) (sym does) most
all_counted (call ∷ calls) old new does most = call_counted call does.2.would does.0 new does.2.does (all_counted calls old does.0 does.1 most)

-- THE LAW

minus_less : (whole taken all most : ℕ) → whole ≡ all → all ≤ most → whole - taken ≤ most
minus_less whole taken all most w h = omega (arith, w, h)

some_below : (n : ℕ) → 1 ≤ n → 0 < n
some_below n h = omega (arith, h)

first_sum : (p members : ℕ) → member_sum p members 0 no_counts None ≤ p + 2 * members
first_sum p members = minus_less (to_read p 0 (members - 0)) (min 0 (1 + share p 0 + 0)) (to_read p 0 members) (p + 2 * members) (ap (to_read p 0) (from_first members)) (all_scans p members)

pub opened_placed : (table snap : ℕ) (only : List (List Atom)) (plans : List ScanPlan) (cursor opening pages : ℕ) (u : Unioned) → 1 ≤ length plans → Opened table snap only plans cursor opening pages u → Placed pages (length plans) u
opened_placed table snap only plans cursor opening pages u some is = subst (Placed pages (length plans)) (sym is.is) (record { plans = refl; there = some_below (length plans) some; less = same_less pages pages refl })

pub opened_most : (table snap : ℕ) (only : List (List Atom)) (plans : List ScanPlan) (cursor opening pages : ℕ) (u : Unioned) → Opened table snap only plans cursor opening pages u → union_ahead pages (length plans) u ≤ pages + 2 * length plans
opened_most table snap only plans cursor opening pages u is = subst (λ (x : Unioned). union_ahead pages (length plans) x ≤ pages + 2 * length plans) (sym is.is) (first_sum pages (length plans))

pub unions_few : UnionsReadFewLeaves
unions_few table snap only plans cursor opening pages calls opened now some few is does = by (nat_lt (pages + 2 * members) greatest) refl
  where
    members : ℕ
    members = length plans

    none : opened.trace.leaves ≡ 0
    none = ap (λ (x : Unioned). x.trace.leaves) is.is

    ahead : union_ahead pages members opened ≤ pages + 2 * members
    ahead = opened_most table snap only plans cursor opening pages opened is

    placed : Placed pages members opened
    placed = opened_placed table snap only plans cursor opening pages opened some is

    by : (b : Bool) → nat_lt (pages + 2 * members) greatest ≡ b → now.trace.leaves ≤ pages + 2 * members + lost_by calls
    by true test =
        let spent = all_spend pages members calls opened now (ltb-true (pages + 2 * members) greatest test) few placed does in
        whole_sum now.trace.leaves (union_ahead pages members now) opened.trace.leaves (union_ahead pages members opened) (pages + 2 * members) (lost_by calls) spent.fewer none ahead
    by false test = great_sum now.trace.leaves greatest (pages + 2 * members) (lost_by calls) (all_counted calls opened now does (zero_most opened.trace.leaves greatest none)) (ltb-false (pages + 2 * members) greatest test)
