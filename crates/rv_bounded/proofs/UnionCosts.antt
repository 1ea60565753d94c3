-- All that a union reads, from its opening on.
use Rattle.std.proofs.Common.{◌≡◌, ℕ, ◌+◌, ◌-◌, ◌*◌, ◌^◌, ◌<◌, ◌≤◌, ◌==◌, List, [], ◌∷◌, ◌++◌, drop, length, min, Bool, true, false, Option, Some, None, IfSome, IsPermutation, refl, ap, sym, ◌∙◌, subst, arith, if◌then◌else◌}
use Rattle.std.proofs.lemmas.Bool.Decides.{nat_tests}
use Rattle.std.proofs.lemmas.List.{length-append, length-drop}
use Rattle.std.proofs.lemmas.List.Sorted.{length_permutation}
use Rattle.std.proofs.lemmas.Bool.{eqb-true}
use Rattle.rv_value.proofs.Tests.{no_way}
use Rattle.rv_value.specs.declared.record.IndexEntry.{IndexEntry}
use Rattle.rv_judge.specs.declared.counting.Counts.{Counts}
use Rattle.rv_judge.specs.declared.events.Control.{Control}
use Rattle.rv_judge.specs.declared.events.Control.TheVariants.{Building, ForegroundAlone, BackgroundAlone, FinalList, FinalTable, Done}
use Rattle.rv_judge.specs.declared.events.Event.TheVariants.{Scan}
use Rattle.rv_judge.specs.declared.events.Happening.TheVariants.{FinalEnded, Ruled, ScanEnded}
use Rattle.rv_judge.specs.declared.events.Strategy.TheVariants.{Union}
use Rattle.rv_judge.specs.declared.events.Trace.{Trace}
use Rattle.rv_judge.specs.declared.judging.Facts.{Facts}
use Rattle.rv_judge.specs.declared.judging.Verdict.{Verdict}
use Rattle.rv_judge.specs.declared.judging.Verdict.TheVariants.{Continue, AbandonScan, AbandonForeground, AbandonBackground}
use Rattle.rv_judge.specs.Account.{ScanAccount, facts_at, total_of}
use Rattle.rv_judge.specs.Costs.{projection}
use Rattle.rv_judge.specs.Counting.{leaf_read}
use Rattle.rv_judge.specs.Course.{next_control}
use Rattle.rv_judge.specs.Tracing.{CountsRise, counted}
use Rattle.rv_judge.specs.Verdicts.{Ruling}
use Rattle.rv_reader.specs.Shown.{Shown}
use Rattle.rv_scan.specs.Places.{PageTurns}
use Rattle.rv_reader.specs.declared.step.Step.{Step as Stepped}
use Rattle.rv_value.specs.declared.record.Record.{Record}
use Rattle.rv_reader.specs.declared.step.Step.TheVariants.{Row, Working, End}
use Rattle.rv_jscan.specs.declared.jscan.Given.{Given}
use Rattle.rv_jscan.specs.declared.jscan.Given.TheVariants.{Accepted, Stale}
use Rattle.rv_jscan.specs.declared.jscan.Taken.{Taken}
use Rattle.rv_jscan.specs.Pieces.{Pieced}
use Rattle.rv_jscan.specs.Steps.{held_next, leaf_counted}
use Rattle.rv_final.specs.Stage.{first_key}
use Rattle.rv_final.proofs.LaneWork.{kept_few}
use Rattle.rv_union.specs.Effort.{keys_work}
use Rattle.rv_union.specs.Given.{Answers, count_read, piece_read, reads_leaf}
use Rattle.rv_union.specs.Opened.{DoesAs, MayRead, ended_by}
use Rattle.rv_union.specs.Rulings.{GivesOn, Obeys, accepted, account_of, dropped, facts_of, going_on, has_next, index_of, joined, kept_of, lacks, listed, next_member, over, position, ruled, told, was_begun, with_keys}
use Rattle.rv_union.specs.Unioned.{UnionFits, Unioned, present, rows_of}
use Rattle.rv_final.specs.Shell.{scanning}
use Rattle.rv_final.proofs.Shells.{only_scanning}
use Rattle.skew_judges.specs.Guard.{IsBounded, Keeps, goes_on, keys_before}
use Rattle.rv_bounded.specs.Calls.{Call, lost_by, lost_of}
use Rattle.rv_bounded.specs.Calls.Call.{Step, StepLost, Take, TakeLost, Give}
use Rattle.rv_bounded.specs.UnionReads.{UnionAllOver, UnionOver, UnionsAreBounded}
use Rattle.rv_bounded.specs.Unions.{UnionDoesAll, UnionDoesCall, UnionGives, UnionSteps, UnionStepsLost, UnionTakes}
use Rattle.rv_bounded.proofs.Ahead.{greatest}
use Rattle.rv_bounded.proofs.Sound.{IsShort, built_sum, held_short, kept_sum, projected_least, short_held}
use Rattle.rv_bounded.proofs.Stages.{behind, behind_idle, drawn_short, list_fewer, others_of, others_same, page_rise, record_rise, same_others, stage_by, stage_less, stage_most, sum_to, table_fewer}
use Rattle.rv_bounded.proofs.UnionLaws.{Leafs, Placed, UnionSpends, give_spends, gone_dropped, gone_listed, idle_spends, leafs_placed, only_leafs, opened_most, opened_placed, step_lost, step_spends, take_lost, take_spends, takes_leafs, union_ahead}
use Rattle.rv_bounded.proofs.Costs.{back_sum}
use Rattle.rv_bounded.proofs.Sums.{Spent, none_spent, less_more, le_on, same_less, risen_most, zero_least, sum_none, sum_lost, spent_on}
use Rattle.rv_bounded.proofs.Reading.{one_record, one_page}

-- of the present member, and of those before it: each has put at most 48 keys to what is guaranteed
pub record MemberSound (p : ℕ) (u : Unioned) : Type 0 where
  pub scanned : u.count.kept ≤ u.count.scanned
  pub capped : u.count.kept ≤ greatest
  pub built : length u.lane.building ≤ u.count.kept
  pub few : length u.keys + length u.lane.building ≤ p + 48 * u.member
  pub short : IfSome u.lane.held IsShort

pub record UnionSound (p members : ℕ) (u : Unioned) : Type 0 where
  pub member : scanning u.control ≡ true → MemberSound p u
  pub keys : length u.keys ≤ p + 48 * members

-- WHAT HOLDS FROM OPENING ON
pub record UnionWhole (p members : ℕ) (u : Unioned) : Type 0 where
  pub placed : Placed p members u
  pub sound : UnionSound p members u

-- the reads of the final stage that a union may still come to
abbrev pub stage_of : ℕ → ℕ → Unioned → ℕ
stage_of p members u = stage_by u.control (p + 48 * members) p (keys_work u) u.last.next

-- what a call costs, a leaf or another read at most where no memory is found
pub record UnionCosts (p members lost : ℕ) (old new : Unioned) : Type 0 where
  pub leaf : ℕ
  pub other : ℕ
  pub both : leaf + other ≡ lost
  pub spends : UnionSpends p members leaf old new
  pub fewer : others_of new.trace + stage_of p members new ≤ others_of old.trace + stage_of p members old + other
  pub sound : UnionSound p members new

whole_on : (p members lost : ℕ) (old new : Unioned) → UnionCosts p members lost old new → UnionWhole p members old → UnionWhole p members new
whole_on p members lost old new c w = record { placed = c.spends.placed; sound = c.sound }

-- What is left of the final stage.

left_few : (most : ℕ) (keys : List ℕ) (at : ℕ) → length keys ≤ most → length (drop at keys) ≤ most
left_few most keys at few = let long = length-drop at keys in omega (arith, few, long)

pages_most : (p members : ℕ) → p ≤ p + 48 * members
pages_most p members = omega arith

stage_few : (p members : ℕ) (u : Unioned) → UnionSound p members u → stage_of p members u ≤ p + 48 * members
stage_few p members u s = stage_most u.control (p + 48 * members) p (keys_work u) u.last.next (pages_most p members) (left_few (p + 48 * members) u.keys u.at s.keys)

stage_at : (p members : ℕ) (u : Unioned) (c : Control) → u.control ≡ c → stage_of p members u ≡ stage_by c (p + 48 * members) p (keys_work u) u.last.next
stage_at p members u c e = ap (λ (k : Control). stage_by k (p + 48 * members) p (keys_work u) u.last.next) e

-- WHAT A JUDGE THAT IS BOUNDED KEEPS TO: the keys of the members before, with those that the present one has kept, are fewer
-- than are guaranteed.

is_below : (a b : ℕ) → (a == b) ≡ false → a ≤ b → a < b
is_below a b test h = grind (arith, nat_tests)

full_sum : (kept keys before projected g most : ℕ) → min (kept + before) projected < g → before ≡ most → projected ≡ most → g ≤ most → kept + keys < g
full_sum kept keys before projected g most few b p small = absurd (omega (arith, few, b, p, small))

told_sum : (kept keys before projected alone g most : ℕ) → min (kept + before) projected < g → before ≡ projected - alone → projected ≡ min (alone + keys) most → projected < most → kept ≤ alone → kept + keys < g
told_sum kept keys before projected alone g most few b p below less = omega (arith, few, b, p, below, less)

listed_fewer : (control : Control) (a : ScanAccount) (scan g keys : ℕ) → Keeps (with_keys keys (facts_at control a scan g 0)) → a.kept ≤ a.scanned → a.kept ≤ greatest → g ≤ greatest → a.kept + keys < g
listed_fewer control a scan g keys keeps fewer capped small = by (facts.projected == greatest) refl
  where
    facts : Facts
    facts = with_keys keys (facts_at control a scan g 0)

    alone : ℕ
    alone = projection (total_of a) a.scanned a.kept

    before : (b : Bool) → (facts.projected == greatest) ≡ b → keys_before facts ≡ (if b then greatest else facts.projected - alone)
    before b test = ap (λ (x : Bool). if x then greatest else facts.projected - alone) test

    by : (b : Bool) → (facts.projected == greatest) ≡ b → a.kept + keys < g
    by true test = full_sum a.kept keys (keys_before facts) facts.projected g greatest keeps.few (before true test) (eqb-true facts.projected greatest test) small
    by false test = told_sum a.kept keys (keys_before facts) facts.projected alone g greatest keeps.few (before false test) refl (is_below facts.projected greatest test (risen_most facts.projected (alone + keys) greatest refl)) (projected_least a.estimate a.scanned a.kept fewer capped)

-- A PIECE IS ACCEPTED.

accepted_scanned : (piece : Pieced) (u : Unioned) → u.count.kept ≤ u.count.scanned → (accepted piece false u).count.kept ≤ (accepted piece false u).count.scanned
accepted_scanned piece u less = kept_sum (accepted piece false u).count.kept u.count.kept (length (kept_of u piece)) (accepted piece false u).count.scanned u.count.scanned (length piece.entries) greatest refl refl less (kept_few (lacks u.keys) piece)

accepted_capped : (piece : Pieced) (u : Unioned) → (accepted piece false u).count.kept ≤ greatest
accepted_capped piece u = risen_most (accepted piece false u).count.kept (u.count.kept + length (kept_of u piece)) greatest refl

part_less : (a b c : ℕ) → a + b < c → a < c
part_less a b c h = omega (arith, h)

all_few : (keys built kept p member : ℕ) → kept + keys < p → built ≤ kept → keys + built ≤ p + 48 * member
all_few keys built kept p member h b = omega (arith, h, b)

-- where the judge lets a member go on, fewer keys are listed than the table has pages
judged_sound : (p members : ℕ) (would : ℕ → Facts → Ruling) (state : ℕ) (piece : Pieced) (old : Unioned) → IsBounded would → Placed p members old → p ≤ greatest → MemberSound p old → goes_on (would state (facts_of (accepted piece false old))).verdict ≡ true → MemberSound p (accepted piece false old)
judged_sound p members would state piece old rule w small s goes =
    let v = accepted piece false old in
    let keeps : Keeps (facts_of v) = (rule state (facts_of v)).0 goes in
    let scanned = accepted_scanned piece old s.scanned in
    let capped = accepted_capped piece old in
    let fewer = listed_fewer v.control (account_of v) (position v) v.guaranteed (length v.keys) keeps scanned capped (le_on v.guaranteed p greatest w.less small) in
    let below = less_more (v.count.kept + length v.keys) v.guaranteed p fewer w.less in
    let sums = built_sum v.count.kept old.count.kept (length (kept_of old piece)) (length old.lane.building) (length (old.lane.building ++ kept_of old piece)) p greatest refl s.built (length-append old.lane.building (kept_of old piece)) (part_less v.count.kept (length v.keys) p below) small in
    record {
      scanned = scanned;
      capped = capped;
      built = sums.0;
      few = all_few (length old.keys) (length (old.lane.building ++ kept_of old piece)) v.count.kept p old.member below sums.0;
      short = tt;
    }

dropped_sound : (p members : ℕ) (verdict : Verdict) (u : Unioned) → scanning u.control ≡ true → goes_on verdict ≡ false → UnionSound p members (dropped verdict u)
dropped_sound p members verdict u on off = record {
  member = λ h. no_way (sym h ∙ gone_dropped verdict u.control on off);
  keys = zero_least (p + 48 * members);
}

ruled_sound : (p members : ℕ) (verdict : Verdict) (u : Unioned) → scanning u.control ≡ true → length u.keys ≤ p + 48 * members → (goes_on verdict ≡ true → MemberSound p u) → UnionSound p members (ruled verdict u)
ruled_sound p members Continue u on keys goes = record { member = λ h. goes refl; keys = keys }
ruled_sound p members AbandonScan u on keys goes = dropped_sound p members AbandonScan u on refl
ruled_sound p members AbandonForeground u on keys goes = record { member = λ h. goes refl; keys = keys }
ruled_sound p members AbandonBackground u on keys goes = dropped_sound p members AbandonBackground u on refl

-- its member is complete

next_few : (keys p member : ℕ) → keys ≤ p + 48 * (member + 1) → keys + 0 ≤ p + 48 * (member + 1)
next_few keys p member h = omega (arith, h)

all_members : (keys p member members : ℕ) → keys ≤ p + 48 * (member + 1) → member < members → keys ≤ p + 48 * members
all_members keys p member members h lt = omega (arith, h, lt)

-- the next one begins
going_sound : (p members : ℕ) (keys : List ℕ) (v : Unioned) → v.member < members → length keys ≤ p + 48 * (v.member + 1) → UnionSound p members (going_on (joined keys v))
going_sound p members keys v there few = by (was_begun (index_of next) next.trace.events.items)
  where
    next : Unioned
    next = next_member (joined keys v)

    own : MemberSound p next
    own = record { scanned = zero_least 0; capped = zero_least greatest; built = zero_least 0; few = next_few (length keys) p v.member few; short = tt }

    by : (b : Bool) → UnionSound p members (if b then next else told (Scan (index_of next)) next)
    by true = record { member = λ on. own; keys = all_members (length keys) p v.member members few there }
    by false = record { member = λ on. record { scanned = own.scanned; capped = own.capped; built = own.built; few = own.few; short = own.short }; keys = all_members (length keys) p v.member members few there }

over_sound : (p members : ℕ) (keys : List ℕ) (v : Unioned) → scanning v.control ≡ true → v.member < members → length keys ≤ p + 48 * (v.member + 1) → UnionSound p members (over (joined keys v))
over_sound p members keys v on there few = by (has_next (joined keys v))
  where
    by : (b : Bool) → UnionSound p members (if b then going_on (joined keys v) else listed (joined keys v))
    by true = going_sound p members keys v there few
    by false = record {
      member = λ h. no_way (sym h ∙ gone_listed v.control on);
      keys = all_members (length keys) p v.member members few there;
    }

list_sum : (keys all before part built more entries p member : ℕ) → all ≡ keys → all ≡ before + part → part ≡ built + more → before + built ≤ p + 48 * member → more ≤ entries → entries ≤ 48 → keys ≤ p + 48 * (member + 1)
list_sum keys all before part built more entries p member k a b f m e = omega (arith, k, a, b, f, m, e)

completed_few : (p : ℕ) (piece : Pieced) (old : Unioned) (keys : List ℕ) → MemberSound p old → length piece.entries ≤ 48 → IsPermutation ((accepted piece true old).keys ++ (accepted piece true old).lane.building) keys → length keys ≤ p + 48 * (old.member + 1)
completed_few p piece old keys s short perm =
    let part = old.lane.building ++ kept_of old piece in
    list_sum (length keys) (length (old.keys ++ part)) (length old.keys) (length part) (length old.lane.building) (length (kept_of old piece)) (length piece.entries) p old.member (sym (length_permutation (old.keys ++ part) keys perm)) (length-append old.keys part) (length-append old.lane.building (kept_of old piece)) s.few (kept_few (lacks old.keys) piece) short

-- A PIECE IS GIVEN.

given_sound : (p members : ℕ) (would : ℕ → Facts → Ruling) (state after : ℕ) (piece : Pieced) (old new : Unioned) → IsBounded would → Placed p members old → p ≤ greatest → UnionSound p members old → scanning old.control ≡ true → length piece.entries ≤ 48 → Obeys would state after piece (held_next old.lane.held) old new → UnionSound p members new
given_sound p members would state after piece old new rule w small s on short obeys = by (held_next old.lane.held) obeys
  where
    verdict : Verdict
    verdict = (would state (facts_of (accepted piece false old))).verdict

    by : (next : Option IndexEntry) → Obeys would state after piece next old new → UnionSound p members new
    by (Some cut) asked = subst (UnionSound p members) (sym asked.0) (ruled_sound p members verdict (accepted piece false old) on s.keys (λ goes. judged_sound p members would state piece old rule w small (s.member on) goes))
    by None done = subst (UnionSound p members) (sym done.0.ends) (over_sound p members done.0.keys (accepted piece true old) on w.there (completed_few p piece old done.0.keys (s.member on) short done.0.built))

give_costs : (p members : ℕ) (would : ℕ → Facts → Ruling) (old new : Unioned) → p ≤ greatest → IsBounded would → members ≤ 2 ^ 32 → UnionWhole p members old → UnionGives would old new → UnionCosts p members 0 old new
give_costs p members would old new small rule few w gives = by gives.given gives.answers gives.obeys
  where
    spends : UnionSpends p members 0 old new
    spends = give_spends p members would old new rule few w.placed gives

    by : (given : Given) → Answers old gives.piece given new → GivesOn would gives.state gives.after gives.piece given old new → UnionCosts p members 0 old new
    by Accepted answers obeys =
        let on = answers.under_way in
        let short = held_short old.lane.held gives.piece.entries answers.own.entries (w.sound.member on).short in
        let sound = given_sound p members would gives.state gives.after gives.piece old new rule w.placed small w.sound on short obeys in
        record {
          leaf = 0;
          other = 0;
          both = refl;
          spends = spends;
          fewer = back_sum (others_of new.trace) (stage_of p members new) (others_of old.trace) (stage_of p members old) (p + 48 * members) (same_others old.trace new.trace gives.counts) (stage_few p members new sound) (stage_at p members old BackgroundAlone (only_scanning old.control on));
          sound = sound;
        }
    by (Stale asked now) answers obeys = record {
      leaf = 0;
      other = 0;
      both = refl;
      spends = spends;
      fewer = sum_none (others_of new.trace) (others_of old.trace) (stage_of p members new) (stage_of p members old) (same_others old.trace new.trace gives.counts) (same_less (stage_of p members new) (stage_of p members old) (ap (stage_of p members) obeys.0));
      sound = subst (UnionSound p members) (sym obeys.0) w.sound;
    }

-- A PIECE IS TAKEN.

-- what it holds alone is another, and its leaf is counted
abbrev leafed : Unioned → Unioned → Unioned
leafed old new = record old { lane = record old.lane { held = new.lane.held }; count = count_read old; at = new.at; trace = new.trace }

leafed_sound : (p members : ℕ) (old new : Unioned) → IfSome new.lane.held IsShort → UnionSound p members old → UnionSound p members (leafed old new)
leafed_sound p members old new short s = record { member = λ on. by (s.member on) (reads_leaf old); keys = s.keys }
  where
    by : MemberSound p old → (b : Bool) → MemberSound p (record old { lane = record old.lane { held = new.lane.held }; count = (if b then leaf_counted old.count else old.count); at = new.at; trace = new.trace })
    by m true = record { scanned = m.scanned; capped = m.capped; built = m.built; few = m.few; short = short }
    by m false = record { scanned = m.scanned; capped = m.capped; built = m.built; few = m.few; short = short }

taken_sound : (p members : ℕ) (old new : Unioned) → new ≡ leafed old new → IfSome new.lane.held IsShort → UnionSound p members old → UnionSound p members new
taken_sound p members old new same short s = subst (UnionSound p members) (sym same) (leafed_sound p members old new short s)

-- a take leaves the place in the list
takes_same : (old new : Unioned) → new.at ≡ old.at → new ≡ record old { lane = record old.lane { held = new.lane.held }; count = count_read old; trace = new.trace } → new ≡ leafed old new
takes_same old new at same = same ∙ ap (λ (n : ℕ). record old { lane = record old.lane { held = new.lane.held }; count = count_read old; at = n; trace = new.trace }) (sym at)

fits_short : (u : Unioned) (shown : Shown) → UnionFits u shown → IfSome u.lane.held IsShort
fits_short u shown f = drawn_short (present u) shown u.snap u.lane.place u.lane.held f.lane.drawn

piece_pages : (u : Unioned) (c : Counts) → (piece_read u c).pages ≡ c.pages
piece_pages u c = by (reads_leaf u)
  where
    by : (b : Bool) → (if b then leaf_read c else c).pages ≡ c.pages
    by true = refl
    by false = refl

piece_records : (u : Unioned) (c : Counts) → (piece_read u c).records ≡ c.records
piece_records u c = by (reads_leaf u)
  where
    by : (b : Bool) → (if b then leaf_read c else c).records ≡ c.records
    by true = refl
    by false = refl

piece_others : (u : Unioned) (t v : Trace) (c d : Counts) → CountsRise t v c d → d ≡ piece_read u c → others_of v ≤ others_of t
piece_others u t v c d rise reads = others_same t v c d rise (ap (λ (x : Counts). x.pages) reads ∙ piece_pages u c) (ap (λ (x : Counts). x.records) reads ∙ piece_records u c)

takes_costs : (p members lost : ℕ) (taken : Option Taken) (shown : Shown) (old new : Unioned) → UnionSpends p members lost old new → UnionWhole p members old → UnionTakes taken old new → UnionFits new shown → lost + 0 ≡ lost → UnionCosts p members lost old new
takes_costs p members lost taken shown old new spends w takes fits sum = record {
  leaf = lost;
  other = 0;
  both = sum;
  spends = spends;
  fewer = sum_none (others_of new.trace) (others_of old.trace) (stage_of p members new) (stage_of p members old) (piece_others old old.trace new.trace takes.before takes.behind takes.counts takes.reads) (same_less (stage_of p members new) (stage_of p members old) (ap (stage_of p members) takes.leaves.same));
  sound = taken_sound p members old new (takes_same old new (ap (λ (x : Unioned). x.at) takes.leaves.same) takes.leaves.same) (fits_short new shown fits) w.sound;
}

-- A STEP FOR WHICH NO MEMORY IS FOUND.

lost_costs : (p members : ℕ) (shown : Shown) (old new : Unioned) → p + 2 * members < greatest → UnionWhole p members old → UnionStepsLost old new → UnionFits new shown → UnionCosts p members 1 old new
lost_costs p members shown old new small w lost fits = by old.control refl lost.may_read
  where
    leafs : Leafs old new
    leafs = only_leafs old new lost.only

    control : new.control ≡ old.control
    control = ap (λ (x : Unioned). x.control) lost.only.same

    last : stage_by old.control (p + 48 * members) p (keys_work old) new.last.next ≡ stage_of p members old
    last = ap (λ (x : Unioned). stage_by old.control (p + 48 * members) p (keys_work old) x.last.next) lost.only.same

    stage : stage_of p members new ≤ stage_of p members old
    stage = subst (λ (n : ℕ). stage_of p members new ≤ n) last (subst (λ (c : Control). stage_by new.control (p + 48 * members) p (keys_work new) new.last.next ≤ stage_by c (p + 48 * members) p (keys_work old) new.last.next) control (stage_less new.control (p + 48 * members) p (keys_work new) (keys_work old) new.last.next lost.only.fewer))

    costs : (leaf other : ℕ) → leaf + other ≡ 1 → UnionSpends p members leaf old new → others_of new.trace + stage_of p members new ≤ others_of old.trace + stage_of p members old + other → UnionCosts p members 1 old new
    costs leaf other both spends fewer = record {
      leaf = leaf;
      other = other;
      both = both;
      spends = spends;
      fewer = fewer;
      sound = taken_sound p members old new lost.only.same (fits_short new shown fits) w.sound;
    }

    -- a leaf at most was read
    leaf_lost : others_of new.trace ≤ others_of old.trace → UnionCosts p members 1 old new
    leaf_lost none = costs 1 0 refl (step_lost p members old new small w.placed lost) (sum_none (others_of new.trace) (others_of old.trace) (stage_of p members new) (stage_of p members old) none stage)

    -- a record or a page at most
    other_lost : scanning old.control ≡ false → lost.behind.leaves ≡ lost.before.leaves → others_of new.trace ≤ others_of old.trace + 1 → UnionCosts p members 1 old new
    other_lost off none one = costs 0 1 refl (idle_spends p members old new lost.before lost.behind w.placed leafs off lost.counts none) (sum_lost (others_of new.trace) (others_of old.trace) (stage_of p members new) (stage_of p members old) one stage)

    unread : lost.behind ≡ lost.before → UnionCosts p members 1 old new
    unread same = leaf_lost (others_same old.trace new.trace lost.before lost.behind lost.counts (ap (λ (x : Counts). x.pages) same) (ap (λ (x : Counts). x.records) same))

    by : (c : Control) → old.control ≡ c → MayRead c old lost.before lost.behind → UnionCosts p members 1 old new
    by Building e reads = unread reads
    by ForegroundAlone e reads = unread reads
    by BackgroundAlone e reads = leaf_lost (piece_others old old.trace new.trace lost.before lost.behind lost.counts reads)
    by FinalList e reads = other_lost (ap scanning e) (one_record lost.before lost.behind reads) (record_rise old.trace new.trace lost.before lost.behind lost.counts reads)
    by FinalTable e reads = other_lost (ap scanning e) (one_page lost.before lost.behind reads) (page_rise old.trace new.trace lost.before lost.behind lost.counts reads)
    by Done e reads = unread reads

-- A STEP

-- its reads beside leaves, and what it leaves
record Others (p members : ℕ) (old new : Unioned) : Type 0 where
  fewer : others_of new.trace + stage_of p members new ≤ others_of old.trace + stage_of p members old + 0
  sound : UnionSound p members new

counted_sound : (p members : ℕ) (stepped new : Unioned) (c d : Counts) → new ≡ record stepped { trace = counted stepped.trace c d } → UnionSound p members stepped → UnionSound p members new
counted_sound p members stepped new c d e s = subst (UnionSound p members) (sym e) (record { member = λ on. again (s.member on); keys = s.keys })
  where
    again : MemberSound p stepped → MemberSound p (record stepped { trace = counted stepped.trace c d })
    again m = record { scanned = m.scanned; capped = m.capped; built = m.built; few = m.few; short = m.short }

ended_control : (s : Stepped Record) (u : Unioned) (c : Control) → u.control ≡ c → next_control Union c FinalEnded ≡ Done → (ended_by s u).control ≡ behind s c
ended_control (Row x) u c e over = e
ended_control Working u c e over = e
ended_control End u c e over = ap (λ (k : Control). next_control Union k FinalEnded) e ∙ over

ended_keys : (s : Stepped Record) (u : Unioned) → (ended_by s u).keys ≡ u.keys
ended_keys (Row x) u = refl
ended_keys Working u = refl
ended_keys End u = refl

-- of the final stage
stage_others : (p members : ℕ) (s : Stepped Record) (at : Control) (old v stepped new : Unioned) (c d : Counts) (had : ℕ) → scanning at ≡ false → next_control Union at FinalEnded ≡ Done → v.control ≡ at → v.keys ≡ old.keys → stepped ≡ ended_by s v → new ≡ record stepped { trace = counted stepped.trace c d } → UnionSound p members old → stage_of p members old ≡ had → (stepped.control ≡ behind s at → others_of new.trace + stage_of p members stepped ≤ others_of old.trace + had + 0) → Others p members old new
stage_others p members s at old v stepped new c d had off over is keys does e sound was less =
    let control : stepped.control ≡ behind s at = ap (λ (x : Unioned). x.control) does ∙ ended_control s v at is over in
    let idle : scanning stepped.control ≡ false = ap scanning control ∙ behind_idle s at off in
    let lists : stepped.keys ≡ old.keys = ap (λ (x : Unioned). x.keys) does ∙ ended_keys s v ∙ keys in
    let still : UnionSound p members stepped = record {
      member = λ on. no_way (sym on ∙ idle);
      keys = subst (λ (ks : List ℕ). length ks ≤ p + 48 * members) (sym lists) sound.keys;
    } in
    record {
      fewer = sum_to (others_of new.trace) (stage_of p members new) (stage_of p members stepped) (others_of old.trace) had (stage_of p members old) (ap (stage_of p members) e) was (less control);
      sound = counted_sound p members stepped new c d e still;
    }

does_others : (p members : ℕ) (would : ℕ → Facts → Ruling) (state after : ℕ) (shown : Shown) (c d : Counts) (s : Stepped Record) (control : Control) (old stepped new : Unioned) → p ≤ greatest → shown.pages old.table old.snap ≡ p → IsBounded would → UnionWhole p members old → old.control ≡ control → DoesAs control would state after shown c d s old stepped → CountsRise old.trace new.trace c d → new ≡ record stepped { trace = counted stepped.trace c d } → Others p members old new
does_others p members would state after shown c d s Building old stepped new small pages rule w is does rise e = absurd does
does_others p members would state after shown c d s ForegroundAlone old stepped new small pages rule w is does rise e = absurd does
does_others p members would state after shown c d s BackgroundAlone old stepped new small pages rule w is does rise e =
    let one = does.1 in
    let mid = one.taken in
    let held = short_held mid.lane.held one.piece.entries one.awaits.own.entries one.short in
    let taken = taken_sound p members old mid (takes_same old mid (ap (λ (x : Unioned). x.at) one.leaves.same) one.leaves.same) held w.sound in
    let given = given_sound p members would state after one.piece mid stepped rule (leafs_placed p members old mid w.placed (takes_leafs old mid one.leaves)) small taken one.awaits.under_way one.short one.obeys in
    let sound = counted_sound p members stepped new c d e given in
    record {
      fewer = back_sum (others_of new.trace) (stage_of p members new) (others_of old.trace) (stage_of p members old) (p + 48 * members) (piece_others old old.trace new.trace c d rise does.2) (stage_few p members new sound) (stage_at p members old BackgroundAlone is);
      sound = sound;
    }
does_others p members would state after shown c d s FinalList old stepped new small pages rule w is does rise e =
    stage_others p members s FinalList old (record old { at = stepped.at }) stepped new c d (keys_work old) refl refl is refl does.2 e w.sound (stage_at p members old FinalList is) (λ now. list_fewer (p + 48 * members) p (keys_work stepped) (keys_work old) stepped.last.next old.trace new.trace c d s (first_key (Some old.keys) None old.at) old.only (rows_of old shown) stepped.control rise does.1 does.3 now)
does_others p members would state after shown c d s FinalTable old stepped new small pages rule w is does rise e =
    stage_others p members s FinalTable old (record old { last = stepped.last }) stepped new c d (p - old.last.next) refl refl is refl does.2 e w.sound (stage_at p members old FinalTable is) (λ now. table_fewer (p + 48 * members) p (keys_work stepped) old.last stepped.last old.trace new.trace c d s stepped.control rise does.1 (subst (λ (n : ℕ). PageTurns s old.last stepped.last n) pages does.3) now)
does_others p members would state after shown c d s Done old stepped new small pages rule w is does rise e = record {
  fewer = sum_none (others_of new.trace) (others_of old.trace) (stage_of p members new) (stage_of p members old) (others_same old.trace new.trace c d rise (ap (λ (x : Counts). x.pages) does.2) (ap (λ (x : Counts). x.records) does.2)) (same_less (stage_of p members new) (stage_of p members old) (ap (stage_of p members) e ∙ ap (stage_of p members) does.3));
  sound = counted_sound p members stepped new c d e (subst (UnionSound p members) (sym does.3) w.sound);
}

step_costs : (p members : ℕ) (would : ℕ → Facts → Ruling) (old new : Unioned) → p + 2 * members < greatest → p ≤ greatest → IsBounded would → members ≤ 2 ^ 32 → UnionWhole p members old → (steps : UnionSteps would old new) → steps.shown.pages old.table old.snap ≡ p → UnionCosts p members 0 old new
step_costs p members would old new small most rule few w steps is =
    let does = steps.does in
    let left = does_others p members would steps.state steps.after steps.shown steps.before steps.behind steps.scanned old.control old does.stepped new most is rule w refl does.does steps.counts does.counts in
    record {
      leaf = 0;
      other = 0;
      both = refl;
      spends = step_spends p members would old new small rule few w.placed steps;
      fewer = left.fewer;
      sound = left.sound;
    }

-- ALL CALLS

does_costs : (p members : ℕ) (call : Call) (would : ℕ → Facts → Ruling) (old new : Unioned) → p + 2 * members < greatest → p ≤ greatest → IsBounded would → members ≤ 2 ^ 32 → UnionWhole p members old → (does : UnionDoesCall call would old new) → UnionOver call would p old new does → UnionCosts p members (lost_of call) old new
does_costs p members Step would old new small most rule few w does is = step_costs p members would old new small most rule few w does is
does_costs p members StepLost would old new small most rule few w does fits = lost_costs p members fits.0 old new small w does fits.1
does_costs p members Take would old new small most rule few w does fits = takes_costs p members 0 (Some does.0) fits.0 old new (take_spends p members does.0 old new small w.placed does.1) w does.1 fits.1 refl
does_costs p members TakeLost would old new small most rule few w does fits = takes_costs p members 1 None fits.0 old new (take_lost p members old new small w.placed does) w does fits.1 refl
does_costs p members Give would old new small most rule few w does none = give_costs p members would old new most rule few w does

abbrev AllCost : ℕ → ℕ → ℕ → Unioned → Unioned → Type 0
AllCost p members lost old new = Spent (UnionWhole p members) (λ (u : Unioned). u.trace.leaves + union_ahead p members u) (λ (u : Unioned). others_of u.trace + stage_of p members u) lost old new

all_cost : (p members : ℕ) (calls : List Call) (old new : Unioned) → p + 2 * members < greatest → p ≤ greatest → members ≤ 2 ^ 32 → UnionWhole p members old → (does : UnionDoesAll calls old new) → UnionAllOver calls p old new does → AllCost p members (lost_by calls) old new
all_cost p members [] old new small most few w does over = none_spent old new does w
all_cost p members (call ∷ calls) old new small most few w does over =
    let mid = does.0 in
    let before = all_cost p members calls old mid small most few w does.1 over.0 in
    let cost = does_costs p members call does.2.would mid new small most does.2.bounded few before.holds does.2.does over.1 in
    let last : AllCost p members (lost_of call) mid new = record { holds = whole_on p members (lost_of call) mid new cost before.holds; leaf = cost.leaf; other = cost.other; both = cost.both; leaves = cost.spends.fewer; fewer = cost.fewer } in
    spent_on (lost_by calls) (lost_of call) old mid new before last

-- THE LAW

small_all : (p members most : ℕ) → p < 2 ^ 63 → members ≤ 2 ^ 32 → most ≡ 2 ^ 64 - 1 → (p + 2 * members < most) × (p ≤ most)
small_all p members most h l m = (omega (arith, h, l, m), omega (arith, h, l, m))

whole_sum : (pages leaves fetches ahead_now rest_now leaves_was ahead_was pages_was fetches_was rest_was p members leaf other lost : ℕ) → leaves + ahead_now ≤ leaves_was + ahead_was + leaf → pages + fetches + rest_now ≤ pages_was + fetches_was + rest_was + other → leaf + other ≡ lost → leaves_was ≡ 0 → pages_was ≡ 0 → fetches_was ≡ 0 → ahead_was ≤ p + 2 * members → rest_was ≡ p + 48 * members → pages + leaves + fetches ≤ 2 * p + 50 * members + lost
whole_sum pages leaves fetches ahead_now rest_now leaves_was ahead_was pages_was fetches_was rest_was p members leaf other lost l o b lz pz fz a r = omega (arith, l, o, b, lz, pz, fz, a, r)

no_keys : (p members : ℕ) → 0 + 0 ≤ p + 48 * members
no_keys p members = omega arith

pub unions_bounded : UnionsAreBounded
unions_bounded table snap only plans cursor opening p calls opened now some few less is does over =
    whole_sum now.trace.pages now.trace.leaves now.trace.fetches (union_ahead p members now) (stage_of p members now) opened.trace.leaves (union_ahead p members opened) opened.trace.pages opened.trace.fetches (stage_of p members opened) p members cost.leaf cost.other (lost_by calls) cost.leaves cost.fewer cost.both (ap (λ (x : Unioned). x.trace.leaves) is.is) (ap (λ (x : Unioned). x.trace.pages) is.is) (ap (λ (x : Unioned). x.trace.fetches) is.is) (opened_most table snap only plans cursor opening p opened is) (ap (stage_of p members) is.is)
  where
    members : ℕ
    members = length plans

    small : (p + 2 * members < greatest) × (p ≤ greatest)
    small = small_all p members greatest less few refl

    first : MemberSound p opened
    first = subst (MemberSound p) (sym is.is) (record { scanned = zero_least 0; capped = zero_least greatest; built = zero_least 0; few = no_keys p 0; short = tt })

    sound : UnionSound p members opened
    sound = record { member = λ on. first; keys = subst (λ (x : Unioned). length x.keys ≤ p + 48 * members) (sym is.is) (zero_least (p + 48 * members)) }

    whole : UnionWhole p members opened
    whole = record {
      placed = opened_placed table snap only plans cursor opening p opened some is;
      sound = sound;
    }

    cost : AllCost p members (lost_by calls) opened now
    cost = all_cost p members calls opened now small.0 small.1 few whole does over
