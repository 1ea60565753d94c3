-- What a search reads to its end, from its opening on.
use Rattle.std.proofs.Common.{◌≡◌, ℕ, ◌+◌, ◌-◌, ◌*◌, ◌^◌, ◌<◌, ◌≤◌, List, [], ◌∷◌, length, map, filter, min, refl, sym, subst, arith}
use Rattle.std.proofs.lemmas.List.{length-map}
use Rattle.std.proofs.lemmas.List.Sorted.{length_permutation}
use Rattle.rv_value.proofs.Lists.{filter_length}
use Rattle.rv_judge.specs.declared.counting.Counts.{Counts}
use Rattle.rv_judge.specs.declared.events.Strategy.TheVariants.{BackgroundOnly}
use Rattle.rv_judge.specs.declared.judging.Facts.{Facts}
use Rattle.rv_judge.specs.Tracing.{CountsAll}
use Rattle.rv_judge.specs.Verdicts.{Ruling}
use Rattle.rv_reader.specs.Shown.{Shown}
use Rattle.rv_choice.specs.declared.query.Query.{Query}
use Rattle.rv_choice.specs.Choice.{AreScans, candidate_of, candidates_of, is_scanned, plan_of}
use Rattle.rv_choice.specs.declared.choosing.Background.{Background}
use Rattle.rv_jscan.specs.declared.jscan.ScanPlan.{ScanPlan}
use Rattle.rv_reader.specs.declared.step.Step.{Step}
use Rattle.rv_value.specs.declared.record.Record.{Record}
use Rattle.rv_reader.specs.declared.step.Step.TheVariants.{End}
use Rattle.rv_retrieval.specs.Shape.{Shape}
use Rattle.rv_search.specs.Searching.{Searched, StepsAll, searched}
use Rattle.skew_judges.specs.Guard.{IsBounded}
use Rattle.rv_bounded.specs.Bounds.{SearchesAreBounded}
use Rattle.rv_bounded.specs.Calls.{Steps}
use Rattle.rv_bounded.proofs.Ahead.{ahead, greatest}
use Rattle.rv_bounded.proofs.Costs.{Whole, others, rest_back, rest_of, whole_on}
use Rattle.rv_bounded.proofs.WholeLaws.{Alone, opened_ahead, opened_back, opened_whole, small_all}
use Rattle.rv_bounded.proofs.StepCosts.{step_costs, step_rise}
use Rattle.rv_bounded.proofs.Sums.{none_risen, still_sum}

-- the reads with those that may come are no more than at opening, and what was counted is in the trace
record Gone (query : Query) (p planned : ℕ) (c : Counts) (old : Shape) (new : Searched) : Type 0 where
  whole : Whole query p planned new.retrieval
  leaves : new.retrieval.trace.leaves + ahead p new.retrieval.joint ≤ old.trace.leaves + ahead p old.joint + 0
  fewer : others new.retrieval + rest_of p new.retrieval ≤ others old + rest_of p old + 0
  pages_told : new.counts.pages ≤ c.pages + new.retrieval.trace.pages
  leaves_told : new.counts.leaves ≤ c.leaves + new.retrieval.trace.leaves
  records_told : new.counts.records ≤ c.records + new.retrieval.trace.fetches

told_on : (now was d c base most : ℕ) → now ≡ min (was + (d - c)) most → now < most → c ≤ base + was → d ≤ base + now
told_on now was d c base most n lt h = omega (arith, n, lt, h)

none_lost : (now mid was more a b : ℕ) → a + b ≡ 0 → now ≤ mid + a → mid ≤ was + 0 → now ≤ was + 0
none_lost now mid was more a b e n m = omega (arith, e, n, m)

none_other : (now mid was a b : ℕ) → a + b ≡ 0 → now ≤ mid + b → mid ≤ was + 0 → now ≤ was + 0
none_other now mid was a b e n m = omega (arith, e, n, m)

leaves_below : (now left was had p planned most : ℕ) → now + left ≤ was + had + 0 → was ≡ 0 → had ≤ p + 2 * planned → p + 2 * planned < most → now < most
leaves_below now left was had p planned most h z b s = omega (arith, h, z, b, s)

pages_below : (pages fetches left pw fw had p most : ℕ) → pages + fetches + left ≤ pw + fw + had + 0 → pw ≡ 0 → fw ≡ 0 → had ≡ p + 48 → p < 2 ^ 63 → most ≡ 2 ^ 64 - 1 → pages < most
pages_below pages fetches left pw fw had p most h z y b s m = omega (arith, h, z, y, b, s, m)

records_below : (pages fetches left pw fw had p most : ℕ) → pages + fetches + left ≤ pw + fw + had + 0 → pw ≡ 0 → fw ≡ 0 → had ≡ p + 48 → p < 2 ^ 63 → most ≡ 2 ^ 64 - 1 → fetches < most
records_below pages fetches left pw fw had p most h z y b s m = omega (arith, h, z, y, b, s, m)

-- where nothing was told yet
record Unread (v : Shape) : Type 0 where
  pages : v.trace.pages ≡ 0
  leaves : v.trace.leaves ≡ 0
  fetches : v.trace.fetches ≡ 0

steps_gone : (answers : List (Step Record)) (query : Query) (p planned : ℕ) (would : ℕ → Facts → Ruling) (shown : Shown) (c : Counts) (old : Shape) (state : ℕ) (new : Searched) → p < 2 ^ 63 → p + 2 * planned < greatest → p ≡ shown.pages query.table query.snap → IsBounded would → Whole query p planned old → Unread old → ahead p old.joint ≤ p + 2 * planned → rest_of p old ≡ p + 48 → StepsAll answers would shown (searched old state c) new → Gone query p planned c old new
steps_gone [] query p planned would shown c old state new few small pages rule w none left rest steps = subst (Gone query p planned c old) (sym steps) (record {
  whole = w;
  leaves = still_sum old.trace.leaves (ahead p old.joint);
  fewer = still_sum (others old) (rest_of p old);
  pages_told = at_least c.pages old.trace.pages;
  leaves_told = at_least c.leaves old.trace.leaves;
  records_told = at_least c.records old.trace.fetches;
})
  where
    at_least : (a b : ℕ) → a ≤ a + b
    at_least a b = omega arith
steps_gone (fg ∷ answers) query p planned would shown c old state new few small pages rule w none left rest steps =
    let mid = steps.0 in
    let before = steps_gone answers query p planned would shown c old state mid few small pages rule w none left rest steps.1 in
    let step : Steps would shown mid.retrieval new.retrieval = record { state = mid.judge; after = new.judge; before = mid.counts; behind = new.counts; fg = fg; does = steps.2 } in
    let cost = step_costs p planned would query shown mid.retrieval new.retrieval small pages rule before.whole step in
    let rise = step_rise would shown mid.retrieval new.retrieval before.whole.apart step in
    let leaves = none_lost (new.retrieval.trace.leaves + ahead p new.retrieval.joint) (mid.retrieval.trace.leaves + ahead p mid.retrieval.joint) (old.trace.leaves + ahead p old.joint) 0 cost.leaf cost.other cost.both cost.spends.fewer before.leaves in
    let fewer = none_other (others new.retrieval + rest_of p new.retrieval) (others mid.retrieval + rest_of p mid.retrieval) (others old + rest_of p old) cost.leaf cost.other cost.both cost.fewer before.fewer in
    record {
      whole = whole_on query p planned 0 mid.retrieval new.retrieval cost before.whole;
      leaves = leaves;
      fewer = fewer;
      pages_told = told_on new.retrieval.trace.pages mid.retrieval.trace.pages new.counts.pages mid.counts.pages c.pages greatest rise.pages (pages_below new.retrieval.trace.pages new.retrieval.trace.fetches (rest_of p new.retrieval) old.trace.pages old.trace.fetches (rest_of p old) p greatest fewer none.pages none.fetches rest few refl) before.pages_told;
      leaves_told = told_on new.retrieval.trace.leaves mid.retrieval.trace.leaves new.counts.leaves mid.counts.leaves c.leaves greatest rise.leaves (leaves_below new.retrieval.trace.leaves (ahead p new.retrieval.joint) old.trace.leaves (ahead p old.joint) p planned greatest leaves none.leaves left small) before.leaves_told;
      records_told = told_on new.retrieval.trace.fetches mid.retrieval.trace.fetches new.counts.records mid.counts.records c.records greatest rise.fetches (records_below new.retrieval.trace.pages new.retrieval.trace.fetches (rest_of p new.retrieval) old.trace.pages old.trace.fetches (rest_of p old) p greatest fewer none.pages none.fetches rest few refl) before.records_told;
    }

search_sum : (dp dl dr cp cl cr pages leaves fetches ahead_now rest_now leaves_was ahead_was pages_was fetches_was rest_was p planned : ℕ) → leaves + ahead_now ≤ leaves_was + ahead_was + 0 → pages + fetches + rest_now ≤ pages_was + fetches_was + rest_was + 0 → leaves_was ≡ 0 → pages_was ≡ 0 → fetches_was ≡ 0 → ahead_was ≤ p + 2 * planned → rest_was ≡ p + 48 → dp ≤ cp + pages → dl ≤ cl + leaves → dr ≤ cr + fetches → dp + dl + dr ≤ cp + cl + cr + 2 * p + 2 * planned + 48
search_sum dp dl dr cp cl cr pages leaves fetches ahead_now rest_now leaves_was ahead_was pages_was fetches_was rest_was p planned l o lz pz fz a r tp tl tr = omega (arith, l, o, lz, pz, fz, a, r, tp, tl, tr)

unread_of : (v : Shape) (c d : Counts) → d ≡ c → CountsAll v.trace c d → Unread v
unread_of v c d same told =
    let own : CountsAll v.trace c c = subst (CountsAll v.trace c) same told in
    record {
      pages = none_risen v.trace.pages c.pages greatest own.pages;
      leaves = none_risen v.trace.leaves c.leaves greatest own.leaves;
      fetches = none_risen v.trace.fetches c.records greatest own.fetches;
    }

-- each scan is of one of the indexes
few_scans : (query : Query) (shown : Shown) (background : Background) (scans : List ScanPlan) → AreScans query.only (candidates_of query shown) background scans → length query.indexes ≤ 8 → length scans ≤ 8
few_scans query shown background scans s few =
    let cs = candidates_of query shown in
    few_sum (length scans) (length (map (plan_of query.only) (filter (is_scanned background) cs))) (length (filter (is_scanned background) cs)) (length cs) (length query.indexes) (sym (length_permutation (map (plan_of query.only) (filter (is_scanned background) cs)) scans s.these)) (length-map (filter (is_scanned background) cs) (plan_of query.only)) (filter_length (is_scanned background) cs) (length-map query.indexes (candidate_of query shown)) few
  where
    few_sum : (scans planned passed all indexes : ℕ) → planned ≡ scans → planned ≡ passed → passed ≤ all → all ≡ indexes → indexes ≤ 8 → scans ≤ 8
    few_sum scans planned passed all indexes a b c d e = omega (arith, a, b, c, d, e)

pub searches_bounded : SearchesAreBounded
searches_bounded would state after shown before behind query ran rule few long alone less =
    let p = shown.pages query.table query.snap in
    let v = ran.begun in
    let planned = length v.joint.plans in
    let opens : Alone BackgroundOnly query shown v = record { cursor = 0; opening = 0; opened = ran.opened; alone = alone; long = long; room = few_scans query shown ran.opened.choice.background v.joint.plans ran.opened.made.scans few } in
    let small = small_all p planned greatest less opens.room refl in
    let none = unread_of v before ran.counts (ran.unread long) ran.told in
    let left = opened_ahead query shown v p opens in
    let rest = rest_back p v (opened_back query shown v opens) in
    let made = subst (λ (c : Counts). StepsAll (End ∷ ran.goes.before) would shown (searched v state c) (searched ran.goes.last after behind)) (ran.unread long) ran.goes.made in
    let gone = steps_gone (End ∷ ran.goes.before) query p planned would shown before v state (searched ran.goes.last after behind) less small refl rule (opened_whole query shown v opens) none left rest made in
    search_sum behind.pages behind.leaves behind.records before.pages before.leaves before.records ran.goes.last.trace.pages ran.goes.last.trace.leaves ran.goes.last.trace.fetches (ahead p ran.goes.last.joint) (rest_of p ran.goes.last) v.trace.leaves (ahead p v.joint) v.trace.pages v.trace.fetches (rest_of p v) p planned gone.leaves gone.fewer none.leaves none.pages none.fetches left rest gone.pages_told gone.leaves_told gone.records_told
