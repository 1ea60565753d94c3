-- What pieces that are taken and foreground steps cost, and what they leave.
use Rattle.std.proofs.Common.{◌≡◌, ◌⊎◌, ℕ, ◌+◌, ◌-◌, ◌*◌, ◌<◌, ◌≤◌, List, length, min, Bool, true, false, Option, Some, None, IfSome, inl, inr, refl, ap, sym, ◌∙◌, subst, arith}
use Rattle.std.specs.Prelude.{if◌then◌else◌}
use Rattle.rv_value.proofs.Tests.{no_other}
use Rattle.rv_judge.specs.declared.counting.Counts.{Counts}
use Rattle.rv_judge.specs.declared.events.Control.{Control}
use Rattle.rv_judge.specs.declared.events.Control.TheVariants.{Building, ForegroundAlone, BackgroundAlone, FinalList, FinalTable, Done}
use Rattle.rv_judge.specs.declared.events.Happening.TheVariants.{FinalEnded}
use Rattle.rv_judge.specs.declared.judging.Facts.{Facts}
use Rattle.rv_judge.specs.Counting.{leaf_read, page_read, record_read}
use Rattle.rv_judge.specs.Course.{next_control}
use Rattle.rv_judge.specs.Tracing.{CountsRise, SameCounts, counted}
use Rattle.rv_judge.specs.Verdicts.{Ruling}
use Rattle.rv_reader.specs.declared.reader.Chunk.{Chunk}
use Rattle.rv_reader.specs.Shown.{Shown}
use Rattle.rv_scan.specs.Places.{PageReads, PageTurns, Place}
use Rattle.rv_scan.specs.Reads.{OneAtMost}
use Rattle.rv_reader.specs.declared.step.Step.{Step}
use Rattle.rv_value.specs.declared.record.Record.{Record}
use Rattle.rv_reader.specs.declared.step.Step.TheVariants.{Row, Working, End}
use Rattle.rv_jscan.specs.declared.jscan.Taken.{Taken}
use Rattle.rv_jscan.specs.Joint.{IsNextLeaf, Joint}
use Rattle.rv_jscan.specs.Steps.{TakeLeaves, reads_leaf}
use Rattle.rv_final.specs.Stage.{keys_left}
use Rattle.rv_final.specs.Work.{Falls}
use Rattle.rv_choice.specs.declared.query.Query.{Query}
use Rattle.rv_retrieval.specs.Accounts.{fresh_of}
use Rattle.rv_retrieval.specs.Effort.{keys_work}
use Rattle.rv_retrieval.specs.Given.{TakesLeaf, TakesLeafBy}
use Rattle.rv_retrieval.specs.Shape.{Shape, is_background}
use Rattle.rv_retrieval.specs.Stepping.{DoesAs, MayRead, ReadsAs, StepsBackground, StepsBehind, ended_by, is_awaiting, kind_of, piece_read}
use Rattle.skew_judges.specs.Guard.{IsBounded}
use Rattle.rv_bounded.specs.Calls.{Steps, StepsLost, Takes}
use Rattle.rv_bounded.proofs.Ahead.{ahead, counts_long, greatest}
use Rattle.rv_bounded.proofs.Controls.{is_apart}
use Rattle.rv_bounded.proofs.Costs.{Costs, Whole, back_sum, given_sound, others, outcome_counts, rest_back, rest_by, rest_few, rest_keys, rest_of}
use Rattle.rv_bounded.proofs.Reading.{one_page, one_record, step_lost, step_spends, take_lost, take_spends}
use Rattle.rv_bounded.proofs.Sound.{IsShort, Sound, short_held, taken_sound}
use Rattle.rv_bounded.proofs.Spending.{Spends, Stays, Within, given_outcome, within_on}
use Rattle.rv_bounded.proofs.Sums.{record_sum, less_same, at_most, small_pages, rise_none, zero_least}

-- Counts.

-- so many more pages and records were read
pub rise_sum : (pages fetches p f c d e g a b most : ℕ) → pages ≡ min (p + (d - c)) most → fetches ≡ min (f + (g - e)) most → d ≤ c + a → g ≤ e + b → pages + fetches ≤ p + f + (a + b)
rise_sum pages fetches p f c d e g a b most n m h k = omega (arith, n, m, h, k)

pub no_more : (a b : ℕ) → a ≡ b → a ≤ b + 0
no_more a b e = omega (arith, e)

one_more : (c most : ℕ) → min (c + 1) most ≤ c + 1
one_more c most = omega arith

pub plus_none : (n m : ℕ) → n ≤ m + (0 + 0) → n ≤ m
plus_none n m h = omega (arith, h)

piece_pages : (v : Shape) (c : Counts) → (piece_read v c).pages ≡ c.pages
piece_pages v c = by (is_background v.control) (reads_leaf v.joint)
  where
    by : (b r : Bool) → (if b then (if r then leaf_read c else c) else c).pages ≡ c.pages
    by true true = refl
    by true false = refl
    by false r = refl

piece_records : (v : Shape) (c : Counts) → (piece_read v c).records ≡ c.records
piece_records v c = by (is_background v.control) (reads_leaf v.joint)
  where
    by : (b r : Bool) → (if b then (if r then leaf_read c else c) else c).records ≡ c.records
    by true true = refl
    by true false = refl
    by false r = refl

pub rise_piece : (v old new : Shape) (c d : Counts) → d ≡ piece_read v c → CountsRise old.trace new.trace c d → others new ≤ others old
rise_piece v old new c d reads rise =
    plus_none (others new) (others old) (rise_sum new.trace.pages new.trace.fetches old.trace.pages old.trace.fetches c.pages d.pages c.records d.records 0 0 greatest rise.pages rise.fetches (no_more d.pages c.pages (ap (λ (x : Counts). x.pages) reads ∙ piece_pages v c)) (no_more d.records c.records (ap (λ (x : Counts). x.records) reads ∙ piece_records v c)))

pub counted_rise : (stepped new : Shape) (c d : Counts) → new ≡ record stepped { trace = counted stepped.trace c d } → CountsRise stepped.trace new.trace c d
counted_rise stepped new c d e = subst (λ (x : Shape). CountsRise stepped.trace x.trace c d) (sym e) (record { pages = refl; leaves = refl; fetches = refl })

-- A leaf that is held is the awaited one.

drawn_short : (h : Option Chunk) (j : Joint) (shown : Shown) → IfSome h (IsNextLeaf j shown) → IfSome h IsShort
drawn_short None j shown drawn = tt
drawn_short (Some chunk) j shown drawn = drawn.short

leaf_sound : (p : ℕ) (b : Bool) (old new : Joint) → length old.plans ≤ length old.counts → IfSome new.held IsShort → Sound p old → TakesLeafBy b old new → Sound p new
leaf_sound p true old new room short s t = taken_sound p old new t room short s
leaf_sound p false old new room short s e = subst (Sound p) (sym e) s

pub leaf_list : (b : Bool) (old new : Joint) → TakesLeafBy b old new → new.list ≡ old.list
leaf_list true old new t = ap (λ (j : Joint). j.list) t.same
leaf_list false old new e = ap (λ (j : Joint). j.list) e

-- A PIECE IS TAKEN.

same_rest : (p : ℕ) (old new : Shape) → new.control ≡ old.control → new.joint.list ≡ old.joint.list → new.at ≡ old.at → new.last ≡ old.last → rest_of p new ≡ rest_of p old
same_rest p old new control list at last =
    ap (λ (c : Control). rest_by c p (length (keys_left new.joint.list new.at)) new.last.next) control
    ∙ ap (λ (l : Option (List ℕ)). rest_by old.control p (length (keys_left l new.at)) new.last.next) list
    ∙ ap (λ (n : ℕ). rest_by old.control p (length (keys_left old.joint.list n)) new.last.next) at
    ∙ ap (λ (x : Place). rest_by old.control p (length (keys_left old.joint.list old.at)) x.next) last

same_fewer : (now left was had : ℕ) → now ≤ was → left ≡ had → now + left ≤ was + had + 0
same_fewer now left was had n l = omega (arith, n, l)

takes_fewer : (p : ℕ) (taken : Option Taken) (shown : Shown) (old new : Shape) → Takes taken shown old new → others new + rest_of p new ≤ others old + rest_of p old + 0
takes_fewer p taken shown old new takes =
    same_fewer (others new) (rest_of p new) (others old) (rest_of p old) (rise_piece old old new takes.before takes.behind takes.reads takes.counts) (same_rest p old new (ap (λ (x : Shape). x.control) takes.same) (leaf_list (is_background old.control) old.joint new.joint takes.leaves) (ap (λ (x : Shape). x.at) takes.same) (ap (λ (x : Shape). x.last) takes.same))

pub takes_sound : (p planned : ℕ) (taken : Option Taken) (shown : Shown) (old new : Shape) → Within p planned old → Sound p old.joint → Takes taken shown old new → Sound p new.joint
takes_sound p planned taken shown old new w s takes = leaf_sound p (is_background old.control) old.joint new.joint w.room (drawn_short new.joint.held new.joint shown takes.fits.joint.drawn) s takes.leaves

pub take_costs : (p planned : ℕ) (query : Query) (taken : Taken) (shown : Shown) (old new : Shape) → p + 2 * planned < greatest → Whole query p planned old → Takes (Some taken) shown old new → Costs p 0 old new
take_costs p planned query taken shown old new small w takes = record {
  leaf = 0;
  other = 0;
  both = refl;
  spends = take_spends p planned taken shown old new small w.within takes;
  fewer = takes_fewer p (Some taken) shown old new takes;
  sound = takes_sound p planned (Some taken) shown old new w.within w.sound takes;
}

pub take_lost_costs : (p planned : ℕ) (query : Query) (shown : Shown) (old new : Shape) → p + 2 * planned < greatest → Whole query p planned old → Takes None shown old new → Costs p 1 old new
take_lost_costs p planned query shown old new small w takes = record {
  leaf = 1;
  other = 0;
  both = refl;
  spends = take_lost p planned shown old new small w.within takes;
  fewer = takes_fewer p None shown old new takes;
  sound = takes_sound p planned None shown old new w.within w.sound takes;
}

-- A FOREGROUND STEP FOR WHICH NO MEMORY IS FOUND.

pub lost_sound : (p planned : ℕ) (shown : Shown) (old new : Shape) → Within p planned old → Sound p old.joint → StepsLost shown old new → Sound p new.joint
lost_sound p planned shown old new w s lost = by lost.only.leaves
  where
    by : ((new.joint ≡ old.joint) ⊎ TakesLeaf old new.joint) → Sound p new.joint
    by (inl same) = subst (Sound p) (sym same) s
    by (inr leaves) = leaf_sound p (is_background old.control) old.joint new.joint w.room (drawn_short new.joint.held new.joint shown lost.fits.joint.drawn) s leaves

-- beside the background no leaf is read or taken, and at most one record or page

page_fewer : (now left was had : ℕ) → now ≤ was + (1 + 0) → left ≤ had → now + left ≤ was + had + 1
page_fewer now left was had n l = omega (arith, n, l)

pub record_few : (c d : Counts) → OneAtMost record_read c d → d.records ≤ c.records + 1
record_few c d (inl same) = by (ap (λ (x : Counts). x.records) same)
  where
    by : d.records ≡ c.records → d.records ≤ c.records + 1
    by e = omega (arith, e)
record_few c d (inr read) = subst (λ (x : Counts). x.records ≤ c.records + 1) (sym read) (one_more c.records greatest)

pub record_pages : (c d : Counts) → OneAtMost record_read c d → d.pages ≡ c.pages
record_pages c d (inl same) = ap (λ (x : Counts). x.pages) same
record_pages c d (inr read) = ap (λ (x : Counts). x.pages) read

pub page_few : (c d : Counts) → OneAtMost page_read c d → d.pages ≤ c.pages + 1
page_few c d (inl same) = by (ap (λ (x : Counts). x.pages) same)
  where
    by : d.pages ≡ c.pages → d.pages ≤ c.pages + 1
    by e = omega (arith, e)
page_few c d (inr read) = subst (λ (x : Counts). x.pages ≤ c.pages + 1) (sym read) (one_more c.pages greatest)

pub page_records : (c d : Counts) → OneAtMost page_read c d → d.records ≡ c.records
page_records c d (inl same) = ap (λ (x : Counts). x.records) same
page_records c d (inr read) = ap (λ (x : Counts). x.records) read

less_rest : (p : ℕ) (old new : Shape) → new.control ≡ old.control → length (keys_left new.joint.list new.at) ≤ length (keys_left old.joint.list old.at) → new.last ≡ old.last → rest_of p new ≤ rest_of p old
less_rest p old new control keys last =
    subst (λ (n : ℕ). rest_of p new ≤ n) (ap (λ (x : Place). rest_by old.control p (length (keys_left old.joint.list old.at)) x.next) last) (subst (λ (c : Control). rest_by new.control p (length (keys_left new.joint.list new.at)) new.last.next ≤ rest_by c p (length (keys_left old.joint.list old.at)) new.last.next) control (rest_keys new.control p (length (keys_left new.joint.list new.at)) (length (keys_left old.joint.list old.at)) new.last.next keys))

pub step_lost_costs : (p planned : ℕ) (query : Query) (shown : Shown) (old new : Shape) → p + 2 * planned < greatest → Whole query p planned old → StepsLost shown old new → Costs p 1 old new
step_lost_costs p planned query shown old new small w lost = by old.control refl lost.may_read
  where
    sound : Sound p new.joint
    sound = lost_sound p planned shown old new w.within w.sound lost

    spends : Spends p 1 old new
    spends = step_lost p planned shown old new small w.within lost

    control : new.control ≡ old.control
    control = ap (λ (x : Shape). x.control) lost.only.same

    last : new.last ≡ old.last
    last = ap (λ (x : Shape). x.last) lost.only.same

    rest : rest_of p new ≤ rest_of p old
    rest = less_rest p old new control lost.only.fewer last

    -- no leaf is read where no piece is awaited
    same_joint : is_background old.control ≡ false → new.joint ≡ old.joint
    same_joint idle = both lost.only.leaves
      where
        both : ((new.joint ≡ old.joint) ⊎ TakesLeaf old new.joint) → new.joint ≡ old.joint
        both (inl same) = same
        both (inr leaves) = subst (λ (b : Bool). TakesLeafBy b old.joint new.joint) idle leaves

    no_leaf : is_background old.control ≡ false → lost.behind.leaves ≡ lost.before.leaves → Spends p 0 old new
    no_leaf idle none = record {
      stays = spends.stays;
      fewer = same_fewer new.trace.leaves (ahead p new.joint) old.trace.leaves (ahead p old.joint) (rise_none new.trace.leaves old.trace.leaves lost.before.leaves lost.behind.leaves greatest lost.counts.leaves none) (ap (ahead p) (same_joint idle));
    }

    by : (c : Control) → old.control ≡ c → MayRead (kind_of c old.strategy (fresh_of old)) old lost.before lost.behind → Costs p 1 old new
    by Building e reads = no_other (sym (ap is_apart e) ∙ w.apart)
    by ForegroundAlone e reads = no_other (sym (ap is_apart e) ∙ w.apart)
    by BackgroundAlone e reads = record {
      leaf = 1;
      other = 0;
      both = refl;
      spends = spends;
      fewer = back_sum (others new) (rest_of p new) (others old) (rest_of p old) (p + 48) (rise_piece old old new lost.before lost.behind reads lost.counts) (rest_few p new sound) (rest_back p old e);
      sound = sound;
    }
    by FinalList e reads = record {
      leaf = 0;
      other = 1;
      both = refl;
      spends = no_leaf (ap is_background e) (one_record lost.before lost.behind reads);
      fewer = record_sum (others new) (rest_of p new) (others old) (rest_of p old) (rise_sum new.trace.pages new.trace.fetches old.trace.pages old.trace.fetches lost.before.pages lost.behind.pages lost.before.records lost.behind.records 0 1 greatest lost.counts.pages lost.counts.fetches (no_more lost.behind.pages lost.before.pages (record_pages lost.before lost.behind reads)) (record_few lost.before lost.behind reads)) rest;
      sound = sound;
    }
    by FinalTable e reads = record {
      leaf = 0;
      other = 1;
      both = refl;
      spends = no_leaf (ap is_background e) (one_page lost.before lost.behind reads);
      fewer = page_fewer (others new) (rest_of p new) (others old) (rest_of p old) (rise_sum new.trace.pages new.trace.fetches old.trace.pages old.trace.fetches lost.before.pages lost.behind.pages lost.before.records lost.behind.records 1 0 greatest lost.counts.pages lost.counts.fetches (page_few lost.before lost.behind reads) (no_more lost.behind.records lost.before.records (page_records lost.before lost.behind reads))) rest;
      sound = sound;
    }
    by Done e reads = record {
      leaf = 0;
      other = 1;
      both = refl;
      spends = no_leaf (ap is_background e) (ap (λ (x : Counts). x.leaves) reads);
      fewer = page_fewer (others new) (rest_of p new) (others old) (rest_of p old) (rise_sum new.trace.pages new.trace.fetches old.trace.pages old.trace.fetches lost.before.pages lost.behind.pages lost.before.records lost.behind.records 1 0 greatest lost.counts.pages lost.counts.fetches (page_few lost.before lost.behind (inl reads)) (no_more lost.behind.records lost.before.records (ap (λ (x : Counts). x.records) reads))) rest;
      sound = sound;
    }

-- A FOREGROUND STEP: its reads beside leaves, and the list that it leaves.

pub record Others (p : ℕ) (old new : Shape) : Type 0 where
  pub fewer : others new + rest_of p new ≤ others old + rest_of p old + 0
  pub sound : Sound p new.joint

new_joint : (p : ℕ) (stepped new : Shape) (c d : Counts) → new ≡ record stepped { trace = counted stepped.trace c d } → Sound p stepped.joint → Sound p new.joint
new_joint p stepped new c d e s = subst (λ (x : Shape). Sound p x.joint) (sym e) s

pub same_others : (old new : Shape) → SameCounts old.trace new.trace → others new ≡ others old
same_others old new s = both new.trace.pages new.trace.fetches old.trace.pages old.trace.fetches s.pages s.fetches
  where
    both : (a b c d : ℕ) → a ≡ c → b ≡ d → a + b ≡ c + d
    both a b c d e f = omega (arith, e, f)

back_others : (p planned : ℕ) (would : ℕ → Facts → Ruling) (state after : ℕ) (query : Query) (old stepped new : Shape) (c d : Counts) → p ≤ greatest → IsBounded would → Whole query p planned old → old.control ≡ BackgroundAlone → StepsBackground would state after old stepped → d ≡ piece_read old c → new ≡ record stepped { trace = counted stepped.trace c d } → Others p old new
back_others p planned would state after query old stepped new c d small rule w control steps reads e = by (is_awaiting old) steps.does
  where
    ends : Sound p stepped.joint → others stepped ≡ others old → Others p old new
    ends sound same = record {
      fewer = back_sum (others new) (rest_of p new) (others old) (rest_of p old) (p + 48) (less_same (others new) (others stepped) (others old) (rise_piece old stepped new c d reads (counted_rise stepped new c d e)) same) (rest_few p new (new_joint p stepped new c d e sound)) (rest_back p old control);
      sound = new_joint p stepped new c d e sound;
    }

    by : (b : Bool) → StepsBehind b would state after (record old { borrowed = steps.passed }) stepped → Others p old new
    by true one =
        let mid = record old { borrowed = steps.passed; joint = one.taken } in
        let short = short_held one.taken.held one.piece.entries one.awaits.entries one.short in
        let taken = taken_sound p old.joint one.taken one.leaves w.within.room short w.sound in
        let stays : Stays old mid = record { behind = λ b. b; plans = ap (λ (j : Joint). length j.plans) one.leaves.same; counts = long one.taken one.leaves; less = at_most old.guaranteed; asked = refl; apart = λ b. b } in
        let given = given_sound p planned would state after one.piece mid stepped one.obeys.0 rule (within_on p planned old mid stays w.within) small taken one.awaits one.obeys.1 one.obeys.2 in
        ends given.0 (same_others mid stepped given.1)
      where
        long : (taken : Joint) → TakeLeaves old.joint taken → length taken.counts ≡ length old.joint.counts
        long taken t = ap (λ (j : Joint). length j.counts) t.same ∙ counts_long old.joint
    by false still = ends (subst (λ (x : Shape). Sound p x.joint) (sym still.0) w.sound) (ap others still.0)

-- the keys left of the list

abbrev list_or_done : Control → Bool
list_or_done FinalList = true
list_or_done Done = true
list_or_done _ = false

rest_listed : (c : Control) (p keys next : ℕ) → list_or_done c ≡ true → rest_by c p keys next ≤ keys
rest_listed Building p keys next l = no_other l
rest_listed ForegroundAlone p keys next l = no_other l
rest_listed BackgroundAlone p keys next l = no_other l
rest_listed FinalList p keys next l = omega arith
rest_listed FinalTable p keys next l = no_other l
rest_listed Done p keys next l = omega arith

key_sum : (pages fetches p f dp cp dr cr left now had was most : ℕ) → pages ≡ min (p + (dp - cp)) most → fetches ≡ min (f + (dr - cr)) most → dp ≡ cp → dr ≤ cr + 1 → left ≤ now → now < was → had ≡ was → pages + fetches + left ≤ p + f + had + 0
key_sum pages fetches p f dp cp dr cr left now had was most n m a k l lt h = omega (arith, n, m, a, k, l, lt, h)

end_sum : (pages fetches p f dp cp dr cr left had most : ℕ) → pages ≡ min (p + (dp - cp)) most → fetches ≡ min (f + (dr - cr)) most → dp ≡ cp → dr ≡ cr → left ≡ 0 → pages + fetches + left ≤ p + f + had + 0
end_sum pages fetches p f dp cp dr cr left had most n m a k l = omega (arith, n, m, a, k, l)

final_counts : (s : Step Record) (v : Shape) → SameCounts v.trace (ended_by FinalEnded s v).trace
final_counts (Row r) v = record { pages = refl; leaves = refl; fetches = refl }
final_counts Working v = record { pages = refl; leaves = refl; fetches = refl }
final_counts End v = record { pages = refl; leaves = refl; fetches = refl }

final_joint : (s : Step Record) (v : Shape) → (ended_by FinalEnded s v).joint ≡ v.joint
final_joint (Row r) v = refl
final_joint Working v = refl
final_joint End v = refl

-- a key of the list is fetched
key_others : (p : ℕ) (s : Step Record) (old stepped new : Shape) (c d : Counts) → old.control ≡ FinalList → Sound p old.joint → stepped ≡ ended_by FinalEnded s (record old { at = stepped.at }) → OneAtMost record_read c d → Falls s c d (keys_work old) (keys_work stepped) → new ≡ record stepped { trace = counted stepped.trace c d } → Others p old new
key_others p s old stepped new c d control sound does reads falls e = record {
  fewer = by s does falls;
  sound = new_joint p stepped new c d e (subst (Sound p) (sym (ap (λ (x : Shape). x.joint) does ∙ final_joint s v)) sound);
}
  where
    v : Shape
    v = record old { at = stepped.at }

    counts : SameCounts old.trace stepped.trace
    counts = subst (λ (x : Shape). SameCounts old.trace x.trace) (sym does) (final_counts s v)

    rise : CountsRise stepped.trace new.trace c d
    rise = counted_rise stepped new c d e

    pages : new.trace.pages ≡ min (old.trace.pages + (d.pages - c.pages)) greatest
    pages = subst (λ (n : ℕ). new.trace.pages ≡ min (n + (d.pages - c.pages)) greatest) counts.pages rise.pages

    fetches : new.trace.fetches ≡ min (old.trace.fetches + (d.records - c.records)) greatest
    fetches = subst (λ (n : ℕ). new.trace.fetches ≡ min (n + (d.records - c.records)) greatest) counts.fetches rise.fetches

    had : rest_of p old ≡ keys_work old
    had = ap (λ (k : Control). rest_by k p (keys_work old) old.last.next) control

    goes : list_or_done stepped.control ≡ true → keys_work stepped < keys_work old → others new + rest_of p new ≤ others old + rest_of p old + 0
    goes at_list fewer =
        let left : rest_of p new ≤ keys_work stepped = subst (λ (n : ℕ). rest_of p new ≤ n) (ap keys_work e) (rest_listed new.control p (keys_work new) new.last.next (ap (λ (x : Shape). list_or_done x.control) e ∙ at_list)) in
        key_sum new.trace.pages new.trace.fetches old.trace.pages old.trace.fetches d.pages c.pages d.records c.records (rest_of p new) (keys_work stepped) (rest_of p old) (keys_work old) greatest pages fetches (record_pages c d reads) (record_few c d reads) left fewer had

    by : (s : Step Record) → stepped ≡ ended_by FinalEnded s v → Falls s c d (keys_work old) (keys_work stepped) → others new + rest_of p new ≤ others old + rest_of p old + 0
    by (Row r) does falls = goes (ap (λ (x : Shape). list_or_done x.control) does ∙ ap list_or_done control) falls
    by Working does falls = goes (ap (λ (x : Shape). list_or_done x.control) does ∙ ap list_or_done control) falls
    by End does falls =
        let done : new.control ≡ Done = ap (λ (x : Shape). x.control) e ∙ ap (λ (x : Shape). x.control) does ∙ ap (λ (k : Control). next_control old.strategy k FinalEnded) control in
        let none : rest_of p new ≡ 0 = ap (λ (k : Control). rest_by k p (keys_work new) new.last.next) done in
        end_sum new.trace.pages new.trace.fetches old.trace.pages old.trace.fetches d.pages c.pages d.records c.records (rest_of p new) (rest_of p old) greatest pages fetches (ap (λ (x : Counts). x.pages) falls) (ap (λ (x : Counts). x.records) falls) none

-- a page of the table is read

page_sum : (pages fetches p f dp cp dr cr left had read most : ℕ) → pages ≡ min (p + (dp - cp)) most → fetches ≡ min (f + (dr - cr)) most → dp ≤ cp + read → dr ≡ cr → left + read ≤ had → pages + fetches + left ≤ p + f + had + 0
page_sum pages fetches p f dp cp dr cr left had read most n m a b h = omega (arith, n, m, a, b, h)

pages_left : (p next was : ℕ) → was < p → next ≡ was + 1 → (p - next) + 1 ≤ p - was
pages_left p next was lt e = omega (arith, lt, e)

pages_same : (p next was : ℕ) → next ≡ was → (p - next) + 0 ≤ p - was
pages_same p next was e = omega (arith, e)

sum_by : (a b c d read : ℕ) → a ≡ b → d ≡ c → b + read ≤ c → a + read ≤ d
sum_by a b c d read e f h = omega (arith, e, f, h)

page_others : (p : ℕ) (s : Step Record) (old stepped new : Shape) (c d : Counts) → old.control ≡ FinalTable → Sound p old.joint → stepped ≡ ended_by FinalEnded s (record old { last = stepped.last }) → PageTurns s old.last stepped.last p → PageReads s c d → new ≡ record stepped { trace = counted stepped.trace c d } → Others p old new
page_others p s old stepped new c d control sound does turns reads e = record {
  fewer = by s does turns reads;
  sound = new_joint p stepped new c d e (subst (Sound p) (sym (ap (λ (x : Shape). x.joint) does ∙ final_joint s v)) sound);
}
  where
    v : Shape
    v = record old { last = stepped.last }

    counts : SameCounts old.trace stepped.trace
    counts = subst (λ (x : Shape). SameCounts old.trace x.trace) (sym does) (final_counts s v)

    rise : CountsRise stepped.trace new.trace c d
    rise = counted_rise stepped new c d e

    sums : (read : ℕ) → d.pages ≤ c.pages + read → d.records ≡ c.records → rest_of p new + read ≤ rest_of p old → others new + rest_of p new ≤ others old + rest_of p old + 0
    sums read more records left = page_sum new.trace.pages new.trace.fetches old.trace.pages old.trace.fetches d.pages c.pages d.records c.records (rest_of p new) (rest_of p old) read greatest (subst (λ (n : ℕ). new.trace.pages ≡ min (n + (d.pages - c.pages)) greatest) counts.pages rise.pages) (subst (λ (n : ℕ). new.trace.fetches ≡ min (n + (d.records - c.records)) greatest) counts.fetches rise.fetches) more records left

    had : rest_of p old ≡ p - old.last.next
    had = ap (λ (c : Control). rest_by c p (length (keys_left old.joint.list old.at)) old.last.next) control

    rest_new : (b : Control) → stepped.control ≡ b → rest_of p new ≡ rest_by b p (length (keys_left new.joint.list new.at)) stepped.last.next
    rest_new b is =
        ap (λ (x : Control). rest_by x p (length (keys_left new.joint.list new.at)) new.last.next) (ap (λ (x : Shape). x.control) e ∙ is) ∙ ap (λ (x : Place). rest_by b p (length (keys_left new.joint.list new.at)) x.next) (ap (λ (x : Shape). x.last) e)

    by : (s : Step Record) → stepped ≡ ended_by FinalEnded s v → PageTurns s old.last stepped.last p → PageReads s c d → others new + rest_of p new ≤ others old + rest_of p old + 0
    by (Row r) does turns reads =
        let at_table : stepped.control ≡ FinalTable = ap (λ (x : Shape). x.control) does ∙ control in
        sums 0 (no_more d.pages c.pages (ap (λ (x : Counts). x.pages) reads)) (ap (λ (x : Counts). x.records) reads) (sum_by (rest_of p new) (p - stepped.last.next) (p - old.last.next) (rest_of p old) 0 (rest_new FinalTable at_table) had (pages_same p stepped.last.next old.last.next turns))
    by Working does turns reads =
        let at_table : stepped.control ≡ FinalTable = ap (λ (x : Shape). x.control) does ∙ control in
        sums 1 (subst (λ (x : Counts). x.pages ≤ c.pages + 1) (sym reads) (one_more c.pages greatest)) (ap (λ (x : Counts). x.records) reads) (sum_by (rest_of p new) (p - stepped.last.next) (p - old.last.next) (rest_of p old) 1 (rest_new FinalTable at_table) had (pages_left p stepped.last.next old.last.next turns.0 turns.1))
    by End does turns reads =
        let done : stepped.control ≡ Done = ap (λ (x : Shape). x.control) does ∙ ap (λ (c : Control). next_control old.strategy c FinalEnded) control in
        sums 0 (no_more d.pages c.pages (ap (λ (x : Counts). x.pages) reads)) (ap (λ (x : Counts). x.records) reads) (sum_by (rest_of p new) 0 (p - old.last.next) (rest_of p old) 0 (rest_new Done done) had (zero_least (p - old.last.next)))

-- all is done
done_others : (p : ℕ) (old stepped new : Shape) (c d : Counts) → Sound p old.joint → stepped ≡ old → d ≡ c → new ≡ record stepped { trace = counted stepped.trace c d } → Others p old new
done_others p old stepped new c d sound same reads e = record {
  fewer = same_fewer (others new) (rest_of p new) (others old) (rest_of p old) (less_same (others new) (others stepped) (others old) (plus_none (others new) (others stepped) (rise_sum new.trace.pages new.trace.fetches stepped.trace.pages stepped.trace.fetches c.pages d.pages c.records d.records 0 0 greatest (counted_rise stepped new c d e).pages (counted_rise stepped new c d e).fetches (no_more d.pages c.pages (ap (λ (x : Counts). x.pages) reads)) (no_more d.records c.records (ap (λ (x : Counts). x.records) reads)))) (ap others same)) (ap (rest_of p) e ∙ ap (rest_of p) same);
  sound = new_joint p stepped new c d e (subst (λ (x : Shape). Sound p x.joint) (sym same) sound);
}

does_others : (p planned : ℕ) (would : ℕ → Facts → Ruling) (state after : ℕ) (query : Query) (shown : Shown) (c d : Counts) (s : Step Record) (control : Control) (old stepped new : Shape) → p ≤ greatest → p ≡ shown.pages query.table query.snap → IsBounded would → Whole query p planned old → old.control ≡ control → DoesAs (kind_of control old.strategy (fresh_of old)) would state after shown c d s old stepped → ReadsAs (kind_of control old.strategy (fresh_of old)) old s c d → new ≡ record stepped { trace = counted stepped.trace c d } → Others p old new
does_others p planned would state after query shown c d s Building old stepped new small pages rule w control does reads e = no_other (sym (ap is_apart control) ∙ w.apart)
does_others p planned would state after query shown c d s ForegroundAlone old stepped new small pages rule w control does reads e = no_other (sym (ap is_apart control) ∙ w.apart)
does_others p planned would state after query shown c d s BackgroundAlone old stepped new small pages rule w control does reads e = back_others p planned would state after query old stepped new c d small rule w control does.1 reads e
does_others p planned would state after query shown c d s FinalList old stepped new small pages rule w control does reads e = key_others p s old stepped new c d control w.sound does.2 reads does.3 e
does_others p planned would state after query shown c d s FinalTable old stepped new small pages rule w control does reads e =
    let same : shown.pages old.query.table old.query.snap ≡ p = ap (λ (q : Query). shown.pages q.table q.snap) w.asked ∙ sym pages in
    page_others p s old stepped new c d control w.sound does.1 (subst (λ (n : ℕ). PageTurns s old.last stepped.last n) same does.2) reads e
does_others p planned would state after query shown c d s Done old stepped new small pages rule w control does reads e = done_others p old stepped new c d w.sound does.2 reads e

pub step_costs : (p planned : ℕ) (would : ℕ → Facts → Ruling) (query : Query) (shown : Shown) (old new : Shape) → p + 2 * planned < greatest → p ≡ shown.pages query.table query.snap → IsBounded would → Whole query p planned old → Steps would shown old new → Costs p 0 old new
step_costs p planned would query shown old new small pages rule w steps =
    let does = steps.does in
    let left = does_others p planned would steps.state steps.after query shown steps.before steps.behind steps.fg old.control old does.stepped new (small_pages p planned greatest small) pages rule w refl does.does does.reads does.counts in
    record {
      leaf = 0;
      other = 0;
      both = refl;
      spends = step_spends p planned would shown old new small rule w.within steps;
      fewer = left.fewer;
      sound = left.sound;
    }

-- WHAT IS COUNTED OF A STEP IS WHAT IT READ

back_counts : (would : ℕ → Facts → Ruling) (state after : ℕ) (old stepped : Shape) → StepsBackground would state after old stepped → SameCounts old.trace stepped.trace
back_counts would state after old stepped steps = by (is_awaiting old) steps.does
  where
    by : (b : Bool) → StepsBehind b would state after (record old { borrowed = steps.passed }) stepped → SameCounts old.trace stepped.trace
    by true one = outcome_counts would state one.piece.entries (record old { borrowed = steps.passed; joint = one.taken }) stepped (given_outcome would state after one.piece (record old { borrowed = steps.passed; joint = one.taken }) stepped one.obeys.0 one.awaits one.obeys.1 one.obeys.2)
    by false still = subst (λ (x : Shape). SameCounts old.trace x.trace) (sym still.0) (record { pages = refl; leaves = refl; fetches = refl })

does_counts : (would : ℕ → Facts → Ruling) (state after : ℕ) (shown : Shown) (c d : Counts) (s : Step Record) (control : Control) (old stepped : Shape) → is_apart control ≡ true → DoesAs (kind_of control old.strategy (fresh_of old)) would state after shown c d s old stepped → SameCounts old.trace stepped.trace
does_counts would state after shown c d s Building old stepped b does = no_other b
does_counts would state after shown c d s ForegroundAlone old stepped b does = no_other b
does_counts would state after shown c d s BackgroundAlone old stepped b does = back_counts would state after old stepped does.1
does_counts would state after shown c d s FinalList old stepped b does = subst (λ (x : Shape). SameCounts old.trace x.trace) (sym does.2) (final_counts s (record old { at = stepped.at }))
does_counts would state after shown c d s FinalTable old stepped b does = subst (λ (x : Shape). SameCounts old.trace x.trace) (sym does.1) (final_counts s (record old { last = stepped.last }))
does_counts would state after shown c d s Done old stepped b does = subst (λ (x : Shape). SameCounts old.trace x.trace) (sym does.2) (record { pages = refl; leaves = refl; fetches = refl })

pub step_rise : (would : ℕ → Facts → Ruling) (shown : Shown) (old new : Shape) → is_apart old.control ≡ true → (steps : Steps would shown old new) → CountsRise old.trace new.trace steps.before steps.behind
step_rise would shown old new b steps =
    let does = steps.does in
    let same = does_counts would steps.state steps.after shown steps.before steps.behind steps.fg old.control old does.stepped b does.does in
    let rise = counted_rise does.stepped new steps.before steps.behind does.counts in
    record {
      pages = subst (λ (n : ℕ). new.trace.pages ≡ min (n + (steps.behind.pages - steps.before.pages)) greatest) same.pages rise.pages;
      leaves = subst (λ (n : ℕ). new.trace.leaves ≡ min (n + (steps.behind.leaves - steps.before.leaves)) greatest) same.leaves rise.leaves;
      fetches = subst (λ (n : ℕ). new.trace.fetches ≡ min (n + (steps.behind.records - steps.before.records)) greatest) same.fetches rise.fetches;
    }
