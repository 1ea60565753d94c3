-- What the steps of a search leave: one step after another, and the end.
use Rattle.std.proofs.Common.{◌≡◌, ℕ, ◌+◌, ◌≤◌, List, [], ◌∷◌, ◌++◌, refl, ap, sym, subst, ◌∙◌, arith}
use Rattle.std.specs.Prelude.{IsPermutation}
use Rattle.std.proofs.lemmas.List.{append-nil, map-append}
use Rattle.std.proofs.lemmas.List.Sorted.{IsPermutation-append_right, IsPermutation-middle, IsPermutation-refl, IsPermutation-trans}
use Rattle.rv_value.specs.declared.record.Record.{Record}
use Rattle.rv_value.specs.declared.record.RowNo.{RowNo}
use Rattle.rv_judge.specs.declared.counting.Counts.{Counts}
use Rattle.rv_judge.specs.Counting.{reads, record_read}
use Rattle.rv_reader.specs.Shown.{Shown}
use Rattle.rv_final.specs.Rest.{TakesOut}
use Rattle.rv_retrieval.specs.Effort.{Awaiting, effort}
use Rattle.rv_retrieval.specs.Shape.{RetrievalFits, Shape, rest}
use Rattle.rv_retrieval.specs.Short.{Settled, fetches_left}
use Rattle.rv_search.specs.Searching.{Gathers, OnlyRecords, numbers}

pub gathers_begun : (shown : Shown) (c : Counts) (found : List RowNo) (v : Shape) → RetrievalFits v shown → Awaiting v → Gathers shown c c found found v v
gathers_begun shown c found v fits awaiting = record {
  fits = fits;
  awaiting = awaiting;
  once = IsPermutation-refl (found ++ numbers (rest v shown));
  spends = omega arith;
  settled = λ s. s;
  pages = λ s. refl;
  records = λ s. omega arith;
}

pub gathers_on : (shown : Shown) (c d e : Counts) (x y z : List RowNo) (u v w : Shape) → Gathers shown c d x y u v → Gathers shown d e y z v w → Gathers shown c e x z u w
gathers_on shown c d e x y z u v w first more = record {
  fits = more.fits;
  awaiting = more.awaiting;
  once = IsPermutation-trans (x ++ numbers (rest u shown)) (y ++ numbers (rest v shown)) (z ++ numbers (rest w shown)) first.once more.once;
  spends = let a = first.spends in let b = more.spends in omega (arith, a, b);
  settled = λ s. more.settled (first.settled s);
  pages = λ s. (more.pages (first.settled s) ∙ first.pages s);
  records = λ s. (let a = first.records s in let b = more.records (first.settled s) in omega (arith, a, b));
}

-- what is known of a step whatever it gives
pub record Stepped (shown : Shown) (c d : Counts) (old new : Shape) : Type 0 where
  pub fits : RetrievalFits new shown
  pub awaiting : Awaiting new
  pub spends : reads d + effort new shown ≤ reads c + effort old shown
  pub settled : Settled old → Settled new
  pub pages : Settled old → d.pages ≡ c.pages
  pub records : Settled old → d.records + fetches_left new shown ≤ c.records + fetches_left old shown

-- the rest stays, or was empty and is
pub gathers_none : (shown : Shown) (c d : Counts) (found : List RowNo) (old new : Shape) → Stepped shown c d old new → rest new shown ≡ rest old shown → Gathers shown c d found found old new
gathers_none shown c d found old new step same = record {
  fits = step.fits;
  awaiting = step.awaiting;
  once = subst (λ (left : List Record). IsPermutation (found ++ numbers (rest old shown)) (found ++ numbers left)) (sym same) (IsPermutation-refl (found ++ numbers (rest old shown)));
  spends = step.spends;
  settled = step.settled;
  pages = step.pages;
  records = step.records;
}

pushed : (xs : List RowNo) (a : RowNo) (ys : List RowNo) → xs ++ a ∷ ys ≡ (xs ++ a ∷ []) ++ ys
pushed [] a ys = refl
pushed (x ∷ xs) a ys = ap (λ l. x ∷ l) (pushed xs a ys)

moved : (found front behind : List RowNo) (t r : RowNo) → r ≡ t → IsPermutation (found ++ (front ++ t ∷ behind)) ((found ++ r ∷ []) ++ (front ++ behind))
moved found front behind t r same =
    let apart = IsPermutation-append_right found (front ++ t ∷ behind) (t ∷ (front ++ behind)) (IsPermutation-middle front t behind) in
    let seam : found ++ t ∷ (front ++ behind) ≡ (found ++ r ∷ []) ++ (front ++ behind) = rw same (pushed found t (front ++ behind)) in
    subst (IsPermutation (found ++ (front ++ t ∷ behind))) seam apart

abbrev number : Record → RowNo
number r = r.row

abbrev numbered : ℕ → RowNo
numbered n = record { 0 = n }

-- a row goes from those owed to those found
pub gathers_row : (shown : Shown) (c d : Counts) (found : List RowNo) (need : List ℕ) (old new : Shape) (r : Record) → Stepped shown c d old new → TakesOut need r (rest old shown) (rest new shown) → Gathers shown c d found (found ++ r.row ∷ []) old new
gathers_row shown c d found need old new r step takes =
    let f = numbers takes.front in
    let b = numbers takes.behind in
    let t = takes.taken.row in
    let same : r.row ≡ t = ap numbered takes.row in
    let owed : numbers (rest old shown) ≡ f ++ t ∷ b = ap numbers takes.before ∙ map-append number takes.front (takes.taken ∷ takes.behind) in
    let left : numbers (rest new shown) ≡ f ++ b = ap numbers takes.after ∙ map-append number takes.front takes.behind in
    let all = subst (λ (l : List RowNo). IsPermutation (found ++ l) ((found ++ r.row ∷ []) ++ (f ++ b))) (sym owed) (moved found f b t r.row same) in
    record {
      fits = step.fits;
      awaiting = step.awaiting;
      once = subst (λ (l : List RowNo). IsPermutation (found ++ numbers (rest old shown)) ((found ++ r.row ∷ []) ++ l)) (sym left) all;
      spends = step.spends;
      settled = step.settled;
      pages = step.pages;
      records = step.records;
    }

-- where nothing is owed any more all are found
pub gathers_all : (shown : Shown) (c d : Counts) (x y : List RowNo) (old new : Shape) → Gathers shown c d x y old new → rest new shown ≡ [] → IsPermutation (x ++ numbers (rest old shown)) y
gathers_all shown c d x y old new gathers none =
    subst (λ (l : List RowNo). IsPermutation (x ++ numbers (rest old shown)) l) (ap (λ (left : List Record). y ++ numbers left) none ∙ append-nil y) gathers.once

pub gathers_reads : (shown : Shown) (c d : Counts) (x y : List RowNo) (old new : Shape) → Gathers shown c d x y old new → reads d ≤ reads c + effort old shown
gathers_reads shown c d x y old new gathers = let h = gathers.spends in omega (arith, h)

pub gathers_records : (shown : Shown) (c d : Counts) (x y : List RowNo) (old new : Shape) → Gathers shown c d x y old new → Settled old → d.records ≤ c.records + fetches_left old shown
gathers_records shown c d x y old new gathers settled = let h = gathers.records settled in omega (arith, h)

-- A search from its opening to its end.

pub found_from : (found after due : List RowNo) (owed : List Record) → found ≡ [] → numbers owed ≡ due → IsPermutation (found ++ numbers owed) after → IsPermutation due after
found_from found after due owed none is all =
    subst (λ (l : List RowNo). IsPermutation l after) (ap (λ l. l ++ numbers owed) none ∙ is) all

pub reads_from : (c d e : Counts) (work life : ℕ) → reads d + work ≤ reads c + life → reads e ≤ reads d + work → reads e ≤ reads c + life
reads_from c d e work life opened spent = omega (arith, opened, spent)

pub records_from : (c d e left : ℕ) → d ≡ c → e ≤ d + left → left ≤ 20 → e ≤ c + 20
records_from c d e left same most few = omega (arith, same, most, few)

-- What is known of a search that ended, and what is known however it went.

-- The fetch of what was found.

pub fetched_none : (c : Counts) → OnlyRecords 0 c c
fetched_none c = record { pages = refl; leaves = refl; records = omega arith }

pub fetched_next : (n : ℕ) (c d e : Counts) → OnlyRecords n c d → e ≡ record_read d → OnlyRecords (n + 1) c e
fetched_next n c d e before one =
    let more = ap (λ (k : Counts). k.records) one in
    let so_far = before.records in
    record {
      pages = ap (λ (k : Counts). k.pages) one ∙ before.pages;
      leaves = ap (λ (k : Counts). k.leaves) one ∙ before.leaves;
      records = omega (arith, more, so_far);
    }

pub fetched_most : (n most : ℕ) (c d : Counts) → n ≤ most → OnlyRecords n c d → OnlyRecords most c d
fetched_most n most c d few fetched = let h = fetched.records in record { pages = fetched.pages; leaves = fetched.leaves; records = omega (arith, few, h) }

pub reads_and : (c d e : Counts) (life most : ℕ) → reads d ≤ reads c + life → OnlyRecords most d e → reads e ≤ reads c + life + most
reads_and c d e life most spent fetched =
    let pages = fetched.pages in
    let leaves = fetched.leaves in
    let records = fetched.records in
    omega (arith, spent, pages, leaves, records)
