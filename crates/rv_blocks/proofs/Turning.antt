-- Where a test turns in a list in blocks.
use Rattle.std.proofs.Common.{◌≡◌, ℕ, ◌<◌, ◌≤◌, ◌+◌, ◌-◌, List, [], ◌∷◌, refl, ap, sym, ◌∙◌, inl, inr, arith, length, take, drop, zero, suc, Bool, true, false, not, filter}
use Rattle.std.specs.Prelude.{slice_index_or}
use Rattle.std.proofs.lemmas.Bool.{cases_lt, cases_Bool}
use Rattle.std.specs.List.Sorted.{IsPartitionedBy}
use Rattle.rv_rows.proofs.Cuts.{cut_at}
use Rattle.rv_blocks.specs.Flat.{flat, AreSized, block_at, start_of, last_or, Turns, TurnsOver}
use Rattle.rv_blocks.proofs.Flats.{item_at, start_more, start_within, start_all, sized_at}

-- the item before a block's first is the last one of the block before
before_block : {X : Type 0} (p : X → Bool) (bs : List (List X)) (i : ℕ) → AreSized bs → TurnsOver p bs i → (d : X) → 0 < start_of bs i → p (slice_index_or (flat bs) (start_of bs i - 1) d) ≡ true
before_block p bs zero sized turns d h = absurd (omega arith)
before_block p bs (suc i) sized turns d h =
    let within = turns.within in
    let last = turns.before d (omega arith) in
    let one : suc i - 1 ≡ i = omega arith in
    let last_here : p (last_or d (block_at bs i)) ≡ true = rw one at last in
    let some = (sized_at bs i sized (omega arith)).0 in
    let more = start_more bs i (suc i) (omega arith) refl in
    let e : start_of bs (suc i) - 1 ≡ start_of bs i + (length (block_at bs i) - 1) = omega arith in
    ap p (ap (λ n. slice_index_or (flat bs) n d) e ∙ item_at bs i (length (block_at bs i) - 1) d (omega arith) (omega arith)) ∙ last_here

-- a block whose last item does not pass turns before its end
pub turns_early : {X : Type 0} (p : X → Bool) (bs : List (List X)) (i j : ℕ) (b : List X) → AreSized bs → TurnsOver p bs i → i < length bs → b ≡ block_at bs i → Turns p b j → j < length (block_at bs i)
turns_early p [] i j b sized over h is turns = absurd (omega arith)
turns_early p (a ∷ bs) i j b sized over h is turns = elim (cases_lt j (length b)) [
  | inl inside ↦ let len = ap length is in omega arith
  | inr behind ↦
      let len = ap length is in
      let some = (sized_at (a ∷ bs) i sized h).0 in
      let within = turns.within in
      let d = first_of b (omega arith) in
      let e : j ≡ length b = omega arith in
      let passes : p (last_or d b) ≡ true = rw e at turns.before d (omega arith) in
      let fails : p (last_or d b) ≡ false = ap (λ c. p (last_or d c)) is ∙ over.here d h in
      let no : true ≡ false = sym passes ∙ fails in
      cc
]
  where
    first_of : {Y : Type 0} (ys : List Y) → 0 < length ys → Y
    first_of [] h = absurd (omega arith)
    first_of (y ∷ ys) h = y

pub turns_inside : {X : Type 0} (p : X → Bool) (bs : List (List X)) (i j : ℕ) (b : List X) → AreSized bs → TurnsOver p bs i → i < length bs → b ≡ block_at bs i → Turns p b j → Turns p (flat bs) (start_of bs i + j)
turns_inside p bs i j b sized over h is turns =
    let len = ap length is in
    let some = (sized_at bs i sized h).0 in
    let whole = start_within bs i h in
    let most = turns.within in
    record {
      within = omega arith;
      before = λ d k. elim (cases_lt 0 j) [
        | inl more ↦
            let e : start_of bs i + j - 1 ≡ start_of bs i + (j - 1) = omega arith in
            ap p (ap (λ n. slice_index_or (flat bs) n d) e ∙ item_at bs i (j - 1) d h (omega arith) ∙ ap (λ c. slice_index_or c (j - 1) d) (sym is)) ∙ turns.before d more
        | inr none ↦
            let e : start_of bs i + j - 1 ≡ start_of bs i - 1 = omega arith in
            ap p (ap (λ n. slice_index_or (flat bs) n d) e) ∙ before_block p bs i sized over d (omega arith)
      ];
      here = λ d k. elim (cases_lt j (length b)) [
        | inl inside ↦ ap p (item_at bs i j d h (omega arith) ∙ ap (λ c. slice_index_or c j d) (sym is)) ∙ turns.here d inside
        | inr behind ↦
            let e : j ≡ length b = omega arith in
            let passes : p (last_or d b) ≡ true = rw e at turns.before d (omega arith) in
            let fails : p (last_or d b) ≡ false = ap (λ c. p (last_or d c)) is ∙ over.here d h in
            let no : true ≡ false = sym passes ∙ fails in
            cc
      ];
    }

pub turns_end : {X : Type 0} (p : X → Bool) (bs : List (List X)) (i at : ℕ) → AreSized bs → TurnsOver p bs i → length bs ≤ i → at ≡ length (flat bs) → Turns p (flat bs) at
turns_end p bs i at sized over h e =
    let all = start_all bs i h in
    record {
      within = omega arith;
      before = λ d k.
          let f : at - 1 ≡ start_of bs i - 1 = omega arith in
          ap p (ap (λ n. slice_index_or (flat bs) n d) f) ∙ before_block p bs i sized over d (omega arith);
      here = λ d k. absurd (omega arith);
    }

-- Where a test holds of a front part, the items before its turn pass, and no other does.
front_passes : {X : Type 0} (p : X → Bool) (xs : List X) (at : ℕ) → IsPartitionedBy p xs → Turns p xs at → (k : ℕ) (d : X) → k < at → p (slice_index_or xs k d) ≡ true
front_passes p xs at parted turns k d h =
    let within = turns.within in
    parted k (at - 1) d (omega arith) (omega arith) (turns.before d (omega arith))

back_fails : {X : Type 0} (p : X → Bool) (xs : List X) (at : ℕ) → IsPartitionedBy p xs → Turns p xs at → (k : ℕ) (d : X) → at ≤ k → k < length xs → p (slice_index_or xs k d) ≡ false
back_fails p xs at parted turns k d h l = elim (cases_Bool (p (slice_index_or xs k d))) [
  | inl t ↦
      let passes = parted at k d h l t in
      let fails = turns.here d (omega arith) in
      let no : true ≡ false = sym passes ∙ fails in
      cc
  | inr f ↦ f
]

pub cut_is : {X : Type 0} (p : X → Bool) (xs : List X) (at : ℕ) → IsPartitionedBy p xs → Turns p xs at → (take at xs ≡ filter p xs) × (drop at xs ≡ filter (λ x. not (p x)) xs)
cut_is p xs at parted turns = cut_at p xs at turns.within (λ k d l u. front_passes p xs at parted turns k d u) (λ k d l u. back_fails p xs at parted turns k d l u)
