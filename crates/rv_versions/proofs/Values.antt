-- values of versions after a change
use Rattle.std.proofs.Common.{ℕ, zero, suc, true, false, inl, inr, ◌+◌, ◌<◌, ◌≤◌, ◌≡◌, List, [], ◌∷◌, ◌++◌, Option, Some, leb, length, set, take, drop, get_or, refl, sym, ◌∙◌, arith}
use Rattle.std.specs.Prelude.{nat_le, if◌then◌else◌}
use Rattle.std.specs.List.Sorted.{IsPartitionPoint, IsPartitionedBy}
use Rattle.std.proofs.lemmas.Bool.Decides.{nat_tests}
use Rattle.std.proofs.lemmas.Bool.{lt-leb, le-leb, leb-true, leb-false, cases_Bool, cases_eq, both_ways}
use Rattle.std.proofs.lemmas.List.{get_or-set_same, get_or-set_other}
use Rattle.rv_versions.specs.declared.chain.Version.{Version}
use Rattle.rv_versions.specs.Chains.{value_from, AscendFrom, AllBelow, AllChainsBelow, versions_to}

module _ {T : Type 0} where
  pub value_from-push : (best : Option T) (vs : List (Version T)) (v : Version T) (snap : ℕ) → value_from best (vs ++ v ∷ []) snap ≡ (if nat_le v.commit snap then Some v.value else value_from best vs snap)
  value_from-push best [] v snap = refl
  value_from-push best (x ∷ xs) v snap = value_from-push (if nat_le x.commit snap then Some x.value else best) xs v snap

  pub AllBelow-push : (high : ℕ) (vs : List (Version T)) (v : Version T) → AllBelow high vs → v.commit < high → AllBelow high (vs ++ v ∷ [])
  AllBelow-push high [] v b l = (l, tt)
  AllBelow-push high (x ∷ xs) v b l = (b.0, AllBelow-push high xs v b.1 l)

  pub AllBelow-more : (low high : ℕ) (vs : List (Version T)) → AllBelow low vs → low ≤ high → AllBelow high vs
  AllBelow-more low high [] b l = tt
  AllBelow-more low high (x ∷ xs) b l = let below = b.0 in (omega arith, AllBelow-more low high xs b.1 l)

  -- a last version that is of an earlier commit
  pub AscendFrom-push : (low : ℕ) (vs : List (Version T)) (v : Version T) → AscendFrom low vs → low ≤ v.commit → AllBelow v.commit vs → AscendFrom low (vs ++ v ∷ [])
  AscendFrom-push low [] v a l b = (l, tt)
  AscendFrom-push low (x ∷ xs) v a l b = let below = b.0 in (a.0, AscendFrom-push (x.commit + 1) xs v a.1 (omega arith) b.1)

  -- where the last one is not of the newest commit, all are earlier
  pub earlier : (low commit i : ℕ) (vs : List (Version T)) (d : Version T) → AscendFrom low vs → AllBelow (commit + 1) vs → i + 1 ≡ length vs → ((get_or vs i d).commit ≡ commit → ⊥) → AllBelow commit vs
  earlier low commit i [] d a b e n = tt
  earlier low commit zero (x ∷ []) d a b e n = let below = b.0 in (omega (arith, n), tt)
  earlier low commit zero (x ∷ y ∷ ys) d a b e n = absurd (omega arith)
  earlier low commit (suc i) (x ∷ xs) d a b e n =
      let rest = earlier (x.commit + 1) commit i xs d a.1 b.1 (omega arith) n in
      let up = first_below (x.commit + 1) commit i xs a.1 rest (omega arith) in (omega arith, rest)
    where
      first_below : (low commit i : ℕ) (vs : List (Version T)) → AscendFrom low vs → AllBelow commit vs → i + 1 ≡ length vs → low ≤ commit
      first_below low commit i [] a b e = absurd (omega arith)
      first_below low commit i (y ∷ ys) a b e = let up = a.0 in let down = b.0 in omega arith

  pub AllBelow-none : (high : ℕ) (vs : List (Version T)) → (0 < length vs → ⊥) → AllBelow high vs
  AllBelow-none high [] n = tt
  AllBelow-none high (x ∷ xs) n = absurd (n (omega arith))

  -- another value for the last one
  pub value_from-last : (best : Option T) (i : ℕ) (vs : List (Version T)) (d v : Version T) (snap : ℕ) → i + 1 ≡ length vs → (get_or vs i d).commit ≡ v.commit → value_from best (set vs i v) snap ≡ (if nat_le v.commit snap then Some v.value else value_from best vs snap)
  value_from-last best i [] d v snap e same = absurd (omega arith)
  value_from-last best zero (x ∷ []) d v snap e same = grind (arith, nat_tests)
  value_from-last best zero (x ∷ y ∷ ys) d v snap e same = absurd (omega arith)
  value_from-last best (suc i) (x ∷ xs) d v snap e same = value_from-last (if nat_le x.commit snap then Some x.value else best) i xs d v snap (omega arith) same

  pub AscendFrom-last : (low i : ℕ) (vs : List (Version T)) (d v : Version T) → AscendFrom low vs → i < length vs → (get_or vs i d).commit ≡ v.commit → AscendFrom low (set vs i v)
  AscendFrom-last low i [] d v a l same = tt
  AscendFrom-last low zero (x ∷ xs) d v a l same = rw (← same) a
  AscendFrom-last low (suc i) (x ∷ xs) d v a l same = (a.0, AscendFrom-last (x.commit + 1) i xs d v a.1 (omega arith) same)

  pub AllBelow-set : (high i : ℕ) (vs : List (Version T)) (v : Version T) → AllBelow high vs → v.commit < high → AllBelow high (set vs i v)
  AllBelow-set high i [] v b l = tt
  AllBelow-set high zero (x ∷ xs) v b l = (l, b.1)
  AllBelow-set high (suc i) (x ∷ xs) v b l = (b.0, AllBelow-set high i xs v b.1 l)

  -- the last one is read at its own commit
  pub value_from-newest : (best : Option T) (commit i : ℕ) (vs : List (Version T)) (d : Version T) → i + 1 ≡ length vs → (get_or vs i d).commit ≡ commit → value_from best vs commit ≡ Some (get_or vs i d).value
  value_from-newest best commit i [] d e same = absurd (omega arith)
  value_from-newest best commit zero (x ∷ []) d e same = grind (arith, nat_tests)
  value_from-newest best commit zero (x ∷ y ∷ ys) d e same = absurd (omega arith)
  value_from-newest best commit (suc i) (x ∷ xs) d e same = value_from-newest (if nat_le x.commit commit then Some x.value else best) commit i xs d (omega arith) same

  -- without the last one
  pub value_from-front : (best : Option T) (i : ℕ) (vs : List (Version T)) (d : Version T) (snap : ℕ) → i + 1 ≡ length vs → snap < (get_or vs i d).commit → value_from best (take i vs) snap ≡ value_from best vs snap
  value_from-front best i [] d snap e l = absurd (omega arith)
  value_from-front best zero (x ∷ []) d snap e l = grind (arith, nat_tests)
  value_from-front best zero (x ∷ y ∷ ys) d snap e l = absurd (omega arith)
  value_from-front best (suc i) (x ∷ xs) d snap e l = value_from-front (if nat_le x.commit snap then Some x.value else best) i xs d snap (omega arith) l

  pub AscendFrom-take : (low i : ℕ) (vs : List (Version T)) → AscendFrom low vs → AscendFrom low (take i vs)
  AscendFrom-take low zero vs a = tt
  AscendFrom-take low (suc i) [] a = tt
  AscendFrom-take low (suc i) (x ∷ xs) a = (a.0, AscendFrom-take (x.commit + 1) i xs a.1)

  pub AllBelow-front : (low i commit : ℕ) (vs : List (Version T)) (d : Version T) → AscendFrom low vs → i < length vs → (get_or vs i d).commit ≡ commit → AllBelow commit (take i vs)
  AllBelow-front low zero commit vs d a l e = tt
  AllBelow-front low (suc i) commit [] d a l e = tt
  AllBelow-front low (suc i) commit (x ∷ xs) d a l e = let up = first_up (x.commit + 1) i xs d a.1 (omega arith) in (omega arith, AllBelow-front (x.commit + 1) i commit xs d a.1 (omega arith) e)
    where
      first_up : (low i : ℕ) (vs : List (Version T)) (d : Version T) → AscendFrom low vs → i < length vs → low ≤ (get_or vs i d).commit
      first_up low i [] d a l = absurd (omega arith)
      first_up low zero (y ∷ ys) d a l = a.0
      first_up low (suc i) (y ∷ ys) d a l = let up = a.0 in let more = first_up (y.commit + 1) i ys d a.1 (omega arith) in omega arith

  versions_none : (horizon low : ℕ) (vs : List (Version T)) → AscendFrom low vs → horizon < low → versions_to horizon vs ≡ 0
  versions_none horizon low [] a l = refl
  versions_none horizon low (x ∷ xs) a l = let up = a.0 in let none = versions_none horizon (x.commit + 1) xs a.1 (omega arith) in rw (lt-leb x.commit horizon (omega arith)) (omega (arith, none))

  versions_head : (horizon low : ℕ) (x : Version T) (xs : List (Version T)) → AscendFrom low (x ∷ xs) → 0 < versions_to horizon (x ∷ xs) → x.commit ≤ horizon
  versions_head horizon low x xs a some = elim (cases_Bool (leb x.commit horizon)) [
    | inl t ↦ leb-true x.commit horizon t
    | inr f ↦
        let above = leb-false x.commit horizon f in
        let none = versions_none horizon (x.commit + 1) xs a.1 (omega arith) in
        let left = rw f at some in absurd (omega arith)
  ]

  -- where no version is at or below a snapshot it has no value but the one before
  pub value_from-zero : (best : Option T) (snap : ℕ) (vs : List (Version T)) → versions_to snap vs ≡ 0 → best ≡ value_from best vs snap
  value_from-zero best snap [] e = refl
  value_from-zero best snap (x ∷ xs) e = elim (cases_Bool (leb x.commit snap)) [
    | inl t ↦ let left = rw t at e in absurd (omega arith)
    | inr f ↦ let left = rw f at e in rw f (value_from-zero best snap xs (omega arith))
  ]

  -- the last of the versions at or below a snapshot has its value
  pub value_from-count : (best : Option T) (low snap i : ℕ) (vs : List (Version T)) (d : Version T) → AscendFrom low vs → i + 1 ≡ versions_to snap vs → Some (get_or vs i d).value ≡ value_from best vs snap
  value_from-count best low snap i [] d a e = absurd (omega arith)
  value_from-count best low snap zero (x ∷ xs) d a e =
      let t = le-leb x.commit snap (versions_head snap low x xs a (omega arith)) in
      let left = rw t at e in
      rw t (value_from-zero (Some x.value) snap xs (omega arith))
  value_from-count best low snap (suc i) (x ∷ xs) d a e =
      let t = le-leb x.commit snap (versions_head snap low x xs a (omega arith)) in
      let left = rw t at e in
      rw t (value_from-count (Some x.value) (x.commit + 1) snap i xs d a.1 (omega arith))

  -- with a version at or below a snapshot, what stood before does not matter
  value_from-any : (b c : Option T) (low horizon snap : ℕ) (vs : List (Version T)) → AscendFrom low vs → horizon ≤ snap → 0 < versions_to horizon vs → value_from b vs snap ≡ value_from c vs snap
  value_from-any b c low horizon snap [] a l some = absurd (omega arith)
  value_from-any b c low horizon snap (x ∷ xs) a l some = let h = versions_head horizon low x xs a some in rw (le-leb x.commit snap (omega arith)) refl

  -- without the first ones, where a further one is at or below the horizon
  pub value_from-drop : (best : Option T) (low horizon snap i : ℕ) (vs : List (Version T)) → AscendFrom low vs → horizon ≤ snap → i < versions_to horizon vs → value_from best (drop i vs) snap ≡ value_from best vs snap
  value_from-drop best low horizon snap zero vs a l s = refl
  value_from-drop best low horizon snap (suc i) [] a l s = refl
  value_from-drop best low horizon snap (suc i) (x ∷ xs) a l s =
      let h = versions_head horizon low x xs a (omega arith) in
      let more = rw (le-leb x.commit horizon h) at s in
      rw (le-leb x.commit snap (omega arith)) (value_from-drop best (x.commit + 1) horizon snap i xs a.1 l (omega arith) ∙ value_from-any best (Some x.value) (x.commit + 1) horizon snap xs a.1 l (omega arith))

  pub versions_to-drop : (low horizon i : ℕ) (vs : List (Version T)) → AscendFrom low vs → i ≤ versions_to horizon vs → versions_to horizon (drop i vs) + i ≡ versions_to horizon vs
  versions_to-drop low horizon zero vs a s = omega arith
  versions_to-drop low horizon (suc i) [] a s = absurd (omega arith)
  versions_to-drop low horizon (suc i) (x ∷ xs) a s =
      let t = le-leb x.commit horizon (versions_head horizon low x xs a (omega arith)) in
      let more = rw t at s in
      let rest = versions_to-drop (x.commit + 1) horizon i xs a.1 (omega arith) in
      rw t (omega arith)

  pub AscendFrom-drop : (low i : ℕ) (vs : List (Version T)) → AscendFrom low vs → AscendFrom low (drop i vs)
  AscendFrom-drop low zero vs a = a
  AscendFrom-drop low (suc i) [] a = a
  AscendFrom-drop low (suc i) (x ∷ xs) a = let up = a.0 in AscendFrom-drop low i xs (AscendFrom-less low (x.commit + 1) xs a.1 (omega arith))
    where
      AscendFrom-less : (low high : ℕ) (vs : List (Version T)) → AscendFrom high vs → low ≤ high → AscendFrom low vs
      AscendFrom-less low high [] a l = tt
      AscendFrom-less low high (y ∷ ys) a l = let up = a.0 in (omega arith, a.1)

  pub AllBelow-drop : (high i : ℕ) (vs : List (Version T)) → AllBelow high vs → AllBelow high (drop i vs)
  AllBelow-drop high zero vs b = b
  AllBelow-drop high (suc i) [] b = b
  AllBelow-drop high (suc i) (x ∷ xs) b = AllBelow-drop high i xs b.1

  -- the count of the versions at or below a snapshot is where a search of the first one above ends
  pub count_is : (low snap i : ℕ) (vs : List (Version T)) → AscendFrom low vs → IsPartitionPoint (λ v. leb v.commit snap ≡ true) (λ v. leb v.commit snap ≡ false) vs i → i ≤ length vs → i ≡ versions_to snap vs
  count_is low snap zero [] a p l = refl
  count_is low snap (suc i) [] a p l = absurd (omega arith)
  count_is low snap zero (x ∷ xs) a p l =
      let above = leb-false x.commit snap (p.1 0 x (omega arith) (omega arith)) in
      sym (versions_none snap x.commit (x ∷ xs) (omega arith, a.1) above)
  count_is low snap (suc i) (x ∷ xs) a p l =
      let rest = count_is (x.commit + 1) snap i xs a.1 ((λ k d b t. p.0 (suc k) d (omega arith) (omega arith)), (λ k d b t. p.1 (suc k) d (omega arith) (omega arith))) (omega arith) in
      rw (p.0 0 x (omega arith) (omega arith)) (omega arith)

  none_below : (low snap j : ℕ) (vs : List (Version T)) (d : Version T) → AscendFrom low vs → snap < low → j < length vs → leb (get_or vs j d).commit snap ≡ false
  none_below low snap j [] d a l w = absurd (omega arith)
  none_below low snap zero (x ∷ xs) d a l w = let up = a.0 in lt-leb x.commit snap (omega arith)
  none_below low snap (suc j) (x ∷ xs) d a l w = let up = a.0 in none_below (x.commit + 1) snap j xs d a.1 (omega arith) (omega arith)

  -- no version at or below a snapshot stands behind one that is above it
  pub parted : (low snap : ℕ) (vs : List (Version T)) → AscendFrom low vs → IsPartitionedBy (λ v. leb v.commit snap) vs
  parted low snap [] a i j d l w t = absurd (omega arith)
  parted low snap (x ∷ xs) a zero zero d l w t = t
  parted low snap (x ∷ xs) a (suc i) zero d l w t = absurd (omega arith)
  parted low snap (x ∷ xs) a (suc i) (suc j) d l w t = parted (x.commit + 1) snap xs a.1 i j d (omega arith) (omega arith) t
  parted low snap (x ∷ xs) a zero (suc j) d l w t = elim (cases_Bool (leb x.commit snap)) [
    | inl here ↦ here
    | inr f ↦ let above = leb-false x.commit snap f in absurd (both_ways (leb (get_or xs j d).commit snap) (none_below (x.commit + 1) snap j xs d a.1 (omega arith) (omega arith)) t)
  ]

pub ruleset read_steps = (value_from-zero, value_from-count)

pub ruleset chain_steps = (value_from-push, value_from-last, value_from-newest, value_from-front, AscendFrom-push, AscendFrom-last, AscendFrom-take, AllBelow-push, AllBelow-set, AllBelow-front, AllBelow-more, AllBelow-none, earlier)

pub ruleset purge_steps = (value_from-drop, AscendFrom-drop, AllBelow-drop, versions_to-drop)

-- a write at one place keeps what holds at each place
pub put_each : {X : Type 0} (Q : ℕ → X → Type 0) (xs : List X) (i : ℕ) (x d : X) → i < length xs → Q i x → ((k : ℕ) → (k ≡ i → ⊥) → Q k (get_or xs k d)) → (k : ℕ) → Q k (get_or (set xs i x) k d)
put_each Q xs i x d l here all k = elim (cases_eq k i) [
  | inl e ↦ rw e (rw (get_or-set_same xs i x d l) here)
  | inr n ↦ rw (get_or-set_other xs i k x d n) (all k n)
]

pub chains_more : {T : Type 0} (low high : ℕ) (chains : List (List (Version T))) → AllChainsBelow low chains → low ≤ high → AllChainsBelow high chains
chains_more low high chains b l id = AllBelow-more low high (get_or chains id []) (b id) l
