-- The keys of a complete list in the final stage.
use Rattle.std.proofs.Common.{◌≡◌, ℕ, ◌+◌, ◌-◌, ◌^◌, ◌<◌, ◌≤◌, List, [], ◌∷◌, drop, find, length, Bool, true, false, not, ◌&&◌, ◌||◌, refl, ap, sym, ◌∙◌, arith, subst, Some, None, Option, nat_eq, inl, inr, zero, suc, slice_get}
use Rattle.std.specs.Prelude.{if◌then◌else◌}
use Rattle.std.proofs.lemmas.Bool.{cases_Bool, eqb-true}
use Rattle.std.proofs.lemmas.List.{drop_more}
use Rattle.std.proofs.lemmas.Option.{get_or_from_slice_get, slice_get_within}
use Rattle.rv_value.proofs.Tests.{same_number}
use Rattle.rv_value.specs.declared.record.Record.{Record}
use Rattle.rv_value.specs.declared.record.RowNo.{RowNo}
use Rattle.rv_rows.specs.Rows.{Ascend}
use Rattle.rv_keylist.specs.Keys.{has_key, Once}
use Rattle.rv_keylist.proofs.Onces.{Once-head, Once-tail}
use Rattle.rv_judge.specs.Counting.{one_more, reads, record_read}
use Rattle.rv_judge.specs.declared.counting.Counts.{Counts}
use Rattle.rv_restrict.specs.declared.atom.Atom.{Atom}
use Rattle.rv_restrict.specs.Truth.{qualifies}
use Rattle.rv_reader.specs.Tables.{row_at}
use Rattle.rv_reader.specs.declared.step.Step.{Step}
use Rattle.rv_reader.specs.declared.step.Step.TheVariants.{Row, Working, End}
use Rattle.rv_scan.specs.Alongs.{looked}
use Rattle.rv_scan.specs.Due.{was_delivered}
use Rattle.rv_final.specs.Rest.{StepMarks}
use Rattle.rv_final.specs.Stage.{FetchesKey, IsFirstKey, NextKey, PassesKeys, Staged, first_key, given_as, keys_left, list_left}
use Rattle.rv_final.specs.Work.{Falls, Tries}
use Rattle.rv_final.proofs.Dues.{marks_move}
use Rattle.rv_final.proofs.Marks.{fetched_marks}

key_agree : (k : ℕ) (keys : List ℕ) (delivered : Option (List ℕ)) (n : ℕ) → has_key k keys ≡ false → (has_key n keys && not (was_delivered delivered n)) ≡ ((has_key n (k ∷ keys) && not (was_delivered delivered n)) && not (nat_eq n k))
key_agree k keys delivered n g =
    elim (cases_Bool (nat_eq n k)) [
      | inl here ↦
          let none : has_key n keys ≡ false = ap (λ (m : ℕ). has_key m keys) (eqb-true n k here) ∙ g in
          both_none (nat_eq n k) (has_key n keys) (not (was_delivered delivered n)) none here
      | inr other ↦ skip_first (nat_eq n k) (has_key n keys) (not (was_delivered delivered n)) other
    ]
  where
    both_none : (c x m : Bool) → x ≡ false → c ≡ true → (x && m) ≡ (((c || x) && m) && not c)
    both_none c x m h i = grind arith

    skip_first : (c x m : Bool) → c ≡ false → (x && m) ≡ (((c || x) && m) && not c)
    skip_first c x m h = grind arith

skipped_key : (k : ℕ) (keys : List ℕ) (delivered : Option (List ℕ)) (n : ℕ) → was_delivered delivered k ≡ true → (has_key n keys && not (was_delivered delivered n)) ≡ (has_key n (k ∷ keys) && not (was_delivered delivered n))
skipped_key k keys delivered n d =
    elim (cases_Bool (nat_eq n k)) [
      | inl here ↦
          let yes : was_delivered delivered n ≡ true = ap (λ (m : ℕ). was_delivered delivered m) (eqb-true n k here) ∙ d in
          both_none (nat_eq n k) (has_key n keys) (was_delivered delivered n) yes
      | inr other ↦ skip_first (nat_eq n k) (has_key n keys) (was_delivered delivered n) other
    ]
  where
    both_none : (c x m : Bool) → m ≡ true → (x && not m) ≡ ((c || x) && not m)
    both_none c x m h = grind arith

    skip_first : (c x m : Bool) → c ≡ false → (x && not m) ≡ ((c || x) && not m)
    skip_first c x m h = grind arith

pub passes_one : (list delivered : Option (List ℕ)) (at next k : ℕ) → NextKey list at k → was_delivered delivered k ≡ true → PassesKeys list delivered (at + 1) next → PassesKeys list delivered at next
passes_one list delivered at next k key d p = record { same = λ n. p.same n ∙ skipped_key k (keys_left list (at + 1)) delivered n d ∙ ap (λ (ks : List ℕ). has_key n ks && not (was_delivered delivered n)) (sym key.split) }

once_drop : (i : ℕ) (keys : List ℕ) → Once keys → Once (drop i keys)
once_drop zero keys once = once
once_drop (suc i) [] once = once
once_drop (suc i) (k ∷ keys) once = once_drop i keys (Once-tail k keys once)

pub next_key : (keys : List ℕ) (at k : ℕ) → slice_get keys at ≡ Some k → Once keys → at < 2 ^ 64 - 1 → NextKey (Some keys) at k
next_key keys at k got once small =
    let below = slice_get_within keys at k got in
    let split : drop at keys ≡ k ∷ drop (at + 1) keys = drop_more keys at k below ∙ ap (λ (x : ℕ). x ∷ drop (at + 1) keys) (get_or_from_slice_get keys at k k got) in
    record { split = split; gone = Once-head k (drop (at + 1) keys) (subst Once split (once_drop at keys once)); small = small }

-- A delivered key is passed over.

pub passes_first : (list delivered : Option (List ℕ)) (at next k : ℕ) → next ≡ at + 1 → was_delivered delivered k ≡ true → NextKey list at k → first_key list delivered next ≡ first_key list delivered at
passes_first list delivered at next k e h n = ap (first_key list delivered) e ∙ sym (ap (find (λ (j : ℕ). not (was_delivered delivered j))) n.split ∙ gone)
  where
    gone : find (λ (j : ℕ). not (was_delivered delivered j)) (k ∷ keys_left list (at + 1)) ≡ find (λ (j : ℕ). not (was_delivered delivered j)) (keys_left list (at + 1))
    gone = rw h refl

pub first_on : (list delivered : Option (List ℕ)) (at next : ℕ) (r : Option RowNo) → first_key list delivered next ≡ first_key list delivered at → IsFirstKey list delivered next r → IsFirstKey list delivered at r
first_on list delivered at next None e f = sym e ∙ f
first_on list delivered at next (Some row) e f = sym e ∙ f

pub passes_more : (list delivered : Option (List ℕ)) (at mid new k : ℕ) → mid ≡ at + 1 → was_delivered delivered k ≡ true → NextKey list at k → PassesKeys list delivered mid new → PassesKeys list delivered at new
passes_more list delivered at mid new k e h n p = passes_one list delivered at new k n h (subst (λ (i : ℕ). PassesKeys list delivered i new) e p)

-- None is left.

pub list_ended : (need : List ℕ) (only : List (List Atom)) (rows : List Record) (list delivered : Option (List ℕ)) (at next : ℕ) → PassesKeys list delivered at next → keys_left list next ≡ [] → StepMarks need only rows End (list_left list delivered at) (list_left list delivered next)
list_ended need only rows list delivered at next p e = (λ n q. sym (p.same n) ∙ none n, λ n q. none n)
  where
    none : (n : ℕ) → list_left list delivered next n ≡ false
    none n = ap (λ (ks : List ℕ). has_key n ks && not (was_delivered delivered n)) e

pub ends_fetches : (list delivered : Option (List ℕ)) (at : ℕ) (only : List (List Atom)) (rows : List Record) (c : Counts) → first_key list delivered at ≡ None → FetchesKey (first_key list delivered at) only rows c c End
ends_fetches list delivered at only rows c f = subst (λ (k : Option ℕ). FetchesKey k only rows c c End) (sym f) (refl, refl)

-- The row of the next key is fetched.

list_fetched : (need : List ℕ) (only : List (List Atom)) (rows : List Record) (list delivered : Option (List ℕ)) (at mid k : ℕ) (s : Step Record) → Ascend rows → PassesKeys list delivered at mid → NextKey list mid k → was_delivered delivered k ≡ false → s ≡ looked only (row_at rows k) → StepMarks need only rows s (list_left list delivered at) (list_left list delivered (mid + 1))
list_fetched need only rows list delivered at mid k s asc p key fresh is =
    let keys = keys_left list (mid + 1) in
    let here : list_left list delivered mid k ≡ true = ap (λ (ks : List ℕ). has_key k ks && not (was_delivered delivered k)) key.split ∙ both_true (nat_eq k k) (has_key k keys) (was_delivered delivered k) (same_number k) fresh in
    let marks : StepMarks need only rows (looked only (row_at rows k)) (list_left list delivered mid) (list_left list delivered (mid + 1)) = fetched_marks need only rows (list_left list delivered mid) (list_left list delivered (mid + 1)) k (row_at rows k) asc refl here (λ n q. key_agree k keys delivered n key.gone ∙ ap (λ (ks : List ℕ). (has_key n ks && not (was_delivered delivered n)) && not (nat_eq n k)) (sym key.split)) in
    let moved = marks_move need only rows (looked only (row_at rows k)) (list_left list delivered mid) (list_left list delivered (mid + 1)) (list_left list delivered at) (list_left list delivered (mid + 1)) asc (λ n q. sym (p.same n)) (λ n q. refl) marks in
    subst (λ (x : Step Record). StepMarks need only rows x (list_left list delivered at) (list_left list delivered (mid + 1))) (sym is) moved
  where
    both_true : (a b c : Bool) → a ≡ true → c ≡ false → ((a || b) && not c) ≡ true
    both_true a b c h i = grind arith

pub key_marks : (need : List ℕ) (only : List (List Atom)) (rows : List Record) (list delivered : Option (List ℕ)) (at k : ℕ) (mid new : Staged) (s : Step Record) → Ascend rows → PassesKeys list delivered at mid.at → NextKey list mid.at k → was_delivered delivered k ≡ false → new ≡ record mid { at = mid.at + 1 } → s ≡ looked only (row_at rows k) → StepMarks need only rows s (list_left list delivered at) (list_left list delivered new.at)
key_marks need only rows list delivered at k mid new s asc p key fresh n is = subst (λ (i : ℕ). StepMarks need only rows s (list_left list delivered at) (list_left list delivered i)) (sym (ap (λ (x : Staged). x.at) n)) (list_fetched need only rows list delivered at mid.at k s asc p key fresh is)

pub key_fetches : (list delivered : Option (List ℕ)) (at k : ℕ) (only : List (List Atom)) (rows : List Record) (c d : Counts) (s : Step Record) → first_key list delivered at ≡ Some k → d ≡ record_read c → s ≡ looked only (row_at rows k) → FetchesKey (first_key list delivered at) only rows c d s
key_fetches list delivered at k only rows c d s f e is = subst (λ (x : Option ℕ). FetchesKey x only rows c d s) (sym f) (e, is)

-- the row that was found is looked at
pub looked_at : (only : List (List Atom)) (rows : List Record) (k : ℕ) (found : Option Record) (s : Step Record) → found ≡ row_at rows k → s ≡ looked only found → s ≡ looked only (row_at rows k)
looked_at only rows k found s row look = look ∙ ap (looked only) row

-- What is read, and what is left.

one_fewer : (list : Option (List ℕ)) (at k : ℕ) → NextKey list at k → length (keys_left list at) ≡ length (keys_left list (at + 1)) + 1
one_fewer list at k key = let more : length (keys_left list at) ≡ length (k ∷ keys_left list (at + 1)) = ap length key.split in omega arith

at_most : (n : ℕ) → one_more n ≤ n + 1
at_most n = omega arith

record_once : (c : Counts) → reads (record_read c) ≤ reads c + 1
record_once c = let more = at_most c.records in omega arith

one_read : (c d : Counts) → d ≡ record_read c → reads d ≤ reads c + 1
one_read c d e = subst (λ (x : Counts). reads x ≤ reads c + 1) (sym e) (record_once c)

-- a key that was passed is one fewer
one_below : (list : Option (List ℕ)) (at k : ℕ) (mid new : Staged) → NextKey list mid.at k → length (keys_left list mid.at) ≤ length (keys_left list at) → new ≡ record mid { at = mid.at + 1 } → length (keys_left list new.at) + 1 ≤ length (keys_left list at)
one_below list at k mid new key fewer n =
    let same : length (keys_left list new.at) ≡ length (keys_left list (mid.at + 1)) = ap (λ (x : Staged). length (keys_left list x.at)) n in
    let one = one_fewer list mid.at k key in
    omega arith

passed_less : (list : Option (List ℕ)) (at k : ℕ) (mid new : Staged) → NextKey list mid.at k → length (keys_left list mid.at) ≤ length (keys_left list at) → new ≡ record mid { at = mid.at + 1 } → length (keys_left list new.at) ≤ length (keys_left list at)
passed_less list at k mid new key fewer n = let less = one_below list at k mid new key fewer n in omega arith

pub key_tries : (list : Option (List ℕ)) (at k : ℕ) (mid new : Staged) (c d : Counts) → NextKey list mid.at k → length (keys_left list mid.at) ≤ length (keys_left list at) → new ≡ record mid { at = mid.at + 1 } → d ≡ record_read c → Tries c d (length (keys_left list at)) (length (keys_left list new.at))
key_tries list at k mid new c d key fewer n r = record { once = one_read c d r; less = passed_less list at k mid new key fewer n }

-- memory is wanting: the key stays
pub wanting_tries : (old new : ℕ) (c d : Counts) → new ≤ old → d ≡ record_read c → Tries c d old new
wanting_tries old new c d fewer r = record { once = one_read c d r; less = fewer }

falls_as : (s : Step Record) (o : Option Record) (only : List (List Atom)) (c d : Counts) (old new : ℕ) → s ≡ looked only o → new < old → Falls s c d old new
falls_as (Row r) o only c d old new is less = less
falls_as Working o only c d old new is less = less
falls_as End None only c d old new is less = let bad : End ≡ Working = is in absurd (cc)
falls_as End (Some r) only c d old new is less = by (qualifies only r.values) is
  where
    by : (b : Bool) → End ≡ (if b then Row r else Working) → d ≡ c
    by true is = let bad : End ≡ Row r = is in absurd (cc)
    by false is = let bad : End ≡ Working = is in absurd (cc)

pub key_falls : (list : Option (List ℕ)) (at k : ℕ) (only : List (List Atom)) (o : Option Record) (mid new : Staged) (c d : Counts) (s : Step Record) → NextKey list mid.at k → length (keys_left list mid.at) ≤ length (keys_left list at) → new ≡ record mid { at = mid.at + 1 } → s ≡ looked only o → Falls s c d (length (keys_left list at)) (length (keys_left list new.at))
key_falls list at k only o mid new c d s key fewer n is = falls_as s o only c d (length (keys_left list at)) (length (keys_left list new.at)) is (let less = one_below list at k mid new key fewer n in omega arith)

pub key_records : (list : Option (List ℕ)) (at k : ℕ) (mid new : Staged) (c d : Counts) → NextKey list mid.at k → length (keys_left list mid.at) ≤ length (keys_left list at) → new ≡ record mid { at = mid.at + 1 } → d ≡ record_read c → d.records + length (keys_left list new.at) ≤ c.records + length (keys_left list at)
key_records list at k mid new c d key fewer n r =
    let less = one_below list at k mid new key fewer n in
    let is : d.records ≡ one_more c.records = ap (λ (x : Counts). x.records) r in
    let more = at_most c.records in
    omega arith
