-- The lists of a set: their keys, and what is poured.
use Rattle.std.proofs.Common.{◌≡◌, ℕ, ◌<◌, ◌≤◌, ◌+◌, ◌^◌, List, [], ◌∷◌, ◌++◌, length, length-append, take, Bool, true, false, ◌||◌, ◌&&◌, refl, ap, sym, ◌∙◌, arith, subst, append_assoc, append-nil, nat_eq, zero, suc, Some, slice_get, slice_index_or, IsPermutation, IsOk, OnOk, Result, Ok, Err, is_ok}
use Rattle.std.specs.Prelude.{if◌then◌else◌}
use Rattle.std.proofs.lemmas.Bool.Decides.{nat_tests}
use Rattle.std.proofs.lemmas.List.{take_more}
use Rattle.std.proofs.lemmas.List.Sorted.{IsPermutation-append_comm, IsPermutation-append_left, IsPermutation-append_right, IsPermutation-trans, length_permutation, list_any-IsPermutation}
use Rattle.std.proofs.lemmas.Option.{get_or_from_slice_get, slice_get_within}
use Rattle.std.proofs.lemmas.Bool.{and_right, or_from, or_left, or_right}
use Rattle.rv_value.proofs.Tests.{right_false, other_false, same_number}
use Rattle.rv_keylist.specs.Keys.{has_key, Once}
use Rattle.rv_keylist.proofs.Onces.{Once-cons, Once-head, Once-IsPermutation, Once-nil, Once-tail, key_append}
use Rattle.rv_keylist.specs.Listed.{Listed}
use Rattle.rv_keyset.specs.Sets.{AreApart, AreFinished, AreRuns, Keyed, Pours, flat}

-- keys of two lists

number : (a b : ℕ) → nat_eq a b ≡ true → b ≡ a
number a b h = grind (arith, nat_tests)

-- a key of a list that stands once in the list and another is not of the other
one_apart : (x n : ℕ) (xs ys : List ℕ) → has_key x (xs ++ ys) ≡ false → (has_key n xs && has_key n ys) ≡ false → ((nat_eq n x || has_key n xs) && has_key n ys) ≡ false
one_apart x n xs ys fresh rest = by (nat_eq n x) refl
  where
    by : (b : Bool) → nat_eq n x ≡ b → ((b || has_key n xs) && has_key n ys) ≡ false
    by true e = and_right (true || has_key n xs) (has_key n ys) (subst (λ (m : ℕ). has_key m ys ≡ false) (number n x e) (right_false (has_key x xs) (has_key x ys) (sym (key_append x xs ys) ∙ fresh)))
    by false e = rest

pub once_apart : (xs ys : List ℕ) → Once (xs ++ ys) → AreApart xs ys
once_apart xs ys once = record { apart = λ n. each n xs ys once }
  where
    each : (n : ℕ) (xs ys : List ℕ) → Once (xs ++ ys) → (has_key n xs && has_key n ys) ≡ false
    each n [] ys once = refl
    each n (x ∷ xs) ys once = one_apart x n xs ys (Once-head x (xs ++ ys) once) (each n xs ys (Once-tail x (xs ++ ys) once))

pub once_append : (xs ys : List ℕ) → Once xs → Once ys → AreApart xs ys → Once (xs ++ ys)
once_append [] ys once others a = others
once_append (x ∷ xs) ys once others a = Once-cons x (xs ++ ys) (key_append x xs ys ∙ or_from (has_key x xs) (has_key x ys) (Once-head x xs once) (first_off (nat_eq x x) (has_key x xs) (has_key x ys) (same_number x) (a.apart x))) (once_append xs ys (Once-tail x xs once) others (record { apart = λ n. later (nat_eq n x) (has_key n xs) (has_key n ys) (a.apart n) }))
  where
    first_off : (a b c : Bool) → a ≡ true → ((a || b) && c) ≡ false → c ≡ false
    first_off a b c h d = grind arith

    later : (a b c : Bool) → ((a || b) && c) ≡ false → (b && c) ≡ false
    later a b c d = grind arith

-- apart from keys in another order
pub apart_of : (keys moved others : List ℕ) → ((n : ℕ) → has_key n keys ≡ has_key n moved) → AreApart moved others → AreApart keys others
apart_of keys moved others same a = record { apart = λ n. ap (λ (b : Bool). b && has_key n others) (same n) ∙ a.apart n }

-- the key in a place is not among those before it, nor among others

pub key_there : (keys : List ℕ) (i k : ℕ) → slice_get keys i ≡ Some k → has_key k keys ≡ true
key_there [] i k e = absurd (cc)
key_there (x ∷ keys) zero k e = or_left (nat_eq k x) (has_key k keys) (same k x (cc))
  where
    same : (a b : ℕ) → b ≡ a → nat_eq a b ≡ true
    same a b e = grind (arith, nat_tests)
key_there (x ∷ keys) (suc i) k e = or_right (nat_eq k x) (has_key k keys) (key_there keys i k e)

key_new : (keys : List ℕ) (i k : ℕ) → Once keys → slice_get keys i ≡ Some k → has_key k (take i keys) ≡ false
key_new [] i k once e = absurd (cc)
key_new (x ∷ keys) zero k once e = refl
key_new (x ∷ keys) (suc i) k once e = or_from (nat_eq k x) (has_key k (take i keys)) (each (nat_eq k x) refl) (key_new keys i k (Once-tail x keys once) e)
  where
    each : (v : Bool) → nat_eq k x ≡ v → nat_eq k x ≡ false
    each false other = other
    each true here = absurd (let bad : true ≡ false = sym (key_there keys i k e) ∙ ap (λ (n : ℕ). has_key n keys) (sym (number k x here)) ∙ Once-head x keys once in cc)

pub next_new : (put list : List ℕ) (i k : ℕ) → AreApart list put → Once list → slice_get list i ≡ Some k → has_key k (put ++ take i list) ≡ false
next_new put list i k a once e = key_append k put (take i list) ∙ or_from (has_key k put) (has_key k (take i list)) (other_false (has_key k list) (has_key k put) (key_there list i k e) (a.apart k)) (key_new list i k once e)

pub next_put : (put list : List ℕ) (i k : ℕ) → slice_get list i ≡ Some k → (put ++ take i list) ++ k ∷ [] ≡ put ++ take (i + 1) list
next_put put list i k e = append_assoc put (take i list) (k ∷ []) ∙ ap (λ (x : List ℕ). put ++ x) (sym (take_more list i k (slice_get_within list i k e) ∙ ap (λ (x : ℕ). take i list ++ x ∷ []) (get_or_from_slice_get list i k k e)))

-- the last of some lists

pub flat_append : (lists : List Listed) (list : Listed) → flat (lists ++ list ∷ []) ≡ flat lists ++ list.keys
flat_append [] list = append-nil list.keys
flat_append (l ∷ lists) list = ap (λ (keys : List ℕ). l.keys ++ keys) (flat_append lists list) ∙ sym (append_assoc l.keys (flat lists) list.keys)

pub finished_front : (lists : List Listed) (list : Listed) → AreFinished (lists ++ list ∷ []) → AreFinished lists
finished_front [] list all = tt
finished_front (l ∷ lists) list all = (all.0, finished_front lists list all.1)

pub finished_append : (lists : List Listed) (list : Listed) → AreFinished lists → list.finished ≡ true → AreFinished (lists ++ list ∷ [])
finished_append [] list all end = (end, tt)
finished_append (l ∷ lists) list all end = (all.0, finished_append lists list all.1 end)

-- a set without lists that has a place
pub no_runs : (lists : List Listed) (places : ℕ) → lists ≡ [] → 1 ≤ places → AreRuns lists places
no_runs lists places e p = subst (λ (l : List Listed). AreRuns l places) (sym e) (record { finished = tt; once = Once-nil; small = omega arith; place = p })

-- THE LAST LIST IS POURED

pub last_apart : (lists old : List Listed) (list put : Listed) → old ≡ lists ++ list ∷ [] → Pours old put → AreApart list.keys put.keys
last_apart lists old list put e p =
    let once : Once ((flat lists ++ list.keys) ++ put.keys) = subst (λ (keys : List ℕ). Once (keys ++ put.keys)) (ap flat e ∙ flat_append lists list) p.once in
    let all = once_apart (flat lists ++ list.keys) put.keys once in
    record { apart = λ n. part (has_key n (flat lists)) (has_key n list.keys) (has_key n put.keys) (ap (λ (b : Bool). b && has_key n put.keys) (sym (key_append n (flat lists) list.keys)) ∙ all.apart n) }
  where
    part : (a b c : Bool) → ((a || b) && c) ≡ false → (b && c) ≡ false
    part a b c d = grind arith

pub last_room : (lists old : List Listed) (list put : Listed) → old ≡ lists ++ list ∷ [] → Pours old put → length (flat lists) + length list.keys ≤ put.spare
last_room lists old list put e p =
    let same : length (flat old) ≡ length (flat lists) + length list.keys = ap length (ap flat e ∙ flat_append lists list) ∙ length-append (flat lists) list.keys in
    let room = p.room in
    omega arith

pub last_moves : (lists old : List Listed) (list put new : Listed) → old ≡ lists ++ list ∷ [] → new.keys ≡ put.keys ++ list.keys → IsPermutation (flat old ++ put.keys) (flat lists ++ new.keys)
last_moves lists old list put new e n =
    let from : flat old ++ put.keys ≡ flat lists ++ (list.keys ++ put.keys) = ap (λ (keys : List ℕ). keys ++ put.keys) (ap flat e ∙ flat_append lists list) ∙ append_assoc (flat lists) list.keys put.keys in
    subst (λ (keys : List ℕ). IsPermutation keys (flat lists ++ new.keys)) (sym from) (subst (λ (keys : List ℕ). IsPermutation (flat lists ++ (list.keys ++ put.keys)) (flat lists ++ keys)) (sym n) (IsPermutation-append_right (flat lists) (list.keys ++ put.keys) (put.keys ++ list.keys) (IsPermutation-append_comm list.keys put.keys)))

pub last_poured : (lists old : List Listed) (list put new : Listed) → old ≡ lists ++ list ∷ [] → new.keys ≡ put.keys ++ list.keys → put.spare ≤ new.spare + length list.keys → new.finished ≡ false → Pours old put → Pours lists new
last_poured lists old list put new e n room going p =
    let fits = last_room lists old list put e p in
    record {
      finished = finished_front lists list (subst AreFinished e p.finished);
      unfinished = going;
      room = omega arith;
      once = Once-IsPermutation (flat old ++ put.keys) (flat lists ++ new.keys) (last_moves lists old list put new e n) p.once;
    }

-- a list that was put behind others
pub put_behind : (keys : List ℕ) (lists new : List Listed) (put list : Listed) → IsPermutation keys (flat lists ++ put.keys) → IsPermutation put.keys list.keys → new ≡ lists ++ list ∷ [] → IsPermutation keys (flat new)
put_behind keys lists new put list p q e =
    subst (IsPermutation keys) (sym (ap flat e ∙ flat_append lists list)) (IsPermutation-trans keys (flat lists ++ put.keys) (flat lists ++ list.keys) p (IsPermutation-append_right (flat lists) put.keys list.keys q))

-- what is said of a call that succeeded holds
pub ok_holds : {X E P : Type 0} (r : Result X E) → IsOk r → OnOk r P → P
ok_holds (Ok x) ok p = p
ok_holds (Err x) ok p = absurd (let bad : false ≡ true = ok in cc)

-- a push that succeeded
pub pushed_items : {X Y E : Type 0} (r : Result Y E) (old new : List X) (item : X) → IsOk r → new ≡ (if is_ok r then old ++ item ∷ [] else old) → new ≡ old ++ item ∷ []
pushed_items (Ok y) old new item ok e = e
pushed_items (Err y) old new item ok e = absurd (let bad : false ≡ true = ok in cc)

-- the one list
pub one_list : (lists : List Listed) (list : Listed) → list ≡ slice_index_or lists 0 list → nat_eq (length lists) 1 ≡ true → flat lists ≡ list.keys
one_list [] list e one = absurd (cc)
one_list (l ∷ []) list e one = append-nil l.keys ∙ ap (λ (x : Listed). x.keys) (sym e)
one_list (l ∷ m ∷ lists) list e one = absurd (more (length lists) one)
  where
    more : (n : ℕ) → nat_eq (suc (suc n)) 1 ≡ true → ⊥
    more n h = grind (arith, nat_tests)

pub one_finished : (lists : List Listed) (list : Listed) → list ≡ slice_index_or lists 0 list → nat_eq (length lists) 1 ≡ true → AreFinished lists → list.finished ≡ true
one_finished [] list e one all = absurd (cc)
one_finished (l ∷ lists) list e one all = ap (λ (x : Listed). x.finished) e ∙ all.0

-- A LIST IS ADDED

pub added_once : (keys list now : List ℕ) → Once keys → Once list → ((n : ℕ) → has_key n keys ≡ has_key n now) → AreApart now list → Once (keys ++ list)
added_once keys list now once others same a = once_append keys list once others (apart_of keys now list same a)

pub added_runs : (lists new : List Listed) (list : List ℕ) (places : ℕ) → Once (flat lists ++ list) → length (flat lists) + length list < 2 ^ 32 → AreFinished new → IsPermutation (flat lists ++ list) (flat new) → 1 ≤ places → AreRuns new places
added_runs lists new list places once small done moved place =
    let count : length (flat new) ≡ length (flat lists) + length list = length_permutation (flat lists ++ list) (flat new) moved ∙ length-append (flat lists) list in
    record { finished = done; once = Once-IsPermutation (flat lists ++ list) (flat new) moved once; small = omega arith; place = place }

pub added_keys : (keys list now new all : List ℕ) → IsPermutation now keys → IsPermutation (keys ++ list) new → IsPermutation new all → IsPermutation (now ++ list) all
added_keys keys list now new all p q r = IsPermutation-trans (now ++ list) (keys ++ list) all (IsPermutation-append_left list now keys p) (IsPermutation-trans (keys ++ list) new all q r)

-- a set in one list
pub whole_set : (s : Keyed) (keys : List ℕ) → keys ≡ s.keys → s.whole ≡ true → s ≡ record { keys = keys; whole = true }
whole_set s keys e w = ap (λ (b : Bool). record { keys = s.keys; whole = b }) w ∙ ap (λ (k : List ℕ). record { keys = k; whole = true }) (sym e)

-- what is in another order stays apart, and what is put together with it is the same
pub apart_moved : (keys list moved : List ℕ) → AreApart keys list → IsPermutation list moved → AreApart keys moved
apart_moved keys list moved a p = record { apart = λ n. ap (λ (b : Bool). has_key n keys && b) (sym (list_any-IsPermutation (nat_eq n) list moved p)) ∙ a.apart n }

pub moved_behind : (keys list moved all : List ℕ) → IsPermutation list moved → IsPermutation (keys ++ moved) all → IsPermutation (keys ++ list) all
moved_behind keys list moved all p q = IsPermutation-trans (keys ++ list) (keys ++ moved) all (IsPermutation-append_right keys list moved p) q
