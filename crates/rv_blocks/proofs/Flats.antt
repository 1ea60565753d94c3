-- The items of blocks by their places.
use Rattle.std.proofs.Common.{◌≡◌, ℕ, ◌<◌, ◌≤◌, ◌+◌, ◌-◌, List, [], ◌∷◌, ◌++◌, refl, ap, sym, ◌∙◌, arith, length, take, drop, zero, suc, append_assoc, length-append, true, insert, remove}
use Rattle.std.specs.Prelude.{slice_index_or, slice_set, slice_get}
use Rattle.std.specs.List.{list_all}
use Rattle.std.proofs.lemmas.Bool.Decides.{nat_tests}
use Rattle.std.proofs.lemmas.List.{get_or-append-add, get_or_append_left, set-append_left, set-append_right, append-nil}
use Rattle.std.proofs.lemmas.List.Edits.{insert-append_left, insert-append_right, remove-append_left, remove-append_right}
use Rattle.std.proofs.lemmas.Bool.{and_parts}
use Rattle.rv_blocks.specs.Flat.{flat, is_sized, AreSized, block_at, start_of}

-- the items before a block, its own, and those behind it
pub flat_split : {X : Type 0} (bs : List (List X)) (i : ℕ) → i < length bs → flat bs ≡ flat (take i bs) ++ (block_at bs i ++ flat (drop (suc i) bs))
flat_split [] i h = absurd (omega arith)
flat_split (b ∷ bs) zero h = refl
flat_split (b ∷ bs) (suc i) h = ap (λ xs. b ++ xs) (flat_split bs i (omega arith)) ∙ sym (append_assoc b (flat (take i bs)) (block_at bs i ++ flat (drop (suc i) bs)))

start_suc : {X : Type 0} (bs : List (List X)) (i : ℕ) → i < length bs → start_of bs (suc i) ≡ start_of bs i + length (block_at bs i)
start_suc [] i h = absurd (omega arith)
start_suc (b ∷ bs) zero h = let e = ap length (append-nil b) in omega arith
start_suc (b ∷ bs) (suc i) h =
    let rest = start_suc bs i (omega arith) in
    let here = length-append b (flat (take (suc i) bs)) in
    let there = length-append b (flat (take i bs)) in
    omega arith

pub start_more : {X : Type 0} (bs : List (List X)) (i n : ℕ) → i < length bs → n ≡ suc i → start_of bs n ≡ start_of bs i + length (block_at bs i)
start_more bs i n h e = rw e (start_suc bs i h)

pub start_all : {X : Type 0} (bs : List (List X)) (n : ℕ) → length bs ≤ n → start_of bs n ≡ length (flat bs)
start_all [] zero h = refl
start_all [] (suc n) h = refl
start_all (b ∷ bs) zero h = absurd (omega arith)
start_all (b ∷ bs) (suc n) h =
    let rest = start_all bs n (omega arith) in
    let here = length-append b (flat (take n bs)) in
    let there = length-append b (flat bs) in
    omega arith

pub start_within : {X : Type 0} (bs : List (List X)) (i : ℕ) → i < length bs → start_of bs i + length (block_at bs i) ≤ length (flat bs)
start_within [] i h = absurd (omega arith)
start_within (b ∷ bs) zero h =
    let there = length-append b (flat bs) in
    omega arith
start_within (b ∷ bs) (suc i) h =
    let rest = start_within bs i (omega arith) in
    let here = length-append b (flat (take i bs)) in
    let there = length-append b (flat bs) in
    omega arith

-- an item of a block by its place in the list
pub item_at : {X : Type 0} (bs : List (List X)) (i j : ℕ) (d : X) → i < length bs → j < length (block_at bs i) → slice_index_or (flat bs) (start_of bs i + j) d ≡ slice_index_or (block_at bs i) j d
item_at bs i j d h k = rw (flat_split bs i h) (get_or-append-add (flat (take i bs)) (block_at bs i ++ flat (drop (suc i) bs)) j d ∙ get_or_append_left (block_at bs i) (flat (drop (suc i) bs)) d j k)

pub sized_at : {X : Type 0} (bs : List (List X)) (i : ℕ) → AreSized bs → i < length bs → (0 < length (block_at bs i)) × (length (block_at bs i) ≤ 128)
sized_at [] i sized h = absurd (omega arith)
sized_at (b ∷ bs) zero sized h =
    let parts = and_parts (is_sized b) (list_all is_sized bs) sized in
    let first = parts.0 in
    (grind (arith, nat_tests), grind (arith, nat_tests))
sized_at (b ∷ bs) (suc i) sized h = sized_at bs i (and_parts (is_sized b) (list_all is_sized bs) sized).1 (omega arith)

pub flat_set : {X : Type 0} (bs : List (List X)) (i : ℕ) (b : List X) → i < length bs → flat (slice_set bs i b) ≡ flat (take i bs) ++ (b ++ flat (drop (suc i) bs))
flat_set [] i c h = absurd (omega arith)
flat_set (b ∷ bs) zero c h = refl
flat_set (b ∷ bs) (suc i) c h = ap (λ xs. b ++ xs) (flat_set bs i c (omega arith)) ∙ sym (append_assoc b (flat (take i bs)) (c ++ flat (drop (suc i) bs)))

pub sized_set : {X : Type 0} (bs : List (List X)) (i : ℕ) (b : List X) → AreSized bs → is_sized b ≡ true → AreSized (slice_set bs i b)
sized_set [] i c sized h = refl
sized_set (b ∷ bs) zero c sized h = rw (h, (and_parts (is_sized b) (list_all is_sized bs) sized).1) refl
sized_set (b ∷ bs) (suc i) c sized h =
    let parts = and_parts (is_sized b) (list_all is_sized bs) sized in
    rw (parts.0, sized_set bs i c parts.1 h) refl

-- two blocks in place of one
two_flat : {X : Type 0} (bs : List (List X)) (i : ℕ) (b c : List X) → i < length bs → flat (insert (slice_set bs i b) (suc i) c) ≡ flat (take i bs) ++ ((b ++ c) ++ flat (drop (suc i) bs))
two_flat [] i c e h = absurd (omega arith)
two_flat (b ∷ bs) zero c e h = sym (append_assoc c e (flat bs))
two_flat (b ∷ bs) (suc i) c e h = ap (λ xs. b ++ xs) (two_flat bs i c e (omega arith)) ∙ sym (append_assoc b (flat (take i bs)) ((c ++ e) ++ flat (drop (suc i) bs)))

two_sized : {X : Type 0} (bs : List (List X)) (i : ℕ) (b c : List X) → i < length bs → AreSized bs → is_sized b ≡ true → is_sized c ≡ true → AreSized (insert (slice_set bs i b) (suc i) c)
two_sized [] i c e h sized k l = absurd (omega arith)
two_sized (b ∷ bs) zero c e h sized k l = rw (k, l, (and_parts (is_sized b) (list_all is_sized bs) sized).1) refl
two_sized (b ∷ bs) (suc i) c e h sized k l =
    let parts = and_parts (is_sized b) (list_all is_sized bs) sized in
    rw (parts.0, two_sized bs i c e (omega arith) parts.1 k l) refl

pub flat_two : {X : Type 0} (bs : List (List X)) (i n : ℕ) (b c : List X) → i < length bs → n ≡ suc i → flat (insert (slice_set bs i b) n c) ≡ flat (take i bs) ++ ((b ++ c) ++ flat (drop (suc i) bs))
flat_two bs i n b c h e = rw e (two_flat bs i b c h)

pub sized_two : {X : Type 0} (bs : List (List X)) (i n : ℕ) (b c : List X) → i < length bs → n ≡ suc i → AreSized bs → is_sized b ≡ true → is_sized c ≡ true → AreSized (insert (slice_set bs i b) n c)
sized_two bs i n b c h e sized k l = rw e (two_sized bs i b c h sized k l)

-- without a block
pub flat_without : {X : Type 0} (bs : List (List X)) (i : ℕ) → i < length bs → flat (remove bs i) ≡ flat (take i bs) ++ flat (drop (suc i) bs)
flat_without [] i h = absurd (omega arith)
flat_without (b ∷ bs) zero h = refl
flat_without (b ∷ bs) (suc i) h = ap (λ xs. b ++ xs) (flat_without bs i (omega arith)) ∙ sym (append_assoc b (flat (take i bs)) (flat (drop (suc i) bs)))

pub sized_without : {X : Type 0} (bs : List (List X)) (i : ℕ) → i < length bs → AreSized bs → AreSized (remove bs i)
sized_without [] i h sized = absurd (omega arith)
sized_without (b ∷ bs) zero h sized = (and_parts (is_sized b) (list_all is_sized bs) sized).1
sized_without (b ∷ bs) (suc i) h sized =
    let parts = and_parts (is_sized b) (list_all is_sized bs) sized in
    rw (parts.0, sized_without bs i (omega arith) parts.1) refl

-- an edit of the list is an edit of a block

pub insert_is : {X : Type 0} (bs : List (List X)) (i j : ℕ) (x : X) → i < length bs → j ≤ length (block_at bs i) → insert (flat bs) (start_of bs i + j) x ≡ flat (take i bs) ++ (insert (block_at bs i) j x ++ flat (drop (suc i) bs))
insert_is bs i j x h k =
    let back : start_of bs i + j - start_of bs i ≡ j = omega arith in
    rw (flat_split bs i h) (
    insert-append_right (flat (take i bs)) (block_at bs i ++ flat (drop (suc i) bs)) (start_of bs i) (start_of bs i + j) x refl (omega arith)
    ∙ ap (λ n. flat (take i bs) ++ insert (block_at bs i ++ flat (drop (suc i) bs)) n x) back
    ∙ ap (λ ys. flat (take i bs) ++ ys) (insert-append_left (block_at bs i) (flat (drop (suc i) bs)) j x k))

pub remove_is : {X : Type 0} (bs : List (List X)) (i j : ℕ) → i < length bs → j < length (block_at bs i) → remove (flat bs) (start_of bs i + j) ≡ flat (take i bs) ++ (remove (block_at bs i) j ++ flat (drop (suc i) bs))
remove_is bs i j h k =
    let back : start_of bs i + j - start_of bs i ≡ j = omega arith in
    rw (flat_split bs i h) (
    remove-append_right (flat (take i bs)) (block_at bs i ++ flat (drop (suc i) bs)) (start_of bs i) (start_of bs i + j) refl (omega arith)
    ∙ ap (λ n. flat (take i bs) ++ remove (block_at bs i ++ flat (drop (suc i) bs)) n) back
    ∙ ap (λ ys. flat (take i bs) ++ ys) (remove-append_left (block_at bs i) (flat (drop (suc i) bs)) j k))

pub set_is : {X : Type 0} (bs : List (List X)) (i j : ℕ) (x : X) → i < length bs → j < length (block_at bs i) → slice_set (flat bs) (start_of bs i + j) x ≡ flat (take i bs) ++ (slice_set (block_at bs i) j x ++ flat (drop (suc i) bs))
set_is bs i j x h k =
    let back : start_of bs i + j - start_of bs i ≡ j = omega arith in
    rw (flat_split bs i h) (
    set-append_right (flat (take i bs)) (block_at bs i ++ flat (drop (suc i) bs)) (start_of bs i) (start_of bs i + j) x refl (omega arith)
    ∙ ap (λ n. flat (take i bs) ++ slice_set (block_at bs i ++ flat (drop (suc i) bs)) n x) back
    ∙ ap (λ ys. flat (take i bs) ++ ys) (set-append_left (block_at bs i) (flat (drop (suc i) bs)) j x k))

get_behind : {Y : Type 0} (xs ys : List Y) (m n : ℕ) → m ≡ length xs + n → slice_get (xs ++ ys) m ≡ slice_get ys n
get_behind [] ys m n h = let e : m ≡ n = omega arith in ap (slice_get ys) e
get_behind (x ∷ xs) ys zero n h = absurd (omega arith)
get_behind (x ∷ xs) ys (suc m) n h = get_behind xs ys m n (omega arith)

get_front : {Y : Type 0} (xs ys : List Y) (n : ℕ) → n < length xs → slice_get (xs ++ ys) n ≡ slice_get xs n
get_front [] ys n h = absurd (omega arith)
get_front (x ∷ xs) ys zero h = refl
get_front (x ∷ xs) ys (suc n) h = get_front xs ys n (omega arith)

pub get_is : {X : Type 0} (bs : List (List X)) (i j : ℕ) → i < length bs → j < length (block_at bs i) → slice_get (flat bs) (start_of bs i + j) ≡ slice_get (block_at bs i) j
get_is bs i j h k = rw (flat_split bs i h) (get_behind (flat (take i bs)) (block_at bs i ++ flat (drop (suc i) bs)) (start_of bs i + j) j refl ∙ get_front (block_at bs i) (flat (drop (suc i) bs)) j k)
