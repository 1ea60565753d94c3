-- Edits of one block, as edits of the list.
use Rattle.std.proofs.Common.{subst, ◌≡◌, ℕ, ◌<◌, ◌≤◌, ◌+◌, ◌-◌, List, [], ◌∷◌, ◌++◌, refl, ap, sym, ◌∙◌, arith, length, take, drop, zero, suc, true, Some, insert, remove}
use Rattle.std.specs.Prelude.{slice_index_or, slice_set, slice_get}
use Rattle.std.proofs.lemmas.Bool.Decides.{nat_tests}
use Rattle.std.proofs.lemmas.List.{get_or_read, length-set, set-get_or, take_rest, take_at, drop_at, drop-drop, drop-append-le}
use Rattle.std.proofs.lemmas.Option.{slice_get_read}
use Rattle.std.proofs.lemmas.List.Edits.{length-insert, length-remove}
use Rattle.rv_blocks.specs.Flat.{flat, is_sized, AreSized, block_at, start_of}
use Rattle.rv_blocks.proofs.Flats.{flat_set, flat_two, sized_two, flat_without, flat_split, insert_is, remove_is, set_is, get_is, sized_set, sized_at}

-- what was read is the block
pub read_is : {X : Type 0} (bs : List (List X)) (i : ℕ) (b : List X) → i < length bs → b ≡ slice_index_or bs i b → b ≡ block_at bs i
read_is bs i b h e = get_or_read bs i b h e []

is_sized_by : {X : Type 0} (b : List X) → 0 < length b → length b ≤ 128 → is_sized b ≡ true
is_sized_by b h k = grind (arith, nat_tests)

pub inserted : {X : Type 0} (bs : List (List X)) (i j : ℕ) (x : X) (b c : List X) → i < length bs → b ≡ slice_index_or bs i b → j ≤ length (block_at bs i) → c ≡ insert b j x → flat (slice_set bs i c) ≡ insert (flat bs) (start_of bs i + j) x
inserted bs i j x b c h e k f =
    let is = read_is bs i b h e in
    rw (flat_set bs i c h, insert_is bs i j x h k, f, is) refl

pub inserted_sized : {X : Type 0} (bs : List (List X)) (i j : ℕ) (x : X) (b c : List X) → AreSized bs → i < length bs → b ≡ slice_index_or bs i b → j ≤ length (block_at bs i) → length (block_at bs i) < 128 → c ≡ insert b j x → AreSized (slice_set bs i c)
inserted_sized bs i j x b c sized h e k room f =
    let is = read_is bs i b h e in
    let len = ap length is in
    let more = length-insert b j x (omega arith) in
    let here = ap length f in
    sized_set bs i c sized (is_sized_by c (omega arith) (omega arith))

pub removed : {X : Type 0} (bs : List (List X)) (i j : ℕ) (b c : List X) → i < length bs → b ≡ slice_index_or bs i b → j < length (block_at bs i) → c ≡ remove b j → flat (slice_set bs i c) ≡ remove (flat bs) (start_of bs i + j)
removed bs i j b c h e k f =
    let is = read_is bs i b h e in
    rw (flat_set bs i c h, remove_is bs i j h k, f, is) refl

pub removed_sized : {X : Type 0} (bs : List (List X)) (i j : ℕ) (b c : List X) → AreSized bs → i < length bs → b ≡ slice_index_or bs i b → j < length (block_at bs i) → 1 < length (block_at bs i) → c ≡ remove b j → AreSized (slice_set bs i c)
removed_sized bs i j b c sized h e k more f =
    let is = read_is bs i b h e in
    let len = ap length is in
    let less = length-remove b j (omega arith) in
    let here = ap length f in
    let most = (sized_at bs i sized h).1 in
    sized_set bs i c sized (is_sized_by c (omega arith) (omega arith))

pub replaced : {X : Type 0} (bs : List (List X)) (i j : ℕ) (x : X) (b c : List X) → i < length bs → b ≡ slice_index_or bs i b → j < length (block_at bs i) → c ≡ slice_set b j x → flat (slice_set bs i c) ≡ slice_set (flat bs) (start_of bs i + j) x
replaced bs i j x b c h e k f =
    let is = read_is bs i b h e in
    rw (flat_set bs i c h, set_is bs i j x h k, f, is) refl

pub replaced_sized : {X : Type 0} (bs : List (List X)) (i j : ℕ) (x : X) (b c : List X) → AreSized bs → i < length bs → b ≡ slice_index_or bs i b → c ≡ slice_set b j x → AreSized (slice_set bs i c)
replaced_sized bs i j x b c sized h e f =
    let is = read_is bs i b h e in
    let len = ap length is in
    let same = length-set b j x in
    let here = ap length f in
    let two = sized_at bs i sized h in
    let least = two.0 in
    let most = two.1 in
    sized_set bs i c sized (is_sized_by c (omega arith) (omega arith))

pub got : {X : Type 0} (bs : List (List X)) (i j : ℕ) (x : X) (b : List X) → i < length bs → b ≡ slice_index_or bs i b → j < length (block_at bs i) → slice_get b j ≡ Some x → slice_get (flat bs) (start_of bs i + j) ≡ Some x
got bs i j x b h e k f =
    let is = read_is bs i b h e in
    get_is bs i j h k ∙ ap (λ c. slice_get c j) (sym is) ∙ f

pub split_in : {X : Type 0} (bs : List (List X)) (i j n : ℕ) (x : X) (a b c : List X) → i < length bs → a ≡ slice_index_or bs i a → j ≤ length (block_at bs i) → n ≡ suc i → b ++ c ≡ insert a j x → flat (insert (slice_set bs i b) n c) ≡ insert (flat bs) (start_of bs i + j) x
split_in bs i j n x a b c h e k s f =
    let is = read_is bs i a h e in
    rw (flat_two bs i n b c h s, insert_is bs i j x h k, f, is) refl

-- an item behind the last one of a block, in a block of its own
at_end : {X : Type 0} (xs : List X) (j : ℕ) (x : X) → j ≡ length xs → xs ++ x ∷ [] ≡ insert xs j x
at_end [] zero x h = refl
at_end [] (suc j) x h = absurd (omega arith)
at_end (y ∷ ys) zero x h = absurd (omega arith)
at_end (y ∷ ys) (suc j) x h = ap (λ zs. y ∷ zs) (at_end ys j x (omega arith))

pub behind : {X : Type 0} (bs : List (List X)) (i j n : ℕ) (x : X) → i < length bs → j ≡ length (block_at bs i) → n ≡ suc i → flat (insert bs n (x ∷ [])) ≡ insert (flat bs) (start_of bs i + j) x
behind bs i j n x h k s =
    ap (λ cs. flat (insert cs n (x ∷ []))) (sym (set-get_or bs i []))
    ∙ (rw (flat_two bs i n (block_at bs i) (x ∷ []) h s, insert_is bs i j x h (omega arith), at_end (block_at bs i) j x k) refl)

pub behind_sized : {X : Type 0} (bs : List (List X)) (i n : ℕ) (x : X) → i < length bs → n ≡ suc i → AreSized bs → AreSized (insert bs n (x ∷ []))
behind_sized bs i n x h s sized =
    let here = sized_at bs i sized h in
    subst (λ cs. AreSized (insert cs n (x ∷ []))) (set-get_or bs i []) (sized_two bs i n (block_at bs i) (x ∷ []) h s sized (is_sized_by (block_at bs i) here.0 here.1) refl)

-- a block of one item goes
one_left : {X : Type 0} (b : List X) (j : ℕ) → length b ≡ 1 → j < length b → remove b j ≡ []
one_left [] j one h = absurd (omega arith)
one_left (x ∷ []) zero one h = refl
one_left (x ∷ []) (suc j) one h = absurd (omega arith)
one_left (x ∷ y ∷ ys) j one h = absurd (omega arith)

pub emptied : {X : Type 0} (bs : List (List X)) (i j : ℕ) → i < length bs → j < length (block_at bs i) → length (block_at bs i) ≡ 1 → flat (remove bs i) ≡ remove (flat bs) (start_of bs i + j)
emptied bs i j h k one = rw (flat_without bs i h, remove_is bs i j h k, one_left (block_at bs i) j one k) refl

-- the first block is set, and then another put in behind it
pub set_insert : {X : Type 0} (xs : List X) (i n : ℕ) (x y : X) → i < length xs → n ≡ suc i → slice_set (insert xs n y) i x ≡ insert (slice_set xs i x) n y
set_insert xs i n x y h e = rw e (set_first xs i x y h)
  where
    set_first : {Y : Type 0} (zs : List Y) (k : ℕ) (z w : Y) → k < length zs → slice_set (insert zs (suc k) w) k z ≡ insert (slice_set zs k z) (suc k) w
    set_first [] k z w l = absurd (omega arith)
    set_first (v ∷ zs) zero z w l = refl
    set_first (v ∷ zs) (suc k) z w l = ap (λ us. v ∷ us) (set_first zs k z w (omega arith))

-- an item that was read from a block, and its copy
pub got_copy : {X : Type 0} (bs : List (List X)) (i j : ℕ) (x y : X) (b c : List X) → i < length bs → b ≡ slice_index_or bs i b → j < length (block_at bs i) → c ≡ b → x ≡ slice_index_or c j x → y ≡ x → slice_get (flat bs) (start_of bs i + j) ≡ Some y
got_copy bs i j x y b c h e k f r s =
    let is = read_is bs i b h e in
    let len = ap length (f ∙ is) in
    got bs i j y b h e k (ap (λ d. slice_get d j) (sym f) ∙ slice_get_read c (length c) j x refl (omega arith) r ∙ ap Some (sym s))

-- where a block has an item there is the block
pub there_is : {X : Type 0} (bs : List (List X)) (i j : ℕ) → j < length (block_at bs i) → i < length bs
there_is [] i j h = absurd (omega arith)
there_is (b ∷ bs) zero j h = omega arith
there_is (b ∷ bs) (suc i) j h = let rest = there_is bs i j h in omega arith

pub piece_is : {X : Type 0} (bs : List (List X)) (i j r : ℕ) (b c : List X) → i < length bs → b ≡ slice_index_or bs i b → j < length (block_at bs i) → c ≡ b → start_of bs i + j ≡ r → take (length c - j) (drop j c) ≡ take (length (take (length c - j) (drop j c))) (drop r (flat bs))
piece_is bs i j r b c h e k f s =
    let is = f ∙ read_is bs i b h e in
    let len = ap length is in
    let rest : take (length c - j) (drop j c) ≡ drop j c = take_rest c j in
    let here : drop r (flat bs) ≡ drop j c ++ flat (drop (suc i) bs) =
    ap (λ n. drop n (flat bs)) (sym s)
    ∙ ap (drop (start_of bs i + j)) (flat_split bs i h)
    ∙ drop_behind (flat (take i bs)) (block_at bs i ++ flat (drop (suc i) bs)) j
    ∙ ap (λ d. drop j (d ++ flat (drop (suc i) bs))) (sym is)
    ∙ drop-append-le j c (flat (drop (suc i) bs)) (omega arith) in
    rw (rest, here) (sym (take_at (drop j c) (flat (drop (suc i) bs)) (length (drop j c)) refl))
  where
    drop_behind : {Y : Type 0} (xs ys : List Y) (n : ℕ) → drop (length xs + n) (xs ++ ys) ≡ drop n ys
    drop_behind xs ys n = sym (drop-drop n (length xs) (xs ++ ys)) ∙ ap (drop n) (drop_at xs ys (length xs) refl)
