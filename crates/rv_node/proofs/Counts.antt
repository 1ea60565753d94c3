-- A tree whose nodes are all different has fewer cuts than there are numbers for its nodes.
use Rattle.std.proofs.Common.{ℕ, zero, suc, ◌+◌, ◌<◌, ◌≤◌, ◌≡◌, List, [], ◌∷◌, ◌++◌, length, inl, inr, refl, ap, arith, length-append}
use Rattle.std.specs.Prelude.{flat_map}
use Rattle.std.proofs.lemmas.Bool.{cases_eq, cases_lt, eq-eqb, ne_eqb}
use Rattle.rv_value.specs.declared.record.IndexEntry.{IndexEntry}
use Rattle.rv_node.specs.Nodes.{Parts}
use Rattle.rv_node.specs.Trees.{cuts_in, cuts_under}
use Rattle.rv_node.specs.Stored.{kids_at, tree_at, EachOf, IsStored, uses, uses_by, same_id}
use Rattle.rv_node.proofs.Storing.{uses_self}

abbrev total : (ℕ → ℕ) → ℕ → ℕ
total f zero = 0
total f (suc n) = f n + total f n

total-add : (f g : ℕ → ℕ) (len : ℕ) → total (λ n. f n + g n) len ≡ total f len + total g len
total-add f g zero = refl
total-add f g (suc n) = let more = total-add f g n in omega arith

total-most : (f : ℕ → ℕ) (len : ℕ) → ((n : ℕ) → f n ≤ 1) → total f len ≤ len
total-most f zero one = omega arith
total-most f (suc n) one = let more = total-most f n one in let here = one n in omega arith

total-self : (id len : ℕ) → id < len → 1 ≤ total (same_id id) len
total-self id zero l = absurd (omega arith)
total-self id (suc n) l = elim (cases_eq id n) [
  | inl e ↦ rw (eq-eqb id n e) (omega arith)
  | inr ne ↦ let more = total-self id n (omega arith) in rw (ne_eqb id n ne) (omega arith)
]

total-zero : (len : ℕ) → total (λ n. 0) len ≡ 0
total-zero zero = refl
total-zero (suc n) = let more = total-zero n in omega arith

-- each child has fewer cuts than nodes, so have all
kids_few : (cuts : ℕ → List IndexEntry) (u : ℕ → ℕ → ℕ) (len id : ℕ) (lows : List IndexEntry) (ids : List ℕ) → length lows ≡ length ids → length (cuts id) + 1 ≤ total (u id) len → EachOf (λ x. length (cuts x) + 1 ≤ total (u x) len) ids
    → length (cuts id ++ flat_map (λ k. k.0 ∷ k.1) (kids_at cuts lows ids)) + 1 ≤ total (u id) len + total (λ n. uses_by (λ x. u x n) ids) len
kids_few cuts u len id [] [] same here each = let z = total-zero len in let l = length-append (cuts id) [] in omega arith
kids_few cuts u len id [] (x ∷ xs) same here each = absurd (omega arith)
kids_few cuts u len id (low ∷ lows) [] same here each = absurd (omega arith)
kids_few cuts u len id (low ∷ lows) (x ∷ xs) same here each =
    let more = kids_few cuts u len x lows xs (omega arith) each.0 each.1 in
    let l = length-append (cuts id) (low ∷ cuts x ++ flat_map (λ k. k.0 ∷ k.1) (kids_at cuts lows xs)) in
    let a = total-add (u x) (λ n. uses_by (λ x. u x n) xs) len in
    omega arith

-- the cuts of children by their ids
cuts_at : {T : Type 0} (cuts : T → List IndexEntry) (h : ℕ → T) (lows : List IndexEntry) (ids : List ℕ) → flat_map (λ k. k.0 ∷ cuts k.1) (kids_at h lows ids) ≡ flat_map (λ k. k.0 ∷ k.1) (kids_at (λ x. cuts (h x)) lows ids)
cuts_at cuts h [] ids = refl
cuts_at cuts h (low ∷ lows) [] = refl
cuts_at cuts h (low ∷ lows) (id ∷ ids) = ap (λ zs. (low ∷ cuts (h id)) ++ zs) (cuts_at cuts h lows ids)

all_few : (level : ℕ) (at : ℕ → Parts) (len : ℕ) (lows : List IndexEntry) (ids : List ℕ) → length lows ≡ length ids → 0 < length ids → EachOf (λ x. length (cuts_in level (tree_at at level x)) + 1 ≤ total (uses at level x) len) ids
    → length (cuts_under (cuts_in level) (kids_at (tree_at at level) lows ids)) + 1 ≤ total (λ n. uses_by (λ x. uses at level x n) ids) len
all_few level at len [] [] same some each = absurd (omega arith)
all_few level at len [] (x ∷ xs) same some each = absurd (omega arith)
all_few level at len (low ∷ lows) [] same some each = absurd (omega arith)
all_few level at len (low ∷ lows) (x ∷ xs) same some each =
    let few = kids_few (λ y. cuts_in level (tree_at at level y)) (uses at level) len x lows xs (omega arith) each.0 each.1 in
    let a = total-add (uses at level x) (λ n. uses_by (λ y. uses at level y n) xs) len in
    rw (cuts_at (cuts_in level) (tree_at at level) lows xs) (omega arith)

each_few : (level : ℕ) (at : ℕ → Parts) (len : ℕ) → ((id : ℕ) → IsStored at level id → ((n : ℕ) → len ≤ n → uses at level id n ≡ 0) → length (cuts_in level (tree_at at level id)) + 1 ≤ total (uses at level id) len)
    → (ids : List ℕ) → EachOf (IsStored at level) ids → ((n : ℕ) → len ≤ n → uses_by (λ x. uses at level x n) ids ≡ 0) → EachOf (λ x. length (cuts_in level (tree_at at level x)) + 1 ≤ total (uses at level x) len) ids
each_few level at len few [] stored used = tt
each_few level at len few (id ∷ ids) stored used = (few id stored.0 (λ n l. let u = used n l in omega arith), each_few level at len few ids stored.1 (λ n l. let u = used n l in omega arith))

few_in : (at : ℕ → Parts) (len level id : ℕ) → IsStored at level id → ((n : ℕ) → len ≤ n → uses at level id n ≡ 0) → length (cuts_in level (tree_at at level id)) + 1 ≤ total (uses at level id) len
few_in at len zero id stored used = elim (cases_lt id len) [
  | inl below ↦ total-self id len below
  | inr past ↦ let none = used id past in let self = uses_self at zero id in absurd (omega arith)
]
few_in at len (suc level) id stored used =
    let each = each_few level at len (few_in at len level) (at id).children stored.4 (λ n l. let u = used n l in omega arith) in
    let all = all_few level at len (at id).entries (at id).children stored.1 stored.2 each in
    let a = total-add (same_id id) (λ n. uses_by (λ x. uses at level x n) (at id).children) len in
    omega arith

pub cuts_few : (at : ℕ → Parts) (len level id : ℕ) → IsStored at level id → ((n : ℕ) → uses at level id n ≤ 1) → ((n : ℕ) → len ≤ n → uses at level id n ≡ 0) → length (cuts_in level (tree_at at level id)) < len
cuts_few at len level id stored once used =
    let few = few_in at len level id stored used in
    let most = total-most (uses at level id) len once in
    omega arith
