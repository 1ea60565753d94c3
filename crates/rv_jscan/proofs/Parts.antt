-- Entries of different rows, and their parts.
use Rattle.std.proofs.Common.{◌≡◌, ℕ, List, [], ◌∷◌, ◌++◌, filter, Bool, true, false, not, cond, ◌||◌, refl, arith, subst, nat_eq, Option, Some, None}
use Rattle.std.proofs.lemmas.Bool.Decides.{nat_tests}
use Rattle.std.proofs.lemmas.List.Folds.{list_any-append}
use Rattle.rv_value.specs.declared.record.IndexEntry.{IndexEntry}
use Rattle.rv_value.specs.declared.range.Range.{Range}
use Rattle.rv_reader.specs.declared.reader.Chunk.{Chunk}
use Rattle.rv_reader.specs.Entries.{comes_before, is_in}
use Rattle.rv_reader.specs.Leaves.{IsChunk, run_from, run_after, from_on}
use Rattle.rv_reader.specs.Storing.{AreKeys}
use Rattle.rv_reader.proofs.Sorting.{keys_filter}
use Rattle.rv_jscan.specs.Entries.{has_entry, Apart, Disjoint}

pub has_append : (n : ℕ) (xs ys : List IndexEntry) → has_entry n (xs ++ ys) ≡ (has_entry n xs || has_entry n ys)
has_append n xs ys = list_any-append (λ (e : IndexEntry). nat_eq n e.row.0) xs ys

pub has_filter : (n : ℕ) (p : IndexEntry → Bool) (xs : List IndexEntry) → has_entry n xs ≡ false → has_entry n (filter p xs) ≡ false
has_filter n p [] h = refl
has_filter n p (x ∷ xs) h =
    let tail : has_entry n xs ≡ false = grind arith in
    let here : nat_eq n x.row.0 ≡ false = grind arith in
    elim (p x) as (λ b. has_entry n (cond b (x ∷ filter p xs) (filter p xs)) ≡ false) [
      | true ↦ grind (arith, here, has_filter n p xs tail)
      | false ↦ has_filter n p xs tail
    ]

pub Apart-filter : (p : IndexEntry → Bool) (xs : List IndexEntry) → Apart xs → Apart (filter p xs)
Apart-filter p [] a = tt
Apart-filter p (x ∷ xs) a =
    elim (p x) as (λ b. Apart (cond b (x ∷ filter p xs) (filter p xs))) [
      | true ↦ (has_filter x.row.0 p xs a.0, Apart-filter p xs a.1)
      | false ↦ Apart-filter p xs a.1
    ]

pub Apart-left : (xs ys : List IndexEntry) → Apart (xs ++ ys) → Apart xs
Apart-left [] ys a = tt
Apart-left (x ∷ xs) ys a = (grind (arith, has_append x.row.0 xs ys, a.0), Apart-left xs ys a.1)

pub Apart-right : (xs ys : List IndexEntry) → Apart (xs ++ ys) → Apart ys
Apart-right [] ys a = a
Apart-right (x ∷ xs) ys a = Apart-right xs ys a.1

pub Apart-cross : (n : ℕ) (xs ys : List IndexEntry) → Apart (xs ++ ys) → has_entry n xs ≡ true → has_entry n ys ≡ false
Apart-cross n [] ys a h = absurd (cc)
Apart-cross n (x ∷ xs) ys a h = grind (arith, nat_tests, has_append x.row.0 xs ys, a.0, Apart-cross n xs ys a.1)

pub Disjoint-left : (keys : List ℕ) (xs ys : List IndexEntry) → Disjoint keys (xs ++ ys) → Disjoint keys xs
Disjoint-left keys xs ys d n = grind (arith, has_append n xs ys, d n)

pub Apart-run : (entries : List IndexEntry) (range : Range) (start : Option IndexEntry) → Apart entries → Apart (run_from entries range start)
Apart-run entries range None a = Apart-filter (is_in range) entries a
Apart-run entries range (Some s) a = Apart-filter (is_in range) (from_on (Some s) entries) (Apart-filter (λ (e : IndexEntry). not (comes_before e s)) entries a)

pub chunk_apart : (entries cuts : List IndexEntry) (range : Range) (start : Option IndexEntry) (chunk : Chunk) → IsChunk entries cuts range start chunk → Apart entries → Apart chunk.entries
chunk_apart entries cuts range start chunk d a = Apart-left chunk.entries (run_after entries range chunk.next) (subst Apart d.parts (Apart-run entries range start a))

pub chunk_fresh : (entries cuts : List IndexEntry) (range : Range) (start : Option IndexEntry) (chunk : Chunk) (keys : List ℕ) → IsChunk entries cuts range start chunk → Disjoint keys (run_from entries range start) → Disjoint keys chunk.entries
chunk_fresh entries cuts range start chunk keys d f = Disjoint-left keys chunk.entries (run_after entries range chunk.next) (subst (Disjoint keys) d.parts f)

-- keys have as many values in each part
AreKeys-left : (columns : ℕ) (xs ys : List IndexEntry) → AreKeys columns (xs ++ ys) → AreKeys columns xs
AreKeys-left columns [] ys a = tt
AreKeys-left columns (x ∷ xs) ys a = (a.0, AreKeys-left columns xs ys a.1)

AreKeys-run : (columns : ℕ) (entries : List IndexEntry) (range : Range) (start : Option IndexEntry) → AreKeys columns entries → AreKeys columns (run_from entries range start)
AreKeys-run columns entries range None a = keys_filter columns (is_in range) entries a
AreKeys-run columns entries range (Some s) a = keys_filter columns (is_in range) (from_on (Some s) entries) (keys_filter columns (λ (e : IndexEntry). not (comes_before e s)) entries a)

pub chunk_keys : (columns : ℕ) (entries cuts : List IndexEntry) (range : Range) (start : Option IndexEntry) (chunk : Chunk) → IsChunk entries cuts range start chunk → AreKeys columns entries → AreKeys columns chunk.entries
chunk_keys columns entries cuts range start chunk d a = AreKeys-left columns chunk.entries (run_after entries range chunk.next) (subst (AreKeys columns) d.parts (AreKeys-run columns entries range start a))
