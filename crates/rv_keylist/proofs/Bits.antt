-- The bits of keys: one key more, and keys in another order.
use Rattle.std.proofs.Common.{◌≡◌, ℕ, ◌+◌, ◌<◌, ◌++◌, ◌∷◌, [], ◌||◌, ◌==◌, List, length, take, nat_eq, nat_le, Bool, true, false, slice_index_or, refl, sym, ap, ◌∙◌, inl, inr, IsPermutation, IfSome, Option, Some}
use Rattle.std.proofs.lemmas.Bool.{cond_both, or_cases, or_left, or_right, eq-eqb, eqb-true}
use Rattle.std.proofs.lemmas.List.Folds.{list_any-append, list_any_more}
use Rattle.std.proofs.lemmas.List.Sorted.{list_any-IsPermutation}
use Rattle.std.proofs.Math.Bool.{or-false}
use Rattle.rv_keylist.specs.Bits.{bit_of, is_set, holds, SetsBit}
use Rattle.rv_keylist.specs.Keys.{has_key}
use Rattle.rv_keylist.specs.Marks.{has_bit, may_key, Marks}
use Rattle.rv_keylist.specs.Whole.{AddsBits}

or_assoc : (a b c : Bool) → ((a || b) || c) ≡ (a || (b || c))
or_assoc true b c = refl
or_assoc false b c = refl

pub AddsBits-none : (words : List ℕ) → AddsBits words words []
AddsBits-none words = record { bits = λ b. sym (or-false (is_set words b)) }

pub AddsBits-more :
    (old mid new keys : List ℕ) (i key : ℕ)
    → AddsBits old mid (take i keys) → SetsBit mid new (bit_of key) → i < length keys → slice_index_or keys i key ≡ key
    → AddsBits old new (take (i + 1) keys)
AddsBits-more old mid new keys i key adds sets within here = record {
  bits = λ b.
      let more : has_bit b (take (i + 1) keys) ≡ (has_bit b (take i keys) || (b == bit_of key))
      = list_any_more (λ k. b == bit_of k) keys i key within
      ∙ ap (λ (k : ℕ). has_bit b (take i keys) || (b == bit_of k)) here
      in sets.bits b ∙ ap (λ (x : Bool). x || (b == bit_of key)) (adds.bits b)
      ∙ or_assoc (is_set old b) (has_bit b (take i keys)) (b == bit_of key)
      ∙ ap (λ (x : Bool). is_set old b || x) (sym more);
}

pub Marks-from_empty :
    (old new keys : List ℕ) → ((b : ℕ) → is_set old b ≡ false) → AddsBits old new keys → Marks new keys
Marks-from_empty old new keys empty adds = record {
  bits = λ b. adds.bits b ∙ ap (λ (x : Bool). x || has_bit b keys) (empty b);
}

pub Marks-push : (old new keys : List ℕ) (key : ℕ) → Marks old keys → SetsBit old new (bit_of key) → Marks new (keys ++ key ∷ [])
Marks-push old new keys key marks sets = record {
  bits = λ b.
      let more : has_bit b (keys ++ key ∷ []) ≡ (has_bit b keys || (b == bit_of key))
      = list_any-append (λ k. b == bit_of k) keys (key ∷ [])
      ∙ ap (λ (x : Bool). has_bit b keys || x) (or-false (b == bit_of key))
      in sets.bits b ∙ ap (λ (x : Bool). x || (b == bit_of key)) (marks.bits b) ∙ sym more;
}

pub Marks-IsPermutation : (words xs ys : List ℕ) → IsPermutation xs ys → Marks words xs → Marks words ys
Marks-IsPermutation words xs ys moved marks = record {
  bits = λ b. marks.bits b ∙ list_any-IsPermutation (λ k. b == bit_of k) xs ys moved;
}

has_bit-of_key : (row : ℕ) (keys : List ℕ) → has_key row keys ≡ true → has_bit (bit_of row) keys ≡ true
has_bit-of_key row [] h = h
has_bit-of_key row (k ∷ keys) h = elim (or_cases (nat_eq row k) (has_key row keys) h) [
  | inl here ↦ or_left (bit_of row == bit_of k) (has_bit (bit_of row) keys) (eq-eqb (bit_of row) (bit_of k) (ap bit_of (eqb-true row k here)))
  | inr later ↦ or_right (bit_of row == bit_of k) (has_bit (bit_of row) keys) (has_bit-of_key row keys later)
]

pub may_key-never_denies : (row : ℕ) (keys : List ℕ) → has_key row keys ≡ true → may_key row keys ≡ true
may_key-never_denies row keys h =
    cond_both (nat_le (length keys) 1024) (has_key row keys) (has_bit (bit_of row) keys) (λ b. b ≡ true)
    (λ _. h) (λ _. has_bit-of_key row keys h)

pub filter_never_denies :
    (filter : Option (List ℕ)) (words keys : List ℕ) (row : ℕ) (answer : Bool)
    → filter ≡ Some words → IfSome filter (λ words. Marks words keys) → answer ≡ holds words row → has_key row keys ≡ true
    → answer ≡ true
filter_never_denies filter words keys row answer there marks says here =
    let marked : Marks words keys = rw there at marks in
    says ∙ marked.bits (bit_of row) ∙ has_bit-of_key row keys here
