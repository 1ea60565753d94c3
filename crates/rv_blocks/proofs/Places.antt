-- What std's word for an order gives.
use Rattle.std.proofs.Common.{inl, inr, ◌≡◌, Bool, true, false}
use Rattle.std.proofs.lemmas.Bool.{cases_Bool}
use Rattle.std.specs.Cmp.{IsStrictWeakOrder}
use Rattle.rv_rows.proofs.Puts.{IsChain}

pub chain_of : {X : Type 0} (before : X → X → Bool) → IsStrictWeakOrder before → IsChain before
chain_of before weak = record {
  one_way = weak.one_way;
  follows = λ x y z h k. elim (cases_Bool (before x z)) [
    | inl t ↦ t
    | inr f ↦ let no : before x y ≡ false = weak.chain x z y f (weak.one_way y z k) in cc
  ];
}

-- what comes after one of two items in one place comes after the other
pub alike : {X : Type 0} (before : X → X → Bool) → IsStrictWeakOrder before → (x y z : X) → before x y ≡ false → before y x ≡ false → before x z ≡ true → before y z ≡ true
alike before weak x y z h k l = elim (cases_Bool (before y z)) [
  | inl t ↦ t
  | inr f ↦ let no : before x z ≡ false = weak.chain x y z h f in cc
]
