-- Offers that are kept as they come, the first one last.
use Rattle.std.proofs.Common.{◌≡◌, List, [], ◌∷◌, ◌++◌, length, reverse, Option, Some, None, IsSome, option_to_list, ap, ◌∙◌, arith, refl, subst, sym}
use Rattle.std.specs.List.Sorted.{IsPermutation, IsSortedBy}
use Rattle.std.proofs.lemmas.List.{reverse-append, reverse-reverse}
use Rattle.std.proofs.lemmas.List.Sorted.{IsPermutation-reverse, IsPermutation-trans}
use Rattle.rv_value.proofs.Tests.{no_other}
use Rattle.rv_model.specs.declared.state.Offer.{Offer}
use Rattle.rv_join.specs.Order.{before}
use Rattle.rv_join.specs.Plans.{Taken}
use Rattle.rv_join.proofs.Planning.{reversed}

-- Keeping.

pub first_kept : (had has : List Offer) (o : Offer) → has ≡ had ++ o ∷ [] → reverse has ≡ o ∷ reverse had
first_kept had has o is = ap reverse is ∙ reverse-append had (o ∷ [])

-- put to those that were gathered
pub first_more : (items held : List Offer) (o : Offer) (had has : List Offer) → held ≡ items → reverse items ≡ had → has ≡ o ∷ reverse held → has ≡ o ∷ had
first_more items held o had has same value is = is ∙ ap (λ (os : List Offer). o ∷ os) (ap reverse same ∙ value)

-- Sorting.

pub sorted_same : (old mid new : List Offer) → IsPermutation old mid → new ≡ reverse mid → IsPermutation (reverse old) (reverse new)
sorted_same old mid new moved turned = reversed old new (rw turned (IsPermutation-trans _ _ _ moved (IsPermutation-reverse mid)))

pub sorted_turned : (mid new : List Offer) → IsSortedBy before mid → new ≡ reverse mid → IsSortedBy before (reverse new)
sorted_turned mid new up turned = subst (IsSortedBy before) (sym (ap reverse turned ∙ reverse-reverse mid)) up

-- Taking.

pub none_taken : (offers : List Offer) → length offers ≡ 0 → reverse offers ≡ []
none_taken [] none = refl
none_taken (o ∷ os) none = absurd (omega (arith, none))

pub one_taken : (r : Option Offer) (old new : List Offer) → old ≡ new ++ option_to_list r → IsSome r → Taken r (reverse old) (reverse new)
one_taken (Some o) old new is some = ap reverse is ∙ reverse-append new (o ∷ [])
one_taken None old new is some = no_other some
