-- A statement's answer or its first refusal: steps from the left, of which the first that refuses decides.
use Rattle.std.specs.Prelude.{◌≡◌, ◌++◌, List, [], ◌∷◌, ℕ, Bool, true, false, Option, Some, None, Result, Ok, Err}
use Rattle.rv_lang.specs.declared.reply.Refusal.{Refusal}
use Rattle.rv_catalog.specs.declared.def.BindFault.{BindFault}
use Rattle.rv_catalog.specs.declared.def.BindFault.TheVariants.{Refused, NoMemory}

infixl 10 ◌>>=◌
-- a step, and then another with what it gave; a refusal ends the chain
abbrev pub ◌>>=◌ : {A B : Type 0} → Result A Refusal → (A → Result B Refusal) → Result B Refusal
◌>>=◌ (Ok a) f = f a
◌>>=◌ (Err e) f = Err e

-- the refusal, where the test is true
abbrev pub refuse_if : Bool → Refusal → Result (Unit {0}) Refusal
refuse_if true r = Err r
refuse_if false r = Ok tt

abbrev pub refuse_some : Option (List ℕ) → (List ℕ → Refusal) → Result (Unit {0}) Refusal
refuse_some None r = Ok tt
refuse_some (Some name) r = Err (r name)

-- what is there, or else the refusal
abbrev pub ok_or : {A : Type 0} → Option A → Refusal → Result A Refusal
ok_or (Some a) r = Ok a
ok_or None r = Err r

-- the answers for all items behind those that are done, or the first refusal
abbrev pub collected : {A B : Type 0} → (A → Result B Refusal) → List B → List A → Result (List B) Refusal
collected f done [] = Ok done
collected f done (x ∷ xs) = do
  y ← f x
  collected f (done ++ y ∷ []) xs

-- every item passes, or the first refusal
abbrev pub all_pass : {A : Type 0}
    → (A → Result (Unit {0}) Refusal) → List A → Result (Unit {0}) Refusal
all_pass f [] = Ok tt
all_pass f (x ∷ xs) = do
  passed ← f x
  all_pass f xs

-- The code's result is what is wanted. Want of memory is free.

abbrev pub Gives : {A : Type 0} → Result A BindFault → Result A Refusal → Type 0
Gives (Ok a) want = want ≡ Ok a
Gives (Err (Refused r)) want = want ≡ Err r
Gives (Err NoMemory) want = Unit {0}

-- the same, where the code's value stands for another
abbrev pub GivesAs : {A B : Type 0} → (A → B) → Result A BindFault → Result B Refusal → Type 0
GivesAs view (Ok a) want = want ≡ Ok (view a)
GivesAs view (Err (Refused r)) want = want ≡ Err r
GivesAs view (Err NoMemory) want = Unit {0}

abbrev pub Says : BindFault → Refusal → Type 0
Says (Refused r) want = r ≡ want
Says NoMemory want = Unit {0}
