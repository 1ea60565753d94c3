-- Reading a list, as a loop does.
use Rattle.std.proofs.Common.{◌≡◌, ℕ, suc, ◌-◌, ◌+◌, ◌<◌, List, [], ◌∷◌, ◌++◌, Some, None, refl, sym, ap, ◌∙◌, append_assoc, arith}
use Rattle.rv_lang.specs.declared.token.Token.{Token}
use Rattle.rv_parse.specs.declared.list.Separator.{Separator}
use Rattle.rv_parse.specs.declared.fault.ParseFault.{ParseFault}
use Rattle.rv_parse.specs.declared.fault.ParseFault.TheVariants as faults
use Rattle.rv_parse.specs.Reading.{◌>>=◌, Read, Fails, list_at, separator_at}

-- what was read before, and what is still read
abbrev pub with_front : {X : Type 0} → List X → Read (List X) → Read (List X)
with_front front read = read >>= λ x. Some (front ++ x.0, x.1)

regroup : {X : Type 0} (front : List X) (x : X) (read : Read (List X)) → with_front front (read >>= λ y. Some (x ∷ y.0, y.1)) ≡ with_front (front ++ x ∷ []) read
regroup {X = X} front x (Some y) = ap (λ (xs : List X). Some (xs, y.1)) (simp append_assoc)
regroup {X = X} front x None = refl

module _ {X : Type 0} (part : List Token → Read X) (s : Separator) (front : List X) (count i : ℕ) (rest : List Token) (total : Read (List X)) (lt : i < count) (so_far : with_front front (list_at part s (count - i) rest) ≡ total) where
  left : count - i ≡ suc (count - (i + 1))
  left = omega arith

  pub goes_on : (x : X) (after next : List Token) → part rest ≡ Some (x, after) → separator_at s after ≡ Some next → with_front (front ++ x ∷ []) (list_at part s (count - (i + 1)) next) ≡ total
  goes_on x after next read more =
      let one : with_front front (list_at part s (count - i) rest) ≡ with_front (front ++ x ∷ []) (list_at part s (count - (i + 1)) next) = rw (left, read, more) (regroup front x (list_at part s (count - (i + 1)) next)) in
      sym one ∙ so_far

  pub stops : (x : X) (after : List Token) → part rest ≡ Some (x, after) → separator_at s after ≡ None → total ≡ Some (front ++ x ∷ [], after)
  stops x after read last =
      let one : with_front front (list_at part s (count - i) rest) ≡ Some (front ++ x ∷ [], after) = rw (left, read, last) refl in
      sym so_far ∙ one

  pub fails : (e : ParseFault) → Fails e (part rest) → Fails e total
  fails faults.NoMemory h = tt
  fails faults.Syntax h =
      let one : with_front front (list_at part s (count - i) rest) ≡ None = rw (left, h) refl in
      sym so_far ∙ one
