-- What the calls of a retrieval leave, and that the rows given are those that were to be given.
use Rattle.std.proofs.Common.{◌≡◌, ℕ, List, [], ◌∷◌, ◌++◌, refl, sym, ap, ◌∙◌, subst}
use Rattle.std.proofs.lemmas.List.{append-nil, map-append}
use Rattle.std.specs.Prelude.{IsPermutation}
use Rattle.std.proofs.lemmas.List.Sorted.{IsPermutation-append_right, IsPermutation-middle, IsPermutation-refl, IsPermutation-trans}
use Rattle.rv_value.specs.declared.record.Record.{Record}
use Rattle.rv_reader.specs.Shown.{Shown}
use Rattle.rv_final.specs.Rest.{TakesOut}
use Rattle.rv_access.specs.declared.access.Access.{Access}
use Rattle.rv_access.specs.Accesses.{AccessFits, Keeps, rest}
use Rattle.try_retrievals.specs.Driving.{Gives, Stays, numbers_of}

pub stays_begun : (shown : Shown) (v : Access) → AccessFits v shown → Stays shown v v
stays_begun shown v fits = record { fits = fits; rest = refl; query = refl }

pub stays_through : (shown : Shown) (a b c : Access) → Stays shown a b → Stays shown b c → Stays shown a c
stays_through shown a b c first then = record { fits = then.fits; rest = then.rest ∙ first.rest; query = then.query ∙ first.query }

pub stays_kept : (shown : Shown) (old new : Access) → Keeps old new → AccessFits old shown → Stays shown old new
stays_kept shown old new keeps fits = record { fits = keeps.fits shown fits; rest = keeps.rest shown fits; query = keeps.query }

pub gives_begun : (shown : Shown) (v : Access) → AccessFits v shown → Gives shown (rest v shown) [] v
gives_begun shown v fits = record { fits = fits; once = IsPermutation-refl (numbers_of (rest v shown)) }

pub gives_stays : (shown : Shown) (due given : List Record) (old new : Access) → Gives shown due given old → AccessFits new shown → rest new shown ≡ rest old shown → Gives shown due given new
gives_stays shown due given old new gives fits same = record {
  fits = fits;
  once = subst (λ (left : List Record). IsPermutation (numbers_of due) (numbers_of (given ++ left))) (sym same) gives.once;
}

moved : (due g f b : List ℕ) (t r : ℕ) → r ≡ t → IsPermutation due (g ++ (f ++ t ∷ b)) → IsPermutation due ((g ++ r ∷ []) ++ (f ++ b))
moved due g f b t r same given =
    let apart : IsPermutation (g ++ (f ++ t ∷ b)) (g ++ t ∷ (f ++ b)) = IsPermutation-append_right g (f ++ t ∷ b) (t ∷ (f ++ b)) (IsPermutation-middle f t b) in
    let through = IsPermutation-trans due (g ++ (f ++ t ∷ b)) (g ++ t ∷ (f ++ b)) given apart in
    let seam : g ++ t ∷ (f ++ b) ≡ (g ++ r ∷ []) ++ (f ++ b) = rw same (pushed g t (f ++ b)) in
    subst (IsPermutation due) seam through
  where
    pushed : (xs : List ℕ) (a : ℕ) (ys : List ℕ) → xs ++ a ∷ ys ≡ (xs ++ a ∷ []) ++ ys
    pushed [] a ys = refl
    pushed (x ∷ xs) a ys = ap (λ l. x ∷ l) (pushed xs a ys)

numbers_left : (given front behind : List Record) (taken : Record) → numbers_of (given ++ (front ++ taken ∷ behind)) ≡ numbers_of given ++ (numbers_of front ++ taken.row.0 ∷ numbers_of behind)
numbers_left given front behind taken =
    map-append (λ (r : Record). r.row.0) given (front ++ taken ∷ behind) ∙ ap (λ l. numbers_of given ++ l) (map-append (λ (r : Record). r.row.0) front (taken ∷ behind))

numbers_taken : (given front behind : List Record) (r : Record) → numbers_of ((given ++ r ∷ []) ++ (front ++ behind)) ≡ (numbers_of given ++ r.row.0 ∷ []) ++ (numbers_of front ++ numbers_of behind)
numbers_taken given front behind r =
    map-append (λ (x : Record). x.row.0) (given ++ r ∷ []) (front ++ behind)
    ∙ ap (λ l. l ++ numbers_of (front ++ behind)) (map-append (λ (x : Record). x.row.0) given (r ∷ []))
    ∙ ap (λ l. (numbers_of given ++ r.row.0 ∷ []) ++ l) (map-append (λ (x : Record). x.row.0) front behind)

pub gives_row : (shown : Shown) (due given : List Record) (need : List ℕ) (old new : Access) (r : Record) → Gives shown due given old → AccessFits new shown → TakesOut need r (rest old shown) (rest new shown) → Gives shown due (given ++ r ∷ []) new
gives_row shown due given need old new r gives fits takes =
    let f = takes.front in
    let b = takes.behind in
    let t = takes.taken in
    let before : IsPermutation (numbers_of due) (numbers_of given ++ (numbers_of f ++ t.row.0 ∷ numbers_of b)) =
    subst (IsPermutation (numbers_of due)) (ap (λ (left : List Record). numbers_of (given ++ left)) takes.before ∙ numbers_left given f b t) gives.once in
    let after = moved (numbers_of due) (numbers_of given) (numbers_of f) (numbers_of b) t.row.0 r.row.0 takes.row before in
    record {
      fits = fits;
      once = subst (IsPermutation (numbers_of due)) (sym (ap (λ (left : List Record). numbers_of ((given ++ r ∷ []) ++ left)) takes.after ∙ numbers_taken given f b r)) after;
    }

pub gives_all : (shown : Shown) (due given : List Record) (v : Access) → Gives shown due given v → rest v shown ≡ [] → IsPermutation (numbers_of due) (numbers_of given)
gives_all shown due given v gives none = subst (λ (all : List Record). IsPermutation (numbers_of due) (numbers_of all)) (ap (λ left. given ++ left) none ∙ append-nil given) gives.once
