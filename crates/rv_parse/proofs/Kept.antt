-- Readings that are kept.
use Rattle.std.proofs.Common.{◌≡◌, ℕ, ◌<◌, ◌+◌, List, Option, Some, None, Bool, true, false, refl, ap, sym, ◌∙◌, subst, arith, length, nat_eq, nat_lt, position, ◌⊎◌, bytes_eq, IfSome}
use Rattle.std.proofs.lemmas.Bool.Decides.{nat_tests}
use Rattle.std.proofs.lemmas.Grind.{common_steps}
use Rattle.std.proofs.lemmas.List.Quantifiers.{position-Some}
use Rattle.std.proofs.lemmas.Slice.Eq.{bytes_eq-Decides}
use Rattle.rv_lang.specs.declared.statement.Statement.{Statement}
use Rattle.rv_parse.specs.declared.readings.Reading.{Reading}
use Rattle.rv_parse.specs.Kept.{AreKept, AreRead, Reads, no_reading, reading_at, with_reading}
use Rattle.rv_parse.specs.Needed.{HasParts}
use Rattle.rv_parse.specs.Reading.{statement_of}
use Rattle.rv_parse.proofs.Needing.{text_parts}

-- what is found by its text has the statement of the text
pub found_reads : (text : List ℕ) (rs : List Reading) (next : ℕ) (found : Option ℕ) → AreKept rs next → found ≡ position (λ (r : Reading). bytes_eq r.text text) rs → IfSome found (Reads text rs)
found_reads text rs next None kept is = tt
found_reads text rs next (Some place) kept is =
    let at = position-Some (λ (r : Reading). bytes_eq r.text text) rs place no_reading (sym is) in
    let same : (reading_at rs place).text ≡ text = (bytes_eq-Decides (reading_at rs place).text text).0 at.1 in
    record { there = at.0; is = kept.read place at.0 ∙ ap statement_of same }

-- one that was read is put in its place
pub put_there : (rs : List Reading) (place : ℕ) (r : Reading) → place < length rs + 1 → place < length (with_reading rs place r)
put_there rs place r within = put_there_of (nat_lt place (length rs)) refl
  where
    put_there_of : (b : Bool) → nat_lt place (length rs) ≡ b → place < length (with_reading rs place r)
    put_there_of true e = rw e (grind (arith, common_steps, nat_tests, e))
    put_there_of false e = rw e (grind (arith, common_steps, within))

pub put_is : (rs : List Reading) (place : ℕ) (r : Reading) → place < length rs + 1 → reading_at (with_reading rs place r) place ≡ r
put_is rs place r within = put_is_of (nat_lt place (length rs)) refl
  where
    put_is_of : (b : Bool) → nat_lt place (length rs) ≡ b → reading_at (with_reading rs place r) place ≡ r
    put_is_of true e = rw e (grind (arith, common_steps, nat_tests, e))
    put_is_of false e = rw e (let last : place ≡ length rs = grind (arith, nat_tests, e) in grind (arith, common_steps, last))

-- the others stay
other_is : (rs : List Reading) (place i : ℕ) (r : Reading) → place < length rs + 1 → nat_eq i place ≡ false → i < length (with_reading rs place r) → (i < length rs) × (reading_at (with_reading rs place r) i ≡ reading_at rs i)
other_is rs place i r within other = other_is_of (nat_lt place (length rs)) refl
  where
    other_is_of : (b : Bool) → nat_lt place (length rs) ≡ b → i < length (with_reading rs place r) → (i < length rs) × (reading_at (with_reading rs place r) i ≡ reading_at rs i)
    other_is_of true e = rw e (λ low. (grind (arith, common_steps, low), grind (arith, common_steps, nat_tests, low, other)))
    other_is_of false e = rw e (λ low. let last : place ≡ length rs = grind (arith, nat_tests, e, within) in let front : i < length rs = grind (arith, common_steps, nat_tests, last, low, other) in (front, grind (arith, common_steps, front)))

abbrev is_read : Reading → Type 0
is_read r = r.statement ≡ statement_of r.text

put_read : (rs : List Reading) (place : ℕ) (r : Reading) → AreRead rs → is_read r → place < length rs + 1 → AreRead (with_reading rs place r)
put_read rs place r read is within i low = put_read_of (nat_eq i place) refl
  where
    put_read_of : (b : Bool) → nat_eq i place ≡ b → is_read (reading_at (with_reading rs place r) i)
    put_read_of true e =
        let at : i ≡ place = grind (arith, nat_tests, e) in
        subst (λ (k : ℕ). is_read (reading_at (with_reading rs place r) k)) (sym at) (subst (λ (x : Reading). is_read x) (sym (put_is rs place r within)) is)
    put_read_of false e =
        let other = other_is rs place i r within e low in
        subst (λ (x : Reading). is_read x) (sym other.1) (read i other.0)

pub put_kept : (rs : List Reading) (place next : ℕ) (r : Reading) → AreKept rs place → r.statement ≡ statement_of r.text → (next ≡ place + 1) ⊎ (next ≡ 0) → AreKept (with_reading rs place r) next
put_kept rs place next r kept is turned = record {
  read = put_read rs place r kept.read is kept.next;
  next = let there : place < length (with_reading rs place r) = put_there rs place r kept.next in omega (arith, turned, there);
}

-- what is kept has the parts of a statement
pub kept_parts : (rs : List Reading) (next place : ℕ) (o : Option Statement) → AreKept rs next → place < length rs → o ≡ (reading_at rs place).statement → IfSome o HasParts
kept_parts rs next place o kept there is = text_parts (reading_at rs place).text o (is ∙ kept.read place there)
