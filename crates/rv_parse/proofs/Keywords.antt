-- A name is compared with the keywords of its length alone.
use Rattle.std.proofs.Common.{◌≡◌, ℕ, List, [], ◌∷◌, Bool, true, false, ◌&&◌, length, filter, ap, sym, ◌∙◌, arith, nat_eq, nat_le, bytes_eq, eq-eqb}
use Rattle.std.specs.Prelude.{codes}
use Rattle.std.specs.List.{list_any}
use Rattle.std.proofs.lemmas.Bool.Decides.{nat_tests}
use Rattle.std.proofs.lemmas.Map.Views.{any-filter_same}
use Rattle.std.proofs.lemmas.Slice.Eq.{bytes_eq-Decides}
use Rattle.rv_lang.specs.Words.{is_keyword, keywords}

-- a word that is the name has its length
same_length : (name word : List ℕ) (n : ℕ) → length name ≡ n → bytes_eq word name ≡ true → nat_eq (length word) n ≡ true
same_length name word n long same = let e : word ≡ name = (bytes_eq-Decides word name).0 same in eq-eqb (length word) n (ap length e ∙ long)

of_length : (name : List ℕ) (n : ℕ) → length name ≡ n → is_keyword name ≡ list_any (λ (word : List ℕ). bytes_eq word name) (filter (λ (word : List ℕ). nat_eq (length word) n) keywords)
unfolding is_keyword
of_length name n long = sym (any-filter_same (λ (word : List ℕ). bytes_eq word name) (λ (word : List ℕ). nat_eq (length word) n) true (λ word same. same_length name word n long same) keywords)

pub of_two : (name : List ℕ) → length name ≡ 2 → is_keyword name ≡ list_any (λ (word : List ℕ). bytes_eq word name) (codes "BY" ∷ codes "IN" ∷ codes "IS" ∷ codes "ON" ∷ codes "OR" ∷ [])
of_two name long = of_length name 2 long

pub of_three : (name : List ℕ) → length name ≡ 3 → is_keyword name ≡ list_any (λ (word : List ℕ). bytes_eq word name) (codes "AND" ∷ codes "FOR" ∷ codes "NOT" ∷ codes "SET" ∷ [])
of_three name long = of_length name 3 long

pub of_four : (name : List ℕ) → length name ≡ 4 → is_keyword name ≡ list_any (λ (word : List ℕ). bytes_eq word name) (codes "FAST" ∷ codes "FROM" ∷ codes "INTO" ∷ codes "NULL" ∷ codes "ONLY" ∷ codes "OPEN" ∷ codes "READ" ∷ codes "SHOW" ∷ codes "STEP" ∷ codes "TIME" ∷ codes "WITH" ∷ [])
of_four name long = of_length name 4 long

pub of_five : (name : List ℕ) → length name ≡ 5 → is_keyword name ≡ list_any (λ (word : List ℕ). bytes_eq word name) (codes "BEGIN" ∷ codes "CLOSE" ∷ codes "FETCH" ∷ codes "FIRST" ∷ codes "INDEX" ∷ codes "ORDER" ∷ codes "TABLE" ∷ codes "TOTAL" ∷ codes "WHERE" ∷ [])
of_five name long = of_length name 5 long

pub of_six : (name : List ℕ) → length name ≡ 6 → is_keyword name ≡ list_any (λ (word : List ℕ). bytes_eq word name) (codes "BIGINT" ∷ codes "COMMIT" ∷ codes "CREATE" ∷ codes "DELETE" ∷ codes "INSERT" ∷ codes "SELECT" ∷ codes "UNIQUE" ∷ codes "UPDATE" ∷ codes "VALUES" ∷ [])
of_six name long = of_length name 6 long

pub of_seven : (name : List ℕ) → length name ≡ 7 → is_keyword name ≡ list_any (λ (word : List ℕ). bytes_eq word name) (codes "BETWEEN" ∷ codes "VARCHAR" ∷ [])
of_seven name long = of_length name 7 long

pub of_eight : (name : List ℕ) → length name ≡ 8 → is_keyword name ≡ list_any (λ (word : List ℕ). bytes_eq word name) (codes "OPTIMIZE" ∷ codes "ROLLBACK" ∷ codes "STARTING" ∷ [])
of_eight name long = of_length name 8 long

-- every keyword has two to eight letters
abbrev within : List ℕ → Bool
within word = nat_le 2 (length word) && nat_le (length word) 8

of_no_length : (name : List ℕ) → within name ≡ false → is_keyword name ≡ false
unfolding is_keyword
of_no_length name out = any-filter_same (λ (word : List ℕ). bytes_eq word name) within false (λ word same. ap within ((bytes_eq-Decides word name).0 same) ∙ out) keywords

pub of_another : (name : List ℕ) → (length name ≡ 2 → ⊥) → (length name ≡ 3 → ⊥) → (length name ≡ 4 → ⊥) → (length name ≡ 5 → ⊥) → (length name ≡ 6 → ⊥) → (length name ≡ 7 → ⊥) → (length name ≡ 8 → ⊥) → is_keyword name ≡ false
of_another name two three four five six seven eight = of_no_length name (grind (arith, nat_tests, two, three, four, five, six, seven, eight))

pub ruleset by_length = (of_two, of_three, of_four, of_five, of_six, of_seven, of_eight, of_another)
