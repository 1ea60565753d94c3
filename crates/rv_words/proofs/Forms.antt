-- The words of an item have their forms, and no other words have.
use Rattle.std.proofs.Common.{◌≡◌, ℕ, ◌+◌, ◌<◌, ◌==◌, List, ◌∷◌, ◌++◌, refl, sym, ap, ◌∙◌, arith, Option, Some, None, inl, inr, bytes_eq, codes, position, take, drop, length, get_or}
use Rattle.std.proofs.lemmas.Bool.{cases_Bool, lt-ltb}
use Rattle.std.specs.List.{position_or_len}
use Rattle.std.proofs.lemmas.Bool.Decides.{Decides-eqb}
use Rattle.std.proofs.lemmas.List.{drop_more, take-append-drop}
use Rattle.std.proofs.lemmas.List.Quantifiers.{position-Some}
use Rattle.std.proofs.lemmas.Slice.Eq.{bytes_eq-Decides}
use Rattle.rv_words.specs.declared.choices.Choice.{Choice}
use Rattle.rv_words.specs.declared.choices.Choice.TheVariants.{Threads, Workers, Judge, Steps, Gen, Race}
use Rattle.rv_words.specs.Words.{name_of}
use Rattle.rv_words.specs.Reading.{Named, Joined, choice_of, form, form_at, joined, named}

pub is_named : (option : Choice) → form (name_of option) ≡ Named option
is_named Threads = refl
is_named Workers = refl
is_named Judge = refl
is_named Steps = refl
is_named Gen = refl
is_named Race = refl

sign_at : (word : List ℕ) (n : ℕ) → position_or_len (λ c. c == 61) word ≡ n → n < length word → position (λ c. c == 61) word ≡ Some n
sign_at word n e there = rw (e, lt-ltb n (length word) there) refl

pub is_joined : (option : Choice) (digits : List ℕ) → form (name_of option ++ (codes "=" ++ digits)) ≡ Joined option digits
is_joined Threads digits = let word = name_of Threads ++ (codes "=" ++ digits) in ap (λ (o : Option ℕ). form_at o word) (sign_at word 9 refl (omega arith))
is_joined Workers digits = let word = name_of Workers ++ (codes "=" ++ digits) in ap (λ (o : Option ℕ). form_at o word) (sign_at word 9 refl (omega arith))
is_joined Judge digits = let word = name_of Judge ++ (codes "=" ++ digits) in ap (λ (o : Option ℕ). form_at o word) (sign_at word 7 refl (omega arith))
is_joined Steps digits = let word = name_of Steps ++ (codes "=" ++ digits) in ap (λ (o : Option ℕ). form_at o word) (sign_at word 7 refl (omega arith))
is_joined Gen digits = let word = name_of Gen ++ (codes "=" ++ digits) in ap (λ (o : Option ℕ). form_at o word) (sign_at word 5 refl (omega arith))
is_joined Race digits = let word = name_of Race ++ (codes "=" ++ digits) in ap (λ (o : Option ℕ). form_at o word) (sign_at word 6 refl (omega arith))

choice_name : (name : List ℕ) (option : Choice) → choice_of name ≡ Some option → name ≡ name_of option
choice_name name option e = elim (cases_Bool (bytes_eq name (name_of Threads))) [
  | inl t ↦ let said = rw t at e in let same : Threads ≡ option = cc in (bytes_eq-Decides name (name_of Threads)).0 t ∙ ap name_of same
  | inr f ↦ elim (cases_Bool (bytes_eq name (name_of Workers))) [
    | inl t ↦ let said = rw (f, t) at e in let same : Workers ≡ option = cc in (bytes_eq-Decides name (name_of Workers)).0 t ∙ ap name_of same
    | inr g ↦ elim (cases_Bool (bytes_eq name (name_of Judge))) [
      | inl t ↦ let said = rw (f, g, t) at e in let same : Judge ≡ option = cc in (bytes_eq-Decides name (name_of Judge)).0 t ∙ ap name_of same
      | inr h ↦ elim (cases_Bool (bytes_eq name (name_of Steps))) [
        | inl t ↦ let said = rw (f, g, h, t) at e in let same : Steps ≡ option = cc in (bytes_eq-Decides name (name_of Steps)).0 t ∙ ap name_of same
        | inr k ↦ elim (cases_Bool (bytes_eq name (name_of Gen))) [
          | inl t ↦ let said = rw (f, g, h, k, t) at e in let same : Gen ≡ option = cc in (bytes_eq-Decides name (name_of Gen)).0 t ∙ ap name_of same
          | inr m ↦ elim (cases_Bool (bytes_eq name (name_of Race))) [
            | inl t ↦ let said = rw (f, g, h, k, m, t) at e in let same : Race ≡ option = cc in (bytes_eq-Decides name (name_of Race)).0 t ∙ ap name_of same
            | inr n ↦ let wrong = rw (f, g, h, k, m, n) at e in cc
          ]
        ]
      ]
    ]
  ]
]

named_only : (o : Option Choice) (option : Choice) → named o ≡ Named option → o ≡ Some option
named_only None option e = cc
named_only (Some p) option e = let same : p ≡ option = cc in ap (λ (c : Choice). Some c) same

named_never : (o : Option Choice) (option : Choice) (digits : List ℕ) (A : Type 0) → named o ≡ Joined option digits → A
named_never None option digits A e = cc
named_never (Some p) option digits A e = cc

joined_never : (o : Option Choice) (rest : List ℕ) (option : Choice) (A : Type 0) → joined o rest ≡ Named option → A
joined_never None rest option A e = cc
joined_never (Some p) rest option A e = cc

record Joins (o : Option Choice) (rest : List ℕ) (option : Choice) (digits : List ℕ) : Type 0 where
  named : o ≡ Some option
  same : rest ≡ digits

joined_only : (o : Option Choice) (rest : List ℕ) (option : Choice) (digits : List ℕ) → joined o rest ≡ Joined option digits → Joins o rest option digits
joined_only None rest option digits e = cc
joined_only (Some p) rest option digits e = let same : p ≡ option = cc in record { named = ap (λ (c : Choice). Some c) same; same = cc }

-- a word is cut at its first `=`
cut_at : (word : List ℕ) (at : ℕ) → position (λ c. c == 61) word ≡ Some at → word ≡ take at word ++ 61 ∷ drop (at + 1) word
cut_at word at e =
    let found = position-Some (λ c. c == 61) word at 0 e in
    let sign : get_or word at 0 ≡ 61 = (Decides-eqb (get_or word at 0) 61).0 found.1 in
    sym (take-append-drop at word) ∙ ap (λ (rest : List ℕ). take at word ++ rest) (drop_more word at 0 found.0 ∙ ap (λ (c : ℕ). c ∷ drop (at + 1) word) sign)

named_at : (word : List ℕ) (o : Option ℕ) (option : Choice) → position (λ c. c == 61) word ≡ o → form_at o word ≡ Named option → word ≡ name_of option
named_at word None option p e = choice_name word option (named_only (choice_of word) option e)
named_at word (Some at) option p e = joined_never (choice_of (take at word)) (drop (at + 1) word) option (word ≡ name_of option) e

pub named_word : (word : List ℕ) (option : Choice) → form word ≡ Named option → word ≡ name_of option
named_word word option e = named_at word (position (λ c. c == 61) word) option refl e

joined_at : (word : List ℕ) (o : Option ℕ) (option : Choice) (digits : List ℕ) → position (λ c. c == 61) word ≡ o → form_at o word ≡ Joined option digits → word ≡ name_of option ++ (codes "=" ++ digits)
joined_at word None option digits p e = named_never (choice_of word) option digits (word ≡ name_of option ++ (codes "=" ++ digits)) e
joined_at word (Some at) option digits p e =
    let parts = joined_only (choice_of (take at word)) (drop (at + 1) word) option digits e in
    let name = choice_name (take at word) option parts.named in
    cut_at word at p ∙ ap (λ (front : List ℕ). front ++ 61 ∷ drop (at + 1) word) name ∙ ap (λ (rest : List ℕ). name_of option ++ 61 ∷ rest) parts.same

pub joined_word : (word : List ℕ) (option : Choice) (digits : List ℕ) → form word ≡ Joined option digits → word ≡ name_of option ++ (codes "=" ++ digits)
joined_word word option digits e = joined_at word (position (λ c. c == 61) word) option digits refl e
