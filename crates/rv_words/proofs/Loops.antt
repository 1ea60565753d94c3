-- One word, or one digit, more.
use Rattle.std.proofs.Common.{◌≡◌, ℕ, ◌+◌, ◌<◌, ◌≤◌, List, sym, ap, ◌∙◌, Option, Some, None, length, get_or, drop, Bool, false}
use Rattle.std.specs.Prelude.{option_and_then}
use Rattle.std.proofs.lemmas.List.{at_drop_more, at_drop_all}
use Rattle.rv_words.specs.declared.reading.Sofar.{Sofar}
use Rattle.rv_words.specs.Reading.{ended, fit_from, fit_more, number_from, with_digit, with_word}

module _ (s : Sofar) (words : List (List ℕ)) (i : ℕ) (word : List ℕ) (total : Bool) (there : (i < length words) × (word ≡ get_or words i word)) (so_far : fit_from s (drop i words) ≡ total) where
  here : fit_more (λ (more : Sofar). fit_from more (drop (i + 1) words)) (with_word s word) ≡ total
  here = ap (λ (w : List ℕ). fit_more (λ (more : Sofar). fit_from more (drop (i + 1) words)) (with_word s w)) there.1
      ∙ sym (at_drop_more (fit_from s) words i word there.0) ∙ so_far

  pub word_more : (more : Sofar) → with_word s word ≡ Some more → fit_from more (drop (i + 1) words) ≡ total
  word_more more e = sym (ap (fit_more (λ (m : Sofar). fit_from m (drop (i + 1) words))) e) ∙ here

  pub word_none : with_word s word ≡ None → total ≡ false
  word_none e = sym here ∙ ap (fit_more (λ (m : Sofar). fit_from m (drop (i + 1) words))) e

pub words_end : (s : Sofar) (words : List (List ℕ)) (i : ℕ) (total : Bool) → length words ≤ i → fit_from s (drop i words) ≡ total → total ≡ ended s
words_end s words i total le so_far = sym so_far ∙ at_drop_all (fit_from s) words i le

module _ (n : ℕ) (digits : List ℕ) (i digit : ℕ) (total : Option ℕ) (there : (i < length digits) × (digit ≡ get_or digits i digit)) (so_far : number_from n (drop i digits) ≡ total) where
  here_digit : option_and_then (λ (more : ℕ). number_from more (drop (i + 1) digits)) (with_digit n digit) ≡ total
  here_digit = ap (λ (d : ℕ). option_and_then (λ (more : ℕ). number_from more (drop (i + 1) digits)) (with_digit n d)) there.1
      ∙ sym (at_drop_more (number_from n) digits i digit there.0) ∙ so_far

  pub digit_more : (more : ℕ) → with_digit n digit ≡ Some more → number_from more (drop (i + 1) digits) ≡ total
  digit_more more e = sym (ap (option_and_then (λ (m : ℕ). number_from m (drop (i + 1) digits))) e) ∙ here_digit

  pub digit_none : with_digit n digit ≡ None → total ≡ None
  digit_none e = sym here_digit ∙ ap (option_and_then (λ (m : ℕ). number_from m (drop (i + 1) digits))) e

pub digits_end : (n : ℕ) (digits : List ℕ) (i : ℕ) (total : Option ℕ) → length digits ≤ i → number_from n (drop i digits) ≡ total → total ≡ Some n
digits_end n digits i total le so_far = sym so_far ∙ at_drop_all (number_from n) digits i le
