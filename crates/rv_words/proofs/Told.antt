-- Words that are read are accepted, and accepted words are read; what they ask is in its ranges.
use Rattle.std.proofs.Common.{◌≡◌, ◌↔◌, ◌≤◌, ℕ, List, [], ◌∷◌, refl, sym, ap, ◌∙◌, subst, arith, Bool, true, false, Option, Some, None, inl, inr, unwrap_or, IsTrue}
use Rattle.std.specs.Prelude.{IfSome}
use Rattle.std.specs.List.{AllByRecursion}
use Rattle.rv_words.specs.declared.choices.Asked.{Asked}
use Rattle.rv_words.specs.declared.choices.Choice.{Choice}
use Rattle.rv_words.specs.declared.choices.Choice.TheVariants.{Threads, Workers, Judge, Steps, Gen, Race}
use Rattle.rv_words.specs.Words.{AreAccepted, AreWithin, Item, asked_of, greatest, is_flag, value_of, number_behind}
use Rattle.rv_words.proofs.Items.{IsItem}
use Rattle.rv_words.specs.Reading.{fit_from, given, start}
use Rattle.rv_words.proofs.Accepts.{Free, option_cases, read_items, read_words}

free_start : (items : List Item) → Free start items
free_start [] = tt
free_start (item ∷ items) = (none_given item.option, free_start items)
  where
    none_given : (option : Choice) → given option start ≡ false
    none_given Threads = refl
    none_given Workers = refl
    none_given Judge = refl
    none_given Steps = refl
    none_given Gen = refl
    none_given Race = refl

are_accepted : (words : List (List ℕ)) → fit_from start words ≡ true → AreAccepted words
are_accepted words e = let read = read_words start words e in record { items = read.items; spelled = record { whole = read.whole; fit = read.all; once = read.once } }

are_read : (words : List (List ℕ)) → AreAccepted words → fit_from start words ≡ true
are_read words accepted = let spelled = accepted.spelled in ap (fit_from start) spelled.whole ∙ read_items start accepted.items spelled.fit spelled.once (free_start accepted.items)

-- words are accepted exactly where they are read
pub exactly_accepted : (words : List (List ℕ)) (fit : Bool) → fit ≡ fit_from start words → IsTrue fit ↔ AreAccepted words
exactly_accepted words fit e = (λ t. are_accepted words (sym e ∙ t), λ accepted. e ∙ are_read words accepted)

-- the value of an option is in its range, or there is none
value_within : (option : Choice) (items : List Item) → is_flag option ≡ false → AllByRecursion IsItem items → IfSome (value_of option items) (λ n. n ≤ greatest option)
value_within option [] valued all = tt
value_within option (item ∷ items) valued all = elim (option_cases option item.option) [
  | inl same ↦
      let is = all.0 (ap is_flag (sym same.0) ∙ valued) in
      rw same.1 (subst (λ (c : Choice). number_behind 0 item.digits ≤ greatest c) (sym same.0) is.within)
  | inr other ↦ rw other.1 (value_within option items valued all.1)
]

within_or : (o : Option ℕ) (most otherwise : ℕ) → IfSome o (λ n. n ≤ most) → otherwise ≤ most → unwrap_or o otherwise ≤ most
within_or None most otherwise some none = none
within_or (Some n) most otherwise some none = some

pub asked_within : (asked : Asked) (items : List Item) → AllByRecursion IsItem items → asked ≡ asked_of items → AreWithin asked
asked_within asked items all e = subst AreWithin (sym e) (record {
  workers = within_or (value_of Workers items) 8 2 (value_within Workers items refl all) (omega arith);
  judge = within_or (value_of Judge items) 2 0 (value_within Judge items refl all) (omega arith);
  steps = within_or (value_of Steps items) 64 1 (value_within Steps items refl all) (omega arith);
})
