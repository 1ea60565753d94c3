-- The words that the program accepts, and what they ask.
use Rattle.std.specs.Prelude.{◌≡◌, ℕ, ◌+◌, ◌-◌, ◌*◌, ◌≤◌, ◌≢◌, List, [], ◌∷◌, ◌++◌, Bool, true, false, Option, Some, None, bytes_eq, codes, flat_map, if◌then◌else◌, length, unwrap_or}
use Rattle.std.specs.Char.{is_ascii_digit}
use Rattle.std.specs.List.{AllByRecursion, list_all, list_any}
use Rattle.rv_words.specs.declared.choices.Choice.{Choice}
use Rattle.rv_words.specs.declared.choices.Choice.TheVariants.{Threads, Workers, Judge, Steps, Gen, Race}
use Rattle.rv_words.specs.declared.choices.Asked.{Asked}

-- the word that names an option
abbrev pub name_of : Choice → List ℕ
name_of Threads = codes "--threads"
name_of Workers = codes "--workers"
name_of Judge = codes "--judge"
name_of Steps = codes "--steps"
name_of Gen = codes "--gen"
name_of Race = codes "--race"

-- an option that takes no value
abbrev pub is_flag : Choice → Bool
is_flag Threads = true
is_flag Race = true
is_flag option = false

-- the greatest value of an option
abbrev pub greatest : Choice → ℕ
greatest Threads = 0
greatest Workers = 8
greatest Judge = 2
greatest Steps = 64
greatest Gen = 4294967295
greatest Race = 0

-- the number that decimal digits write behind those of another number
abbrev pub number_behind : ℕ → List ℕ → ℕ
number_behind n [] = n
number_behind n (d ∷ ds) = number_behind (n * 10 + (d - 48)) ds

-- 1 to 10 decimal digits, whose number is at most the option's greatest value
pub record IsValue (option : Choice) (digits : List ℕ) : Type 0 where
  pub some : 1 ≤ length digits
  pub few : length digits ≤ 10
  pub decimal : list_all is_ascii_digit digits ≡ true
  pub within : number_behind 0 digits ≤ greatest option

-- an option with its value, which is behind `=` or is the next word; or one that takes no value
pub record Item : Type 0 where
  pub option : Choice
  pub digits : List ℕ
  pub behind : Bool

-- an item is one word or two
abbrev pub words_of : Item → List (List ℕ)
words_of item = if is_flag item.option then name_of item.option ∷ []
    else (if item.behind then (name_of item.option ++ (codes "=" ++ item.digits)) ∷ []
    else name_of item.option ∷ item.digits ∷ [])

-- No two items are of one option.
abbrev pub Once : List Item → Type 0
Once [] = Unit {0}
Once (item ∷ items) = AllByRecursion (λ (i : Item). i.option ≢ item.option) items × Once items

-- The words are these items, one after another, each option at most once and with its value.
pub record Spell (words : List (List ℕ)) (items : List Item) : Type 0 where
  pub whole : words ≡ flat_map words_of items
  pub fit : AllByRecursion
      (λ (item : Item). is_flag item.option ≡ false → IsValue item.option item.digits) items
  pub once : Once items

-- The words are a list of items.
pub record AreAccepted (words : List (List ℕ)) : Type 0 where
  pub items : List Item
  pub spelled : Spell words items

-- the value of the option's item, if any; each option has a name of its own
abbrev pub value_of : Choice → List Item → Option ℕ
value_of option [] = None
value_of option (item ∷ items) = if bytes_eq (name_of option) (name_of item.option)
    then Some (number_behind 0 item.digits) else value_of option items

-- an option is among the items; each has a name of its own
abbrev pub is_among : Choice → List Item → Bool
is_among option items =
    list_any (λ (item : Item). bytes_eq (name_of option) (name_of item.option)) items

-- else no threads, two workers, judge 0, one step, a script that is read, no race
abbrev pub asked_of : List Item → Asked
asked_of items = record {
  threads = is_among Threads items;
  workers = unwrap_or (value_of Workers items) 2;
  judge = unwrap_or (value_of Judge items) 0;
  steps = unwrap_or (value_of Steps items) 1;
  seed = value_of Gen items;
  race = is_among Race items;
}

-- The words ask this: they are a list of items, and it is what the items ask.
pub record Ask (words : List (List ℕ)) (asked : Asked) : Type 0 where
  pub items : List Item
  pub spelled : Spell words items
  pub asks : asked ≡ asked_of items

-- The values are in their ranges.
pub record AreWithin (asked : Asked) : Type 0 where
  pub workers : asked.workers ≤ greatest Workers
  pub judge : asked.judge ≤ greatest Judge
  pub steps : asked.steps ≤ greatest Steps
