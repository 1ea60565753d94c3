-- Words that are read are a list of items, and every list of items is read.
use Rattle.std.proofs.Common.{◌≡◌, ◌≢◌, ℕ, List, [], ◌∷◌, ◌++◌, refl, sym, ap, ◌∙◌, Bool, true, false, Option, Some, None, inl, inr, ◌⊎◌, codes, flat_map, if◌then◌else◌}
use Rattle.std.specs.Prelude.{is_some}
use Rattle.std.specs.List.{AllByRecursion}
use Rattle.std.proofs.lemmas.Bool.{cases_Bool}
use Rattle.rv_words.specs.declared.choices.Choice.{Choice}
use Rattle.rv_words.specs.declared.choices.Choice.TheVariants.{Threads, Workers, Judge, Steps, Gen, Race}
use Rattle.rv_words.specs.declared.reading.Sofar.{Sofar}
use Rattle.rv_words.specs.Words.{Item, IsValue, Once, is_flag, name_of, words_of}
use Rattle.rv_words.proofs.Items.{IsItem, Lacks, is_option}
use Rattle.rv_words.specs.Reading.{Form, Named, Joined, Other, fit_from, fit_more, form, given, marked, value, with_form, with_new, with_word}
use Rattle.rv_words.proofs.Values.{has_value, is_value}
use Rattle.rv_words.proofs.Forms.{is_joined, is_named, joined_word, named_word}

-- ---- options

-- the words of an option that takes a value
abbrev pub value_words : Choice → Bool → List ℕ → List (List ℕ)
value_words option behind digits = if behind
    then (name_of option ++ (codes "=" ++ digits)) ∷ []
    else name_of option ∷ digits ∷ []

pub option_cases : (a b : Choice) → ((a ≡ b) × (is_option a b ≡ true)) ⊎ ((a ≢ b) × (is_option a b ≡ false))
option_cases Threads Threads = inl (refl, refl)
option_cases Threads Workers = inr (λ e. cc, refl)
option_cases Threads Judge = inr (λ e. cc, refl)
option_cases Threads Steps = inr (λ e. cc, refl)
option_cases Threads Gen = inr (λ e. cc, refl)
option_cases Threads Race = inr (λ e. cc, refl)
option_cases Workers Threads = inr (λ e. cc, refl)
option_cases Workers Workers = inl (refl, refl)
option_cases Workers Judge = inr (λ e. cc, refl)
option_cases Workers Steps = inr (λ e. cc, refl)
option_cases Workers Gen = inr (λ e. cc, refl)
option_cases Workers Race = inr (λ e. cc, refl)
option_cases Judge Threads = inr (λ e. cc, refl)
option_cases Judge Workers = inr (λ e. cc, refl)
option_cases Judge Judge = inl (refl, refl)
option_cases Judge Steps = inr (λ e. cc, refl)
option_cases Judge Gen = inr (λ e. cc, refl)
option_cases Judge Race = inr (λ e. cc, refl)
option_cases Steps Threads = inr (λ e. cc, refl)
option_cases Steps Workers = inr (λ e. cc, refl)
option_cases Steps Judge = inr (λ e. cc, refl)
option_cases Steps Steps = inl (refl, refl)
option_cases Steps Gen = inr (λ e. cc, refl)
option_cases Steps Race = inr (λ e. cc, refl)
option_cases Gen Threads = inr (λ e. cc, refl)
option_cases Gen Workers = inr (λ e. cc, refl)
option_cases Gen Judge = inr (λ e. cc, refl)
option_cases Gen Steps = inr (λ e. cc, refl)
option_cases Gen Gen = inl (refl, refl)
option_cases Gen Race = inr (λ e. cc, refl)
option_cases Race Threads = inr (λ e. cc, refl)
option_cases Race Workers = inr (λ e. cc, refl)
option_cases Race Judge = inr (λ e. cc, refl)
option_cases Race Steps = inr (λ e. cc, refl)
option_cases Race Gen = inr (λ e. cc, refl)
option_cases Race Race = inl (refl, refl)

pub given_same : (s : Sofar) (option : Choice) → given option (marked s option) ≡ true
given_same s Threads = refl
given_same s Workers = refl
given_same s Judge = refl
given_same s Steps = refl
given_same s Gen = refl
given_same s Race = refl

pub given_other : (s : Sofar) (a b : Choice) → a ≢ b → given a (marked s b) ≡ given a s
given_other s Threads Threads other = absurd (other refl)
given_other s Threads Workers other = refl
given_other s Threads Judge other = refl
given_other s Threads Steps other = refl
given_other s Threads Gen other = refl
given_other s Threads Race other = refl
given_other s Workers Threads other = refl
given_other s Workers Workers other = absurd (other refl)
given_other s Workers Judge other = refl
given_other s Workers Steps other = refl
given_other s Workers Gen other = refl
given_other s Workers Race other = refl
given_other s Judge Threads other = refl
given_other s Judge Workers other = refl
given_other s Judge Judge other = absurd (other refl)
given_other s Judge Steps other = refl
given_other s Judge Gen other = refl
given_other s Judge Race other = refl
given_other s Steps Threads other = refl
given_other s Steps Workers other = refl
given_other s Steps Judge other = refl
given_other s Steps Steps other = absurd (other refl)
given_other s Steps Gen other = refl
given_other s Steps Race other = refl
given_other s Gen Threads other = refl
given_other s Gen Workers other = refl
given_other s Gen Judge other = refl
given_other s Gen Steps other = refl
given_other s Gen Gen other = absurd (other refl)
given_other s Gen Race other = refl
given_other s Race Threads other = refl
given_other s Race Workers other = refl
given_other s Race Judge other = refl
given_other s Race Steps other = refl
given_other s Race Gen other = refl
given_other s Race Race other = absurd (other refl)

-- ---- what is read while no value is to come

abbrev pub idle : Sofar → Sofar
idle s = record s { waiting = None }

abbrev pub awaiting : Sofar → Choice → Sofar
awaiting s option = record s { waiting = Some option }

given_idle : (s : Sofar) (option : Choice) → given option (idle s) ≡ given option s
given_idle s Threads = refl
given_idle s Workers = refl
given_idle s Judge = refl
given_idle s Steps = refl
given_idle s Gen = refl
given_idle s Race = refl

marked_idle : (s : Sofar) (option : Choice) → marked (idle s) option ≡ idle (marked s option)
marked_idle s Threads = refl
marked_idle s Workers = refl
marked_idle s Judge = refl
marked_idle s Steps = refl
marked_idle s Gen = refl
marked_idle s Race = refl

new_idle : (s : Sofar) (option : Choice) → given option s ≡ false → with_new (idle s) option true ≡ Some (idle (marked s option))
new_idle s option free = rw (given_idle s option, free) (ap (λ (t : Sofar). Some t) (marked_idle s option))

has_value_of : (option : Choice) (digits : List ℕ) → IsValue option digits → is_some (value option digits) ≡ true
has_value_of option digits is = ap (λ (o : Option ℕ). is_some o) (is_value option digits is)

takes_value : (s : Sofar) (option : Choice) (digits : List ℕ) → IsValue option digits → given option s ≡ false → with_new (idle s) option (is_some (value option digits)) ≡ Some (idle (marked s option))
takes_value s option digits is free = ap (with_new (idle s) option) (has_value_of option digits is) ∙ new_idle s option free

takes_joined : (s : Sofar) (option : Choice) (digits : List ℕ) → is_flag option ≡ false → IsValue option digits → given option s ≡ false → with_word (idle s) (name_of option ++ (codes "=" ++ digits)) ≡ Some (idle (marked s option))
takes_joined s option digits valued is free = ap (with_form (idle s)) (is_joined option digits) ∙ rw valued (takes_value s option digits is free)

takes_name : (s : Sofar) (option : Choice) → is_flag option ≡ false → with_word (idle s) (name_of option) ≡ Some (awaiting s option)
takes_name s option valued = ap (with_form (idle s)) (is_named option) ∙ rw valued refl

takes_flag : (s : Sofar) (option : Choice) → is_flag option ≡ true → given option s ≡ false → with_word (idle s) (name_of option) ≡ Some (idle (marked s option))
takes_flag s option flag free = ap (with_form (idle s)) (is_named option) ∙ rw flag (new_idle s option free)

-- ---- every list of items is read

-- no item's option is given
abbrev pub Free : Sofar → List Item → Type 0
Free s items = AllByRecursion (λ (item : Item). given item.option s ≡ false) items

abbrev fit_with : List (List ℕ) → Option Sofar → Bool
fit_with rest o = fit_more (λ (more : Sofar). fit_from more rest) o

free_more : (s : Sofar) (option : Choice) (items : List Item) → Lacks option items → Free s items → Free (marked s option) items
free_more s option [] lacks free = tt
free_more s option (item ∷ items) lacks free = (given_other s item.option option lacks.0 ∙ free.0, free_more s option items lacks.1 free.1)

pub read_items : (s : Sofar) (items : List Item) → AllByRecursion IsItem items → Once items → Free s items → fit_from (idle s) (flat_map words_of items) ≡ true
read_items s [] all once free = refl
read_items s (item ∷ items) all once free =
    let more = marked s item.option in
    let rest = flat_map words_of items in
    let on = read_items more items all.1 once.1 (free_more s item.option items once.0 free.1) in
    elim (cases_Bool (is_flag item.option)) [
      | inl flag ↦ rw flag (ap (fit_with rest) (takes_flag s item.option flag free.0) ∙ on)
      | inr valued ↦ rw valued (elim (item.behind) as (λ b. fit_from (idle s) (value_words item.option b item.digits ++ rest) ≡ true) [
        | true ↦ ap (fit_with rest) (takes_joined s item.option item.digits valued (all.0 valued) free.0) ∙ on
        | false ↦
            ap (fit_with (item.digits ∷ rest)) (takes_name s item.option valued)
            ∙ ap (fit_with rest) (takes_value s item.option item.digits (all.0 valued) free.0)
            ∙ on
      ])
    ]

-- ---- words that are read are items

pub record Read (s : Sofar) (words : List (List ℕ)) : Type 0 where
  pub items : List Item
  pub whole : words ≡ flat_map words_of items
  pub all : AllByRecursion IsItem items
  pub once : Once items
  pub free : Free s items

-- a value was read, and what follows it
record Takes (s : Sofar) (option : Choice) (digits : List ℕ) (rest : List (List ℕ)) : Type 0 where
  is : IsValue option digits
  free : given option s ≡ false
  more : fit_from (idle (marked s option)) rest ≡ true

taken_free : (s : Sofar) (option : Choice) (digits : List ℕ) (rest : List (List ℕ)) (n : ℕ) (g : Bool) → value option digits ≡ Some n → given option s ≡ g → fit_with rest (with_new (idle s) option true) ≡ true → Takes s option digits rest
taken_free s option digits rest n true v e told =
    let there : given option (idle s) ≡ true = given_idle s option ∙ e in
    let wrong = rw there at told in cc
taken_free s option digits rest n false v e told = record {
  is = (has_value option digits n v).is;
  free = e;
  more = sym (ap (fit_with rest) (new_idle s option e)) ∙ told;
}

taken_by : (s : Sofar) (option : Choice) (digits : List ℕ) (rest : List (List ℕ)) (o : Option ℕ) → value option digits ≡ o → fit_with rest (with_new (idle s) option (is_some o)) ≡ true → Takes s option digits rest
taken_by s option digits rest None v told = cc
taken_by s option digits rest (Some n) v told = taken_free s option digits rest n (given option s) v refl told

taken : (s : Sofar) (option : Choice) (digits : List ℕ) (rest : List (List ℕ)) → fit_with rest (with_new (idle s) option (is_some (value option digits))) ≡ true → Takes s option digits rest
taken s option digits rest told = taken_by s option digits rest (value option digits) refl told

-- items of which none is given once a value was taken are of other options
record Others (s : Sofar) (option : Choice) (items : List Item) : Type 0 where
  lacks : Lacks option items
  free : Free s items

other_of : (s : Sofar) (option a : Choice) → given a (marked s option) ≡ false → a ≢ option
other_of s option a e = λ same. let wrong : true ≡ false = sym (given_same s option) ∙ ap (λ (c : Choice). given c (marked s option)) (sym same) ∙ e in cc

others : (s : Sofar) (option : Choice) (items : List Item) → Free (marked s option) items → Others s option items
others s option [] free = record { lacks = tt; free = tt }
others s option (item ∷ items) free =
    let other = other_of s option item.option free.0 in
    let rest = others s option items free.1 in
    record { lacks = (other, rest.lacks); free = (sym (given_other s item.option option other) ∙ free.0, rest.free) }

with_item : (s : Sofar) (item : Item) (words rest : List (List ℕ)) → IsItem item → given item.option s ≡ false → words ≡ words_of item ++ rest → Read (marked s item.option) rest → Read s words
with_item s item words rest is free e read =
    let apart = others s item.option read.items read.free in
    record {
      items = item ∷ read.items;
      whole = e ∙ ap (λ (ws : List (List ℕ)). words_of item ++ ws) read.whole;
      all = (is, read.all);
      once = (apart.lacks, read.once);
      free = (free, apart.free);
    }

abbrev item_of : Choice → List ℕ → Bool → Item
item_of option digits behind = record { option = option; digits = digits; behind = behind }

abbrev bare : Choice → Item
bare option = record { option = option; digits = []; behind = false }

-- an option that takes no value was read, and what follows it
record TakesFlag (s : Sofar) (option : Choice) (rest : List (List ℕ)) : Type 0 where
  free : given option s ≡ false
  more : fit_from (idle (marked s option)) rest ≡ true

taken_flag : (s : Sofar) (option : Choice) (rest : List (List ℕ)) → fit_with rest (with_new (idle s) option true) ≡ true → TakesFlag s option rest
taken_flag s option rest told = elim (cases_Bool (given option s)) [
  | inl e ↦
      let there : given option (idle s) ≡ true = given_idle s option ∙ e in
      let wrong = rw there at told in cc
  | inr e ↦ record { free = e; more = sym (ap (fit_with rest) (new_idle s option e)) ∙ told }
]

flag_item : (s : Sofar) (option : Choice) (word : List ℕ) (rest : List (List ℕ)) → is_flag option ≡ true → given option s ≡ false → word ≡ name_of option → Read (marked s option) rest → Read s (word ∷ rest)
flag_item s option word rest flag free e read =
    let words : word ∷ rest ≡ words_of (bare option) ++ rest = rw flag (ap (λ (w : List ℕ). w ∷ rest) e) in
    with_item s (bare option) (word ∷ rest) rest (λ valued. let wrong : true ≡ false = sym flag ∙ valued in cc) free words read

value_item : (s : Sofar) (option : Choice) (digits : List ℕ) (behind : Bool) (words rest : List (List ℕ)) → is_flag option ≡ false → IsValue option digits → given option s ≡ false → words ≡ value_words option behind digits ++ rest → Read (marked s option) rest → Read s words
value_item s option digits behind words rest valued is free e read =
    let same : words ≡ words_of (item_of option digits behind) ++ rest = rw valued e in
    with_item s (item_of option digits behind) words rest (λ not_flag. is) free same read

abbrev none_read : (s : Sofar) → Read s []
none_read s = record { items = []; whole = refl; all = tt; once = tt; free = tt }

-- one word is an option that takes no value, or an option with its value
read_one : (s : Sofar) (word : List ℕ) (f : Form) → form word ≡ f → fit_with [] (with_form (idle s) f) ≡ true → Read s (word ∷ [])
read_one s word Other e told = cc
read_one s word (Named option) e told = elim (cases_Bool (is_flag option)) [
  | inl flag ↦
      let t = taken_flag s option [] (rw flag at told) in
      flag_item s option word [] flag t.free (named_word word option e) (none_read (marked s option))
  | inr valued ↦ let wrong = rw valued at told in cc
]
read_one s word (Joined option digits) e told = elim (cases_Bool (is_flag option)) [
  | inl flag ↦ let wrong = rw flag at told in cc
  | inr valued ↦
      let t = taken s option digits [] (rw valued at told) in
      value_item s option digits true (word ∷ []) [] valued t.is t.free (ap (λ (w : List ℕ). w ∷ []) (joined_word word option digits e)) (none_read (marked s option))
]

read_two : (s : Sofar) (word next : List ℕ) (rest : List (List ℕ)) (f : Form) → form word ≡ f → fit_with (next ∷ rest) (with_form (idle s) f) ≡ true
    → ((t : Sofar) → fit_from (idle t) (next ∷ rest) ≡ true → Read t (next ∷ rest)) → ((t : Sofar) → fit_from (idle t) rest ≡ true → Read t rest) → Read s (word ∷ next ∷ rest)
read_two s word next rest Other e told more on = cc
read_two s word next rest (Named option) e told more on = elim (cases_Bool (is_flag option)) [
  | inl flag ↦
      let t = taken_flag s option (next ∷ rest) (rw flag at told) in
      flag_item s option word (next ∷ rest) flag t.free (named_word word option e) (more (marked s option) t.more)
  | inr valued ↦
      let t = taken s option next rest (rw valued at told) in
      value_item s option next false (word ∷ next ∷ rest) rest valued t.is t.free (ap (λ (w : List ℕ). w ∷ next ∷ rest) (named_word word option e)) (on (marked s option) t.more)
]
read_two s word next rest (Joined option digits) e told more on = elim (cases_Bool (is_flag option)) [
  | inl flag ↦ let wrong = rw flag at told in cc
  | inr valued ↦
      let t = taken s option digits (next ∷ rest) (rw valued at told) in
      value_item s option digits true (word ∷ next ∷ rest) (next ∷ rest) valued t.is t.free (ap (λ (w : List ℕ). w ∷ next ∷ rest) (joined_word word option digits e)) (more (marked s option) t.more)
]

pub read_words : (s : Sofar) (words : List (List ℕ)) → fit_from (idle s) words ≡ true → Read s words
read_words s [] told = record { items = []; whole = refl; all = tt; once = tt; free = tt }
read_words s (word ∷ []) told = read_one s word (form word) refl told
read_words s (word ∷ next ∷ rest) told = read_two s word next rest (form word) refl told (λ t h. read_words t (next ∷ rest) h) (λ t h. read_words t rest h)
