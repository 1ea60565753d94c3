-- What clap's walk makes of the words of items: one row for each, which holds the item's value.
use Rattle.std.proofs.Common.{◌≡◌, ◌≢◌, ℕ, ◌==◌, List, [], ◌∷◌, ◌++◌, refl, sym, ap, subst, ◌∙◌, arith, Bool, true, false, Option, Some, None, inl, inr, append_assoc, append-nil, bytes_eq, codes, flat_map, map, if◌then◌else◌}
use Rattle.std.specs.Prelude.{fold, option_and_then, unwrap_or}
use Rattle.std.specs.List.{AllByRecursion, list_all}
use Rattle.std.proofs.lemmas.Bool.{cases_Bool, and_parts, or_parts}
use Rattle.std.proofs.lemmas.Bool.Decides.{nat_tests}
use Rattle.std.specs.Option.{option_map_or}
use Rattle.clap.specs.Lexer.{long_of, short_of}
use Rattle.clap.specs.Simple.{built, filled, matches_of, with_index}
use Rattle.clap.specs.Walk.{Held, Row, Rule, Step, Text, Walk, after_step, at_row, first_of, has_row, long_or_other, more_values, nothing_held, option, reacted, reading_by, rows_of, settled, short_or_plain, trailing, used, walk, walk_from, walked, with_default}
use Rattle.clap.specs.Matches.{first_value}
use Rattle.clap.specs.declared.parser.matches.Found.{Found}
use Rattle.clap.specs.declared.parser.matches.ValueSource.TheVariants.{CommandLine, DefaultValue}
use Rattle.clap.proofs.WalkLemmas.{first_value-rows}
use Rattle.clap.proofs.OnLiterals.{clap_on_literals}
use Rattle.std.specs.Char.{is_ascii_digit}
use Rattle.rv_words.specs.declared.choices.Asked.{Asked}
use Rattle.rv_words.specs.declared.choices.Choice.{Choice}
use Rattle.rv_words.specs.declared.choices.Choice.TheVariants.{Threads, Workers, Judge, Steps, Gen, Race}
use Rattle.rv_words.specs.Command.{app, asked_in, flag_in, found_in, id_of, rule_for, valued_rule}
use Rattle.rv_words.specs.Reading.{value}
use Rattle.rv_words.specs.Words.{AreAccepted, Ask, IsValue, Item, Once, asked_of, is_among, is_flag, name_of, value_of, words_of}
use Rattle.rv_words.proofs.Items.{IsItem, Lacks, is_option}
use Rattle.rv_words.proofs.Accepts.{option_cases, value_words}
use Rattle.rv_words.proofs.Values.{is_value}

-- the options as clap builds them
abbrev rules : List Rule
rules = (built app).top.rules

abbrev rule : Choice → Rule
rule Threads = filled (rule_for Threads)
rule Workers = filled (rule_for Workers)
rule Judge = filled (rule_for Judge)
rule Steps = filled (rule_for Steps)
rule Gen = filled (rule_for Gen)
rule Race = filled (rule_for Race)

abbrev awaiting : Choice → Walk → Walk
awaiting o w = record w { waiting = option (id_of o) }

-- ---- one item

-- the values of a use, and those of its row
abbrev use_of : Choice → List ℕ → List (List ℕ)
use_of o digits = if is_flag o then [] else digits ∷ []

abbrev values_of : Choice → List ℕ → List (List ℕ)
values_of o digits = if is_flag o then codes "true" ∷ [] else digits ∷ []

step_flag : (o : Choice) (h : Held) → is_flag o ≡ true → walked rules [] (walk_from h) (name_of o) ≡ walk_from (reacted rules (rule o) [] h)
unfolding clap_on_literals
step_flag Threads h flag = refl
step_flag Workers h flag = cc
step_flag Judge h flag = cc
step_flag Steps h flag = cc
step_flag Gen h flag = cc
step_flag Race h flag = refl

step_joined : (o : Choice) (digits : List ℕ) (h : Held) → is_flag o ≡ false → walked rules [] (walk_from h) (name_of o ++ (codes "=" ++ digits)) ≡ walk_from (reacted rules (rule o) (digits ∷ []) h)
unfolding clap_on_literals
step_joined Threads digits h valued = cc
step_joined Workers digits h valued = refl
step_joined Judge digits h valued = refl
step_joined Steps digits h valued = refl
step_joined Gen digits h valued = refl
step_joined Race digits h valued = cc

step_named : (o : Choice) (h : Held) → is_flag o ≡ false → walked rules [] (walk_from h) (name_of o) ≡ awaiting o (walk_from (record (settled rules h) { pending = Some (id_of o, []) }))
unfolding clap_on_literals
step_named Threads h valued = cc
step_named Workers h valued = refl
step_named Judge h valued = refl
step_named Steps h valued = refl
step_named Gen h valued = refl
step_named Race h valued = cc

-- a word that begins with a digit is no option
record IsPlain (word : List ℕ) : Type 0 where
  dashes : bytes_eq word (45 ∷ 45 ∷ []) ≡ false
  long : long_of word ≡ None
  short : short_of word ≡ None

no_dash : (d : ℕ) → is_ascii_digit d ≡ true → (d == 45) ≡ false
no_dash d digit = grind (arith, nat_tests)

digits_plain : (o : Choice) (digits : List ℕ) → IsValue o digits → IsPlain digits
digits_plain o [] v = absurd (let some = v.some in omega (arith, some))
digits_plain o (d ∷ ds) v =
    let none = no_dash d (and_parts (is_ascii_digit d) (list_all is_ascii_digit ds) v.decimal).0 in
    record { dashes = rw none refl; long = rw none refl; short = rw none refl }

abbrev stepped : Walk → List ℕ → Held × Step → Walk
stepped w word met = after_step rules word w met.0 met.1

step_value : (o : Choice) (digits : List ℕ) (h : Held) → is_flag o ≡ false → IsPlain digits → walked rules [] (awaiting o (walk_from (record h { pending = Some (id_of o, []) }))) digits ≡ walk_from (record h { pending = Some (id_of o, digits ∷ []) })
unfolding clap_on_literals
step_value o digits h valued plain =
    let held = record h { pending = Some (id_of o, []) } in
    let w = awaiting o (walk_from held) in
    ap (λ (b : Bool). stepped w digits (if b then (held, trailing 1) else long_or_other rules (option (id_of o)) digits (long_of digits) held)) plain.dashes
    ∙ ap (λ (l : Option (Text × Option Text)). stepped w digits (long_or_other rules (option (id_of o)) digits l held)) plain.long
    ∙ ap (λ (s : Option Text). stepped w digits (short_or_plain rules (option (id_of o)) digits s held)) plain.short
    ∙ takes o valued
  where
    takes : (o : Choice) → is_flag o ≡ false → stepped (awaiting o (walk_from (record h { pending = Some (id_of o, []) }))) digits (short_or_plain rules (option (id_of o)) digits None (record h { pending = Some (id_of o, []) })) ≡ walk_from (record h { pending = Some (id_of o, digits ∷ []) })
    takes Threads valued = cc
    takes Workers valued = refl
    takes Judge valued = refl
    takes Steps valued = refl
    takes Gen valued = refl
    takes Race valued = cc

settled_named : (o : Choice) (digits : List ℕ) (h : Held) → is_flag o ≡ false → (settled rules (record (settled rules h) { pending = Some (id_of o, digits ∷ []) })).rows ≡ used (rule o) (digits ∷ []) (settled rules h).rows
settled_named Threads digits h valued = cc
settled_named Workers digits h valued = refl
settled_named Judge digits h valued = refl
settled_named Steps digits h valued = refl
settled_named Gen digits h valued = refl
settled_named Race digits h valued = cc

settled_joined : (o : Choice) (digits : List ℕ) (h : Held) → (settled rules (reacted rules (rule o) (digits ∷ []) h)).rows ≡ used (rule o) (digits ∷ []) (settled rules h).rows
settled_joined o digits h = refl

settled_flag : (o : Choice) (h : Held) → is_flag o ≡ true → (settled rules (reacted rules (rule o) [] h)).rows ≡ used (rule o) [] (settled rules h).rows
settled_flag Threads h flag = refl
settled_flag Workers h flag = cc
settled_flag Judge h flag = cc
settled_flag Steps h flag = cc
settled_flag Gen h flag = cc
settled_flag Race h flag = refl

-- the walk over an item's words: what is held behind them, and its rows
record Steps_over (o : Choice) (digits : List ℕ) (words rest : List (List ℕ)) (h : Held) : Type 0 where
  held : Held
  is : fold (walked rules []) (walk_from h) (words ++ rest) ≡ fold (walked rules []) (walk_from held) rest
  rows : (settled rules held).rows ≡ used (rule o) (use_of o digits) (settled rules h).rows

flag_item : (o : Choice) (digits : List ℕ) (h : Held) (rest : List (List ℕ)) → is_flag o ≡ true → Steps_over o digits (name_of o ∷ []) rest h
flag_item o digits h rest flag = record {
  held = reacted rules (rule o) [] h;
  is = ap (λ (w : Walk). fold (walked rules []) w rest) (step_flag o h flag);
  rows = rw flag (settled_flag o h flag);
}

value_item : (o : Choice) (behind : Bool) (digits : List ℕ) (h : Held) (rest : List (List ℕ)) → is_flag o ≡ false → IsValue o digits → Steps_over o digits (value_words o behind digits) rest h
value_item o true digits h rest valued is = record {
  held = reacted rules (rule o) (digits ∷ []) h;
  is = ap (λ (w : Walk). fold (walked rules []) w rest) (step_joined o digits h valued);
  rows = rw valued refl;
}
value_item o false digits h rest valued is = record {
  held = record (settled rules h) { pending = Some (id_of o, digits ∷ []) };
  is =
      ap (λ (w : Walk). fold (walked rules []) w (digits ∷ rest)) (step_named o h valued)
      ∙ ap (λ (w : Walk). fold (walked rules []) w rest) (step_value o digits (settled rules h) valued (digits_plain o digits is));
  rows = rw valued (settled_named o digits h valued);
}

one_item : (o : Choice) (behind : Bool) (digits : List ℕ) (h : Held) (rest : List (List ℕ)) → (is_flag o ≡ false → IsValue o digits) → Steps_over o digits (if is_flag o then name_of o ∷ [] else value_words o behind digits) rest h
one_item Threads behind digits h rest is = flag_item Threads digits h rest refl
one_item Workers behind digits h rest is = value_item Workers behind digits h rest refl (is refl)
one_item Judge behind digits h rest is = value_item Judge behind digits h rest refl (is refl)
one_item Steps behind digits h rest is = value_item Steps behind digits h rest refl (is refl)
one_item Gen behind digits h rest is = value_item Gen behind digits h rest refl (is refl)
one_item Race behind digits h rest is = flag_item Race digits h rest refl

-- ---- all items

-- the rows after the items' uses
abbrev with_items : List Row → List Item → List Row
with_items rows [] = rows
with_items rows (item ∷ items) = with_items (used (rule item.option) (use_of item.option item.digits) rows) items

walk_items : (items : List Item) (h : Held) → AllByRecursion IsItem items → (settled rules (fold (walked rules []) (walk_from h) (flat_map words_of items)).held).rows ≡ with_items (settled rules h).rows items
walk_items [] h all = refl
walk_items (item ∷ items) h all =
    let one = one_item item.option item.behind item.digits h (flat_map words_of items) all.0 in
    ap (λ (w : Walk). (settled rules w.held).rows) one.is
    ∙ walk_items items one.held all.1
    ∙ ap (λ (rows : List Row). with_items rows items) one.rows

-- ---- the rows are those of the items

abbrev row_of : Choice → List ℕ → Row
row_of o digits = record { id = id_of o; values = values_of o digits; count = None; source = Some CommandLine; reading = reading_by (rule o) }

abbrev rows_from : List Item → List Row
rows_from items = map (λ (item : Item). row_of item.option item.digits) items

-- no row has this id
abbrev Apart : List ℕ → List Row → Type 0
Apart id rows = AllByRecursion (λ (r : Row). bytes_eq r.id id ≡ false) rows

at_end : (id : List ℕ) (change : Row → List Row) (missing rows : List Row) → Apart id rows → at_row id change missing rows ≡ rows ++ missing
at_end id change missing [] apart = refl
at_end id change missing (r ∷ rs) apart = rw apart.0 (ap (λ (more : List Row). r ∷ more) (at_end id change missing rs apart.1))

apart_more : (id : List ℕ) (rows : List Row) (row : Row) → Apart id rows → bytes_eq row.id id ≡ false → Apart id (rows ++ row ∷ [])
apart_more id [] row apart other = (other, tt)
apart_more id (r ∷ rs) row apart other = (apart.0, apart_more id rs row apart.1 other)

twice : (id : List ℕ) (change : Row → List Row) (missing rows : List Row) → Apart id rows → at_row id change missing (at_row id (λ _. []) [] rows) ≡ rows ++ missing
twice id change missing rows apart = ap (at_row id change missing) (at_end id (λ _. []) [] rows apart ∙ append-nil rows) ∙ at_end id change missing rows apart

used_last : (o : Choice) (digits : List ℕ) (rows : List Row) → Apart (id_of o) rows → used (rule o) (use_of o digits) rows ≡ rows ++ row_of o digits ∷ []
used_last Threads digits rows apart = twice (id_of Threads) (more_values CommandLine (codes "true" ∷ [])) (row_of Threads digits ∷ []) rows apart
used_last Workers digits rows apart = twice (id_of Workers) (more_values CommandLine (digits ∷ [])) (row_of Workers digits ∷ []) rows apart
used_last Judge digits rows apart = twice (id_of Judge) (more_values CommandLine (digits ∷ [])) (row_of Judge digits ∷ []) rows apart
used_last Steps digits rows apart = twice (id_of Steps) (more_values CommandLine (digits ∷ [])) (row_of Steps digits ∷ []) rows apart
used_last Gen digits rows apart = twice (id_of Gen) (more_values CommandLine (digits ∷ [])) (row_of Gen digits ∷ []) rows apart
used_last Race digits rows apart = twice (id_of Race) (more_values CommandLine (codes "true" ∷ [])) (row_of Race digits ∷ []) rows apart

ids_apart : (a b : Choice) → bytes_eq (id_of a) (id_of b) ≡ is_option b a
ids_apart Threads Threads = refl
ids_apart Threads Workers = refl
ids_apart Threads Judge = refl
ids_apart Threads Steps = refl
ids_apart Threads Gen = refl
ids_apart Threads Race = refl
ids_apart Workers Threads = refl
ids_apart Workers Workers = refl
ids_apart Workers Judge = refl
ids_apart Workers Steps = refl
ids_apart Workers Gen = refl
ids_apart Workers Race = refl
ids_apart Judge Threads = refl
ids_apart Judge Workers = refl
ids_apart Judge Judge = refl
ids_apart Judge Steps = refl
ids_apart Judge Gen = refl
ids_apart Judge Race = refl
ids_apart Steps Threads = refl
ids_apart Steps Workers = refl
ids_apart Steps Judge = refl
ids_apart Steps Steps = refl
ids_apart Steps Gen = refl
ids_apart Steps Race = refl
ids_apart Gen Threads = refl
ids_apart Gen Workers = refl
ids_apart Gen Judge = refl
ids_apart Gen Steps = refl
ids_apart Gen Gen = refl
ids_apart Gen Race = refl
ids_apart Race Threads = refl
ids_apart Race Workers = refl
ids_apart Race Judge = refl
ids_apart Race Steps = refl
ids_apart Race Gen = refl
ids_apart Race Race = refl

other_id : (a b : Choice) → b ≢ a → bytes_eq (id_of a) (id_of b) ≡ false
other_id a b other = elim (option_cases b a) [
  | inl same ↦ absurd (other same.0)
  | inr apart ↦ ids_apart a b ∙ apart.1
]

-- no row is of an item's option
abbrev AreNew : List Row → List Item → Type 0
AreNew rows items = AllByRecursion (λ (item : Item). Apart (id_of item.option) rows) items

new_more : (o : Choice) (digits : List ℕ) (rows : List Row) (items : List Item) → Lacks o items → AreNew rows items → AreNew (rows ++ row_of o digits ∷ []) items
new_more o digits rows [] lacks new = tt
new_more o digits rows (item ∷ items) lacks new = (apart_more (id_of item.option) rows (row_of o digits) new.0 (other_id o item.option lacks.0), new_more o digits rows items lacks.1 new.1)

new_none : (items : List Item) → AreNew [] items
new_none [] = tt
new_none (item ∷ items) = (tt, new_none items)

all_rows : (rows : List Row) (items : List Item) → Once items → AreNew rows items → with_items rows items ≡ rows ++ rows_from items
all_rows rows [] once new = sym (append-nil rows)
all_rows rows (item ∷ items) once new =
    ap (λ (more : List Row). with_items more items) (used_last item.option item.digits rows new.0)
    ∙ all_rows (rows ++ row_of item.option item.digits ∷ []) items once.1 (new_more item.option item.digits rows items once.0 new.1)
    ∙ append_assoc rows (row_of item.option item.digits ∷ []) (rows_from items)

either : {X : Type 0} (b : Bool) (x : X) → (if b then x else x) ≡ x
either true x = refl
either false x = refl

-- no option with a value has a default
abbrev listed : Choice → Rule
listed o = with_index 1 (filled (valued_rule (id_of o)))

abbrev listed_flag : Choice → Rule
listed_flag o = with_index 1 (rule o)

default_none : (o : Choice) (rows : List Row) → with_default rows (listed o) ≡ rows
default_none Threads rows = either (has_row (id_of Threads) rows) rows
default_none Workers rows = either (has_row (id_of Workers) rows) rows
default_none Judge rows = either (has_row (id_of Judge) rows) rows
default_none Steps rows = either (has_row (id_of Steps) rows) rows
default_none Gen rows = either (has_row (id_of Gen) rows) rows
default_none Race rows = either (has_row (id_of Race) rows) rows

-- each flag has one
abbrev defaulted : List Row → List Row
defaulted rows = with_default (with_default rows (listed_flag Threads)) (listed_flag Race)

flag_defaults : (rows : List Row) → fold with_default rows rules ≡ defaulted rows
flag_defaults rows =
    let begun = with_default rows (listed_flag Threads) in
    ap (λ (more : List Row). with_default more (listed_flag Race)) (
    default_none Gen (with_default (with_default (with_default begun (listed Workers)) (listed Judge)) (listed Steps))
    ∙ default_none Steps (with_default (with_default begun (listed Workers)) (listed Judge))
    ∙ default_none Judge (with_default begun (listed Workers))
    ∙ default_none Workers begun)

pub matched : (items : List Item) → AllByRecursion IsItem items → Once items → matches_of app (flat_map words_of items) ≡ defaulted (rows_from items)
matched items all once =
    flag_defaults (settled rules (walk rules [] nothing_held (flat_map words_of items)).held).rows
    ∙ ap defaulted (walk_items items nothing_held all ∙ all_rows [] items once (new_none items))

-- ---- the row of a flag that was not given

abbrev unflagged : Choice → Row
unflagged f = record { id = id_of f; values = codes "false" ∷ []; count = None; source = Some DefaultValue; reading = reading_by (rule f) }

apart_of : (id : List ℕ) (rows : List Row) → has_row id rows ≡ false → Apart id rows
apart_of id [] e = tt
apart_of id (r ∷ rs) e = let parts = or_parts (bytes_eq r.id id) (has_row id rs) e in (parts.0, apart_of id rs parts.1)

with_row : (f : Choice) (rows : List Row) → is_flag f ≡ true → has_row (id_of f) rows ≡ true → with_default rows (listed_flag f) ≡ rows
with_row Threads rows flag e = rw e refl
with_row Workers rows flag e = cc
with_row Judge rows flag e = cc
with_row Steps rows flag e = cc
with_row Gen rows flag e = cc
with_row Race rows flag e = rw e refl

without_row : (f : Choice) (rows : List Row) → is_flag f ≡ true → has_row (id_of f) rows ≡ false → with_default rows (listed_flag f) ≡ rows ++ unflagged f ∷ []
without_row Threads rows flag e = rw e (at_end (id_of Threads) (more_values DefaultValue (codes "false" ∷ [])) (unflagged Threads ∷ []) rows (apart_of (id_of Threads) rows e))
without_row Workers rows flag e = cc
without_row Judge rows flag e = cc
without_row Steps rows flag e = cc
without_row Gen rows flag e = cc
without_row Race rows flag e = rw e (at_end (id_of Race) (more_values DefaultValue (codes "false" ∷ [])) (unflagged Race ∷ []) rows (apart_of (id_of Race) rows e))

-- what holds of rows, and of them with such a row behind, holds with the flag's default
by_default : (f : Choice) (rows : List Row) (P : List Row → Type 0) → is_flag f ≡ true → P rows → P (rows ++ unflagged f ∷ []) → P (with_default rows (listed_flag f))
by_default f rows P flag bare behind = elim (cases_Bool (has_row (id_of f) rows)) [
  | inl t ↦ subst P (sym (with_row f rows flag t)) bare
  | inr n ↦ subst P (sym (without_row f rows flag n)) behind
]

-- ---- what the rows ask

found : (o : Choice) (items : List Item) → is_flag o ≡ false → AllByRecursion IsItem items → found_in (rows_from items) o ≡ value_of o items
found o [] valued all = refl
found o (item ∷ items) valued all = elim (option_cases o item.option) [
  | inl same ↦ here same.0 same.1
  | inr other ↦ rw (ids_apart item.option o, other.1) (found o items valued all.1)
]
  where
    here : o ≡ item.option → is_option o item.option ≡ true → found_in (rows_from (item ∷ items)) o ≡ value_of o (item ∷ items)
    here same is =
        let takes : is_flag item.option ≡ false = ap is_flag (sym same) ∙ valued in
        rw (ids_apart item.option o, is, same, takes) (is_value item.option item.digits (all.0 takes))

-- no value is behind
found_behind : (f o : Choice) (rows : List Row) → is_flag f ≡ true → is_flag o ≡ false → found_in (rows ++ unflagged f ∷ []) o ≡ found_in rows o
found_behind f o [] flag valued =
    let apart : bytes_eq (id_of f) (id_of o) ≡ false = other_id f o (λ same. let wrong : true ≡ false = sym flag ∙ ap is_flag (sym same) ∙ valued in cc) in
    rw apart refl
found_behind f o (r ∷ rs) flag valued = elim (cases_Bool (bytes_eq r.id (id_of o))) [
  | inl t ↦ rw t refl
  | inr n ↦ rw n (found_behind f o rs flag valued)
]

found_default : (f o : Choice) (rows : List Row) → is_flag f ≡ true → is_flag o ≡ false → found_in (with_default rows (listed_flag f)) o ≡ found_in rows o
found_default f o rows flag valued = by_default f rows (λ (more : List Row). found_in more o ≡ found_in rows o) flag refl (found_behind f o rows flag valued)

found_all : (o : Choice) (items : List Item) → is_flag o ≡ false → AllByRecursion IsItem items → found_in (defaulted (rows_from items)) o ≡ value_of o items
found_all o items valued all =
    found_default Race o (with_default (rows_from items) (listed_flag Threads)) refl valued
    ∙ found_default Threads o (rows_from items) refl valued
    ∙ found o items valued all

flagged : (o : Choice) (items : List Item) → is_flag o ≡ true → flag_in (rows_from items) o ≡ is_among o items
flagged o [] flag = refl
flagged o (item ∷ items) flag = elim (option_cases o item.option) [
  | inl same ↦ here same.0 same.1
  | inr other ↦ rw (ids_apart item.option o, other.1) (flagged o items flag)
]
  where
    here : o ≡ item.option → is_option o item.option ≡ true → flag_in (rows_from (item ∷ items)) o ≡ is_among o (item ∷ items)
    here same is =
        let mine : is_flag item.option ≡ true = ap is_flag (sym same) ∙ flag in
        rw (ids_apart item.option o, is, mine) refl

-- no flag that was given is behind
flag_behind : (f o : Choice) (rows : List Row) → flag_in (rows ++ unflagged f ∷ []) o ≡ flag_in rows o
flag_behind f o [] = elim (cases_Bool (bytes_eq (id_of f) (id_of o))) [
  | inl t ↦ rw t refl
  | inr n ↦ rw n refl
]
flag_behind f o (r ∷ rs) = elim (cases_Bool (bytes_eq r.id (id_of o))) [
  | inl t ↦ rw t refl
  | inr n ↦ rw n (flag_behind f o rs)
]

flag_default : (f o : Choice) (rows : List Row) → is_flag f ≡ true → flag_in (with_default rows (listed_flag f)) o ≡ flag_in rows o
flag_default f o rows flag = by_default f rows (λ (more : List Row). flag_in more o ≡ flag_in rows o) flag refl (flag_behind f o rows)

flag_all : (o : Choice) (items : List Item) → is_flag o ≡ true → flag_in (defaulted (rows_from items)) o ≡ is_among o items
flag_all o items asked =
    flag_default Race o (with_default (rows_from items) (listed_flag Threads)) refl
    ∙ flag_default Threads o (rows_from items) refl
    ∙ flagged o items asked

-- what is asked, by its parts
abbrev asking : Bool → Option ℕ → Option ℕ → Option ℕ → Option ℕ → Bool → Asked
asking threads workers judge steps seed race = record { threads = threads; workers = unwrap_or workers 2; judge = unwrap_or judge 0; steps = unwrap_or steps 1; seed = seed; race = race }

asks : (items : List Item) → AllByRecursion IsItem items → asked_in (defaulted (rows_from items)) ≡ asked_of items
asks items all =
    let rows = defaulted (rows_from items) in
    ap (λ (b : Bool). asking b (found_in rows Workers) (found_in rows Judge) (found_in rows Steps) (found_in rows Gen) (flag_in rows Race)) (flag_all Threads items refl)
    ∙ ap (λ (o : Option ℕ). asking (is_among Threads items) o (found_in rows Judge) (found_in rows Steps) (found_in rows Gen) (flag_in rows Race)) (found_all Workers items refl all)
    ∙ ap (λ (o : Option ℕ). asking (is_among Threads items) (value_of Workers items) o (found_in rows Steps) (found_in rows Gen) (flag_in rows Race)) (found_all Judge items refl all)
    ∙ ap (λ (o : Option ℕ). asking (is_among Threads items) (value_of Workers items) (value_of Judge items) o (found_in rows Gen) (flag_in rows Race)) (found_all Steps items refl all)
    ∙ ap (λ (o : Option ℕ). asking (is_among Threads items) (value_of Workers items) (value_of Judge items) (value_of Steps items) o (flag_in rows Race)) (found_all Gen items refl all)
    ∙ ap (λ (b : Bool). asking (is_among Threads items) (value_of Workers items) (value_of Judge items) (value_of Steps items) (value_of Gen items) b) (flag_all Race items refl)

-- words ask what clap's matches of them ask
pub asked_so : (words : List (List ℕ)) (asked : Asked) → Ask words asked → asked ≡ asked_in (matches_of app words)
asked_so words asked ask =
    let spelled = ask.spelled in
    ask.asks ∙ sym (
    ap (λ (ws : List (List ℕ)). asked_in (matches_of app ws)) spelled.whole
    ∙ ap asked_in (matched ask.items spelled.fit spelled.once)
    ∙ asks ask.items spelled.fit)

-- accepted words ask that
pub asked_all : (words : List (List ℕ)) (asked : Asked) → AreAccepted words → asked ≡ asked_in (matches_of app words) → Ask words asked
asked_all words asked accepted e =
    let spelled = accepted.spelled in
    record { items = accepted.items; spelled = spelled; asks = e ∙ sym (asked_so words (asked_of accepted.items) (record { items = accepted.items; spelled = spelled; asks = refl })) }

-- ---- what is got of the matches

pub found_by : (f : Found) (o : Choice) (id : List ℕ) (text : Option (List ℕ)) → id ≡ id_of o → text ≡ first_value f id → found_in (rows_of f) o ≡ option_and_then (value o) text
found_by f o id text is e = ap (option_and_then (value o)) (sym (e ∙ first_value-rows f id ∙ ap (λ (i : List ℕ). first_of i (rows_of f)) is))

pub flag_by : (f : Found) (o : Choice) (id : List ℕ) (text : Option (List ℕ)) → id ≡ id_of o → text ≡ first_value f id → flag_in (rows_of f) o ≡ option_map_or (λ (t : List ℕ). bytes_eq t (codes "true")) text false
flag_by f o id text is e = ap (λ (o : Option (List ℕ)). option_map_or (λ (t : List ℕ). bytes_eq t (codes "true")) o false) (sym (e ∙ first_value-rows f id ∙ ap (λ (i : List ℕ). first_of i (rows_of f)) is))
