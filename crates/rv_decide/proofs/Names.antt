-- The number of an index, found again by its name.
use Rattle.std.proofs.Common.{◌≡◌, ℕ, zero, suc, ◌+◌, ◌<◌, List, [], ◌∷◌, refl, sym, ap, ◌∙◌, subst, arith, Bool, true, false, ◌==◌, ◌||◌, Option, Some, None, length, get_or, nat_eq, map, bytes_eq}
use Rattle.std.specs.Prelude.{if◌then◌else◌}
use Rattle.std.specs.List.{list_all, list_any, position_or_len}
use Rattle.std.proofs.lemmas.List.Quantifiers.{position-Some}
use Rattle.std.proofs.lemmas.List.Sums.{position_or_len_is}
use Rattle.std.proofs.lemmas.Slice.Eq.{bytes_eq-Decides}
use Rattle.std.specs.Cmp.{first_so, second_so}
use Rattle.std.proofs.lemmas.Bool.{and_from, eqb-true, and_right, lt-ltb}
use Rattle.std.proofs.lemmas.Option.{same_Some}
use Rattle.rv_value.proofs.Tests.{no_way}
use Rattle.rv_judge.specs.declared.events.Event.{Event}
use Rattle.rv_judge.specs.declared.events.Event.TheVariants as events
use Rattle.rv_judge.specs.Runs.{has_index}
use Rattle.rv_lang.specs.declared.reply.ShownEvent.{ShownEvent}
use Rattle.rv_lang.specs.declared.reply.ShownEvent.TheVariants as told
use Rattle.rv_catalog.specs.declared.def.IndexDef.{IndexDef}
use Rattle.rv_model.specs.Database.{index_at, no_index}
use Rattle.rv_model.specs.Showing.{numbers_over, shown_event}
use Rattle.rv_decide.specs.Naming.{AreNamedApart}
use Rattle.rv_decide.specs.Reading.{drop_of, event_of, events_of, is_of, list_of, number_of, scan_of, with_first}

-- Events with numbers go to the events that are shown so.

named_of : (indexes : List IndexDef) (table : ℕ) (name : List ℕ) (i : ℕ) → number_of indexes table name ≡ Some i → (index_at indexes i).name ≡ name
named_of indexes table name i e =
    let found = position-Some (is_of table name) indexes i no_index e in
    (bytes_eq-Decides (index_at indexes i).name name).0 (second_so _ _ found.1)

shown_scan : (indexes : List IndexDef) (name : List ℕ) (found : Option ℕ) (e : Event) → ((i : ℕ) → found ≡ Some i → (index_at indexes i).name ≡ name) → scan_of found ≡ Some e → shown_event indexes e ≡ told.Scan name
shown_scan indexes name None e is read = cc
shown_scan indexes name (Some i) e is read = ap (shown_event indexes) (sym (same_Some _ _ read)) ∙ ap told.Scan (is i refl)

shown_list : (indexes : List IndexDef) (name : List ℕ) (keys : ℕ) (found : Option ℕ) (e : Event) → ((i : ℕ) → found ≡ Some i → (index_at indexes i).name ≡ name) → list_of keys found ≡ Some e → shown_event indexes e ≡ told.List name keys
shown_list indexes name keys None e is read = cc
shown_list indexes name keys (Some i) e is read = ap (shown_event indexes) (sym (same_Some _ _ read)) ∙ ap (λ n. told.List n keys) (is i refl)

shown_drop : (indexes : List IndexDef) (name : List ℕ) (found : Option ℕ) (e : Event) → ((i : ℕ) → found ≡ Some i → (index_at indexes i).name ≡ name) → drop_of found ≡ Some e → shown_event indexes e ≡ told.Drop name
shown_drop indexes name None e is read = cc
shown_drop indexes name (Some i) e is read = ap (shown_event indexes) (sym (same_Some _ _ read)) ∙ ap told.Drop (is i refl)

shown_one : (indexes : List IndexDef) (table : ℕ) (shown : ShownEvent) (e : Event) → event_of indexes table shown ≡ Some e → shown_event indexes e ≡ shown
shown_one indexes table (told.At control) e read = ap (shown_event indexes) (sym (same_Some _ _ read))
shown_one indexes table (told.Scan name) e read = shown_scan indexes name (number_of indexes table name) e (named_of indexes table name) read
shown_one indexes table (told.List name keys) e read = shown_list indexes name keys (number_of indexes table name) e (named_of indexes table name) read
shown_one indexes table (told.Drop name) e read = shown_drop indexes name (number_of indexes table name) e (named_of indexes table name) read
shown_one indexes table told.Full e read = ap (shown_event indexes) (sym (same_Some _ _ read))
shown_one indexes table told.Stop e read = ap (shown_event indexes) (sym (same_Some _ _ read))

pub shown_all : (indexes : List IndexDef) (table : ℕ) (shown : List ShownEvent) (es : List Event) → events_of indexes table shown ≡ Some es → map (shown_event indexes) es ≡ shown
shown_all indexes table [] es read = ap (map (shown_event indexes)) (sym (same_Some _ _ read))
shown_all indexes table (s ∷ ss) es read = by (event_of indexes table s) (events_of indexes table ss) (shown_all indexes table ss) refl refl read
  where
    by : (first : Option Event) (rest : Option (List Event)) → ((fs : List Event) → events_of indexes table ss ≡ Some fs → map (shown_event indexes) fs ≡ ss) → event_of indexes table s ≡ first → events_of indexes table ss ≡ rest → with_first first rest ≡ Some es → map (shown_event indexes) es ≡ s ∷ ss
    by (Some e) (Some fs) tails f r read =
        ap (map (shown_event indexes)) (sym (same_Some _ _ read)) ∙ ap (λ x. x ∷ map (shown_event indexes) fs) (shown_one indexes table s e f) ∙ ap (λ xs. s ∷ xs) (tails fs r)
    by (Some e) None tails f r read = cc
    by None rest tails f r read = cc

-- Known numbers are found by their names.

-- an index over the table stands in a place, counted from a number
record Stands (table number : ℕ) (ds : List IndexDef) (i : ℕ) : Type 0 where
  pub place : ℕ
  pub at : i ≡ number + place
  pub within : place < length ds
  pub over : ((get_or ds place no_index).table == table) ≡ true

stands : (table number : ℕ) (ds : List IndexDef) (i : ℕ) → has_index i (numbers_over table number ds) ≡ true → Stands table number ds i
stands table number [] i h = no_way (sym h)
stands table number (d ∷ ds) i h = by (d.table == table) refl (stands table (number + 1) ds i) h
  where
    later : Stands table (number + 1) ds i → Stands table number (d ∷ ds) i
    later s = record { place = suc s.place; at = omega (arith, s.at); within = omega (arith, s.within); over = s.over }

    or : (b : Bool) → (d.table == table) ≡ true → (has_index i (numbers_over table (number + 1) ds) ≡ true → Stands table (number + 1) ds i) → nat_eq number i ≡ b → (b || has_index i (numbers_over table (number + 1) ds)) ≡ true → Stands table number (d ∷ ds) i
    or true over rest e h = record { place = 0; at = sym (eqb-true number i e) ∙ (omega arith); within = omega arith; over = over }
    or false over rest e h = record { place = suc (rest h).place; at = omega (arith, (rest h).at); within = omega (arith, (rest h).within); over = (rest h).over }

    by : (b : Bool) → (d.table == table) ≡ b → (has_index i (numbers_over table (number + 1) ds) ≡ true → Stands table (number + 1) ds i) → has_index i (if b then number ∷ numbers_over table (number + 1) ds else numbers_over table (number + 1) ds) ≡ true → Stands table number (d ∷ ds) i
    by true over rest h = or (nat_eq number i) over rest refl h
    by false over rest h = later (rest h)

none_at : (p : IndexDef → Bool) (xs : List IndexDef) (i : ℕ) → list_any p xs ≡ false → i < length xs → p (get_or xs i no_index) ≡ false
none_at p [] i none within = absurd (omega (arith, within))
none_at p (x ∷ xs) zero none within = grind (arith, none)
none_at p (x ∷ xs) (suc i) none within =
    let more : i < length xs = omega (arith, within) in
    let rest : list_any p xs ≡ false = grind (arith, none) in
    none_at p xs i rest more

apart_at : (ds : List IndexDef) (k i : ℕ) → AreNamedApart ds → k < i → i < length ds → bytes_eq (get_or ds k no_index).name (get_or ds i no_index).name ≡ false
apart_at [] k i apart before within = absurd (omega (arith, within))
apart_at (d ∷ ds) k zero apart before within = absurd (omega (arith, before))
apart_at (d ∷ ds) zero (suc i) apart before within =
    let more : i < length ds = omega (arith, within) in
    none_at (λ (e : IndexDef). bytes_eq d.name e.name) ds i apart.0 more
apart_at (d ∷ ds) (suc k) (suc i) apart before within =
    let more : i < length ds = omega (arith, within) in
    let less : k < i = omega (arith, before) in
    apart_at ds k i apart.1 less more

found_at : (ds : List IndexDef) (table place : ℕ) → AreNamedApart ds → place < length ds → ((get_or ds place no_index).table == table) ≡ true → number_of ds table (get_or ds place no_index).name ≡ Some place
found_at ds table place apart within over =
    let p = is_of table (get_or ds place no_index).name in
    let none : (k : ℕ) → k < place → p (get_or ds k no_index) ≡ false = λ k before. and_right _ _ (apart_at ds k place apart before within) in
    let here : p (get_or ds place no_index) ≡ true = and_from _ _ over ((bytes_eq-Decides (get_or ds place no_index).name (get_or ds place no_index).name).1 refl) in
    let e : position_or_len p ds ≡ place = position_or_len_is p ds place no_index (omega (arith, within)) none (λ there. here) in
    rw (e, lt-ltb place (length ds) within) refl

number_found : (indexes : List IndexDef) (table i : ℕ) → AreNamedApart indexes → has_index i (numbers_over table 0 indexes) ≡ true → number_of indexes table (index_at indexes i).name ≡ Some i
number_found indexes table i apart h =
    let s = stands table 0 indexes i h in
    let same : s.place ≡ i = omega (arith, s.at) in
    subst (λ (n : ℕ). number_of indexes table (index_at indexes n).name ≡ Some n) same (found_at indexes table s.place apart s.within s.over)

-- the index that an event names is among these
abbrev pub names_known : List ℕ → Event → Bool
names_known indexes (events.Scan i) = has_index i indexes
names_known indexes (events.List i keys) = has_index i indexes
names_known indexes (events.Drop i) = has_index i indexes
names_known indexes e = true

read_one : (indexes : List IndexDef) (table : ℕ) (e : Event) → AreNamedApart indexes → names_known (numbers_over table 0 indexes) e ≡ true → event_of indexes table (shown_event indexes e) ≡ Some e
read_one indexes table (events.At control) apart known = refl
read_one indexes table (events.Scan i) apart known = ap scan_of (number_found indexes table i apart known)
read_one indexes table (events.List i keys) apart known = ap (list_of keys) (number_found indexes table i apart known)
read_one indexes table (events.Drop i) apart known = ap drop_of (number_found indexes table i apart known)
read_one indexes table events.Full apart known = refl
read_one indexes table events.Stop apart known = refl

pub read_all : (indexes : List IndexDef) (table : ℕ) (es : List Event) → AreNamedApart indexes → list_all (names_known (numbers_over table 0 indexes)) es ≡ true → events_of indexes table (map (shown_event indexes) es) ≡ Some es
read_all indexes table [] apart known = refl
read_all indexes table (e ∷ es) apart known =
    let first = read_one indexes table e apart (first_so _ _ known) in
    let rest = read_all indexes table es apart (second_so (names_known (numbers_over table 0 indexes) e) _ known) in
    ap (λ o. with_first o (events_of indexes table (map (shown_event indexes) es))) first ∙ ap (with_first (Some e)) rest
