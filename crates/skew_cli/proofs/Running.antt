-- What the clauses of `run` and of `serve` come to under the judges of this program.
use base.Stored.{Gv}
use denote.Param.Object.{Made}
use Rattle.std.proofs.Common.{◌≡◌, ◌≢◌, ◌∙◌, ◌++◌, ◌∷◌, ◌⊎◌, [], Bool, true, false, List, Option, None, Some, IfSome, IsSome, IsSomeAnd, ap, flat_map, inl, inr, map, refl, subst, sym, ℕ}
use Rattle.std.specs.Io.KnownBytes.{Appends, IsAtEnd}
use Rattle.rv_io.specs.Causes.{Rose}
use Rattle.rv_io.specs.Pieces.{AppendsFront}
use Rattle.rv_script.specs.declared.scripts.Script.{Script}
use Rattle.rv_script.specs.declared.scripts.ScriptFault.{ScriptFault}
use Rattle.rv_model.specs.Transcript.{text}
use Rattle.rv_believed.specs.History.{IsLegal}
use Rattle.rv_core.specs.Core.{Shown}
use Rattle.rv_words.specs.declared.choices.Asked.{Asked}
use Rattle.rv_words.specs.declared.choices.Choice.{Choice}
use Rattle.rv_words.specs.declared.choices.Choice.TheVariants.{Threads, Workers, Judge, Steps, Gen, Race}
use Rattle.rv_words.specs.Words.{AreAccepted, Ask, Item, words_of}
use Rattle.rv_run.specs.declared.status.Over.{Over}
use Rattle.rv_run.specs.declared.status.Status.{Status}
use Rattle.rv_run.specs.declared.status.Status.TheVariants as statuses
use Rattle.rv_run.specs.Performing.{IsPerformed, Stops}
use Rattle.rv_run.specs.Ruling.{Judging}
use Rattle.rv_run.specs.Script.{FailsToRead, HasAllCalls, HasFault, HasFirstCalls, IsInOrder, IsScriptFault, PassesLimit, Runs, Writes}
use Rattle.rv_run.specs.Serving.{EndsSo, HasFaultyLine, PassesLine, Serves, WrittenBy}
use Rattle.rv_run.specs.Words.{behind_line}
use Rattle.skew_cli.specs.Running.{RunWrites, ServesFrom, WritesFrom}

-- ---- three judges in boxes

-- what each of them would rule and where it stands
three_told : {B : Type 0} (told : B → Judging) (boxes : List B) (a b c : B) (zero one two : Judging) → boxes ≡ a ∷ b ∷ c ∷ [] → told a ≡ zero → told b ≡ one → told c ≡ two → map told boxes ≡ zero ∷ one ∷ two ∷ []
three_told told boxes a b c zero one two all first second third = ap (map told) all ∙ (λ i. first i ∷ second i ∷ third i ∷ [])

pub three_pushed : {B : Type 0} (none one two boxes : List B) (a b c : B) → none ≡ [] → one ≡ none ++ a ∷ [] → two ≡ one ++ b ∷ [] → boxes ≡ two ++ c ∷ [] → boxes ≡ a ∷ b ∷ c ∷ []
three_pushed none one two boxes a b c empty first second third = third ∙ ap (λ xs. xs ++ c ∷ []) (second ∙ ap (λ xs. xs ++ b ∷ []) (first ∙ ap (λ xs. xs ++ a ∷ []) empty))

-- a box that was made: which type is behind it, and the value that it was made of
abbrev pub type_in : {X Y : Type 0} {F : X → Type 0} {c : (i : X) → F i → Gv} {d : Y → Gv} {at i : X} {y : F i} {x : Y} → Made c d at i y x → X
type_in {at = at} made = at

abbrev pub value_in : {X Y : Type 0} {F : X → Type 0} {c : (i : X) → F i → Gv} {d : Y → Gv} {at i : X} {y : F i} {x : Y} → Made c d at i y x → Y
value_in {x = x} made = x

-- ---- what was written

-- what a service wrote that is done
pub writes_from : {X S B : Type 0} (core : Option X) (engine : X → Shown S) (seed : Option ℕ) (left : Option (List ℕ)) (Written : List ℕ → Type 0) (Made : List Judging → Shown S → Script → Type 0) (told : B → Judging) (boxes : List B) (a b c : B) (zero one two : Judging)
    → IsSomeAnd core (λ c. Writes seed left Written HasAllCalls (engine c).history) → IsSomeAnd core (λ c. Runs seed left (Made (map told boxes) (engine c))) → boxes ≡ a ∷ b ∷ c ∷ [] → told a ≡ zero → told b ≡ one → told c ≡ two → WritesFrom seed left Written HasAllCalls (Made (zero ∷ one ∷ two ∷ []))
writes_from None engine seed left Written Made told boxes a b c zero one two writes made all first second third = absurd writes
writes_from (Some core) engine seed left Written Made told boxes a b c zero one two writes made all first second third = record {
  core = engine core;
  writes = writes;
  made = subst (λ judges. Runs seed left (Made judges (engine core))) (three_told told boxes a b c zero one two all first second third) made;
}

-- what a run wrote, by its status
by_status : {X S : Type 0} (core : Option X) (engine : X → Shown S) (status : Status) (seed : Option ℕ) (left : Option (List ℕ)) (Nothing : Type 0) (old new : Option (List ℕ)) (All First : Shown S → Script → Type 0)
    → (status ≡ statuses.Done → IsSomeAnd core (λ c. Writes seed left (Appends old new) HasAllCalls (engine c).history)) → (status ≡ statuses.Done → IsSomeAnd core (λ c. Runs seed left (All (engine c))))
    → (status ≡ statuses.Memory → IfSome core (λ c. Writes seed left (Appends old new) HasFirstCalls (engine c).history)) → (status ≡ statuses.WriteFault → IsSomeAnd core (λ c. Writes seed left (AppendsFront old new) HasFirstCalls (engine c).history))
    → IfSome core (λ c. Runs seed left (First (engine c))) → (IsSome core → IsPerformed status) → (core ≡ None → Nothing) → RunWrites seed left Nothing old new All First status
by_status None engine statuses.Done seed left Nothing old new All First done ruled memory front first called early = absurd (done refl)
by_status (Some core) engine statuses.Done seed left Nothing old new All First done ruled memory front first called early = record { core = engine core; writes = done refl; made = ruled refl }
by_status None engine statuses.Memory seed left Nothing old new All First done ruled memory front first called early = inl (early refl)
by_status (Some core) engine statuses.Memory seed left Nothing old new All First done ruled memory front first called early = inr (record { core = engine core; writes = memory refl; made = first })
by_status None engine statuses.WriteFault seed left Nothing old new All First done ruled memory front first called early = absurd (front refl)
by_status (Some core) engine statuses.WriteFault seed left Nothing old new All First done ruled memory front first called early = record { core = engine core; writes = front refl; made = first }
by_status None engine statuses.Usage seed left Nothing old new All First done ruled memory front first called early = early refl
by_status (Some core) engine statuses.Usage seed left Nothing old new All First done ruled memory front first called early = absurd (called refl)
by_status None engine (statuses.Script fault) seed left Nothing old new All First done ruled memory front first called early = early refl
by_status (Some core) engine (statuses.Script fault) seed left Nothing old new All First done ruled memory front first called early = absurd (called refl)
by_status None engine (statuses.Limit over) seed left Nothing old new All First done ruled memory front first called early = early refl
by_status (Some core) engine (statuses.Limit over) seed left Nothing old new All First done ruled memory front first called early = absurd (called refl)
by_status None engine statuses.ReadFault seed left Nothing old new All First done ruled memory front first called early = early refl
by_status (Some core) engine statuses.ReadFault seed left Nothing old new All First done ruled memory front first called early = absurd (called refl)

pub run_writes : {X S B : Type 0} (core : Option X) (engine : X → Shown S) (status : Status) (seed : Option ℕ) (left : Option (List ℕ)) (Nothing : Type 0) (old new : Option (List ℕ)) (All First : List Judging → Shown S → Script → Type 0) (told : B → Judging) (boxes : List B) (a b c : B) (zero one two : Judging)
    → (status ≡ statuses.Done → IsSomeAnd core (λ c. Writes seed left (Appends old new) HasAllCalls (engine c).history)) → (status ≡ statuses.Done → IsSomeAnd core (λ c. Runs seed left (All (map told boxes) (engine c))))
    → (status ≡ statuses.Memory → IfSome core (λ c. Writes seed left (Appends old new) HasFirstCalls (engine c).history)) → (status ≡ statuses.WriteFault → IsSomeAnd core (λ c. Writes seed left (AppendsFront old new) HasFirstCalls (engine c).history))
    → IfSome core (λ c. Runs seed left (First (map told boxes) (engine c))) → (IsSome core → IsPerformed status) → (core ≡ None → Nothing)
    → boxes ≡ a ∷ b ∷ c ∷ [] → told a ≡ zero → told b ≡ one → told c ≡ two → RunWrites seed left Nothing old new (All (zero ∷ one ∷ two ∷ [])) (First (zero ∷ one ∷ two ∷ [])) status
run_writes core engine status seed left Nothing old new All First told boxes a b c zero one two done ruled memory front first called early all is_zero is_one is_two =
    subst (λ judges. RunWrites seed left Nothing old new (All judges) (First judges) status) (three_told told boxes a b c zero one two all is_zero is_one is_two)
    (by_status core engine status seed left Nothing old new (All (map told boxes)) (First (map told boxes)) done ruled memory front first called early)

-- all, or behind a write that failed a front
written_by : (status : Status) (old new : Option (List ℕ)) (bytes : List ℕ) → (status ≢ statuses.WriteFault → Appends old new bytes) → (status ≡ statuses.WriteFault → AppendsFront old new bytes) → WrittenBy status old new bytes
written_by statuses.Done old new bytes whole front = whole (λ e. cc)
written_by statuses.Usage old new bytes whole front = whole (λ e. cc)
written_by (statuses.Script fault) old new bytes whole front = whole (λ e. cc)
written_by (statuses.Limit over) old new bytes whole front = whole (λ e. cc)
written_by statuses.Memory old new bytes whole front = whole (λ e. cc)
written_by statuses.ReadFault old new bytes whole front = whole (λ e. cc)
written_by statuses.WriteFault old new bytes whole front = front refl

-- ---- why it ended

-- why a run was stopped
pub stops : (status : Status) (words : List (List ℕ)) (left after : Option (List ℕ)) (before now : ℕ) → (status ≡ statuses.Usage → AreAccepted words → ⊥) → ((fault : ScriptFault) → status ≡ statuses.Script fault → HasFault left after fault)
    → ((over : Over) → status ≡ statuses.Limit over → PassesLimit left after over) → (status ≡ statuses.ReadFault → FailsToRead left after before now) → IsPerformed status ⊎ Stops words left after before now status
stops statuses.Done words left after before now usage script limit read = inl tt
stops statuses.Usage words left after before now usage script limit read = inr (usage refl)
stops (statuses.Script fault) words left after before now usage script limit read = inr (script fault refl)
stops (statuses.Limit over) words left after before now usage script limit read = inr (limit over refl)
stops statuses.Memory words left after before now usage script limit read = inl tt
stops statuses.ReadFault words left after before now usage script limit read = inr (read refl)
stops statuses.WriteFault words left after before now usage script limit read = inl tt

-- why a service ended
ends_so : (status : Status) (left after : Option (List ℕ)) (reads read writes wrote : ℕ) (P : Script → Type 0) → (status ≡ statuses.Done → IsAtEnd after) → (status ≡ statuses.Usage → ⊥) → ((fault : ScriptFault) → status ≡ statuses.Script fault → IsScriptFault fault × HasFaultyLine left after P fault)
    → ((over : Over) → status ≡ statuses.Limit over → PassesLine left after P over) → (status ≡ statuses.ReadFault → Rose reads read) → (status ≡ statuses.WriteFault → Rose writes wrote) → EndsSo left after reads read writes wrote P status
ends_so statuses.Done left after reads read writes wrote P end usage script limit failed write = end refl
ends_so statuses.Usage left after reads read writes wrote P end usage script limit failed write = usage refl
ends_so (statuses.Script fault) left after reads read writes wrote P end usage script limit failed write = script fault refl
ends_so (statuses.Limit over) left after reads read writes wrote P end usage script limit failed write = limit over refl
ends_so statuses.Memory left after reads read writes wrote P end usage script limit failed write = tt
ends_so statuses.ReadFault left after reads read writes wrote P end usage script limit failed write = failed refl
ends_so statuses.WriteFault left after reads read writes wrote P end usage script limit failed write = write refl

-- what a service wrote, and why it ended
pub serves_from : {X S B : Type 0} (core : Option X) (engine : X → Shown S) (status : Status) (left after : Option (List ℕ)) (reads read writes wrote : ℕ) (old new : Option (List ℕ)) (Nothing : Type 0) (First : List Judging → Shown S → Script → Type 0) (told : B → Judging) (boxes : List B) (a b c : B) (zero one two : Judging)
    → IfSome core (λ c. IsLegal (engine c).history) → (status ≢ statuses.WriteFault → IfSome core (λ c. Appends old new (text (engine c).history))) → (status ≡ statuses.WriteFault → IfSome core (λ c. AppendsFront old new (text (engine c).history)))
    → IfSome core (λ c. Serves left after (λ script. IsInOrder (engine c).history script × First (map told boxes) (engine c) script))
    → (status ≡ statuses.Done → IsAtEnd after) → (status ≡ statuses.Usage → ⊥) → ((fault : ScriptFault) → status ≡ statuses.Script fault → IsScriptFault fault × IsSomeAnd core (λ c. HasFaultyLine left after (IsInOrder (engine c).history) fault))
    → ((over : Over) → status ≡ statuses.Limit over → IsSomeAnd core (λ c. PassesLine left after (IsInOrder (engine c).history) over)) → (status ≡ statuses.ReadFault → Rose reads read) → (status ≡ statuses.WriteFault → Rose writes wrote) → (core ≡ None → Nothing)
    → boxes ≡ a ∷ b ∷ c ∷ [] → told a ≡ zero → told b ≡ one → told c ≡ two → Nothing ⊎ ServesFrom left after reads read writes wrote old new (First (zero ∷ one ∷ two ∷ [])) status
serves_from None engine status left after reads read writes wrote old new Nothing First told boxes a b c zero one two legal whole front served end usage script limit failed write early all is_zero is_one is_two = inl (early refl)
serves_from (Some core) engine status left after reads read writes wrote old new Nothing First told boxes a b c zero one two legal whole front served end usage script limit failed write early all is_zero is_one is_two = inr (record {
  core = engine core;
  legal = legal;
  written = written_by status old new (text (engine core).history) whole front;
  served = subst (λ judges. Serves left after (λ script. IsInOrder (engine core).history script × First judges (engine core) script)) (three_told told boxes a b c zero one two all is_zero is_one is_two) served;
  ends = ends_so status left after reads read writes wrote (IsInOrder (engine core).history) end usage script limit failed write;
})

-- ---- `--line` is no word of an item

no_word : (option : Choice) (digits : List ℕ) (behind : Bool) (more : List (List ℕ)) → behind_line (words_of (record { option = option; digits = digits; behind = behind }) ++ more) ≡ None
no_word Threads digits behind more = refl
no_word Workers digits true more = refl
no_word Workers digits false more = refl
no_word Judge digits true more = refl
no_word Judge digits false more = refl
no_word Steps digits true more = refl
no_word Steps digits false more = refl
no_word Gen digits true more = refl
no_word Gen digits false more = refl
no_word Race digits behind more = refl

no_line : (items : List Item) → behind_line (flat_map words_of items) ≡ None
no_line [] = refl
no_line (item ∷ items) = no_word item.option item.digits item.behind (flat_map words_of items)

none_some : {A X : Type 0} {x : A} → None ≡ Some x → X
none_some e = absurd (cc)

some_is : {A : Type 0} {x y : A} → Some x ≡ Some y → x ≡ y
some_is e = cc

-- words that ask a run do not begin with `--line`
pub runs_no_line : (words : List (List ℕ)) (asked : Asked) (rest : List (List ℕ)) {X : Type 0} → Ask words asked → behind_line words ≡ Some rest → X
runs_no_line words asked rest ask line = none_some (sym (ap behind_line ask.spelled.whole ∙ no_line ask.items) ∙ line)

-- the words behind it are those that are served
pub same_rest : (words a b : List (List ℕ)) → Some a ≡ behind_line words → behind_line words ≡ Some b → a ≡ b
same_rest words a b first then = some_is (first ∙ then)

-- where it does not stand nothing is served
pub serves_none : (words rest : List (List ℕ)) {X : Type 0} → None ≡ behind_line words → behind_line words ≡ Some rest → X
serves_none words rest first then = none_some (first ∙ then)

-- where it stands no run is made
pub serves_some : (words rest : List (List ℕ)) {X : Type 0} → Some rest ≡ behind_line words → behind_line words ≡ None → X
serves_some words rest first then = none_some (sym then ∙ sym first)
