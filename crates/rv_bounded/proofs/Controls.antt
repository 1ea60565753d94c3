-- The controls of a retrieval whose foreground scans no index.
use Rattle.std.proofs.Common.{◌≡◌, List, [], ◌∷◌, Bool, true, false, not, ◌&&◌, ◌||◌, refl}
use Rattle.std.specs.Prelude.{if◌then◌else◌}
use Rattle.std.specs.List.{list_all}
use Rattle.std.specs.Cmp.{first_so, second_so}
use Rattle.rv_value.proofs.Tests.{no_other}
use Rattle.rv_judge.specs.declared.events.Strategy.{Strategy}
use Rattle.rv_judge.specs.declared.events.Strategy.TheVariants.{Table, BackgroundOnly, FastFirst, Sorted, IndexOnly, Union}
use Rattle.rv_judge.specs.declared.events.Control.{Control}
use Rattle.rv_judge.specs.declared.events.Control.TheVariants.{Building, ForegroundAlone, BackgroundAlone, FinalList, FinalTable, Done}
use Rattle.rv_judge.specs.declared.events.Happening.{Happening}
use Rattle.rv_judge.specs.Course.{Row, course, next_by, next_control}
use Rattle.rv_retrieval.specs.Opens.{first_of}
use Rattle.rv_retrieval.specs.Shape.{is_led}
use Rattle.rv_retrieval.proofs.Courses.{goes_lower, may_lead}

-- no foreground scans an index
abbrev pub is_behind : Strategy → Control → Bool
is_behind s Building = not (is_led s)
is_behind s ForegroundAlone = false
is_behind s BackgroundAlone = true
is_behind s FinalList = true
is_behind s FinalTable = true
is_behind s Done = true

-- each row of the course at this control and under this strategy leads on so
abbrev leads_on : Strategy → Control → List Row → Bool
leads_on s c rows = list_all (λ (r : Row). not (r.at c && r.under s) || is_behind s (r.next c)) rows

on_by : (rows : List Row) (s : Strategy) (c : Control) (h : Happening) → leads_on s c rows ≡ true → is_behind s c ≡ true → is_behind s (next_by rows s c h) ≡ true
on_by [] s c h a b = b
on_by (r ∷ rows) s c h a b = pick (r.next c) (next_by rows s c h) (r.at c) (r.under s) (r.upon h) (first_so _ _ a) (on_by rows s c h (second_so _ _ a) b)
  where
    pick : (x y : Control) (at under upon : Bool) → (not (at && under) || is_behind s x) ≡ true → is_behind s y ≡ true → is_behind s (if at && under && upon then x else y) ≡ true
    pick x y true true true a l = a
    pick x y true true false a l = l
    pick x y true false upon a l = l
    pick x y false under upon a l = l

pub goes_behind : (s : Strategy) (c : Control) (h : Happening) → is_behind s c ≡ true → is_behind s (next_control s c h) ≡ true
goes_behind s ForegroundAlone h b = no_other b
goes_behind s BackgroundAlone h b = on_by course s BackgroundAlone h refl b
goes_behind s FinalList h b = on_by course s FinalList h refl b
goes_behind s FinalTable h b = on_by course s FinalTable h refl b
goes_behind s Done h b = on_by course s Done h refl b
goes_behind Table Building h b = on_by course Table Building h refl b
goes_behind BackgroundOnly Building h b = on_by course BackgroundOnly Building h refl b
goes_behind FastFirst Building h b = on_by course FastFirst Building h refl b
goes_behind Sorted Building h b = no_other b
goes_behind IndexOnly Building h b = no_other b
goes_behind Union Building h b = on_by course Union Building h refl b

-- so a retrieval begins
pub first_behind : (s : Strategy) (some : Bool) → is_led s ≡ false → is_behind s (first_of s some) ≡ true
first_behind Table some led = refl
first_behind BackgroundOnly some led = refl
first_behind FastFirst some led = refl
first_behind Sorted some led = absurd (cc)
first_behind IndexOnly some led = absurd (cc)
first_behind Union some led = refl

-- no foreground runs
abbrev pub is_apart : Control → Bool
is_apart Building = false
is_apart ForegroundAlone = false
is_apart BackgroundAlone = true
is_apart FinalList = true
is_apart FinalTable = true
is_apart Done = true

stays_apart : (c d : Control) → may_lead c d ≡ true → is_apart c ≡ true → is_apart d ≡ true
stays_apart Building d l b = no_other b
stays_apart ForegroundAlone d l b = no_other b
stays_apart BackgroundAlone Building l b = l
stays_apart BackgroundAlone ForegroundAlone l b = l
stays_apart BackgroundAlone BackgroundAlone l b = refl
stays_apart BackgroundAlone FinalList l b = refl
stays_apart BackgroundAlone FinalTable l b = refl
stays_apart BackgroundAlone Done l b = refl
stays_apart FinalList Building l b = l
stays_apart FinalList ForegroundAlone l b = l
stays_apart FinalList BackgroundAlone l b = refl
stays_apart FinalList FinalList l b = refl
stays_apart FinalList FinalTable l b = refl
stays_apart FinalList Done l b = refl
stays_apart FinalTable Building l b = l
stays_apart FinalTable ForegroundAlone l b = l
stays_apart FinalTable BackgroundAlone l b = refl
stays_apart FinalTable FinalList l b = refl
stays_apart FinalTable FinalTable l b = refl
stays_apart FinalTable Done l b = refl
stays_apart Done Building l b = l
stays_apart Done ForegroundAlone l b = l
stays_apart Done BackgroundAlone l b = refl
stays_apart Done FinalList l b = refl
stays_apart Done FinalTable l b = refl
stays_apart Done Done l b = refl

pub goes_apart : (s : Strategy) (c : Control) (h : Happening) → is_apart c ≡ true → is_apart (next_control s c h) ≡ true
goes_apart s c h b = stays_apart c (next_control s c h) (goes_lower s c h) b
