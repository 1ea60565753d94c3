-- Where a control may lead, and what a change of it does to the effort.
use Rattle.std.proofs.Common.{◌≡◌, ℕ, ◌<◌, ◌≤◌, List, [], ◌∷◌, length, Bool, true, false, not, ◌&&◌, ◌||◌, refl, arith, Option, Some, None}
use Rattle.std.specs.Prelude.{if◌then◌else◌}
use Rattle.std.specs.List.{list_all}
use Rattle.std.proofs.lemmas.List.{length-drop}
use Rattle.std.specs.Cmp.{first_so, second_so}
use Rattle.rv_judge.specs.declared.events.Strategy.{Strategy}
use Rattle.rv_judge.specs.declared.events.Strategy.TheVariants.{Table, BackgroundOnly, FastFirst, Sorted, IndexOnly, Union}
use Rattle.rv_judge.specs.declared.events.Control.{Control}
use Rattle.rv_judge.specs.declared.events.Control.TheVariants.{Building, ForegroundAlone, BackgroundAlone, FinalList, FinalTable, Done}
use Rattle.rv_judge.specs.declared.events.Happening.{Happening}
use Rattle.rv_judge.specs.declared.events.Happening.TheVariants.{ScanEnded, Ruled}
use Rattle.rv_judge.specs.declared.judging.Verdict.TheVariants.{AbandonScan, AbandonBackground}
use Rattle.rv_judge.specs.Course.{Row, course, fast_first, next_by, next_control}
use Rattle.rv_reader.specs.Shown.{Shown}
use Rattle.rv_retrieval.specs.Effort.{back_work, keys_work, sum_of}
use Rattle.rv_retrieval.specs.Shape.{Shape, is_background, is_building, is_led}
use Rattle.rv_final.specs.Stage.{keys_left}
use Rattle.rv_retrieval.specs.Telling.{list_len}

abbrev stays_front : Control → Bool
stays_front ForegroundAlone = true
stays_front Done = true
stays_front _ = false

abbrev stays_back : Control → Bool
stays_back Building = false
stays_back ForegroundAlone = false
stays_back _ = true

abbrev stays_list : Control → Bool
stays_list FinalList = true
stays_list Done = true
stays_list _ = false

abbrev stays_table : Control → Bool
stays_table FinalTable = true
stays_table Done = true
stays_table _ = false

abbrev stays_done : Control → Bool
stays_done Done = true
stays_done _ = false

-- a control may lead to another one, or stay
abbrev pub may_lead : Control → Control → Bool
may_lead Building d = true
may_lead ForegroundAlone d = stays_front d
may_lead BackgroundAlone d = stays_back d
may_lead FinalList d = stays_list d
may_lead FinalTable d = stays_table d
may_lead Done d = stays_done d

abbrev allowed : Control → List Row → Bool
allowed c rows = list_all (λ (r : Row). not (r.at c) || may_lead c (r.next c)) rows

leads_by : (rows : List Row) (s : Strategy) (c : Control) (h : Happening) → allowed c rows ≡ true → may_lead c c ≡ true → may_lead c (next_by rows s c h) ≡ true
leads_by [] s c h a l = l
leads_by (r ∷ rows) s c h a l = pick (r.next c) (next_by rows s c h) (r.at c) (r.under s) (r.upon h) (first_so _ _ a) (leads_by rows s c h (second_so _ _ a) l)
  where
    pick : (x y : Control) (at under upon : Bool) → (not at || may_lead c x) ≡ true → may_lead c y ≡ true → may_lead c (if at && under && upon then x else y) ≡ true
    pick x y true true true a l = a
    pick x y true true false a l = l
    pick x y true false upon a l = l
    pick x y false under upon a l = l

pub goes_lower : (s : Strategy) (c : Control) (h : Happening) → may_lead c (next_control s c h) ≡ true
goes_lower s Building h = refl
goes_lower s ForegroundAlone h = leads_by course s ForegroundAlone h refl refl
goes_lower s BackgroundAlone h = leads_by course s BackgroundAlone h refl refl
goes_lower s FinalList h = leads_by course s FinalList h refl refl
goes_lower s FinalTable h = leads_by course s FinalTable h refl refl
goes_lower s Done h = leads_by course s Done h refl refl

-- pieces were awaited before
pub lower_back : (c d : Control) → may_lead c d ≡ true → is_background d ≡ true → is_background c ≡ true
lower_back Building d l b = refl
lower_back BackgroundAlone d l b = refl
lower_back ForegroundAlone Building l b = l
lower_back ForegroundAlone ForegroundAlone l b = b
lower_back ForegroundAlone BackgroundAlone l b = l
lower_back ForegroundAlone FinalList l b = b
lower_back ForegroundAlone FinalTable l b = b
lower_back ForegroundAlone Done l b = b
lower_back FinalList Building l b = l
lower_back FinalList ForegroundAlone l b = b
lower_back FinalList BackgroundAlone l b = l
lower_back FinalList FinalList l b = b
lower_back FinalList FinalTable l b = b
lower_back FinalList Done l b = b
lower_back FinalTable Building l b = l
lower_back FinalTable ForegroundAlone l b = b
lower_back FinalTable BackgroundAlone l b = l
lower_back FinalTable FinalList l b = b
lower_back FinalTable FinalTable l b = b
lower_back FinalTable Done l b = b
lower_back Done Building l b = l
lower_back Done ForegroundAlone l b = b
lower_back Done BackgroundAlone l b = l
lower_back Done FinalList l b = b
lower_back Done FinalTable l b = b
lower_back Done Done l b = b

-- both sides ran before
pub lower_building : (c d : Control) → may_lead c d ≡ true → is_building d ≡ true → is_building c ≡ true
lower_building c Building l b = by c l
  where
    by : (c : Control) → may_lead c Building ≡ true → is_building c ≡ true
    by Building l = refl
    by ForegroundAlone l = l
    by BackgroundAlone l = l
    by FinalList l = l
    by FinalTable l = l
    by Done l = l
lower_building c ForegroundAlone l b = absurd (cc)
lower_building c BackgroundAlone l b = absurd (cc)
lower_building c FinalList l b = absurd (cc)
lower_building c FinalTable l b = absurd (cc)
lower_building c Done l b = absurd (cc)

pub building_back : (c : Control) → is_building c ≡ true → is_background c ≡ true
building_back Building b = refl
building_back ForegroundAlone b = b
building_back BackgroundAlone b = refl
building_back FinalList b = b
building_back FinalTable b = b
building_back Done b = b

-- THE SUM OVER A CHANGE OF THE CONTROL: parts are left out, and the final list has no more keys than the background
pub sum_lower : (c d : Control) (b f t k : ℕ) → may_lead c d ≡ true → k ≤ b → sum_of d b f t k ≤ sum_of c b f t k
sum_lower Building Building b f t k l h = omega arith
sum_lower Building ForegroundAlone b f t k l h = omega arith
sum_lower Building BackgroundAlone b f t k l h = omega arith
sum_lower Building FinalList b f t k l h = omega arith
sum_lower Building FinalTable b f t k l h = omega arith
sum_lower Building Done b f t k l h = omega arith
sum_lower ForegroundAlone ForegroundAlone b f t k l h = omega arith
sum_lower ForegroundAlone Done b f t k l h = omega arith
sum_lower ForegroundAlone Building b f t k l h = absurd (cc)
sum_lower ForegroundAlone BackgroundAlone b f t k l h = absurd (cc)
sum_lower ForegroundAlone FinalList b f t k l h = absurd (cc)
sum_lower ForegroundAlone FinalTable b f t k l h = absurd (cc)
sum_lower BackgroundAlone BackgroundAlone b f t k l h = omega arith
sum_lower BackgroundAlone FinalList b f t k l h = omega arith
sum_lower BackgroundAlone FinalTable b f t k l h = omega arith
sum_lower BackgroundAlone Done b f t k l h = omega arith
sum_lower BackgroundAlone Building b f t k l h = absurd (cc)
sum_lower BackgroundAlone ForegroundAlone b f t k l h = absurd (cc)
sum_lower FinalList FinalList b f t k l h = omega arith
sum_lower FinalList Done b f t k l h = omega arith
sum_lower FinalList Building b f t k l h = absurd (cc)
sum_lower FinalList ForegroundAlone b f t k l h = absurd (cc)
sum_lower FinalList BackgroundAlone b f t k l h = absurd (cc)
sum_lower FinalList FinalTable b f t k l h = absurd (cc)
sum_lower FinalTable FinalTable b f t k l h = omega arith
sum_lower FinalTable Done b f t k l h = omega arith
sum_lower FinalTable Building b f t k l h = absurd (cc)
sum_lower FinalTable ForegroundAlone b f t k l h = absurd (cc)
sum_lower FinalTable BackgroundAlone b f t k l h = absurd (cc)
sum_lower FinalTable FinalList b f t k l h = absurd (cc)
sum_lower Done Done b f t k l h = omega arith
sum_lower Done Building b f t k l h = absurd (cc)
sum_lower Done ForegroundAlone b f t k l h = absurd (cc)
sum_lower Done BackgroundAlone b f t k l h = absurd (cc)
sum_lower Done FinalList b f t k l h = absurd (cc)
sum_lower Done FinalTable b f t k l h = absurd (cc)

-- the sum where its parts fall
pub sum_less : (c : Control) (a b f g t u k l : ℕ) → a ≤ b → f ≤ g → t ≤ u → k ≤ l → sum_of c a f t k ≤ sum_of c b g u l
sum_less Building a b f g t u k l p q r s = omega arith
sum_less ForegroundAlone a b f g t u k l p q r s = omega arith
sum_less BackgroundAlone a b f g t u k l p q r s = omega arith
sum_less FinalList a b f g t u k l p q r s = omega arith
sum_less FinalTable a b f g t u k l p q r s = omega arith
sum_less Done a b f g t u k l p q r s = omega arith

-- the sum where the background's work falls while pieces are awaited
pub sum_near : (c : Control) (a b f t k l : ℕ) → is_background c ≡ true → a < b → sum_of c a f t k < sum_of c b f t l
sum_near Building a b f t k l h n = omega arith
sum_near BackgroundAlone a b f t k l h n = omega arith
sum_near ForegroundAlone a b f t k l h n = absurd (cc)
sum_near FinalList a b f t k l h n = absurd (cc)
sum_near FinalTable a b f t k l h n = absurd (cc)
sum_near Done a b f t k l h n = absurd (cc)

pub sum_back : (c : Control) (a b f t k l : ℕ) → is_background c ≡ true → a ≤ b → sum_of c a f t k ≤ sum_of c b f t l
sum_back Building a b f t k l h n = omega arith
sum_back BackgroundAlone a b f t k l h n = omega arith
sum_back ForegroundAlone a b f t k l h n = absurd (cc)
sum_back FinalList a b f t k l h n = absurd (cc)
sum_back FinalTable a b f t k l h n = absurd (cc)
sum_back Done a b f t k l h n = absurd (cc)

-- the final list has no more keys than the background may still have fetched
pub keys_few : (list : Option (List ℕ)) (at : ℕ) → length (keys_left list at) ≤ list_len list
keys_few None at = omega arith
keys_few (Some keys) at = let l = length-drop at keys in omega arith

pub keys_back : (v : Shape) (shown : Shown) → keys_work v ≤ back_work v.joint v.borrowed shown
keys_back v shown = let few = keys_few v.joint.list v.at in omega arith

-- Where the background ends no piece is awaited any more.

abbrev pub HasFront : Strategy → Control → Type 0
HasFront s c = is_building c ≡ true → (fast_first s || is_led s) ≡ true

pub ended_none : (s : Strategy) (c : Control) (listed : Bool) → HasFront s c → is_background c ≡ true → is_background (next_control s c (ScanEnded false listed)) ≡ false
ended_none Table Building l f b = absurd (let bad = f refl in cc)
ended_none BackgroundOnly Building l f b = absurd (let bad = f refl in cc)
ended_none Union Building l f b = absurd (let bad = f refl in cc)
ended_none FastFirst Building true f b = refl
ended_none FastFirst Building false f b = refl
ended_none Sorted Building l f b = refl
ended_none IndexOnly Building true f b = refl
ended_none IndexOnly Building false f b = refl
ended_none s BackgroundAlone true f b = refl
ended_none s BackgroundAlone false f b = refl
ended_none s ForegroundAlone l f b = absurd (cc)
ended_none s FinalList l f b = absurd (cc)
ended_none s FinalTable l f b = absurd (cc)
ended_none s Done l f b = absurd (cc)

pub scan_none : (s : Strategy) (c : Control) (listed : Bool) → HasFront s c → is_background c ≡ true → is_background (next_control s c (Ruled AbandonScan false listed)) ≡ false
scan_none Table Building l f b = absurd (let bad = f refl in cc)
scan_none BackgroundOnly Building l f b = absurd (let bad = f refl in cc)
scan_none Union Building l f b = absurd (let bad = f refl in cc)
scan_none FastFirst Building true f b = refl
scan_none FastFirst Building false f b = refl
scan_none Sorted Building l f b = refl
scan_none IndexOnly Building true f b = refl
scan_none IndexOnly Building false f b = refl
scan_none s BackgroundAlone true f b = refl
scan_none s BackgroundAlone false f b = refl
scan_none s ForegroundAlone l f b = absurd (cc)
scan_none s FinalList l f b = absurd (cc)
scan_none s FinalTable l f b = absurd (cc)
scan_none s Done l f b = absurd (cc)

pub back_none : (s : Strategy) (c : Control) (more listed : Bool) → HasFront s c → is_background c ≡ true → is_background (next_control s c (Ruled AbandonBackground more listed)) ≡ false
back_none Table Building m l f b = absurd (let bad = f refl in cc)
back_none BackgroundOnly Building m l f b = absurd (let bad = f refl in cc)
back_none Union Building m l f b = absurd (let bad = f refl in cc)
back_none FastFirst Building m true f b = refl
back_none FastFirst Building m false f b = refl
back_none Sorted Building m l f b = refl
back_none IndexOnly Building m l f b = refl
back_none s BackgroundAlone m true f b = refl
back_none s BackgroundAlone m false f b = refl
back_none s ForegroundAlone m l f b = absurd (cc)
back_none s FinalList m l f b = absurd (cc)
back_none s FinalTable m l f b = absurd (cc)
back_none s Done m l f b = absurd (cc)
