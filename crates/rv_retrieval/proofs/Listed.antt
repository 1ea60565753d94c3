-- A step through the complete list, and where it leads at the list's end.
use Rattle.std.proofs.Common.{◌≡◌, ℕ, ◌+◌, ◌≤◌, true, false, refl, ap, sym, ◌∙◌, subst, arith, inl}
use Rattle.rv_judge.specs.declared.counting.Counts.{Counts}
use Rattle.rv_judge.specs.declared.events.Control.{Control}
use Rattle.rv_judge.specs.declared.events.Control.TheVariants.{FinalList, Done}
use Rattle.rv_judge.specs.declared.events.Happening.TheVariants.{FinalEnded}
use Rattle.rv_judge.specs.declared.events.Strategy.{Strategy}
use Rattle.rv_judge.specs.Course.{next_control}
use Rattle.rv_judge.specs.Tracing.{SameCounts}
use Rattle.rv_reader.specs.Shown.{Shown}
use Rattle.rv_reader.specs.declared.step.Step.{Step}
use Rattle.rv_value.specs.declared.record.Record.{Record}
use Rattle.rv_reader.specs.declared.step.Step.TheVariants.{Row, Working, End}
use Rattle.rv_final.specs.Rest.{StepMarks}
use Rattle.rv_final.specs.Work.{Falls, Tries}
use Rattle.rv_retrieval.specs.Effort.{back_work, effort, front_work, keys_work, sum_of, table_work}
use Rattle.rv_retrieval.specs.Rulings.{gone}
use Rattle.rv_retrieval.specs.Runs.{SameCourse}
use Rattle.rv_retrieval.specs.Shape.{DoesStep, EndsIn, Keys, RetrievalFits, Shape, is_early, left_at, rows_of, source_of}
use Rattle.rv_retrieval.specs.Short.{Settled, fetches_by, fetches_left, scan_fetches}
use Rattle.rv_retrieval.specs.Stepping.{Steady, ended_by}
use Rattle.rv_retrieval.proofs.Controls.{ended, ends_fits, final_ends, list_scanned}
use Rattle.rv_retrieval.proofs.Waiting.{steady_at, steady_by}

-- keys were passed, and the control is what it was
pub list_control : (v mid : Shape) → v.control ≡ FinalList → mid ≡ record v { at = mid.at } → mid.control ≡ FinalList
list_control v mid c m = ap (λ (x : Shape). x.control) m ∙ c

-- the end of the list leads to the last control
list_over : (mid new : Shape) → mid.control ≡ FinalList → new ≡ ended_by FinalEnded End mid → new ≡ record mid { control = Done; trace = new.trace }
list_over mid new c n = final_ends mid new (inl c) (subst (λ (x : Shape). x ≡ record mid { control = next_control mid.strategy mid.control FinalEnded; trace = x.trace }) (sym n) refl)

pub not_done : {X : Type 0} (c : Control) → c ≡ FinalList → c ≡ Done → X
not_done c l d = absurd (no_way (sym l ∙ d))
  where
    no_way : FinalList ≡ Done → ⊥
    no_way e = cc

-- What it keeps.

done_steady : (v mid new : Shape) → mid ≡ record v { at = mid.at } → new ≡ ended_by FinalEnded End mid → Steady v (record mid { control = Done; trace = new.trace })
done_steady v mid new m n =
    let counts : SameCounts v.trace new.trace = subst (λ (x : Shape). SameCounts v.trace x.trace) (sym n) (record { pages = ap (λ (x : Shape). x.trace.pages) m; leaves = ap (λ (x : Shape). x.trace.leaves) m; fetches = ap (λ (x : Shape). x.trace.fetches) m }) in
    steady_by v (record mid { control = Done; trace = new.trace }) counts (ap (λ (x : Shape). x.query) m) (λ w. record { way = λ e. absurd (cc); both = λ e. absurd (cc) }) (ap (λ (x : Shape). x.front) m)

pub list_steady : (v mid new : Shape) (s : Step Record) → mid.control ≡ FinalList → mid ≡ record v { at = mid.at } → new ≡ ended_by FinalEnded s mid → Steady v new
list_steady v mid new (Row r) c m n = subst (Steady v) (sym n) (steady_at v mid m)
list_steady v mid new Working c m n = subst (Steady v) (sym n) (steady_at v mid m)
list_steady v mid new End c m n = subst (Steady v) (sym (list_over mid new c n)) (done_steady v mid new m n)

at_fits : (v : Shape) (n : ℕ) (shown : Shown) → v.control ≡ FinalList → RetrievalFits v shown → RetrievalFits (record v { at = n }) shown
at_fits v n shown c f = record {
  ascend = f.ascend;
  read = f.read;
  columns = f.columns;
  at_snap = f.at_snap;
  joint = f.joint;
  scans = f.scans;
  planned = f.planned;
  front = f.front;
  led = f.led;
  last = f.last;
  unbegun = λ e. absurd (late v.control v.strategy c e);
  listed = f.listed;
  room = f.room;
  remembered = f.remembered;
  ordered = f.ordered;
  sorted = f.sorted;
}
  where
    no_way : false ≡ true → ⊥
    no_way k = cc

    late : (control : Control) (s : Strategy) → control ≡ FinalList → is_early (source_of control s) ≡ true → ⊥
    late control s l e = no_way (subst (λ (x : Control). is_early (source_of x s) ≡ true) l e)

pub keys_fit : (v mid : Shape) (shown : Shown) → v.control ≡ FinalList → mid ≡ record v { at = mid.at } → RetrievalFits v shown → RetrievalFits mid shown
keys_fit v mid shown c m f = subst (λ (x : Shape). RetrievalFits x shown) (sym m) (at_fits v mid.at shown c f)

pub list_fits : (v mid new : Shape) (s : Step Record) (shown : Shown) → v.control ≡ FinalList → mid ≡ record v { at = mid.at } → new ≡ ended_by FinalEnded s mid → RetrievalFits v shown → RetrievalFits new shown
list_fits v mid new (Row r) shown c m n f = subst (λ (x : Shape). RetrievalFits x shown) (sym n) (keys_fit v mid shown c m f)
list_fits v mid new Working shown c m n f = subst (λ (x : Shape). RetrievalFits x shown) (sym n) (keys_fit v mid shown c m f)
list_fits v mid new End shown c m n f = ends_fits mid new shown (keys_fit v mid shown c m f) (list_over mid new (list_control v mid c m) n)

pub at_course : (v mid : Shape) → mid ≡ record v { at = mid.at } → SameCourse v mid
at_course v mid m = subst (SameCourse v) (sym m) (by mid.at)
  where
    by : (n : ℕ) → SameCourse v (record v { at = n })
    by n = record { strategy = refl; control = refl; plans = refl; ended = refl; list = refl; query = refl; named = refl; events = refl }

pub at_settled : (v mid : Shape) → mid ≡ record v { at = mid.at } → Settled v → Settled mid
at_settled v mid m h = subst Settled (sym m) (record { over = h.over; sorted = h.sorted })

pub list_settled : (v mid new : Shape) (s : Step Record) → mid.control ≡ FinalList → mid ≡ record v { at = mid.at } → new ≡ ended_by FinalEnded s mid → Settled v → Settled new
list_settled v mid new (Row r) c m n h = subst Settled (sym n) (at_settled v mid m h)
list_settled v mid new Working c m n h = subst Settled (sym n) (at_settled v mid m h)
list_settled v mid new End c m n h = subst Settled (sym (list_over mid new c n)) (record { over = refl; sorted = λ e. absurd (cc) })

-- What it does.

pub list_does : (v mid new : Shape) (s : Step Record) (shown : Shown) → v.control ≡ FinalList → mid ≡ record v { at = mid.at } → new ≡ ended_by FinalEnded s mid → RetrievalFits v shown → StepMarks v.query.need v.query.only (rows_of v shown) s (left_at Keys v shown) (left_at Keys mid shown) → DoesStep v new shown s
list_does v mid new (Row r) shown c m n f marks = subst (λ (x : Shape). DoesStep v x shown (Row r)) (sym n) (list_scanned v mid shown (Row r) c m f marks)
list_does v mid new Working shown c m n f marks = subst (λ (x : Shape). DoesStep v x shown Working) (sym n) (list_scanned v mid shown Working c m f marks)
list_does v mid new End shown c m n f marks =
    let none = list_scanned v mid shown End c m f marks in
    ended v mid new shown none.0 (list_over mid new (list_control v mid c m) n)

pub list_ends : (mid new : Shape) (s : Step Record) → mid.control ≡ FinalList → new ≡ ended_by FinalEnded s mid → EndsIn new s
list_ends mid new (Row r) c n = tt
list_ends mid new Working c n = tt
list_ends mid new End c n = ap (λ (x : Shape). x.control) (list_over mid new c n)

pub list_ended_by : (v mid new : Shape) (s : Step Record) → mid ≡ record v { at = mid.at } → new ≡ ended_by FinalEnded s mid → new ≡ ended_by FinalEnded s (record v { at = new.at })
list_ended_by v mid new (Row r) m n = subst (λ (x : Shape). x ≡ record v { at = x.at }) (sym n) m
list_ended_by v mid new Working m n = subst (λ (x : Shape). x ≡ record v { at = x.at }) (sym n) m
list_ended_by v mid new End m n = subst (λ (a : ℕ). new ≡ gone FinalEnded (record v { at = a })) (sym (ap (λ (x : Shape). x.at) n)) (n ∙ ap (gone FinalEnded) m)

-- What is left to do.

equal_most : (a b : ℕ) → a ≡ b → a ≤ b
equal_most a b e = omega (arith, e)

list_effort : (v : Shape) (shown : Shown) → v.control ≡ FinalList → effort v shown ≡ keys_work v
list_effort v shown c = ap (λ (x : Control). sum_of x (back_work v.joint v.borrowed shown) (front_work v shown) (table_work v shown) (keys_work v)) c

list_fetches : (v : Shape) (shown : Shown) → v.control ≡ FinalList → fetches_left v shown ≡ keys_work v
list_fetches v shown c = ap (λ (x : Control). fetches_by x (scan_fetches v shown) (keys_work v)) c

-- at the end of the list nothing is
effort_most : (mid new : Shape) (s : Step Record) (shown : Shown) → mid.control ≡ FinalList → new ≡ ended_by FinalEnded s mid → effort new shown ≤ keys_work mid
effort_most mid new (Row r) shown c n = equal_most (effort new shown) (keys_work mid) (ap (λ (x : Shape). effort x shown) n ∙ list_effort mid shown c)
effort_most mid new Working shown c n = equal_most (effort new shown) (keys_work mid) (ap (λ (x : Shape). effort x shown) n ∙ list_effort mid shown c)
effort_most mid new End shown c n = none (effort new shown) (keys_work mid) (ap (λ (x : Shape). effort x shown) (list_over mid new c n))
  where
    none : (a b : ℕ) → a ≡ 0 → a ≤ b
    none a b e = omega (arith, e)

fetches_most : (mid new : Shape) (s : Step Record) (shown : Shown) → mid.control ≡ FinalList → new ≡ ended_by FinalEnded s mid → fetches_left new shown ≤ keys_work mid
fetches_most mid new (Row r) shown c n = equal_most (fetches_left new shown) (keys_work mid) (ap (λ (x : Shape). fetches_left x shown) n ∙ list_fetches mid shown c)
fetches_most mid new Working shown c n = equal_most (fetches_left new shown) (keys_work mid) (ap (λ (x : Shape). fetches_left x shown) n ∙ list_fetches mid shown c)
fetches_most mid new End shown c n = none (fetches_left new shown) (keys_work mid) (ap (λ (x : Shape). fetches_left x shown) (list_over mid new c n))
  where
    none : (a b : ℕ) → a ≡ 0 → a ≤ b
    none a b e = omega (arith, e)

tries_to : (c d : Counts) (k l a b : ℕ) → a ≡ k → b ≤ l → Tries c d k l → Tries c d a b
tries_to c d k l a b old new t = record { once = t.once; less = let less = t.less in omega (arith, old, new, less) }

falls_to : (s : Step Record) (c d : Counts) (k l a b : ℕ) → a ≡ k → b ≤ l → Falls s c d k l → Falls s c d a b
falls_to (Row r) c d k l a b old new less = omega (arith, old, new, less)
falls_to Working c d k l a b old new less = omega (arith, old, new, less)
falls_to End c d k l a b old new same = same

records_to : (c d k l a b : ℕ) → a ≡ k → b ≤ l → d + l ≤ c + k → d + b ≤ c + a
records_to c d k l a b old new less = omega (arith, old, new, less)

pub list_tries : (v mid new : Shape) (s : Step Record) (shown : Shown) (c d : Counts) → v.control ≡ FinalList → mid.control ≡ FinalList → new ≡ ended_by FinalEnded s mid → Tries c d (keys_work v) (keys_work mid) → Tries c d (effort v shown) (effort new shown)
list_tries v mid new s shown c d was is n t = tries_to c d (keys_work v) (keys_work mid) (effort v shown) (effort new shown) (list_effort v shown was) (effort_most mid new s shown is n) t

pub keys_try : (v mid : Shape) (shown : Shown) (c d : Counts) → v.control ≡ FinalList → mid.control ≡ FinalList → Tries c d (keys_work v) (keys_work mid) → Tries c d (effort v shown) (effort mid shown)
keys_try v mid shown c d was is t = tries_to c d (keys_work v) (keys_work mid) (effort v shown) (effort mid shown) (list_effort v shown was) (equal_most (effort mid shown) (keys_work mid) (list_effort mid shown is)) t

pub list_falls : (v mid new : Shape) (s : Step Record) (shown : Shown) (c d : Counts) → v.control ≡ FinalList → mid.control ≡ FinalList → new ≡ ended_by FinalEnded s mid → Falls s c d (keys_work v) (keys_work mid) → Falls s c d (effort v shown) (effort new shown)
list_falls v mid new s shown c d was is n f = falls_to s c d (keys_work v) (keys_work mid) (effort v shown) (effort new shown) (list_effort v shown was) (effort_most mid new s shown is n) f

pub list_records : (v mid new : Shape) (s : Step Record) (shown : Shown) (c d : Counts) → v.control ≡ FinalList → mid.control ≡ FinalList → new ≡ ended_by FinalEnded s mid → d.records + keys_work mid ≤ c.records + keys_work v → d.records + fetches_left new shown ≤ c.records + fetches_left v shown
list_records v mid new s shown c d was is n less = records_to c.records d.records (keys_work v) (keys_work mid) (fetches_left v shown) (fetches_left new shown) (list_fetches v shown was) (fetches_most mid new s shown is n) less

-- a key that is fetched is behind

ended_keys : (s : Step Record) (v : Shape) → keys_work (ended_by FinalEnded s v) ≡ keys_work v
ended_keys (Row r) v = refl
ended_keys Working v = refl
ended_keys End v = refl

pub list_keys : (v mid new : Shape) (s : Step Record) (c d : Counts) → new ≡ ended_by FinalEnded s mid → Falls s c d (keys_work v) (keys_work mid) → Falls s c d (keys_work v) (keys_work new)
list_keys v mid new s c d n falls = subst (λ (k : ℕ). Falls s c d (keys_work v) k) (sym (ap keys_work n ∙ ended_keys s mid)) falls
