-- A leaf that is taken up where it stands: what it leaves, and what it spends.
use Rattle.std.proofs.Common.{◌≡◌, ℕ, ◌+◌, ◌≤◌, List, Bool, true, false, refl, ap, sym, ◌∙◌, arith, subst, Option, Some, None, IsSome, inl, inr, Result, Ok, Err, IfOk, OnErr}
use Rattle.rv_value.specs.declared.record.IndexEntry.{IndexEntry}
use Rattle.rv_judge.specs.declared.counting.Counts.{Counts}
use Rattle.rv_judge.specs.Counting.{reads}
use Rattle.rv_reader.specs.Shown.{Shown}
use Rattle.rv_jscan.specs.declared.jscan.Given.TheVariants.{Accepted}
use Rattle.rv_jscan.specs.declared.jscan.Taken.TheVariants.{Piece}
use Rattle.rv_jscan.specs.Joint.{Joint, under_way}
use Rattle.rv_jscan.specs.Steps.{Accepts, TakeLeaves, Works, held_next, steps_read}
use Rattle.rv_retrieval.specs.Effort.{back_work}
use Rattle.rv_retrieval.specs.Opened.{OnlyLists, SameScans}
use Rattle.rv_retrieval.specs.Short.{keys_most}
use Rattle.rv_retrieval.proofs.BackWork.{leaf_spends, take_spends}
use Rattle.rv_retrieval.proofs.Openings.{gives_less}
use Rattle.rv_retrieval.proofs.Shorts.{gives_keys}

-- One leaf.

same_scans : (old new : Joint) → new.plans ≡ old.plans → new.snap ≡ old.snap → new.cursor ≡ old.cursor → new.opening ≡ old.opening → SameScans old new
same_scans old new plans snap cursor opening = record { plans = plans; snap = snap; cursor = cursor; opening = opening }

stayed_scans : (old new : Joint) → new ≡ old → SameScans old new
stayed_scans old new e = same_scans old new (ap (λ (j : Joint). j.plans) e) (ap (λ (j : Joint). j.snap) e) (ap (λ (j : Joint). j.cursor) e) (ap (λ (j : Joint). j.opening) e)

took_scans : (old new : Joint) → TakeLeaves old new → SameScans old new
took_scans old new t = same_scans old new (ap (λ (j : Joint). j.plans) t.same) (ap (λ (j : Joint). j.snap) t.same) (ap (λ (j : Joint). j.cursor) t.same) (ap (λ (j : Joint). j.opening) t.same)

accepted_scans : (old new : Joint) (entries : List IndexEntry) (next : Option IndexEntry) → Accepts old new entries next → SameScans old new
accepted_scans old new entries (Some cut) a = same_scans old new (ap (λ (j : Joint). j.plans) a) (ap (λ (j : Joint). j.snap) a) (ap (λ (j : Joint). j.cursor) a) (ap (λ (j : Joint). j.opening) a)
accepted_scans old new entries None a = same_scans old new (ap (λ (j : Joint). j.plans) a.3) (ap (λ (j : Joint). j.snap) a.3) (ap (λ (j : Joint). j.cursor) a.3) (ap (λ (j : Joint). j.opening) a.3)

then_scans : (old mid new : Joint) → SameScans old mid → SameScans mid new → SameScans old new
then_scans old mid new s t = record { plans = t.plans ∙ s.plans; snap = t.snap ∙ s.snap; cursor = t.cursor ∙ s.cursor; opening = t.opening ∙ s.opening }

works_scans : (shown : Shown) (old new : Joint) → Works shown old new → SameScans old new
works_scans shown old new w = then_scans old w.taken new (took_scans old w.taken w.leaves) (accepted_scans w.taken new w.piece.entries (held_next w.taken.held) w.gives.1)

took_lists : (old new : Joint) → TakeLeaves old new → OnlyLists old new
took_lists old new t = record { either = inl (ap (λ (j : Joint). j.ended) t.same, ap (λ (j : Joint). j.list) t.same) }

accepted_lists : (old taken new : Joint) (entries : List IndexEntry) (next : Option IndexEntry) → TakeLeaves old taken → Accepts taken new entries next → OnlyLists old new
accepted_lists old taken new entries (Some cut) t a = record { either = inl (ap (λ (j : Joint). j.ended) a ∙ ap (λ (j : Joint). j.ended) t.same, ap (λ (j : Joint). j.list) a ∙ ap (λ (j : Joint). j.list) t.same) }
accepted_lists old taken new entries None t a =
    let further = ap (λ (j : Joint). j.ended) a.3 in
    let same = ap (λ (j : Joint). j.ended) t.same in
    record { either = inr (omega arith, subst (λ (l : Option (List ℕ)). IsSome l) (sym (ap (λ (j : Joint). j.list) a.3)) refl) }

works_less : (shown : Shown) (old new : Joint) (before after : Counts) → after ≡ steps_read old before → Works shown old new → back_work new 0 shown ≤ back_work old 0 shown
works_less shown old new before after r w =
    let took = leaf_spends old w.taken shown 0 before after w.leaves r in
    let gave = gives_less w.taken new w.piece Accepted shown 0 w.gives w.fits in
    omega (arith, took.1)

works_spends : (shown : Shown) (old new : Joint) (before after : Counts) → after ≡ steps_read old before → Works shown old new → reads after + back_work new 0 shown ≤ reads before + back_work old 0 shown
works_spends shown old new before after r w =
    let took = take_spends old w.taken shown 0 before after (Piece w.piece) w.leaves w.gives.0 r in
    let gave = gives_less w.taken new w.piece Accepted shown 0 w.gives w.fits in
    omega arith

-- nothing is read where no scan is under way
none_read : (old : Joint) (before : Counts) → under_way old ≡ false → steps_read old before ≡ before
none_read old before none = rw none refl

-- Whatever is answered.

pub worked_scans : {E : Type 0} (r : Result Bool E) (shown : Shown) (old new : Joint) → IfOk r (λ more. more ≡ true → Works shown old new) → IfOk r (λ more. more ≡ false → (under_way old ≡ false) × (new ≡ old)) → OnErr r (TakeLeaves old new) → SameScans old new
worked_scans (Ok true) shown old new works none err = works_scans shown old new (works refl)
worked_scans (Ok false) shown old new works none err = stayed_scans old new (none refl).1
worked_scans (Err e) shown old new works none err = took_scans old new err

pub worked_lists : {E : Type 0} (r : Result Bool E) (shown : Shown) (old new : Joint) → IfOk r (λ more. more ≡ true → Works shown old new) → IfOk r (λ more. more ≡ false → (under_way old ≡ false) × (new ≡ old)) → OnErr r (TakeLeaves old new) → OnlyLists old new
worked_lists (Ok true) shown old new works none err = let w = works refl in accepted_lists old w.taken new w.piece.entries (held_next w.taken.held) w.leaves w.gives.1
worked_lists (Ok false) shown old new works none err = record { either = inl (ap (λ (j : Joint). j.ended) (none refl).1, ap (λ (j : Joint). j.list) (none refl).1) }
worked_lists (Err e) shown old new works none err = took_lists old new err

pub worked_less : {E : Type 0} (r : Result Bool E) (shown : Shown) (old new : Joint) (before after : Counts) → after ≡ steps_read old before → IfOk r (λ more. more ≡ true → Works shown old new) → IfOk r (λ more. more ≡ false → (under_way old ≡ false) × (new ≡ old)) → OnErr r (TakeLeaves old new) → back_work new 0 shown ≤ back_work old 0 shown
worked_less (Ok true) shown old new before after read works none err = works_less shown old new before after read (works refl)
worked_less (Ok false) shown old new before after read works none err = let same = ap (λ (j : Joint). back_work j 0 shown) (none refl).1 in omega arith
worked_less (Err e) shown old new before after read works none err = (leaf_spends old new shown 0 before after err read).1

pub worked_spends : {E : Type 0} (r : Result Bool E) (shown : Shown) (old new : Joint) (before after : Counts) → after ≡ steps_read old before → IfOk r (λ more. more ≡ true → Works shown old new) → IfOk r (λ more. more ≡ false → (under_way old ≡ false) × (new ≡ old)) → IfOk r (λ more. reads after + back_work new 0 shown ≤ reads before + back_work old 0 shown)
worked_spends (Ok true) shown old new before after read works none = works_spends shown old new before after read (works refl)
worked_spends (Ok false) shown old new before after read works none =
    let same = ap (λ (j : Joint). back_work j 0 shown) (none refl).1 in
    let unread = ap reads (read ∙ none_read old before (none refl).0) in
    omega arith
worked_spends (Err e) shown old new before after read works none = tt

pub worked_keys : {E : Type 0} (r : Result Bool E) (shown : Shown) (old new : Joint) → IfOk r (λ more. more ≡ true → Works shown old new) → IfOk r (λ more. more ≡ false → (under_way old ≡ false) × (new ≡ old)) → OnErr r (TakeLeaves old new) → keys_most new shown ≤ keys_most old shown
worked_keys (Ok true) shown old new works none err = let w = works refl in gives_keys old w.taken new w.piece Accepted shown w.leaves w.gives w.fits
worked_keys (Ok false) shown old new works none err = let same = ap (λ (j : Joint). keys_most j shown) (none refl).1 in omega arith
worked_keys (Err e) shown old new works none err = let same = ap (λ (j : Joint). keys_most j shown) err.same in omega arith

pub worked_done : {E : Type 0} (r : Result Bool E) (old new : Joint) → IfOk r (λ more. more ≡ false → (under_way old ≡ false) × (new ≡ old)) → IfOk r (λ more. more ≡ false → under_way new ≡ false)
worked_done (Ok more) old new none = λ end. ap under_way (none end).1 ∙ (none end).0
worked_done (Err e) old new none = tt
