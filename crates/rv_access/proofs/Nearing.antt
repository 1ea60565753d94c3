-- The leaves that an access may still read where members are put together.
use Rattle.std.proofs.Common.{◌≡◌, ℕ, true, false, List, Result, Ok, Err, IfOk, Box, ap, sym, subst}
use Rattle.std.specs.declared.alloc.Global.{Global}
use Rattle.rv_value.proofs.Tests.{no_other}
use Rattle.rv_judge.specs.declared.counting.Counts.{Counts}
use Rattle.rv_restrict.specs.declared.atom.Atom.{Atom}
use Rattle.rv_reader.specs.Shown.{Shown}
use Rattle.rv_jscan.specs.declared.jscan.ScanPlan.{ScanPlan}
use Rattle.rv_choice.specs.declared.query.Query.{Query}
use Rattle.rv_union.specs.Leaves.{LeavesFall, leaves_left, planned_leaves}
use Rattle.rv_union.specs.Opened.{Opened as UnionOpened}
use Rattle.rv_union.specs.Unioned.{Unioned}
use Rattle.rv_access.specs.declared.access.Access.{Access}
use Rattle.rv_access.specs.declared.uniting.UnitedQuery.{UnitedQuery}
use Rattle.rv_access.specs.Ahead.{AllAhead, LeavesNear, is_union}
use Rattle.rv_access.proofs.Boxes.{with_union}

-- the members of a union that was opened are its planned scans
pub opened_ahead : (table snap : ℕ) (only : List (List Atom)) (plans : List ScanPlan) (cursor opening pages : ℕ) (u : Unioned) (shown : Shown) → UnionOpened table snap only plans cursor opening pages u → leaves_left u shown ≡ planned_leaves plans shown snap → leaves_left u shown ≡ planned_leaves u.plans shown snap
opened_ahead table snap only plans cursor opening pages u shown opened ahead = subst (λ (ps : List ScanPlan). leaves_left u shown ≡ planned_leaves ps shown snap) (sym (ap (λ (x : Unioned). x.plans) opened.is)) ahead

pub all_ahead : (query : Query) (shown : Shown) (b : Box UnitedQuery Global) (u : UnitedQuery) → u.query ≡ query → leaves_left u.union shown ≡ planned_leaves u.union.plans shown query.snap → AllAhead shown (with_union b u)
all_ahead query shown b u asked ahead = λ united. subst (λ (q : Query). leaves_left u.union shown ≡ planned_leaves u.union.plans shown q.snap) (sym asked) ahead

-- no members are put together
pub none_ahead : (shown : Shown) (v : Access) → is_union v ≡ false → AllAhead shown v
none_ahead shown v other = λ united. no_other (subst (λ b. b ≡ true) other united)

pub none_near : {X E : Type 0} (r : Result X E) (shown : Shown) (before after : Counts) (old new : Access) → is_union old ≡ false → IfOk r (λ x. LeavesNear shown before after old new)
none_near (Ok x) shown before after old new other = λ united. no_other (subst (λ b. b ≡ true) other united)
none_near (Err e) shown before after old new other = tt

pub union_near : {X E : Type 0} (r : Result X E) (shown : Shown) (before after : Counts) (b : Box UnitedQuery Global) (old new : UnitedQuery) → IfOk r (λ x. LeavesFall before after (leaves_left old.union shown) (leaves_left new.union shown)) → IfOk r (λ x. LeavesNear shown before after (with_union b old) (with_union b new))
union_near (Ok x) shown before after b old new fall = λ united. fall
union_near (Err e) shown before after b old new fall = tt
