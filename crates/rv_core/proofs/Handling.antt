-- What calls do to the plans of open cursors, by what they ask.
use Rattle.std.proofs.Common.{◌≡◌, ◌⊎◌, inl, inr, ℕ, ◌==◌, ◌&&◌, ◌<◌, [], ◌∷◌, List, Bool, true, false, Option, Some, None, Result, Ok, Err, IfOk, OnErr, refl, ap, sym, ◌∙◌, subst, length, position, bytes_eq, slice_get, slice_set}
use Rattle.std.proofs.lemmas.List.Quantifiers.{position-Some}
use Rattle.rv_value.proofs.Places.{get_there, put_back}
use Rattle.rv_judge.specs.declared.judging.Facts.{Facts}
use Rattle.rv_judge.specs.Verdicts.{Ruling}
use Rattle.rv_lang.specs.declared.statement.Statement.{Statement}
use Rattle.rv_lang.specs.declared.reply.Refusal.{Refusal}
use Rattle.rv_lang.specs.declared.reply.Refusal.TheVariants.{NoCursor}
use Rattle.rv_lang.specs.declared.reply.Reply.{Reply}
use Rattle.rv_lang.specs.declared.reply.Reply.TheVariants.{Refused}
use Rattle.rv_catalog.specs.declared.def.Resolved.{Resolved}
use Rattle.rv_catalog.specs.declared.def.Resolved.TheVariants as asks
use Rattle.rv_reader.specs.Shown.{Shown}
use Rattle.rv_model.specs.declared.state.State.{State}
use Rattle.rv_model.specs.Database.{cursor_named}
use Rattle.rv_model.specs.Step.{understood}
use Rattle.rv_cursor.specs.declared.cursor.Open.{Open}
use Rattle.rv_join.specs.Plans.{Planned}
use Rattle.rv_core.specs.Db.{Stand, Whole, open_named}
use Rattle.rv_core.specs.Doing.{DoesAsked, Executes, Fetches, PartIs, parted}
use Rattle.rv_core.specs.Obeying.{AnyOf, AsksJudge, Handles, HandlesText, Leaves, LeavesText, MovesNamed, Plans, Refuses, Turns, TurnsText, Under, Works, WorksText, is_fetch, plans_of}

-- Results.

pub parted_ok : {R E : Type 0} (r : Result R E) (P : R → Type 0) (W : Type 0) → IfOk r P → IfOk (parted r) (PartIs P W)
parted_ok (Ok x) P W h = h
parted_ok (Err e) P W h = tt

pub parted_err : {R E : Type 0} (r : Result R E) (P : Type 0) → OnErr r P → OnErr (parted r) P
parted_err (Ok x) P h = tt
parted_err (Err e) P h = h

-- what is said for each of some things at once
pub ok_each : {A B E : Type 0} (r : Result A E) (P : A → B → Type 0) → ((b : B) → IfOk r (λ a. P a b)) → IfOk r (λ a. (b : B) → P a b)
ok_each (Ok a) P h = h
ok_each (Err e) P h = tt

pub err_both : {A E : Type 0} (r : Result A E) (P Q R : Type 0) → (P → Q → R) → OnErr r P → OnErr r Q → OnErr r R
err_both (Ok a) P Q R more p q = tt
err_both (Err e) P Q R more p q = more p q

-- Nothing was done.

pub plans_same : {S : Type 0} (w d : Whole S) (judge : ℕ) → d.opens ≡ w.opens → d.opened ≡ w.opened → plans_of d judge ≡ plans_of w judge
plans_same w d judge opens opened = rw (opens, opened) refl

-- A search was made, which may have asked the judge.

asked_on : {S : Type 0} (w d : Whole S) (before after : ℕ) → d.opens ≡ w.opens → d.opened ≡ w.opened → AsksJudge (plans_of w before) (plans_of d after)
asked_on w d before after opens opened = rw (opens, opened) refl

pub asked_if : {S May : Type 0} (w d : Whole S) (before after : ℕ) → d.opens ≡ w.opens → d.opened ≡ w.opened → (after ≡ before) ⊎ May → AsksJudge (plans_of w before) (plans_of d after)
asked_if w d before after opens opened asks = asked_on w d before after opens opened

pub searches : {S May : Type 0} (w d : Whole S) (before after : ℕ) → d.opens ≡ w.opens → d.opened ≡ w.opened → (after ≡ before) ⊎ May → (plans_of d after ≡ plans_of w before) ⊎ (AsksJudge (plans_of w before) (plans_of d after) × May)
searches w d before after opens opened (inl unasked) = inl (asked_on w d before after opens opened ∙ ap (plans_of w) unasked)
searches w d before after opens opened (inr may) = inr (asked_on w d before after opens opened, may)

position_within : {X : Type 0} (p : X → Bool) (xs : List X) (i : ℕ) → position p xs ≡ Some i → i < length xs
position_within p [] i e = absurd (cc)
position_within p (x ∷ xs) i e = (position-Some p (x ∷ xs) i x e).0

named_got : (opens : List Open) (session place : ℕ) (name : List ℕ) → open_named opens session name ≡ Some place → (c : Open) × (slice_get opens place ≡ Some c)
named_got opens session place name e =
    let within = position_within (λ (c : Open). (c.session == session) && bytes_eq c.name name) opens place e in
    get_there opens place within

rests : (would : ℕ → Facts → Ruling) (shown : Shown) (p : Plans) (place : ℕ) → (c : Open) × (slice_get p.opens place ≡ Some c) → MovesNamed (AnyOf would) shown (Some place) p p
rests would shown p place there = (
  refl,
  record {
    before = there.0;
    after = there.0;
    here = there.1;
    set = sym (put_back p.opens place there.0 there.1);
    same = record { session = refl; name = refl; number = refl; snap = refl; frozen = refl; asked = refl };
    moved = record { moves = []; made = refl };
  },
)

rests_named : (would : ℕ → Facts → Ruling) (shown : Shown) (p : Plans) (session : ℕ) (name : List ℕ) (o : Option ℕ) → open_named p.opens session name ≡ o → MovesNamed (AnyOf would) shown o p p
rests_named would shown p session name None e = refl
rests_named would shown p session name (Some place) e = rests would shown p place (named_got p.opens session place name e)

pub leaves_same : (u : Under) (asked : Result Resolved Refusal) (db : State) (session : ℕ) (p : Plans) → Leaves u asked db session p p
leaves_same u (Ok (asks.CreateTable def)) db session p = refl
leaves_same u (Ok (asks.CreateIndex def)) db session p = refl
leaves_same u (Ok (asks.Begin ro)) db session p = refl
leaves_same u (Ok (asks.Insert table values)) db session p = refl
leaves_same u (Ok (asks.Update table sets only)) db session p = inl refl
leaves_same u (Ok (asks.Delete table only)) db session p = inl refl
leaves_same u (Ok asks.Commit) db session p = refl
leaves_same u (Ok asks.Rollback) db session p = refl
leaves_same u (Ok (asks.Open name s)) db session p = refl
leaves_same u (Ok (asks.Fetch name)) db session p = rests_named u.would u.store p session name (open_named p.opens session name) refl
leaves_same u (Ok (asks.Step name n)) db session p = rests_named u.would u.store p session name (open_named p.opens session name) refl
leaves_same u (Ok (asks.Show name)) db session p = refl
leaves_same u (Ok (asks.Close name)) db session p = refl
leaves_same u (Err refusal) db session p = refl

pub leaves_text : (u : Under) (statement : Option Statement) (db : State) (session : ℕ) (p : Plans) → LeavesText u statement db session p p
leaves_text u statement db session p = record { left = leaves_same u (understood db.schema statement) db session p }

-- the text asks this, and so the call does as this asks
pub executes : (statement : Option Statement) (asked : Resolved) (old new : Stand) (session : ℕ) (replies : Reply × Reply) → understood old.db.schema statement ≡ Ok asked → DoesAsked (Ok asked) old session replies new → Executes old session statement replies new
executes statement asked old new session replies is does = subst (λ (a : Result Resolved Refusal). DoesAsked a old session replies new) (sym is) does

-- the text asks this, and so the call handles the plans as this asks
pub handles_text : (u : Under) (statement : Option Statement) (asked : Result Resolved Refusal) (db : State) (session : ℕ) (reply : Reply) (old new : Plans) → understood db.schema statement ≡ asked → Handles u asked db session reply old new → ((refusal : Refusal) → reply ≡ Refused refusal → Refuses asked old new) → HandlesText u statement db session reply old new
handles_text u statement asked db session reply old new is handles refused = record { asked = subst (λ (a : Result Resolved Refusal). Handles u a db session reply old new) (sym is) handles; refused = λ refusal e. subst (λ (a : Result Resolved Refusal). Refuses a old new) (sym is) (refused refusal e) }

pub leaves_asked : (u : Under) (statement : Option Statement) (asked : Result Resolved Refusal) (db : State) (session : ℕ) (old new : Plans) → understood db.schema statement ≡ asked → Leaves u asked db session old new → LeavesText u statement db session old new
leaves_asked u statement asked db session old new is leaves = record { left = subst (λ (a : Result Resolved Refusal). Leaves u a db session old new) (sym is) leaves }

-- a plan that is as it was
pub given_back : (cs : List Open) (place : ℕ) (c : Open) (plan : Planned) → slice_get cs place ≡ Some c → plan ≡ c.plan → slice_set cs place (record c { plan = plan }) ≡ cs
given_back cs place c plan at same = rw same (put_back cs place c at)

-- A turn.

-- what is no FETCH is answered in one turn
pub turns_other : (u : Under) (asked : Resolved) (session : ℕ) (reply : Reply) (old new : Plans) → is_fetch asked ≡ false → Turns u (Ok asked) session reply old new
turns_other u (asks.CreateTable def) session reply old new is = tt
turns_other u (asks.CreateIndex def) session reply old new is = tt
turns_other u (asks.Begin ro) session reply old new is = tt
turns_other u (asks.Insert table values) session reply old new is = tt
turns_other u (asks.Update table sets only) session reply old new is = tt
turns_other u (asks.Delete table only) session reply old new is = tt
turns_other u asks.Commit session reply old new is = tt
turns_other u asks.Rollback session reply old new is = tt
turns_other u (asks.Open name s) session reply old new is = tt
turns_other u (asks.Fetch name) session reply old new is = absurd (cc)
turns_other u (asks.Step name n) session reply old new is = tt
turns_other u (asks.Show name) session reply old new is = tt
turns_other u (asks.Close name) session reply old new is = tt

-- a turn of what a text asks

pub part_handles : (u : Under) (statement : Option Statement) (asked : Resolved) (db : State) (session : ℕ) (part : Option (Reply × Reply)) (old new : Plans) → understood db.schema statement ≡ Ok asked
    → PartIs (λ (replies : Reply × Reply). Handles u (Ok asked) db session replies.0 old new) (Works u (Ok asked) session old new) part
    → ((refusal : Refusal) → PartIs (λ (replies : Reply × Reply). replies.0 ≡ Refused refusal → Refuses (Ok asked) old new) (Unit {0}) part)
    → PartIs (λ (replies : Reply × Reply). HandlesText u statement db session replies.0 old new) (WorksText u statement db session old new) part
part_handles u statement asked db session (Some replies) old new is handles refuses = handles_text u statement (Ok asked) db session replies.0 old new is handles refuses
part_handles u statement asked db session None old new is works refuses = record { works = subst (λ (a : Result Resolved Refusal). Works u a session old new) (sym is) works }

pub part_turns_text : (u : Under) (statement : Option Statement) (asked : Resolved) (db : State) (session : ℕ) (part : Option (Reply × Reply)) (old new : Plans) → understood db.schema statement ≡ Ok asked
    → PartIs (λ (replies : Reply × Reply). Turns u (Ok asked) session replies.0 old new) (Unit {0}) part
    → PartIs (λ (replies : Reply × Reply). TurnsText u statement db session replies.0 old new) (Unit {0}) part
part_turns_text u statement asked db session (Some replies) old new is turn = record { turn = subst (λ (a : Result Resolved Refusal). Turns u a session replies.0 old new) (sym is) turn }
part_turns_text u statement asked db session None old new is turn = tt

pub part_executes : (statement : Option Statement) (asked : Resolved) (old new : Stand) (W : Type 0) (session : ℕ) (part : Option (Reply × Reply)) → understood old.db.schema statement ≡ Ok asked
    → PartIs (λ (replies : Reply × Reply). DoesAsked (Ok asked) old session replies new) W part
    → PartIs (λ (replies : Reply × Reply). Executes old session statement replies new) W part
part_executes statement asked old new W session (Some replies) is does = executes statement asked old new session replies is does
part_executes statement asked old new W session None is works = works

-- no cursor of that name is open
pub refused_fetch : (s : Stand) (session : ℕ) (name : List ℕ) (replies : Reply × Reply) → cursor_named s.db.cursors session name ≡ None → (replies.0 ≡ Refused (NoCursor name)) × (replies.1 ≡ Refused (NoCursor name)) → Fetches s session name replies s
refused_fetch s session name replies none made = rw none (made.1 ∙ sym made.0, made.0, refl)

-- what is no FETCH is none
pub never : true ≡ false → ⊥
never e = cc
