-- A FETCH of the cursor of a name, and one turn of it, as a part of it.
use Rattle.std.proofs.Common.{◌≡◌, ℕ, zero, List, Option, Some, None, IsSome, ap, refl, slice_get, slice_set}
use Rattle.rv_judge.specs.declared.judging.Facts.{Facts}
use Rattle.rv_judge.specs.Verdicts.{Ruling}
use Rattle.rv_lang.specs.declared.reply.Reply.{Reply}
use Rattle.rv_lang.specs.declared.reply.Refusal.{Refusal}
use Rattle.rv_lang.specs.declared.reply.Reply.TheVariants.{Refused}
use Rattle.rv_model.specs.declared.state.Offer.{Offer}
use Rattle.rv_catalog.specs.Schema.{Schema}
use Rattle.rv_reader.specs.Shown.{Shown}
use Rattle.rv_model.specs.declared.transactions.Transactions.{Transactions}
use Rattle.rv_model.specs.Database.{cursor_named}
use Rattle.rv_reader.specs.declared.step.Step.{Step}
use Rattle.rv_reader.specs.declared.step.Step.TheVariants.{Row, Working, End}
use Rattle.rv_cursor.specs.declared.cursor.Open.{Open}
use Rattle.rv_cursor.specs.Left.{SameCursor, TakesOffer, TakesPart, left, seen_by}
use Rattle.rv_cursor.specs.Moves.{FetchMoves, RepliesTo, Ruled, TurnMoves, ruled}
use Rattle.rv_core.specs.Db.{seen, stand_of, whole_of}
use Rattle.rv_core.specs.Doing.{Fetches, PartIs}
use Rattle.rv_core.specs.Obeying.{FetchOf, MovesAt, TurnOf}
use Rattle.rv_core.proofs.Databases.{whole_opens}
use Rattle.rv_core.proofs.Opens.{fetches_at, offers_no_refusal, same_at}

-- the cursor of the name stands in this place
pub fetches_named : (shown : Shown) (schema : Schema) (txns : Transactions) (cs : List Open) (session place : ℕ) (name : List ℕ) (c new : Open) (replies : Reply × Reply) → cursor_named (seen shown cs) session name ≡ Some place → slice_get cs place ≡ Some c → SameCursor c new → TakesOffer (left shown c) replies (left shown new) → Fetches (stand_of shown schema txns (seen shown cs)) session name replies (stand_of shown schema txns (seen shown (slice_set cs place new)))
fetches_named shown schema txns cs session place name c new replies named at same takes =
    let did = fetches_at shown cs place c new replies at same takes in
    rw named (did.0, did.1, ap (stand_of shown schema txns) did.2)

-- a turn that makes a reply is a FETCH
pub turn_fetches : (hand : Option Offer) (replies : Reply × Reply) (most : ℕ) (would : ℕ → Facts → Ruling) (shown : Shown) (old new : Ruled) → TurnMoves hand (Some replies) most would shown old new → FetchMoves hand most would shown old new
turn_fetches hand replies most would shown old new t = record { turns = zero; mid = old; made = refl; replies = replies; last = t }

-- which replies it makes is not said here
replied : (step : Step Offer) (r s : Reply × Reply) → RepliesTo step (Some r) → RepliesTo step (Some s)
replied (Row o) r s h = refl
replied End r s h = refl
replied Working r s h = absurd (cc)

pub turn_any : (hand : Option Offer) (r s : Reply × Reply) (most : ℕ) (would : ℕ → Facts → Ruling) (shown : Shown) (old new : Ruled) → TurnMoves hand (Some r) most would shown old new → TurnMoves hand (Some s) most would shown old new
turn_any (Some o) r s most would shown old new t = (refl, t.1)
turn_any None r s most would shown old new t = (t.0, replied t.0 r s t.1, t.2)

-- a turn of the cursor in a place

pub part_moves : (most : ℕ) (would : ℕ → Facts → Ruling) (shown : Shown) (cs : List Open) (place judge after : ℕ) (c new : Open) (part : Option (Reply × Reply)) → slice_get cs place ≡ Some c → SameCursor c new → (IsSome c.hand → ruled new after ≡ ruled c judge) → TurnMoves c.hand part most would (seen_by shown c) (ruled c judge) (ruled new after)
    → PartIs (λ (replies : Reply × Reply). MovesAt (FetchOf most would) shown place judge after cs (slice_set cs place new)) (MovesAt (TurnOf None most would) shown place judge after cs (slice_set cs place new)) part
part_moves most would shown cs place judge after c new (Some replies) at same held t = record { before = c; after = new; here = at; set = refl; same = same; moved = record { turns = turn_fetches c.hand replies most would (seen_by shown c) (ruled c judge) (ruled new after) t; held = held } }
part_moves most would shown cs place judge after c new None at same held t = record { before = c; after = new; here = at; set = refl; same = same; moved = t }

pub part_turns : (most : ℕ) (would : ℕ → Facts → Ruling) (shown : Shown) (cs : List Open) (place judge after : ℕ) (c new : Open) (part : Option (Reply × Reply)) → slice_get cs place ≡ Some c → SameCursor c new → TurnMoves c.hand part most would (seen_by shown c) (ruled c judge) (ruled new after)
    → PartIs (λ (replies : Reply × Reply). MovesAt (TurnOf (Some (replies.0, replies.0)) most would) shown place judge after cs (slice_set cs place new)) (Unit {0}) part
part_turns most would shown cs place judge after c new (Some replies) at same t = record { before = c; after = new; here = at; set = refl; same = same; moved = turn_any c.hand replies (replies.0, replies.0) most would (seen_by shown c) (ruled c judge) (ruled new after) t }
part_turns most would shown cs place judge after c new None at same t = tt

pub part_given : (shown : Shown) (c new : Open) (part : Option (Reply × Reply)) → TakesPart (left shown c) part (left shown new) → PartIs (λ (replies : Reply × Reply). (refusal : Refusal) → ¬ (replies.0 ≡ Refused refusal)) (Unit {0}) part
part_given shown c new (Some replies) takes = λ refusal. offers_no_refusal (left shown c) replies.0 takes.1 refusal
part_given shown c new None takes = tt

-- a turn of the cursor of a name, which stands in this place

pub part_more : {R : Type 0} (P Q : R → Type 0) (V W : Type 0) (part : Option R) → ((r : R) → P r → Q r) → (V → W) → PartIs P V part → PartIs Q W part
part_more P Q V W (Some r) answers works h = answers r h
part_more P Q V W None answers works h = works h

pub part_named : {S : Type 0} (store : S) (shown : Shown) (schema : Schema) (txns : Transactions) (cs : List Open) (n session place : ℕ) (name : List ℕ) (c new : Open) (part : Option (Reply × Reply)) → cursor_named (seen shown cs) session name ≡ Some place → slice_get cs place ≡ Some c → SameCursor c new → TakesPart (left shown c) part (left shown new)
    → PartIs (λ (replies : Reply × Reply). Fetches (stand_of shown schema txns (seen shown cs)) session name replies (stand_of shown schema txns (seen shown (slice_set cs place new)))) (whole_of store shown schema txns (slice_set cs place new) n ≡ record (whole_of store shown schema txns cs n) { opens = slice_set cs place new }) part
part_named store shown schema txns cs n session place name c new (Some replies) named at same takes = fetches_named shown schema txns cs session place name c new replies named at same takes
part_named store shown schema txns cs n session place name c new None named at same kept = whole_opens store shown schema txns cs (slice_set cs place new) n (same_at shown cs place c new at same kept)
