-- What a cursor has left to offer.
use Rattle.std.specs.Prelude.{◌≡◌, ℕ, ◌+◌, List, [], ◌∷◌, ◌++◌, Option, Some, None, IfSome, IsSome}
use Rattle.rv_lang.specs.declared.reply.Reply.{Reply}
use Rattle.rv_model.specs.declared.state.Offer.{Offer}
use Rattle.rv_model.specs.Offers.{offers_in_order}
use Rattle.rv_model.specs.Step.{Offers, offers_after}
use Rattle.rv_reader.specs.Shown.{Shown}
use Rattle.rv_view.specs.Alone.{alone}
use Rattle.rv_overlay.specs.declared.frozen.Frozen.{Frozen}
use Rattle.rv_view.specs.Sights.{LaysSome, laid_over}
use Rattle.rv_join.specs.Order.{IsLeastOf}
use Rattle.rv_join.specs.Plans.{PlanFits, plan_rest, plan_work}
use Rattle.rv_cursor.specs.declared.cursor.Open.{Open}
use Rattle.rv_reader.specs.declared.step.Step.{Step}
use Rattle.rv_reader.specs.declared.step.Step.TheVariants as turned

-- the reader at one snapshot alone, with what a transaction froze laid over it where it had changes
abbrev pub seen_at : Shown → ℕ → Option Frozen → Shown
seen_at shown snap frozen = laid_over (alone shown snap) frozen

-- WHAT A CURSOR SEES: its snapshot, with the changes that its transaction had made when it was opened
abbrev pub seen_by : Shown → Open → Shown
seen_by shown c = seen_at shown c.snap c.frozen

abbrev pub in_hand : Option Offer → List Offer
in_hand None = []
in_hand (Some o) = o ∷ []

-- the offers of its plan that did not come yet
abbrev pub to_come : Shown → Open → List Offer
to_come shown c = plan_rest (seen_by shown c) c.plan

-- THE OFFERS THAT A CURSOR HAS LEFT: the row in hand and the rest of its plan, sorted
abbrev pub left : Shown → Open → List Offer
left shown c = offers_in_order (in_hand c.hand ++ to_come shown c)

-- its plan was drawn from what it sees, none that is to come is less than the row in hand, and what was frozen fits
-- the reader
pub record CursorFits (shown : Shown) (c : Open) : Type 0 where
  pub at : c.plan.asked.snap ≡ c.snap
  pub plan : PlanFits (seen_by shown c) c.plan
  pub least : IfSome c.hand (λ o. IsLeastOf o (to_come shown c))
  pub lays : LaysSome (alone shown c.snap) c.frozen

-- what it was opened with stays
pub record SameCursor (old new : Open) : Type 0 where
  pub session : new.session ≡ old.session
  pub name : new.name ≡ old.name
  pub number : new.number ≡ old.number
  pub snap : new.snap ≡ old.snap
  pub frozen : new.frozen ≡ old.frozen
  pub asked : new.plan.asked ≡ old.plan.asked

-- whatever a call does to a cursor, but for an offer that it gives
pub record Stays (shown : Shown) (old new : Open) : Type 0 where
  pub fits : CursorFits shown new
  pub same : SameCursor old new
  pub left : left shown new ≡ left shown old

-- the work left of its plan
abbrev pub work : Shown → Open → ℕ
work shown c = plan_work (seen_by shown c) c.plan

-- the measure of a fetch: the work left of the plan, and one for the row that is not in hand
abbrev pub missing : Option Offer → ℕ
missing None = 1
missing (Some o) = 0

abbrev pub to_do : Shown → Open → ℕ
to_do shown c = work shown c + missing c.hand

-- Two equal replies may be given by a cursor of these offers, and these are left.
abbrev pub TakesOffer : List Offer → Reply × Reply → List Offer → Type 0
TakesOffer old replies new = (replies.1 ≡ replies.0) × Offers old replies.0 × (new ≡ offers_after old replies.0)

-- the same of a turn that may make no reply yet, and then leaves the offers
abbrev pub TakesPart : List Offer → Option (Reply × Reply) → List Offer → Type 0
TakesPart old (Some replies) new = TakesOffer old replies new
TakesPart old None new = new ≡ old

-- what a turn of a FETCH leaves in hand: a row, or none; at the end nothing is left either
abbrev pub LeavesHand : Step (Unit {0}) → List Offer → Option Offer → Type 0
LeavesHand (turned.Row held) offers hand = IsSome hand
LeavesHand turned.End offers hand = (hand ≡ None) × (offers ≡ [])
LeavesHand turned.Working offers hand = hand ≡ None
