-- What becomes of a cursor's offers when its plan is called.
use Rattle.std.proofs.Common.{◌≡◌, ◌<◌, ◌≤◌, List, [], ◌∷◌, ◌++◌, refl, ap, sym, ◌∙◌, subst, arith, Option, Some, None, IfSome}
use Rattle.std.specs.List.Sorted.{IsPermutation}
use Rattle.std.proofs.lemmas.List.Sorted.{IsPermutation-refl}
use Rattle.rv_value.specs.declared.value.Value.{Value}
use Rattle.rv_lang.specs.declared.reply.Reply.{Reply}
use Rattle.rv_lang.specs.declared.reply.Reply.TheVariants.{Row, End}
use Rattle.rv_reader.specs.Shown.{Shown}
use Rattle.rv_model.specs.declared.state.Offer.{Offer}
use Rattle.rv_model.specs.Offers.{offers_in_order}
use Rattle.rv_model.proofs.Sorting.{sorted_moved}
use Rattle.rv_join.specs.Order.{IsLeastOf}
use Rattle.rv_join.specs.Plans.{PlanFits, PlanMoves, PlanStays, Planned, plan_rest}
use Rattle.rv_reader.specs.declared.step.Step.TheVariants.{Row as PlanRow, Working}
use Rattle.rv_cursor.specs.declared.cursor.Open.{Open}
use Rattle.rv_cursor.specs.Left.{CursorFits, SameCursor, Stays, TakesOffer, in_hand, left, seen_at, seen_by, to_come, to_do, work}
use Rattle.rv_cursor.proofs.Giving.{gives_least}

same_itself : (c : Open) → SameCursor c c
same_itself c = record { session = refl; name = refl; number = refl; snap = refl; frozen = refl; asked = refl }

pub stays_itself : (shown : Shown) (c : Open) → CursorFits shown c → Stays shown c c
stays_itself shown c fits = record { fits = fits; same = same_itself c; left = refl }

pub same_on : (a b c : Open) → SameCursor a b → SameCursor b c → SameCursor a c
same_on a b c first then = record {
  session = then.session ∙ first.session;
  name = then.name ∙ first.name;
  number = then.number ∙ first.number;
  snap = then.snap ∙ first.snap;
  frozen = then.frozen ∙ first.frozen;
  asked = then.asked ∙ first.asked;
}

pub stays_on : (shown : Shown) (a b c : Open) → Stays shown a b → Stays shown b c → Stays shown a c
stays_on shown a b c first then = record {
  fits = then.fits;
  same = same_on a b c first.same then.same;
  left = then.left ∙ first.left;
}

-- the plan's rest stays as it is
pub piece_stays : (shown : Shown) (c : Open) (p : Planned) → CursorFits shown c → PlanFits (seen_by shown c) p → PlanStays (seen_by shown c) c.plan p → Stays shown c (record c { plan = p })
piece_stays shown c p fits new stays = record {
  fits = record {
    at = ap (λ a. a.snap) stays.asked ∙ fits.at;
    plan = new;
    least = subst (λ (rest : List Offer). IfSome c.hand (λ o. IsLeastOf o rest)) (sym stays.rest_same) fits.least;
    lays = fits.lays;
  };
  same = record { session = refl; name = refl; number = refl; snap = refl; frozen = refl; asked = stays.asked };
  left = ap (λ (rest : List Offer). offers_in_order (in_hand c.hand ++ rest)) stays.rest_same;
}

-- two calls on the plan, one after the other
pub pieces_stay : (shown : Shown) (c : Open) (p q : Planned) → CursorFits shown c → PlanFits (seen_by shown c) q → PlanStays (seen_by shown c) c.plan p → PlanStays (seen_by shown c) p q → Stays shown c (record c { plan = q })
pieces_stay shown c p q fits new first then = piece_stays shown c q fits new (record { asked = then.asked ∙ first.asked; rest_same = then.rest_same ∙ first.rest_same; work = omega (arith, first.work, then.work) })

no_hand : (hand : Option Offer) (rest : List Offer) → hand ≡ None → offers_in_order (in_hand hand ++ rest) ≡ offers_in_order rest
no_hand hand rest empty = rw empty refl

-- the plan's rest stays but for its order, with no row in hand
pub kept_stays : (shown : Shown) (c : Open) (p : Planned) → c.hand ≡ None → CursorFits shown c → PlanFits (seen_by shown c) p → p.asked ≡ c.plan.asked → IsPermutation (plan_rest (seen_by shown c) c.plan) (plan_rest (seen_by shown c) p) → Stays shown c (record c { plan = p })
kept_stays shown c p empty fits new asked moved = record {
  fits = record { at = ap (λ a. a.snap) asked ∙ fits.at; plan = new; least = rw empty tt; lays = fits.lays };
  same = record { session = refl; name = refl; number = refl; snap = refl; frozen = refl; asked = asked };
  left = no_hand c.hand (plan_rest (seen_by shown c) p) empty ∙ sorted_moved (plan_rest (seen_by shown c) c.plan) (plan_rest (seen_by shown c) p) moved ∙ sym (no_hand c.hand (plan_rest (seen_by shown c) c.plan) empty);
}

-- nothing was left, and nothing is
pub none_moved : (old new : List Offer) → old ≡ [] → new ≡ [] → IsPermutation old new
none_moved old new before after = rw (before, after) (IsPermutation-refl [])

-- a row came out of the plan
pub row_stays : (shown : Shown) (c : Open) (p : Planned) (o : Offer) (hand : Option Offer) → hand ≡ Some o → c.hand ≡ None → CursorFits shown c → PlanFits (seen_by shown c) p → PlanMoves (seen_by shown c) (PlanRow o) c.plan p → Stays shown c (record c { plan = p; hand = hand })
row_stays shown c p o hand held empty fits new moves = rw held record {
  fits = record { at = ap (λ a. a.snap) moves.asked ∙ fits.at; plan = new; least = moves.step.least; lays = fits.lays };
  same = record { session = refl; name = refl; number = refl; snap = refl; frozen = refl; asked = moves.asked };
  left = sorted_moved (plan_rest (seen_by shown c) c.plan) (o ∷ plan_rest (seen_by shown c) p) moves.step.out ∙ sym (no_hand c.hand (plan_rest (seen_by shown c) c.plan) empty);
}

-- nothing is left
pub none_left : (shown : Shown) (c : Open) → c.hand ≡ None → to_come shown c ≡ [] → left shown c ≡ []
none_left shown c empty none = rw (empty, none) refl

-- the row in hand was given
pub hand_gives : (shown : Shown) (c : Open) (o : Offer) (values : List Value) (hand : Option Offer) (replies : Reply × Reply) → c.hand ≡ Some o → hand ≡ None → values ≡ o.returned → (replies.0 ≡ Row values) × (replies.1 ≡ Row values) → CursorFits shown c → TakesOffer (left shown c) replies (left shown (record c { hand = hand }))
hand_gives shown c o values hand replies held empty copied made fits =
    let least : IsLeastOf o (to_come shown c) = subst (λ (h : Option Offer). IfSome h (λ x. IsLeastOf x (to_come shown c))) held fits.least in
    let first : replies.0 ≡ Row o.returned = made.0 ∙ ap (λ (vs : List Value). Row vs) copied in
    let twice : replies.1 ≡ replies.0 = made.1 ∙ sym made.0 in
    rw (held, empty) (gives_least o (to_come shown c) replies least twice first)

-- the row in hand was given, and a copy of it
pub hand_moves : (shown : Shown) (c : Open) (o : Offer) (copy : List Value) (given hand : Option Offer) (replies : Reply × Reply) → c.hand ≡ Some o → given ≡ c.hand → hand ≡ None → copy ≡ o.returned → IfSome given (λ x. (replies.0 ≡ Row x.returned) × (replies.1 ≡ Row copy)) → CursorFits shown c → TakesOffer (left shown c) replies (left shown (record c { hand = hand }))
hand_moves shown c o copy given hand replies held took empty copied made fits =
    let both : (replies.0 ≡ Row o.returned) × (replies.1 ≡ Row copy) = subst (λ (h : Option Offer). IfSome h (λ x. (replies.0 ≡ Row x.returned) × (replies.1 ≡ Row copy))) (took ∙ held) made in
    let second : replies.1 ≡ Row o.returned = both.1 ∙ ap (λ (vs : List Value). Row vs) copied in
    hand_gives shown c o o.returned hand replies held empty refl (both.0, second) fits

-- a reader at the same snapshot, with the same view laid over it
pub seen_stays : (shown : Shown) (old new : Open) → SameCursor old new → seen_by shown new ≡ seen_by shown old
seen_stays shown old new same = λ i. seen_at shown (same.snap i) (same.frozen i)

-- the plan works on, and what is done beside brings no row and adds no work
pub nearer_beside : (shown : Shown) (c : Open) (p : Planned) (new : Open) → c.hand ≡ None → PlanMoves (seen_by shown c) Working c.plan p → new.hand ≡ c.hand → work shown new ≤ work shown (record c { plan = p }) → to_do shown new < to_do shown c
nearer_beside shown c p new empty moves hand less =
    let at : work shown (record c { plan = p }) < work shown c = moves.work in
    rw (hand ∙ empty, empty) (omega (arith, at, less))

-- nothing is left, as before, and the end is told twice
pub end_takes : (old new : List Offer) → new ≡ [] → new ≡ old → TakesOffer old (End, End) new
end_takes old new none same =
    let before : old ≡ [] = sym same ∙ none in
    rw (before, none) (refl, refl, refl)

-- what was left at first is given
pub takes_then : (old mid new : List Offer) (replies : Reply × Reply) → mid ≡ old → TakesOffer mid replies new → TakesOffer old replies new
takes_then old mid new replies same takes = subst (λ (offers : List Offer). TakesOffer offers replies new) same takes
