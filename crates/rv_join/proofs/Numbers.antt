-- A take leaves what is awaited and counted; an accepted piece raises the number of the next one by one.
use Rattle.std.proofs.Common.{◌≡◌, ℕ, ◌<◌, Bool, true, false, List, [], ◌∷◌, length, Option, is_some, refl, ap, sym, ◌∙◌, arith, subst, zero, suc, slice_index_or, slice_set, position, Result, Ok, Err, IfOk}
use Rattle.std.proofs.lemmas.List.{length-set}
use Rattle.std.proofs.lemmas.List.Folds.{position_or_len-set}
use Rattle.rv_judge.specs.Counting.{one_more, raised}
use Rattle.rv_jscan.specs.declared.piece.PieceId.{PieceId}
use Rattle.rv_jscan.specs.declared.jscan.Given.{Given}
use Rattle.rv_jscan.specs.declared.jscan.Given.TheVariants.{Accepted, Stale}
use Rattle.rv_jscan.specs.declared.jscan.Taken.{Taken}
use Rattle.rv_jscan.specs.declared.jscan.Taken.TheVariants.{Piece, Nothing}
use Rattle.rv_choice.specs.declared.query.Query.{Query}
use Rattle.rv_choice.specs.declared.choosing.Choice.{Choice}
use Rattle.rv_access.specs.declared.access.Access.{Access}
use Rattle.rv_access.specs.Accesses.{SamePlans, number_of, query_of}
use Rattle.rv_access.specs.Given.{CountsPiece, SamePieces, TakesPiece, awaited}
use Rattle.rv_access.specs.Opened.{unites}
use Rattle.rv_access.proofs.Accesses.{piece_awaited}
use Rattle.rv_join.specs.declared.level.Level.{Level}
use Rattle.rv_join.specs.Levels.{Stacked}
use Rattle.rv_join.specs.Pieces.{LevelsAwait, StackAwaits, TakesAwaited, is_waiting, level_at, pieces_in, plan_awaited, waited, waiting, waits}
use Rattle.rv_join.specs.Plans.{Planned}
use Rattle.rv_join.specs.Rules.{IsByRules, StandsBy}
use Rattle.rv_reader.specs.Shown.{Shown}

-- A take.

waiting_same : (l m : Level) → SamePieces l.here m.here → is_waiting m ≡ is_waiting l
waiting_same l m same = ap (λ (id : Option PieceId). is_some id) same.awaited

first_same : (ls : List Level) (i : ℕ) (d new : Level) → is_waiting new ≡ is_waiting (slice_index_or ls i d) → position is_waiting (slice_set ls i new) ≡ position is_waiting ls
first_same ls i d new same = rw (position_or_len-set is_waiting ls i new d same, length-set ls i new) refl

each_same : (ls : List Level) (i : ℕ) (d new : Level) → i < length ls → awaited new.here ≡ awaited (slice_index_or ls i d).here → (k : ℕ) (e : Level) → awaited (slice_index_or (slice_set ls i new) k e).here ≡ awaited (slice_index_or ls k e).here
each_same [] i d new le same k e = absurd (omega (arith, le))
each_same (l ∷ ls) zero d new le same zero e = same
each_same (l ∷ ls) zero d new le same (suc k) e = refl
each_same (l ∷ ls) (suc i) d new le same zero e = refl
each_same (l ∷ ls) (suc i) d new le same (suc k) e = each_same ls i d new (omega (arith, le)) same k e

pieces_same : (ls : List Level) (i : ℕ) (d new : Level) → i < length ls → number_of new.here ≡ number_of (slice_index_or ls i d).here → (at : Level) → pieces_in (slice_set ls i new) at ≡ pieces_in ls at
pieces_same [] i d new le same at = absurd (omega (arith, le))
pieces_same (l ∷ ls) zero d new le same at = ap (λ (n : ℕ). raised n (pieces_in ls at)) same
pieces_same (l ∷ ls) (suc i) d new le same at = ap (λ (n : ℕ). raised (number_of l.here) n) (pieces_same ls i d new (omega (arith, le)) same at)

-- the level of a place had its piece taken
pub levels_wait : (ls : List Level) (i : ℕ) (old new : Level) → i < length ls → old ≡ slice_index_or ls i old → SamePieces old.here new.here → LevelsAwait ls (slice_set ls i new)
levels_wait ls i old new le is same =
    let there = subst (λ (l : Level). SamePieces l.here new.here) is same in
    record {
      count = length-set ls i new;
      first = first_same ls i old new (waiting_same (slice_index_or ls i old) new there);
      each = each_same ls i old new le there.awaited;
      pieces = pieces_same ls i old new le there.number;
    }

at_same : (olds news : List Level) (n : ℕ) (old new : Level) → length news ≡ length olds → ((i : ℕ) (d : Level) → awaited (slice_index_or news i d).here ≡ awaited (slice_index_or olds i d).here) → awaited new.here ≡ awaited old.here → awaited (slice_index_or news n new).here ≡ awaited (slice_index_or olds n old).here
at_same [] [] n old new count each same = same
at_same [] (m ∷ ms) n old new count each same = absurd (omega (arith, count))
at_same (l ∷ ls) [] n old new count each same = absurd (omega (arith, count))
at_same (l ∷ ls) (m ∷ ms) zero old new count each same = each 0 old
at_same (l ∷ ls) (m ∷ ms) (suc n) old new count each same = at_same ls ms n old new (omega (arith, count)) (λ i d. each (suc i) d) same

-- one of the levels above the innermost one had its piece taken, or the innermost one
pub above_waits : (old new : Stacked) → LevelsAwait old.above new.above → new ≡ record old { above = new.above } → StackAwaits old new
above_waits old new levels same =
    let at : new.at ≡ old.at = ap (λ (v : Stacked). v.at) same in
    let place : waits new ≡ waits old = rw (levels.first, levels.count) refl in
    record {
      place = place;
      same = rw (place, at) (levels.each (waits old) old.at);
      pieces = rw at (levels.pieces old.at);
    }

pub at_waits : (old new : Stacked) → SamePieces old.at.here new.at.here → new ≡ record old { at = new.at } → StackAwaits old new
at_waits old new here same =
    let above : new.above ≡ old.above = ap (λ (v : Stacked). v.above) same in
    let place : waits new ≡ waits old = rw above refl in
    record {
      place = place;
      same = rw (place, above) (at_same old.above old.above (waits old) old.at new.at refl (λ i d. refl) here.awaited);
      pieces = rw above (number_same old.above old.at new.at here.number);
    }
  where
    number_same : (ls : List Level) (at now : Level) → number_of now.here ≡ number_of at.here → pieces_in ls now ≡ pieces_in ls at
    number_same [] at now same = same
    number_same (l ∷ ls) at now same = ap (λ (n : ℕ). raised (number_of l.here) n) (number_same ls at now same)

-- nothing was called
pub still_waits : (v : Stacked) → StackAwaits v v
still_waits v = record { place = refl; same = refl; pieces = refl }

-- A give.

more_first : (n m : ℕ) → raised (one_more n) m ≡ one_more (raised n m)
more_first n m = omega arith

more_then : (n m : ℕ) → raised n (one_more m) ≡ one_more (raised n m)
more_then n m = omega arith

pieces_more : (g : Given) (n : ℕ) (old new : ℕ) → CountsPiece g old new → CountsPiece g (raised n old) (raised n new)
pieces_more Accepted n old new counts = rw counts (more_then n old)
pieces_more (Stale asked now) n old new counts = ap (λ (m : ℕ). raised n m) counts

first_more : (g : Given) (n : ℕ) (old new : ℕ) → CountsPiece g old new → CountsPiece g (raised old n) (raised new n)
first_more Accepted n old new counts = rw counts (more_first old n)
first_more (Stale asked now) n old new counts = ap (λ (m : ℕ). raised m n) counts

set_pieces : (g : Given) (ls : List Level) (i : ℕ) (d new at : Level) → i < length ls → CountsPiece g (number_of (slice_index_or ls i d).here) (number_of new.here) → CountsPiece g (pieces_in ls at) (pieces_in (slice_set ls i new) at)
set_pieces g [] i d new at le counts = absurd (omega (arith, le))
set_pieces g (l ∷ ls) zero d new at le counts = first_more g (pieces_in ls at) (number_of l.here) (number_of new.here) counts
set_pieces g (l ∷ ls) (suc i) d new at le counts = pieces_more g (number_of l.here) (pieces_in ls at) (pieces_in (slice_set ls i new) at) (set_pieces g ls i d new at (omega (arith, le)) counts)

-- the retrieval of a place was given a piece
pub levels_count : {E : Type 0} (r : Result Given E) (ls : List Level) (i : ℕ) (old new : Level) → i < length ls → old ≡ slice_index_or ls i old → IfOk r (λ g. CountsPiece g (number_of old.here) (number_of new.here)) → (at : Level) → IfOk r (λ g. CountsPiece g (pieces_in ls at) (pieces_in (slice_set ls i new) at))
levels_count (Ok g) ls i old new le is counts at = set_pieces g ls i old new at le (subst (λ (l : Level). CountsPiece g (number_of l.here) (number_of new.here)) is counts)
levels_count (Err e) ls i old new le is counts at = tt

pub innermost_counts : {E : Type 0} (r : Result Given E) (ls : List Level) (old new : Level) → IfOk r (λ g. CountsPiece g (number_of old.here) (number_of new.here)) → IfOk r (λ g. CountsPiece g (pieces_in ls old) (pieces_in ls new))
innermost_counts (Ok g) ls old new counts = below ls
  where
    below : (ls : List Level) → CountsPiece g (pieces_in ls old) (pieces_in ls new)
    below [] = counts
    below (l ∷ ls) = pieces_more g (number_of l.here) (pieces_in ls old) (pieces_in ls new) (below ls)
innermost_counts (Err e) ls old new counts = tt

-- what was taken is awaited, so that it is accepted where it is given
pub taken_ready : {E : Type 0} (r : Result Taken E) (old new : Planned) → waits new.stack ≡ waits old.stack → IfOk r (TakesPiece (waited old new)) → IfOk r (TakesPiece (waiting new))
taken_ready r old new place taken = subst (λ (n : ℕ). IfOk r (TakesPiece (level_at new.stack n).here)) (sym place) taken

pub taken_answers : {E : Type 0} (r : Result Taken E) (old new : Planned) → plan_awaited new ≡ plan_awaited old → IfOk r (TakesPiece (waiting new)) → IfOk r (TakesAwaited old)
taken_answers (Ok (Piece piece)) old new same taken = sym same ∙ piece_awaited (waiting new) piece taken
taken_answers (Ok Nothing) old new same taken = sym same ∙ taken
taken_answers (Err e) old new same taken = tt

stands_stay : (unite : Bool) (shown : Shown) (choice : Choice) (old new : Access) → SamePlans old new → StandsBy unite shown choice old → StandsBy unite shown choice new
stands_stay true shown choice old new same stands = (same.strategy ∙ stands.0, rw (same.query, same.plans) stands.1)
stands_stay false shown choice old new same stands = (same.strategy ∙ stands.0, rw (same.query, same.plans) stands.1)

-- the five rules hold on
pub rules_stay : (shown : Shown) (old new : Access) → SamePlans old new → IsByRules shown old → IsByRules shown new
rules_stay shown old new same rules = record {
  choice = rules.choice;
  chosen = rw same.query rules.chosen;
  stands = subst (λ (q : Query). StandsBy (unites q shown rules.choice) shown rules.choice new) (sym same.query) (stands_stay (unites (query_of old) shown rules.choice) shown rules.choice old new same rules.stands);
}
