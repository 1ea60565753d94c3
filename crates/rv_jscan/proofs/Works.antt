-- A leaf that is taken up where it stands: what a take, a sieve and a give of its piece do together.
use Rattle.std.proofs.Common.{◌≡◌, ◌<◌, Option, Some, None, IsSome, IfSome, true, refl, ap, sym, ◌∙◌, subst}
use Rattle.rv_reader.specs.declared.reader.Chunk.{Chunk}
use Rattle.rv_reader.specs.Shown.{Shown}
use Rattle.rv_jscan.specs.Joint.{CanTake, Joint, JointFits, leaves_ahead, present, under_way}
use Rattle.rv_jscan.specs.Lanes.{HasKeys, lane_of}
use Rattle.rv_jscan.specs.Pieces.{Pieced}
use Rattle.rv_jscan.specs.Steps.{Accepts, Awaits, HasEntries, TakeLeaves, Works, held_entries, held_next, next_id}
use Rattle.rv_jscan.proofs.Fits.{accepts_fits}
use Rattle.rv_jscan.proofs.Lanes.{held_keys, lane_can, lane_fits}
use Rattle.rv_jscan.proofs.Leaves.{accepts_nearer}

-- What is taken can be taken up.

pub took_way : (old taken : Joint) → TakeLeaves old taken → under_way old ≡ true → under_way taken ≡ true
took_way old taken leaves way = ap under_way leaves.same ∙ way

pub took_keys : (old taken : Joint) (shown : Shown) → TakeLeaves old taken → under_way old ≡ true → CanTake old shown → JointFits taken shown → IfSome taken.held (HasKeys (present taken))
took_keys old taken shown leaves way can fits =
    let on = took_way old taken leaves way in
    let same : CanTake taken shown = subst (λ (x : Joint). CanTake x shown) (sym leaves.same) (record { each = can.each }) in
    held_keys (present taken) shown taken.snap (lane_of taken) (lane_can taken shown on same) (lane_fits taken shown on fits)

-- The piece of the leaf that is held.

abbrev own_piece : Joint → Pieced
own_piece j = record { id = next_id j; entries = held_entries j.held; part = (present j).part }

own_entries : (held : Option Chunk) → IsSome held → HasEntries held (held_entries held)
own_entries None some = absurd (cc)
own_entries (Some chunk) some = refl

pub step_works : (old taken new : Joint) (shown : Shown) → under_way old ≡ true → TakeLeaves old taken → IsSome taken.held → JointFits taken shown → Accepts taken new (held_entries taken.held) (held_next taken.held) → Works shown old new
step_works old taken new shown way leaves some fits accepts =
    let awaits : Awaits taken (own_piece taken) = record { way = took_way old taken leaves way; id = refl; part = refl; entries = own_entries taken.held some } in
    record { taken = taken; piece = own_piece taken; leaves = leaves; fits = fits; gives = (awaits, accepts) }

pub works_fits : (old new : Joint) (shown : Shown) → Works shown old new → JointFits new shown
works_fits old new shown w = accepts_fits w.taken new w.piece shown w.gives.0 w.gives.1 w.fits

pub works_nearer : (old new : Joint) (shown : Shown) → Works shown old new → leaves_ahead new shown < leaves_ahead old shown
works_nearer old new shown w =
    let same : leaves_ahead w.taken shown ≡ leaves_ahead old shown = ap (λ (j : Joint). leaves_ahead j shown) w.leaves.same in
    rw same at (accepts_nearer w.taken new w.piece shown w.gives.0 w.gives.1 w.fits)
