-- Events that a trace has room for are all noted.
use Rattle.std.proofs.Common.{◌≡◌, ◌+◌, ◌≤◌, List, [], ◌∷◌, ◌++◌, true, sym, ◌∙◌, arith, length, nat_lt, append-nil, append_assoc, length-append}
use Rattle.std.proofs.lemmas.Bool.{lt-ltb}
use Rattle.rv_judge.specs.declared.events.Event.{Event}
use Rattle.rv_judge.specs.Tracing.{with_events}

pub with_room : (items es : List Event) → length items + length es ≤ 32 → with_events items es ≡ items ++ es
with_room items [] h = sym (append-nil items)
with_room items (e ∷ es) h =
    let less : nat_lt (length items) 32 ≡ true = lt-ltb (length items) 32 (omega arith) in
    let one : length (items ++ e ∷ []) ≡ length items + 1 = length-append items (e ∷ []) in
    rw less (with_room (items ++ e ∷ []) es (omega arith) ∙ append_assoc items (e ∷ []) es)
