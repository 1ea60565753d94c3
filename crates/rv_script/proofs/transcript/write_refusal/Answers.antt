use Rattle.rv_script.proofs.transcript.write_refusal.Goals as goal

pub returns-in-NoTransaction : goal.returns-in-NoTransaction
returns-in-NoTransaction g c = rw c.in-NoTransaction.is c.write_next-in-NoTransaction.ensures

pub returns-in-CursorOpen : goal.returns-in-CursorOpen
returns-in-CursorOpen g c =
    let asked = rw (c.as_bytes-in-CursorOpen.ensures.value, c.as_str-in-CursorOpen.ensures.same) at c.write_two-in-CursorOpen.ensures in
    rw c.in-CursorOpen.is asked
