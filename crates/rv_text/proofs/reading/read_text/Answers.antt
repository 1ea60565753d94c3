use Rattle.std.proofs.Common.{◌≡◌, ◌+◌, ◌<◌, ◌∷◌, [], length, arith, ap, subst, ◌∙◌}
use Rattle.std.proofs.lemmas.Bool.Decides.{nat_tests}
use Rattle.rv_text.specs.Steps.{Fronts}
use Rattle.rv_text.specs.Texts.{entries_before, read_from}
use Rattle.rv_text.proofs.Stepping.{entry_read, told_bad, told_whole}
use Rattle.rv_text.proofs.reading.read_text.Goals as goal

pub entries-preserved : goal.entries-preserved
entries-preserved c =
    let front : (length c.in-Entry.behind.now < length c.entries.left.now) × (read_from c.entries.line c.entries.left.now ≡ entries_before (c.in-Entry.entry ∷ []) (read_from (c.entries.line + 2) c.in-Entry.behind.now)) = subst (Fronts c.entries.left.now c.entries.line (read_from c.entries.line c.entries.left.now)) c.in-Entry.is c.in_ok-entry.ensures in
    record {
      whole =
          ap (λ es. entries_before es (read_from (c.entries.line + 2) c.in-Entry.behind.now)) c.in_ok-push-in-Entry.ensures.items
          ∙ entry_read c.args.bytes.now c.entries.left.now c.in-Entry.behind.now c.entries.line c.entries.entries.items c.in-Entry.entry front.1 c.entries.invariant.whole;
      few = (let shorter = front.0 in let few = c.entries.invariant.few in omega (arith, shorter, few));
    }

pub returns-in-Bad : goal.returns-in-Bad
returns-in-Bad c = told_bad c.args.bytes.now (read_from c.entries.line c.entries.left.now) c.in-Bad.line c.entries.entries.items (subst (Fronts c.entries.left.now c.entries.line (read_from c.entries.line c.entries.left.now)) c.in-Bad.is c.in_ok-entry.ensures) c.entries.invariant.whole

pub returns : goal.returns
returns c = told_whole c.args.bytes.now c.entries.line c.entries.left.now c.entries.entries.items (grind (arith, nat_tests)) c.entries.invariant.whole
