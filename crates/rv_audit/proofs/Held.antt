-- Of a legal history whose texts are lines, and whose replies a program can hold, a transcript can be read back.
use Rattle.std.proofs.Common.{List, [], ◌∷◌}
use Rattle.std.specs.List.{AllByRecursion}
use Rattle.rv_model.specs.declared.entry.Entry.{Entry}
use Rattle.rv_model.specs.Transcript as working
use Rattle.rv_believed.specs.Held.{IsHeldReply}
use Rattle.rv_believed.specs.History.{IsLegal}
use Rattle.rv_believed.specs.Plain.{IsLineOfText}
use Rattle.rv_believed.proofs.Told.{program_works}
use Rattle.rv_text.specs.Reading.{AreReadable}
use Rattle.rv_audit.specs.Runs.{AreHeld}
use Rattle.rv_audit.proofs.Texts.{IsText}

texts_are_lines : (es : List Entry) → AllByRecursion (λ (e : Entry). IsText e.text) es → AllByRecursion (λ (e : Entry). IsLineOfText e.text) es
texts_are_lines [] texts = tt
texts_are_lines (e ∷ es) texts = (record { line = texts.0.0; utf8 = texts.0.1 }, texts_are_lines es texts.1)

numbers_are_held : (es : List Entry) → AreHeld es → AllByRecursion (λ (e : Entry). IsHeldReply e.reply) es
numbers_are_held [] held = tt
numbers_are_held (e ∷ es) held = (held.0.0, numbers_are_held es held.1)

plain_readable : (es : List Entry) → AllByRecursion working.IsPlain es → AllByRecursion (λ (e : Entry). IsText e.text) es → AreHeld es → AreReadable es
plain_readable [] plain texts held = tt
plain_readable (e ∷ es) plain texts held = (record { plain = plain.0; call = texts.0.1; reply = held.0.1 }, plain_readable es plain.1 texts.1 held.1)

pub readable : (es : List Entry) → IsLegal es → AllByRecursion (λ (e : Entry). IsText e.text) es → AreHeld es → AreReadable es
readable es legal texts held =
    let lines = texts_are_lines es texts in
    let numbers = numbers_are_held es held in
    plain_readable es (program_works es (record { legal = legal; lines = lines; held = numbers })) texts held
