-- What the clause `done` of the top call says where no word is given.
use Rattle.std.proofs.Common.{◌≡◌, ◌∷◌, ℕ, List, [], refl, Option, Some, None, IsSomeAnd}
use Rattle.std.specs.Io.KnownBytes.{Appends}
use Rattle.rv_model.specs.declared.entry.Entry.{Entry}
use Rattle.rv_run.specs.Script.{HasAllCalls, Writes}
use Rattle.rv_words.specs.declared.choices.Asked.{Asked}
use Rattle.rv_words.specs.Words.{Ask, asked_of}
use Rattle.own_judge.specs.Sharing.{WritesLegal}

-- what no words ask
pub nothing_asked : Ask [] (asked_of [])
nothing_asked = record { items = []; spelled = record { whole = refl; fit = tt; once = tt }; asks = refl }

pub legal_of : {X : Type 0} (core : Option X) (history : X → List Entry) (left old new : Option (List ℕ)) → IsSomeAnd core (λ c. Writes None left (Appends old new) HasAllCalls (history c)) → WritesLegal old new
legal_of None history left old new all = absurd all
legal_of (Some c) history left old new all = record { history = history c; legal = all.legal; written = all.written }
