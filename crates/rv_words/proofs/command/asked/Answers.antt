use Rattle.std.proofs.Common.{◌≡◌, ◌∙◌, sym, ap, map, List, ℕ}
use Rattle.std.specs.Borrow.{Bor}
use Rattle.clap.specs.Simple.{matches_of}
use Rattle.rv_words.specs.Command.{app, asked_in}
use Rattle.rv_words.proofs.Walking.{asked_all, asked_so}
use Rattle.rv_words.proofs.command.asked.Goals.{After-drop-texts-2}
use Rattle.rv_words.proofs.command.asked.Goals as goal

told : (c : After-drop-texts-2) → c.values_of-asked.result ≡ asked_in (matches_of app c.args.words.now)
told c =
    c.values_of-asked.ensures.values
    ∙ ap asked_in c.in_ok-matches.ensures
    ∙ ap (λ (words : List (Bor (List ℕ))). asked_in (matches_of app (map (λ word. word.now) words))) c.as_slice.ensures.value
    ∙ ap (λ (words : List (List ℕ)). asked_in (matches_of app words)) c.in_ok-texts.ensures

pub returns-clause-ok : goal.returns-clause-ok
returns-clause-ok c = asked_all c.args.words.now c.values_of-asked.result c.requires (told c)

pub returns-clause-only : goal.returns-clause-only
returns-clause-only c = λ other ask. asked_so c.args.words.now other ask ∙ sym (told c)
