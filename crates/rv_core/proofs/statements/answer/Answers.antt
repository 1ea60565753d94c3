use Rattle.std.proofs.Common.{Ok, ap, sym, ◌∙◌}
use Rattle.std.proofs.lemmas.Result.{IfOk-weaker, on_err_weaker}
use Rattle.rv_value.proofs.Lists.{on_err}
use Rattle.rv_catalog.specs.declared.def.Resolved.{Resolved}
use Rattle.rv_catalog.specs.declared.def.Resolved.TheVariants.{Fetch}
use Rattle.rv_parse.specs.Reading.{statement_of}
use Rattle.rv_core.proofs.Facts.{if_ok_two}
use Rattle.rv_core.proofs.Handling.{executes, handles_text, leaves_asked, leaves_text, ok_each}
use Rattle.rv_core.proofs.statements.answer.Goals as goal

pub returns-in_err-place-clause-lost : goal.returns-in_err-place-clause-lost
returns-in_err-place-clause-lost g c = on_err _ _ (leaves_text _ _ _ _ _)

pub returns-in-Some-clause-ok : goal.returns-in-Some-clause-ok
returns-in-Some-clause-ok g c =
    let fetches = rw (c.in-Some.is, c.at-statement.ensures.is, c.in_ok-place.ensures.is) at (c.fetched.ensures c.args.database.now.stand.db.schema) in
    IfOk-weaker c.fetch.result _ _ (λ replies k. executes (statement_of c.args.text.now) (Fetch c.in-Some.cursor.now) _ _ _ replies fetches k) c.fetch.ensures.ok

pub returns-in-Some-clause-handles : goal.returns-in-Some-clause-handles
returns-in-Some-clause-handles g c =
    let fetches = rw (c.in-Some.is, c.at-statement.ensures.is, c.in_ok-place.ensures.is) at (c.fetched.ensures c.args.database.now.stand.db.schema) in
    if_ok_two c.fetch.result _ _ _ (λ replies handles refused. handles_text _ (statement_of c.args.text.now) (Ok (Fetch c.in-Some.cursor.now)) _ _ replies.0 _ _ fetches handles refused) c.fetch.ensures.moves (ok_each c.fetch.result _ c.fetch.ensures.refuses)

pub returns-in-Some-clause-lost : goal.returns-in-Some-clause-lost
returns-in-Some-clause-lost g c =
    let fetches = rw (c.in-Some.is, c.at-statement.ensures.is, c.in_ok-place.ensures.is) at (c.fetched.ensures c.args.database.now.stand.db.schema) in
    on_err_weaker c.fetch.result (λ k. leaves_asked _ _ (Ok (Fetch c.in-Some.cursor.now)) _ _ _ _ fetches k) c.fetch.ensures.lost

pub perform-requires-clause-fits : goal.perform-requires-clause-fits
perform-requires-clause-fits g c = rw c.in-Err.ensures.other.0 (rw c.catalog.ensures at c.in-Ok.ensures.fits)

pub perform-requires-clause-whole : goal.perform-requires-clause-whole
perform-requires-clause-whole g c = rw c.in-Err.ensures.other.0 c.in-Ok.ensures.whole

pub perform-requires-clause-other : goal.perform-requires-clause-other
perform-requires-clause-other g c = rw c.in-Err.ensures.other.0 c.in-Err.ensures.other.1

pub returns-in-Ok-fetch_name-clause-ok : goal.returns-in-Ok-fetch_name-clause-ok
returns-in-Ok-fetch_name-clause-ok g c =
    let asks = rw (c.catalog.ensures, c.at-statement.ensures.is, c.in_ok-place.ensures.is) at c.in-Ok.ensures.gives in
    let fetches = asks ∙ ap (λ (a : Resolved). Ok a) c.in-Ok-fetch_name.ensures.name in
    IfOk-weaker c.fetch-replies.result _ _ (λ replies k. executes (statement_of c.args.text.now) (Fetch c.in-Ok-fetch_name.name) _ _ _ replies fetches k) c.fetch-replies.ensures.ok

pub returns-in-Ok-fetch_name-clause-handles : goal.returns-in-Ok-fetch_name-clause-handles
returns-in-Ok-fetch_name-clause-handles g c =
    let asks = rw (c.catalog.ensures, c.at-statement.ensures.is, c.in_ok-place.ensures.is) at c.in-Ok.ensures.gives in
    let fetches = asks ∙ ap (λ (a : Resolved). Ok a) c.in-Ok-fetch_name.ensures.name in
    if_ok_two c.fetch-replies.result _ _ _ (λ replies handles refused. handles_text _ (statement_of c.args.text.now) (Ok (Fetch c.in-Ok-fetch_name.name)) _ _ replies.0 _ _ fetches handles refused) c.fetch-replies.ensures.moves (ok_each c.fetch-replies.result _ c.fetch-replies.ensures.refuses)

pub returns-in-Ok-fetch_name-clause-lost : goal.returns-in-Ok-fetch_name-clause-lost
returns-in-Ok-fetch_name-clause-lost g c =
    let asks = rw (c.catalog.ensures, c.at-statement.ensures.is, c.in_ok-place.ensures.is) at c.in-Ok.ensures.gives in
    let fetches = asks ∙ ap (λ (a : Resolved). Ok a) c.in-Ok-fetch_name.ensures.name in
    on_err_weaker c.fetch-replies.result (λ k. leaves_asked _ _ (Ok (Fetch c.in-Ok-fetch_name.name)) _ _ _ _ fetches k) c.fetch-replies.ensures.lost

pub returns-in-Err-clause-ok : goal.returns-in-Err-clause-ok
returns-in-Err-clause-ok g c =
    let asks = rw (c.catalog.ensures, c.at-statement.ensures.is, c.in_ok-place.ensures.is) at c.in-Ok.ensures.gives in
    let other = asks ∙ ap (λ (a : Resolved). Ok a) (sym c.in-Err.ensures.other.0) in
    IfOk-weaker c.perform.result _ _ (λ replies k. executes (statement_of c.args.text.now) c.in-Err.other _ _ _ replies other k) c.perform.ensures.ok

pub returns-in-Err-clause-handles : goal.returns-in-Err-clause-handles
returns-in-Err-clause-handles g c =
    let asks = rw (c.catalog.ensures, c.at-statement.ensures.is, c.in_ok-place.ensures.is) at c.in-Ok.ensures.gives in
    let other = asks ∙ ap (λ (a : Resolved). Ok a) (sym c.in-Err.ensures.other.0) in
    if_ok_two c.perform.result _ _ _ (λ replies handles refused. handles_text _ (statement_of c.args.text.now) (Ok c.in-Err.other) _ _ replies.0 _ _ other handles refused) c.perform.ensures.handles (ok_each c.perform.result _ c.perform.ensures.refuses)

pub returns-in-Err-clause-lost : goal.returns-in-Err-clause-lost
returns-in-Err-clause-lost g c =
    let asks = rw (c.catalog.ensures, c.at-statement.ensures.is, c.in_ok-place.ensures.is) at c.in-Ok.ensures.gives in
    let other = asks ∙ ap (λ (a : Resolved). Ok a) (sym c.in-Err.ensures.other.0) in
    on_err_weaker c.perform.result (λ k. leaves_asked _ _ (Ok c.in-Err.other) _ _ _ _ other k) c.perform.ensures.lost

pub returns-in-Err-NoMemory-clause-lost : goal.returns-in-Err-NoMemory-clause-lost
returns-in-Err-NoMemory-clause-lost g c = leaves_text _ _ _ _ _
