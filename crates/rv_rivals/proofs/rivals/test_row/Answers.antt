use Rattle.std.proofs.Common.{◌≡◌, ◌+◌, ◌∙◌, List, Option, ℕ, suc, Some, ap, arith, drop, length, map, refl, sym}
use Rattle.std.specs.Prelude.{slice_get}
use Rattle.std.proofs.lemmas.Option.{slice_get_read}
use Rattle.std.proofs.lemmas.List.{drop_all}
use Rattle.rv_value.proofs.Lists.{all_got}
use Rattle.rv_lang.specs.declared.reply.Refusal.{Refusal}
use Rattle.rv_model.specs.Rivals.{key_of}
use Rattle.rv_model.specs.Transactions.{refuse_at, touched_by}
use Rattle.rv_rivals.specs.declared.near.Other.{Other}
use Rattle.rv_rivals.specs.declared.rivals.Unique.{Unique}
use Rattle.rv_rivals.specs.Lookups.{IsStatement, first_equal_to, none_in}
use Rattle.rv_rivals.proofs.Testing.{fails_mapped, passes_mapped}
use Rattle.rv_rivals.proofs.rivals.test_row.Goals as goal

pub unique-preserved : goal.unique-preserved
unique-preserved g c new all =
    let found : List ℕ → Option Refusal = λ columns. first_equal_to (g.S.Reader.shown c.args.store.now) (touched_by c.args.txns.now.touched c.args.near.now.table) columns (key_of columns c.args.values.now) c.args.row.0 c.args.near.now.table c.args.near.now.own.now new (map (λ (o : Other). o.transaction.now) c.args.near.now.others.items) in
    let unique = c.args.unique.now in
    let k = c.unique.index-index in
    let item = c.index-item.result in
    let is : slice_get unique k ≡ Some item = slice_get_read unique (length unique) k item refl c.unique-test.true c.index-item.is in
    let st = all_got (λ (u : Unique). IsStatement c.args.near.now.table c.args.row.0 c.args.near.now.new u.columns.now u.entries new) unique k item all is in
    let more : suc k ≡ k + 1 = omega arith in
    ap (λ n. none_in found (map (λ (u : Unique). u.columns.now) (drop n unique))) (sym more)
    ∙ passes_mapped (λ (columns : List ℕ). refuse_at (found columns) (λ (refusal : Refusal). refusal)) (λ (u : Unique). u.columns.now) unique k item _ is (ap (λ o. refuse_at o (λ (refusal : Refusal). refusal)) (sym (c.in_ok-rival_of.ensures new st) ∙ c.in-None.is)) (c.unique.invariant new all)

pub returns-in-Some-clause-fault : goal.returns-in-Some-clause-fault
returns-in-Some-clause-fault g c new all =
    let found : List ℕ → Option Refusal = λ columns. first_equal_to (g.S.Reader.shown c.args.store.now) (touched_by c.args.txns.now.touched c.args.near.now.table) columns (key_of columns c.args.values.now) c.args.row.0 c.args.near.now.table c.args.near.now.own.now new (map (λ (o : Other). o.transaction.now) c.args.near.now.others.items) in
    let unique = c.args.unique.now in
    let k = c.unique.index-index in
    let item = c.index-item.result in
    let is : slice_get unique k ≡ Some item = slice_get_read unique (length unique) k item refl c.unique-test.true c.index-item.is in
    let st = all_got (λ (u : Unique). IsStatement c.args.near.now.table c.args.row.0 c.args.near.now.new u.columns.now u.entries new) unique k item all is in
    fails_mapped (λ (columns : List ℕ). refuse_at (found columns) (λ (refusal : Refusal). refusal)) (λ (u : Unique). u.columns.now) unique k item c.in-Some.refusal _ is (ap (λ o. refuse_at o (λ (refusal : Refusal). refusal)) (sym (c.in_ok-rival_of.ensures new st) ∙ c.in-Some.is)) (c.unique.invariant new all)

pub returns-clause-ok : goal.returns-clause-ok
returns-clause-ok g c new all =
    let found : List ℕ → Option Refusal = λ columns. first_equal_to (g.S.Reader.shown c.args.store.now) (touched_by c.args.txns.now.touched c.args.near.now.table) columns (key_of columns c.args.values.now) c.args.row.0 c.args.near.now.table c.args.near.now.own.now new (map (λ (o : Other). o.transaction.now) c.args.near.now.others.items) in
    let unique = c.args.unique.now in
    let past = drop_all c.unique.index-index unique (let over = c.unique-test.false in omega (arith, over)) in
    sym (c.unique.invariant new all) ∙ ap (λ us. none_in found (map (λ (u : Unique). u.columns.now) us)) past
