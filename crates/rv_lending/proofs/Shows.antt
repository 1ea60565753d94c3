-- What a lent core shows after a call of its engine.
use Rattle.std.proofs.Common.{◌≡◌, ℕ, List, [], is_some, map, Option, Some, None, Result, Ok, Err, refl, sym, ap, ◌∙◌, subst, IfOk, OnErr}
use Rattle.rv_value.specs.declared.duplicate.NoMemory.{NoMemory}
use Rattle.rv_lang.specs.declared.reply.Refusal.{Refusal}
use Rattle.rv_lang.specs.declared.reply.Refusal.TheVariants.{Exists}
use Rattle.rv_lang.specs.declared.reply.Reply.{Reply}
use Rattle.rv_lang.specs.declared.statement.Statement.{Statement}
use Rattle.rv_lang.specs.declared.statement.Statement.TheVariants as says
use Rattle.rv_parse.specs.Reading.{statement_of}
use Rattle.rv_catalog.specs.Answers.{◌>>=◌, all_pass, collected, refuse_if, refuse_some}
use Rattle.rv_catalog.specs.Columns.{groups, own_column}
use Rattle.rv_catalog.specs.Kinds.{kinds, row_kinds, set_kind}
use Rattle.rv_catalog.specs.Limits.{limits}
use Rattle.rv_catalog.specs.Resolve.{alone, column_def, column_name, first_repeat, form, itself, selected, set_column, set_name, table_number}
use Rattle.rv_catalog.specs.Schema.{Schema, columns_of, index_named, table_named}
use Rattle.rv_catalog.specs.declared.def.Resolved.{Resolved}
use Rattle.rv_catalog.specs.declared.def.Resolved.TheVariants as asks
use Rattle.rv_model.specs.Step.{understood}
use Rattle.rv_core.specs.Core.{Answers, AnswersPart, Shown, Unanswered, WorksFor, plans_in}
use Rattle.rv_core.specs.declared.engine.PartOf.{PartOf}
use Rattle.rv_core.specs.declared.engine.PartOf.TheVariants.{Answered, Working}
use Rattle.rv_core.specs.Obeying.{Plans, Under, Works, WorksText}
use Rattle.rv_shared.specs.Served.{IsFetch}
use Rattle.rv_shared.specs.Served.{Answers as SharedAnswers}
use Rattle.rv_core.specs.Pieces.{TakesNext, TriesNext, next_waiting}
use Rattle.rv_judge.specs.declared.counting.Counts.{Counts}
use Rattle.rv_judge.specs.Counting.{no_counts}
use Rattle.rv_jscan.specs.declared.jscan.Taken.{Taken}
use Rattle.rv_reader.specs.Shown.{Shown as StoreShown}
use Rattle.rv_lending.specs.Lending.{TakesPiece, shared}

module _ {S : Type 0} where
  pub answers : (u : Under) (judge ruled : ℕ) (old new : Shown S) (session : ℕ) (text : List ℕ) (reply : Reply) → Answers u judge ruled old new session text reply → SharedAnswers (shared old) (shared new) session text reply
  answers u judge ruled old new session text reply a = record { gained = a.gained; same_phase = a.same_phase }

  pub unanswered : (u : Under) (judge ruled : ℕ) (old new : Shown S) (session : ℕ) (text : List ℕ) → Unanswered u judge ruled old new session text → shared new ≡ shared old
  unanswered u judge ruled old new session text n = ap (λ (c : Shown S). shared c) n.kept

  pub works_on : (u : Under) (judge ruled : ℕ) (old new : Shown S) (session : ℕ) (text : List ℕ) → WorksFor u judge ruled old new session text → shared new ≡ shared old
  works_on u judge ruled old new session text n = ap (λ (c : Shown S). shared c) n.kept

-- what only a FETCH has
module _ (u : Under) (session : ℕ) (old new : Plans) where
  abbrev W : Result Resolved Refusal → Type 0
  W asked = Works u asked session old new

  through : {A X : Type 0} (r : Result A Refusal) (f : A → Result Resolved Refusal) → ((a : A) → W (f a) → X) → W (r >>= f) → X
  through (Ok a) f h w = h a w
  through (Err e) f h w = absurd w

  abbrev Fetched : Statement → Type 0
  Fetched s = (cursor : List ℕ) × (s ≡ says.Fetch cursor)

  form_fetched : (schema : Schema) (s : Statement) → W (form schema s) → Fetched s
  form_fetched schema (says.CreateTable name columns) w = through (refuse_if (is_some (table_named schema.tables name)) (Exists name)) (λ fresh. refuse_some (first_repeat column_name [] columns) Exists >>= (λ once. Ok (asks.CreateTable (record { name = name; columns = map column_def columns })))) (λ fresh w. through (refuse_some (first_repeat column_name [] columns) Exists) (λ once. Ok (asks.CreateTable (record { name = name; columns = map column_def columns }))) (λ once w. absurd w) w) w
  form_fetched schema (says.CreateIndex unique name table columns) w = through (table_number schema.tables table) (λ number. collected (own_column schema.tables number) [] columns >>= (λ found. refuse_if (is_some (index_named schema.indexes name)) (Exists name) >>= (λ fresh. refuse_some (first_repeat itself [] columns) Exists >>= (λ once. Ok (asks.CreateIndex (record { name = name; table = number; columns = found; unique = unique })))))) (λ number w. through (collected (own_column schema.tables number) [] columns) (λ found. refuse_if (is_some (index_named schema.indexes name)) (Exists name) >>= (λ fresh. refuse_some (first_repeat itself [] columns) Exists >>= (λ once. Ok (asks.CreateIndex (record { name = name; table = number; columns = found; unique = unique }))))) (λ found w. through (refuse_if (is_some (index_named schema.indexes name)) (Exists name)) (λ fresh. refuse_some (first_repeat itself [] columns) Exists >>= (λ once. Ok (asks.CreateIndex (record { name = name; table = number; columns = found; unique = unique })))) (λ fresh w. through (refuse_some (first_repeat itself [] columns) Exists) (λ once. Ok (asks.CreateIndex (record { name = name; table = number; columns = found; unique = unique }))) (λ once w. absurd w) w) w) w) w
  form_fetched schema (says.Begin read_only) w = absurd w
  form_fetched schema (says.Insert table values) w = through (table_number schema.tables table) (λ number. row_kinds [] (columns_of schema.tables number) values >>= (λ right. Ok (asks.Insert number values))) (λ number w. through (row_kinds [] (columns_of schema.tables number) values) (λ right. Ok (asks.Insert number values)) (λ right w. absurd w) w) w
  form_fetched schema (says.Update table sets only) w = through (table_number schema.tables table) (λ number. collected (set_column schema.tables number) [] sets >>= (λ found. groups schema.tables (alone table number) only >>= (λ where_true. refuse_some (first_repeat set_name [] sets) Exists >>= (λ once. all_pass (set_kind schema.tables number) found >>= (λ held. kinds schema.tables (alone table number) where_true >>= (λ right. Ok (asks.Update number found where_true))))))) (λ number w. through (collected (set_column schema.tables number) [] sets) (λ found. groups schema.tables (alone table number) only >>= (λ where_true. refuse_some (first_repeat set_name [] sets) Exists >>= (λ once. all_pass (set_kind schema.tables number) found >>= (λ held. kinds schema.tables (alone table number) where_true >>= (λ right. Ok (asks.Update number found where_true)))))) (λ found w. through (groups schema.tables (alone table number) only) (λ where_true. refuse_some (first_repeat set_name [] sets) Exists >>= (λ once. all_pass (set_kind schema.tables number) found >>= (λ held. kinds schema.tables (alone table number) where_true >>= (λ right. Ok (asks.Update number found where_true))))) (λ where_true w. through (refuse_some (first_repeat set_name [] sets) Exists) (λ once. all_pass (set_kind schema.tables number) found >>= (λ held. kinds schema.tables (alone table number) where_true >>= (λ right. Ok (asks.Update number found where_true)))) (λ once w. through (all_pass (set_kind schema.tables number) found) (λ held. kinds schema.tables (alone table number) where_true >>= (λ right. Ok (asks.Update number found where_true))) (λ held w. through (kinds schema.tables (alone table number) where_true) (λ right. Ok (asks.Update number found where_true)) (λ right w. absurd w) w) w) w) w) w) w
  form_fetched schema (says.Delete table only) w = through (table_number schema.tables table) (λ number. groups schema.tables (alone table number) only >>= (λ where_true. kinds schema.tables (alone table number) where_true >>= (λ right. Ok (asks.Delete number where_true)))) (λ number w. through (groups schema.tables (alone table number) only) (λ where_true. kinds schema.tables (alone table number) where_true >>= (λ right. Ok (asks.Delete number where_true))) (λ where_true w. through (kinds schema.tables (alone table number) where_true) (λ right. Ok (asks.Delete number where_true)) (λ right w. absurd w) w) w) w
  form_fetched schema says.Commit w = absurd w
  form_fetched schema says.Rollback w = absurd w
  form_fetched schema (says.Open cursor returned items only order goal) w = through (selected schema returned items only order goal) (λ select. Ok (asks.Open cursor select)) (λ select w. absurd w) w
  form_fetched schema (says.Fetch cursor) w = (cursor, refl)
  form_fetched schema (says.Show cursor) w = absurd w
  form_fetched schema (says.Close cursor) w = absurd w
  form_fetched schema (says.Step cursor n) w = absurd w

  is_fetch_of : (schema : Schema) (text : List ℕ) (statement : Option Statement) → statement_of text ≡ statement → W (understood schema statement) → IsFetch text
  is_fetch_of schema text None is w = absurd w
  is_fetch_of schema text (Some s) is w =
      let f = through (limits s) (λ within. form schema s) (λ a w. form_fetched schema s w) w in
      (f.0, is ∙ ap (λ (t : Statement). Some t) f.1)

  pub fetches : (schema : Schema) (text : List ℕ) → Works u (understood schema (statement_of text)) session old new → IsFetch text
  fetches schema text w = is_fetch_of schema text (statement_of text) refl w

-- the same of results
module _ {S : Type 0} where
  pub answered : (u : Under) (judge ruled : ℕ) (old new : Shown S) (session : ℕ) (text : List ℕ) (r : Result Reply NoMemory) → IfOk r (λ reply. Answers u judge ruled old new session text reply) → IfOk r (λ reply. SharedAnswers (shared old) (shared new) session text reply)
  answered u judge ruled old new session text (Ok reply) h = answers u judge ruled old new session text reply h
  answered u judge ruled old new session text (Err e) h = tt

  pub kept : {X : Type 0} (u : Under) (judge ruled : ℕ) (old new : Shown S) (session : ℕ) (text : List ℕ) (r : Result X NoMemory) → OnErr r (Unanswered u judge ruled old new session text) → OnErr r (shared new ≡ shared old)
  kept u judge ruled old new session text (Ok x) h = tt
  kept u judge ruled old new session text (Err e) h = unanswered u judge ruled old new session text h

  pub part_answered : (u : Under) (judge ruled : ℕ) (old new : Shown S) (session : ℕ) (text : List ℕ) (part : PartOf) (reply : Reply) → part ≡ Answered reply → AnswersPart u judge ruled old new session text part → SharedAnswers (shared old) (shared new) session text reply
  part_answered u judge ruled old new session text part reply is a =
      let t : AnswersPart u judge ruled old new session text (Answered reply) = subst (AnswersPart u judge ruled old new session text) is a in
      answers u judge ruled old new session text reply t.answers

  pub part_working : (u : Under) (judge ruled : ℕ) (old new : Shown S) (session : ℕ) (text : List ℕ) (part : PartOf) → part ≡ Working → AnswersPart u judge ruled old new session text part → IsFetch text × (shared new ≡ shared old)
  part_working u judge ruled old new session text part is a =
      let t : AnswersPart u judge ruled old new session text Working = subst (AnswersPart u judge ruled old new session text) is a in
      (fetches u session (plans_in old judge) (plans_in new ruled) old.db.schema text t.plans.works, works_on u judge ruled old new session text t)

  -- a part of a call, by its other name
  pub same_part : (u : Under) (judge ruled : ℕ) (old new : Shown S) (session : ℕ) (text : List ℕ) (part other : PartOf) → part ≡ other → AnswersPart u judge ruled old new session text part → AnswersPart u judge ruled old new session text other
  same_part u judge ruled old new session text part other is a = subst (AnswersPart u judge ruled old new session text) is a

  -- a take with a new counter
  pub takes_piece : (shows : StoreShown) (after : ℕ) (old new : Shown S) (r : Result Taken NoMemory) (n read : Counts) → n ≡ no_counts
      → IfOk r (λ (taken : Taken). TakesNext shows (next_waiting after old.opens) n read old.opens new.opens taken)
      → OnErr r (TriesNext shows (next_waiting after old.opens) n read old.opens new.opens)
      → new ≡ record old { opens = new.opens } → TakesPiece shows after old new r
  takes_piece shows after old new r n read is taken tried same = record {
    read = read;
    taken = subst (λ (m : Counts). IfOk r (λ (taken : Taken). TakesNext shows (next_waiting after old.opens) m read old.opens new.opens taken)) is taken;
    tried = subst (λ (m : Counts). OnErr r (TriesNext shows (next_waiting after old.opens) m read old.opens new.opens)) is tried;
    same = same;
  }

  pub opens_alone : (old new : Shown S) → new ≡ record old { opens = new.opens } → shared new ≡ shared old
  opens_alone old new same = ap (λ (c : Shown S). shared c) same
