-- The lines of a service, one behind others.
use Rattle.std.proofs.Common.{◌≡◌, ◌≢◌, ◌≤◌, ◌<◌, ◌+◌, ◌-◌, ◌^◌, ◌++◌, ◌∷◌, ◌⊎◌, ◌↔◌, ℕ, List, [], Bool, true, false, inl, inr, Option, Some, None, Result, Ok, Err, IsOkAnd, IsTrue, IsUtf8, refl, sym, ap, subst, ◌∙◌, append_assoc, append-nil, length, length-append, map, max, min, unwrap_or, drop, slice_get, slice_set, arith}
use Rattle.std.proofs.lemmas.Grind.{flat_map-append}
use Rattle.std.proofs.Math.Seq.{drop-append_seam}
use Rattle.std.proofs.lemmas.List.{map-append, take_all}
use Rattle.std.proofs.lemmas.Str.{IsUtf8-nil}
use Rattle.std.specs.Io.KnownBytes.{Appends, Consumes, IsAtEnd, Keeps as KnownKeeps}
use Rattle.rv_io.specs.Causes.{Rose}
use Rattle.rv_io.specs.Lines.{IsLine, TakesLine, TakesLongLine}
use Rattle.rv_io.specs.Pieces.{AppendsFront}
use Rattle.rv_io.specs.declared.all.ReadFault.{ReadFault}
use Rattle.rv_io.specs.declared.all.ReadFault.TheVariants as reading
use Rattle.rv_io.proofs.Streams.{appends_keeps, appends_more, appends_none, consumes_more, consumes_none, front_right}
use Rattle.rv_reader.specs.Shown.{Shown as StoreShown}
use Rattle.rv_script.specs.declared.scripts.Draft.{Draft}
use Rattle.rv_script.specs.declared.scripts.Line.{Line}
use Rattle.rv_script.specs.declared.scripts.Phase.{Phase}
use Rattle.rv_script.specs.declared.scripts.Script.{Script}
use Rattle.rv_script.specs.declared.scripts.ScriptFault.{ScriptFault}
use Rattle.rv_script.specs.declared.scripts.ScriptFault.TheVariants as faults
use Rattle.rv_script.specs.Script as saying
use Rattle.rv_script.specs.Script.{Saying, script_of}
use Rattle.rv_script.specs.Drafts.{added}
use Rattle.rv_script.specs.Lines.{LineFault, LineSays, said_at}
use Rattle.rv_script.proofs.Behind.{ReadSoFar, broken_with, fault_ended, fault_last, no_draft, read_more, read_none, script_at, script_read, script_with}
use Rattle.rv_model.specs.declared.entry.Entry.{Entry}
use Rattle.rv_model.specs.Transcript.{entry_text, text}
use Rattle.rv_core.specs.declared.settings.Settings.{Settings}
use Rattle.rv_core.specs.Core.{Shown}
use Rattle.rv_run.specs.declared.service.Stop.{Stop}
use Rattle.rv_run.specs.declared.service.Stop.TheVariants as stops
use Rattle.rv_run.specs.declared.status.Status.{Status}
use Rattle.rv_run.specs.declared.status.Status.TheVariants as statuses
use Rattle.rv_judge.specs.declared.judging.Facts.{Facts}
use Rattle.rv_judge.specs.Verdicts.{Ruling}
use Rattle.rv_words.specs.declared.choices.Asked.{Asked}
use Rattle.rv_words.specs.Words.{AreAccepted, Ask}
use Rattle.rv_run.specs.Judges.{all_but, by_number, filled, ruling_after}
use Rattle.rv_run.specs.Making.{Anywhere}
use Rattle.rv_run.specs.Ruling.{AnswersAll, AnswersFirst, AnswersUnder, Between, CallsUnder, FirstCallsUnder, Judging, RuledCall, between, fresh, in_phase, judging, ruled_by, ruled_from}
use Rattle.rv_run.specs.Script.{Call, HasAllCalls, IsInOrder, Runs, Write, call, calls_from, calls_in, calls_made}
use Rattle.rv_run.specs.Serving.{AreWholeLines, AskService, EndsSo, HasFaultyLine, HasTooManyBytes, IfDone, Makes, Serves, ServesAll, ServesLine, WrittenBy, calls_with, line_status, phase_with, ruling_with, stop_status}
use Rattle.rv_run.proofs.CallLists.{all_calls, calls_in-append}
use Rattle.rv_run.proofs.Ends.{of_told, told}
use Rattle.rv_run.proofs.Rulings.{all_append, calls_under, first_calls_under, seat_moved, seated}

-- ---- phases behind others

ruling_append : (r : ℕ) (xs ys : List Phase) → ruling_after r (xs ++ ys) ≡ ruling_after (ruling_after r xs) ys
ruling_append r [] ys = refl
ruling_append r (p ∷ xs) ys = ruling_append (unwrap_or p.judge r) xs ys

ruled_append : (r n : ℕ) (xs ys : List Phase) → ruled_from r n (xs ++ ys) ≡ ruled_from r n xs ++ ruled_from (ruling_after r xs) (n + length xs) ys
ruled_append r n [] ys = let at : n ≡ n + 0 = omega arith in ap (λ (k : ℕ). ruled_from r k ys) at
ruled_append r n (p ∷ xs) ys =
    let next = unwrap_or p.judge r in
    let at : n + 1 + length xs ≡ n + length (p ∷ xs) = omega arith in
    let here = map (ruled_by next) (calls_in n p.lines) in
    ap (λ (cs : List RuledCall). here ++ cs) (ruled_append next (n + 1) xs ys ∙ ap (λ (k : ℕ). ruled_from next (n + 1) xs ++ ruled_from (ruling_after next xs) k ys) at)
    ∙ sym (append_assoc here (ruled_from next (n + 1) xs) (ruled_from (ruling_after next xs) (n + length (p ∷ xs)) ys))

-- the last phase
last_ruled : (r n : ℕ) (over : List Phase) (p : Phase) → ruled_from r n (over ++ p ∷ []) ≡ ruled_from r n over ++ map (ruled_by (unwrap_or p.judge (ruling_after r over))) (calls_in (n + length over) p.lines)
last_ruled r n over p = ruled_append r n over (p ∷ []) ∙ ap (λ (cs : List RuledCall). ruled_from r n over ++ cs) (append-nil (map (ruled_by (unwrap_or p.judge (ruling_after r over))) (calls_in (n + length over) p.lines)))

-- ---- a draft with one saying more

abbrev phases_at : Draft → List Phase
phases_at draft = (script_at draft).phases

phases_with : (draft : Draft) (said : Saying) → length (phases_at (added draft said)) ≡ phase_with said (length (phases_at draft))
phases_with draft saying.Nothing = refl
phases_with draft (saying.Call line) = length-append draft.over (record { judge = draft.judge; lines = draft.calls ++ line ∷ [] } ∷ []) ∙ sym (length-append draft.over (record { judge = draft.judge; lines = draft.calls } ∷ []))
phases_with draft (saying.Next judge) = length-append (phases_at draft) (record { judge = judge; lines = [] } ∷ [])

rulings_with : (r : ℕ) (draft : Draft) (said : Saying) → ruling_after r (phases_at (added draft said)) ≡ ruling_with said (ruling_after r (phases_at draft))
rulings_with r draft saying.Nothing = refl
rulings_with r draft (saying.Call line) = ruling_append r draft.over (record { judge = draft.judge; lines = draft.calls ++ line ∷ [] } ∷ []) ∙ sym (ruling_append r draft.over (record { judge = draft.judge; lines = draft.calls } ∷ []))
rulings_with r draft (saying.Next judge) = ruling_append r (phases_at draft) (record { judge = judge; lines = [] } ∷ [])

ruled_with : (r : ℕ) (draft : Draft) (said : Saying) → ruled_from r 1 (phases_at (added draft said)) ≡ ruled_from r 1 (phases_at draft) ++ map (ruled_by (ruling_after r (phases_at draft))) (calls_with said (length (phases_at draft)))
ruled_with r draft saying.Nothing = sym (append-nil (ruled_from r 1 (phases_at draft)))
ruled_with r draft (saying.Call line) =
    let p : Phase = record { judge = draft.judge; lines = draft.calls } in
    let q : Phase = record { judge = draft.judge; lines = draft.calls ++ line ∷ [] } in
    let rules = unwrap_or draft.judge (ruling_after r draft.over) in
    let k = 1 + length draft.over in
    let before = ruled_from r 1 draft.over in
    let mine = map (ruled_by rules) (calls_in k draft.calls) in
    let ruling : rules ≡ ruling_after r (phases_at draft) = sym (ruling_append r draft.over (p ∷ [])) in
    let size = length-append draft.over (p ∷ []) in
    let phase : k ≡ length (phases_at draft) = omega (arith, size) in
    last_ruled r 1 draft.over q
    ∙ ap (λ (cs : List Call). before ++ map (ruled_by rules) cs) (calls_in-append k draft.calls (line ∷ []))
    ∙ ap (λ (cs : List RuledCall). before ++ cs) (map-append (ruled_by rules) (calls_in k draft.calls) (calls_in k (line ∷ [])))
    ∙ sym (append_assoc before mine (map (ruled_by rules) (calls_in k (line ∷ []))))
    ∙ ap (λ (cs : List RuledCall). cs ++ map (ruled_by rules) (calls_in k (line ∷ []))) (sym (last_ruled r 1 draft.over p))
    ∙ ap (λ (n : ℕ). ruled_from r 1 (phases_at draft) ++ map (ruled_by n) (calls_in k (line ∷ []))) ruling
    ∙ ap (λ (n : ℕ). ruled_from r 1 (phases_at draft) ++ map (ruled_by (ruling_after r (phases_at draft))) (calls_in n (line ∷ []))) phase
ruled_with r draft (saying.Next judge) = ruled_append r 1 (phases_at draft) (record { judge = judge; lines = [] } ∷ [])

over_with : (draft : Draft) (said : Saying) (n : ℕ) → length draft.over ≤ n → length (added draft said).over ≤ n + 1
over_with draft saying.Nothing n few = omega (arith, few)
over_with draft (saying.Call line) n few = omega (arith, few)
over_with draft (saying.Next judge) n few = let size = length-append draft.over (record { judge = draft.judge; lines = draft.calls } ∷ []) in omega (arith, few, size)

-- ---- what the history tells of calls that were answered

told_one : {S : Type 0} (shows : S → StoreShown) (settings : Settings) (c : RuledCall) (old new : Between S) → AnswersUnder shows settings c old new → calls_made new.core.history ≡ calls_made old.core.history ++ c.call ∷ []
told_one shows settings c old new u = ap calls_made u.answers.gained ∙ map-append (λ (e : Entry). call e.session e.phase e.text) old.core.history _

told_all : {S : Type 0} (shows : S → StoreShown) (settings : Settings) (xs : List RuledCall) (old new : Between S) → AnswersAll shows settings xs old new → calls_made new.core.history ≡ calls_made old.core.history ++ map (λ (c : RuledCall). c.call) xs
told_all shows settings [] old new a = ap (λ (b : Between _). calls_made b.core.history) a ∙ sym (append-nil (calls_made old.core.history))
told_all shows settings (x ∷ xs) old new a =
    told_all shows settings xs a.0 new a.2
    ∙ ap (λ (cs : List Call). cs ++ map (λ (c : RuledCall). c.call) xs) (told_one shows settings x old a.0 a.1)
    ∙ append_assoc (calls_made old.core.history) (x.call ∷ []) (map (λ (c : RuledCall). c.call) xs)

calls_of_ruled : (r : ℕ) (cs : List Call) → map (λ (c : RuledCall). c.call) (map (ruled_by r) cs) ≡ cs
calls_of_ruled r [] = refl
calls_of_ruled r (c ∷ cs) = ap (λ (ds : List Call). c ∷ ds) (calls_of_ruled r cs)

calls_ruled : (r n : ℕ) (ps : List Phase) → map (λ (c : RuledCall). c.call) (ruled_from r n ps) ≡ calls_from n ps
calls_ruled r n [] = refl
calls_ruled r n (p ∷ ps) =
    let next = unwrap_or p.judge r in
    map-append (λ (c : RuledCall). c.call) (map (ruled_by next) (calls_in n p.lines)) (ruled_from next (n + 1) ps)
    ∙ ap (λ (cs : List Call). cs ++ map (λ (c : RuledCall). c.call) (ruled_from next (n + 1) ps)) (calls_of_ruled next (calls_in n p.lines))
    ∙ ap (λ (cs : List Call). calls_in n p.lines ++ cs) (calls_ruled next (n + 1) ps)

-- a history that grew
pub record Grown (old new : List Entry) : Type 0 where
  pub gained : List Entry
  pub is : new ≡ old ++ gained

pub grown_all : {S : Type 0} (shows : S → StoreShown) (settings : Settings) (xs : List RuledCall) (old new : Between S) → AnswersAll shows settings xs old new → Grown old.core.history new.core.history
grown_all shows settings [] old new a = record { gained = []; is = ap (λ (b : Between _). b.core.history) a ∙ sym (append-nil old.core.history) }
grown_all shows settings (x ∷ xs) old new a =
    let more = grown_all shows settings xs a.0 new a.2 in
    record {
      gained = _ ∷ more.gained;
      is = more.is ∙ ap (λ (h : List Entry). h ++ more.gained) a.1.answers.gained ∙ append_assoc old.core.history (_ ∷ []) more.gained;
    }

-- ---- where a service stands

-- THE LINES THAT WERE READ were served: their draft has these calls, and it is in this phase and under this judge.
pub record Stands {S : Type 0} (shows : S → StoreShown) (settings : Settings) (first : ℕ) (draft : Draft) (ruling : ℕ) (old now : Between S) : Type 0 where
  pub phase : now.core.phase ≡ length (phases_at draft)
  pub rules : ruling ≡ ruling_after first (phases_at draft)
  pub answers : AnswersAll shows settings (ruled_from first 1 (phases_at draft)) old now

stands_more : {S : Type 0} (shows : S → StoreShown) (settings : Settings) (first : ℕ) (draft : Draft) (said : Saying) (ruling rules : ℕ) (old mid new : Between S) → Stands shows settings first draft ruling old mid → Makes shows settings said ruling rules mid new → Stands shows settings first (added draft said) rules old new
stands_more shows settings first draft said ruling rules old mid new s m =
    let phases = phases_at draft in
    let mine : AnswersAll shows settings (map (ruled_by (ruling_after first phases)) (calls_with said (length phases))) mid new =
    subst (λ (r : ℕ). AnswersAll shows settings (map (ruled_by r) (calls_with said (length phases))) mid new) s.rules (subst (λ (k : ℕ). AnswersAll shows settings (map (ruled_by ruling) (calls_with said k)) mid new) s.phase m.answers) in
    record {
      phase = m.phase ∙ ap (phase_with said) s.phase ∙ sym (phases_with draft said);
      rules = m.next ∙ ap (ruling_with said) s.rules ∙ sym (rulings_with first draft said);
      answers = subst (λ (xs : List RuledCall). AnswersAll shows settings xs old new) (sym (ruled_with first draft said)) (all_append shows settings (ruled_from first 1 phases) (map (ruled_by (ruling_after first phases)) (calls_with said (length phases))) old mid new s.answers mine);
    }

in_order : {S : Type 0} (shows : S → StoreShown) (settings : Settings) (first : ℕ) (draft : Draft) (ruling : ℕ) (old now : Between S) → old.core.history ≡ [] → Stands shows settings first draft ruling old now → IsInOrder now.core.history (script_at draft)
in_order shows settings first draft ruling old now fresh s =
    told_all shows settings (ruled_from first 1 (phases_at draft)) old now s.answers
    ∙ ap (λ (h : List Entry). calls_made h ++ map (λ (c : RuledCall). c.call) (ruled_from first 1 (phases_at draft))) fresh
    ∙ calls_ruled first 1 (phases_at draft)

-- the same in the words of a service's clauses
abbrev pub IsServed : {S : Type 0} → (S → StoreShown) → Settings → ℕ → Between S → List Entry → Script → Type 0
IsServed shows settings first old history script = IsInOrder history script × AnswersFirst shows settings (ruled_from first 1 script.phases) old history

abbrev pub IsServedTo : {S : Type 0} → (S → StoreShown) → Settings → ℕ → Between S → Between S → Script → Type 0
IsServedTo shows settings first old now script = IsInOrder now.core.history script × AnswersAll shows settings (ruled_from first 1 script.phases) old now

served_to : {S : Type 0} (shows : S → StoreShown) (settings : Settings) (first : ℕ) (draft : Draft) (ruling : ℕ) (old now : Between S) → old.core.history ≡ [] → Stands shows settings first draft ruling old now → IsServedTo shows settings first old now (script_at draft)
served_to shows settings first draft ruling old now fresh s = (in_order shows settings first draft ruling old now fresh s, s.answers)

served_so : {S : Type 0} (shows : S → StoreShown) (settings : Settings) (first : ℕ) (script : Script) (old now : Between S) (history : List Entry) → history ≡ now.core.history → IsServedTo shows settings first old now script → IsServed shows settings first old history script
served_so shows settings first script old now history same p = (ap calls_made same ∙ p.0, record { made = ruled_from first 1 script.phases; rest = []; whole = sym (append-nil (ruled_from first 1 script.phases)); end = now; answers = p.1; told = same })

-- ALL THAT THE LOOP KEEPS: so many lines of so many bytes were served, and what was taken behind them pends.
pub record Keeps {S : Type 0} (shows : S → StoreShown) (settings : Settings) (first number before ruling : ℕ) (old now : Between S) (left after : Option (List ℕ)) (pending : List ℕ) (sunk written : Option (List ℕ)) : Type 0 where
  pub bytes : List ℕ
  pub draft : Draft
  pub read : ReadSoFar bytes number draft
  pub few : length draft.over ≤ number
  pub stands : Stands shows settings first draft ruling old now
  pub size : length bytes ≡ before
  pub taken : Consumes left after (bytes ++ pending)
  pub wrote : Appends sunk written (text now.core.history)

pub keeps_none : {S : Type 0} (shows : S → StoreShown) (settings : Settings) (first : ℕ) (old : Between S) (left : Option (List ℕ)) (pending : List ℕ) (sunk : Option (List ℕ)) → old.core.history ≡ [] → old.core.phase ≡ 1 → pending ≡ [] → Keeps shows settings first 0 0 first old old left left pending sunk sunk
keeps_none shows settings first old left pending sunk none one empty = record {
  bytes = [];
  draft = no_draft;
  read = read_none IsUtf8-nil;
  few = omega arith;
  stands = record { phase = one; rules = refl; answers = refl };
  size = refl;
  taken = subst (λ (bs : List ℕ). Consumes left left bs) (sym empty) (consumes_none left);
  wrote = subst (λ (h : List Entry). Appends sunk sunk (text h)) (sym none) (appends_none sunk);
}

-- the phase of the core counts the marks
pub phase_some : {S : Type 0} (shows : S → StoreShown) (settings : Settings) (first number before ruling : ℕ) (old now : Between S) (left after : Option (List ℕ)) (pending : List ℕ) (sunk written : Option (List ℕ)) → Keeps shows settings first number before ruling old now left after pending sunk written → 1 ≤ now.core.phase
phase_some shows settings first number before ruling old now left after pending sunk written k =
    let size = length-append k.draft.over (record { judge = k.draft.judge; lines = k.draft.calls } ∷ []) in
    let is = k.stands.phase in
    omega (arith, size, is)

pub phase_few : {S : Type 0} (shows : S → StoreShown) (settings : Settings) (first number before ruling : ℕ) (old now : Between S) (left after : Option (List ℕ)) (pending : List ℕ) (sunk written : Option (List ℕ)) → Keeps shows settings first number before ruling old now left after pending sunk written → number ≤ 200000 → now.core.phase ≤ 200001
phase_few shows settings first number before ruling old now left after pending sunk written k few =
    let size = length-append k.draft.over (record { judge = k.draft.judge; lines = k.draft.calls } ∷ []) in
    let is = k.stands.phase in
    let over = k.few in
    omega (arith, size, is, over, few)

-- ---- what was taken

taken_line : (left mid after : Option (List ℕ)) (bytes pending behind line : List ℕ) → Consumes left mid (bytes ++ pending) → TakesLine mid after pending behind line → Consumes left after ((bytes ++ line) ++ behind)
taken_line left mid after bytes pending behind line first t =
    let joined : (bytes ++ pending) ++ t.piece ≡ (bytes ++ line) ++ behind = append_assoc bytes pending t.piece ∙ ap (λ (bs : List ℕ). bytes ++ bs) t.whole ∙ sym (append_assoc bytes line behind) in
    subst (Consumes left after) joined (consumes_more left mid after (bytes ++ pending) t.piece first t.taken)

taken_next : (left mid after : Option (List ℕ)) (bytes pending behind line : List ℕ) → Consumes left mid (bytes ++ pending) → TakesLine mid after pending behind line → Consumes left after (bytes ++ (line ++ behind))
taken_next left mid after bytes pending behind line first t = subst (Consumes left after) (append_assoc bytes line behind) (taken_line left mid after bytes pending behind line first t)

taken_some : (left mid after : Option (List ℕ)) (bytes pending piece : List ℕ) → Consumes left mid (bytes ++ pending) → Consumes mid after piece → Consumes left after (bytes ++ (pending ++ piece))
taken_some left mid after bytes pending piece first more = subst (Consumes left after) (append_assoc bytes pending piece) (consumes_more left mid after (bytes ++ pending) piece first more)

ok_so : (bytes : List ℕ) (script : Script) (P : Script → Type 0) → length bytes ≤ 16777216 → script_of bytes ≡ Ok script → P script → Write bytes P
ok_so bytes script P few is p = record { few = few; script = rw is p }

-- ---- a line more

text_more : (old new gained : List Entry) → new ≡ old ++ gained → text new ≡ text old ++ text gained
text_more old new gained is = ap text is ∙ flat_map-append entry_text old gained

pub whole_more : {S : Type 0} (shows : S → StoreShown) (settings : Settings) (number ruling rules : ℕ) (mid new : Between S) (line : List ℕ) (sunk written wrote : Option (List ℕ)) → Appends sunk written (text mid.core.history) → ServesLine shows settings number line ruling rules mid new (Appends written wrote) → Appends sunk wrote (text new.core.history)
whole_more shows settings number ruling rules mid new line sunk written wrote w s = subst (Appends sunk wrote) (sym (text_more mid.core.history new.core.history s.gained s.grown)) (appends_more sunk written wrote (text mid.core.history) (text s.gained) w s.wrote)

-- the same line, in the words of the core that was handed in
pub settled : {S : Type 0} (shows : S → StoreShown) (here settings : Settings) (number : ℕ) (bytes line : List ℕ) (ruling rules : ℕ) (old new : Between S) (Written : List ℕ → Type 0) → here ≡ settings → bytes ≡ line → ServesLine shows here number bytes ruling rules old new Written → ServesLine shows settings number line ruling rules old new Written
settled shows here settings number bytes line ruling rules old new Written same is s = subst (λ (bs : List ℕ). ServesLine shows settings number bs ruling rules old new Written) is (subst (λ (set : Settings). ServesLine shows set number bytes ruling rules old new Written) same s)

pub keeps_more : {S : Type 0} (shows : S → StoreShown) (settings : Settings) (first number before ruling rules : ℕ) (old mid new : Between S) (left at after : Option (List ℕ)) (pending behind line : List ℕ) (ended : Bool) (sunk written wrote : Option (List ℕ)) (so_many : ℕ)
    → Keeps shows settings first number before ruling old mid left at pending sunk written → TakesLine at after pending behind line → IsLine line ended → ended ≡ true → ServesLine shows settings (number + 1) line ruling rules mid new (Appends written wrote) → before + length line ≡ so_many
    → Keeps shows settings first (number + 1) so_many rules old new left after behind sunk wrote
keeps_more shows settings first number before ruling rules old mid new left at after pending behind line ended sunk written wrote so_many k t one is s sum = record {
  bytes = k.bytes ++ line;
  draft = added k.draft s.said;
  read = read_more k.bytes number k.draft line s.said k.read (subst (IsLine line) is one) s.says;
  few = over_with k.draft s.said number k.few;
  stands = stands_more shows settings first k.draft s.said ruling rules old mid new k.stands s.makes;
  size = length-append k.bytes line ∙ ap (λ (n : ℕ). n + length line) k.size ∙ sum;
  taken = taken_line left at after k.bytes pending behind line k.taken t;
  wrote = whole_more shows settings (number + 1) ruling rules mid new line sunk written wrote k.wrote s;
}

-- what was served before a line, where what comes behind was not
pub serves_before : {S : Type 0} (shows : S → StoreShown) (settings : Settings) (first number before ruling : ℕ) (old now : Between S) (left at after : Option (List ℕ)) (pending piece : List ℕ) (sunk written : Option (List ℕ)) (history : List Entry)
    → Keeps shows settings first number before ruling old now left at pending sunk written → old.core.history ≡ [] → before ≤ 16777216 → history ≡ now.core.history → Consumes at after piece
    → Serves left after (IsServed shows settings first old history)
serves_before shows settings first number before ruling old now left at after pending piece sunk written history k fresh few same more = record {
  bytes = k.bytes;
  behind = pending ++ piece;
  taken = taken_some left at after k.bytes pending piece k.taken more;
  whole = inl k.read.whole;
  script = ok_so k.bytes (script_at k.draft) (IsServed shows settings first old history) (let size = k.size in omega (arith, size, few)) (script_read k.bytes number k.draft k.read) (served_so shows settings first (script_at k.draft) old now history same (served_to shows settings first k.draft ruling old now fresh k.stands));
}

-- the calls of the lines before are those of the history
lines_before : {S : Type 0} (shows : S → StoreShown) (settings : Settings) (first number before ruling : ℕ) (old now : Between S) (left at : Option (List ℕ)) (pending : List ℕ) (sunk written : Option (List ℕ)) (history : List Entry)
    → (k : Keeps shows settings first number before ruling old now left at pending sunk written) → old.core.history ≡ [] → before ≤ 16777216 → history ≡ now.core.history → Write k.bytes (IsInOrder history)
lines_before shows settings first number before ruling old now left at pending sunk written history k fresh few same =
    ok_so k.bytes (script_at k.draft) (IsInOrder history) (let size = k.size in omega (arith, size, few)) (script_read k.bytes number k.draft k.read) (ap calls_made same ∙ in_order shows settings first k.draft ruling old now fresh k.stands)

-- whole lines with one more, or with the last one of all
whole_with : (bytes line behind : List ℕ) (ended : Bool) (after : Option (List ℕ)) → IsLine line ended → (ended ≡ false → behind ≡ []) → (ended ≡ false → IsAtEnd after) → AreWholeLines (bytes ++ line) ⊎ ((behind ≡ []) × IsAtEnd after)
whole_with bytes line behind true after one last end = inl (inr (bytes ++ one.front, ap (λ (bs : List ℕ). bytes ++ bs) one.is ∙ sym (append_assoc bytes one.front (10 ∷ []))))
whole_with bytes line behind false after one last end = inr (last refl, end refl)

-- the script of the lines, and of this one
script_more : (bytes : List ℕ) (n : ℕ) (draft : Draft) (line : List ℕ) (said : Saying) (ended : Bool) → ReadSoFar bytes n draft → IsLine line ended → LineSays (n + 1) line said → script_of (bytes ++ line) ≡ Ok (script_at (added draft said))
script_more bytes n draft line said true read one says = script_read (bytes ++ line) (n + 1) (added draft said) (read_more bytes n draft line said read one says)
script_more bytes n draft line said false read one says = script_with bytes n draft line said read one says

write_more : {S : Type 0} (shows : S → StoreShown) (settings : Settings) (first number before ruling rules : ℕ) (old mid new : Between S) (left at : Option (List ℕ)) (pending line : List ℕ) (ended : Bool) (sunk written : Option (List ℕ)) (Written : List ℕ → Type 0)
    → (k : Keeps shows settings first number before ruling old mid left at pending sunk written) → old.core.history ≡ [] → IsLine line ended → ServesLine shows settings (number + 1) line ruling rules mid new Written → before + length line ≤ 16777216
    → Write (k.bytes ++ line) (IsServedTo shows settings first old new)
write_more shows settings first number before ruling rules old mid new left at pending line ended sunk written Written k fresh one s few =
    let draft = added k.draft s.said in
    ok_so (k.bytes ++ line) (script_at draft) (IsServedTo shows settings first old new)
    (let size = length-append k.bytes line in let was = k.size in omega (arith, size, was, few))
    (script_more k.bytes number k.draft line s.said ended k.read one s.says)
    (served_to shows settings first draft rules old new fresh (stands_more shows settings first k.draft s.said ruling rules old mid new k.stands s.makes))

-- what holds of a script that bytes write
weaker : (bytes : List ℕ) (P Q : Script → Type 0) → ((script : Script) → P script → Q script) → Write bytes P → Write bytes Q
weaker bytes P Q f w = record { few = w.few; script = in_ok (script_of bytes) P Q f w.script }
  where
    in_ok : (said : Result Script ScriptFault) (P Q : Script → Type 0) → ((script : Script) → P script → Q script) → IsOkAnd said P → IsOkAnd said Q
    in_ok (Ok script) P Q f p = f script p
    in_ok (Err fault) P Q f p = absurd p

-- the line was served, though its answer was not handed on
pub serves_line : {S : Type 0} (shows : S → StoreShown) (settings : Settings) (first number before ruling rules : ℕ) (old mid new : Between S) (left at after : Option (List ℕ)) (pending behind line : List ℕ) (ended : Bool) (sunk written : Option (List ℕ)) (Written : List ℕ → Type 0)
    → Keeps shows settings first number before ruling old mid left at pending sunk written → old.core.history ≡ [] → TakesLine at after pending behind line → IsLine line ended → ServesLine shows settings (number + 1) line ruling rules mid new Written → before + length line ≤ 16777216 → (ended ≡ false → behind ≡ []) → (ended ≡ false → IsAtEnd after)
    → Serves left after (IsServed shows settings first old new.core.history)
serves_line shows settings first number before ruling rules old mid new left at after pending behind line ended sunk written Written k fresh t one s few last end = record {
  bytes = k.bytes ++ line;
  behind = behind;
  taken = taken_line left at after k.bytes pending behind line k.taken t;
  whole = whole_with k.bytes line behind ended after one last end;
  script = weaker (k.bytes ++ line) (IsServedTo shows settings first old new) (IsServed shows settings first old new.core.history) (λ script p. served_so shows settings first script old new new.core.history refl p) (write_more shows settings first number before ruling rules old mid new left at pending line ended sunk written Written k fresh one s few);
}

-- the last line, which has no end
pub serves_last : {S : Type 0} (shows : S → StoreShown) (settings : Settings) (first number before ruling rules : ℕ) (old mid new : Between S) (left at after : Option (List ℕ)) (pending behind line : List ℕ) (ended : Bool) (sunk written : Option (List ℕ)) (Written : List ℕ → Type 0)
    → Keeps shows settings first number before ruling old mid left at pending sunk written → old.core.history ≡ [] → TakesLine at after pending behind line → IsLine line ended → ServesLine shows settings (number + 1) line ruling rules mid new Written → before + length line ≤ 16777216 → behind ≡ [] → IsAtEnd after
    → ServesAll left after (IsServedTo shows settings first old new)
serves_last shows settings first number before ruling rules old mid new left at after pending behind line ended sunk written Written k fresh t one s few none end = record {
  bytes = k.bytes ++ line;
  taken = record { taken = subst (Consumes left after) (ap (λ (bs : List ℕ). (k.bytes ++ line) ++ bs) none ∙ append-nil (k.bytes ++ line)) (taken_line left at after k.bytes pending behind line k.taken t); end = end };
  script = write_more shows settings first number before ruling rules old mid new left at pending line ended sunk written Written k fresh one s few;
}

-- no line more
pub serves_end : {S : Type 0} (shows : S → StoreShown) (settings : Settings) (first number before ruling : ℕ) (old now : Between S) (left at after : Option (List ℕ)) (pending behind line : List ℕ) (sunk written : Option (List ℕ))
    → Keeps shows settings first number before ruling old now left at pending sunk written → old.core.history ≡ [] → before ≤ 16777216 → TakesLine at after pending behind line → line ≡ [] → behind ≡ [] → IsAtEnd after
    → ServesAll left after (IsServedTo shows settings first old now)
serves_end shows settings first number before ruling old now left at after pending behind line sunk written k fresh few t none empty end =
    let rest : (k.bytes ++ line) ++ behind ≡ k.bytes = ap (λ (bs : List ℕ). (k.bytes ++ line) ++ bs) empty ∙ append-nil (k.bytes ++ line) ∙ ap (λ (bs : List ℕ). k.bytes ++ bs) none ∙ append-nil k.bytes in
    record {
      bytes = k.bytes;
      taken = record { taken = subst (Consumes left after) rest (taken_line left at after k.bytes pending behind line k.taken t); end = end };
      script = ok_so k.bytes (script_at k.draft) (IsServedTo shows settings first old now) (let size = k.size in omega (arith, size, few)) (script_read k.bytes number k.draft k.read) (served_to shows settings first k.draft ruling old now fresh k.stands);
    }

pub serves_of_all : {S : Type 0} (shows : S → StoreShown) (settings : Settings) (first : ℕ) (old now : Between S) (left after : Option (List ℕ)) → ServesAll left after (IsServedTo shows settings first old now) → Serves left after (IsServed shows settings first old now.core.history)
serves_of_all shows settings first old now left after all = record {
  bytes = all.bytes;
  behind = [];
  taken = subst (Consumes left after) (sym (append-nil all.bytes)) all.taken.taken;
  whole = inr (refl, all.taken.end);
  script = weaker all.bytes (IsServedTo shows settings first old now) (IsServed shows settings first old now.core.history) (λ script p. served_so shows settings first script old now now.core.history refl p) all.script;
}

-- a line that is empty is none
pub empty_last : (line : List ℕ) (ended : Bool) → IsLine line ended → line ≡ [] → ended ≡ false
empty_last line false one none = refl
empty_last line true one none = absurd (no_end one.front (sym one.is ∙ none))
  where
    no_end : (front : List ℕ) → front ++ 10 ∷ [] ≡ [] → ⊥
    no_end [] e = cc
    no_end (b ∷ bs) e = cc

-- ---- why a service ends

pub rose_later : (a b c : ℕ) → a ≤ b → Rose b c → Rose a c
rose_later a b c le rose = let low : min (a + 1) (2 ^ 64 - 1) ≤ min (b + 1) (2 ^ 64 - 1) = omega (arith, le) in omega (arith, low, rose)

-- a line was not read
pub line_ends : {S T : Type 0} (shows : S → StoreShown) (settings : Settings) (first number before ruling : ℕ) (old now : Between S) (left at after : Option (List ℕ)) (pending : List ℕ) (sunk written : Option (List ℕ)) (reads read reads_now writes wrote : ℕ) (fault : ReadFault)
    → Keeps shows settings first number before ruling old now left at pending sunk written → old.core.history ≡ [] → before ≤ 16777216 → reads ≤ read → (◌≡◌ {A = Result T ReadFault} (Err fault) (Err reading.Failed) → Rose read reads_now) → (◌≡◌ {A = Result T ReadFault} (Err fault) (Err reading.TooBig) → TakesLongLine at after pending 4100)
    → EndsSo left after reads reads_now writes wrote (IsInOrder now.core.history) (line_status fault (number + 1))
line_ends shows settings first number before ruling old now left at after pending sunk written reads read reads_now writes wrote reading.Failed k fresh few le failed long = rose_later reads read reads_now le (failed refl)
line_ends shows settings first number before ruling old now left at after pending sunk written reads read reads_now writes wrote reading.TooBig k fresh few le failed long =
    let t = long refl in
    inr (record {
      bytes = k.bytes;
      behind = pending ++ t.piece;
      taken = taken_some left at after k.bytes pending t.piece k.taken t.taken;
      whole = k.read.whole;
      script = lines_before shows settings first number before ruling old now left at pending sunk written now.core.history k fresh few refl;
      why = record { before = ap (λ (n : ℕ). n + 1) k.read.count; free = t.free; long = t.long };
    })
line_ends shows settings first number before ruling old now left at after pending sunk written reads read reads_now writes wrote reading.NoMemory k fresh few le failed long = tt

pub line_not_done : (fault : ReadFault) (number : ℕ) (P : Type 0) → IfDone (line_status fault number) P
line_not_done reading.Failed number P = tt
line_not_done reading.TooBig number P = tt
line_not_done reading.NoMemory number P = tt

pub line_wrote : (fault : ReadFault) (number : ℕ) (a b : Option (List ℕ)) (bytes : List ℕ) → Appends a b bytes → WrittenBy (line_status fault number) a b bytes
line_wrote reading.Failed number a b bytes w = w
line_wrote reading.TooBig number a b bytes w = w
line_wrote reading.NoMemory number a b bytes w = w

-- all lines have too many bytes
pub too_many_bytes : {S : Type 0} (shows : S → StoreShown) (settings : Settings) (first number before ruling : ℕ) (old now : Between S) (left at after : Option (List ℕ)) (pending behind line : List ℕ) (ended : Bool) (sunk written : Option (List ℕ))
    → Keeps shows settings first number before ruling old now left at pending sunk written → old.core.history ≡ [] → before ≤ 16777216 → TakesLine at after pending behind line → IsLine line ended → (ended ≡ false → behind ≡ []) → (ended ≡ false → IsAtEnd after) → 16777216 < before + length line → HasTooManyBytes left after (IsInOrder now.core.history)
too_many_bytes shows settings first number before ruling old now left at after pending behind line ended sunk written k fresh few t one last end many = record {
  bytes = k.bytes;
  behind = line ++ behind;
  taken = taken_next left at after k.bytes pending behind line k.taken t;
  whole = k.read.whole;
  script = lines_before shows settings first number before ruling old now left at pending sunk written now.core.history k fresh few refl;
  why = record { line = line; rest = behind; ended = ended; is = refl; one = one; last = λ lacks. (last lacks, end lacks); holds = (let both = length-append k.bytes line in let size = k.size in omega (arith, both, size, many)) };
}

-- a line is at fault
faulty : {S : Type 0} (shows : S → StoreShown) (settings : Settings) (first number before ruling : ℕ) (old now : Between S) (left at after : Option (List ℕ)) (pending behind line : List ℕ) (ended : Bool) (sunk written : Option (List ℕ)) (history : List Entry) (fault : ScriptFault)
    → (k : Keeps shows settings first number before ruling old now left at pending sunk written) → old.core.history ≡ [] → history ≡ now.core.history → TakesLine at after pending behind line → IsLine line ended → (ended ≡ false → behind ≡ []) → (ended ≡ false → IsAtEnd after) → before + length line ≤ 16777216 → script_of (k.bytes ++ line) ≡ Err fault → HasFaultyLine left after (IsInOrder history) fault
faulty shows settings first number before ruling old now left at after pending behind line ended sunk written history fault k fresh same t one last end few is = record {
  bytes = k.bytes;
  behind = line ++ behind;
  taken = taken_next left at after k.bytes pending behind line k.taken t;
  whole = k.read.whole;
  script = lines_before shows settings first number before ruling old now left at pending sunk written history k fresh (omega (arith, few)) same;
  why = record { line = line; rest = behind; ended = ended; is = refl; one = one; last = λ lacks. (last lacks, end lacks); holds = record { few = (let both = length-append k.bytes line in let size = k.size in omega (arith, both, size, few)); first = is } };
}

abbrev not_text : ℕ → Result Script ScriptFault
not_text offset = Err (faults.NotText offset)

fault_of : (bytes : List ℕ) (n : ℕ) (draft : Draft) (line : List ℕ) (fault : ScriptFault) (ended : Bool) → ReadSoFar bytes n draft → IsLine line ended → 0 < length line → IsUtf8 line → said_at (n + 1) line ≡ Err fault → script_of (bytes ++ line) ≡ Err fault
fault_of bytes n draft line fault true read one some utf8 says = fault_ended bytes n draft line fault read one utf8 says
fault_of bytes n draft line fault false read one some utf8 says = fault_last bytes n draft line fault read one some utf8 says

pub fault_ends : {S : Type 0} (shows : S → StoreShown) (settings : Settings) (first number before ruling : ℕ) (old now : Between S) (left at after : Option (List ℕ)) (pending behind line : List ℕ) (ended : Bool) (sunk written : Option (List ℕ)) (reads read writes wrote : ℕ) (history : List Entry) (fault : ScriptFault)
    → Keeps shows settings first number before ruling old now left at pending sunk written → old.core.history ≡ [] → history ≡ now.core.history → TakesLine at after pending behind line → IsLine line ended → (ended ≡ false → behind ≡ []) → (ended ≡ false → IsAtEnd after) → 0 < length line → before + length line ≤ 16777216 → LineFault (number + 1) line fault
    → EndsSo left after reads read writes wrote (IsInOrder history) (stop_status (stops.Fault fault) before)
fault_ends shows settings first number before ruling old now left at after pending behind line ended sunk written reads read writes wrote history (faults.NoSession n) k fresh same t one last end some few f =
    (tt, faulty shows settings first number before ruling old now left at after pending behind line ended sunk written history (faults.NoSession n) k fresh same t one last end few (fault_of k.bytes number k.draft line (faults.NoSession n) ended k.read one some f.0 f.1))
fault_ends shows settings first number before ruling old now left at after pending behind line ended sunk written reads read writes wrote history (faults.NotText offset) k fresh same t one last end some few f =
    let is = broken_with k.bytes number k.draft line offset k.read f in
    let short = f.short in
    let size = k.size in
    let place : length k.bytes + offset ≡ min (before + offset) (2 ^ 32 - 1) = omega (arith, size, short, few) in
    (tt, faulty shows settings first number before ruling old now left at after pending behind line ended sunk written history (faults.NotText (min (before + offset) (2 ^ 32 - 1))) k fresh same t one last end few (is ∙ ap not_text place))
fault_ends shows settings first number before ruling old now left at after pending behind line ended sunk written reads read writes wrote history (faults.TooLong n) k fresh same t one last end some few f =
    inl (faulty shows settings first number before ruling old now left at after pending behind line ended sunk written history (faults.TooLong n) k fresh same t one last end few (fault_of k.bytes number k.draft line (faults.TooLong n) ended k.read one some f.0 f.1))
fault_ends shows settings first number before ruling old now left at after pending behind line ended sunk written reads read writes wrote history (faults.TooMany most) k fresh same t one last end some few f =
    (most, faulty shows settings first number before ruling old now left at after pending behind line ended sunk written history (faults.TooMany most) k fresh same t one last end few (fault_of k.bytes number k.draft line (faults.TooMany most) ended k.read one some f.0 f.1))
fault_ends shows settings first number before ruling old now left at after pending behind line ended sunk written reads read writes wrote history faults.NoMemory k fresh same t one last end some few f = tt

-- what a line that was not answered leaves
abbrev Unanswered : {K : Type 0} → Stop → List Entry → List Entry → K → K → Type 0
Unanswered stop old new sink after = ◌≡◌ {A = Result (Unit {0}) Stop} (Err stop) (Err stops.Write) ⊎ ((new ≡ old) × (after ≡ sink))

fault_unanswered : {K : Type 0} (fault : ScriptFault) (old new : List Entry) (sink after : K) → Unanswered (stops.Fault fault) old new sink after → new ≡ old
fault_unanswered fault old new sink after (inl e) = absurd (cc)
fault_unanswered fault old new sink after (inr same) = same.0

pub stop_ends : {S K : Type 0} (shows : S → StoreShown) (settings : Settings) (first number before ruling : ℕ) (old now : Between S) (left at after : Option (List ℕ)) (pending behind line : List ℕ) (ended : Bool) (sunk written : Option (List ℕ)) (reads read writes write wrote : ℕ) (history : List Entry) (sink sank : K) (stop : Stop)
    → Keeps shows settings first number before ruling old now left at pending sunk written → old.core.history ≡ [] → Unanswered stop now.core.history history sink sank → TakesLine at after pending behind line → IsLine line ended → (ended ≡ false → behind ≡ []) → (ended ≡ false → IsAtEnd after) → 0 < length line → before + length line ≤ 16777216 → ((fault : ScriptFault) → ◌≡◌ {A = Result (Unit {0}) Stop} (Err stop) (Err (stops.Fault fault)) → LineFault (number + 1) line fault) → writes ≤ write → (◌≡◌ {A = Result (Unit {0}) Stop} (Err stop) (Err stops.Write) → Rose write wrote)
    → EndsSo left after reads read writes wrote (IsInOrder history) (stop_status stop before)
stop_ends shows settings first number before ruling old now left at after pending behind line ended sunk written reads read writes write wrote history sink sank (stops.Fault fault) k fresh u t one last end some few f le w = fault_ends shows settings first number before ruling old now left at after pending behind line ended sunk written reads read writes wrote history fault k fresh (fault_unanswered fault now.core.history history sink sank u) t one last end some few (f fault refl)
stop_ends shows settings first number before ruling old now left at after pending behind line ended sunk written reads read writes write wrote history sink sank stops.Memory k fresh u t one last end some few f le w = tt
stop_ends shows settings first number before ruling old now left at after pending behind line ended sunk written reads read writes write wrote history sink sank stops.Write k fresh u t one last end some few f le w = rose_later writes write wrote le (w refl)

fault_not_done : (fault : ScriptFault) (before : ℕ) (P : Type 0) → IfDone (stop_status (stops.Fault fault) before) P
fault_not_done (faults.NoSession n) before P = tt
fault_not_done (faults.NotText n) before P = tt
fault_not_done (faults.TooLong n) before P = tt
fault_not_done (faults.TooMany n) before P = tt
fault_not_done faults.NoMemory before P = tt

pub stop_not_done : (stop : Stop) (before : ℕ) (P : Type 0) → IfDone (stop_status stop before) P
stop_not_done (stops.Fault fault) before P = fault_not_done fault before P
stop_not_done stops.Memory before P = tt
stop_not_done stops.Write before P = tt

fault_wrote : (fault : ScriptFault) (before : ℕ) (a b : Option (List ℕ)) (bytes : List ℕ) → Appends a b bytes → WrittenBy (stop_status (stops.Fault fault) before) a b bytes
fault_wrote (faults.NoSession n) before a b bytes w = w
fault_wrote (faults.NotText n) before a b bytes w = w
fault_wrote (faults.TooLong n) before a b bytes w = w
fault_wrote (faults.TooMany n) before a b bytes w = w
fault_wrote faults.NoMemory before a b bytes w = w

pub stop_wrote : {K : Type 0} (written : K → Option (List ℕ)) (sunk : Option (List ℕ)) (sink after : K) (old new : List Entry) (stop : Stop) (before : ℕ)
    → Appends sunk (written sink) (text old) → Unanswered stop old new sink after → (◌≡◌ {A = Result (Unit {0}) Stop} (Err stop) (Err stops.Write) → AppendsFront sunk (written after) (text new)) → WrittenBy (stop_status stop before) sunk (written after) (text new)
stop_wrote written sunk sink after old new (stops.Fault fault) before w (inl e) front = absurd (cc)
stop_wrote written sunk sink after old new (stops.Fault fault) before w (inr same) front = fault_wrote fault before sunk (written after) (text new) (rw (same.0, same.1) w)
stop_wrote written sunk sink after old new stops.Memory before w (inl e) front = absurd (cc)
stop_wrote written sunk sink after old new stops.Memory before w (inr same) front = rw (same.0, same.1) w
stop_wrote written sunk sink after old new stops.Write before w u front = front refl

-- a front of a line's answer behind those of the lines before
pub front_more : {S : Type 0} (shows : S → StoreShown) (settings : Settings) (number ruling rules : ℕ) (mid new : Between S) (line : List ℕ) (sunk written wrote : Option (List ℕ)) → Appends sunk written (text mid.core.history) → ServesLine shows settings number line ruling rules mid new (AppendsFront written wrote) → AppendsFront sunk wrote (text new.core.history)
front_more shows settings number ruling rules mid new line sunk written wrote w s = subst (AppendsFront sunk wrote) (sym (text_more mid.core.history new.core.history s.gained s.grown)) (front_right sunk written wrote (text mid.core.history) (text s.gained) w s.wrote)

-- what was served where a line stopped the service
pub stop_serves : {K : Type 0} (stop : Stop) (old new : List Entry) (sink after : K) (P : Type 0) → Unanswered stop old new sink after → (new ≡ old → P) → (◌≡◌ {A = Result (Unit {0}) Stop} (Err stop) (Err stops.Write) → P) → P
stop_serves stop old new sink after P (inl e) same write = write e
stop_serves stop old new sink after P (inr u) same write = same u.0

-- ---- one line

pub makes_nothing : {S : Type 0} (shows : S → StoreShown) (settings : Settings) (ruling : ℕ) (now : Between S) → Makes shows settings saying.Nothing ruling ruling now now
makes_nothing shows settings ruling now = record { phase = refl; next = refl; answers = refl }

pub makes_next : {S : Type 0} (shows : S → StoreShown) (settings : Settings) (judge : Option ℕ) (ruling rules n : ℕ) (old new : Shown S) (js ks : List Judging) → new ≡ record old { phase = n + 1 } → n ≡ old.phase → ks ≡ js → rules ≡ unwrap_or judge ruling → Makes shows settings (saying.Next judge) ruling rules (between old js) (between new ks)
makes_next {S = S} shows settings judge ruling rules n old new js ks gone at same named =
    let phase : new.phase ≡ n + 1 = ap (λ (c : Shown S). c.phase) gone in
    record {
      phase = phase ∙ ap (λ (k : ℕ). k + 1) at;
      next = named;
      answers = ap (λ (c : Shown S). between c ks) gone ∙ ap (between (record old { phase = n + 1 })) same ∙ ap (λ (k : ℕ). in_phase k (between old js)) (sym phase);
    }

pub makes_call : {S J : Type 0} (shows : S → StoreShown) (settings : Settings) (w : J → ℕ → Facts → Ruling) (s : J → ℕ) (line : Line) (ruling : ℕ) (old new : Shown S) (j0 j1 j2 : Option J) (before after : J) → ruling < 3 → filled j0 j1 j2 ≡ all_but ruling → w after ≡ w before → new.phase ≡ old.phase
    → Anywhere (judging (w before) (s before)) (judging (w before) (s after)) (λ number js ks. AnswersUnder shows settings (ruled_by number (call line.session old.phase line.text)) (between old js) (between new ks))
    → Makes shows settings (saying.Call line) ruling ruling (between old (map (λ j. judging (w j) (s j)) (by_number j0 j1 j2 before))) (between new (map (λ j. judging (w j) (s j)) (by_number j0 j1 j2 after)))
makes_call {S = S} shows settings w s line ruling old new j0 j1 j2 before after known apart rules phase made =
    let js = map (λ j. judging (w j) (s j)) (by_number j0 j1 j2 before) in
    let ks = map (λ j. judging (w j) (s j)) (by_number j0 j1 j2 after) in
    let at : slice_get js ruling ≡ Some (judging (w before) (s before)) = seated (λ j. judging (w j) (s j)) j0 j1 j2 before ruling known apart in
    let set : slice_set js ruling (judging (w before) (s after)) ≡ ks = seat_moved w s j0 j1 j2 before after ruling known apart rules in
    let mine : AnswersUnder shows settings (ruled_by ruling (call line.session old.phase line.text)) (between old js) (between new ks) = subst (λ ls. AnswersUnder shows settings (ruled_by ruling (call line.session old.phase line.text)) (between old js) (between new ls)) set (made ruling js at) in
    record { phase = phase; next = refl; answers = (between new ks, mine, refl) }

-- the phase that a mark begins
pub max_one : (n phase : ℕ) → n ≡ phase → 1 ≤ phase → phase ≡ max 1 n
max_one n phase at some = omega (arith, at, some)

-- what the line gained stands behind what stood
pub within_grown : {S : Type 0} (shows : S → StoreShown) (settings : Settings) (said : Saying) (ruling rules n : ℕ) (old new : Between S) → Makes shows settings said ruling rules old new → n ≡ length old.core.history → n ≤ length new.core.history
within_grown shows settings said ruling rules n old new m is =
    let g = grown_all shows settings (map (ruled_by ruling) (calls_with said old.core.phase)) old new m.answers in
    let size = ap (λ (h : List Entry). length h) g.is ∙ length-append old.core.history g.gained in
    omega (arith, size, is)

pub line_served : {S : Type 0} (shows : S → StoreShown) (settings : Settings) (number : ℕ) (bytes : List ℕ) (said : Saying) (ruling rules n : ℕ) (old new : Between S) (entries : List Entry) (Written : List ℕ → Type 0) → LineSays number bytes said → Makes shows settings said ruling rules old new → n ≡ length old.core.history → entries ≡ drop n new.core.history → Written (text entries) → ServesLine shows settings number bytes ruling rules old new Written
line_served shows settings number bytes said ruling rules n old new entries Written says m is cut w =
    let g = grown_all shows settings (map (ruled_by ruling) (calls_with said old.core.phase)) old new m.answers in
    let behind : entries ≡ g.gained = cut ∙ ap (λ (k : ℕ). drop k new.core.history) is ∙ ap (drop (length old.core.history)) g.is ∙ drop-append_seam old.core.history g.gained in
    record {
      said = said;
      says = says;
      makes = m;
      gained = g.gained;
      grown = g.is;
      wrote = subst (λ (es : List Entry). Written (text es)) behind w;
    }

-- ---- what is handed on

pub flushed : (a b c : Option (List ℕ)) (bytes : List ℕ) → Appends a b bytes → KnownKeeps b c → Appends a c bytes
flushed a b c bytes w k = appends_keeps a b c bytes w k

pub front_flushed : (a b c : Option (List ℕ)) (bytes : List ℕ) → Appends a b bytes → KnownKeeps b c → AppendsFront a c bytes
front_flushed a b c bytes w k = record { count = length bytes; within = omega arith; front = rw (take_all (length bytes) bytes (omega arith)) (appends_keeps a b c bytes w k) }

-- ---- the top

pub whole_of : (status : Status) (a b : Option (List ℕ)) (bytes : List ℕ) → WrittenBy status a b bytes → status ≢ statuses.WriteFault → Appends a b bytes
whole_of statuses.Done a b bytes w other = w
whole_of statuses.Usage a b bytes w other = w
whole_of (statuses.Script fault) a b bytes w other = w
whole_of (statuses.Limit which) a b bytes w other = w
whole_of statuses.Memory a b bytes w other = w
whole_of statuses.ReadFault a b bytes w other = w
whole_of statuses.WriteFault a b bytes w other = absurd (other refl)

pub front_of : (status : Status) (a b : Option (List ℕ)) (bytes : List ℕ) → WrittenBy status a b bytes → status ≡ statuses.WriteFault → AppendsFront a b bytes
front_of status a b bytes w e = subst (λ (s : Status). WrittenBy s a b bytes) e w

pub done_of : (status : Status) (P : Type 0) → IfDone status P → status ≡ statuses.Done → P
done_of status P d e = subst (λ (s : Status). IfDone s P) e d

pub done_not_write : (status : Status) → status ≡ statuses.Done → status ≢ statuses.WriteFault
done_not_write status d = λ w. let wrong : statuses.Done ≡ statuses.WriteFault = sym d ∙ w in cc

-- of all that the source told
pub runs_all : (left after : Option (List ℕ)) (P Q : Script → Type 0) → ServesAll left after P → ((script : Script) → P script → Q script) → Runs None left Q
runs_all left after P Q all f = of_told left all.bytes (λ (xs : List ℕ). Write xs Q) (told left after all.bytes all.taken) (weaker all.bytes P Q f all.script)

pub served_order : {S : Type 0} (shows : S → StoreShown) (settings : Settings) (first : ℕ) (old now : Between S) (left after : Option (List ℕ)) (status : Status) → IfDone status (ServesAll left after (IsServedTo shows settings first old now)) → status ≡ statuses.Done → Runs None left (IsInOrder now.core.history)
served_order shows settings first old now left after status d e = runs_all left after (IsServedTo shows settings first old now) (IsInOrder now.core.history) (done_of status (ServesAll left after (IsServedTo shows settings first old now)) d e) (λ script p. p.0)

pub served_calls : {S : Type 0} (shows : S → StoreShown) (settings : Settings) (first : ℕ) (old now : Between S) (left after : Option (List ℕ)) (status : Status) → IfDone status (ServesAll left after (IsServedTo shows settings first old now)) → status ≡ statuses.Done → Runs None left (HasAllCalls now.core.history)
served_calls shows settings first old now left after status d e = runs_all left after (IsServedTo shows settings first old now) (HasAllCalls now.core.history) (done_of status (ServesAll left after (IsServedTo shows settings first old now)) d e) (λ script p. all_calls now.core.history script p.0)

pub served_ruled : {S : Type 0} (shows : S → StoreShown) (settings wanted : Settings) (begun : Shown S) (store : S) (js judges ks : List Judging) (ruling first : ℕ) (core : Shown S) (left after : Option (List ℕ)) (status : Status) → settings ≡ wanted → begun ≡ fresh store → js ≡ judges → ruling ≡ first
    → IfDone status (ServesAll left after (IsServedTo shows settings ruling (between begun js) (between core ks))) → status ≡ statuses.Done → Runs None left (CallsUnder shows wanted store judges first core)
served_ruled shows settings wanted begun store js judges ks ruling first core left after status b s j r d e =
    runs_all left after (IsServedTo shows settings ruling (between begun js) (between core ks)) (CallsUnder shows wanted store judges first core) (done_of status (ServesAll left after (IsServedTo shows settings ruling (between begun js) (between core ks))) d e)
    (λ script p. calls_under shows settings wanted begun store js judges ruling first script.phases script core ks b s j r refl p.1)

-- over the store and under the judges that were handed in
pub serves_under : {S : Type 0} (shows : S → StoreShown) (settings wanted : Settings) (begun : Shown S) (store : S) (js judges : List Judging) (ruling first : ℕ) (core : Shown S) (left after : Option (List ℕ)) → settings ≡ wanted → begun ≡ fresh store → js ≡ judges → ruling ≡ first
    → Serves left after (λ script. IsInOrder core.history script × AnswersFirst shows settings (ruled_from ruling 1 script.phases) (between begun js) core.history) → Serves left after (λ script. IsInOrder core.history script × FirstCallsUnder shows wanted store judges first core script)
serves_under shows settings wanted begun store js judges ruling first core left after b s j r served = record {
  bytes = served.bytes;
  behind = served.behind;
  taken = served.taken;
  whole = served.whole;
  script = weaker served.bytes (λ script. IsInOrder core.history script × AnswersFirst shows settings (ruled_from ruling 1 script.phases) (between begun js) core.history) (λ script. IsInOrder core.history script × FirstCallsUnder shows wanted store judges first core script) (λ script p. (p.0, first_calls_under shows settings wanted begun store js judges ruling first script.phases script core b s j r refl p.1)) served.script;
}

-- ---- the words

pub service_accepted : (words : List (List ℕ)) → AskService words → AreAccepted words
service_accepted words s = record { items = s.ask.items; spelled = s.ask.spelled }

pub service_asked : (words : List (List ℕ)) (asked : Asked) → ((other : Asked) → Ask words other → other ≡ asked) → AskService words → (asked.threads ≡ false) × (asked.seed ≡ None)
service_asked words asked only s =
    let same : s.asked ≡ asked = only s.asked s.ask in
    (ap (λ (a : Asked). a.threads) (sym same) ∙ s.plain, ap (λ (a : Asked). a.seed) (sym same) ∙ s.read)

-- the status of words that are not for a service
abbrev pub Refuses : List (List ℕ) → Status → Type 0
Refuses words status = ((status ≡ statuses.Usage) × (AskService words → ⊥)) ⊎ (status ≡ statuses.Memory)

pub refuses_either : (words : List (List ℕ)) (status ended : Status) → ended ≡ status → Refuses words status → (ended ≡ statuses.Usage) ⊎ (ended ≡ statuses.Memory)
refuses_either words status ended same (inl u) = inl (same ∙ u.0)
refuses_either words status ended same (inr m) = inr (same ∙ m)

pub refuses_usage : (words : List (List ℕ)) (status ended : Status) → ended ≡ status → Refuses words status → ended ≡ statuses.Usage → AskService words → ⊥
refuses_usage words status ended same (inl u) e = u.1
refuses_usage words status ended same (inr m) e = let wrong : statuses.Memory ≡ statuses.Usage = sym (same ∙ m) ∙ e in absurd (cc)

-- no other status
pub refuses_no_other : (words : List (List ℕ)) (status ended other : Status) → ended ≡ status → Refuses words status → other ≢ statuses.Usage → other ≢ statuses.Memory → ended ≡ other → ⊥
refuses_no_other words status ended other same (inl u) a b e = a (sym e ∙ same ∙ u.0)
refuses_no_other words status ended other same (inr m) a b e = b (sym e ∙ same ∙ m)

pub not_accepted : (words : List (List ℕ)) (b : Bool) → (IsTrue b ↔ AreAccepted words) → b ≡ false → Refuses words statuses.Usage
not_accepted words true both refused = absurd (cc)
not_accepted words false both refused = inl (refl, λ s. let wrong : false ≡ true = both.1 (service_accepted words s) in cc)

pub not_service : (words : List (List ℕ)) (asked : Asked) (b : Bool) → (IsTrue b ↔ ((asked.threads ≡ false) × (asked.seed ≡ None))) → ((other : Asked) → Ask words other → other ≡ asked) → b ≡ false → Refuses words statuses.Usage
not_service words asked true both only refused = absurd (cc)
not_service words asked false both only refused = inl (refl, λ s. let wrong : false ≡ true = both.1 (service_asked words asked only s) in cc)

pub is_service : (words : List (List ℕ)) (asked : Asked) (b : Bool) → (IsTrue b ↔ ((asked.threads ≡ false) × (asked.seed ≡ None))) → Ask words asked → b ≡ true → AskService words
is_service words asked true both ask accepted = let alone = both.0 refl in record { asked = asked; ask = ask; plain = alone.0; read = alone.1 }
is_service words asked false both ask accepted = absurd (cc)
