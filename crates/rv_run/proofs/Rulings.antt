-- Runs under judges: one more call, one run behind another, and places.
use Rattle.std.proofs.Common.{◌≡◌, ◌∙◌, ◌+◌, ◌<◌, ◌++◌, ◌∷◌, ℕ, List, [], refl, sym, ap, subst, map, Option, Some, None, slice_get, slice_set, append_assoc, append-nil, arith, unwrap_or, reverse, suc, zero, length, length-append, take, drop, Result, Ok, Err, OnOk, OnErr, option_to_list}
use Rattle.std.specs.List.{slice_index_or}
use Rattle.std.proofs.lemmas.List.{map-append, reverse-append}
use Rattle.std.proofs.Math.Seq.{drop-cons, take-append_seam}
use Rattle.rv_value.proofs.Places.{put_back, get_set}
use Rattle.rv_judge.specs.declared.judging.Facts.{Facts}
use Rattle.rv_judge.specs.Verdicts.{Ruling}
use Rattle.rv_value.specs.declared.duplicate.NoMemory.{NoMemory}
use Rattle.rv_lang.specs.declared.reply.Reply.{Reply}
use Rattle.rv_reader.specs.Shown.{Shown as StoreShown}
use Rattle.rv_script.specs.declared.scripts.Line.{Line}
use Rattle.rv_script.specs.declared.scripts.Phase.{Phase}
use Rattle.rv_script.specs.declared.scripts.Script.{Script}
use Rattle.rv_model.specs.declared.entry.Entry.{Entry}
use Rattle.rv_core.specs.declared.settings.Settings.{Settings}
use Rattle.rv_core.specs.Core.{Answers, Shown}
use Rattle.rv_core.specs.Obeying.{SeesSame, under}
use Rattle.rv_run.specs.Judges.{all_but, by_number, filled, ruling_after}
use Rattle.rv_run.specs.Ruling.{AnswersAll, AnswersFirst, AnswersUnder, Between, CallsUnder, FirstCallsUnder, Judging, RuledCall, between, fresh, in_phase, judging, ruled_by, ruled_from}
use Rattle.rv_run.specs.Making.{Anywhere, MakesCalls}
use Rattle.rv_run.specs.Script.{Call, call, calls_from, calls_in, calls_made}
use Rattle.rv_run.proofs.CallLists.{calls_in-append}

-- places

pub set_set : {X : Type 0} (xs : List X) (i : ℕ) (x y : X) → slice_set (slice_set xs i x) i y ≡ slice_set xs i y
set_set [] i x y = refl
set_set (z ∷ zs) zero x y = refl
set_set (z ∷ zs) (suc i) x y = ap (λ ws. z ∷ ws) (set_set zs i x y)

-- the judge that rules, among the judges by number
pub seated : {J : Type 0} (f : J → Judging) (a b c : Option J) (ruling : J) (number : ℕ) → number < 3 → filled a b c ≡ all_but number → slice_get (map f (by_number a b c ruling)) number ≡ Some (f ruling)
seated f None b c ruling zero h e = refl
seated f (Some j) b c ruling zero h e = absurd (cc)
seated f a None c ruling (suc zero) h e = refl
seated f a (Some j) c ruling (suc zero) h e = absurd (cc)
seated f a b None ruling (suc (suc zero)) h e = refl
seated f a b (Some j) ruling (suc (suc zero)) h e = absurd (cc)
seated f a b c ruling (suc (suc (suc n))) h e = absurd (omega arith)

seat_zero : {J : Type 0} (f : J → Judging) (a b c : Option J) (ruling new : J) → filled a b c ≡ all_but 0 → slice_set (map f (by_number a b c ruling)) 0 (f new) ≡ map f (by_number a b c new)
seat_zero f None (Some y) (Some z) ruling new e = refl
seat_zero f None (Some y) None ruling new e = absurd (cc)
seat_zero f None None c ruling new e = absurd (cc)
seat_zero f (Some x) b c ruling new e = absurd (cc)

seat_one : {J : Type 0} (f : J → Judging) (a b c : Option J) (ruling new : J) → filled a b c ≡ all_but 1 → slice_set (map f (by_number a b c ruling)) 1 (f new) ≡ map f (by_number a b c new)
seat_one f (Some x) None (Some z) ruling new e = refl
seat_one f (Some x) (Some y) c ruling new e = absurd (cc)
seat_one f (Some x) None None ruling new e = absurd (cc)
seat_one f None b c ruling new e = absurd (cc)

seat_two : {J : Type 0} (f : J → Judging) (a b c : Option J) (ruling new : J) → filled a b c ≡ all_but 2 → slice_set (map f (by_number a b c ruling)) 2 (f new) ≡ map f (by_number a b c new)
seat_two f (Some x) (Some y) None ruling new e = refl
seat_two f (Some x) (Some y) (Some z) ruling new e = absurd (cc)
seat_two f (Some x) None c ruling new e = absurd (cc)
seat_two f None b c ruling new e = absurd (cc)

pub seat_set : {J : Type 0} (f : J → Judging) (a b c : Option J) (ruling new : J) (number : ℕ) → number < 3 → filled a b c ≡ all_but number → slice_set (map f (by_number a b c ruling)) number (f new) ≡ map f (by_number a b c new)
seat_set f a b c ruling new zero h e = seat_zero f a b c ruling new e
seat_set f a b c ruling new (suc zero) h e = seat_one f a b c ruling new e
seat_set f a b c ruling new (suc (suc zero)) h e = seat_two f a b c ruling new e
seat_set f a b c ruling new (suc (suc (suc n))) h e = absurd (omega arith)

-- runs

-- where the next phase has begun since
pub all_later : {S : Type 0} (shows : S → StoreShown) (settings : Settings) (xs : List RuledCall) (old mid new : Between S) → AnswersAll shows settings xs old mid → new ≡ in_phase new.core.phase mid → AnswersAll shows settings xs old new
all_later shows settings [] old mid new a e = e ∙ ap (in_phase new.core.phase) a
all_later shows settings (x ∷ xs) old mid new a e = (a.0, a.1, all_later shows settings xs a.0 mid new a.2 e)

-- one run behind another
pub all_append : {S : Type 0} (shows : S → StoreShown) (settings : Settings) (xs ys : List RuledCall) (old mid new : Between S) → AnswersAll shows settings xs old mid → AnswersAll shows settings ys mid new → AnswersAll shows settings (xs ++ ys) old new
all_append shows settings [] ys old mid new a b = from_later shows settings ys old mid new a b
  where
    under_later : {S : Type 0} (shows : S → StoreShown) (settings : Settings) (y : RuledCall) (old mid new : Between S) → mid ≡ in_phase mid.core.phase old → AnswersUnder shows settings y mid new → AnswersUnder shows settings y old new
    under_later shows settings y old mid new e u =
        let core : (in_phase y.call.phase mid).core ≡ (in_phase y.call.phase old).core = ap (λ (b : Between _). (in_phase y.call.phase b).core) e in
        let store : mid.core.store ≡ old.core.store = ap (λ (b : Between _). b.core.store) e in
        let judges : mid.judges ≡ old.judges = ap (λ (b : Between _). b.judges) e in
        record { judge = u.judge; seated = rw (← judges) u.seated; reply = u.reply; stands = u.stands; answers = rw (← core, ← store) u.answers; others = rw (← judges) u.others; sees = rw (← store) u.sees }

    from_later : {S : Type 0} (shows : S → StoreShown) (settings : Settings) (ys : List RuledCall) (old mid new : Between S) → mid ≡ in_phase mid.core.phase old → AnswersAll shows settings ys mid new → AnswersAll shows settings ys old new
    from_later shows settings [] old mid new e b = b ∙ ap (in_phase new.core.phase) e
    from_later shows settings (y ∷ ys) old mid new e b = (b.0, under_later shows settings y old mid b.0 e b.1, b.2)
all_append shows settings (x ∷ xs) ys old mid new a b = (a.0, a.1, all_append shows settings xs ys a.0 mid new a.2 b)

-- the first calls, and with a run before them
pub first_behind : {S : Type 0} (shows : S → StoreShown) (settings : Settings) (xs ys all : List RuledCall) (old mid : Between S) (history : List Entry) → AnswersAll shows settings xs old mid → xs ++ ys ≡ all → AnswersFirst shows settings ys mid history → AnswersFirst shows settings all old history
first_behind shows settings xs ys all old mid history a whole first = record {
  made = xs ++ first.made;
  rest = first.rest;
  whole = sym whole ∙ ap (λ zs. xs ++ zs) first.whole ∙ sym (append_assoc xs first.made first.rest);
  end = first.end;
  answers = all_append shows settings xs first.made old mid first.end a first.answers;
  told = first.told;
}

-- calls under one judge, wherever it sits

pub call_ruled : {S : Type 0} (shows : S → StoreShown) (settings : Settings) (line : Line) (old new : Shown S) (would : ℕ → Facts → Ruling) (stood stands : ℕ) (reply : Reply) → Answers (under (shows old.store) would settings) stood stands old new line.session line.text reply → SeesSame (shows old.store) (shows new.store) new.opens → Anywhere (judging would stood) (judging would stands) (λ number js ks. AnswersUnder shows settings (ruled_by number (call line.session old.phase line.text)) (between old js) (between new ks))
call_ruled shows settings line old new would stood stands reply a sees = λ number js at. record { judge = judging would stood; seated = at; reply = reply; stands = stands; answers = a; others = refl; sees = sees }

pub none_ruled : {S : Type 0} (shows : S → StoreShown) (settings : Settings) (core : Shown S) (j : Judging) → Anywhere j j (λ number js ks. AnswersAll shows settings [] (between core js) (between core ks))
none_ruled shows settings core j = λ number js at. ap (between core) (put_back js number j at)

pub one_ruled_more : {S : Type 0} (shows : S → StoreShown) (settings : Settings) (xs : List Call) (x : Call) (old mid new : Shown S) (a b c : Judging) → Anywhere a b (λ number js ks. AnswersAll shows settings (map (ruled_by number) xs) (between old js) (between mid ks)) → Anywhere b c (λ number js ks. AnswersUnder shows settings (ruled_by number x) (between mid js) (between new ks)) → Anywhere a c (λ number js ks. AnswersAll shows settings (map (ruled_by number) (xs ++ x ∷ [])) (between old js) (between new ks))
one_ruled_more shows settings xs x old mid new a b c p q = λ number js at.
    let ks = slice_set js number b in
    let last : slice_set ks number c ≡ slice_set js number c = set_set js number b c in
    let next : AnswersUnder shows settings (ruled_by number x) (between mid ks) (between new (slice_set js number c)) = subst (λ ls. AnswersUnder shows settings (ruled_by number x) (between mid ks) (between new ls)) last (q number ks (get_set js number a b at)) in
    rw (map-append (ruled_by number) xs (x ∷ [])) (all_append shows settings (map (ruled_by number) xs) (ruled_by number x ∷ []) (between old js) (between mid ks) (between new (slice_set js number c)) (p number js at) (between new (slice_set js number c), next, refl))

-- Of a phase's lines these are left. The calls of the others were made, as the history tells, by one judge from where it
-- stood to where it stands.
pub record MadeTo {S : Type 0} (shows : S → StoreShown) (settings : Settings) (phase : ℕ) (all left : List Line) (old new : Shown S) (stood stands : Judging) : Type 0 where
  pub made : List Line
  pub whole : made ++ left ≡ all
  pub told : calls_made new.history ≡ calls_made old.history ++ calls_in phase made
  pub answers : Anywhere stood stands (λ number js ks. AnswersAll shows settings (map (ruled_by number) (calls_in phase made)) (between old js) (between new ks))

-- lines turned round, of which the last one is taken
pub next_turned : (rest taken left : List Line) (last : Option Line) (line : Line) → rest ≡ taken ++ option_to_list last → last ≡ Some line → left ≡ taken → reverse rest ≡ line ∷ reverse left
next_turned rest taken left last line popped is same =
    ap reverse (popped ∙ ap (λ (l : Option Line). taken ++ option_to_list l) is)
    ∙ reverse-append taken (line ∷ [])
    ∙ ap (λ (ls : List Line). line ∷ reverse ls) (sym same)

pub none_made : {S : Type 0} (shows : S → StoreShown) (settings : Settings) (phase : ℕ) (all left : List Line) (core : Shown S) (j : Judging) → left ≡ all → MadeTo shows settings phase all left core core j j
none_made shows settings phase all left core j whole = record { made = []; whole = whole; told = sym (append-nil (calls_made core.history)); answers = none_ruled shows settings core j }

-- and the call of the next line
pub made_more : {S : Type 0} (shows : S → StoreShown) (b0 b : Settings) (p0 p : ℕ) (all rest left : List Line) (line : Line) (old mid new : Shown S) (w0 w : ℕ → Facts → Ruling) (s0 s t : ℕ) → b ≡ b0 → p ≡ p0 → w ≡ w0 → rest ≡ line ∷ left → MadeTo shows b0 p0 all rest old mid (judging w0 s0) (judging w0 s)
    → calls_made new.history ≡ calls_made mid.history ++ calls_in p (line ∷ [])
    → Anywhere (judging w s) (judging w t) (λ number js ks. AnswersUnder shows b (ruled_by number (call line.session p line.text)) (between mid js) (between new ks))
    → MadeTo shows b0 p0 all left old new (judging w0 s0) (judging w0 t)
made_more shows b0 b p0 p all rest left line old mid new w0 w s0 s t be pe we next m told ruled =
    let grown : calls_in p0 (m.made ++ line ∷ []) ≡ calls_in p0 m.made ++ call line.session p0 line.text ∷ [] = calls_in-append p0 m.made (line ∷ []) in
    record {
      made = m.made ++ line ∷ [];
      whole = append_assoc m.made (line ∷ []) left ∙ ap (λ (ls : List Line). m.made ++ ls) (sym next) ∙ m.whole;
      told =
          told
          ∙ ap (λ (k : ℕ). calls_made mid.history ++ calls_in k (line ∷ [])) pe
          ∙ ap (λ (cs : List Call). cs ++ calls_in p0 (line ∷ [])) m.told
          ∙ append_assoc (calls_made old.history) (calls_in p0 m.made) (calls_in p0 (line ∷ []))
          ∙ ap (λ (cs : List Call). calls_made old.history ++ cs) (sym grown);
      answers = subst (λ (cs : List Call). Anywhere (judging w0 s0) (judging w0 t) (λ number js ks. AnswersAll shows b0 (map (ruled_by number) cs) (between old js) (between new ks))) (sym grown) (one_ruled_more shows b0 (calls_in p0 m.made) (call line.session p0 line.text) old mid new (judging w0 s0) (judging w0 s) (judging w0 t) m.answers (rw (be, pe, we) at ruled));
    }

-- a phase that ends before the lines left
pub made_stops : {S : Type 0} (shows : S → StoreShown) (settings : Settings) (phase : ℕ) (all left : List Line) (old mid : Shown S) (a b : Judging) (new : Shown S) (after : Judging) → new.history ≡ mid.history → MadeTo shows settings phase all left old mid a b → Anywhere a after (λ number js ks. AnswersFirst shows settings (map (ruled_by number) (calls_in phase all)) (between old js) new.history)
made_stops shows settings phase all left old mid a b new after same m = λ number js at. record {
  made = map (ruled_by number) (calls_in phase m.made);
  rest = map (ruled_by number) (calls_in phase left);
  whole = ap (λ (ls : List Line). map (ruled_by number) (calls_in phase ls)) (sym m.whole) ∙ ap (map (ruled_by number)) (calls_in-append phase m.made left) ∙ map-append (ruled_by number) (calls_in phase m.made) (calls_in phase left);
  end = between mid (slice_set js number b);
  answers = m.answers number js at;
  told = same;
}

-- what the history tells of a phase, wherever it ended
pub made_part : {S : Type 0} (shows : S → StoreShown) (settings : Settings) (phase : ℕ) (all left : List Line) (old mid : Shown S) (a b : Judging) (history : List Entry) → history ≡ mid.history → MadeTo shows settings phase all left old mid a b → MakesCalls old.history history phase all
made_part shows settings phase all left old mid a b history same m =
    let first : take (length m.made) all ≡ m.made = ap (take (length m.made)) (sym m.whole) ∙ take-append_seam m.made left in
    record {
      count = length m.made;
      within = let size = length-append m.made left in let sum = ap (λ (ls : List Line). length ls) m.whole in omega (arith, size, sum);
      gained = ap calls_made same ∙ m.told ∙ ap (λ (ls : List Line). calls_made old.history ++ calls_in phase ls) (sym first);
    }

-- a phase to its end
all_made : {S : Type 0} (shows : S → StoreShown) (settings : Settings) (phase : ℕ) (all left : List Line) (old new : Shown S) (a b : Judging) → left ≡ [] → (m : MadeTo shows settings phase all left old new a b) → m.made ≡ all
all_made shows settings phase all left old new a b none m = sym (append-nil m.made) ∙ ap (λ (ls : List Line). m.made ++ ls) (sym none) ∙ m.whole

pub made_told : {S : Type 0} (shows : S → StoreShown) (settings : Settings) (phase : ℕ) (all left : List Line) (old new : Shown S) (a b : Judging) → left ≡ [] → MadeTo shows settings phase all left old new a b → calls_made new.history ≡ calls_made old.history ++ calls_in phase all
made_told shows settings phase all left old new a b none m = m.told ∙ ap (λ (ls : List Line). calls_made old.history ++ calls_in phase ls) (all_made shows settings phase all left old new a b none m)

pub made_answers : {S : Type 0} (shows : S → StoreShown) (settings : Settings) (phase : ℕ) (all left : List Line) (old new : Shown S) (a b : Judging) → left ≡ [] → MadeTo shows settings phase all left old new a b → Anywhere a b (λ number js ks. AnswersAll shows settings (map (ruled_by number) (calls_in phase all)) (between old js) (between new ks))
made_answers shows settings phase all left old new a b none m = subst (λ (ls : List Line). Anywhere a b (λ number js ks. AnswersAll shows settings (map (ruled_by number) (calls_in phase ls)) (between old js) (between new ks))) (all_made shows settings phase all left old new a b none m) m.answers

-- phases

-- of all calls these are left
pub record AnswersTo {S : Type 0} (shows : S → StoreShown) (settings : Settings) (all left : List RuledCall) (old new : Between S) : Type 0 where
  pub made : List RuledCall
  pub whole : made ++ left ≡ all
  pub answers : AnswersAll shows settings made old new

pub begins : {S : Type 0} (shows : S → StoreShown) (settings : Settings) (all left : List RuledCall) (b : Between S) → left ≡ all → AnswersTo shows settings all left b b
begins shows settings all left b whole = record { made = []; whole = whole; answers = refl }

pub ends : {S : Type 0} (shows : S → StoreShown) (settings : Settings) (all left : List RuledCall) (old new : Between S) → left ≡ [] → AnswersTo shows settings all left old new → AnswersAll shows settings all old new
ends shows settings all left old new none t =
    let made : t.made ≡ all = sym (append-nil t.made) ∙ ap (λ xs. t.made ++ xs) (sym none) ∙ t.whole in
    subst (λ xs. AnswersAll shows settings xs old new) made t.answers

pub goes_on : {S : Type 0} (shows : S → StoreShown) (settings : Settings) (all mine more : List RuledCall) (old mid entered new : Between S) → AnswersTo shows settings all (mine ++ more) old mid → entered ≡ in_phase entered.core.phase mid → AnswersAll shows settings mine entered new → AnswersTo shows settings all more old new
goes_on shows settings all mine more old mid entered new t e a = record {
  made = t.made ++ mine;
  whole = append_assoc t.made mine more ∙ t.whole;
  answers = all_append shows settings t.made mine old entered new (all_later shows settings t.made old mid entered t.answers e) a;
}

pub stops : {S : Type 0} (shows : S → StoreShown) (settings : Settings) (all mine more : List RuledCall) (old mid entered : Between S) (history : List Entry) → AnswersTo shows settings all (mine ++ more) old mid → entered ≡ in_phase entered.core.phase mid → AnswersFirst shows settings mine entered history → AnswersFirst shows settings all old history
stops shows settings all mine more old mid entered history t e first =
    first_behind shows settings t.made (mine ++ more) all old entered history (all_later shows settings t.made old mid entered t.answers e) t.whole (record {
      made = first.made;
      rest = first.rest ++ more;
      whole = ap (λ xs. xs ++ more) first.whole ∙ append_assoc first.made first.rest more;
      end = first.end;
      answers = first.answers;
      told = first.told;
    })

-- the judge that rules has moved, and no other
pub seat_moved : {J : Type 0} (w : J → ℕ → Facts → Ruling) (s : J → ℕ) (a b c : Option J) (old new : J) (number : ℕ) → number < 3 → filled a b c ≡ all_but number → w new ≡ w old → slice_set (map (λ j. judging (w j) (s j)) (by_number a b c old)) number (judging (w old) (s new)) ≡ map (λ j. judging (w j) (s j)) (by_number a b c new)
seat_moved w s a b c old new number h e same = subst (λ v. slice_set (map (λ j. judging (w j) (s j)) (by_number a b c old)) number (judging v (s new)) ≡ map (λ j. judging (w j) (s j)) (by_number a b c new)) same (seat_set (λ j. judging (w j) (s j)) a b c old new number h e)

-- the calls left before a phase
pub left_from : (ruling n : ℕ) (rest left : List Phase) (p : Phase) (lines : List Line) (next : ℕ) → rest ≡ p ∷ left → lines ≡ p.lines → next ≡ unwrap_or p.judge ruling → ruled_from ruling n rest ≡ map (ruled_by next) (calls_in n lines) ++ ruled_from next (n + 1) left
left_from ruling n rest left p lines next split same named = rw (same, named) (ap (ruled_from ruling n) split)

-- a phase more
pub phases_more : {S J : Type 0} (shows : S → StoreShown) (b0 b : Settings) (w : J → ℕ → Facts → Ruling) (s : J → ℕ) (all : List RuledCall) (ruling n : ℕ) (rest left : List Phase) (p : Phase) (lines : List Line) (next : ℕ) (start : Between S) (core entered new : Shown S) (js : List Judging) (j0 j1 j2 : Option J) (before after : J)
    → AnswersTo shows b0 all (ruled_from ruling n rest) start (between core js) → rest ≡ p ∷ left → lines ≡ p.lines → next ≡ unwrap_or p.judge ruling → entered ≡ record core { phase = n } → map (λ j. judging (w j) (s j)) (by_number j0 j1 j2 before) ≡ js → next < 3 → filled j0 j1 j2 ≡ all_but next → b ≡ b0 → w after ≡ w before
    → Anywhere (judging (w before) (s before)) (judging (w before) (s after)) (λ number old later. AnswersAll shows b (map (ruled_by number) (calls_in entered.phase lines)) (between entered old) (between new later))
    → AnswersTo shows b0 all (ruled_from next (n + 1) left) start (between new (map (λ j. judging (w j) (s j)) (by_number j0 j1 j2 after)))
phases_more {S = S} shows b0 b w s all ruling n rest left p lines next start core entered new js j0 j1 j2 before after t split same named gone seats known apart be rules made =
    let mine = map (ruled_by next) (calls_in n lines) in
    let more = ruled_from next (n + 1) left in
    let due : AnswersTo shows b0 all (mine ++ more) start (between core js) = subst (λ xs. AnswersTo shows b0 all xs start (between core js)) (left_from ruling n rest left p lines next split same named) t in
    let at : slice_get js next ≡ Some (judging (w before) (s before)) = subst (λ ks. slice_get ks next ≡ Some (judging (w before) (s before))) seats (seated (λ j. judging (w j) (s j)) j0 j1 j2 before next known apart) in
    let phase : entered.phase ≡ n = ap (λ (c : Shown S). c.phase) gone in
    let set : slice_set js next (judging (w before) (s after)) ≡ map (λ j. judging (w j) (s j)) (by_number j0 j1 j2 after) = subst (λ ks. slice_set ks next (judging (w before) (s after)) ≡ map (λ j. judging (w j) (s j)) (by_number j0 j1 j2 after)) seats (seat_moved w s j0 j1 j2 before after next known apart rules) in
    let mine_made : AnswersAll shows b0 mine (between entered js) (between new (map (λ j. judging (w j) (s j)) (by_number j0 j1 j2 after))) = subst (λ k. AnswersAll shows b0 (map (ruled_by next) (calls_in k lines)) (between entered js) (between new (map (λ j. judging (w j) (s j)) (by_number j0 j1 j2 after)))) phase (rw (set, be) at (made next js at)) in
    let begun : between entered js ≡ in_phase entered.phase (between core js) = ap (λ (c : Shown S). between c js) gone ∙ ap (λ k. in_phase k (between core js)) (sym phase) in
    goes_on shows b0 all mine more start (between core js) (between entered js) (between new (map (λ j. judging (w j) (s j)) (by_number j0 j1 j2 after))) due begun mine_made

-- a phase that stops
pub phases_stop : {S J : Type 0} (shows : S → StoreShown) (b0 b : Settings) (w : J → ℕ → Facts → Ruling) (s : J → ℕ) (all : List RuledCall) (ruling n : ℕ) (rest left : List Phase) (p : Phase) (lines : List Line) (next : ℕ) (start : Between S) (core entered new : Shown S) (js : List Judging) (j0 j1 j2 : Option J) (before after : J)
    → AnswersTo shows b0 all (ruled_from ruling n rest) start (between core js) → rest ≡ p ∷ left → lines ≡ p.lines → next ≡ unwrap_or p.judge ruling → entered ≡ record core { phase = n } → map (λ j. judging (w j) (s j)) (by_number j0 j1 j2 before) ≡ js → next < 3 → filled j0 j1 j2 ≡ all_but next → b ≡ b0
    → Anywhere (judging (w before) (s before)) (judging (w before) (s after)) (λ number old later. AnswersFirst shows b (map (ruled_by number) (calls_in entered.phase lines)) (between entered old) new.history)
    → AnswersFirst shows b0 all start new.history
phases_stop {S = S} shows b0 b w s all ruling n rest left p lines next start core entered new js j0 j1 j2 before after t split same named gone seats known apart be made =
    let mine = map (ruled_by next) (calls_in n lines) in
    let more = ruled_from next (n + 1) left in
    let due : AnswersTo shows b0 all (mine ++ more) start (between core js) = subst (λ xs. AnswersTo shows b0 all xs start (between core js)) (left_from ruling n rest left p lines next split same named) t in
    let at : slice_get js next ≡ Some (judging (w before) (s before)) = subst (λ ks. slice_get ks next ≡ Some (judging (w before) (s before))) seats (seated (λ j. judging (w j) (s j)) j0 j1 j2 before next known apart) in
    let phase : entered.phase ≡ n = ap (λ (c : Shown S). c.phase) gone in
    let mine_made : AnswersFirst shows b0 mine (between entered js) new.history = subst (λ k. AnswersFirst shows b0 (map (ruled_by next) (calls_in k lines)) (between entered js) new.history) phase (rw be at (made next js at)) in
    let begun : between entered js ≡ in_phase entered.phase (between core js) = ap (λ (c : Shown S). between c js) gone ∙ ap (λ k. in_phase k (between core js)) (sym phase) in
    stops shows b0 all mine more start (between core js) (between entered js) new.history due begun mine_made

-- the calls that the history tells, up to a phase
pub told_none : (h : List Entry) (rest phases : List Phase) → h ≡ [] → rest ≡ phases → calls_made h ++ calls_from 1 rest ≡ calls_from 1 phases
told_none h rest phases none whole = ap (λ (es : List Entry). calls_made es ++ calls_from 1 rest) none ∙ ap (calls_from 1) whole

pub told_phase : {S : Type 0} (core entered : Shown S) (m : List Entry) (n : ℕ) (rest left : List Phase) (p : Phase) (lines : List Line) (all : List Call) → rest ≡ p ∷ left → lines ≡ p.lines → entered ≡ record core { phase = n } → calls_made core.history ++ calls_from n rest ≡ all → calls_made m ≡ calls_made entered.history ++ calls_in entered.phase lines → calls_made m ++ calls_from (n + 1) left ≡ all
told_phase {S = S} core entered m n rest left p lines all split same gone before next =
    let history : entered.history ≡ core.history = ap (λ (c : Shown S). c.history) gone in
    let phase : entered.phase ≡ n = ap (λ (c : Shown S). c.phase) gone in
    let mine : calls_made m ≡ calls_made core.history ++ calls_in n p.lines = next ∙ ap (λ h. calls_made h ++ calls_in entered.phase lines) history ∙ ap (λ k. calls_made core.history ++ calls_in k lines) phase ∙ ap (λ ls. calls_made core.history ++ calls_in n ls) same in
    ap (λ cs. cs ++ calls_from (n + 1) left) mine
    ∙ append_assoc (calls_made core.history) (calls_in n p.lines) (calls_from (n + 1) left)
    ∙ ap (λ ps. calls_made core.history ++ calls_from n ps) (sym split)
    ∙ before

pub told_all : (h : List Entry) (n : ℕ) (left : List Phase) (all : List Call) → left ≡ [] → calls_made h ++ calls_from n left ≡ all → calls_made h ≡ all
told_all h n left all none before = sym (append-nil (calls_made h)) ∙ ap (λ ps. calls_made h ++ calls_from n ps) (sym none) ∙ before

pub ruling_more : (ruling next last : ℕ) (rest left : List Phase) (p : Phase) → rest ≡ p ∷ left → next ≡ unwrap_or p.judge ruling → ruling_after ruling rest ≡ last → ruling_after next left ≡ last
ruling_more ruling next last rest left p split named before = ap (λ n. ruling_after n left) named ∙ ap (ruling_after ruling) (sym split) ∙ before

-- the phases from a place on
pub phase_here : (phases : List Phase) (i : ℕ) (p : Phase) → i < length phases → p ≡ slice_index_or phases i p → drop i phases ≡ p ∷ drop (i + 1) phases
phase_here phases i p within is =
    let at : suc i ≡ i + 1 = omega arith in
    drop-cons phases i p within ∙ ap (λ (q : Phase). q ∷ drop (suc i) phases) (sym is) ∙ ap (λ (k : ℕ). p ∷ drop k phases) at

-- whole runs

pub calls_under : {S : Type 0} (shows : S → StoreShown) (settings wanted : Settings) (begun : Shown S) (store : S) (js judges : List Judging) (ruling first : ℕ) (phases : List Phase) (script : Script) (core : Shown S) (stand : List Judging) → settings ≡ wanted → begun ≡ fresh store → js ≡ judges → ruling ≡ first → phases ≡ script.phases → AnswersAll shows settings (ruled_from ruling 1 phases) (between begun js) (between core stand) → CallsUnder shows wanted store judges first core script
calls_under shows settings wanted begun store js judges ruling first phases script core stand b s j r p a = record { stand = stand; answers = rw (b, s, j, r, p) at a }

pub first_calls_under : {S : Type 0} (shows : S → StoreShown) (settings wanted : Settings) (begun : Shown S) (store : S) (js judges : List Judging) (ruling first : ℕ) (phases : List Phase) (script : Script) (core : Shown S) → settings ≡ wanted → begun ≡ fresh store → js ≡ judges → ruling ≡ first → phases ≡ script.phases → AnswersFirst shows settings (ruled_from ruling 1 phases) (between begun js) core.history → FirstCallsUnder shows wanted store judges first core script
first_calls_under shows settings wanted begun store js judges ruling first phases script core b s j r p a = rw (b, s, j, r, p) at a

-- however the calls ended
pub first_either : {S : Type 0} (shows : S → StoreShown) (settings : Settings) (all : List RuledCall) (old new : Between S) (r : Result (Unit {0}) NoMemory) → OnOk r (AnswersAll shows settings all old new) → OnErr r (AnswersFirst shows settings all old new.core.history) → AnswersFirst shows settings all old new.core.history
first_either shows settings all old new (Ok u) a f = record { made = all; rest = []; whole = sym (append-nil all); end = new; answers = a; told = refl }
first_either shows settings all old new (Err e) a f = f
