-- Open cursors as the definitions have them.
use Rattle.std.proofs.Common.{◌≡◌, ℕ, ◌+◌, List, [], ◌∷◌, ◌++◌, ◌==◌, ◌&&◌, refl, ap, sym, subst, ◌∙◌, Bool, true, false, not, cond, filter, length, suc, zero, slice_get, slice_set, remove, bytes_eq, Some}
use Rattle.std.specs.List.{AllByRecursion, prefix_len, slice_index_or}
use Rattle.rv_value.proofs.Lists.{all_got, all_set}
use Rattle.rv_lang.specs.declared.reply.Refusal.{Refusal}
use Rattle.rv_lang.specs.declared.reply.Reply.{Reply}
use Rattle.rv_lang.specs.declared.reply.Reply.TheVariants.{Refused}
use Rattle.rv_reader.specs.Shown.{Shown}
use Rattle.rv_model.specs.declared.state.Cursor.{Cursor}
use Rattle.rv_model.specs.declared.state.Offer.{Offer}
use Rattle.rv_model.specs.Database.{cursor_at, cursor_named, no_cursor}
use Rattle.rv_model.specs.Step.{Offers, other_cursors, own_cursors}
use Rattle.rv_cursor.specs.declared.cursor.Open.{Open}
use Rattle.rv_cursor.specs.Left.{CursorFits, SameCursor, TakesOffer, left}
use Rattle.rv_catalog.specs.Schema.{Schema}
use Rattle.rv_model.specs.declared.transactions.Transaction.{Transaction}
use Rattle.rv_join.specs.declared.places.Asked.{Asked}
use Rattle.rv_join.specs.Asking.{indexes_from, item_at}
use Rattle.rv_core.specs.Db.{IsOpen, base_of, open_named, own_opens, seen, seen_of}
use Rattle.rv_core.proofs.Images.{map_remove}
use Rattle.rv_core.specs.Doing.{TakesAt}

pub length_seen : (shown : Shown) (cs : List Open) → length (seen shown cs) ≡ length cs
length_seen shown [] = refl
length_seen shown (c ∷ cs) = ap (λ n. suc n) (length_seen shown cs)

prefix_seen : (shown : Shown) (p : Cursor → Bool) (cs : List Open) → prefix_len (λ (c : Open). p (seen_of shown c)) cs ≡ prefix_len p (seen shown cs)
prefix_seen shown p [] = refl
prefix_seen shown p (c ∷ cs) =
    let rest = prefix_seen shown p cs in
    elim (p (seen_of shown c)) as (λ b. cond b (1 + prefix_len (λ (d : Open). p (seen_of shown d)) cs) 0 ≡ cond b (1 + prefix_len p (seen shown cs)) 0) [ true ↦ ap (λ n. 1 + n) rest | false ↦ refl ]

pub named_seen : (cs : List Open) (session : ℕ) (name : List ℕ) (shown : Shown) → open_named cs session name ≡ cursor_named (seen shown cs) session name
named_seen cs session name shown = rw (prefix_seen shown (λ (c : Cursor). not ((c.session == session) && bytes_eq c.name name)) cs, length_seen shown cs) refl

filter_seen : (shown : Shown) (p : Cursor → Bool) (cs : List Open) → seen shown (filter (λ (c : Open). p (seen_of shown c)) cs) ≡ filter p (seen shown cs)
filter_seen shown p [] = refl
filter_seen shown p (c ∷ cs) =
    let rest = filter_seen shown p cs in
    elim (p (seen_of shown c)) as (λ b. seen shown (cond b (c ∷ filter (λ (d : Open). p (seen_of shown d)) cs) (filter (λ (d : Open). p (seen_of shown d)) cs)) ≡ cond b (seen_of shown c ∷ filter p (seen shown cs)) (filter p (seen shown cs))) [ true ↦ ap (λ xs. seen_of shown c ∷ xs) rest | false ↦ rest ]

pub own_seen : (cs : List Open) (session : ℕ) (shown : Shown) → length (own_opens cs session) ≡ length (own_cursors (seen shown cs) session)
own_seen cs session shown = sym (length_seen shown (filter (λ (c : Open). c.session == session) cs)) ∙ ap (λ (xs : List Cursor). length xs) (filter_seen shown (λ (c : Cursor). c.session == session) cs)

pub others_seen : (shown : Shown) (cs : List Open) (session : ℕ) → seen shown (filter (λ (c : Open). not (c.session == session)) cs) ≡ other_cursors (seen shown cs) session
others_seen shown cs session = filter_seen shown (λ (c : Cursor). not (c.session == session)) cs

set_seen : (shown : Shown) (cs : List Open) (i : ℕ) (c : Open) → seen shown (slice_set cs i c) ≡ slice_set (seen shown cs) i (seen_of shown c)
set_seen shown [] i c = refl
set_seen shown (d ∷ ds) zero c = refl
set_seen shown (d ∷ ds) (suc i) c = ap (λ xs. seen_of shown d ∷ xs) (set_seen shown ds i c)

pub at_seen : (shown : Shown) (cs : List Open) (i : ℕ) (c : Open) → slice_get cs i ≡ Some c → cursor_at (seen shown cs) i ≡ seen_of shown c
at_seen shown [] i c h = cc
at_seen shown (d ∷ ds) zero c h = let e : d ≡ c = cc in ap (seen_of shown) e
at_seen shown (d ∷ ds) (suc i) c h = at_seen shown ds i c h

-- FETCH of the cursor in a place
pub takes_at : (shown : Shown) (cs : List Open) (place : ℕ) (c new : Open) (offers : List Offer) (replies : Reply × Reply) → slice_get cs place ≡ Some c → seen_of shown new ≡ record (seen_of shown c) { offers = offers } → TakesOffer (seen_of shown c).offers replies offers → TakesAt place (seen shown cs) replies (seen shown (slice_set cs place new))
takes_at shown cs place c new offers replies at same takes =
    let here = at_seen shown cs place c at in
    let set = set_seen shown cs place new in
    rw here (takes.0, takes.1, set ∙ ap (slice_set (seen shown cs) place) (same ∙ ap (λ (os : List Offer). record (seen_of shown c) { offers = os }) takes.2))

set_back : (cs : List Cursor) (i : ℕ) (d : Cursor) → slice_set cs i (slice_index_or cs i d) ≡ cs
set_back [] i d = refl
set_back (c ∷ cs) zero d = refl
set_back (c ∷ cs) (suc i) d = ap (λ xs. c ∷ xs) (set_back cs i d)

-- a cursor that is seen as before
pub leaves_at : (shown : Shown) (cs : List Open) (place : ℕ) (c new : Open) → slice_get cs place ≡ Some c → seen_of shown new ≡ seen_of shown c → seen shown (slice_set cs place new) ≡ seen shown cs
leaves_at shown cs place c new at same =
    let here = at_seen shown cs place c at in
    set_seen shown cs place new ∙ ap (slice_set (seen shown cs) place) (same ∙ sym here) ∙ set_back (seen shown cs) place no_cursor

pub pushed_seen : (shown : Shown) (cs more : List Open) (c : Open) → more ≡ cs ++ c ∷ [] → seen shown more ≡ seen shown cs ++ seen_of shown c ∷ []
pushed_seen shown cs more c e = ap (λ (xs : List Open). seen shown xs) e ∙ push cs
  where
    push : (ds : List Open) → seen shown (ds ++ c ∷ []) ≡ seen shown ds ++ seen_of shown c ∷ []
    push [] = refl
    push (d ∷ ds) = ap (λ xs. seen_of shown d ∷ xs) (push ds)

pub removed_seen : (shown : Shown) (cs : List Open) (i : ℕ) → seen shown (remove cs i) ≡ remove (seen shown cs) i
removed_seen shown cs i = map_remove (seen_of shown) cs i

-- a cursor that stays open, with what it was opened with
pub opens_at : (shown : Shown) (schema : Schema) (active : List Transaction) (cs : List Open) (place : ℕ) (c new : Open) → slice_get cs place ≡ Some c → CursorFits shown new → SameCursor c new → AllByRecursion (IsOpen shown schema active) cs → AllByRecursion (IsOpen shown schema active) (slice_set cs place new)
opens_at shown schema active cs place c new at fits same all =
    let was = all_got (IsOpen shown schema active) cs place c all at in
    all_set (IsOpen shown schema active) cs place new all (record {
      base = ap (λ (s : ℕ). base_of active s) same.session ∙ was.base ∙ ap (λ (n : ℕ). Some n) (sym same.snap);
      fits = fits;
      over = ap (λ (a : Asked). (item_at a 0).indexes) same.asked ∙ was.over ∙ ap (λ (a : Asked). indexes_from (item_at a 0).table 0 schema.indexes) (sym same.asked);
    })

-- what a cursor has left to offer, and what it was opened with, are all that is seen of it
pub same_seen : (shown : Shown) (c new : Open) (offers : List Offer) → SameCursor c new → left shown new ≡ offers → seen_of shown new ≡ record (seen_of shown c) { offers = offers }
same_seen shown c new offers same is =
    let session = same.session in
    let name = same.name in
    let table : (item_at new.plan.asked 0).table ≡ (item_at c.plan.asked 0).table = ap (λ (a : Asked). (item_at a 0).table) same.asked in
    cc

pub fetches_at : (shown : Shown) (cs : List Open) (place : ℕ) (c new : Open) (replies : Reply × Reply) → slice_get cs place ≡ Some c → SameCursor c new → TakesOffer (left shown c) replies (left shown new) → TakesAt place (seen shown cs) replies (seen shown (slice_set cs place new))
fetches_at shown cs place c new replies at same takes = takes_at shown cs place c new (left shown new) replies at (same_seen shown c new (left shown new) same refl) takes

pub same_at : (shown : Shown) (cs : List Open) (place : ℕ) (c new : Open) → slice_get cs place ≡ Some c → SameCursor c new → left shown new ≡ left shown c → seen shown (slice_set cs place new) ≡ seen shown cs
same_at shown cs place c new at same is = leaves_at shown cs place c new at (same_seen shown c new (left shown c) same is)

-- a row or the end is no refusal
pub offers_no_refusal : (offers : List Offer) (r : Reply) → Offers offers r → (refusal : Refusal) → ¬ (r ≡ Refused refusal)
offers_no_refusal offers r o refusal e = subst (Offers offers) e o

pub takes_no_refusal : (old : List Offer) (replies : Reply × Reply) (new : List Offer) → TakesOffer old replies new → (refusal : Refusal) → ¬ (replies.0 ≡ Refused refusal)
takes_no_refusal old replies new takes refusal = offers_no_refusal old replies.0 takes.1 refusal
