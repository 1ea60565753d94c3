-- Lines, cut where the first line feed is.
use Rattle.std.proofs.Common.{◌≡◌, ◌≤◌, ◌<◌, ◌+◌, ◌++◌, ◌∷◌, ◌==◌, ℕ, List, [], Bool, Option, Some, None, cond, refl, sym, ap, ◌∙◌, subst, append_assoc, append-nil, true, false, inl, inr, suc, arith, length, one-add, position, take, nat_lt}
use Rattle.std.specs.Io.KnownBytes.{Consumes}
use Rattle.std.specs.List.{position_or_len}
use Rattle.std.proofs.lemmas.Bool.{cases_Bool, eqb-true, ltb-false, ltb-true}
use Rattle.std.proofs.lemmas.List.{nil_from_length, take_all}
use Rattle.rv_io.proofs.Streams.{consumes_more, consumes_none}
use Rattle.rv_io.specs.Lines.{HasNoFeed, IsLine, TakesLine, TakesLongLine, TakesSome}
use Rattle.rv_io.specs.Pieces.{TakesPiece, TakesUpTo}

abbrev feed : ℕ → Bool
feed = λ (b : ℕ). b == 10

-- no line feed stands before the first one
free_front : (bytes : List ℕ) → HasNoFeed (take (position_or_len feed bytes) bytes)
free_front [] = tt
free_front (b ∷ bs) = elim (cases_Bool (b == 10)) [
  | inl t ↦ rw t tt
  | inr f ↦ rw (f, one-add (position_or_len feed bs)) (f, free_front bs)
]

fed_at : (bytes : List ℕ) → position_or_len feed bytes < length bytes → take (position_or_len feed bytes + 1) bytes ≡ take (position_or_len feed bytes) bytes ++ 10 ∷ []
fed_at [] less = absurd (omega arith)
fed_at (b ∷ bs) less = elim (cases_Bool (b == 10)) [
  | inl t ↦ rw t (ap (λ (c : ℕ). c ∷ []) (eqb-true b 10 t))
  | inr f ↦
      let n = position_or_len feed bs in
      let next : 1 + n + 1 ≡ suc (n + 1) = omega arith in
      let within : n < length bs = let here = rw f at less in omega (arith, here) in
      rw (f, next, one-add n) (ap (λ (cs : List ℕ). b ∷ cs) (fed_at bs within))
]

record FoundAt (bytes : List ℕ) (at : ℕ) : Type 0 where
  is : position_or_len feed bytes ≡ at
  within : position_or_len feed bytes < length bytes

found : (bytes : List ℕ) (at : ℕ) (b : Bool) → nat_lt (position_or_len feed bytes) (length bytes) ≡ b → ◌≡◌ {A = Option ℕ} (cond b (Some (position_or_len feed bytes)) None) (Some at) → FoundAt bytes at
found bytes at true less e = record { is = let same : position_or_len feed bytes ≡ at = cc in same; within = ltb-true (position_or_len feed bytes) (length bytes) less }
found bytes at false less e = absurd (cc)

missing : (bytes : List ℕ) (b : Bool) → nat_lt (position_or_len feed bytes) (length bytes) ≡ b → ◌≡◌ {A = Option ℕ} (cond b (Some (position_or_len feed bytes)) None) None → length bytes ≤ position_or_len feed bytes
missing bytes true less e = absurd (cc)
missing bytes false less e = ltb-false (position_or_len feed bytes) (length bytes) less

-- the bytes up to the first line feed, and with it, are a line
pub line_to : (bytes : List ℕ) (at : ℕ) → position feed bytes ≡ Some at → IsLine (take (at + 1) bytes) true
line_to bytes at e =
    let f = found bytes at (nat_lt (position_or_len feed bytes) (length bytes)) refl e in
    subst (λ (n : ℕ). IsLine (take (n + 1) bytes) true) f.is (record { front = take (position_or_len feed bytes) bytes; free = free_front bytes; is = fed_at bytes f.within })

-- where none was found there is none
pub none_found : (bytes : List ℕ) → position feed bytes ≡ None → HasNoFeed bytes
none_found bytes e =
    let past = missing bytes (nat_lt (position_or_len feed bytes) (length bytes)) refl e in
    subst HasNoFeed (take_all (position_or_len feed bytes) bytes past) (free_front bytes)

-- what is left without a line feed is the last line
pub last_line : (bytes : List ℕ) → HasNoFeed bytes → IsLine bytes false
last_line bytes free = record { front = bytes; free = free; is = sym (append-nil bytes) }

-- pieces

pub begins : (a : Option (List ℕ)) (bytes : List ℕ) → TakesLine a a bytes bytes []
begins a bytes = record { piece = []; taken = consumes_none a; whole = append-nil bytes }

pub piece_more : (a b c : Option (List ℕ)) (before mid after piece : List ℕ) → TakesLine a b before mid [] → Consumes b c piece → after ≡ mid ++ piece → TakesLine a c before after []
piece_more a b c before mid after piece t more gained = record {
  piece = t.piece ++ piece;
  taken = consumes_more a b c t.piece piece t.taken more;
  whole = sym (append_assoc before t.piece piece) ∙ ap (λ (bs : List ℕ). bs ++ piece) t.whole ∙ sym gained;
}

pub cut_off : (a b : Option (List ℕ)) (before mid after line : List ℕ) → TakesLine a b before mid [] → mid ≡ line ++ after → TakesLine a b before after line
cut_off a b before mid after line t cut = record { piece = t.piece; taken = t.taken; whole = t.whole ∙ cut }

pub some_taken : (a b : Option (List ℕ)) (before mid : List ℕ) → TakesLine a b before mid [] → TakesSome a b
some_taken a b before mid t = record { piece = t.piece; taken = t.taken }

pub some_more : (a b c : Option (List ℕ)) (before mid : List ℕ) (most : ℕ) → TakesLine a b before mid [] → TakesUpTo b c most → TakesSome a c
some_more a b c before mid most t more = record { piece = t.piece ++ more.bytes; taken = consumes_more a b c t.piece more.bytes t.taken more.taken }

pub long_line : (a b : Option (List ℕ)) (before mid : List ℕ) (most : ℕ) → TakesLine a b before mid [] → position feed mid ≡ None → most < length mid → TakesLongLine a b before most
long_line a b before mid most t none long = record { piece = t.piece; taken = t.taken; free = subst HasNoFeed (sym t.whole) (none_found mid none); long = subst (λ (bs : List ℕ). most < length bs) (sym t.whole) long }

-- an empty piece adds nothing
pub nothing_more : (a b : Option (List ℕ)) (before now : List ℕ) (n : ℕ) → TakesPiece a b before now n → n ≡ 0 → now ≡ before
nothing_more a b before now n t none = t.gained ∙ ap (λ (bs : List ℕ). before ++ bs) (nil_from_length t.piece (t.count ∙ none)) ∙ append-nil before
