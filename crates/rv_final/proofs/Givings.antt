-- What holds of every answer of a give, for states of any kind: of races and of unions.
use Rattle.std.proofs.Common.{◌≡◌, ℕ, ◌≤◌, ap, sym, ◌∙◌, arith, subst, Option, Result, Ok, Err, IfOk, OnErr}
use Rattle.rv_jscan.specs.declared.jscan.Given.{Given}
use Rattle.rv_jscan.specs.declared.jscan.Given.TheVariants.{Accepted, Stale}
use Rattle.rv_jscan.specs.declared.piece.PieceId.{PieceId}
use Rattle.rv_final.specs.LaneWork.{GiveSpends}

-- What an accepted piece keeps is kept, whatever is answered: a stale piece and want of memory change nothing. `A` and
-- `G` say what is answered and what is done.
pub given_holds : {S E : Type 0} (r : Result Given E) (A G : Given → Type 0) (P : S → Type 0) (old new : S) → (A Accepted → G Accepted → P new) → ((asked : PieceId) (now : Option PieceId) → G (Stale asked now) → new ≡ old) → IfOk r A → IfOk r G → OnErr r (new ≡ old) → P old → P new
given_holds (Ok Accepted) A G P old new obeyed stale a o e h = obeyed a o
given_holds (Ok (Stale asked now)) A G P old new obeyed stale a o e h = subst P (sym (stale asked now o)) h
given_holds (Err x) A G P old new obeyed stale a o e h = subst P (sym e) h

-- a piece that cannot be stale was accepted
pub was_accepted : (A G : Given → Type 0) (g : Given) → ((asked : PieceId) (now : Option PieceId) → A (Stale asked now) → ⊥) → A g → G g → A Accepted × G Accepted
was_accepted A G Accepted never a o = (a, o)
was_accepted A G (Stale asked now) never a o = absurd (never asked now a)

-- a give raises no effort
spends_less : (g : Given) (old new : ℕ) → GiveSpends g old new → new ≤ old
spends_less Accepted old new s = omega arith
spends_less (Stale asked now) old new s = omega arith

pub spends_no_more : {E : Type 0} (r : Result Given E) (old new : ℕ) → IfOk r (λ g. GiveSpends g old new) → OnErr r (new ≡ old) → new ≤ old
spends_no_more (Ok g) old new s e = spends_less g old new s
spends_no_more (Err x) old new s e = let same : new ≡ old = e in omega arith

-- what a part was put into is the whole that it was, where want of memory left the part
pub put_if : {T E A B : Type 0} (x : Result T E) (put : A → B) (new old : A) (whole : B) → put old ≡ whole → OnErr x (new ≡ old) → OnErr x (put new ≡ whole)
put_if (Ok y) put new old whole is e = tt
put_if (Err y) put new old whole is e = ap put e ∙ is

-- what stands on the right of an equation
abbrev pub right_of : {A : Type 0} {x y : A} → x ≡ y → A
right_of {A} {x} {y} p = y
