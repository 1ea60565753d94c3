-- The byte order mark, as std finds it.
use Rattle.std.proofs.Common.{◌≡◌, ℕ, List, [], ◌∷◌, ◌++◌, Bool, true, false, ◌&&◌, nat_eq, refl, sym, ap, ◌∙◌, drop}
use Rattle.std.specs.Prelude.{◌≢◌}
use Rattle.std.specs.Char.{encode_utf8}
use Rattle.std.specs.Str.Pattern.{HasCharAt}
use Rattle.std.proofs.lemmas.Bool.{eqb-true}
use Rattle.rv_script.specs.Script.{without_byte_order_mark}

pub mark_some : (bs rest : List ℕ) (n : ℕ) → HasCharAt 0xFEFF bs 0 n → rest ≡ drop n bs → rest ≡ without_byte_order_mark bs
unfolding encode_utf8
mark_some bs rest n at e = let f : bs ≡ 0xEF ∷ 0xBB ∷ 0xBF ∷ drop n bs = at.split in e ∙ sym (ap without_byte_order_mark f)

not_mark : (a b c : ℕ) (bs : List ℕ) (x y z : Bool) → (x ≡ true → a ≡ 0xEF) → (y ≡ true → b ≡ 0xBB) → (z ≡ true → c ≡ 0xBF) → a ∷ b ∷ c ∷ bs ≢ 0xEF ∷ 0xBB ∷ 0xBF ∷ bs → (x && (y && z)) ≡ false
not_mark a b c bs true true true p q r no_mark = absurd (no_mark (let e = p refl in let f = q refl in let g = r refl in cc))
not_mark a b c bs true true false p q r no_mark = refl
not_mark a b c bs true false z p q r no_mark = refl
not_mark a b c bs false y z p q r no_mark = refl

pub mark_none : (bs : List ℕ) → ((rest : List ℕ) → bs ≢ encode_utf8 0xFEFF ++ rest) → bs ≡ without_byte_order_mark bs
unfolding encode_utf8
mark_none [] no_mark = refl
mark_none (a ∷ []) no_mark = refl
mark_none (a ∷ b ∷ []) no_mark = refl
mark_none (a ∷ b ∷ c ∷ bs) no_mark = rw (not_mark a b c bs (nat_eq a 0xEF) (nat_eq b 0xBB) (nat_eq c 0xBF) (eqb-true a 0xEF) (eqb-true b 0xBB) (eqb-true c 0xBF) (no_mark bs)) refl
