-- An insertion into a whole tree.
use Rattle.std.proofs.Common.{ℕ, ◌≤◌, ◌≡◌, List, [], ◌∷◌, ◌++◌, length, None, Bool, refl, sym, ◌∙◌, arith, append-nil}
use Rattle.std.specs.Prelude.{flat_map}
use Rattle.std.specs.Cmp.{IsStrictWeakOrder}
use Rattle.rv_node.specs.Trees.{Tree, Whole, entries_in, entries_all, placed, grow, raise, inserted}
use Rattle.rv_node.specs.Sound.{KidsFrom, IsTree, IsWhole, Absent}
use Rattle.rv_node.proofs.Growth.{grown_entries}
use Rattle.rv_node.proofs.Kept.{grown_tree, grown_one}

module _ {E : Type 0} (lt : E → E → Bool) (o : IsStrictWeakOrder lt) (e : E) where
  raise_entries : (level : ℕ) (t : Tree E level) (rs : List (E × Tree E level)) → length rs ≤ 1 → entries_all (raise level t rs) ≡ entries_in level t ++ flat_map (λ q. entries_in level q.1) rs
  raise_entries level t [] one = sym (append-nil (entries_in level t))
  raise_entries level t (r ∷ []) one = refl
  raise_entries level t (r ∷ q ∷ qs) one = absurd (omega arith)

  raise_tree : (level : ℕ) (t : Tree E level) (rs : List (E × Tree E level)) → length rs ≤ 1 → KidsFrom lt (IsTree level lt) None None t rs → IsWhole lt (raise level t rs)
  raise_tree level t [] one k = k
  raise_tree level t (r ∷ []) one k = (k, omega arith)
  raise_tree level t (r ∷ q ∷ qs) one k = absurd (omega arith)

  pub inserted_entries : (w : Whole E) → IsWhole lt w → entries_all (inserted lt e w) ≡ placed lt e (entries_all w)
  inserted_entries w k = raise_entries w.0 (grow w.0 lt e w.1).0 (grow w.0 lt e w.1).1 (grown_one lt o w.0 e w.1) ∙ grown_entries lt o e w.0 None None w.1 k

  pub inserted_whole : (w : Whole E) → IsWhole lt w → Absent lt e (entries_all w) → IsWhole lt (inserted lt e w)
  inserted_whole w k n = raise_tree w.0 (grow w.0 lt e w.1).0 (grow w.0 lt e w.1).1 (grown_one lt o w.0 e w.1) (grown_tree lt o w.0 e None None w.1 k tt tt n)
