-- A step of the estimate down a tree of nodes.
use Rattle.std.proofs.Common.{ℕ, zero, suc, ◌+◌, ◌<◌, ◌≤◌, ◌≡◌, List, [], ◌∷◌, length, map, get_or, refl, ap, sym, ◌∙◌, arith}
use Rattle.std.proofs.lemmas.Bool.{eq-eqb, ne_eqb}
use Rattle.rv_value.specs.declared.record.IndexEntry.{IndexEntry}
use Rattle.rv_value.specs.declared.range.Range.{Range}
use Rattle.rv_reader.specs.Entries.{run}
use Rattle.rv_node.specs.Nodes.{Parts}
use Rattle.rv_node.specs.Children.{first_child, last_child}
use Rattle.rv_node.specs.Stored.{kids_at, tree_at, EachOf, IsStored}
use Rattle.rv_index.specs.Estimates.{estimate_in, estimate_by, in_child, guess, exactly}

lows_of : {T : Type 0} (h : ℕ → T) (lows : List IndexEntry) (ids : List ℕ) → length lows ≡ length ids → map (λ kid. kid.0) (kids_at h lows ids) ≡ lows
lows_of h [] ids same = refl
lows_of h (low ∷ lows) [] same = absurd (omega arith)
lows_of h (low ∷ lows) (id ∷ ids) same = ap (λ xs. low ∷ xs) (lows_of h lows ids (omega arith))

in_kids : {T X : Type 0} (f : T → X) (none : X) (h : ℕ → T) (n : ℕ) (lows : List IndexEntry) (ids : List ℕ) → length lows ≡ length ids → n < length lows → in_child f none n (kids_at h lows ids) ≡ f (h (get_or ids n 0))
in_kids f none h n [] ids same l = absurd (omega arith)
in_kids f none h n (low ∷ lows) [] same l = absurd (omega arith)
in_kids f none h zero (low ∷ lows) (id ∷ ids) same l = refl
in_kids f none h (suc n) (low ∷ lows) (id ∷ ids) same l = in_kids f none h n lows ids (omega arith) (omega arith)

each_at : (P : ℕ → Type 0) (n : ℕ) (ids : List ℕ) → n < length ids → EachOf P ids → P (get_or ids n 0)
each_at P n [] l a = absurd (omega arith)
each_at P zero (id ∷ ids) l a = a.0
each_at P (suc n) (id ∷ ids) l a = each_at P n ids (omega arith) a.1

pub estimate_down : (at : ℕ → Parts) (range : Range) (level down id first : ℕ) → down + 1 ≡ level → IsStored at level id → first ≡ first_child range (at id).entries → first ≡ last_child range (at id).entries → first < length (at id).entries
    → (estimate_in level range (tree_at at level id) ≡ estimate_in down range (tree_at at down (get_or (at id).children first 0))) × IsStored at down (get_or (at id).children first 0)
estimate_down at range zero down id first e s f l within = absurd (omega arith)
estimate_down at range (suc level) down id first e s f l within =
    let same : down ≡ level = omega arith in
    let tests = eq-eqb (first_child range (at id).entries) (last_child range (at id).entries) (sym f ∙ l) in
    rw same (
      ap (λ lows. estimate_by (estimate_in level range) (suc level) range lows (kids_at (tree_at at level) (at id).entries (at id).children)) (lows_of (tree_at at level) (at id).entries (at id).children s.1)
          ∙ rw tests (rw (← f) (in_kids (estimate_in level range) (exactly 0) (tree_at at level) first (at id).entries (at id).children s.1 within)),
      each_at (IsStored at level) first (at id).children (omega (arith, s.1)) s.4,
    )

pub estimate_split : (at : ℕ → Parts) (range : Range) (level id : ℕ) → 0 < level → IsStored at level id → (first_child range (at id).entries ≡ last_child range (at id).entries → ⊥)
    → estimate_in level range (tree_at at level id) ≡ guess level (first_child range (at id).entries) (last_child range (at id).entries)
estimate_split at range zero id pos s apart = absurd (omega arith)
estimate_split at range (suc level) id pos s apart =
    ap (λ lows. estimate_by (estimate_in level range) (suc level) range lows (kids_at (tree_at at level) (at id).entries (at id).children)) (lows_of (tree_at at level) (at id).entries (at id).children s.1)
    ∙ rw (ne_eqb (first_child range (at id).entries) (last_child range (at id).entries) apart) refl

pub estimate_leaf : (at : ℕ → Parts) (range : Range) (level id : ℕ) → level ≤ 0 → estimate_in level range (tree_at at level id) ≡ exactly (length (run (at id).entries range))
estimate_leaf at range zero id l = refl
estimate_leaf at range (suc level) id l = absurd (omega arith)
