-- Lists of a node's parts, and halves of them.
use Rattle.std.proofs.Common.{ℕ, zero, suc, ◌+◌, ◌<◌, ◌≤◌, ◌≡◌, List, [], ◌∷◌, length, take, drop, refl, ap, ◌∙◌, arith, length-take, length-drop}
use Rattle.std.proofs.Common.{true, false, cond}
use Rattle.std.specs.Prelude.{filter}
use Rattle.std.specs.List.{insert}
use Rattle.std.proofs.lemmas.List.Edits.{length-insert}
use Rattle.rv_value.proofs.Lists.{filter_length}
use Rattle.rv_value.specs.declared.record.IndexEntry.{IndexEntry}
use Rattle.rv_reader.specs.Entries.{comes_before}
use Rattle.rv_node.specs.Nodes.{AreParts, IsNode}
use Rattle.rv_node.specs.Trees.{placed, differs}

take_none : (n : ℕ) (cs : List ℕ) → cs ≡ [] → take n cs ≡ []
take_none zero cs e = refl
take_none (suc n) [] e = refl
take_none (suc n) (c ∷ cs) e = cc

drop_none : (n : ℕ) (cs : List ℕ) → cs ≡ [] → drop n cs ≡ []
drop_none zero cs e = e
drop_none (suc n) [] e = refl
drop_none (suc n) (c ∷ cs) e = cc

pub left_node : (level : ℕ) (es left_es : List IndexEntry) (cs left_cs : List ℕ) → AreParts level es cs → 32 < length es → left_es ≡ take 16 es → left_cs ≡ take 16 cs → IsNode level left_es left_cs
left_node level es left_es cs left_cs parts big e c =
    let a = ap length e ∙ length-take 16 es in
    let b = ap length c ∙ length-take 16 cs in
    record {
      short = omega arith;
      parts = record {
        leaf = λ z. c ∙ take_none 16 cs (parts.leaf z);
        beside = λ pos. let same = parts.beside pos in omega arith;
        some = λ pos. omega arith;
      };
    }

pub right_node : (level : ℕ) (es right_es : List IndexEntry) (cs right_cs : List ℕ) → AreParts level es cs → 32 < length es → length es ≤ 33 → right_es ≡ drop 16 es → right_cs ≡ drop 16 cs → IsNode level right_es right_cs
right_node level es right_es cs right_cs parts big most e c =
    let a = ap length e ∙ length-drop 16 es in
    let b = ap length c ∙ length-drop 16 cs in
    record {
      short = omega arith;
      parts = record {
        leaf = λ z. c ∙ drop_none 16 cs (parts.leaf z);
        beside = λ pos. let same = parts.beside pos in omega arith;
        some = λ pos. omega arith;
      };
    }

length-placed : (e : IndexEntry) (es : List IndexEntry) → length (placed comes_before e es) ≡ length es + 1
length-placed e [] = refl
length-placed e (x ∷ xs) = let more = length-placed e xs in elim (comes_before x e) as (λ b. length (cond b (x ∷ placed comes_before e xs) (e ∷ x ∷ xs)) ≡ length (x ∷ xs) + 1) [ true ↦ omega arith | false ↦ omega arith ]

pub few_placed : (e : IndexEntry) (es out : List IndexEntry) → out ≡ placed comes_before e es → length es ≤ 32 → length out ≤ 33
few_placed e es out o short = let long = ap length o ∙ length-placed e es in omega arith

pub short_without : (e : IndexEntry) (es out : List IndexEntry) → out ≡ filter (differs comes_before e) es → length es ≤ 32 → length out ≤ 32
short_without e es out o short = let fewer = filter_length (differs comes_before e) es in let long = ap length o in omega arith

pub leaf_node : (es : List IndexEntry) (cs : List ℕ) → length es ≤ 32 → cs ≡ [] → IsNode 0 es cs
leaf_node es cs short none = record { short = short; parts = record { leaf = λ z. none; beside = λ pos. absurd (omega arith); some = λ pos. absurd (omega arith) } }

-- a node with one more child
pub more_parts : (level at : ℕ) (cut : IndexEntry) (right : ℕ) (lows lows' : List IndexEntry) (ids ids' : List ℕ) → 0 < level → lows' ≡ insert lows at cut → ids' ≡ insert ids at right → length lows ≡ length ids → at ≤ length lows → AreParts level lows' ids'
more_parts level at cut right lows lows' ids ids' pos l i same within =
    let a = ap length l ∙ length-insert lows at cut within in
    let b = ap length i ∙ length-insert ids at right (omega arith) in
    record { leaf = λ z. absurd (omega arith); beside = λ p. omega arith; some = λ p. omega arith }
