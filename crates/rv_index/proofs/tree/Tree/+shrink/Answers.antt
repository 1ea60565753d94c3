use Rattle.std.proofs.Common.{refl, ℕ, suc, ◌-◌, ◌≡◌, sym, arith, length, subst, None}
use Rattle.std.proofs.lemmas.Result.{on_ok_weaker}
use Rattle.rv_node.specs.Nodes.{Parts}
use Rattle.rv_value.specs.declared.record.IndexEntry.{IndexEntry}
use Rattle.rv_reader.specs.Entries.{comes_before}
use Rattle.rv_node.specs.Trees.{up_to}
use Rattle.rv_node.specs.Descent.{child_in}
use Rattle.rv_node.specs.Ranks.{IsRanked, any}
use Rattle.rv_node.proofs.Ranking.{ranked_kid, ranked_lows}
use Rattle.rv_index.specs.Index.{nodes_at, IsOwn}
use Rattle.rv_index.specs.Steps.{leaf_without, IsGrown, IsNodePut, shrunken}
use Rattle.rv_index.proofs.Growing.{own_there, own_kid, shrunk_none, shrunk_leaf}
use Rattle.rv_index.proofs.tree.Tree.+shrink.Goals as goal

pub shrink_leaf-requires-clause-there : goal.shrink_leaf-requires-clause-there
shrink_leaf-requires-clause-there t c = own_there (length c.args.self.now) c.args.level c.args.id (nodes_at c.args.self.now c.args.commit) c.requires.own

leaf_case : (e : IndexEntry) (len len' level id : ℕ) (at at' : ℕ → Parts) → level ≡ 0 → len' ≡ len → IsOwn len level id at → IsNodePut id (leaf_without e (at id)) at at' → IsGrown len len' level id (shrunken level e) None at at'
leaf_case e len len' level id at at' zero same own s =
    let own' = subst (λ v. IsOwn len v id at) zero own in
    let g = shrunk_leaf e len id at at' (leaf_without e (at id)).entries refl own' s in
    subst (λ v. IsGrown len len' v id (shrunken v e) None at at') (sym zero) (subst (λ m. IsGrown len m 0 id (shrunken 0 e) None at at') (sym same) g)

pub returns-then-level-eq0-clause-ok : goal.returns-then-level-eq0-clause-ok
returns-then-level-eq0-clause-ok t c =
    let at = nodes_at c.args.self.now c.args.commit in let at' = nodes_at c.shrink_leaf.new.self c.args.commit in
    on_ok_weaker c.shrink_leaf.result (leaf_case c.args.entry.now (length c.args.self.now) (length c.shrink_leaf.new.self) c.args.level c.args.id at at' c.if-level-eq0.true c.shrink_leaf.ensures.len c.requires.own) c.shrink_leaf.ensures.ok

pub kid-kid-requires-clause-ascend : goal.kid-kid-requires-clause-ascend
kid-kid-requires-clause-ascend t c = (ranked_lows (nodes_at c.args.self.now c.args.commit) any c.args.level c.args.id (omega arith) c.requires.ranked).ascend

pub shrink-requires : goal.shrink-requires
shrink-requires t c =
    let len = length c.args.self.now in let at = nodes_at c.args.self.now c.args.commit in
    let up : c.args.level ≡ suc (c.args.level - 1) = omega arith in
    let own = subst (λ v. IsOwn len v c.args.id at) up c.requires.own in
    (omega (arith, c.decreases), (subst (λ k. IsOwn len (c.args.level - 1) k at) (sym c.kid-kid.ensures.kid) (own_kid c.args.entry.now len (c.args.level - 1) c.args.id at own), (c.requires.newest, subst (λ k. IsRanked at any (c.args.level - 1) k) (sym c.kid-kid.ensures.kid) (ranked_kid at any (up_to comes_before c.args.entry.now) c.args.level (c.args.level - 1) c.args.id None (omega arith) c.requires.own.stored c.requires.ranked))))

kid_case : (e : IndexEntry) (len len' level down id kid : ℕ) (at at' : ℕ → Parts) → level ≡ suc down → IsOwn len level id at → kid ≡ (child_in (up_to comes_before e) (at id).entries (at id).children None).0 → IsGrown len len' down kid (shrunken down e) None at at'
    → IsGrown len len' level id (shrunken level e) None at at'
kid_case e len len' level down id kid at at' up own k grown =
    let own' = subst (λ v. IsOwn len v id at) up own in
    subst (λ v. IsGrown len len' v id (shrunken v e) None at at') (sym up) (shrunk_none e len len' down id at at' own' (subst (λ x. IsGrown len len' down x (shrunken down e) None at at') k grown))

pub returns-clause-ok : goal.returns-clause-ok
returns-clause-ok t c =
    let at = nodes_at c.args.self.now c.args.commit in let at' = nodes_at c.shrink.new.self c.args.commit in
    on_ok_weaker c.shrink.result (kid_case c.args.entry.now (length c.args.self.now) (length c.shrink.new.self) c.args.level (c.args.level - 1) c.args.id c.kid-kid.result.0 at at' (omega arith) c.requires.own c.kid-kid.ensures.kid) c.shrink.ensures.ok
