use Rattle.std.proofs.Common.{ℕ, suc, ◌-◌, ◌≡◌, sym, arith, length, subst, Some, None}
use Rattle.std.proofs.Common.{◌<◌, ◌≤◌, Option}
use Rattle.rv_node.specs.Nodes.{Parts}
use Rattle.rv_value.specs.declared.record.IndexEntry.{IndexEntry}
use Rattle.rv_reader.specs.Entries.{comes_before}
use Rattle.rv_node.specs.Trees.{up_to, grow}
use Rattle.rv_node.specs.Descent.{child_in}
use Rattle.rv_node.specs.Ranks.{IsRanked, any}
use Rattle.rv_node.specs.Stored.{kid_lows, kid_ids}
use Rattle.rv_node.proofs.Ranking.{ranked_kid, ranked_leaf, ranked_lows}
use Rattle.rv_index.specs.Index.{nodes_at, IsOwn}
use Rattle.std.specs.List.{insert}
use Rattle.std.proofs.lemmas.Result.{IfOk-weaker}
use Rattle.rv_index.specs.Steps.{behind_child, IsGrown, IsStoredIn}
use Rattle.rv_index.proofs.Places.{behind_ids, behind_lows, behind_within}
use Rattle.rv_index.proofs.Growing.{own_there, own_kid, node_stays, grown_none, grown_over, grown_leaf}
use Rattle.rv_index.proofs.tree.Tree.+grow.Goals as goal

pub grow_leaf-requires-clause-there : goal.grow_leaf-requires-clause-there
grow_leaf-requires-clause-there t c = own_there (length c.args.self.now) c.args.level c.args.id (nodes_at c.args.self.now c.args.commit) c.requires.own

pub grow_leaf-requires-clause-ascend : goal.grow_leaf-requires-clause-ascend
grow_leaf-requires-clause-ascend t c = (ranked_leaf (nodes_at c.args.self.now c.args.commit) any c.args.level c.args.id (omega arith) c.requires.ranked).ascend

pub returns-then-level-eq0-clause-ok : goal.returns-then-level-eq0-clause-ok
returns-then-level-eq0-clause-ok t c =
    let len = length c.args.self.now in let len' = length c.grow_leaf.new.self in
    let at = nodes_at c.args.self.now c.args.commit in let at' = nodes_at c.grow_leaf.new.self c.args.commit in
    let zero = c.if-level-eq0.true in
    let own = subst (λ v. IsOwn len v c.args.id at) zero c.requires.own in
    IfOk-weaker c.grow_leaf.result _ (λ r. IsGrown len len' c.args.level c.args.id (grow c.args.level comes_before c.args.entry) r at at')
    (λ r s. subst (λ v. IsGrown len len' v c.args.id (grow v comes_before c.args.entry) r at at') (sym zero) (grown_leaf c.args.entry len len' c.args.id at at' r own s))
    c.grow_leaf.ensures.ok

pub kid-kid-requires-clause-ascend : goal.kid-kid-requires-clause-ascend
kid-kid-requires-clause-ascend t c = (ranked_lows (nodes_at c.args.self.now c.args.commit) any c.args.level c.args.id (omega arith) c.requires.ranked).ascend

pub grow-requires : goal.grow-requires
grow-requires t c =
    let len = length c.args.self.now in let at = nodes_at c.args.self.now c.args.commit in
    let up : c.args.level ≡ suc (c.args.level - 1) = omega arith in
    let own = subst (λ v. IsOwn len v c.args.id at) up c.requires.own in
    (omega (arith, c.decreases), (subst (λ k. IsOwn len (c.args.level - 1) k at) (sym c.kid-kid.ensures.kid) (own_kid c.args.entry len (c.args.level - 1) c.args.id at own), (c.requires.newest, subst (λ k. IsRanked at any (c.args.level - 1) k) (sym c.kid-kid.ensures.kid) (ranked_kid at any (up_to comes_before c.args.entry) c.args.level (c.args.level - 1) c.args.id None (omega arith) c.requires.own.stored c.requires.ranked))))

pub grow_kids-requires-clause-there : goal.grow_kids-requires-clause-there
grow_kids-requires-clause-there t c =
    let there = own_there (length c.args.self.now) c.args.level c.args.id (nodes_at c.args.self.now c.args.commit) c.requires.own in
    let grows = c.in_ok-grow.ensures.ok.grows in omega arith

-- the node above stays, for one that was cut
stays : (e : IndexEntry) (len len' level down id kid : ℕ) (at at' : ℕ → Parts) (r : Option (IndexEntry × ℕ)) → level ≡ suc down → IsOwn len level id at → kid ≡ (child_in (up_to comes_before e) (at id).entries (at id).children None).0 → IsGrown len len' down kid (grow down comes_before e) r at at'
    → (length (at' id).entries ≡ length (at' id).children) × (0 < length (at' id).children) × (length (at' id).entries ≤ 32)
stays e len len' level down id kid at at' r up own k grown =
    let own' = subst (λ v. IsOwn len v id at) up own in
    let same = node_stays e len len' down id at at' r own' (subst (λ x. IsGrown len len' down x (grow down comes_before e) r at at') k grown) in
    rw same (own'.stored.1, own'.stored.2, own'.stored.3)

-- and the place behind its child is in it
place_there : (e : IndexEntry) (len len' level down id kid behind : ℕ) (at at' : ℕ → Parts) (r : Option (IndexEntry × ℕ)) → level ≡ suc down → IsOwn len level id at → kid ≡ (child_in (up_to comes_before e) (at id).entries (at id).children None).0 → behind ≡ behind_child e (at id).entries
    → IsGrown len len' down kid (grow down comes_before e) r at at' → behind ≤ length (at' id).entries
place_there e len len' level down id kid behind at at' r up own k b grown =
    let own' = subst (λ v. IsOwn len v id at) up own in
    let same = node_stays e len len' down id at at' r own' (subst (λ x. IsGrown len len' down x (grow down comes_before e) r at at') k grown) in
    let beside = own'.stored.1 in let some = own'.stored.2 in
    rw (same, b) (behind_within e (at id).entries (omega arith))

pub grow_kids-requires-clause-same : goal.grow_kids-requires-clause-same
grow_kids-requires-clause-same t c =
    (stays c.args.entry (length c.args.self.now) (length c.grow.new.self) c.args.level (c.args.level - 1) c.args.id c.kid-kid.result.0 (nodes_at c.args.self.now c.args.commit) (nodes_at c.grow.new.self c.args.commit) c.in_ok-grow.field-0
    (omega arith) c.requires.own c.kid-kid.ensures.kid c.in_ok-grow.ensures.ok).0

pub grow_kids-requires-clause-within : goal.grow_kids-requires-clause-within
grow_kids-requires-clause-within t c =
    place_there c.args.entry (length c.args.self.now) (length c.grow.new.self) c.args.level (c.args.level - 1) c.args.id c.kid-kid.result.0 c.kid-kid.result.1 (nodes_at c.args.self.now c.args.commit) (nodes_at c.grow.new.self c.args.commit) c.in_ok-grow.field-0
    (omega arith) c.requires.own c.kid-kid.ensures.kid c.kid-kid.ensures.place c.in_ok-grow.ensures.ok

pub grow_kids-requires-clause-short : goal.grow_kids-requires-clause-short
grow_kids-requires-clause-short t c =
    (stays c.args.entry (length c.args.self.now) (length c.grow.new.self) c.args.level (c.args.level - 1) c.args.id c.kid-kid.result.0 (nodes_at c.args.self.now c.args.commit) (nodes_at c.grow.new.self c.args.commit) c.in_ok-grow.field-0
    (omega arith) c.requires.own c.kid-kid.ensures.kid c.in_ok-grow.ensures.ok).2

none_case : (e : IndexEntry) (len len' level down id kid : ℕ) (at at' : ℕ → Parts) (r : Option (IndexEntry × ℕ)) → level ≡ suc down → IsOwn len level id at → kid ≡ (child_in (up_to comes_before e) (at id).entries (at id).children None).0 → r ≡ None → IsGrown len len' down kid (grow down comes_before e) r at at'
    → IsGrown len len' level id (grow level comes_before e) None at at'
none_case e len len' level down id kid at at' r up own k n grown =
    let own' = subst (λ v. IsOwn len v id at) up own in
    let grown' = subst (λ x. IsGrown len len' down x (grow down comes_before e) r at at') k grown in
    subst (λ v. IsGrown len len' v id (grow v comes_before e) None at at') (sym up) (grown_none e len len' down id at at' own' (subst (λ q. IsGrown len len' down (child_in (up_to comes_before e) (at id).entries (at id).children None).0 (grow down comes_before e) q at at') n grown'))

pub returns-in-None-clause-ok : goal.returns-in-None-clause-ok
returns-in-None-clause-ok t c =
    none_case c.args.entry (length c.args.self.now) (length c.grow.new.self) c.args.level (c.args.level - 1) c.args.id c.kid-kid.result.0 (nodes_at c.args.self.now c.args.commit) (nodes_at c.grow.new.self c.args.commit) c.in_ok-grow.field-0
    (omega arith) c.requires.own c.kid-kid.ensures.kid c.in-None.is c.in_ok-grow.ensures.ok

some_case : (e cut : IndexEntry) (right len len1 len2 level down id kid behind : ℕ) (at at' at2 : ℕ → Parts) (r0 r : Option (IndexEntry × ℕ)) → level ≡ suc down → IsOwn len level id at → kid ≡ (child_in (up_to comes_before e) (at id).entries (at id).children None).0 → behind ≡ behind_child e (at id).entries → r0 ≡ Some (cut, right)
    → IsGrown len len1 down kid (grow down comes_before e) r0 at at' → IsStoredIn len1 len2 level id (insert (at' id).entries behind cut) (insert (at' id).children behind right) r at' at2 → IsGrown len len2 level id (grow level comes_before e) r at at2
some_case e cut right len len1 len2 level down id kid behind at at' at2 r0 r up own k b n grown s =
    let own' = subst (λ v. IsOwn len v id at) up own in
    let grown' = subst (λ x. IsGrown len len1 down x (grow down comes_before e) r0 at at') k grown in
    let grown'' = subst (λ q. IsGrown len len1 down (child_in (up_to comes_before e) (at id).entries (at id).children None).0 (grow down comes_before e) q at at') n grown' in
    let node = node_stays e len len1 down id at at' (Some (cut, right)) own' grown'' in
    let beside = own'.stored.1 in let some = own'.stored.2 in
    let lows : insert (at' id).entries behind cut ≡ kid_lows e (Some (cut, right)) (at' id).entries = rw (node, b) (behind_lows e cut right (at id).entries (at id).children beside some) in
    let ids : insert (at' id).children behind right ≡ kid_ids e (Some (cut, right)) (at' id).entries (at' id).children = rw (node, b) (behind_ids e cut right (at id).entries (at id).children beside some) in
    let in_place = subst (λ ys. IsStoredIn len1 len2 level id (kid_lows e (Some (cut, right)) (at' id).entries) ys r at' at2) ids (subst (λ xs. IsStoredIn len1 len2 level id xs (insert (at' id).children behind right) r at' at2) lows s) in
    subst (λ v. IsGrown len len2 v id (grow v comes_before e) r at at2) (sym up)
    (grown_over e len len1 len2 down id at at' at2 (Some (cut, right)) r own' grown'' (subst (λ v. IsStoredIn len1 len2 v id (kid_lows e (Some (cut, right)) (at' id).entries) (kid_ids e (Some (cut, right)) (at' id).entries (at' id).children) r at' at2) up in_place))

pub returns-in-Some-clause-ok : goal.returns-in-Some-clause-ok
returns-in-Some-clause-ok t c =
    let at = nodes_at c.args.self.now c.args.commit in let at2 = nodes_at c.grow_kids.new.self c.args.commit in
    IfOk-weaker c.grow_kids.result _ (λ r. IsGrown (length c.args.self.now) (length c.grow_kids.new.self) c.args.level c.args.id (grow c.args.level comes_before c.args.entry) r at at2)
    (λ r s. some_case c.args.entry c.in-Some.cut c.in-Some.right (length c.args.self.now) (length c.grow.new.self) (length c.grow_kids.new.self) c.args.level (c.args.level - 1) c.args.id c.kid-kid.result.0 c.kid-kid.result.1 at (nodes_at c.grow.new.self c.args.commit) at2 c.in_ok-grow.field-0 r
    (omega arith) c.requires.own c.kid-kid.ensures.kid c.kid-kid.ensures.place c.in-Some.is c.in_ok-grow.ensures.ok s)
    c.grow_kids.ensures.ok
